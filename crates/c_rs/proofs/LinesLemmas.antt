-- A command once RS is open.
use Rattle.std.proofs.Common.{inl, Bor, refl, sym, ap, ◌∙◌}
use Rattle.std.specs.Option.{option_copied}
use Rattle.std.specs.Prelude.{◌≡◌, ℕ, Bool, false, not, List, Option, Some, None, is_some}
use Rattle.rs_core.specs.State.{RsRecord}
use Rattle.script_commands.specs.declared.command.ScriptCommand.{ScriptCommand}
use Rattle.c_values.specs.declared.answer.Answer.{Answer}
use Rattle.c_rs.specs.declared.session.RsSession.{RsSession}
use Rattle.ds_names.specs.Endpoint.{EndpointRecord}
use Rattle.ds_names.specs.declared.key.Key.{Key}
use Rattle.ds_machine.specs.declared.command.Command.TheVariants.{Retrieve, NameOf}
use Rattle.script_commands.specs.declared.command.ScriptCommand.TheVariants.{Store}
use Rattle.c_store.specs.Line.{IsCommandIn}
use Rattle.c_rs.specs.Lines.{CallsRsLine, CarriesOutCommand, CarriesOutIf, CarriesOutWithRs, PassesOn}

-- a lent option is one exactly if the option is
pub lent_some : {X : Type 0} (o : Option (Bor X)) (services : Option X) → option_copied o ≡ services → is_some services ≡ is_some o
lent_some o services is = sym (ap is_some is) ∙ copied o
  where
    copied : {X : Type 0} (o : Option (Bor X)) → is_some (option_copied o) ≡ is_some o
    copied None = refl
    copied (Some x) = refl

some_stands : (none : Bool) → false ≡ not none → none ≡ false → ⊥
some_stands none e f = cc

pub with_rs : (services : Option RsRecord) (none : Bool) (command : ScriptCommand) (old : RsSession) (answer : Answer) (new : RsSession)
    → is_some services ≡ not none → none ≡ false → CarriesOutWithRs command old answer new → CarriesOutIf services command old answer new
with_rs None none command old answer new e f carried = absurd (some_stands none e f)
with_rs (Some rs) none command old answer new e f carried = carried

pub carried_line : (bytes : List ℕ) (command : ScriptCommand) (old : RsSession) (answer : Answer) (new : RsSession) →
    IsCommandIn bytes command
    → CarriesOutCommand command old answer new → CallsRsLine bytes old answer new
carried_line bytes command old answer new stands carried = inl (record { command = command; stands = stands; carried = carried })

-- RS stands in the way of neither a Retrieve nor a NameOf

pub passes_retrieve : (services : Option RsRecord) (key : Key) (old : RsSession) (answer : Answer) (new : RsSession)
    → PassesOn (Store (Retrieve key)) old answer new → CarriesOutIf services (Store (Retrieve key)) old answer new
passes_retrieve None key old answer new passed = passed
passes_retrieve (Some rs) key old answer new passed = passed

pub passes_name : (services : Option RsRecord) (endpoint : EndpointRecord) (old : RsSession) (answer : Answer) (new : RsSession)
    → PassesOn (Store (NameOf endpoint)) old answer new → CarriesOutIf services (Store (NameOf endpoint)) old answer new
passes_name None endpoint old answer new passed = passed
passes_name (Some rs) endpoint old answer new passed = passed
