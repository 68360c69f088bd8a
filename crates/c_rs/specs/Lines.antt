-- What a line does to RS and its store.
use Rattle.std.specs.Prelude.{◌⊎◌, ℕ, cond, List, Option, None, Some, MatchOption}
use Rattle.ds_machine.specs.declared.refusal.Refusal.{Refusal}
use Rattle.ds_machine.specs.declared.refusal.Refusal.TheVariants.{Exists, NotAllowed}
use Rattle.rs_core.specs.State.{RsRecord}
use Rattle.rs_store.specs.ByRs.{is_by_rs}
use Rattle.script_commands.specs.declared.command.ScriptCommand.{ScriptCommand}
use Rattle.script_commands.specs.declared.command.ScriptCommand.TheVariants.{Settings, Store}
use Rattle.script_commands.specs.Command.{CommandTakesMemory}
use Rattle.script_commands.specs.ServiceEvent.{service_event_of}
use Rattle.c_values.specs.declared.answer.Answer.{Answer}
use Rattle.c_values.specs.Answer.{told_bad_line}
use Rattle.c_store.specs.declared.last.Last.TheVariants.{Nothing}
use Rattle.c_store.specs.Called.{Rests, RestsForRoom}
use Rattle.c_store.specs.Calling as lines
use Rattle.c_store.specs.Line.{IsCommandIn, IsBadIn}
use Rattle.c_rs.specs.declared.session.RsSession.{RsSession}
use Rattle.c_rs.specs.Serving.{SessionDoes, RefusesCommand, ServesBy}

-- The refusal of a command once RS is open: it opens RS again, or it is a command of the store whose caller is RS.
abbrev pub refusal_beside_rs : ScriptCommand → Option Refusal
refusal_beside_rs (Settings text) = Some Exists
refusal_beside_rs (Store command) = cond (is_by_rs command) (Some NotAllowed) None
refusal_beside_rs _ = None

-- Whether the command is carried out as a session does it.
abbrev pub PassesOn : ScriptCommand → RsSession → Answer → RsSession → Type 0
PassesOn command old answer new = SessionDoes (lines.CarriesOut command) old answer new

-- Whether a command that isn't an event is carried out so, once RS is open.
abbrev pub CarriesOutBesideRs : ScriptCommand → RsSession → Answer → RsSession → Type 0
CarriesOutBesideRs command old answer new =
    MatchOption (refusal_beside_rs command) (PassesOn command old answer new) (λ refusal. RefusesCommand refusal old answer new)

-- Whether a command, which may be an event, is carried out so, once RS is open.
abbrev pub CarriesOutWithRs : ScriptCommand → RsSession → Answer → RsSession → Type 0
CarriesOutWithRs command old answer new =
    MatchOption (service_event_of command) (CarriesOutBesideRs command old answer new) (λ event. ServesBy event.0 event.1 old answer new)

-- Whether the command is carried out.
abbrev pub CarriesOutIf : Option RsRecord → ScriptCommand → RsSession → Answer → RsSession → Type 0
CarriesOutIf None command old answer new = PassesOn command old answer new
CarriesOutIf (Some rs) command old answer new = CarriesOutWithRs command old answer new

abbrev pub CarriesOutCommand : ScriptCommand → RsSession → Answer → RsSession → Type 0
CarriesOutCommand command old answer new = CarriesOutIf old.session.node.services command old answer new

-- Whether the bytes are the line of a command, which is carried out.
pub record CarriesOutLine (bytes : List ℕ) (old : RsSession) (answer : Answer) (new : RsSession) : Type 0 where
  pub command : ScriptCommand
  pub stands : IsCommandIn bytes command
  pub carried : CarriesOutCommand command old answer new

-- Whether the bytes aren't a command's line, from the answered place on.
abbrev pub LineIsBad : List ℕ → RsSession → Answer → RsSession → Type 0
LineIsBad bytes old answer new =
    (place : ℕ) × IsBadIn bytes place × SessionDoes (λ s a t. Rests s (told_bad_line place) Nothing a t) old answer new

-- Whether the bytes are the line of a command, and memory for it runs out.
abbrev pub LineTakesMemory : List ℕ → RsSession → Answer → RsSession → Type 0
LineTakesMemory bytes old answer new =
    ((command : ScriptCommand) × IsCommandIn bytes command × CommandTakesMemory command) × SessionDoes RestsForRoom old answer new

-- Whether the bytes are carried out, or rejected by one of these two.
abbrev pub CallsRsLine : List ℕ → RsSession → Answer → RsSession → Type 0
CallsRsLine bytes old answer new =
    CarriesOutLine bytes old answer new ⊎ (LineIsBad bytes old answer new ⊎ LineTakesMemory bytes old answer new)
