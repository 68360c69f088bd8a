-- Calls with events of RS, which keepers bar.
use Rattle.std.specs.Prelude.{◌⊎◌, ℕ, Bool, true, false, List, MatchOption}
use Rattle.ds_machine.specs.declared.refusal.Refusal.TheVariants.{NoRoom, NotAllowed}
use Rattle.script_commands.specs.Command.{CommandTakesMemory}
use Rattle.script_commands.specs.ServiceEvent.{service_event_of}
use Rattle.script_commands.specs.declared.command.ScriptCommand.{ScriptCommand}
use Rattle.c_values.specs.declared.answer.Answer.{Answer}
use Rattle.c_store.specs.Line.{IsCommandIn}
use Rattle.c_rs.specs.declared.event.RsEvent.{RsEvent}
use Rattle.c_rs.specs.declared.session.RsSession.{RsSession}
use Rattle.c_rs.specs.Event.{ServesEvent}
use Rattle.c_rs.specs.Lines.{CallsRsLine, CarriesOutCommand, LineIsBad}
use Rattle.c_rs.specs.Serving.{RefusesCommand}

-- Whether an event is refused, since keepers are open; otherwise it is a session's.
abbrev pub ServesUnlessKept : Bool → RsEvent → RsSession → Answer → RsSession → Type 0
ServesUnlessKept true e old answer new = RefusesCommand NotAllowed old answer new
ServesUnlessKept false e old answer new = ServesEvent e old answer new

-- ---- lines

-- Whether a command is carried out beside keepers. An event of RS is refused.
abbrev pub CarriesOutKept : ScriptCommand → RsSession → Answer → RsSession → Type 0
CarriesOutKept command old answer new =
    MatchOption (service_event_of command) (CarriesOutCommand command old answer new) (λ event. RefusesCommand NotAllowed old answer new)

-- Whether the bytes are the line of a command, which is carried out beside keepers.
pub record CarriesOutKeptLine (bytes : List ℕ) (old : RsSession) (answer : Answer) (new : RsSession) : Type 0 where
  pub command : ScriptCommand
  pub is_line : IsCommandIn bytes command
  pub carried : CarriesOutKept command old answer new

-- Whether the bytes are the line of a command, and memory for it runs out.
abbrev pub KeptLineTakesMemory : List ℕ → RsSession → Answer → RsSession → Type 0
KeptLineTakesMemory bytes old answer new =
    ((command : ScriptCommand) × IsCommandIn bytes command × CommandTakesMemory command) × RefusesCommand NoRoom old answer new

-- Whether the bytes are carried out beside keepers, or rejected.
abbrev pub CallsBesideKeepers : List ℕ → RsSession → Answer → RsSession → Type 0
CallsBesideKeepers bytes old answer new =
    CarriesOutKeptLine bytes old answer new ⊎ (LineIsBad bytes old answer new ⊎ KeptLineTakesMemory bytes old answer new)

-- The effect of a line.
abbrev pub CallsKeptLine : Bool → List ℕ → RsSession → Answer → RsSession → Type 0
CallsKeptLine true bytes old answer new = CallsBesideKeepers bytes old answer new
CallsKeptLine false bytes old answer new = CallsRsLine bytes old answer new
