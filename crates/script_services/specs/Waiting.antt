-- What a line appends to the answers in the buffer.
use Rattle.std.specs.Prelude.{◌≡◌, ℕ, ◌⊎◌, List, ◌++◌, Option, None, Result, Ok, Err, IsOk}
use Rattle.rs_settings.specs.Settings.{MayTakeMemory, settings_of}
use Rattle.rs_core.specs.State.{RsRecord}
use Rattle.rs_core.specs.declared.action.Action.{Action}
use Rattle.rs_core.specs.declared.event.Event as services
use Rattle.rs_core.specs.declared.fault.RsFault.{RsFault}
use Rattle.ds_machine.specs.declared.command.Command.{Command}
use Rattle.ds_replica.specs.declared.event.Event.{Event}
use Rattle.ds_replica.specs.declared.event.Side.{Side}
use Rattle.ds_replica.specs.declared.outcome.Outcome.{Outcome}
use Rattle.ds_world.specs.World.{WorldRecord}
use Rattle.script_answers.specs.Reply.{refused_noroom}
use Rattle.script_services.specs.Servers.{Servers, ServersRecord, ServersLead}
pub use Rattle.script_answers.specs.Appending.{AppendsSome}
use Rattle.script_services.specs.Services.{AsksIfAny, AnswersActions, AnswersSettings, ServicesAnswer, TellsActions, AnswersService}

-- Whether an answer `out` is appended, with which R leads from the old servers to the new.
abbrev pub AppendsLed : (Servers → List ℕ → Servers → Type 0) → (before after : List ℕ) → (old new : ServersRecord) → Type 0
AppendsLed R before after old new = (out : List ℕ) × (after ≡ before ++ out) × ServersLead (λ s t. R s out t) old new

-- Whether an answer leads from the old servers to the new, though none of it was appended.
abbrev pub LeadsUnanswered : (Servers → List ℕ → Servers → Type 0) → (old new : ServersRecord) → Type 0
LeadsUnanswered R old new = (out : List ℕ) × ServersLead (λ s t. R s out t) old new

-- Whether a settings text may take memory: before it is judged, or for the settings that it has.
abbrev pub TextMayTakeMemory : List ℕ → Type 0
TextMayTakeMemory text = MayTakeMemory text ⊎ IsOk (settings_of text)

-- Whether accepting a settings text may take memory: RS has no settings yet, and the text may.
abbrev pub AcceptingTakesMemory : Option RsRecord → List ℕ → Type 0
AcceptingTakesMemory services text = (services ≡ None) × TextMayTakeMemory text

-- Whether memory ran out for a first settings text, so that the line is refused and nothing changes.
pub record AreServersRefused (text : List ℕ) (old : ServersRecord) (out : List ℕ) (new : ServersRecord) : Type 0 where
  pub none : old.services ≡ None
  pub takes : TextMayTakeMemory text
  pub kept : new ≡ old
  pub told : out ≡ refused_noroom

-- Whether the answer to a settings text is appended; or `refused noroom`, and nothing changes.
abbrev pub AppendsLedOrRefuses : List ℕ → (before after : List ℕ) → (old new : ServersRecord) → Type 0
AppendsLedOrRefuses text before after old new =
    (out : List ℕ) ×
    (after ≡ before ++ out) × (ServersLead (λ s t. AnswersSettings text s out t) old new ⊎ AreServersRefused text old out new)

-- Whether RS's answer to an event is appended.
abbrev pub AppendsService : services.Event → ℕ → Side → (before after : List ℕ) → (old : ServersRecord) → (from : WorldRecord) →
    (new : ServersRecord) → (to : WorldRecord) → Type 0
AppendsService event tick side before after old from new to =
    (out : List ℕ) × (after ≡ before ++ out) × AnswersService event tick side old from out new to

-- Whether the answers to RS's actions are appended, or RS's refusal.
abbrev pub AppendsTold : Side → Result (List Action) RsFault → (before after : List ℕ) → (old new : WorldRecord) → Type 0
AppendsTold side answer before after old new =
    (out : List ℕ) × (events : List (Event × Outcome)) × (after ≡ before ++ out) × TellsActions side answer old out events new

-- Whether the commands of the first actions went to the store; none did if RS refused.
abbrev pub BeginsTelling : Side → Result (List Action) RsFault → (old new : WorldRecord) → Type 0
BeginsTelling side (Ok actions) old new =
    (first rest : List Action) × (out : List ℕ) × (events : List (Event × Outcome)) ×
    (actions ≡ first ++ rest) × AnswersActions side first old out events new
BeginsTelling side (Err fault) old new = new ≡ old

-- Whether the command went to the store, if there is one.
abbrev pub AsksOnly : Side → Option Command → (old new : WorldRecord) → Type 0
AsksOnly side command old new = (out : List ℕ) × (events : List (Event × Outcome)) × AsksIfAny side command old out events new

-- Whether the store's reply is appended, if there is a command.
abbrev pub AppendsAsked : Side → Option Command → (before after : List ℕ) → (old new : WorldRecord) → Type 0
AppendsAsked side command before after old new =
    (out : List ℕ) × (events : List (Event × Outcome)) × (after ≡ before ++ out) × AsksIfAny side command old out events new

-- Whether RS took the event, though its answer isn't appended, and the commands of its first actions went to the store.
pub record BeginsService (event : services.Event) (tick : ℕ) (side : Side) (old : ServersRecord)
    (from : WorldRecord) (new : ServersRecord) (to : WorldRecord) : Type 0 where
  pub answer : Result (List Action) RsFault
  pub answers : ServicesAnswer old.services event tick answer new.services
  pub begins : BeginsTelling side answer from to
  pub file : new.file ≡ old.file
  pub net : new.net ≡ old.net
