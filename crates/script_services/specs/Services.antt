-- The answers to lines for RS: its settings, and its events.
use Rattle.std.specs.Prelude.{◌≡◌, ℕ, true, List, [], ◌∷◌, ◌++◌, length, replicate, Option, Some, None, Result, Ok, Err}
use Rattle.rs_settings.specs.Settings.{SettingsRecord, settings_of}
use Rattle.rs_settings.specs.declared.fault.SettingsFault.{SettingsFault}
use Rattle.rs_core.specs.declared.action.Action.{Action}
use Rattle.rs_core.specs.declared.event.Event as services
use Rattle.rs_core.specs.declared.event.Event.TheVariants.{Up, Stop, Refresh, Restart, Death, Beat, Tick}
use Rattle.rs_core.specs.declared.fault.RsFault.{RsFault}
use Rattle.rs_core.specs.declared.fault.RsFault.TheVariants.{UnknownLabel, OldEndpoint, NoRoom}
use Rattle.rs_core.specs.declared.state.State.TheVariants.{Down}
use Rattle.rs_core.specs.Slots.{new_slots}
use Rattle.rs_core.specs.State.{RsRecord, rs_of}
use Rattle.rs_core.specs.Machine.{asked}
use Rattle.rs_core.specs.Judging.{refusal, asks, has_actions}
use Rattle.rs_core.specs.Step.{RsStep}
use Rattle.ds_held.specs.Limits.{larger}
use Rattle.ds_machine.specs.declared.command.Command.{Command}
use Rattle.ds_machine.specs.declared.reply.Reply.{Reply}
use Rattle.ds_replica.specs.declared.event.Event.{Event}
use Rattle.ds_replica.specs.declared.event.Event.TheVariants.{Ask}
use Rattle.ds_replica.specs.declared.event.Side.{Side}
use Rattle.ds_replica.specs.declared.outcome.Outcome.{Outcome}
use Rattle.ds_replica.specs.declared.outcome.Outcome.TheVariants.{Replied}
use Rattle.ds_world.specs.World.{WorldRecord}
use Rattle.ds_world.specs.Run.{EventLeads}
use Rattle.ds_world.specs.Told.{IsTold}
use Rattle.rs_to_store.specs.Asked.{command_of}
use Rattle.script_answers.specs.Reply.{reply_lines}
use Rattle.script_answers.specs.Actions.{action_line, action_count_line, rs_fault_line}
use Rattle.script_answers.specs.SettingsLines.{settings_line, settings_fault_line, exists_line}
use Rattle.script_answers.specs.declared.wording.Wording.TheVariants.{AsMerge}
use Rattle.script_services.specs.Servers.{Servers, ServersRecord, with_rs}

-- ---- settings

-- The state of RS with settings that were just accepted: every service is down, and the first start has generation 1.
abbrev pub begun_with : SettingsRecord → RsRecord
begun_with settings = rs_of settings (replicate (length settings.services) Down) 0 1 (new_slots 16)

-- The state of RS after a settings text, and the answer: the text's settings are accepted, or its fault is reported.
-- Once settings are accepted, later texts are ignored.
abbrev pub settings_outcome : Option RsRecord → Result SettingsRecord SettingsFault → Option RsRecord × List ℕ
settings_outcome (Some rs) read = (Some rs, exists_line)
settings_outcome None (Ok settings) = (Some (begun_with settings), settings_line (length settings.services) settings.slots)
settings_outcome None (Err fault) = (None, settings_fault_line fault.cause)

abbrev pub AnswersSettings : List ℕ → Servers → List ℕ → Servers → Type 0
AnswersSettings text s out t =
    let done = settings_outcome s.services (settings_of text) in
    (t ≡ with_rs s done.0) × (out ≡ done.1)

-- ---- events

-- The answer before settings are accepted: no service is known, and no tick is remembered.
abbrev pub without_settings : services.Event → Result (List Action) RsFault
without_settings (Up label) = Err UnknownLabel
without_settings (Stop label) = Err UnknownLabel
without_settings (Refresh label) = Err UnknownLabel
without_settings (Restart label) = Err UnknownLabel
without_settings (Death endpoint cause) = Err OldEndpoint
without_settings (Beat endpoint) = Err OldEndpoint
without_settings Tick = Ok []

-- Whether this is RS's answer: the actions of its step, or the first cause against the event. NoRoom comes last, and
-- only for an event that has actions; a refused event changes nothing.
abbrev pub RsAnswers : RsRecord → services.Event → ℕ → Result (List Action) RsFault → RsRecord → Type 0
RsAnswers rs event tick (Ok actions) after = RsStep rs event tick actions after
RsAnswers rs event tick (Err NoRoom) after = (refusal rs event tick ≡ None) × (asks has_actions (asked rs event tick) ≡ true) × (after ≡ rs)
RsAnswers rs event tick (Err fault) after = (refusal rs event tick ≡ Some fault) × (after ≡ rs)

-- Like `RsAnswers`, whether or not RS has begun.
abbrev pub ServicesAnswer : Option RsRecord → services.Event → ℕ → Result (List Action) RsFault → Option RsRecord → Type 0
ServicesAnswer None event tick answer after = (answer ≡ without_settings event) × (after ≡ None)
ServicesAnswer (Some rs) event tick answer after = (new : RsRecord) × RsAnswers rs event tick answer new × (after ≡ Some new)

-- ---- the commands of its actions

-- Whether the store of a side gets a command, and its reply is written: an event of the world.
pub record AsksStore (side : Side) (command : Command) (old : WorldRecord) (out : List ℕ)
    (events : List (Event × Outcome)) (new : WorldRecord) : Type 0 where
  pub reply : Reply
  pub leads : EventLeads (Ask side command) (Replied reply) old new
  pub told : IsTold (Ask side command) (Replied reply) old new
  pub lines : out ≡ reply_lines AsMerge reply larger
  pub event : events ≡ (Ask side command, Replied reply) ∷ []

-- Like `AsksStore`, if there is a command.
abbrev pub AsksIfAny : Side → Option Command → WorldRecord → List ℕ → List (Event × Outcome) → WorldRecord → Type 0
AsksIfAny side None old out events new = (out ≡ []) × (events ≡ []) × (new ≡ old)
AsksIfAny side (Some command) old out events new = AsksStore side command old out events new

-- Whether each action has its line, followed by the store's reply.
abbrev pub AnswersActions : Side → List Action → WorldRecord → List ℕ → List (Event × Outcome) → WorldRecord → Type 0
AnswersActions side [] old out events new = (out ≡ []) × (events ≡ []) × (new ≡ old)
AnswersActions side (action ∷ actions) old out events new =
    (mid : WorldRecord) × (first rest : List ℕ) × (one more : List (Event × Outcome))
    × AsksIfAny side (command_of action) old first one mid × AnswersActions side actions mid rest more new
    × (out ≡ action_line action ++ (first ++ rest)) × (events ≡ one ++ more)

-- Whether a step of RS is answered: by the actions' lines, with the store's replies, and then the number of actions,
-- which doesn't count the replies; or by RS's refusal.
abbrev pub TellsActions : Side → Result (List Action) RsFault → WorldRecord → List ℕ → List (Event × Outcome) → WorldRecord → Type 0
TellsActions side (Ok actions) old out events new =
    (lines : List ℕ) × AnswersActions side actions old lines events new × (out ≡ lines ++ action_count_line (length actions))
TellsActions side (Err fault) old out events new = (out ≡ rs_fault_line fault) × (events ≡ []) × (new ≡ old)

-- Whether RS gets an event at a tick, and its label changes and sweeps go to the store of the side; the tables are
-- unchanged.
pub record AnswersService (event : services.Event) (tick : ℕ) (side : Side) (old : ServersRecord) (from : WorldRecord)
    (out : List ℕ) (new : ServersRecord) (to : WorldRecord) : Type 0 where
  pub answer : Result (List Action) RsFault
  pub events : List (Event × Outcome)
  pub answers : ServicesAnswer old.services event tick answer new.services
  pub tells : TellsActions side answer from out events to
  pub file : new.file ≡ old.file
  pub net : new.net ≡ old.net
