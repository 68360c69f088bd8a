-- The turns of RS and its store: a client's command, a beginning, an event.
use Rattle.std.specs.Prelude.{◌≡◌, ◌≢◌, ℕ, Bool, true, false, List, [], ◌∷◌, length, replicate, Option, Some, None}
use Rattle.ds_content.specs.Content.{ContentRecord}
use Rattle.ds_machine.specs.declared.command.Command.{Command}
use Rattle.ds_machine.specs.declared.reply.Reply.{Reply}
use Rattle.rs_to_store.specs.Asked.{command_of}
use Rattle.ds_store.specs.Turns.{Turn}
use Rattle.rs_settings.specs.Settings.{SettingsRecord}
use Rattle.rs_core.specs.declared.action.Action.{Action}
use Rattle.rs_core.specs.declared.event.Event.{Event}
use Rattle.rs_core.specs.declared.event.Event.TheVariants.{Up, Stop, Refresh, Restart, Death, Beat, Tick}
use Rattle.rs_core.specs.declared.fault.NewFault.TheVariants as new_faults
use Rattle.rs_core.specs.declared.fault.RsFault.{RsFault}
use Rattle.rs_core.specs.declared.fault.RsFault.TheVariants.{UnknownLabel, OldEndpoint, NoRoom}
use Rattle.rs_core.specs.declared.state.State.TheVariants.{Down}
use Rattle.rs_core.specs.Slots.{new_slots}
use Rattle.rs_core.specs.State.{RsRecord, rs_of}
use Rattle.rs_core.specs.Kept.{IsOutOfRange}
use Rattle.rs_core.specs.Machine.{asked}
use Rattle.rs_core.specs.Judging.{refusal, asks, has_actions}
use Rattle.rs_core.specs.Reading.{given_up}
use Rattle.rs_core.specs.Step.{RsStep}
use Rattle.rs_store.specs.ByRs.{is_by_rs}
use Rattle.rs_store.specs.declared.call.RsReply.{RsReply}
use Rattle.rs_store.specs.declared.call.RsReply.TheVariants.{Replied, NotAllowed, Begun, Exists, NotBegun, Acted, Refused}

-- ---- a client's command

-- Whether a client may not send the command: RS has begun, and is the command's caller.
abbrev pub passes_for_rs : Option RsRecord → Command → Bool
passes_for_rs None command = false
passes_for_rs (Some rs) command = is_by_rs command

-- The store takes a turn; or the command is refused, and the store is unchanged.
abbrev pub ClientTurn : Option RsRecord → ContentRecord → Command → RsReply → ContentRecord → Type 0
ClientTurn services old command (Replied reply) new = (passes_for_rs services command ≡ false) × Turn old command reply new
ClientTurn services old command NotAllowed new = (passes_for_rs services command ≡ true) × (new ≡ old)
ClientTurn services old command _ new = ⊥

-- ---- a beginning

-- The state of RS just after it begins: every service is down, the first start gets the generation `next`, and its slots
-- begin at `first`.
abbrev pub begun_from : SettingsRecord → ℕ → ℕ → RsRecord
begun_from settings next first = rs_of settings (replicate (length settings.services) Down) 0 next (new_slots first)

-- Whether RS begins, or doesn't because a number is out of range, or memory runs out for settings with a service.
abbrev pub BeginsFirst : SettingsRecord → ℕ → ℕ → RsReply → Option RsRecord → Type 0
BeginsFirst settings next first (Begun services slots) new =
    (¬ IsOutOfRange settings.slots next first) × (services ≡ length settings.services) × (slots ≡ settings.slots)
    × (new ≡ Some (begun_from settings next first))
BeginsFirst settings next first (NotBegun new_faults.OutOfRange) new = IsOutOfRange settings.slots next first × (new ≡ None)
BeginsFirst settings next first (NotBegun new_faults.NoRoom) new =
    (¬ IsOutOfRange settings.slots next first) × (settings.services ≢ []) × (new ≡ None)
BeginsFirst settings next first _ new = ⊥

-- The effect of a beginning. Once RS has begun, every further one is refused.
abbrev pub BeginTurn : Option RsRecord → SettingsRecord → ℕ → ℕ → RsReply → Option RsRecord → Type 0
BeginTurn None settings next first reply new = BeginsFirst settings next first reply new
BeginTurn (Some rs) settings next first reply new = (reply ≡ Exists) × (new ≡ Some rs)

-- ---- the store's turns for actions

-- The store takes a turn for the command, if there is one, and this is its reply.
abbrev pub TurnFor : ContentRecord → Option Command → Option Reply → ContentRecord → Type 0
TurnFor old None None new = new ≡ old
TurnFor old (Some command) (Some reply) new = Turn old command reply new
TurnFor old None (Some reply) new = ⊥
TurnFor old (Some command) None new = ⊥

-- Like `TurnFor`, for each of the actions in order.
abbrev pub TurnsFor : ContentRecord → List Action → List (Option Reply) → ContentRecord → Type 0
TurnsFor old [] [] new = new ≡ old
TurnsFor old (action ∷ actions) (reply ∷ replies) new =
    (mid : ContentRecord) × TurnFor old (command_of action) reply mid × TurnsFor mid actions replies new
TurnsFor old [] (reply ∷ replies) new = ⊥
TurnsFor old (action ∷ actions) [] new = ⊥

-- ---- an event

-- The reply before RS has begun: no service is known.
abbrev pub before_beginning : Event → RsReply
before_beginning (Up label) = Refused UnknownLabel
before_beginning (Stop label) = Refused UnknownLabel
before_beginning (Refresh label) = Refused UnknownLabel
before_beginning (Restart label) = Refused UnknownLabel
before_beginning (Death endpoint cause) = Refused OldEndpoint
before_beginning (Beat endpoint) = Refused OldEndpoint
before_beginning Tick = Acted [] [] None

-- The first fault against the event; or there is none, the event has actions, and memory runs out.
abbrev pub RsRefuses : RsRecord → Event → ℕ → RsFault → Type 0
RsRefuses rs event tick NoRoom = (refusal rs event tick ≡ None) × (asks has_actions (asked rs event tick) ≡ true)
RsRefuses rs event tick fault = refusal rs event tick ≡ Some fault

-- The effect of an event. RS steps, the store gets the actions, and the reply has the service that RS gave up. If RS
-- refuses the event, nothing changes.
abbrev pub RsServes : Event → ℕ → RsRecord → ContentRecord → RsReply → Option RsRecord → ContentRecord → Type 0
RsServes event tick rs old (Acted actions replies given) after new =
    ((t : RsRecord) × RsStep rs event tick actions t × (after ≡ Some t)) × TurnsFor old actions replies new ×
    (given ≡ given_up rs event tick)
RsServes event tick rs old (Refused fault) after new = RsRefuses rs event tick fault × (after ≡ Some rs) × (new ≡ old)
RsServes event tick rs old _ after new = ⊥

-- The turn of an event, whether or not RS has begun.
abbrev pub EventTurn : Event → ℕ → Option RsRecord → ContentRecord → RsReply → Option RsRecord → ContentRecord → Type 0
EventTurn event tick None old reply after new = (reply ≡ before_beginning event) × (after ≡ None) × (new ≡ old)
EventTurn event tick (Some rs) old reply after new = RsServes event tick rs old reply after new
