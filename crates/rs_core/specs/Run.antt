-- Runs of the restart machine, and what holds over each of them.
use Rattle.std.specs.Prelude.{ℕ, ◌+◌, ◌≤◌, List, [], ◌∷◌, Option, Some, None}
use Rattle.std.specs.List.{filter_map, flat_map}
use Rattle.ds_names.specs.Endpoint.{EndpointRecord}
use Rattle.ds_entry.specs.Change.{ChangeRecord}
use Rattle.ds_entry.specs.SingleNumbered.{IsSingleNumbered}
use Rattle.history.specs.History.{Path}
use Rattle.rs_core.specs.declared.action.Action.{Action}
use Rattle.rs_core.specs.declared.action.Action.TheVariants.{Start, Offer}
use Rattle.rs_core.specs.declared.event.Event.{Event}
use Rattle.rs_core.specs.State.{RsRecord}
use Rattle.rs_core.specs.Step.{RsStep}

-- Whether the actions are those of a step at some event and tick.
abbrev pub RsActs : RsRecord → List Action → RsRecord → Type 0
RsActs s actions t = (event : Event) × (tick : ℕ) × RsStep s event tick actions t

-- A run: steps in order, each with its actions.
abbrev pub RsRun : RsRecord → List (List Action) → RsRecord → Type 0
RsRun = Path RsActs

-- The endpoint that the action starts, if it is a start.
abbrev pub start_of : Action → Option EndpointRecord
start_of (Start label endpoint) = Some endpoint
start_of _ = None

-- The endpoints that are started.
abbrev pub starts : List Action → List EndpointRecord
starts = filter_map start_of

-- The change that the action offers, if it is an offer.
abbrev pub offer_of : Action → Option ChangeRecord
offer_of (Offer change) = Some change
offer_of _ = None

-- The label changes that are offered.
abbrev pub offers : List Action → List ChangeRecord
offers = filter_map offer_of

-- Whether each generation is above those before it, none is below `low`, and all are below `high`.
abbrev pub AreRising : ℕ → List EndpointRecord → ℕ → Type 0
AreRising low [] high = low ≤ high
AreRising low (e ∷ es) high = (low ≤ e.generation) × AreRising (e.generation + 1) es high

-- A law: each start's generation is above those of all earlier starts.
abbrev pub StartsRise : Type 0
StartsRise = (s t : RsRecord) (steps : List (List Action)) → RsRun s steps t → AreRising s.next (flat_map starts steps) t.next

-- A law: the label changes of a run are single-numbered; no two of them contradict each other.
abbrev pub LabelsAreSingleNumbered : Type 0
LabelsAreSingleNumbered = (s t : RsRecord) (steps : List (List Action)) → RsRun s steps t → IsSingleNumbered (flat_map offers steps)
