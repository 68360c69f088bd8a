-- The lines of RS's actions.
use Rattle.std.specs.Prelude.{ℕ, List, [], ◌∷◌, codes}
use Rattle.std.specs.Fmt.{decimal}
use Rattle.ds_names.specs.Endpoint.{endpoint_text}
use Rattle.ds_entry.specs.Change.{ChangeRecord}
use Rattle.ds_entry.specs.declared.floor.Floor.{Floor}
use Rattle.ds_line.specs.Part.{part, texts, Word, Name, Number, Endpoint}
use Rattle.ds_line.specs.Spelling.{space, newline, change_parts}
use Rattle.rs_core.specs.declared.action.Action.{Action}
use Rattle.rs_core.specs.declared.action.Action.TheVariants.{Kill, Start, Ping, Offer, Sweep}
use Rattle.rs_core.specs.declared.fault.RsFault.{RsFault}
use Rattle.rs_core.specs.declared.fault.RsFault.TheVariants as faults
use Rattle.script_answers.specs.Refusal.{refusal_line}

-- The line of an offer: `offer`, and the line of the change.
abbrev pub offer_line : ChangeRecord → List ℕ
offer_line change = texts (part Word (codes "offer") ∷ space ∷ change_parts change)

-- The line of a sweep: `sweep`, the owner, and the generation.
abbrev pub sweep_line : Floor → List ℕ
sweep_line floor =
    texts (part Word (codes "sweep") ∷ space ∷ part Name floor.owner ∷ space ∷ part Number (decimal floor.generation) ∷ newline ∷ [])

-- The line of an action.
abbrev pub action_line : Action → List ℕ
action_line (Kill endpoint) = texts (part Word (codes "kill") ∷ space ∷ part Endpoint (endpoint_text endpoint) ∷ newline ∷ [])
action_line (Start label endpoint) =
    texts (part Word (codes "start") ∷ space ∷ part Name label ∷ space ∷ part Endpoint (endpoint_text endpoint) ∷ newline ∷ [])
action_line (Ping endpoint) = texts (part Word (codes "ping") ∷ space ∷ part Endpoint (endpoint_text endpoint) ∷ newline ∷ [])
action_line (Offer change) = offer_line change
action_line (Sweep floor) = sweep_line floor

-- The line with `actions` and their number.
abbrev pub action_count_line : ℕ → List ℕ
action_count_line count = texts (part Word (codes "actions") ∷ space ∷ part Number (decimal count) ∷ newline ∷ [])

-- The word of RS's refusal of an event: its name in lower case.
abbrev pub rs_fault_word : RsFault → List ℕ
rs_fault_word faults.TickBack = codes "tickback"
rs_fault_word faults.Worn = codes "worn"
rs_fault_word faults.UnknownLabel = codes "unknownlabel"
rs_fault_word faults.BadCause = codes "badcause"
rs_fault_word faults.AlreadyUp = codes "alreadyup"
rs_fault_word faults.NotUp = codes "notup"
rs_fault_word faults.OldEndpoint = codes "oldendpoint"
rs_fault_word faults.GenerationsSpent = codes "generationsspent"
rs_fault_word faults.NoSlot = codes "noslot"
rs_fault_word faults.NoRoom = codes "noroom"

-- The line of RS's refusal of an event.
abbrev pub rs_fault_line : RsFault → List ℕ
rs_fault_line fault = refusal_line (rs_fault_word fault)
