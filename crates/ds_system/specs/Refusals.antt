-- Which events a system refuses, and why, each by the first cause against it.
use Rattle.std.specs.Prelude.{◌≡◌, ℕ, ◌≤◌, true, List, length, Some, None, Result, Err, IsOk}
use Rattle.std.specs.List.{slice_get}
use Rattle.ds_entry.specs.Change.{ChangeRecord, BodyCopyTakesMemory}
use Rattle.ds_entry.specs.declared.body.Body.TheVariants as bodies
use Rattle.rs_core.specs.declared.fault.RsFault.{RsFault}
use Rattle.rs_core.specs.declared.fault.RsFault.TheVariants as faults
use Rattle.rs_core.specs.declared.event.Event as services
use Rattle.rs_core.specs.Judging.{refusal, asks, has_actions}
use Rattle.rs_core.specs.Machine.{asked}
use Rattle.rs_core.specs.State.{RsRecord}
use Rattle.ds_system.specs.declared.event.SystemEvent.{SystemEvent}
use Rattle.ds_system.specs.declared.event.SystemEvent.TheVariants.{Service, Put, Remove, Again, World}
use Rattle.ds_system.specs.declared.outcome.SystemFault.{SystemFault}
use Rattle.ds_system.specs.declared.outcome.SystemFault.TheVariants as refusals
use Rattle.ds_system.specs.System.{System}
use Rattle.ds_system.specs.Drawing.{Instance, judged}
use Rattle.ds_system.specs.Steps.{is_barred}

-- Whether this is RS's own refusal; or out of memory, if RS has none and the event has actions.
abbrev pub IsServiceFault : RsRecord → services.Event → ℕ → RsFault → Type 0
IsServiceFault rs event tick faults.NoRoom = (refusal rs event tick ≡ None) × (asks has_actions (asked rs event tick) ≡ true)
IsServiceFault rs event tick fault = refusal rs event tick ≡ Some fault

-- Whether this is the first cause against a service's change; or out of memory, if there is none.
abbrev pub IsWriteFault : Result Instance SystemFault → SystemFault → Type 0
IsWriteFault judgement refusals.NoRoom = IsOk judgement
IsWriteFault judgement fault = judgement ≡ Err fault

-- Whether the made change of this number puts a text or a blob that isn't empty, whose copy takes memory.
pub record CopyTakesMemory (made : List ChangeRecord) (k : ℕ) : Type 0 where
  pub change : ChangeRecord
  pub there : slice_get made k ≡ Some change
  pub takes : BodyCopyTakesMemory change.body

-- Whether the event is refused by this fault. No other fault refuses an event, and nothing refuses a Follow, a Submit
-- or an Answered as a whole.
abbrev pub IsSystemRefused : System → SystemEvent → SystemFault → Type 0
IsSystemRefused s (Service event tick side) (refusals.Service fault) = IsServiceFault s.rs event tick fault
IsSystemRefused s (Put label key value side) fault = IsWriteFault (judged s.rs s.numberers label key (bodies.Put value)) fault
IsSystemRefused s (Remove label key side) fault = IsWriteFault (judged s.rs s.numberers label key bodies.Gone) fault
IsSystemRefused s (Again k side) refusals.NoMessage = length s.made ≤ k
IsSystemRefused s (Again k side) refusals.NoRoom = CopyTakesMemory s.made k
IsSystemRefused s (World event) refusals.NotAllowed = is_barred event ≡ true
IsSystemRefused s event fault = ⊥
