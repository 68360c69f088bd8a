-- The judgement of a service's change, in its one order, and the instance whose numbers it draws from.
use Rattle.std.specs.Prelude.{if◌then◌else◌, ℕ, ◌==◌, Bool, not, nat_lt, List, Option, Some, None, Result, Ok, Err, slice_index_or}
use Rattle.ds_names.specs.declared.key.Key.{Key}
use Rattle.ds_entry.specs.Change.{is_of_kind}
use Rattle.ds_entry.specs.declared.body.Body.{Body}
pub use Rattle.rs_settings.specs.Dealing.{is_declared}
use Rattle.rs_core.specs.declared.state.State.{State}
use Rattle.rs_core.specs.declared.state.State.TheVariants.{Down, Up, Waiting, GaveUp}
use Rattle.rs_core.specs.declared.state.Running.{Running}
use Rattle.rs_core.specs.Numbering.{NumbererRecord, numberer}
use Rattle.rs_core.specs.Says.{place_of_label}
use Rattle.rs_core.specs.State.{RsRecord, state_at, service_at}
use Rattle.ds_system.specs.declared.outcome.SystemFault.{SystemFault}
use Rattle.ds_system.specs.declared.outcome.SystemFault.TheVariants.{UnknownLabel, NotDeclared, NotUp, BadKind, SeqSpent}

-- The running instance of the service at an index.
pub record Instance : Type 0 where
  pub place : ℕ
  pub running : Running

-- The numbers of the service at an index.
abbrev pub numberer_at : List NumbererRecord → ℕ → NumbererRecord
numberer_at numberers i = slice_index_or numberers i (numberer 0 0)

-- The numbers of a generation: those left of it, or all, from 0 on, if none of it was drawn.
abbrev pub numbers_of : NumbererRecord → ℕ → NumbererRecord
numbers_of n generation = if n.generation == generation then n else numberer generation 0

abbrev pub numbers_left : List NumbererRecord → Instance → NumbererRecord
numbers_left numberers it = numbers_of (numberer_at numberers it.place) it.running.endpoint.generation

-- Whether every number is drawn except the greatest, which no put has.
abbrev pub is_spent : NumbererRecord → Bool
is_spent n = nat_lt 4294967294 n.next

-- The instance that may draw a number, or the cause against it: first the kind, then the number.
abbrev pub judged_kind : List NumbererRecord → Key → Body → Instance → Result Instance SystemFault
judged_kind numberers key content it =
    if not (is_of_kind key.kind content) then Err BadKind
    else if is_spent (numbers_left numberers it) then Err SeqSpent
    else Ok it

-- The instance, or the cause against it: first the state of the service at this index, then as `judged_kind`.
abbrev pub judged_state : List NumbererRecord → Key → Body → ℕ → State → Result Instance SystemFault
judged_state numberers key content i (Up r) = judged_kind numberers key content (record { place = i; running = r })
judged_state numberers key content i Down = Err NotUp
judged_state numberers key content i (Waiting p) = Err NotUp
judged_state numberers key content i GaveUp = Err NotUp

-- The instance, or the cause against it: first whether there is a service and what it declares, then as `judged_state`.
abbrev pub judged_place : RsRecord → List NumbererRecord → Key → Body → Option ℕ → Result Instance SystemFault
judged_place rs numberers key content None = Err UnknownLabel
judged_place rs numberers key content (Some i) =
    if not (is_declared (service_at rs i) key) then Err NotDeclared
    else judged_state numberers key content i (state_at rs i)

-- The judgement for the service with the label: the instance that draws a number for the change, or the first cause
-- against it.
abbrev pub judged : RsRecord → List NumbererRecord → List ℕ → Key → Body → Result Instance SystemFault
judged rs numberers label key content = judged_place rs numberers key content (place_of_label rs label)
