-- Why a store can't be opened.
use Rattle.std.specs.Prelude.{ℕ, ◌<◌, ◌≤◌}
use Rattle.ds_feed.specs.declared.journal.OpenFault.{OpenFault}
use Rattle.ds_feed.specs.declared.journal.OpenFault.TheVariants as faults
use Rattle.ds_feed.specs.Kept.{IsRing}
use Rattle.ds_machine.specs.declared.refusal.Refusal.{Refusal}
use Rattle.ds_machine.specs.declared.refusal.Refusal.TheVariants.{BadRing, BadFirst, NoRoom}
use Rattle.ds_names.specs.Limits.{last_place}

-- The refusal is the first that applies: the ring's, then the first position's, and NoRoom only if neither applies.
abbrev pub IsOpenRefusal : Refusal → ℕ → ℕ → Type 0
IsOpenRefusal BadRing first ring = ¬ IsRing ring
IsOpenRefusal BadFirst first ring = IsRing ring × (last_place < first)
IsOpenRefusal NoRoom first ring = IsRing ring × (first ≤ last_place)
IsOpenRefusal _ first ring = ⊥

-- The refusal for a bad ring or a bad first position.
abbrev pub refusal_of_opening : OpenFault → Refusal
refusal_of_opening faults.BadRing = BadRing
refusal_of_opening faults.BadFirst = BadFirst
refusal_of_opening faults.NoRoom = NoRoom
