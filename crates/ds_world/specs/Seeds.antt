-- Why a world can't be made from two seeds.
use Rattle.std.specs.Prelude.{◌≡◌, ◌≢◌, ◌⊎◌, ◌<◌, ◌≤◌}
use Rattle.ds_feed.specs.Kept.{IsRing}
use Rattle.ds_replica.specs.declared.seed.Seed.{Seed}
use Rattle.ds_world.specs.declared.fault.SeedFault.{SeedFault}
use Rattle.ds_world.specs.declared.fault.SeedFault.TheVariants.{BadRing, BadFirst, OldIncarnation, NoRoom}
use Rattle.ds_names.specs.Limits.{last_place}

-- Whether a store can be opened with the seed.
pub record IsSeed (seed : Seed) : Type 0 where
  pub ring : IsRing seed.ring
  pub first : seed.first ≤ last_place

-- Whether two stores of different incarnations can be opened with the seeds.
pub record AreSeeds (a b : Seed) : Type 0 where
  pub a_is : IsSeed a
  pub b_is : IsSeed b
  pub apart : a.incarnation ≢ b.incarnation

-- Whether the fault is the first that applies: a ring's, a first position's, equal incarnations, and NoRoom only if
-- there is no other.
abbrev pub IsSeedFault : SeedFault → Seed → Seed → Type 0
IsSeedFault BadRing a b = (¬ IsRing a.ring) ⊎ (¬ IsRing b.ring)
IsSeedFault BadFirst a b = IsRing a.ring × IsRing b.ring × ((last_place < a.first) ⊎ (last_place < b.first))
IsSeedFault OldIncarnation a b = IsSeed a × IsSeed b × (a.incarnation ≡ b.incarnation)
IsSeedFault NoRoom a b = AreSeeds a b
