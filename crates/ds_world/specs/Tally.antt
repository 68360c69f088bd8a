-- How a delivery is counted, and a map's fault as a world's.
use Rattle.std.specs.Prelude.{◌≡◌, ℕ, ◌+◌, ◌<◌, ◌≤◌, ◌^◌, None}
use Rattle.std.specs.Int.Bits.{bit_or}
use Rattle.ds_machine.specs.declared.reply.Reply.{Reply}
use Rattle.ds_machine.specs.declared.reply.Reply.TheVariants.{Merged, MergeStopped, Refused}
use Rattle.ds_pattern.specs.declared.pattern.PatternFault.{PatternFault}
use Rattle.ds_pattern.specs.declared.pattern.PatternFault.TheVariants as patterns
use Rattle.ds_replica.specs.declared.outcome.EventFault.{EventFault}
use Rattle.ds_replica.specs.declared.outcome.EventFault.TheVariants as faults
use Rattle.ds_replica.specs.declared.outcome.Outcome.{Outcome}
use Rattle.ds_replica.specs.Delivery as deliveries
use Rattle.ds_replica.specs.Happens.{tally_outcome}
use Rattle.ds_world.specs.declared.tally.Tally.{Tally}

-- The tally in terms of the definitions of deliveries.
abbrev pub tally_of : Tally → deliveries.Tally
tally_of t = record { count = t.count; owed = t.owed; stop = t.stop }

-- The outcome of a delivery with this tally.
abbrev pub outcome_of : Tally → Outcome
outcome_of t = tally_outcome (tally_of t) t.stop

-- The tally of a first group and of those after it. A mask of both has the bits of either.
abbrev pub both_tallied : deliveries.Tally → deliveries.Tally → deliveries.Tally
both_tallied t u = record {
  count = deliveries.counting (t.count.done + u.count.done) (t.count.taken + u.count.taken) (t.count.stale + u.count.stale);
  owed = bit_or t.owed u.owed;
  stop = u.stop;
}

-- Whether the counts of both can be added.
pub record CanJoin (t u : deliveries.Tally) : Type 0 where
  pub done : t.count.done + u.count.done < 2 ^ 64
  pub taken : t.count.taken + u.count.taken < 2 ^ 64
  pub stale : t.count.stale + u.count.stale < 2 ^ 64

-- Whether all of n items are done, or fewer if they stopped, and at most those done are taken or stale.
pub record CountsOf (n : ℕ) (t : deliveries.Tally) : Type 0 where
  pub all : t.stop ≡ None → t.count.done ≡ n
  pub few : t.count.done ≤ n
  pub within : t.count.taken + t.count.stale ≤ t.count.done

-- The world's fault for a fault of a map's pattern.
abbrev pub fault_of : PatternFault → EventFault
fault_of patterns.TooLong = faults.TooLong
fault_of patterns.BadPattern = faults.BadPattern
fault_of patterns.NoRoom = faults.NoRoom

-- Whether the reply to a Merge of n items counts them: all were done, or the first ones.
abbrev pub IsCounted : ℕ → Reply → Type 0
IsCounted n (Merged done taken stale owed) = (done ≡ n) × (taken + stale ≤ done)
IsCounted n (MergeStopped done fault owed) = done < n
IsCounted n (Refused fault) = Unit {0}
IsCounted n _ = ⊥
