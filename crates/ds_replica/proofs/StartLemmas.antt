-- The account of a world that was just made.
use Rattle.std.proofs.Common.{ℕ, List, [], refl}
use Rattle.ds_entry.proofs.Members.{Contains-nil}
use Rattle.ds_entry.specs.declared.item.Item.{Item}
use Rattle.ds_join.proofs.ItemTopLemmas.{top_of_nothing}
use Rattle.ds_machine.specs.State.{opening}
use Rattle.ds_machine.specs.Reached.{IsReached}
use Rattle.ds_held.specs.Limits.{LimitsRecord}
use Rattle.ds_replica.specs.Known.{opened}
use Rattle.ds_replica.specs.Fits.{FitsStore}
use Rattle.ds_replica.specs.Headline.{AccountFitsAtStart}
use Rattle.ds_machine.proofs.ReachedLemmas.{opening_is_reached}

-- a store that was just opened, and knows nothing
pub opened_fits : (brought : List Item) (incarnation first ring : ℕ) (limits : LimitsRecord) →
    IsReached (opening incarnation first ring limits) →
    FitsStore brought (opened (opening incarnation first ring limits)) (opening incarnation first ring limits)
opened_fits brought incarnation first ring limits r =
    record { state_is = refl; reached = r; top = top_of_nothing; accepted = λ i h. h; within = λ i h. absurd (Contains-nil i h) }

pub account_fits_at_start : AccountFitsAtStart
account_fits_at_start a b limits l =
    record {
      a = opened_fits [] a.incarnation a.first a.ring limits (opening_is_reached a.incarnation a.first a.ring limits l);
      b = opened_fits [] b.incarnation b.first b.ring limits (opening_is_reached b.incarnation b.first b.ring limits l);
      maps = tt;
      messages = tt;
    }
