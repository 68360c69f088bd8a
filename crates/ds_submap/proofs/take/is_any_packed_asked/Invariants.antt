use Rattle.std.proofs.Common.{◌≡◌, length}
use Rattle.std.specs.List.{list_any}
use Rattle.ds_submap.specs.Take.{needs_query}
use Rattle.ds_submap.proofs.take.is_any_packed_asked.Given as goal

-- none of the items so far does
abbrev pub invariant-loop-item : goal.invariant-loop-item
invariant-loop-item l = record {
  same : list_any (needs_query l.filter) l.rest ≡ list_any (needs_query l.filter) l.items;
}

abbrev pub decreases-loop-item : goal.decreases-loop-item
decreases-loop-item l = length l.rest
