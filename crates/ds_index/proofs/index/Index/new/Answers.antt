use Rattle.std.proofs.Common.{sym, subst}
use Rattle.std.specs.List.Sorted.{IsStrictlySortedBy}
use Rattle.ds_index.specs.Named.{named_cmp}
use Rattle.ds_index.proofs.NamedLemmas.{sorted_nil}
use Rattle.ds_index.proofs.index.Index.new.Goals as goal

pub invariant_of-result : goal.invariant_of-result
invariant_of-result c = subst (IsStrictlySortedBy named_cmp) (sym c.new.ensures.items) sorted_nil
