use Rattle.std.proofs.Common.{List, sym, subst, Contains}
use Rattle.std.specs.List.Sorted.{IsStrictlySortedBy}
use Rattle.ds_index.specs.declared.named.Named.{Named}
use Rattle.ds_index.specs.Index.{Listing, IsAdded}
use Rattle.ds_index.specs.Named.{named_cmp}
use Rattle.ds_index.proofs.NamedLemmas.{inserted_sorted, no_other, is_added}
use Rattle.ds_index.proofs.index.Index.add.Goals as goal

pub invariant_of-self : goal.invariant_of-self
invariant_of-self c =
    let new = subst (λ (v : Listing). Contains v.names c.args.named → ⊥) (sym c.self.view_is) c.requires.new in
    subst (IsStrictlySortedBy named_cmp) (sym c.add-place.ensures.listed)
    (inserted_sorted c.args.named c.self.inside.names.items c.self.invariant (no_other c.args.named c.self.inside.names.items new))

pub returns : goal.returns
returns c =
    subst (λ (v : Listing). IsAdded v.names c.add-place.new.names.items c.args.named) c.self.view_is
    (subst (λ (l : List Named). IsAdded c.self.inside.names.items l c.args.named) (sym c.add-place.ensures.listed)
    (is_added c.args.named c.self.inside.names.items))
