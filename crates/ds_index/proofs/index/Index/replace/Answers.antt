use Rattle.std.proofs.Common.{◌≡◌, List, sym, subst, Contains}
use Rattle.std.specs.List.Sorted.{IsStrictlySortedBy}
use Rattle.ds_index.specs.declared.named.Named.{Named}
use Rattle.ds_index.specs.Index.{Listing, IsReplaced}
use Rattle.ds_index.specs.Named.{named_cmp}
use Rattle.ds_index.proofs.NamedLemmas.{is_replaced, replaced_sorted}
use Rattle.ds_index.proofs.index.Index.replace.Goals as goal

pub invariant_of-self : goal.invariant_of-self
invariant_of-self c =
    let w = c.replace-moved.ensures in
    let lone = subst (λ (v : Listing). Contains v.names c.args.after → c.args.after ≡ c.args.before.now) (sym c.self.view_is)
    c.requires.lone in
    subst (IsStrictlySortedBy named_cmp) (sym w.2)
    (replaced_sorted c.self.inside.names.items w.0 c.args.before.now c.args.after c.self.invariant w.1 lone)

pub returns : goal.returns
returns c =
    let w = c.replace-moved.ensures in
    subst (λ (v : Listing). IsReplaced v.names c.replace-moved.new.names.items c.args.before.now c.args.after) c.self.view_is
    (subst (λ (l : List Named). IsReplaced c.self.inside.names.items l c.args.before.now c.args.after) (sym w.2)
    (is_replaced c.self.inside.names.items w.0 c.args.before.now c.args.after c.self.invariant w.1))
