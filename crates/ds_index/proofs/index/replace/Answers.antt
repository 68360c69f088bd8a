use Rattle.std.proofs.Common.{◌≡◌, List, length, ap, sym, ◌∙◌, subst, rules}
use Rattle.std.specs.List.{remove}
use Rattle.std.specs.List.Sorted.{IsStrictlySortedBy}
use Rattle.ds_index.specs.declared.named.Named.{Named}
use Rattle.ds_index.specs.Named.{IsNearLabel, named_cmp, inserted_label}
use Rattle.ds_index.proofs.NamedLemmas.{stands_at, stands_within, set_there, removed_sorted}
use Rattle.ds_index.proofs.index.replace.Goals as goal

pub index_mut-requires : goal.index_mut-requires
index_mut-requires c =
    stands_within c.args.before.now c.args.names.now.items c.deref.result.now c.place_of-old.result _ c.requires.sorted c.requires.listed
    c.deref.ensures.value c.place_of-old.ensures.place (c.args.names.now.ok.0)

pub remove-requires : goal.remove-requires
remove-requires c =
    stands_within c.args.before.now c.args.names.now.items c.deref.result.now c.place_of-old.result _ c.requires.sorted c.requires.listed
    c.deref.ensures.value c.place_of-old.ensures.place (c.args.names.now.ok.0)

pub add-new-requires-clause-sorted : goal.add-new-requires-clause-sorted
add-new-requires-clause-sorted c =
    let left : c.remove.new.self.items ≡ remove c.args.names.now.items c.place_of-old.result = search rules in
    subst (IsStrictlySortedBy named_cmp) (sym left) (removed_sorted c.args.names.now.items c.place_of-old.result c.requires.sorted)

pub stays-requires-clause-within : goal.stays-requires-clause-within
stays-requires-clause-within c =
    stands_within c.args.before.now c.args.names.now.items c.deref.result.now c.place_of-old.result _ c.requires.sorted c.requires.listed
    c.deref.ensures.value
    c.place_of-old.ensures.place (ap (λ (l : List Named). length l) c.deref-2.ensures.value)

pub returns-then-stays : goal.returns-then-stays
returns-then-stays c =
    let here = stands_at c.args.before.now c.args.names.now.items c.deref.result.now c.place_of-old.result c.requires.sorted
    c.requires.listed c.deref.ensures.value c.place_of-old.ensures.place in
    let near : IsNearLabel c.args.after c.args.names.now.items c.place_of-old.result =
    subst (λ (l : List Named). IsNearLabel c.args.after l c.place_of-old.result) c.deref-2.ensures.value
    (c.stays.ensures c.if-stays.true) in (
      c.place_of-old.result,
      here,
      set_there c.args.after c.args.before.now c.args.names.now.items c.place_of-old.result near.0 here near.1 near.2 near.3,
    )

pub returns : goal.returns
returns c =
    let left : c.remove.new.self.items ≡ remove c.args.names.now.items c.place_of-old.result = search rules in (
      c.place_of-old.result,
      stands_at c.args.before.now c.args.names.now.items c.deref.result.now c.place_of-old.result c.requires.sorted c.requires.listed
          c.deref.ensures.value c.place_of-old.ensures.place,
      c.add-new.ensures.listed ∙ ap (inserted_label c.args.after) left,
    )
