use Rattle.std.proofs.Common.{◌≡◌, ◌∷◌, [], List, Option, Some, None, ap, sym, ◌∙◌, subst}
use Rattle.std.specs.Prelude.{slice_get}
use Rattle.std.specs.Option.{option_copied}
use Rattle.ds_names.specs.declared.key.Key.{Key}
use Rattle.ds_entry.specs.declared.item.Item.{Item}
use Rattle.ds_replica.specs.Paged.{last_key}
use Rattle.ds_reader.proofs.ListLemmas.{key_next, none_next}
use Rattle.ds_reader.proofs.gathering.go_past.Goals as goal
use Rattle.ds_reader.proofs.gathering.go_past.Goals.{in-Some, in_default}

pub loop-index-preserved : goal.loop-index-preserved
loop-index-preserved c =
    let items : List Item = c.args.items.now in
    let key : Option Key = c.args.key.now in
    let i = c.loop-index.index in
    elim c.match-get.branch [
      | in-Some w ↦
          (let at : slice_get items i ≡ Some w.in-Some.item.now = sym
          (subst (λ o. option_copied o ≡ slice_get items i) w.in-Some.is c.get.ensures) in
          w.key-is ∙ w.go_past_item.ensures ∙ ap (λ (k : Option Key). last_key k (w.in-Some.item.now ∷ [])) c.loop-index.invariant ∙
          sym (key_next items i key w.in-Some.item.now at))
      | in_default w ↦
          (let gone : slice_get items i ≡ None = sym (subst (λ o. option_copied o ≡ slice_get items i) w.in_default.is c.get.ensures) in
          w.key-is ∙ c.loop-index.invariant ∙ ap (λ (l : List Item). last_key key l) (sym (none_next items i gone)))
    ]
