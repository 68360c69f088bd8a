use Rattle.std.proofs.Common.{◌≡◌, ◌∙◌, ℕ, ◌+◌, ◌<◌, List, [], ◌∷◌, ◌++◌, length, take, get_or, sym, ap, subst}
use Rattle.std.proofs.lemmas.List.{take_more}
use Rattle.history.specs.History.{Path}
use Rattle.history.proofs.RunLemmas.{path_push}
use Rattle.ds_entry.specs.declared.item.Item.{Item}
use Rattle.fleet_store.specs.Taking.{Taking, TakesItem}
use Rattle.fleet_store.proofs.taking.take.Goals as goal

further : (items : List Item) (i : ℕ) (x : Item) (old mid new : Taking) → i < length items → x ≡ get_or items i x →
    Path TakesItem old (take i items) mid → TakesItem mid x new → Path TakesItem old (take (i + 1) items) new
further items i x old mid new l e path step =
    subst (λ (l : List Item). Path TakesItem old l new) (sym (take_more items i x l ∙ ap (λ (y : Item). take i items ++ y ∷ []) (sym e)))
    (path_push TakesItem old mid new (take i items) x path step)

pub loop-item-preserved : goal.loop-item-preserved
loop-item-preserved c =
    further c.args.items.now c.loop-item.item-index c.item-item.result _ _ _ c.loop-item-test.true c.item-item.is c.loop-item.invariant
    c.take_item.ensures
