use Rattle.std.proofs.Common.{◌≡◌, ℕ, Option, Some, None, ap, ◌∙◌, subst}
use Rattle.std.specs.Option.{option_copied}
use Rattle.ds_names.specs.Key.{label_key}
use Rattle.ds_entry.specs.declared.body.Body.{Body}
use Rattle.ds_held.specs.Held.{held_for}
use Rattle.driver_tables.specs.Label.{newest}
use Rattle.rs_to_store.specs.News.{newest_for, told, told_by}
use Rattle.rs_to_store.proofs.FollowLemmas.{item_for, told_so}
use Rattle.rs_to_store.proofs.news.told.Goals as goal

pub returns-in-Some : goal.returns-in-Some
returns-in-Some g c t st =
    let h = c.args.map.now.held in
    let key = label_key c.args.label.now in
    let change = c.in-Some.change.now in
    let now = newest t.states c.args.label.now in
    let at : Some change ≡ held_for h key = subst (λ o. option_copied o ≡ held_for h key) c.in-Some.is c.get.ensures.value in
    let read = c.newest_for.ensures t st ∙ ap (λ (b : Body). newest_for b now) c.body.ensures.value in
    c.told_by.ensures ∙ (ap (λ (n : Option ℕ). told_by n change) read ∙
    (told_so change now ∙ ap (told now) (at ∙ item_for h c.held-held.ensures.map.sound key)))

pub returns-in-None : goal.returns-in-None
returns-in-None g c t st =
    let h = c.args.map.now.held in
    let key = label_key c.args.label.now in
    let at : None ≡ held_for h key = subst (λ o. option_copied o ≡ held_for h key) c.in-None.is c.get.ensures.value in
    ap (told (newest t.states c.args.label.now)) (at ∙ item_for h c.held-held.ensures.map.sound key)
