use Rattle.std.proofs.Common.{◌≡◌, ◌≢◌, ◌++◌, [], ℕ, subst, inl, inr, Bool, true, false, not, List, Option, Some, None, is_none, refl, map}
use Rattle.std.proofs.Common.{filter, drop, take, length, nat_le, cond, ap, ap₂, ◌∙◌}
use Rattle.std.specs.Option.{is_some}
use Rattle.ds_names.specs.declared.key.Key.{Key}
use Rattle.ds_entry.specs.Change.{ChangeRecord}
use Rattle.ds_entry.specs.Item.{passes}
use Rattle.ds_entry.specs.declared.item.Item.{Item}
use Rattle.ds_feed.specs.Kept.{cursor_of}
use Rattle.ds_feed.specs.Page.{page_of}
use Rattle.ds_feed.specs.declared.cursor.Cursor.{Cursor}
use Rattle.ds_held.specs.Held.{Holding, held_items, held_changes, held_floors, change_item}
use Rattle.ds_held.specs.Kept.{floored}
use Rattle.ds_join.specs.Reading.{comes_after}
use Rattle.ds_content.specs.Content.{ContentRecord}
use Rattle.ds_content.specs.Paging.{admitted, to_come}
use Rattle.ds_content.proofs.OpenLemmas.{cursor_is, on_err}
use Rattle.ds_content.proofs.PagingLemmas.{page_gives, page_is, part_some}
use Rattle.ds_content.specs.Given.{state_page}
use Rattle.ds_machine.specs.State.{State, held as held_in, cursor as cursor_in}
use Rattle.ds_content.proofs.content.Content.page.Goals as goal

none_told : (told : Bool) (after : Option Key) → is_some after ≡ not told → told ≡ is_none after
none_told true None e = refl
none_told false None e = absurd (cc)
none_told true (Some key) e = absurd (cc)
none_told false (Some key) e = refl

past : (after : Option Key) (cs : List ChangeRecord) (o : Option Key) (xs : List ChangeRecord) → o ≡ after →
    xs ≡ filter (comes_after o) cs → xs ≡ filter (comes_after after) cs
past after cs o xs same is = is ∙ ap (λ (k : Option Key). filter (comes_after k) cs) same

pub returns-clause-given : goal.returns-clause-given
returns-clause-given g c =
    let keep = g.S.KeyScope.keeps c.args.scope.now in
    let h = c.held-held.result.now in
    page_is keep h c.args.after c.args.max c.cursor.result c.add_changes.new.items c.in_ok-last.last
    (c.in_ok-last.ensures.added
    ∙ ap (λ (l : List ChangeRecord). c.in_ok-items.items ++ map change_item (take c.args.max (admitted keep l)))
    (past c.args.after (held_changes h) _ (drop c.begin_after-first.result (held_changes h)) c.as_ref.ensures.value
    c.begin_after-first.ensures.begin)
    ∙ ap (λ (l : List Item). l ++ map change_item (take c.args.max (to_come keep c.args.after (held_changes h))))
    (c.in_ok-items.ensures.value ∙ ap (λ (b : Bool). cond b (map floored (held_floors h)) [])
    (none_told c.is_none.result c.args.after c.is_none.ensures)))
    (c.in_ok-last.ensures.last ∙ ap (λ (l : List ChangeRecord). nat_le (length (admitted keep l)) c.args.max)
    (past c.args.after (held_changes h) _ (drop c.begin_after-first.result (held_changes h)) c.as_ref.ensures.value
    c.begin_after-first.ensures.begin))
    ∙ ap (λ (x : Holding). page_of (passes keep) c.args.after c.args.max (held_items x) c.cursor.result) c.held-held.ensures.value
    ∙ ap (λ (k : Cursor). page_of (passes keep) c.args.after c.args.max (held_items c.self.inside.held.held) k) c.cursor.ensures.value
    ∙ ap (λ (v : ContentRecord). page_of (passes keep) c.args.after c.args.max v.held (cursor_of v.journal)) c.self.view_is

pub returns-clause-stands : goal.returns-clause-stands
returns-clause-stands g c = λ s stands.
    let keep = g.S.KeyScope.keeps c.args.scope.now in
    let h = c.held-held.result.now in
    page_is keep h c.args.after c.args.max c.cursor.result c.add_changes.new.items c.in_ok-last.last
    (c.in_ok-last.ensures.added
    ∙ ap (λ (l : List ChangeRecord). c.in_ok-items.items ++ map change_item (take c.args.max (admitted keep l)))
    (past c.args.after (held_changes h) _ (drop c.begin_after-first.result (held_changes h)) c.as_ref.ensures.value
    c.begin_after-first.ensures.begin)
    ∙ ap (λ (l : List Item). l ++ map change_item (take c.args.max (to_come keep c.args.after (held_changes h))))
    (c.in_ok-items.ensures.value ∙ ap (λ (b : Bool). cond b (map floored (held_floors h)) [])
    (none_told c.is_none.result c.args.after c.is_none.ensures)))
    (c.in_ok-last.ensures.last ∙ ap (λ (l : List ChangeRecord). nat_le (length (admitted keep l)) c.args.max)
    (past c.args.after (held_changes h) _ (drop c.begin_after-first.result (held_changes h)) c.as_ref.ensures.value
    c.begin_after-first.ensures.begin))
    ∙ ap (λ (x : Holding). page_of (passes keep) c.args.after c.args.max (held_items x) c.cursor.result) c.held-held.ensures.value
    ∙ ap (λ (k : Cursor). page_of (passes keep) c.args.after c.args.max (held_items c.self.inside.held.held) k) c.cursor.ensures.value
    ∙ ap (λ (v : ContentRecord). page_of (passes keep) c.args.after c.args.max v.held (cursor_of v.journal)) c.self.view_is
    ∙ ap₂ (λ (hs : List Item) (k : Cursor). page_of (passes keep) c.args.after c.args.max hs k) stands.held
    (cursor_is c.args.self.now.journal s stands.journal)

-- a page gives its floors and its changes
module _ (keep : Key → Bool) (h : Holding) (after : Option Key) (max : ℕ) (s : State) (same : held_items h ≡ held_in s) where
  gives_more : cond (is_none after) (map floored (held_floors h)) [] ++ map change_item (take max (to_come keep after (held_changes h))) ≢
      [] → (state_page s (passes keep) after max).items ≢ []
  gives_more some none = some (page_gives keep h after max (cursor_in s) ∙
      ap (λ (hs : List Item). (page_of (passes keep) after max hs (cursor_in s)).items) same ∙ none)

pub returns-in_err-items-clause-lacks : goal.returns-in_err-items-clause-lacks
returns-in_err-items-clause-lacks g c = λ s stands.
    let keep = g.S.KeyScope.keeps c.args.scope.now in
    let h = c.held-held.result.now in
    let floors = subst (λ (b : Bool). cond b (map floored (held_floors h)) [] ≢ [])
    (none_told c.is_none.result c.args.after c.is_none.ensures) c.in_err-items.ensures.lacks in
    on_err c.from_residual.result ((state_page s (passes keep) c.args.after c.args.max).items ≢ [])
    (gives_more keep h c.args.after c.args.max s
    (ap held_items c.held-held.ensures.value ∙ ap (λ (v : ContentRecord). v.held) c.self.view_is ∙ stands.held)
    (part_some _ (map change_item (take c.args.max (to_come keep c.args.after (held_changes h)))) (inl floors)))

pub returns-in_err-last-clause-lacks : goal.returns-in_err-last-clause-lacks
returns-in_err-last-clause-lacks g c = λ s stands.
    let keep = g.S.KeyScope.keeps c.args.scope.now in
    let h = c.held-held.result.now in
    let come = past c.args.after (held_changes h) _ (drop c.begin_after-first.result (held_changes h)) c.as_ref.ensures.value
    c.begin_after-first.ensures.begin in
    let changes = subst (λ (l : List ChangeRecord). map change_item (take c.args.max (admitted keep l)) ≢ []) come
    c.in_err-last.ensures.lacks in
    on_err c.from_residual-in_err-last.result ((state_page s (passes keep) c.args.after c.args.max).items ≢ [])
    (gives_more keep h c.args.after c.args.max s
    (ap held_items c.held-held.ensures.value ∙ ap (λ (v : ContentRecord). v.held) c.self.view_is ∙ stands.held)
    (part_some (cond (is_none c.args.after) (map floored (held_floors h)) []) _ (inr changes)))
