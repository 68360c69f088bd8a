-- What a store sends is what the machine replies, and has taken effect.
use Rattle.std.proofs.Common.{◌≡◌, ℕ, zero, suc, ◌-◌, not, Bool, cond, List, [], ◌∷◌, ◌++◌, take, Option, Some, None, refl, ap, sym, ◌∙◌}
use Rattle.std.proofs.Common.{subst, inl, inr, Contains}
use Rattle.std.specs.List.{filter}
use Rattle.std.specs.Option.{option_map_or}
use Rattle.std.proofs.lemmas.List.Elements.{Contains-append_cases}
use Rattle.ds_entry.specs.declared.item.Item.{Item}
use Rattle.ds_entry.proofs.Members.{Contains-nil, Contains-head, Contains-tail, Contains-cons, Contains-from_filter, Contains-from_take}
use Rattle.ds_entry.proofs.Members.{Contains-from_drop}
use Rattle.ds_names.specs.declared.key.Key.{Key}
use Rattle.ds_join.specs.ItemTop.{IsPartOf}
use Rattle.ds_feed.specs.declared.cursor.Cursor.{Cursor}
use Rattle.ds_feed.specs.declared.reading.Since as readings
use Rattle.ds_feed.specs.declared.reading.Snapshot.{Snapshot as Snap}
use Rattle.ds_feed.specs.declared.reading.Page.{Page as Leaf}
use Rattle.ds_feed.specs.Feed.{from}
use Rattle.ds_feed.specs.Since.{prefix, piece, since_of}
use Rattle.ds_feed.specs.Page.{is_floor, is_after_key, still_to_come, floors_of, changes_of, snapshot_of, page_of}
use Rattle.ds_machine.specs.Scope.{is_kept}
use Rattle.ds_machine.specs.Subscription.{Subscription, is_unseen}
use Rattle.ds_machine.specs.State.{State, held, cursor, unseen, subscription_at}
use Rattle.ds_machine.specs.Order.{first_refusal}
use Rattle.ds_machine.specs.Calling.{against_scope, against_since, against_page, against_check}
use Rattle.ds_machine.specs.Watching.{shows, checking, check_case}
use Rattle.ds_machine.specs.Machine.{outcome, journaling, snapping, paging, MergeWantsRoom, Step}
use Rattle.ds_machine.specs.Reached.{IsReached}
use Rattle.ds_machine.specs.Says.{IsReplyTo}
use Rattle.ds_machine.specs.declared.refusal.Refusal.{Refusal}
use Rattle.ds_machine.specs.declared.refusal.Refusal.TheVariants as refusals
use Rattle.ds_machine.specs.declared.command.Scope.{Scope}
use Rattle.ds_machine.specs.declared.command.Command.{Command}
use Rattle.ds_machine.specs.declared.command.Command.TheVariants.{Publish, Delete, Sweep, Retrieve, NameOf, Subscribe, Check, Since}
use Rattle.ds_machine.specs.declared.command.Command.TheVariants.{Snapshot, Page, Merge}
use Rattle.ds_machine.specs.declared.reply.Reply.{Reply}
use Rattle.ds_machine.specs.declared.reply.Reply.TheVariants.{Checked, Journaled, Snapped, Paged, Refused}
use Rattle.ds_machine.proofs.ReachedLemmas.{held_is_top}
use Rattle.ds_machine.proofs.FitLemmas.{replies_fit}
use Rattle.ds_replica.specs.Happens.{items_given}
use Rattle.ds_replica.proofs.LeftLemmas.{plain_or_merge}
use Rattle.ds_replica.proofs.SeerLemmas.{same_items}

-- ---- a reply with items is the machine's
pub given_reply : (s t : State) (command : Command) (reply : Reply) (items : List Item) → Step s command reply t →
    items_given reply ≡ Some items → reply ≡ (outcome s command).0
given_reply s t command reply items (inl (inl is)) e = is.reply_is
given_reply s t command reply items (inl (inr w)) e = absurd (let n : None ≡ Some items = sym (ap items_given w.reply_is) ∙ e in cc)
given_reply s t command reply items (inr w) e = absurd (elim (plain_or_merge command) [
  | inl p ↦ p.room s t reply w
  | inr m ↦ (
      let v = subst (λ (c : Command). MergeWantsRoom s c reply t) m.1 w in
      let n : None ≡ Some items = sym (ap items_given v.1.reply_is) ∙ e in
      cc)
])

-- a command whose reply has no items gets none
not_given : (P : Reply → Type 0) → ((items : List Item) (before after : ℕ) → P (Checked items before after) → ⊥) →
    ((x : readings.Since) → P (Journaled x) → ⊥) → ((x : Snap) → P (Snapped x) → ⊥) → ((x : Leaf) → P (Paged x) → ⊥)
    → (reply : Reply) (items : List Item) → P reply → items_given reply ≡ Some items → ⊥
not_given P c j n p (Checked items before after) more h e = c items before after h
not_given P c j n p (Journaled x) more h e = j x h
not_given P c j n p (Snapped x) more h e = n x h
not_given P c j n p (Paged x) more h e = p x h
not_given P c j n p _ more h e = cc

-- ---- what is sent took effect
module _ (s : State) (r : IsReached s) where
  held_accepted : IsPartOf (held s) s.feed.accepted
  held_accepted = (held_is_top s r).among

  -- a check that showed items was one of a subscription, and showed its first unseen ones
  pub check_given : (sub max : ℕ) (items : List Item) → items_given (checking s sub max).0 ≡ Some items →
      (seer : Subscription) × (subscription_at s sub ≡ Some seer) × (take max (unseen s seer) ≡ items)
  check_given sub max items e = by_case (subscription_at s sub) refl
      (first_refusal (against_check (check_case s sub max (subscription_at s sub)))) e
    where
      shown_given : (seer : Subscription) (l : List Item) → items_given (shows s sub seer l).0 ≡ Some l
      shown_given seer [] = refl
      shown_given seer (i ∷ l) = refl

      out : Option Subscription → Option Refusal → Reply × State
      out o p = option_map_or {U = Reply × State} (λ f. (Refused f, s)) p
          (option_map_or {U = Reply × State} (λ f. shows s sub f (take max (unseen s f))) o (Refused refusals.NotFound, s))

      by_case : (o : Option Subscription) → subscription_at s sub ≡ o → (p : Option Refusal) → items_given (out o p).0 ≡ Some items →
          (seer : Subscription) × (subscription_at s sub ≡ Some seer) × (take max (unseen s seer) ≡ items)
      by_case o h (Some f) q = absurd (let n : None ≡ Some items = q in cc)
      by_case None h None q = absurd (let n : None ≡ Some items = q in cc)
      by_case (Some seer) h None q =
          (seer, h, same_items (take max (unseen s seer)) items (sym (shown_given seer (take max (unseen s seer))) ∙ q))

  check_part : (sub max : ℕ) (items : List Item) → items_given (checking s sub max).0 ≡ Some items → IsPartOf items s.feed.accepted
  check_part sub max items e x h =
      let g = check_given sub max items e in
      held_accepted x (Contains-from_filter (is_unseen g.0.query g.0.shown) (held s) x
      (Contains-from_take max (unseen s g.0) x (subst (λ (l : List Item). Contains l x) (sym g.2) h))).0

  prefix_part : (test : Item → Bool) (max : ℕ) (items : List Item) → IsPartOf (prefix test max items) items
  prefix_part test zero items x h = absurd (Contains-nil x h)
  prefix_part test (suc max) [] x h = absurd (Contains-nil x h)
  prefix_part test (suc max) (i ∷ items) x h = elim (Contains-cons i (prefix test (cond (test i) max (suc max)) items) x h) [
    | inl e ↦ subst (Contains (i ∷ items)) (sym e) (Contains-head i items)
    | inr k ↦ Contains-tail i items x (prefix_part test (cond (test i) max (suc max)) items x k)
  ]

  -- a reader of some items, unless something applies to it
  pub given_unless : (o : Option Refusal) (reply : Reply) (l items : List Item) → items_given reply ≡ Some l →
      items_given (option_map_or {U = Reply × State} (λ f. (Refused f, s)) o (reply, s)).0 ≡ Some items → l ≡ items
  given_unless (Some f) reply l items g q = absurd (let n : None ≡ Some items = q in cc)
  given_unless None reply l items g q = same_items l items (sym g ∙ q)

  since_part : (scope : Scope) (at : Cursor) (max : ℕ) (items : List Item) → items_given (journaling s scope at max).0 ≡ Some items →
      IsPartOf items s.feed.accepted
  since_part scope at max items e x h =
      let same = given_unless (first_refusal (against_since s.feed scope at max)) (Journaled (since_of s.feed (is_kept scope) at max))
      (filter (is_kept scope) (piece s.feed (is_kept scope) at max)) items refl e in
      let there = (Contains-from_filter (is_kept scope) (piece s.feed (is_kept scope) at max) x
      (subst (λ (l : List Item). Contains l x) (sym same) h)).0 in
      Contains-from_drop (at.position - s.feed.first) s.feed.accepted x (prefix_part (is_kept scope) max (from s.feed at.position) x there)

  snap_part : (scope : Scope) (items : List Item) → items_given (snapping s scope).0 ≡ Some items → IsPartOf items s.feed.accepted
  snap_part scope items e x h =
      let same = given_unless (first_refusal (against_scope scope)) (Snapped (snapshot_of (is_kept scope) (held s) (cursor s)))
      (filter (is_kept scope) (held s)) items refl e in
      held_accepted x (Contains-from_filter (is_kept scope) (held s) x (subst (λ (l : List Item). Contains l x) (sym same) h)).0

  still_part : (test : Item → Bool) (after : Option Key) → IsPartOf (still_to_come test after (held s)) (held s)
  still_part test after x h = (Contains-from_filter test (held s) x
      (Contains-from_filter (is_after_key after) (filter test (held s)) x h).0).0

  page_part : (scope : Scope) (after : Option Key) (max : ℕ) (items : List Item) → items_given (paging s scope after max).0 ≡ Some items →
      IsPartOf items s.feed.accepted
  page_part scope after max items e x h =
      let left = still_to_come (is_kept scope) after (held s) in
      let same = given_unless (first_refusal (against_page scope max)) (Paged (page_of (is_kept scope) after max (held s) (cursor s)))
      (floors_of left ++ take max (changes_of left)) items refl e in
      held_accepted x (still_part (is_kept scope) after x
      (elim (Contains-append_cases (floors_of left) (take max (changes_of left)) x (subst (λ (l : List Item). Contains l x) (sym same) h)) [
        | inl k ↦ (Contains-from_filter is_floor left x k).0
        | inr k ↦ (Contains-from_filter (λ i. not (is_floor i)) left x (Contains-from_take max (changes_of left) x k)).0
      ]))

  out_part : (command : Command) (items : List Item) → IsReplyTo command (outcome s command).0 →
      items_given (outcome s command).0 ≡ Some items → IsPartOf items s.feed.accepted
  out_part (Check sub max) items f e = check_part sub max items e
  out_part (Since scope at max) items f e = since_part scope at max items e
  out_part (Snapshot scope) items f e = snap_part scope items e
  out_part (Page scope after max) items f e = page_part scope after max items e
  out_part (Publish caller key version value overwrite) items f e = absurd
      (not_given (IsReplyTo (Publish caller key version value overwrite)) (λ l b a h. h) (λ x h. h) (λ x h. h) (λ x h. h)
      (outcome s (Publish caller key version value overwrite)).0
      items f e)
  out_part (Delete caller key version) items f e =
      absurd (not_given (IsReplyTo (Delete caller key version)) (λ l b a h. h) (λ x h. h) (λ x h. h) (λ x h. h)
      (outcome s (Delete caller key version)).0 items f e)
  out_part (Sweep caller owner generation) items f e =
      absurd (not_given (IsReplyTo (Sweep caller owner generation)) (λ l b a h. h) (λ x h. h) (λ x h. h) (λ x h. h)
      (outcome s (Sweep caller owner generation)).0 items f e)
  out_part (Retrieve key) items f e = absurd
      (not_given (IsReplyTo (Retrieve key)) (λ l b a h. h) (λ x h. h) (λ x h. h) (λ x h. h) (outcome s (Retrieve key)).0 items f e)
  out_part (NameOf endpoint) items f e = absurd
      (not_given (IsReplyTo (NameOf endpoint)) (λ l b a h. h) (λ x h. h) (λ x h. h) (λ x h. h) (outcome s (NameOf endpoint)).0 items f e)
  out_part (Subscribe sub query initial overwrite) items f e = absurd
      (not_given (IsReplyTo (Subscribe sub query initial overwrite)) (λ l b a h. h) (λ x h. h) (λ x h. h) (λ x h. h)
      (outcome s (Subscribe sub query initial overwrite)).0 items f
      e)
  out_part (Merge group) items f e = absurd (not_given (IsReplyTo (Merge group)) (λ l b a h. h) (λ x h. h) (λ x h. h) (λ x h. h)
      (outcome s (Merge group)).0 items f e)

-- everything that a store sends had taken effect
pub given_part : (s t : State) (command : Command) (reply : Reply) (items : List Item) → IsReached s → Step s command reply t →
    items_given reply ≡ Some items → IsPartOf items s.feed.accepted
given_part s t command reply items r step e =
    let is = given_reply s t command reply items step e in
    out_part s r command items (subst (IsReplyTo command) is (replies_fit s t command reply step)) (sym (ap items_given is) ∙ e)
