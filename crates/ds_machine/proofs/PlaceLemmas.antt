-- What leaves a subscription as it is, and what a Subscribe and a Check leave of it.
use Rattle.std.proofs.Common.{◌≡◌, ℕ, ◌+◌, ◌<◌, ◌≤◌, true, false, List, [], ◌∷◌, ◌++◌, length, take, Option, Some, None, refl, ap, sym, ◌∙◌}
use Rattle.std.proofs.Common.{subst, inl, inr, ◌⊎◌, arith, get_or-set_same, get_or-set_other}
use Rattle.std.specs.List.{list_any}
use Rattle.std.specs.Option.{option_map_or}
use Rattle.std.proofs.lemmas.List.{append-nil}
use Rattle.std.proofs.lemmas.Option.{same_Some}
use Rattle.ds_entry.specs.declared.item.Item.{Item}
use Rattle.ds_pattern.specs.declared.query.Query.{Query}
use Rattle.ds_machine.specs.Subscription.{Subscription}
use Rattle.ds_machine.specs.State.{State, held, unseen, subscribes, subscription_at}
use Rattle.ds_machine.specs.Order.{first_refusal, by_command, by_room}
use Rattle.ds_machine.specs.Calling.{SubscribeCase, against_subscribe, against_check}
use Rattle.ds_machine.specs.Watching.{subscribe_case, owed_at_first, shown_at_first, shows, check_case, checking_at}
use Rattle.ds_machine.specs.Reached.{IsReached}
use Rattle.ds_machine.specs.Effect.{Effect, uses}
use Rattle.ds_machine.specs.SubscriptionLaws.{StepKeepsSubscription, RunKeepsSubscription, HasNewStamp, StepStampsSubscription}
use Rattle.ds_machine.specs.SubscriptionLaws.{RunStampsSubscription, StampTells, IsPlaced, SubscribedLeaves, IsCheckedOn, CheckedLeaves}
use Rattle.ds_machine.specs.declared.refusal.Refusal.{Refusal}
use Rattle.ds_machine.specs.declared.refusal.Refusal.TheVariants as refusals
use Rattle.ds_machine.specs.declared.reply.Reply.{Reply}
use Rattle.ds_machine.specs.declared.reply.Reply.TheVariants.{Subscribed, Checked, Refused}
use Rattle.ds_machine.proofs.PartLemmas.{missing}
use Rattle.ds_machine.proofs.ReachedLemmas.{at_place}
use Rattle.ds_machine.proofs.EffectLemmas.{step_has_effect}
use Rattle.ds_machine.proofs.KnownLemmas.{steps_stay_reached, steps_go_on}
use Rattle.std.proofs.lemmas.Bool.{or_parts, leb-false}

-- ---- what leaves it as it is
pub step_keeps : StepKeepsSubscription
step_keeps s t command reply sub r step e = by_effect (step_has_effect s t command reply r step)
  where
    by_effect : Effect s command reply t → subscription_at t sub ≡ subscription_at s sub
    by_effect (inl g) = ap (λ (x : State). subscription_at x sub) g.state_is
    by_effect (inr v) =
        ap (λ (x : State). subscription_at x sub) v.state_is
        ∙ get_or-set_other s.subscriptions v.sub sub (Some (record { query = v.query; stamp = s.stamp + 1; shown = v.shown })) None
        (λ q. let n : true ≡ false = sym v.used ∙ (ap (λ (j : ℕ). uses j command) (sym q) ∙ e) in cc)

pub run_keeps : RunKeepsSubscription
run_keeps s t [] [] sub r run e = ap (λ (x : State). subscription_at x sub) run
run_keeps s t [] (q ∷ replies) sub r run e = absurd run
run_keeps s t (c ∷ commands) [] sub r run e = absurd run
run_keeps s t (c ∷ commands) (q ∷ replies) sub r run e =
    let n = or_parts (uses sub c) (list_any (uses sub) commands) e in
    run_keeps run.0 t commands replies sub (steps_stay_reached s run.0 c q r run.1) run.2 n.1 ∙ step_keeps s run.0 c q sub r run.1 n.0

-- ---- what its stamp means
pub step_stamps : StepStampsSubscription
step_stamps s t command reply sub r step = by_effect (step_has_effect s t command reply r step)
  where
    by_effect : Effect s command reply t → (subscription_at t sub ≡ subscription_at s sub) ⊎ HasNewStamp s (subscription_at t sub)
    by_effect (inl g) = inl (ap (λ (x : State). subscription_at x sub) g.state_is)
    by_effect (inr v) =
        let within : v.sub < length s.subscriptions = omega (arith, v.place, r.places) in
        let made : Subscription = record { query = v.query; stamp = s.stamp + 1; shown = v.shown } in
        let above : HasNewStamp s (Some made) = omega arith in
        let at : subscription_at t sub ≡ subscription_at (subscribes s v.sub v.query v.shown) sub =
        ap (λ (x : State). subscription_at x sub) v.state_is in
        elim (at_place s v.sub sub v.query v.shown within) [
          | inl k ↦ inr (subst (HasNewStamp s) (sym (at ∙ k.1)) above)
          | inr k ↦ inl (at ∙ k)
        ]

newer_stamp : (s m : State) (seer : Option Subscription) → s.stamp ≤ m.stamp → HasNewStamp m seer → HasNewStamp s seer
newer_stamp s m None l h = absurd h
newer_stamp s m (Some seer) l h = let k : m.stamp < seer.stamp = h in omega (arith, l, k)

pub run_stamps : RunStampsSubscription
run_stamps s t [] [] sub r run = inl (ap (λ (x : State). subscription_at x sub) run)
run_stamps s t [] (q ∷ replies) sub r run = absurd run
run_stamps s t (c ∷ commands) [] sub r run = absurd run
run_stamps s t (c ∷ commands) (q ∷ replies) sub r run =
    let later = run_stamps run.0 t commands replies sub (steps_stay_reached s run.0 c q r run.1) run.2 in
    let goes = steps_go_on s run.0 c q r run.1 in
    elim later [
      | inl same ↦ elim (step_stamps s run.0 c q sub r run.1) [
        | inl kept ↦ inl (same ∙ kept)
        | inr new ↦ inr (subst (HasNewStamp s) (sym same) new)
      ]
      | inr new ↦ inr (newer_stamp s run.0 (subscription_at t sub) goes.stamp new)
    ]

pub stamp_tells : StampTells
stamp_tells s t commands replies sub early late r run here there same = elim (run_stamps s t commands replies sub r run) [
  | inl kept ↦ same_Some late early (sym there ∙ (kept ∙ here))
  | inr new ↦
      (let above : s.stamp < late.stamp = subst (HasNewStamp s) there new in
      let given : early.stamp ≤ s.stamp = (r.served sub early here).stamp in
      absurd (omega (arith, above, given, same)))
]

-- ---- what a Subscribe and a Check leave
written : (s t : State) (sub : ℕ) (query : Query) (shown : List Item) → IsReached s → sub < s.limits.subs →
    t ≡ subscribes s sub query shown → IsPlaced s sub (record { query = query; stamp = s.stamp + 1; shown = shown }) t
written s t sub query shown r l e =
    record {
      here = ap (λ (x : State). subscription_at x sub) e ∙
          get_or-set_same s.subscriptions sub (Some (record { query = query; stamp = s.stamp + 1; shown = shown })) None
          (omega (arith, l, r.places));
      feed_is = ap (λ (x : State). x.feed) e;
    }

pub subscribed_leaves : SubscribedLeaves
subscribed_leaves s t sub query initial overwrite stamp owed r (inl (inl is)) =
    by_cause (first_refusal (against_subscribe x)) refl is.reply_is is.state_is
  where
    x : SubscribeCase
    x = subscribe_case s sub query overwrite

    made : Reply × State
    made = (Subscribed (s.stamp + 1) (owed_at_first (held s) sub query initial), subscribes s sub query (shown_at_first (held s) initial))

    by_cause : (o : Option Refusal) → first_refusal (against_subscribe x) ≡ o →
        Subscribed stamp owed ≡ (option_map_or {U = Reply × State} (λ refusal. (Refused refusal, s)) o made).0
        → t ≡ (option_map_or {U = Reply × State} (λ refusal. (Refused refusal, s)) o made).1 →
        IsPlaced s sub (record { query = query; stamp = stamp; shown = shown_at_first (held s) initial }) t
    by_cause (Some refusal) q e f = absurd (cc)
    by_cause None q e f =
        let place = leb-false s.limits.subs sub (missing (against_subscribe x) (by_command ++ by_room) refusals.BadSub q
        (0, omega arith, refl)) in
        let next : stamp ≡ s.stamp + 1 = cc in
        subst (λ (n : ℕ). IsPlaced s sub (record { query = query; stamp = n; shown = shown_at_first (held s) initial }) t) (sym next)
        (written s t sub query (shown_at_first (held s) initial) r place f)
subscribed_leaves s t sub query initial overwrite stamp owed r (inl (inr w)) =
    absurd (let e : Subscribed stamp owed ≡ Refused _ = w.reply_is in cc)
subscribed_leaves s t sub query initial overwrite stamp owed r (inr w) = absurd w

module _ (s t : State) (sub max : ℕ) (seer : Subscription) (given : List Item) (before after : ℕ) (r : IsReached s)
    (here : subscription_at s sub ≡ Some seer) where
  by_items : sub < s.limits.subs → (items : List Item) → items ≡ take max (unseen s seer) →
      Checked given before after ≡ (shows s sub seer items).0 → t ≡ (shows s sub seer items).1 →
      IsCheckedOn s sub max seer given before after t
  by_items place [] q e f =
      let none : given ≡ [] = cc in
      let b : before ≡ seer.stamp = cc in
      let a : after ≡ seer.stamp = cc in
      let same : seer ≡ record seer { stamp = after; shown = seer.shown ++ given } =
      sym (ap (λ (l : List Item). record seer { shown = l }) (append-nil seer.shown)) ∙
      (ap (λ (n : ℕ). record seer { stamp = n; shown = seer.shown ++ [] }) (sym a) ∙
      ap (λ (l : List Item). record seer { stamp = after; shown = seer.shown ++ l }) (sym none))
      in
      record {
        items_are = none ∙ q;
        before_is = b;
        placed =
            record { here = ap (λ (x : State). subscription_at x sub) f ∙ (here ∙ ap Some same); feed_is = ap (λ (x : State). x.feed) f };
      }
  by_items place (i ∷ items) q e f =
      let all : given ≡ i ∷ items = cc in
      let b : before ≡ seer.stamp = cc in
      let a : after ≡ s.stamp + 1 = cc in
      record {
        items_are = all ∙ q;
        before_is = b;
        placed = subst (λ (l : List Item). IsPlaced s sub (record seer { stamp = after; shown = seer.shown ++ l }) t) (sym all)
            (subst (λ (n : ℕ). IsPlaced s sub (record seer { stamp = n; shown = seer.shown ++ i ∷ items }) t) (sym a)
            (written s t sub seer.query (seer.shown ++ i ∷ items) r place f));
      }

  abbrev out : Option Refusal → Reply × State
  out o = option_map_or {U = Reply × State} (λ refusal. (Refused refusal, s)) o (shows s sub seer (take max (unseen s seer)))

  by_cause : (o : Option Refusal) → first_refusal (against_check (check_case s sub max (Some seer))) ≡ o →
      Checked given before after ≡ (out o).0 → t ≡ (out o).1 → IsCheckedOn s sub max seer given before after t
  by_cause (Some refusal) q e f = absurd (cc)
  by_cause None q e f =
      by_items (leb-false s.limits.subs sub (missing (against_check (check_case s sub max (Some seer))) (by_command ++ by_room)
      refusals.BadSub q (0, omega arith, refl))) (take max (unseen s seer)) refl e f

pub checked_leaves : CheckedLeaves
checked_leaves s t sub max seer items before after r here (inl (inl is)) =
    let at : checking_at s sub max (subscription_at s sub) ≡ checking_at s sub max (Some seer) = ap (checking_at s sub max) here in
    by_cause s t sub max seer items before after r here (first_refusal (against_check (check_case s sub max (Some seer)))) refl
    (is.reply_is ∙ ap (λ (x : Reply × State). x.0) at) (is.state_is ∙ ap (λ (x : Reply × State). x.1) at)
checked_leaves s t sub max seer items before after r here (inl (inr w)) =
    absurd (let e : Checked items before after ≡ Refused _ = w.reply_is in cc)
checked_leaves s t sub max seer items before after r here (inr w) = absurd w
