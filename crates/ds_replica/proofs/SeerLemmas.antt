-- A subscription, and what was shown to it.
use Rattle.std.proofs.Common.{◌≡◌, ◌==◌, ℕ, ◌+◌, ◌<◌, nat_le, Bool, true, false, ◌&&◌, List, [], ◌∷◌, ◌++◌, take, Option, Some, None, refl}
use Rattle.std.proofs.Common.{ap, sym, ◌∙◌, subst, inl, inr, arith, append-nil, get_or-set_same, get_or-set_other}
use Rattle.std.proofs.lemmas.Bool.{leb-false}
use Rattle.std.proofs.lemmas.Bool.Decides.{eqb_tells}
use Rattle.std.specs.Option.{option_map_or}
use Rattle.ds_entry.specs.declared.item.Item.{Item}
use Rattle.ds_pattern.specs.declared.query.Query.{Query}
use Rattle.ds_machine.specs.Subscription.{Subscription}
use Rattle.ds_machine.specs.State.{State, held, unseen, subscription_at, subscribes as serves}
use Rattle.ds_machine.specs.Order.{by_command, by_room, first_refusal}
use Rattle.ds_machine.specs.Calling.{SubscribeCase, against_subscribe, against_check}
use Rattle.ds_machine.specs.Watching.{owed_at_first, shown_at_first, subscribe_case, shows, check_case}
use Rattle.ds_machine.specs.Machine.{Step}
use Rattle.ds_machine.specs.Reached.{IsReached}
use Rattle.ds_machine.specs.Effect.{Effect, uses}
use Rattle.ds_machine.specs.declared.refusal.Refusal.{Refusal}
use Rattle.ds_machine.specs.declared.refusal.Refusal.TheVariants as refusals
use Rattle.ds_machine.specs.declared.command.Command.{Command}
use Rattle.ds_machine.specs.declared.command.Command.TheVariants.{Subscribe, Check}
use Rattle.ds_machine.specs.declared.reply.Reply.{Reply}
use Rattle.ds_machine.specs.declared.reply.Reply.TheVariants.{Subscribed, Checked, Refused}
use Rattle.ds_machine.proofs.PartLemmas.{missing}
use Rattle.ds_machine.proofs.EffectLemmas.{step_has_effect}
use Rattle.ds_machine.proofs.FitLemmas.{replies_fit}
use Rattle.ds_machine.proofs.SaysLemmas.{refused_says}
use Rattle.ds_replica.specs.declared.event.Side.{Side}
use Rattle.ds_replica.specs.declared.event.Side.TheVariants.{A, B}
use Rattle.ds_replica.specs.World.{World, store_at, with_state}
use Rattle.ds_replica.specs.Happens.{items_given}
use Rattle.ds_replica.specs.Turns.{is_side}

-- ---- a subscription, and what was shown to it
pub record Shows (s : State) (sub : ℕ) (query : Query) (shown : List Item) : Type 0 where
  pub seer : Subscription
  pub here : subscription_at s sub ≡ Some seer
  pub query_is : seer.query ≡ query
  pub shown_is : seer.shown ≡ shown

pub still_shows : (s t : State) (sub : ℕ) (query : Query) (shown : List Item) → subscription_at t sub ≡ subscription_at s sub →
    Shows s sub query shown → Shows t sub query shown
still_shows s t sub query shown e h = record { seer = h.seer; here = e ∙ h.here; query_is = h.query_is; shown_is = h.shown_is }

pub same_seer : (f g : Subscription) → Some f ≡ Some g → f ≡ g
same_seer f g e = cc

pub same_items : (xs ys : List Item) → Some xs ≡ Some ys → xs ≡ ys
same_items xs ys e = cc

-- a step leaves every subscription that its command doesn't name
pub place_kept : (s t : State) (sub : ℕ) (command : Command) (reply : Reply) → IsReached s → Step s command reply t →
    uses sub command ≡ false → subscription_at t sub ≡ subscription_at s sub
place_kept s t sub command reply r step e = by_effect (step_has_effect s t command reply r step)
  where
    by_effect : Effect s command reply t → subscription_at t sub ≡ subscription_at s sub
    by_effect (inl g) = ap (λ (x : State). subscription_at x sub) g.state_is
    by_effect (inr v) =
        ap (λ (x : State). subscription_at x sub) v.state_is
        ∙ get_or-set_other s.subscriptions v.sub sub (Some (record { query = v.query; stamp = s.stamp + 1; shown = v.shown })) None
        (λ q. let n : true ≡ false = sym v.used ∙ (ap (λ (j : ℕ). uses j command) (sym q) ∙ e) in cc)

-- a subscription that was written
pub written : (s : State) (sub : ℕ) (query : Query) (shown : List Item) → IsReached s → nat_le s.limits.subs sub ≡ false
    → subscription_at (serves s sub query shown) sub ≡ Some (record { query = query; stamp = s.stamp + 1; shown = shown })
written s sub query shown r e =
    let l : sub < s.limits.subs = leb-false s.limits.subs sub e in
    get_or-set_same s.subscriptions sub (Some (record { query = query; stamp = s.stamp + 1; shown = shown })) None
    (omega (arith, l, r.places))

module _ (s t : State) (sub : ℕ) (r : IsReached s) where
  -- with INITIAL nothing counts as shown
  pub begins_shown : (query : Query) (overwrite : Bool) (stamp owed : ℕ) →
      Step s (Subscribe sub query true overwrite) (Subscribed stamp owed) t → Shows t sub query []
  begins_shown query overwrite stamp owed (inl (inl is)) = by_cause (first_refusal (against_subscribe x)) refl is.reply_is is.state_is
    where
      x : SubscribeCase
      x = subscribe_case s sub query overwrite

      out : Option Refusal → Reply × State
      out o = option_map_or {U = Reply × State} (λ refusal. (Refused refusal, s)) o
          (Subscribed (s.stamp + 1) (owed_at_first (held s) sub query true), serves s sub query (shown_at_first (held s) true))

      by_cause : (o : Option Refusal) → first_refusal (against_subscribe x) ≡ o → Subscribed stamp owed ≡ (out o).0 → t ≡ (out o).1 →
          Shows t sub query []
      by_cause (Some refusal) q e f = absurd (let n : Subscribed stamp owed ≡ Refused refusal = e in cc)
      by_cause None q e f =
          record {
            seer = record { query = query; stamp = s.stamp + 1; shown = [] };
            here = ap (λ (y : State). subscription_at y sub) f ∙
                written s sub query [] r (missing (against_subscribe x) (by_command ++ by_room) refusals.BadSub q (0, omega arith, refl));
            query_is = refl;
            shown_is = refl;
          }
  begins_shown query overwrite stamp owed (inl (inr w)) = absurd (let n : Subscribed stamp owed ≡ Refused _ = w.reply_is in cc)
  begins_shown query overwrite stamp owed (inr w) = absurd w

  -- a Check adds what it showed
  pub check_shows : (query : Query) (max : ℕ) (reply : Reply) (items shown : List Item) → Step s (Check sub max) reply t →
      items_given reply ≡ Some items → Shows s sub query shown → Shows t sub query (shown ++ items)
  check_shows query max reply items shown (inl (inl is)) e h =
      by_case (subscription_at s sub) refl (first_refusal (against_check (check_case s sub max (subscription_at s sub)))) refl is.reply_is
      is.state_is
    where
      out : Option Subscription → Option Refusal → Reply × State
      out o p = option_map_or {U = Reply × State} (λ f. (Refused f, s)) p
          (option_map_or {U = Reply × State} (λ f. shows s sub f (take max (unseen s f))) o (Refused refusals.NotFound, s))

      none : (refusal : Refusal) → reply ≡ Refused refusal → ⊥
      none refusal q = let n : None ≡ Some items = sym (ap items_given q) ∙ e in cc

      by_items : (f : Subscription) → subscription_at s sub ≡ Some f → nat_le s.limits.subs sub ≡ false → (l : List Item) →
          reply ≡ (shows s sub f l).0 → t ≡ (shows s sub f l).1 → Shows t sub query (shown ++ items)
      by_items f here place [] q g =
          let same : [] ≡ items = same_items [] items (sym (ap items_given q) ∙ e) in
          subst (λ (l : List Item). Shows t sub query (shown ++ l)) same
          (subst (Shows t sub query) (sym (append-nil shown))
          (still_shows s t sub query shown (ap (λ (y : State). subscription_at y sub) g) h))
      by_items f here place (i ∷ l) q g =
          let same : i ∷ l ≡ items = same_items (i ∷ l) items (sym (ap items_given q) ∙ e) in
          let seer : f ≡ h.seer = same_seer f h.seer (sym here ∙ h.here) in
          subst (λ (l : List Item). Shows t sub query (shown ++ l)) same
          (record {
            seer = record { query = f.query; stamp = s.stamp + 1; shown = f.shown ++ i ∷ l };
            here = ap (λ (y : State). subscription_at y sub) g ∙ written s sub f.query (f.shown ++ i ∷ l) r place;
            query_is = ap (λ (y : Subscription). y.query) seer ∙ h.query_is;
            shown_is = ap (λ (k : List Item). k ++ i ∷ l) (ap (λ (y : Subscription). y.shown) seer ∙ h.shown_is);
          })

      by_case : (o : Option Subscription) → subscription_at s sub ≡ o → (p : Option Refusal) →
          first_refusal (against_check (check_case s sub max (subscription_at s sub))) ≡ p →
          reply ≡ (out o p).0 → t ≡ (out o p).1 → Shows t sub query (shown ++ items)
      by_case o here (Some refusal) m q g = absurd (none refusal q)
      by_case None here None m q g = absurd (none refusals.NotFound q)
      by_case (Some f) here None m q g = by_items f here
          (missing (against_check (check_case s sub max (subscription_at s sub))) (by_command ++ by_room) refusals.BadSub m
          (0, omega arith, refl)) (take max (unseen s f)) q g
  check_shows query max reply items shown (inl (inr w)) e h = absurd (let n : None ≡ Some items = sym (ap items_given w.reply_is) ∙ e in cc)
  check_shows query max reply items shown (inr w) e h = absurd w

  -- a Check that showed nothing was refused
  pub unchecked : (max : ℕ) (reply : Reply) → Step s (Check sub max) reply t → items_given reply ≡ None → t ≡ s
  unchecked max (Refused refusal) step e = refused_says s t (Check sub max) refusal step
  unchecked max (Checked items before after) step e = absurd (let n : Some items ≡ None = e in cc)
  unchecked max reply step e = absurd (replies_fit s t (Check sub max) reply step)

  -- nor was the subscription made, where the reply doesn't say so
  pub unmade : (n : ℕ) (query : Query) (initial overwrite : Bool) (reply : Reply) → Step s (Subscribe n query initial overwrite) reply t →
      ((stamp owed : ℕ) → reply ≡ Subscribed stamp owed → ⊥) → t ≡ s
  unmade n query initial overwrite (Refused refusal) step e = refused_says s t (Subscribe n query initial overwrite) refusal step
  unmade n query initial overwrite (Subscribed stamp owed) step e = absurd (e stamp owed refl)
  unmade n query initial overwrite reply step e = absurd (replies_fit s t (Subscribe n query initial overwrite) reply step)

-- ---- sides
pub side_itself : (side : Side) → is_side side side ≡ true
side_itself A = refl
side_itself B = refl

pub one_side : (s side : Side) → is_side s side ≡ true → s ≡ side
one_side A A e = refl
one_side A B e = absurd (let n : false ≡ true = e in cc)
one_side B A e = absurd (let n : false ≡ true = e in cc)
one_side B B e = refl

pub store_put : (w : World) (side : Side) (t : State) → store_at (with_state w side t) side ≡ t
store_put w A t = refl
store_put w B t = refl

pub store_other : (w : World) (s side : Side) (t : State) → is_side s side ≡ false → store_at (with_state w s t) side ≡ store_at w side
store_other w A A t e = absurd (let n : true ≡ false = e in cc)
store_other w A B t e = refl
store_other w B A t e = refl
store_other w B B t e = absurd (let n : true ≡ false = e in cc)

pub itself : (n : ℕ) → (n == n) ≡ true
itself n = elim (eqb_tells n n) [ inl y ↦ y.0 | inr d ↦ absurd (d.1 refl) ]

pub and_false : (a b : Bool) → b ≡ false → a && b ≡ false
and_false true b e = e
and_false false b e = refl
