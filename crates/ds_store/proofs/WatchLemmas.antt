-- What a Subscribe and a Check are answered, in the words of a store's content.
use Rattle.std.proofs.Common.{◌≡◌, ℕ, zero, suc, ◌+◌, ◌<◌, ◌||◌, Bool, true, false, cond, List, [], ◌∷◌, ◌++◌, filter, length, take, get_or}
use Rattle.std.proofs.Common.{Option, Some, None, is_some, refl, ap, ap₂, sym, ◌∙◌, inl, inr, arith}
use Rattle.std.specs.List.{list_any}
use Rattle.std.specs.Option.{option_map, option_map_or, unwrap_or}
use Rattle.ds_entry.specs.declared.item.Item.{Item}
use Rattle.ds_pattern.specs.declared.query.Query.{Query}
use Rattle.ds_watch.specs.Followed.{Followed}
use Rattle.ds_machine.specs.Order.{first_refusal}
use Rattle.ds_machine.specs.Calling.{SubscribeCase, CheckCase, against_subscribe, against_check}
use Rattle.ds_machine.specs.Subscription.{Subscription, is_unseen}
use Rattle.ds_machine.specs.State.{State, held, unseen, subscription_at, subscribes}
use Rattle.ds_machine.specs.Watching.{subscribe_case, subscribing, owed_at_first, shown_at_first, check_case, checking, checking_at, shows}
use Rattle.ds_machine.specs.Watching.{has_unseen}
use Rattle.ds_machine.specs.Machine.{Answers, IsOutcome}
use Rattle.ds_machine.specs.declared.refusal.Refusal.{Refusal}
use Rattle.ds_machine.specs.declared.refusal.Refusal.TheVariants as refusals
use Rattle.ds_machine.specs.declared.reply.Reply.{Reply}
use Rattle.ds_machine.specs.declared.reply.Reply.TheVariants.{Subscribed, Checked, Refused}
use Rattle.ds_machine.specs.declared.command.Command.TheVariants.{Check}
use Rattle.ds_store.specs.Last.{IsLast}
use Rattle.ds_store.specs.Refused.{IsRefusedFor}
use Rattle.ds_store.specs.Cases.{refusal_of_showing}
use Rattle.ds_content.specs.Content.{ContentRecord}
use Rattle.ds_content.specs.Followed.{followed_of}
use Rattle.ds_content.specs.Stands.{ContentStands}
use Rattle.ds_content.proofs.SeenLemmas.{place_of}
use Rattle.ds_store.proofs.AnswerLemmas.{last_of}

mapped_some : {X Y : Type 0} (f : X → Y) (o : Option X) → is_some (option_map f o) ≡ is_some o
mapped_some f None = refl
mapped_some f (Some x) = refl

-- the stamp of the subscription at the place
abbrev pub stamp_at : ContentRecord → ℕ → Option ℕ
stamp_at v sub = option_map (λ (f : Followed). f.stamp) (get_or v.subscriptions sub None)

-- there is a subscription where it has a stamp
pub taken_is : (v : ContentRecord) (s : State) (sub : ℕ) (o : Option ℕ) → ContentStands v s → o ≡ stamp_at v sub →
    is_some o ≡ is_some (subscription_at s sub)
taken_is v s sub o stands e =
    ap is_some e ∙ mapped_some (λ (f : Followed). f.stamp) (get_or v.subscriptions sub None) ∙ ap is_some (place_of v s stands sub) ∙
    mapped_some (followed_of (held s)) (subscription_at s sub)

-- ---- a Subscribe
abbrev pub subscribe_of : ℕ → Bool → ℕ → ℕ → Query → Bool → SubscribeCase
subscribe_of places taken stamp sub query overwrite =
    record { places = places; taken = taken; stamp = stamp; sub = sub; query = query; overwrite = overwrite }

pub subscribe_same : (s : State) (sub : ℕ) (query : Query) (overwrite : Bool) (places : ℕ) (taken : Bool) (stamp : ℕ) →
    places ≡ s.limits.subs → taken ≡ is_some (subscription_at s sub) → stamp ≡ s.stamp
    → subscribe_of places taken stamp sub query overwrite ≡ subscribe_case s sub query overwrite
subscribe_same s sub query overwrite places taken stamp p q r = λ i.
    record { places = p i; taken = q i; stamp = r i; sub = sub; query = query; overwrite = overwrite }

module _ (s : State) (sub : ℕ) (query : Query) (initial overwrite : Bool) where
  abbrev subscribed_with : Option Refusal → Reply × State
  subscribed_with o = option_map_or (λ refusal. (Refused refusal, s)) o
      (Subscribed (s.stamp + 1) (owed_at_first (held s) sub query initial), subscribes s sub query (shown_at_first (held s) initial))

  pub subscribe_refused : (x : SubscribeCase) (r : Refusal) → x ≡ subscribe_case s sub query overwrite →
      IsRefusedFor (first_refusal (against_subscribe x)) r → Answers s (subscribing s sub query initial overwrite) (Refused r) s
  subscribe_refused x r same (inl e) = inr (record { reply_is = ap (λ y. Refused y) e; state_is = refl })
  subscribe_refused x r same (inr e) =
      let now : first_refusal (against_subscribe (subscribe_case s sub query overwrite)) ≡ Some r =
      ap (λ (y : SubscribeCase). first_refusal (against_subscribe y)) (sym same) ∙ e in
      inl (record { reply_is = sym (ap (λ o. (subscribed_with o).0) now); state_is = sym (ap (λ o. (subscribed_with o).1) now) })

  pub subscribe_made : (v : ContentRecord) (x : SubscribeCase) (n bits : ℕ) → ContentStands v s → x ≡ subscribe_case s sub query overwrite →
      first_refusal (against_subscribe x) ≡ None → n ≡ v.stamp + 1 → bits ≡ owed_at_first v.held sub query initial
      → Answers s (subscribing s sub query initial overwrite) (Subscribed n bits) (subscribes s sub query (shown_at_first v.held initial))
  subscribe_made v x n bits stands same none e owes =
      let now : first_refusal (against_subscribe (subscribe_case s sub query overwrite)) ≡ None =
      ap (λ (y : SubscribeCase). first_refusal (against_subscribe y)) (sym same) ∙ none in
      inl (record {
        reply_is = ap₂ (λ a b. Subscribed a b) (e ∙ ap (λ m. m + 1) stands.stamp)
            (owes ∙ ap (λ hs. owed_at_first hs sub query initial) stands.held) ∙ sym (ap (λ o. (subscribed_with o).0) now);
        state_is = ap (λ hs. subscribes s sub query (shown_at_first hs initial)) stands.held ∙ sym (ap (λ o. (subscribed_with o).1) now);
      })

-- ---- a Check
abbrev pub check_of : ℕ → Bool → Bool → ℕ → ℕ → ℕ → CheckCase
check_of places taken some stamp sub max = record { places = places; taken = taken; some = some; stamp = stamp; sub = sub; max = max }

-- something is to be shown to the subscription at the place
abbrev pub is_shown : State → Option Subscription → Bool
is_shown s seer = option_map_or (has_unseen s) seer false

pub check_refused : (s : State) (sub max : ℕ) (r : Refusal) →
    first_refusal (against_check (check_case s sub max (subscription_at s sub))) ≡ Some r → IsOutcome (checking s sub max) (Refused r) s
check_refused s sub max r e =
    let rest = option_map_or (λ f. shows s sub f (take max (unseen s f))) (subscription_at s sub) (Refused refusals.NotFound, s) in
    let result : Option Refusal → Reply × State = λ o. option_map_or (λ x. (Refused x, s)) o rest in
    record { reply_is = sym (ap (λ o. (result o).0) e); state_is = sym (ap (λ o. (result o).1) e) }

-- a Check that no refusal applies to before showing: its subscription, with this stamp, and the refusal to show
pub record IsBegun (s : State) (sub max stamp : ℕ) : Type 0 where
  pub seer : Subscription
  pub here : subscription_at s sub ≡ Some seer
  pub stamp_is : stamp ≡ seer.stamp
  pub left : first_refusal (against_check (check_case s sub max (subscription_at s sub))) ≡ refusal_of_showing (has_unseen s seer) s.stamp

-- what a Check meets: the number of places, and at its own a subscription with this stamp, or none
module _ (v : ContentRecord) (s : State) (sub max places : ℕ) (last : Option ℕ) (stands : ContentStands v s) (p : places ≡ v.limits.subs)
    (q : last ≡ stamp_at v sub) where
  -- the refusal that applies to it in each case
  abbrev IsAgainst : (Bool → ℕ → Option Refusal) → Type 0
  IsAgainst f = (some : Bool) (stamp : ℕ) → first_refusal (against_check (check_of places (is_some last) some stamp sub max)) ≡ f some stamp

  judged : (f : Bool → ℕ → Option Refusal) → IsAgainst f →
      first_refusal (against_check (check_case s sub max (subscription_at s sub))) ≡ f (is_shown s (subscription_at s sub)) s.stamp
  judged f all =
      let some = is_shown s (subscription_at s sub) in
      let limit = p ∙ ap (λ l. l.subs) stands.limits in
      let taken = taken_is v s sub last stands q in
      let same : check_of places (is_some last) some s.stamp sub max ≡ check_case s sub max (subscription_at s sub) = λ i.
      record { places = limit i; taken = taken i; some = some; stamp = s.stamp; sub = sub; max = max } in
      sym (ap (λ (x : CheckCase). first_refusal (against_check x)) same) ∙ all some s.stamp

  pub check_first : (r : Refusal) → IsAgainst (λ some stamp. Some r) → IsOutcome (checking s sub max) (Refused r) s
  check_first r all = check_refused s sub max r (judged (λ some stamp. Some r) all)

  pub begun : (n : ℕ) → last ≡ Some n → IsAgainst refusal_of_showing → IsBegun s sub max n
  begun n made all = by_place (subscription_at s sub) refl
    where
      there : Some n ≡ option_map (λ (f : Followed). f.stamp) (option_map (followed_of (held s)) (subscription_at s sub))
      there = sym made ∙ q ∙ ap (option_map (λ (f : Followed). f.stamp)) (place_of v s stands sub)

      by_place : (o : Option Subscription) → subscription_at s sub ≡ o → IsBegun s sub max n
      by_place None e = absurd (let no : Some n ≡ None =
          there ∙ ap (λ o. option_map (λ (f : Followed). f.stamp) (option_map (followed_of (held s)) o)) e in cc)
      by_place (Some seer) e =
          let same : Some n ≡ Some seer.stamp = there ∙
          ap (λ o. option_map (λ (f : Followed). f.stamp) (option_map (followed_of (held s)) o)) e in
          let one : n ≡ seer.stamp = cc in
          record {
            seer = seer;
            here = e;
            stamp_is = one;
            left =
                judged refusal_of_showing all ∙ ap (λ o. refusal_of_showing (is_shown s o) s.stamp) e;
          }

-- ---- what is shown
-- there are some
abbrev pub are_some : List Item → Bool
are_some [] = false
are_some (i ∷ items) = true

any_passes : (p : Item → Bool) (xs : List Item) → list_any p xs ≡ are_some (filter p xs)
any_passes p [] = refl
any_passes p (x ∷ xs) = by_test (p x) (any_passes p xs)
  where
    by_test : (b : Bool) → list_any p xs ≡ are_some (filter p xs) → b || list_any p xs ≡ are_some (cond b (x ∷ filter p xs) (filter p xs))
    by_test true e = refl
    by_test false e = e

some_taken : (n : ℕ) (xs : List Item) → 0 < n → are_some (take n xs) ≡ are_some xs
some_taken zero xs l = absurd (omega arith)
some_taken (suc n) [] l = refl
some_taken (suc n) (x ∷ xs) l = refl

-- something is shown where something is to be shown
pub some_is : (s : State) (seer : Subscription) (max : ℕ) (items : List Item) → 0 < max → items ≡ take max (unseen s seer) →
    are_some items ≡ has_unseen s seer
some_is s seer max items l e =
    ap are_some e ∙ some_taken max (unseen s seer) l ∙ sym (any_passes (is_unseen seer.query seer.shown) (held s))

pub no_items : (items : List Item) → length items ≡ 0 → items ≡ []
no_items [] e = refl
no_items (i ∷ items) e = absurd (omega (arith, e))

pub some_items : (items : List Item) → 0 < length items → are_some items ≡ true
some_items [] l = absurd (omega (arith, l))
some_items (i ∷ items) l = refl

-- what could not be shown because memory ran out is refused by what applies, or else for lack of memory
pub check_short : (s : State) (sub max : ℕ) (o : Option Refusal) →
    first_refusal (against_check (check_case s sub max (subscription_at s sub))) ≡ o →
    Answers s (checking s sub max) (Refused (unwrap_or o refusals.NoRoom)) s
check_short s sub max None e = inr (record { reply_is = refl; state_is = refl })
check_short s sub max (Some r) e = inl (check_refused s sub max r e)

pub short_last : (s : State) (sub max : ℕ) (o : Option Refusal) → (check_case s sub max (subscription_at s sub)).some ≡ true →
    first_refusal (against_check (check_case s sub max (subscription_at s sub))) ≡ o →
    IsLast s (Check sub max) (Refused (unwrap_or o refusals.NoRoom))
short_last s sub max None shown e = (e, shown)
short_last s sub max (Some r) shown e = last_of s (Check sub max) (Refused r) s (check_refused s sub max r e)

module _ (s : State) (sub max : ℕ) (seer : Subscription) (here : subscription_at s sub ≡ Some seer) where
  abbrev checked_with : Option Refusal → Reply × State
  checked_with o = option_map_or (λ r. (Refused r, s)) o (shows s sub seer (take max (unseen s seer)))

  -- a Check that no refusal applies to shows the first
  pub checking_is : first_refusal (against_check (check_case s sub max (subscription_at s sub))) ≡ None →
      checking s sub max ≡ shows s sub seer (take max (unseen s seer))
  checking_is none =
      let at : first_refusal (against_check (check_case s sub max (Some seer))) ≡ None =
      ap (λ o. first_refusal (against_check (check_case s sub max o))) (sym here) ∙ none in
      ap (checking_at s sub max) here ∙ ap checked_with at

  pub check_empty : (n : ℕ) (items : List Item) → first_refusal (against_check (check_case s sub max (subscription_at s sub))) ≡ None →
      items ≡ take max (unseen s seer) →
      items ≡ [] → n ≡ seer.stamp → IsOutcome (checking s sub max) (Checked items n n) s
  check_empty n items none e empty stamp =
      let now : checking s sub max ≡ (Checked [] seer.stamp seer.stamp, s) = checking_is none ∙ ap (shows s sub seer) (sym e ∙ empty) in
      record {
        reply_is = ap₂ (λ a b. Checked a b b) empty stamp ∙ sym (ap (λ (x : Reply × State). x.0) now);
        state_is =
            sym (ap (λ (x : Reply × State). x.1) now);
      }

  shows_some : (items : List Item) → are_some items ≡ true →
      shows s sub seer items ≡ (Checked items seer.stamp (s.stamp + 1), subscribes s sub seer.query (seer.shown ++ items))
  shows_some [] l = absurd (cc)
  shows_some (i ∷ items) l = refl

  pub check_done : (n m : ℕ) (items : List Item) → first_refusal (against_check (check_case s sub max (subscription_at s sub))) ≡ None →
      items ≡ take max (unseen s seer) → are_some items ≡ true → n ≡ seer.stamp → m ≡ s.stamp + 1
      → IsOutcome (checking s sub max) (Checked items n m) (subscribes s sub seer.query (seer.shown ++ items))
  check_done n m items none e some stamp next =
      let now : checking s sub max ≡ (Checked items seer.stamp (s.stamp + 1), subscribes s sub seer.query (seer.shown ++ items)) =
      checking_is none ∙ ap (shows s sub seer) (sym e) ∙ shows_some items some in
      record {
        reply_is = ap₂ (λ a b. Checked items a b) stamp next ∙ sym (ap (λ (x : Reply × State). x.0) now);
        state_is =
            sym (ap (λ (x : Reply × State). x.1) now);
      }
