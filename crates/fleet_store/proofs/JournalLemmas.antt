-- What a Since of all keys is answered.
use Rattle.std.proofs.Common.{◌≡◌, ◌≢◌, ◌∙◌, ℕ, zero, suc, ◌+◌, ◌==◌, nat_lt, Bool, true, false, not, cond, List, [], ◌∷◌}
use Rattle.std.proofs.Common.{length, filter, take}
use Rattle.std.proofs.Common.{Option, Some, None, refl, sym, ap, subst, inl, inr, ◌⊎◌, arith, eq-eqb, min}
use Rattle.std.proofs.lemmas.Option.{same_Some}
use Rattle.std.proofs.lemmas.Bool.Decides.{nat_tests}
use Rattle.std.specs.Option.{option_map_or}
use Rattle.ds_entry.specs.declared.item.Item.{Item}
use Rattle.ds_entry.specs.declared.item.Item.TheVariants.{Change as Changed, Floor as Floored}
use Rattle.ds_feed.specs.Feed.{Feed, position, from}
use Rattle.ds_feed.specs.Since.{beyond, prefix, since_of}
use Rattle.ds_feed.specs.declared.cursor.Cursor.{Cursor}
use Rattle.ds_feed.specs.declared.reading.Since as readings
use Rattle.ds_machine.specs.Scope.{is_kept}
use Rattle.ds_machine.specs.State.{State}
use Rattle.ds_machine.specs.Order.{first_refusal}
use Rattle.ds_machine.specs.Calling.{against_since}
use Rattle.ds_machine.specs.Machine.{Step}
use Rattle.ds_machine.specs.declared.command.Scope.TheVariants.{All}
use Rattle.ds_machine.specs.declared.command.Command.TheVariants.{Since}
use Rattle.ds_machine.specs.declared.refusal.Refusal.{Refusal}
use Rattle.ds_machine.specs.declared.refusal.Refusal.TheVariants.{OldCursor, Ahead, Behind, NoRoom}
use Rattle.ds_machine.specs.declared.reply.Reply.{Reply}
use Rattle.ds_machine.specs.declared.reply.Reply.TheVariants.{Journaled, Refused}
use Rattle.ds_machine.proofs.SaysLemmas.{refused_says}
use Rattle.ds_content.specs.Content.{ContentRecord}
use Rattle.ds_content.specs.Stands.{ContentStands, InEachState}
use Rattle.ds_store.specs.Last.{IsLast}
use Rattle.ds_store.specs.Steps.{ContentSteps}
use Rattle.fleet_store.specs.Journal.{IsInJournal, IsNewsRefusal, news_from, news_after}

-- ---- items of all keys

all_kept : (i : Item) → is_kept All i ≡ true
all_kept (Changed c) = refl
all_kept (Floored f) = refl

first_ones : (n : ℕ) (items : List Item) → filter (is_kept All) (prefix (is_kept All) n items) ≡ take n items
first_ones zero items = refl
first_ones (suc n) [] = refl
first_ones (suc n) (i ∷ items) =
    ap (λ (b : Bool).
    cond b (i ∷ filter (is_kept All) (prefix (is_kept All) (cond b n (suc n)) items))
    (filter (is_kept All) (prefix (is_kept All) (cond b n (suc n)) items))) (all_kept i) ∙
    ap (λ (l : List Item). i ∷ l) (first_ones n items)

-- ---- the store stays

abbrev since_step : Cursor → State → Reply → State → Type 0
since_step at s reply t = Step s (Since All at 256) reply t

abbrev answer : State → Cursor → Option Refusal → Reply × State
answer s at o = option_map_or {U = Reply × State} (λ x. (Refused x, s)) o (Journaled (since_of s.feed (is_kept All) at 256), s)

abbrev since_in : readings.Since → Reply → readings.Since
since_in d (Journaled since) = since
since_in d _ = d

record IsJournaled (s : State) (at : Cursor) (since : readings.Since) (t : State) : Type 0 where
  since_is : since ≡ since_of s.feed (is_kept All) at 256
  state_is : t ≡ s
  free : first_refusal (against_since s.feed All at 256) ≡ None

journaled_by : (s t : State) (at : Cursor) (since : readings.Since) (o : Option Refusal) →
    first_refusal (against_since s.feed All at 256) ≡ o →
    Journaled since ≡ (answer s at o).0 → t ≡ (answer s at o).1 → IsJournaled s at since t
journaled_by s t at since (Some r) q e f = absurd (let n : Journaled since ≡ Refused r = e in cc)
journaled_by s t at since None q e f = record { since_is = ap (since_in since) e; state_is = f; free = q }

journaled : (s t : State) (at : Cursor) (since : readings.Since) → since_step at s (Journaled since) t → IsJournaled s at since t
journaled s t at since (inl (inl is)) =
    journaled_by s t at since (first_refusal (against_since s.feed All at 256)) refl is.reply_is is.state_is
journaled s t at since (inl (inr wants)) = absurd (let n : Journaled since ≡ Refused NoRoom = wants.reply_is in cc)
journaled s t at since (inr wants) = absurd wants

pub stays_given : (old new : ContentRecord) (at : Cursor) (since : readings.Since) →
    ContentSteps old (λ s t. since_step at s (Journaled since) t) new → InEachState old (ContentStands new)
stays_given old new at since steps s h =
    let t = steps s h in
    subst (λ (x : State). ContentStands new x) (journaled s t.0 at since t.1).state_is t.2

pub stays_refused : (old new : ContentRecord) (at : Cursor) (r : Refusal) → ContentSteps old (λ s t. since_step at s (Refused r) t) new →
    InEachState old (ContentStands new)
stays_refused old new at r steps s h =
    let t = steps s h in
    subst (λ (x : State). ContentStands new x) (refused_says s t.0 (Since All at 256) r t.1) t.2

-- ---- the items

-- The items looked at are those returned, since all are kept.
looked_at : (n : ℕ) (items : List Item) → prefix (is_kept All) n items ≡ take n items
looked_at zero items = refl
looked_at (suc n) [] = refl
looked_at (suc n) (i ∷ items) =
    ap (λ (b : Bool). i ∷ prefix (is_kept All) (cond b n (suc n)) items) (all_kept i) ∙ ap (λ (l : List Item). i ∷ l) (looked_at n items)

news_is : (f : Feed) (at : ℕ) → since_of f (is_kept All) (record { incarnation = f.incarnation; position = at }) 256 ≡ news_after f at
news_is f at =
    ap (λ (l : List Item). record {
      items = l;
      cursor = beyond (record { incarnation = f.incarnation; position = at })
          (length (prefix (is_kept All) 256 (from f at)));
    }) (first_ones 256 (from f at)) ∙
    ap (λ (l : List Item). record {
      items = news_from f at;
      cursor = beyond (record { incarnation = f.incarnation; position = at })
          (length l);
    })
    (looked_at 256 (from f at))

abbrev cursor : ℕ → ℕ → Cursor
cursor n at = record { incarnation = n; position = at }

pub items_given : (old new : ContentRecord) (at : Cursor) (since : readings.Since) → at.incarnation ≡ old.journal.incarnation →
    ContentSteps old (λ s t. since_step at s (Journaled since) t) new → InEachState old (λ s. since ≡ news_after s.feed at.position)
items_given old new at since same steps s h =
    let t = steps s h in
    (journaled s t.0 at since t.1).since_is ∙
    ap (λ (n : ℕ). since_of s.feed (is_kept All) (cursor n at.position) 256) (same ∙ h.journal.incarnation) ∙ news_is s.feed at.position

-- ---- the refusals

by_three : (a b c : Bool) (r : Refusal) → a ≡ false →
    cond a (Some OldCursor) (cond b (Some Ahead) (cond c (Some Behind) None)) ≡ Some r →
    ((r ≡ Ahead) × (b ≡ true)) ⊎ ((r ≡ Behind) × (b ≡ false) × (c ≡ true))
by_three true b c r e q = absurd (let n : true ≡ false = e in cc)
by_three false true c r e q = inl (sym (same_Some _ _ q), refl)
by_three false false true r e q = inr (sym (same_Some _ _ q), refl, refl)
by_three false false false r e q = absurd (let n : None ≡ Some r = q in cc)

by_none : (a b c : Bool) → a ≡ false → cond a (Some OldCursor) (cond b (Some Ahead) (cond c (Some Behind) None)) ≡ None →
    (b ≡ false) × (c ≡ false)
by_none true b c e q = absurd (let n : true ≡ false = e in cc)
by_none false true c e q = absurd (let n : Some Ahead ≡ None = q in cc)
by_none false false true e q = absurd (let n : Some Behind ≡ None = q in cc)
by_none false false false e q = (refl, refl)

module _ (f : Feed) (at : Cursor) (same : at.incarnation ≡ f.incarnation) where
  old_cursor : not (at.incarnation == f.incarnation) ≡ false
  old_cursor = ap not (eq-eqb at.incarnation f.incarnation same)

  is_refused : (r : Refusal) → first_refusal (against_since f All at 256) ≡ Some r → IsNewsRefusal f at.position r
  is_refused r e =
      elim (by_three (not (at.incarnation == f.incarnation)) (nat_lt (position f) at.position)
      (nat_lt (at.position + min f.ring (length f.accepted)) (position f)) r old_cursor e) [
        | inl q ↦ subst (IsNewsRefusal f at.position) (sym q.0) (let b = q.1 in grind (arith, nat_tests))
        | inr q ↦ subst (IsNewsRefusal f at.position) (sym q.0)
            (let b = q.1 in let c = q.2 in (grind (arith, nat_tests), grind (arith, nat_tests)))
      ]

  is_free : first_refusal (against_since f All at 256) ≡ None → IsInJournal f at.position
  is_free e =
      let q = by_none (not (at.incarnation == f.incarnation)) (nat_lt (position f) at.position)
      (nat_lt (at.position + min f.ring (length f.accepted)) (position f)) old_cursor e in
      let b = q.0 in
      let c = q.1 in
      (grind (arith, nat_tests), grind (arith, nat_tests))

  lacks_room : first_refusal (against_since f All at 256) ≡ None → (since_of f (is_kept All) at 256).items ≢ [] →
      IsNewsRefusal f at.position NoRoom
  lacks_room e some = (is_free e, λ (n : news_from f at.position ≡ []). some (first_ones 256 (from f at.position) ∙ n))

abbrev refusal_in : Refusal → Reply → Refusal
refusal_in d (Refused x) = x
refusal_in d _ = d

same_refusal : (r x : Refusal) → Refused r ≡ Refused x → r ≡ x
same_refusal r x e = ap (refusal_in r) e

pub in_journal : (old new : ContentRecord) (at : Cursor) (since : readings.Since) → at.incarnation ≡ old.journal.incarnation →
    ContentSteps old (λ s t. since_step at s (Journaled since) t) new → InEachState old (λ s. IsInJournal s.feed at.position)
in_journal old new at since same steps s h =
    let t = steps s h in is_free s.feed at (same ∙ h.journal.incarnation) (journaled s t.0 at since t.1).free

by_outcome : (s : State) (at : Cursor) (r : Refusal) (o : Option Refusal) →
    Refused r ≡ (answer s at o).0 →
    o ≡ Some r
by_outcome s at r (Some x) e = ap Some (sym (same_refusal r x e))
by_outcome s at r None e = absurd (let n : Refused r ≡ Journaled (since_of s.feed (is_kept All) at 256) = e in cc)

pub refused_so : (old new : ContentRecord) (at : Cursor) (r : Refusal) → at.incarnation ≡ old.journal.incarnation →
    ContentSteps old (λ s t. since_step at s (Refused r) t) new → InEachState old (λ s. IsLast s (Since All at 256) (Refused r)) →
    InEachState old (λ s. IsNewsRefusal s.feed at.position r)
refused_so old new at r same steps last s h = by_step (steps s h).0 (steps s h).1
  where
    here : at.incarnation ≡ s.feed.incarnation
    here = same ∙ h.journal.incarnation

    lacks : r ≡ NoRoom → IsNewsRefusal s.feed at.position r
    lacks e =
        let may : IsLast s (Since All at 256) (Refused NoRoom) =
        subst (λ (x : Refusal). IsLast s (Since All at 256) (Refused x)) e (last s h) in
        subst (IsNewsRefusal s.feed at.position) (sym e) (lacks_room s.feed at here may.0 may.1)

    by_step : (t : State) → since_step at s (Refused r) t → IsNewsRefusal s.feed at.position r
    by_step t (inl (inl is)) =
        is_refused s.feed at here r (by_outcome s at r (first_refusal (against_since s.feed All at 256)) is.reply_is)
    by_step t (inl (inr wants)) = lacks (same_refusal r NoRoom wants.reply_is)
    by_step t (inr wants) = absurd wants
