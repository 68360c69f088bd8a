-- Taking items in order.
use Rattle.std.proofs.Common.{◌≡◌, ℕ, ◌+◌, ◌<◌, ◌≤◌, ◌^◌, Bool, true, false, cond, List, [], ◌∷◌, ◌++◌, length, filter, take, drop, zero}
use Rattle.std.proofs.Common.{suc, Option, Some, None, Ok, IsFalse, IsTrue}
use Rattle.std.proofs.Common.{refl, sym, ap, ◌∙◌, subst, inl, inr, append-nil, length-append, length-drop, arith}
use Rattle.std.proofs.lemmas.List.{take_more, take_all}
use Rattle.std.proofs.lemmas.Bool.{or_parts}
use Rattle.std.proofs.lemmas.List.Elements.{filter-append}
use Rattle.std.proofs.lemmas.Option.{get_or_from_slice_get, same_Some, slice_get_within}
use Rattle.std.specs.List.{list_any, slice_get}
use Rattle.std.specs.Option.{IfSome, is_some}
use Rattle.ds_entry.specs.declared.item.Item.{Item}
use Rattle.ds_entry.specs.declared.item.Item.TheVariants.{Change as Changed, Floor as Floored}
use Rattle.ds_join.specs.declared.merge.Merge.{Merge}
use Rattle.ds_join.specs.declared.merge.Merge.TheVariants.{Taken, Known, Stale}
use Rattle.ds_join.specs.declared.merge.JoinFault.{JoinFault}
use Rattle.ds_join.specs.declared.merge.JoinFault.TheVariants.{NoRoom}
use Rattle.ds_held.specs.Held.{Holding, IsSound}
use Rattle.ds_held.specs.Join.{ItemAnswer, after_item}
use Rattle.ds_pattern.specs.declared.query.Query.{Query}
use Rattle.ds_join.specs.declared.count.Count.{Count}
use Rattle.ds_join.specs.Count.{counted, none_counted, stop_after, CanCountOne}
use Rattle.ds_join.specs.declared.merge.Stop.{Stop}
use Rattle.ds_submap.specs.Take.{AreAnswered, AreCounted, IsTesterFor, IsFloorOrOther, IsItemTaken, IsRefusedUnder, IsTakeStopped}
use Rattle.ds_submap.specs.Take.{needs_query, is_stale, is_taken}
use Rattle.ds_pattern.specs.Under.{is_under}
use Rattle.ds_entry.specs.Item.{passes}
use Rattle.ds_entry.specs.Under.{under}

-- one more item
answered_push : (old mid : Holding) (items : List Item) (rs : List Merge) (i : Item) (r : Merge) (new : Holding) →
    AreAnswered old items rs mid → ItemAnswer mid i (Ok r) → new ≡ after_item mid i (Ok r)
    → AreAnswered old (items ++ i ∷ []) (rs ++ r ∷ []) new
answered_push old mid [] [] i r new e a n =
    (subst (λ (h : Holding). ItemAnswer h i (Ok r)) e a, n ∙ ap (λ (h : Holding). after_item h i (Ok r)) e)
answered_push old mid [] (q ∷ rs) i r new m a n = absurd m
answered_push old mid (j ∷ items) [] i r new m a n = absurd m
answered_push old mid (j ∷ items) (q ∷ rs) i r new m a n = (m.0, answered_push (after_item old j (Ok q)) mid items rs i r new m.1 a n)

under_push : (q : Query) (items : List Item) (i : Item) (b : Bool) → passes (is_under q) i ≡ b →
    under (is_under q) (items ++ i ∷ []) ≡ under (is_under q) items ++ cond b (i ∷ []) []
under_push q items i b e = filter-append (passes (is_under q)) items (i ∷ []) ∙ ap (λ t. under (is_under q) items ++ cond t (i ∷ []) []) e

-- An item that doesn't need the pattern is a floor, or isn't under the query.
pub unasked_other : (q : Query) (i : Item) → IsFalse (needs_query q i) → IsFloorOrOther q i
unasked_other q (Changed c) other = rw other refl
unasked_other q (Floored f) other = tt

-- ---- counting
one_more : (p : Merge → Bool) (rs : List Merge) (r : Merge) → length (filter p (rs ++ r ∷ [])) ≡ length (filter p rs) + cond (p r) 1 0
one_more p rs r = ap length (filter-append p rs (r ∷ [])) ∙ length-append (filter p rs) (cond (p r) (r ∷ []) []) ∙
    ap (λ n. length (filter p rs) + n) (by (p r))
  where
    by : (b : Bool) → length (cond b (r ∷ []) []) ≡ cond b 1 0
    by true = refl
    by false = refl

-- This many of the items were taken.
taken_push : (q : Query) (old mid new : Holding) (items : List Item) (i : Item) (n : Count) (answer : Option Merge) →
    AreCounted q old items mid n → IsItemTaken q mid i answer new → AreCounted q old (items ++ i ∷ []) new (counted n answer)
taken_push q old mid new items i n None t h =
    record {
      all = record {
        answers = t.all.answers;
        answered = rw (under_push q items i false h.0 ∙ append-nil (under (is_under q) items))
            (subst (λ (m : Holding). AreAnswered old (under (is_under q) items) t.all.answers m) (sym h.1) t.all.answered);
      };
      done = omega (arith, length-append items (i ∷ []), t.done);
      taken = t.taken;
      stale = t.stale;
    }
taken_push q old mid new items i n (Some r) t h =
    record {
      all =
          record {
            answers = t.all.answers ++ r ∷ [];
            answered =
                rw (under_push q items i true h.0) (answered_push old mid (under (is_under q) items) t.all.answers i r new t.all.answered
                h.1 h.2);
          };
      done = done r;
      taken = taken r;
      stale = stale r;
    }
  where
    done : (s : Merge) → (counted n (Some s)).done ≡ length (items ++ i ∷ [])
    done Taken = omega (arith, length-append items (i ∷ []), t.done)
    done Known = omega (arith, length-append items (i ∷ []), t.done)
    done Stale = omega (arith, length-append items (i ∷ []), t.done)

    taken : (s : Merge) → (counted n (Some s)).taken ≡ length (filter is_taken (t.all.answers ++ s ∷ []))
    taken Taken = omega (arith, t.taken, one_more is_taken t.all.answers Taken)
    taken Known = omega (arith, t.taken, one_more is_taken t.all.answers Known)
    taken Stale = omega (arith, t.taken, one_more is_taken t.all.answers Stale)

    stale : (s : Merge) → (counted n (Some s)).stale ≡ length (filter is_stale (t.all.answers ++ s ∷ []))
    stale Taken = omega (arith, t.stale, one_more is_stale t.all.answers Taken)
    stale Known = omega (arith, t.stale, one_more is_stale t.all.answers Known)
    stale Stale = omega (arith, t.stale, one_more is_stale t.all.answers Stale)

-- ---- a take on its way
-- The first `i` items were taken, and no more were taken or stale than are done.
pub record Taking (q : Query) (old : Holding) (items : List Item) (i : ℕ) (mid : Holding) (n : Count) : Type 0 where
  pub counted_so : AreCounted q old (take i items) mid n
  pub sound : IsSound mid
  pub done : n.done ≡ i
  pub taken : n.taken ≤ n.done
  pub stale : n.stale ≤ n.done

few_after : (n : Count) (answer : Option Merge) (i : ℕ) → n.done ≡ i → n.taken ≤ n.done → n.stale ≤ n.done
    → ((counted n answer).done ≡ i + 1) × ((counted n answer).taken ≤ (counted n answer).done) ×
    ((counted n answer).stale ≤ (counted n answer).done)
few_after n (Some Taken) i d t s = (omega (arith, d), omega (arith, t), omega (arith, s))
few_after n (Some Known) i d t s = (omega (arith, d), omega (arith, t), omega (arith, s))
few_after n (Some Stale) i d t s = (omega (arith, d), omega (arith, t), omega (arith, s))
few_after n None i d t s = (omega (arith, d), omega (arith, t), omega (arith, s))

module _ (q : Query) (old : Holding) (items : List Item) where
  pub taking_begins : (n : Count) → IsSound old → n ≡ none_counted → Taking q old items 0 old n
  taking_begins n sound e =
      subst (λ (k : Count). Taking q old items 0 old k) (sym e)
      (record {
        counted_so = record { all = record { answers = []; answered = refl }; done = refl; taken = refl; stale = refl };
        sound = sound;
        done = refl;
        taken = omega arith;
        stale = omega arith;
      })

  module _ (i : ℕ) (mid : Holding) (n : Count) (x : Item) (new : Holding) (t : Taking q old items i mid n)
      (at : slice_get items i ≡ Some x) where
    pub front : i < length items → take (i + 1) items ≡ take i items ++ x ∷ []
    front l = take_more items i x l ∙ ap (λ (y : Item). take i items ++ y ∷ []) (get_or_from_slice_get items i x x at)

    pub taking_goes_on : (answer : Option Merge) (m : Count) → IsItemTaken q mid x answer new → IsSound new → m ≡ counted n answer →
        Taking q old items (i + 1) new m
    taking_goes_on answer m h sound e =
        let few = few_after n answer i t.done t.taken t.stale in
        subst (λ (k : Count). Taking q old items (i + 1) new k) (sym e)
        (record {
          counted_so = rw (front (slice_get_within items i x at)) (taken_push q old mid new (take i items) x n answer t.counted_so h);
          sound = sound;
          done = few.0;
          taken = few.1;
          stale = few.2;
        })

    pub taking_stops : (fault : JoinFault) → new ≡ mid → IsRefusedUnder q mid x fault →
        IsTakeStopped q old items new (record { done = n.done; fault = fault })
    taking_stops fault e refused = rw (e, t.done) (record { front = t.counted_so.all; refused = inl (x, at, refused) })

  pub taking_ends : (i : ℕ) (mid : Holding) (n : Count) → Taking q old items i mid n → length items ≤ i → AreCounted q old items mid n
  taking_ends i mid n t l = subst (λ xs. AreCounted q old xs mid n) (take_all i items l) t.counted_so

  -- no item was done without the tester that one needs
  pub unasked_stops : (stop : Stop) → stop.done ≡ 0 → stop.fault ≡ NoRoom → IsTrue (list_any (needs_query q) items) →
      IsTakeStopped q old items old stop
  unasked_stops stop none fault asked = record {
    front = record { answers = []; answered = subst (λ n. AreAnswered old (under (is_under q) (take n items)) [] old) (sym none) refl };
    refused = inr (record { noroom = fault; none_done = none; asked = asked });
  }

-- ---- the tester
none_needs : (q : Query) (items : List Item) (i : ℕ) (x : Item) → list_any (needs_query q) items ≡ false → slice_get items i ≡ Some x →
    needs_query q x ≡ false
none_needs q [] i x none at = absurd (cc)
none_needs q (y ∷ items) zero x none at = ap (needs_query q) (sym (same_Some y x at)) ∙
    (or_parts (needs_query q y) (list_any (needs_query q) items) none).0
none_needs q (y ∷ items) (suc i) x none at = none_needs q items i x (or_parts (needs_query q y) (list_any (needs_query q) items) none).1 at

-- The tester is that of the query, or no item needs one.
abbrev pub IsTesterForEach : Query → List Item → Option Query → Type 0
IsTesterForEach q items o = (i : ℕ) (x : Item) → slice_get items i ≡ Some x → IsTesterFor q o x

pub asks_each : (q : Query) (items : List Item) (o : Option Query) (needed : Bool) → needed ≡ list_any (needs_query q) items →
    is_some o ≡ needed → IfSome o (λ a. a ≡ q) → IsTesterForEach q items o
asks_each q items None needed e s h i x at = unasked_other q x (none_needs q items i x (sym e ∙ sym s) at)
asks_each q items (Some a) needed e s h i x at = h

-- ---- items that are left
first_left : (n : ℕ) (items : List Item) → slice_get items n ≡ slice_get (drop n items) 0
first_left zero items = refl
first_left (suc n) [] = refl
first_left (suc n) (x ∷ items) = first_left n items

others_left : (n : ℕ) (items : List Item) → drop (suc n) items ≡ drop 1 (drop n items)
others_left zero items = refl
others_left (suc n) [] = refl
others_left (suc n) (x ∷ items) = others_left n items

-- and these are left
pub record TakingLeft (q : Query) (old : Holding) (items left : List Item) (mid : Holding) (n : Count) : Type 0 where
  pub taking : Taking q old items n.done mid n
  pub left_is : left ≡ drop n.done items

module _ (q : Query) (old : Holding) (items : List Item) where
  pub left_begins : (n : Count) → IsSound old → n ≡ none_counted → TakingLeft q old items items old n
  left_begins n sound e = rw e (record { taking = taking_begins q old items none_counted sound refl; left_is = refl })

  pub left_ends : (left : List Item) (mid : Holding) (n : Count) → TakingLeft q old items left mid n → left ≡ [] →
      AreCounted q old items mid n
  left_ends left mid n a e = taking_ends q old items n.done mid n a.taking
      (omega (arith, length-drop n.done items, ap length (sym a.left_is ∙ e)))

  module _ (left : List Item) (mid : Holding) (n : Count) (a : TakingLeft q old items left mid n) (x : Item) (others : List Item)
      (e : left ≡ x ∷ others) where
    pub left_there : slice_get items n.done ≡ Some x
    left_there = first_left n.done items ∙ ap (λ is. slice_get is 0) (sym a.left_is ∙ e)

    pub left_goes_on : (new : Holding) (answer : Option Merge) (m : Count) → IsItemTaken q mid x answer new → IsSound new →
        m ≡ counted n answer → TakingLeft q old items others new m
    left_goes_on new answer m h sound f =
        let done : m.done ≡ n.done + 1 = ap (λ (k : Count). k.done) f ∙ (few_after n answer n.done refl a.taking.taken a.taking.stale).0 in
        let one_more_done : suc n.done ≡ m.done = omega (arith, done) in
        record {
          taking = subst (λ i. Taking q old items i new m) (sym done)
              (taking_goes_on q old items n.done mid n x new a.taking left_there answer m h sound f);
          left_is = ap (drop 1) (sym (sym a.left_is ∙ e)) ∙ sym (others_left n.done items) ∙ ap (λ i. drop i items) one_more_done;
        }

    pub left_stops : (new : Holding) (fault : JoinFault) (stop : Stop) → new ≡ mid → IsRefusedUnder q mid x fault →
        stop ≡ stop_after n fault → IsTakeStopped q old items new stop
    left_stops new fault stop f refused g = rw g (taking_stops q old items n.done mid n x new a.taking left_there fault f refused)

    pub left_counts : length items < 2 ^ 64 → CanCountOne n
    left_counts most =
        record { taken = a.taking.taken; stale = a.taking.stale; done = omega (arith, most, slice_get_within items n.done x left_there) }
