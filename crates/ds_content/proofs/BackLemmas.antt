-- Items that are marked as shown, from the last of them back.
use Rattle.std.proofs.Common.{◌≡◌, ℕ, zero, suc, ◌+◌, ◌<◌, ◌≤◌, ◌⊎◌, Bool, true, false, cond, List, [], ◌∷◌, length, take, filter, get_or}
use Rattle.std.proofs.Common.{set, length-append, Option, Some, None, refl, ap, sym, ◌∙◌, inl, inr, arith}
use Rattle.std.specs.Prelude.{slice_get}
use Rattle.std.specs.Option.{option_map, option_map_or}
use Rattle.std.proofs.lemmas.Option.{same_Some, slice_get_cases}
use Rattle.ds_entry.specs.declared.item.Item.{Item}
use Rattle.ds_held.specs.Held.{Holding, held_items}
use Rattle.ds_index.specs.Marked.{MarkedHolding}
use Rattle.ds_watch.specs.Masks.{shown_to}
use Rattle.ds_watch.specs.declared.masks.Masks.{Masks}
use Rattle.ds_content.specs.Kept.{masks_at}
use Rattle.ds_content.specs.Marking.{IsRemarked, AreRemarked}
use Rattle.ds_content.specs.Shown.{is_to_show, IsToShowHere}
use Rattle.ds_content.proofs.FlagLemmas.{below_or_not, few_taken, filter_more, past_end}

-- ---- what isn't to be shown keeps its masks where it is shown
set_same : (fs : List Bool) (k : ℕ) → get_or fs k false ≡ false → set fs k false ≡ fs
set_same [] zero e = refl
set_same [] (suc k) e = refl
set_same (f ∷ fs) zero e = ap (λ b. b ∷ fs) (sym e)
set_same (f ∷ fs) (suc k) e = ap (λ t. f ∷ t) (set_same fs k e)

shown_same : (sub : ℕ) (o : Option Masks) → get_or (option_map_or (λ (m : Masks). m.unseen) o []) sub false ≡ false →
    option_map (shown_to sub) o ≡ o
shown_same sub None e = refl
shown_same sub (Some m) e = ap (λ us. Some (record m { unseen = us })) (set_same m.unseen sub e)

-- ---- how many are left
module _ {X : Type 0} (p : X → Bool) where
  head_fails : (y : X) (l : List X) → length (cond (p y) (y ∷ l) l) ≡ 0 → (p y ≡ false) × (length l ≡ 0)
  head_fails y l e = by_test (p y) refl
    where
      by_test : (b : Bool) → p y ≡ b → (p y ≡ false) × (length l ≡ 0)
      by_test true q = absurd (let some : length (y ∷ l) ≡ 0 = ap (λ b. length (cond b (y ∷ l) l)) (sym q) ∙ e in omega (arith, some))
      by_test false q = (q, ap (λ b. length (cond b (y ∷ l) l)) (sym q) ∙ e)

  pub none_left : (n : ℕ) (xs : List X) → length (filter p (take n xs)) ≡ 0 → (k : ℕ) (x : X) → slice_get xs k ≡ Some x → k < n →
      p x ≡ false
  none_left zero xs e k x h l = absurd (omega arith)
  none_left (suc n) [] e k x h l = absurd (cc)
  none_left (suc n) (y ∷ xs) e zero x h l = ap p (sym (same_Some y x h)) ∙ (head_fails y (filter p (take n xs)) e).0
  none_left (suc n) (y ∷ xs) e (suc k) x h l = none_left n xs (head_fails y (filter p (take n xs)) e).1 k x h (omega (arith, l))

  left_at : (n : ℕ) (xs : List X) (x : X) → slice_get xs n ≡ Some x → (b : Bool) → b ≡ p x →
      length (filter p (take (n + 1) xs)) ≡ cond b 1 0 + length (filter p (take n xs))
  left_at n xs x h b q =
      ap (λ (l : List X). length l) (filter_more p n xs x h) ∙ length-append (filter p (take n xs)) (cond (p x) (x ∷ []) []) ∙ by_test b q
    where
      by_test : (b : Bool) → b ≡ p x → length (filter p (take n xs)) + length (cond (p x) (x ∷ []) []) ≡ cond b 1 0 + length
          (filter p (take n xs))
      by_test true q = let one = ap (λ b. length (cond b (x ∷ []) [])) (sym q) in omega (arith, one)
      by_test false q = let none = ap (λ b. length (cond b (x ∷ []) [])) (sym q) in omega (arith, none)

  -- one fewer, where the one at the index was among them
  pub left_before : (n : ℕ) (xs : List X) (b : Bool) → ((x : X) → slice_get xs n ≡ Some x → b ≡ p x) → (slice_get xs n ≡ None → b ≡ false)
      → length (filter p (take (n + 1) xs)) ≡ cond b 1 0 + length (filter p (take n xs))
  left_before n xs b here nothing = elim (slice_get_cases xs n).1 [
    | inl w ↦ left_at n xs w.0 w.2 b (here w.0 w.2)
    | inr none ↦
        let long = past_end xs n none.1 in
        let same : length (filter p (take (n + 1) xs)) ≡ length (filter p (take n xs)) =
        ap (λ (l : List X). length (filter p l)) (few_taken (n + 1) xs (omega (arith, long)) ∙ sym (few_taken n xs long)) in
        let fails : cond {A = ℕ} b 1 0 ≡ 0 = ap (λ b. cond {A = ℕ} b 1 0) (nothing none.1) in
        omega (arith, same, fails)
  ]

-- ---- the items from an index on are marked, and the others aren't
pub record AreMarkedFrom (old new : MarkedHolding Masks) (from count sub : ℕ) : Type 0 where
  pub held : new.held ≡ old.held
  pub marked : (k : ℕ) (i : Item) → slice_get (held_items old.held) k ≡ Some i → from ≤ k → k < count →
      masks_at new i ≡ option_map (shown_to sub) (masks_at old i)
  pub others : (k : ℕ) (i : Item) → slice_get (held_items old.held) k ≡ Some i → (k < from) ⊎ (count ≤ k) → masks_at new i ≡ masks_at old i

pub none_marked : (h : MarkedHolding Masks) (count sub : ℕ) → AreMarkedFrom h h count count sub
none_marked h count sub = record { held = refl; marked = λ k i e a l. absurd (omega (arith, a, l)); others = λ k i e l. refl }

module _ (old mid : MarkedHolding Masks) (n count sub : ℕ) (so_far : AreMarkedFrom old mid (n + 1) count sub) where
  there : (k : ℕ) (i : Item) → slice_get (held_items old.held) k ≡ Some i → slice_get (held_items mid.held) k ≡ Some i
  there k i e = ap (λ (h : Holding). slice_get (held_items h) k) so_far.held ∙ e

  -- one more, before them
  pub marked_before : (new : MarkedHolding Masks) → n < count → IsRemarked mid new n (shown_to sub) → AreMarkedFrom old new n count sub
  marked_before new low one = record {
    held = one.held ∙ so_far.held;
    marked = λ k i e a l. by_place k i e l (below_or_not n k) a;
    others = λ k i e l. one.others i k (there k i e) (apart k l) ∙ so_far.others k i e (past k l);
  }
    where
      apart : (k : ℕ) → (k < n) ⊎ (count ≤ k) → k ≡ n → ⊥
      apart k (inl l) q = omega (arith, l, q)
      apart k (inr l) q = omega (arith, l, q, low)

      past : (k : ℕ) → (k < n) ⊎ (count ≤ k) → (k < n + 1) ⊎ (count ≤ k)
      past k (inl l) = inl (omega (arith, l))
      past k (inr l) = inr l

      by_place : (k : ℕ) (i : Item) → slice_get (held_items old.held) k ≡ Some i → k < count → (n < k) ⊎ (k ≤ n) → n ≤ k →
          masks_at new i ≡ option_map (shown_to sub) (masks_at old i)
      by_place k i e l (inl b) a = one.others i k (there k i e) (λ q. omega (arith, q, b)) ∙ so_far.marked k i e (omega (arith, b)) l
      by_place k i e l (inr b) a =
          let at : k ≡ n = omega (arith, a, b) in
          let here : slice_get (held_items old.held) n ≡ Some i = ap (slice_get (held_items old.held)) (sym at) ∙ e in
          one.here i (there n i here) ∙ ap (option_map (shown_to sub)) (so_far.others n i here (inl (omega arith)))

  -- one that isn't to be shown is as if it were marked
  pub marked_same : (flag : Bool) → ((i : Item) → slice_get (held_items mid.held) n ≡ Some i → flag ≡ is_to_show mid sub i) →
      flag ≡ false → AreMarkedFrom old mid n count sub
  marked_same flag here fails = record {
    held = so_far.held;
    marked = λ k i e a l. by_place k i e l (below_or_not n k) a;
    others = λ k i e l. so_far.others k i e (past k l);
  }
    where
      past : (k : ℕ) → (k < n) ⊎ (count ≤ k) → (k < n + 1) ⊎ (count ≤ k)
      past k (inl l) = inl (omega (arith, l))
      past k (inr l) = inr l

      by_place : (k : ℕ) (i : Item) → slice_get (held_items old.held) k ≡ Some i → k < count → (n < k) ⊎ (k ≤ n) → n ≤ k →
          masks_at mid i ≡ option_map (shown_to sub) (masks_at old i)
      by_place k i e l (inl b) a = so_far.marked k i e (omega (arith, b)) l
      by_place k i e l (inr b) a =
          let at : k ≡ n = omega (arith, a, b) in
          let is : slice_get (held_items old.held) n ≡ Some i = ap (slice_get (held_items old.held)) (sym at) ∙ e in
          let same = so_far.others n i is (inl (omega arith)) in
          let unseen : get_or (option_map_or (λ (m : Masks). m.unseen) (masks_at old i) []) sub false ≡ false =
          ap (λ o. get_or (option_map_or (λ (m : Masks). m.unseen) o []) sub false) (sym same) ∙ sym (here i (there n i is)) ∙ fails in
          same ∙ sym (shown_same sub (masks_at old i) unseen)

  -- how many are left before it
  pub left_now : (left : ℕ) (was : Bool) → left ≡ length (filter (is_to_show old sub) (take (n + 1) (held_items old.held))) →
      IsToShowHere mid sub n was
      → left ≡ cond was 1 0 + length (filter (is_to_show old sub) (take n (held_items old.held)))
  left_now left was e w =
      e ∙ left_before (is_to_show old sub) n (held_items old.held) was
      (λ i h. w.here i (there n i h) ∙ ap (λ o. get_or (option_map_or (λ (m : Masks). m.unseen) o []) sub false)
      (so_far.others n i h (inl (omega arith))))
      (λ none. w.nothing (ap (λ (h : Holding). slice_get (held_items h) n) so_far.held ∙ none))

-- where none is left, the first ones are as if they were marked
pub all_marked : (old new : MarkedHolding Masks) (from count sub : ℕ) → from ≤ count →
    length (filter (is_to_show old sub) (take from (held_items old.held))) ≡ 0 → AreMarkedFrom old new from count sub
    → AreRemarked old new count (λ k. shown_to sub)
all_marked old new from count sub up none are = record {
  held = are.held;
  first = λ k i e l. by_place k i e l (below_or_not k from);
  rest = λ k i e l. are.others k i e (inr l);
}
  where
    by_place : (k : ℕ) (i : Item) → slice_get (held_items old.held) k ≡ Some i → k < count → (k < from) ⊎ (from ≤ k) →
        masks_at new i ≡ option_map (shown_to sub) (masks_at old i)
    by_place k i e l (inl b) =
        are.others k i e (inl b) ∙ sym (shown_same sub (masks_at old i)
        (none_left (is_to_show old sub) from (held_items old.held) none k i e b))
    by_place k i e l (inr a) = are.marked k i e a l
