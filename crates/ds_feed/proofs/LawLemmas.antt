-- A prefix is the shortest one, and prefixes join.
use Rattle.std.proofs.Common.{◌≡◌, ℕ, zero, suc, ◌<◌, ◌+◌, Bool, true, false, cond, List, [], ◌∷◌, ◌++◌, length, take, drop, filter, refl}
use Rattle.std.proofs.Common.{sym, ap, ◌∙◌, arith, inl, inr, ◌⊎◌}
use Rattle.ds_entry.specs.declared.item.Item.{Item}
use Rattle.ds_feed.specs.Since.{prefix}
use Rattle.ds_feed.specs.Laws.{PrefixIsShortest, PrefixesJoin}

prefix_front : (test : Item → Bool) (max : ℕ) (xs : List Item) → prefix test max xs ≡ take (length (prefix test max xs)) xs
prefix_front test zero xs = refl
prefix_front test (suc max) [] = refl
prefix_front test (suc max) (x ∷ xs) = ap (λ (l : List Item). x ∷ l) (prefix_front test (cond (test x) max (suc max)) xs)

counted : (test : Item → Bool) (x : Item) (xs : List Item) →
    length (filter test (x ∷ xs)) ≡ cond (test x) (suc (length (filter test xs))) (length (filter test xs))
counted test x xs = at (test x)
  where
    at : (b : Bool) → length (cond b (x ∷ filter test xs) (filter test xs)) ≡ cond b (suc (length (filter test xs)))
        (length (filter test xs))
    at true = refl
    at false = refl

full_or_all : (test : Item → Bool) (max : ℕ) (xs : List Item) →
    (length (filter test (prefix test max xs)) ≡ max) ⊎ (prefix test max xs ≡ xs)
full_or_all test zero xs = inl refl
full_or_all test (suc max) [] = inr refl
full_or_all test (suc max) (x ∷ xs) = at (test x) refl (full_or_all test (cond (test x) max (suc max)) xs)
  where
    at : (b : Bool) → test x ≡ b → (length (filter test (prefix test (cond (test x) max (suc max)) xs)) ≡ cond (test x) max (suc max)) ⊎
        (prefix test (cond (test x) max (suc max)) xs ≡ xs) →
        (length (filter test (x ∷ prefix test (cond (test x) max (suc max)) xs)) ≡ suc max) ⊎
        (x ∷ prefix test (cond (test x) max (suc max)) xs ≡ x ∷ xs)
    at b e (inr h) = inr (ap (λ (l : List Item). x ∷ l) h)
    at true e (inl h) = inl (counted test x (prefix test (cond (test x) max (suc max)) xs) ∙ (rw e (ap suc (rw e at h))))
    at false e (inl h) = inl (counted test x (prefix test (cond (test x) max (suc max)) xs) ∙ (rw e (rw e at h)))

shortest : (test : Item → Bool) (max : ℕ) (xs : List Item) (n : ℕ) → n < length (prefix test max xs) →
    length (filter test (take n xs)) < max
shortest test zero xs n l = absurd (omega arith)
shortest test (suc max) [] n l = absurd (omega arith)
shortest test (suc max) (x ∷ xs) zero l = omega arith
shortest test (suc max) (x ∷ xs) (suc n) l = at (test x) refl (shortest test (cond (test x) max (suc max)) xs n (omega arith))
  where
    at : (b : Bool) → test x ≡ b → length (filter test (take n xs)) < cond (test x) max (suc max) →
        length (filter test (x ∷ take n xs)) < suc max
    at true e h =
        let k : length (filter test (x ∷ take n xs)) ≡ suc (length (filter test (take n xs))) = counted test x (take n xs) ∙ rw e refl in
        let m : length (filter test (take n xs)) < max = rw e at h in
        omega arith
    at false e h =
        let k : length (filter test (x ∷ take n xs)) ≡ length (filter test (take n xs)) = counted test x (take n xs) ∙ rw e refl in
        let m : length (filter test (take n xs)) < suc max = rw e at h in
        omega arith

pub prefix_is_shortest : PrefixIsShortest
prefix_is_shortest test max xs =
    record { front = prefix_front test max xs; full_or_all = full_or_all test max xs; shortest = shortest test max xs }

-- ---- one prefix after another
none_left : (test : Item → Bool) (n : ℕ) → prefix test n [] ≡ []
none_left test zero = refl
none_left test (suc n) = refl

joined : (test : Item → Bool) (m n k : ℕ) (xs : List Item) → k ≡ m + n →
    prefix test k xs ≡ prefix test m xs ++ prefix test n (drop (length (prefix test m xs)) xs)
joined test zero n k xs e =
    let same : k ≡ n = omega arith in
    ap (λ (j : ℕ). prefix test j xs) same
joined test (suc m) n zero xs e = absurd (omega arith)
joined test (suc m) n (suc k) [] e = sym (none_left test n)
joined test (suc m) n (suc k) (x ∷ xs) e =
    let less : k ≡ m + n = omega arith in
    ap (λ (l : List Item). x ∷ l) (at (test x) (joined test m n k xs less) (joined test (suc m) n (suc k) xs e))
  where
    at : (b : Bool) → prefix test k xs ≡ prefix test m xs ++ prefix test n (drop (length (prefix test m xs)) xs) →
        prefix test (suc k) xs ≡ prefix test (suc m) xs ++ prefix test n (drop (length (prefix test (suc m) xs)) xs) →
        prefix test (cond b k (suc k)) xs ≡ prefix test (cond b m (suc m)) xs ++ prefix test n
        (drop (length (prefix test (cond b m (suc m)) xs)) xs)
    at true same _ = same
    at false _ same = same

pub prefixes_join : PrefixesJoin
prefixes_join test m n xs = joined test m n (m + n) xs refl
