-- What a journal keeps of a feed, and what is read of it.
use Rattle.std.proofs.Common.{◌≡◌, ◌≢◌, ℕ, zero, suc, ◌<◌, ◌≤◌, ◌+◌, ◌-◌, min, Bool, true, false, cond, List, [], ◌∷◌, ◌++◌, length, drop}
use Rattle.std.proofs.Common.{take, filter, Some, None}
use Rattle.std.proofs.Common.{refl, sym, ap, ◌∙◌, arith, append_assoc, append-nil, length-append, length-drop}
use Rattle.std.specs.List.{slice_get}
use Rattle.std.proofs.lemmas.List.{drop-append-le, drop-drop}
use Rattle.ds_entry.specs.declared.item.Item.{Item}
use Rattle.ds_feed.specs.declared.cursor.Cursor.{Cursor}
use Rattle.ds_feed.specs.declared.reading.Since.{Since}
use Rattle.ds_feed.specs.Feed.{Feed, accepts, from}
use Rattle.ds_feed.specs.Since.{prefix, piece, beyond, place_fault, fault_at, IsGiven}
use Rattle.ds_feed.specs.Kept.{Kept, Keeps, last_items}

-- ---- what is kept

-- of the last items and one more, the last ones are those of all and one more
pub last_pushed : (n : ℕ) (items : List Item) (i : Item) → last_items n (last_items n items ++ i ∷ []) ≡ last_items n (items ++ i ∷ [])
last_pushed n items i =
    let k = length items - n in
    let within : k ≤ length items = omega arith in
    let count : length (last_items n items ++ i ∷ []) ≡ (length items - k) + 1 =
    length-append (drop k items) (i ∷ []) ∙ ap (λ (m : ℕ). m + 1) (length-drop k items) in
    let all : length (items ++ i ∷ []) ≡ length items + 1 = length-append items (i ∷ []) in
    let same : k + (length (last_items n items ++ i ∷ []) - n) ≡ length (items ++ i ∷ []) - n = omega (arith, count, all) in
    ap (drop (length (last_items n items ++ i ∷ []) - n)) (sym (drop-append-le k items (i ∷ []) within)) ∙
    (drop-drop (length (last_items n items ++ i ∷ []) - n) k (items ++ i ∷ []) ∙ ap (λ (m : ℕ). drop m (items ++ i ∷ [])) same)

-- a journal with one more item keeps the feed with one more
pub keeps_pushed : (old new : Kept) (f : Feed) (i : Item) → Keeps old f → new.items ≡ last_items old.ring (old.items ++ i ∷ []) →
    new.first ≡ old.first →
    new.position ≡ old.position + 1 → new.ring ≡ old.ring → new.incarnation ≡ old.incarnation →
    Keeps new (accepts f i)
keeps_pushed old new f i k items first next ring incarnation = record {
  items = items ∙ (ap (λ (n : ℕ). last_items n (old.items ++ i ∷ [])) k.ring ∙
      (ap (λ (l : List Item). last_items f.ring (l ++ i ∷ [])) k.items ∙ last_pushed f.ring f.accepted i));
  first = first ∙ k.first;
  position =
      let p = k.position in
      let n : length (f.accepted ++ i ∷ []) ≡ length f.accepted + 1 = length-append f.accepted (i ∷ []) in
      omega arith;
  ring = ring ∙ k.ring;
  incarnation = incarnation ∙ k.incarnation;
}

-- The first position isn't past the next one.
pub first_is_first : (j : Kept) (f : Feed) → Keeps j f → j.first ≤ j.position
first_is_first j f k =
    let a = k.first in
    let b = k.position in
    omega arith

-- how many items are kept
pub kept_count : (j : Kept) (f : Feed) → Keeps j f → length j.items ≡ min f.ring (length f.accepted)
kept_count j f k = ap length k.items ∙ (length-drop (length f.accepted - f.ring) f.accepted ∙ omega arith)

-- The journal judges a cursor as its feed does.
pub judges : (j : Kept) (f : Feed) (at : Cursor) → Keeps j f → place_fault j.incarnation j.position (length j.items) at ≡ fault_at f at
judges j f at k = cc (kept_count j f k, k.position, k.incarnation)

-- And has what the feed has from there on.
pub has_rest : (j : Kept) (f : Feed) (at i : ℕ) → Keeps j f → i ≤ length j.items → at + length j.items ≡ j.position + i →
    drop i j.items ≡ from f at
has_rest j f at i k l e =
    let n = kept_count j f k in
    let p = k.position in
    ap (drop i) k.items ∙ (drop-drop i (length f.accepted - f.ring) f.accepted ∙ ap (λ (m : ℕ). drop m f.accepted) (omega arith))

-- ---- what is read

-- Nothing is returned if no more is wanted.
pub nothing_wanted : (test : Item → Bool) (max : ℕ) (items : List Item) → max ≤ 0 → prefix test max items ≡ []
nothing_wanted test zero items l = refl
nothing_wanted test (suc max) items l = absurd (omega arith)

-- Nor if nothing is left.
pub nothing_left : (test : Item → Bool) (max : ℕ) (items : List Item) (next : ℕ) → slice_get items next ≡ None →
    prefix test max (drop next items) ≡ []
nothing_left test max items next e = ap (prefix test max) (past items next e) ∙ of_none max
  where
    past : (xs : List Item) (n : ℕ) → slice_get xs n ≡ None → drop n xs ≡ []
    past [] zero e = refl
    past [] (suc n) e = refl
    past (x ∷ xs) zero e = cc
    past (x ∷ xs) (suc n) e = past xs n e

    of_none : (n : ℕ) → prefix test n [] ≡ []
    of_none zero = refl
    of_none (suc n) = refl

-- The walk is at its end: everything is returned, and the cursor is past it.
pub all_given : (f : Feed) (test : Item → Bool) (at : Cursor) (max : ℕ) (given : List Item) (cursor : Cursor) (start next : ℕ)
    (kept rest : List Item) → fault_at f at ≡ None → drop start kept ≡ from f at.position → rest ≡ [] →
    given ++ filter test rest ≡ filter test (prefix test max (drop start kept)) →
    next + length rest ≡ start + length (prefix test max (drop start kept)) → cursor ≡ beyond at (next - start) →
    IsGiven f test at max (record { items = given; cursor = cursor })
all_given f test at max given cursor start next kept rest reached there none items reach place =
    let n : length rest ≡ 0 = ap length none in
    let p : length (prefix test max (drop start kept)) ≡ length (piece f test at max) =
    ap (λ (l : List Item). length (prefix test max l)) there in
    let d : next - start ≡ length (piece f test at max) = omega arith in
    let all : given ≡ filter test (piece f test at max) =
    sym (append-nil given) ∙ (ap (λ (l : List Item). given ++ filter test l) (sym none) ∙
    (items ∙ ap (λ (l : List Item). filter test (prefix test max l)) there)) in
    record {
      reached = reached;
      given = ap (λ (l : List Item). since_with l cursor) all ∙
          ap (since_with (filter test (piece f test at max))) (place ∙ ap (beyond at) d);
    }
  where
    since_with : List Item → Cursor → Since
    since_with items cursor = record { items = items; cursor = cursor }

-- If everything passes, the first items are returned.
pub prefix_of_all : (test : Item → Bool) → ((i : Item) → test i ≡ true) → (max : ℕ) (items : List Item) →
    filter test (prefix test max items) ≡ take max items
prefix_of_all test all zero items = refl
prefix_of_all test all (suc max) [] = refl
prefix_of_all test all (suc max) (i ∷ items) = rw (all i) (ap (λ (l : List Item). i ∷ l) (prefix_of_all test all max items))

-- One more item is returned.
pub prefix_next : (test : Item → Bool) (left : ℕ) (items : List Item) (next : ℕ) (i : Item) (after : ℕ) → 0 < left →
    slice_get items next ≡ Some i → after ≡ cond (test i) (left - 1) left →
    prefix test left (drop next items) ≡ i ∷ prefix test after (drop (next + 1) items)
prefix_next test zero items next i after l e h = absurd (omega arith)
prefix_next test (suc left) items next i after l e h =
    let less : left ≡ suc left - 1 = omega arith in
    let same : cond (test i) left (suc left) ≡ after = ap (λ (n : ℕ). cond (test i) n (suc left)) less ∙ sym h in
    at items next e ∙ ap (λ (n : ℕ). i ∷ prefix test n (drop (next + 1) items)) same
  where
    at : (xs : List Item) (n : ℕ) → slice_get xs n ≡ Some i →
        prefix test (suc left) (drop n xs) ≡ i ∷ prefix test (cond (test i) left (suc left)) (drop (n + 1) xs)
    at [] n e = cc
    at (x ∷ xs) zero e = let h : x ≡ i = cc in ap (λ (y : Item). y ∷ prefix test (cond (test y) left (suc left)) xs) h
    at (x ∷ xs) (suc n) e =
        let k : suc n + 1 ≡ suc (n + 1) = omega arith in
        let h : drop (suc n + 1) (x ∷ xs) ≡ drop (n + 1) xs = ap (λ (m : ℕ). drop m (x ∷ xs)) k in
        at xs n e ∙ ap (λ (l : List Item). i ∷ prefix test (cond (test i) left (suc left)) l) (sym h)

-- What was returned, then one more item if it passes, and then what is to come.
pub given_more : (test : Item → Bool) (given new : List Item) (i : Item) (rest all : List Item) → given ++ filter test (i ∷ rest) ≡ all →
    new ≡ given ++ filter test (i ∷ []) → new ++ filter test rest ≡ all
given_more test given new i rest all e h =
    ap (λ l. l ++ filter test rest) h ∙ (append_assoc given (filter test (i ∷ [])) (filter test rest) ∙
    (ap (λ l. given ++ l) (one (test i)) ∙ e))
  where
    one : (b : Bool) → cond b (i ∷ []) [] ++ filter test rest ≡ cond b (i ∷ filter test rest) (filter test rest)
    one true = refl
    one false = refl

-- There is something to return if an item passes.
pub some_given : (test : Item → Bool) (given rest : List Item) (i : Item) → test i ≡ true → given ++ filter test (i ∷ rest) ≢ []
some_given test [] rest i t e = at (test i) t e
  where
    at : (b : Bool) → b ≡ true → cond b (i ∷ filter test rest) (filter test rest) ≢ []
    at true t e = cc
    at false t e = cc
some_given test (x ∷ given) rest i t e = cc
