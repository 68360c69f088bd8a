-- Lists that grow item by item, and what is among them.
use Rattle.std.proofs.Common.{◌≡◌, ℕ, zero, suc, ◌+◌, ◌≤◌, ◌∷◌, [], ◌++◌, List, length, take, Option, Some, None, refl, ap, sym, ◌∙◌, arith}
use Rattle.std.specs.Prelude.{slice_get}
use Rattle.std.proofs.lemmas.List.{take_more, take_all}
use Rattle.std.proofs.lemmas.Option.{slice_get_within, get_or_from_slice_get}
use Rattle.ds_entry.specs.declared.item.Item.{Item}
use Rattle.ds_names.specs.declared.key.Key.{Key}
use Rattle.ds_entry.specs.declared.item.Item.TheVariants.{Change as Changed, Floor as Floored}
use Rattle.ds_replica.specs.Paged.{last_key}

-- the first items and the next one
pub taken_next : (xs : List Item) (i : ℕ) (x : Item) → slice_get xs i ≡ Some x → take (i + 1) xs ≡ take i xs ++ x ∷ []
taken_next xs i x e = take_more xs i x (slice_get_within xs i x e) ∙
    ap (λ (y : Item). take i xs ++ y ∷ []) (get_or_from_slice_get xs i x x e)

past_end : (xs : List Item) (i : ℕ) → slice_get xs i ≡ None → length xs ≤ i
past_end [] i e = omega arith
past_end (x ∷ xs) zero e = absurd (cc)
past_end (x ∷ xs) (suc i) e = let rest = past_end xs i e in omega (arith, rest)

-- past the end, the first ones are all
pub none_next : (xs : List Item) (i : ℕ) → slice_get xs i ≡ None → take (i + 1) xs ≡ take i xs
none_next xs i e =
    let l : length xs ≤ i = past_end xs i e in
    take_all (i + 1) xs (omega (arith, l)) ∙ sym (take_all i xs l)

-- ---- the key of the last change
last_key_of : (xs : List Item) (k : Option Key) (x : Item) → last_key k (xs ++ x ∷ []) ≡ last_key (last_key k xs) (x ∷ [])
last_key_of [] k x = refl
last_key_of (Changed c ∷ xs) k x = last_key_of xs (Some c.key) x
last_key_of (Floored f ∷ xs) k x = last_key_of xs k x

pub key_next : (xs : List Item) (i : ℕ) (k : Option Key) (x : Item) → slice_get xs i ≡ Some x →
    last_key k (take (i + 1) xs) ≡ last_key (last_key k (take i xs)) (x ∷ [])
key_next xs i k x e = ap (last_key k) (taken_next xs i x e) ∙ last_key_of (take i xs) k x
