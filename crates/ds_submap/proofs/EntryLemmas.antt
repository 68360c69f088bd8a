-- The puts of what is held, in order.
use Rattle.std.proofs.Common.{◌≡◌, ◌≢◌, ℕ, ◌+◌, true, false, cond, List, [], ◌∷◌, ◌++◌, map, take, drop, Some, Result, Ok, Err, OnErr, refl}
use Rattle.std.proofs.Common.{sym, ap, ◌∙◌, append-nil}
use Rattle.std.proofs.lemmas.List.{take_more, take-append-drop, map-append}
use Rattle.std.proofs.lemmas.List.Elements.{filter-append}
use Rattle.std.proofs.lemmas.Option.{get_or_from_slice_get, slice_get_within}
use Rattle.std.specs.FinMap.{entries}
use Rattle.std.specs.List.{slice_get}
use Rattle.ds_entry.specs.Change.{ChangeRecord}
use Rattle.ds_entry.specs.declared.item.Item.{Item}
use Rattle.ds_entry.specs.declared.item.Item.TheVariants.{Change as Changed}
use Rattle.ds_held.specs.Held.{Holding, change_item, floor_item, held_changes, held_items}
use Rattle.ds_entry.specs.Left.{leaves_value, is_put}
use Rattle.ds_entry.specs.Under.{entries_of}

-- the puts of changes, as items
abbrev pub puts_of : List ChangeRecord → List Item
puts_of changes = entries_of (map change_item changes)

-- Floors aren't puts.
no_puts : (fs : List (List ℕ × ℕ)) → entries_of (map floor_item fs) ≡ []
no_puts [] = refl
no_puts (f ∷ fs) = no_puts fs

pub held_puts : (h : Holding) → entries_of (held_items h) ≡ puts_of (held_changes h)
held_puts h = filter-append is_put (map floor_item (entries h.floors)) (map change_item (held_changes h)) ∙
    ap (λ l. l ++ puts_of (held_changes h)) (no_puts (entries h.floors))

puts_push : (cs : List ChangeRecord) (c : ChangeRecord) → puts_of (cs ++ c ∷ []) ≡ puts_of cs ++ cond (leaves_value c) (Changed c ∷ []) []
puts_push [] c = refl
puts_push (d ∷ cs) c =
    elim (leaves_value d) as (λ b. cond b (Changed d ∷ puts_of (cs ++ c ∷ [])) (puts_of (cs ++ c ∷ [])) ≡ cond b (Changed d ∷ puts_of cs)
    (puts_of cs) ++ cond (leaves_value c) (Changed c ∷ []) []) [
      | true ↦ ap (λ l. Changed d ∷ l) (puts_push cs c)
      | false ↦ puts_push cs c
    ]

has_one : (l m : List Item) (x : Item) → (l ++ x ∷ []) ++ m ≡ [] → ⊥
has_one [] m x is = absurd (cc)
has_one (y ∷ l) m x is = absurd (cc)

puts_append : (cs ds : List ChangeRecord) → puts_of (cs ++ ds) ≡ puts_of cs ++ puts_of ds
puts_append cs ds = ap entries_of (map-append change_item cs ds) ∙ filter-append is_put (map change_item cs) (map change_item ds)

module _ (cs : List ChangeRecord) (i : ℕ) (c : ChangeRecord) (at : slice_get cs i ≡ Some c) where
  one_more : puts_of (take (i + 1) cs) ≡ puts_of (take i cs) ++ cond (leaves_value c) (Changed c ∷ []) []
  one_more = ap puts_of (take_more cs i c (slice_get_within cs i c at) ∙
      ap (λ (y : ChangeRecord). take i cs ++ y ∷ []) (get_or_from_slice_get cs i c c at)) ∙ puts_push (take i cs) c

  pub put_added : leaves_value c ≡ true → puts_of (take i cs) ++ Changed c ∷ [] ≡ puts_of (take (i + 1) cs)
  put_added p = sym (one_more ∙ ap (λ b. puts_of (take i cs) ++ cond b (Changed c ∷ []) []) p)

  pub tombstone_passed : leaves_value c ≡ false → puts_of (take i cs) ≡ puts_of (take (i + 1) cs)
  tombstone_passed p = sym (one_more ∙ ap (λ b. puts_of (take i cs) ++ cond b (Changed c ∷ []) []) p ∙ append-nil (puts_of (take i cs)))

  -- Among the changes of which one is a put there are puts.
  pub some_put : leaves_value c ≡ true → puts_of cs ≢ []
  some_put p none =
      has_one (puts_of (take i cs)) (puts_of (drop (i + 1) cs)) (Changed c)
      (ap (λ l. l ++ puts_of (drop (i + 1) cs)) (put_added p) ∙ sym (puts_append (take (i + 1) cs) (drop (i + 1) cs)) ∙
      ap puts_of (take-append-drop (i + 1) cs) ∙ none)

-- An error where a put is held leaves entries to return.
pub put_on_err : {T E : Type 0} (h : Holding) (i : ℕ) (c : ChangeRecord) → slice_get (held_changes h) i ≡ Some c → leaves_value c ≡ true →
    (r : Result T E) → OnErr r (entries_of (held_items h) ≢ [])
put_on_err h i c at put (Ok x) = tt
put_on_err h i c at put (Err e) = λ none. some_put (held_changes h) i c at put (sym (held_puts h) ∙ none)
