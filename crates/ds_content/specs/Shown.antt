-- What to show to a subscription first.
use Rattle.std.specs.Prelude.{◌≡◌, ℕ, ◌<◌, ◌≤◌, ◌⊎◌, Bool, true, false, List, [], ◌∷◌, ◌++◌}
use Rattle.std.specs.Prelude.{length, take, filter, slice_get, slice_index_or, Option, Some, None, IfSome}
use Rattle.ds_entry.specs.declared.item.Item.{Item}
use Rattle.ds_held.specs.Held.{Holding, held_items}
use Rattle.ds_index.specs.Marked.{MarkedHolding}
use Rattle.ds_watch.specs.Followed.{Followed}
use Rattle.ds_watch.specs.declared.masks.Masks.{Masks}
use Rattle.ds_content.specs.Content.{ContentRecord}
use Rattle.ds_content.specs.Kept.{unseen_at}

-- The items whose flag is set.
abbrev pub flagged : List Bool → List Item → List Item
flagged [] items = []
flagged (flag ∷ flags) [] = []
flagged (true ∷ flags) (i ∷ items) = i ∷ flagged flags items
flagged (false ∷ flags) (i ∷ items) = flagged flags items

-- The items are those of the first `passed` held ones that are still to be shown to the subscription.
abbrev pub AreUnseen : ContentRecord → ℕ → List Item → ℕ → Type 0
AreUnseen content sub items passed =
    (f : Followed) → slice_index_or content.subscriptions sub None ≡ Some f → items ≡ flagged f.unseen (take passed content.held)

-- Unless there may be more, none of the held items after the first `passed` is still to be shown to the subscription.
abbrev pub IsRest : ContentRecord → ℕ → ℕ → Bool → Type 0
IsRest content sub passed more =
    (f : Followed) → slice_index_or content.subscriptions sub None ≡ Some f → more ≡ false
    → (k : ℕ) → passed ≤ k → slice_index_or f.unseen k false ≡ false

-- The index found is that of the first element at or after `from` that passes the test. If there is none, no such
-- element passes.
pub record IsNext {X : Type 0} (test : X → Bool) (xs : List X) (from : ℕ) (found : Option ℕ) : Type 0 where
  pub there : IfSome found (λ n. (from ≤ n) × ((x : X) × (slice_get xs n ≡ Some x) × (test x ≡ true)))
  pub none_before : (k : ℕ) (x : X) → slice_get xs k ≡ Some x → from ≤ k → IfSome found (λ n. k < n) → test x ≡ false

-- The held item at the index, if there is one, was appended if it passes the test.
abbrev pub IsItemAdded : Holding → ℕ → (Item → Bool) → List Item → List Item → Type 0
IsItemAdded held index test old new = (i : Item) → slice_get (held_items held) index ≡ Some i → new ≡ old ++ filter test (i ∷ [])

-- The held item at the index passes the test.
abbrev pub IsItemUnder : Holding → ℕ → (Item → Bool) → Type 0
IsItemUnder held index test = (i : Item) × (slice_get (held_items held) index ≡ Some i) × (test i ≡ true)

-- Whether the masks say that their item is still to be shown to the subscription.
abbrev pub says_unseen : ℕ → Masks → Bool
says_unseen sub m = slice_index_or m.unseen sub false

-- Whether the item is still to be shown to the subscription.
abbrev pub is_to_show : MarkedHolding Masks → ℕ → Item → Bool
is_to_show h sub i = slice_index_or (unseen_at h i) sub false

-- The items are those of the first `passed` ones that are still to be shown to the subscription: `max` of them, or all.
pub record AreFirst (h : MarkedHolding Masks) (sub max : ℕ) (items : List Item) (passed : ℕ) : Type 0 where
  pub shown : items ≡ filter (is_to_show h sub) (take passed (held_items h.held))
  pub few : length items ≤ max
  pub enough : (length items ≡ max) ⊎ (items ≡ filter (is_to_show h sub) (held_items h.held))

-- Unless there may be more, none of the items after the first `passed` ones is still to be shown to the subscription.
abbrev pub IsRestOf : MarkedHolding Masks → ℕ → ℕ → Bool → Type 0
IsRestOf h sub passed more =
    more ≡ false → (k : ℕ) (i : Item) → slice_get (held_items h.held) k ≡ Some i → passed ≤ k → is_to_show h sub i ≡ false

-- The flag says whether there is a held item at the index that is still to be shown to the subscription.
pub record IsToShowHere (h : MarkedHolding Masks) (sub index : ℕ) (flag : Bool) : Type 0 where
  pub here : (i : Item) → slice_get (held_items h.held) index ≡ Some i → flag ≡ is_to_show h sub i
  pub nothing : slice_get (held_items h.held) index ≡ None → flag ≡ false
