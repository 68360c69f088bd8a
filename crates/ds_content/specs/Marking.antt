-- Changes of held items' masks. An index counts floors first, then changes in key order.
use Rattle.std.specs.Prelude.{◌≡◌, ℕ, ◌<◌, ◌≤◌, Some, slice_get}
use Rattle.std.specs.Option.{option_map}
use Rattle.ds_entry.specs.declared.item.Item.{Item}
use Rattle.ds_held.specs.Held.{held_items}
use Rattle.ds_index.specs.Marked.{MarkedHolding}
use Rattle.ds_watch.specs.declared.masks.Masks.{Masks}
use Rattle.ds_content.specs.Kept.{masks_at}

-- The item at the index has these masks now, and nothing else changed.
pub record IsSet (old new : MarkedHolding Masks) (index : ℕ) (masks : Masks) : Type 0 where
  pub held : new.held ≡ old.held
  pub here : (i : Item) → slice_get (held_items old.held) index ≡ Some i → masks_at new i ≡ Some masks
  pub others : (i : Item) (k : ℕ) → slice_get (held_items old.held) k ≡ Some i → (k ≡ index → ⊥) → masks_at new i ≡ masks_at old i

-- The masks of the item at the index became what `f` makes of them, and nothing else changed.
pub record IsRemarked (old new : MarkedHolding Masks) (index : ℕ) (f : Masks → Masks) : Type 0 where
  pub held : new.held ≡ old.held
  pub here : (i : Item) → slice_get (held_items old.held) index ≡ Some i → masks_at new i ≡ option_map f (masks_at old i)
  pub others : (i : Item) (k : ℕ) → slice_get (held_items old.held) k ≡ Some i → (k ≡ index → ⊥) → masks_at new i ≡ masks_at old i

-- Like `IsRemarked`, for the first `count` items.
pub record AreRemarked (old new : MarkedHolding Masks) (count : ℕ) (f : ℕ → Masks → Masks) : Type 0 where
  pub held : new.held ≡ old.held
  pub first : (k : ℕ) (i : Item) → slice_get (held_items old.held) k ≡ Some i → k < count →
      masks_at new i ≡ option_map (f k) (masks_at old i)
  pub rest : (k : ℕ) (i : Item) → slice_get (held_items old.held) k ≡ Some i → count ≤ k → masks_at new i ≡ masks_at old i
