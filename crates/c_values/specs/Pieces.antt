-- The text of a reply, in pieces, and the part of it that is copied to a buffer.
use Rattle.std.specs.Prelude.{◌≡◌, ◌⊎◌, ℕ, ◌+◌, ◌<◌, ◌≤◌, List, [], ◌∷◌, ◌++◌, length, map, get_or, take, drop, slice_index_or}
use Rattle.std.specs.List.{concat}
use Rattle.ds_entry.specs.declared.body.Value.{Value}
use Rattle.ds_entry.specs.declared.body.Value.TheVariants as values
use Rattle.ds_entry.specs.declared.item.Item.{Item}
use Rattle.ds_line.specs.ItemSpelling.{item_spelling}
use Rattle.ds_machine.specs.declared.reply.Reply.{Reply}
use Rattle.ds_machine.specs.declared.reply.Reply.TheVariants.{Found, Named, Checked, Journaled, Snapped, Paged}
use Rattle.c_values.specs.declared.giving.Given.{Given}

-- The pieces of a value: one for a text or a blob, none for a label or a number.
abbrev pub value_pieces : Value → List (List ℕ)
value_pieces (values.Str text) = text ∷ []
value_pieces (values.Mem bytes) = bytes ∷ []
value_pieces _ = []

-- The pieces of a reply's text: its value or its name, or the line of each of its items.
abbrev pub pieces_of : Reply → List (List ℕ)
pieces_of (Found value) = value_pieces value
pieces_of (Named name) = name ∷ []
pieces_of (Checked items before after) = map item_spelling items
pieces_of (Journaled since) = map item_spelling since.items
pieces_of (Snapped snapshot) = map item_spelling snapshot.items
pieces_of (Paged page) = map item_spelling page.items
pieces_of _ = []

-- Whether the piece at the index is an item's line, which takes memory while it is copied.
pub record IsLineAt (pieces : List (List ℕ)) (index : ℕ) : Type 0 where
  pub item : Item
  pub within : index < length pieces
  pub line : item_spelling item ≡ get_or pieces index []

-- Whether the first `given.count` pieces are at the front of the buffer, and the rest of the buffer is unchanged.
pub record GivesPieces (pieces : List (List ℕ)) (old : List ℕ) (given : Given) (new : List ℕ) : Type 0 where
  pub count : given.count ≤ length pieces
  pub length_is : given.length ≡ length (concat (take given.count pieces))
  pub room : new ≡ concat (take given.count pieces) ++ drop given.length old
  -- why copying stopped: the text ended, the next piece doesn't fit in the rest, or memory ran out for it, since it is an item's line
  pub stop : (given.stop ≡ 0) ⊎ ((given.stop ≡ 1) ⊎ (given.stop ≡ 20))
  pub whole : given.stop ≡ 0 → given.count ≡ length pieces
  pub full : given.stop ≡ 1 → length old < given.length + length (slice_index_or pieces given.count [])
  pub wants : given.stop ≡ 20 → IsLineAt pieces given.count
