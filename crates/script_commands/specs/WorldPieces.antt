-- The pieces of a world's lines, as their readers find them.
use Rattle.std.specs.Prelude.{ℕ, ◌<◌, ◌≤◌, [], ◌∷◌, Option}
use Rattle.std.specs.Fmt.{decimal}
use Rattle.ds_line.specs.Part.{part, Word, Number}
use Rattle.ds_line.specs.Spelling.{space}
use Rattle.ds_line.specs.Piece.{Piece}
use Rattle.script_answers.specs.Outcome.{side_word}
use Rattle.script_commands.specs.World.{holder_word, IsHolder, count_part, IsCount}
use Rattle.ds_replica.specs.declared.event.Side.{Side}
use Rattle.ds_replica.specs.declared.event.Holder.{Holder}

-- The number of items that a journal keeps.
abbrev pub a_ring : Piece
a_ring = record { Of = ℕ; Can = λ (n : ℕ). (0 < n) × (n ≤ 4096); parts = λ (n : ℕ). space ∷ part Number (decimal n) ∷ [] }

abbrev pub a_side : Piece
a_side = record { Of = Side; Can = λ (side : Side). Unit {0}; parts = λ (side : Side). space ∷ part Word (side_word side) ∷ [] }

-- A side or a map.
abbrev pub a_holder : Piece
a_holder = record { Of = Holder; Can = IsHolder; parts = λ (holder : Holder). space ∷ part Word (holder_word holder) ∷ [] }

-- The number of items, or `*`.
abbrev pub a_count : Piece
a_count = record { Of = Option ℕ; Can = IsCount; parts = λ (count : Option ℕ). space ∷ count_part count ∷ [] }
