-- The range of a page in a line: the key after which it begins, and the most changes.
use Rattle.std.specs.Prelude.{ℕ, ◌<◌, ◌^◌, List, [], ◌∷◌, ◌++◌, codes, Option, None, Some}
use Rattle.std.specs.Fmt.{decimal}
use Rattle.ds_names.specs.Name.{IsName}
use Rattle.ds_names.specs.declared.key.Key.{Key}
use Rattle.ds_line.specs.Part.{Part, part, Name, Number}
use Rattle.ds_line.specs.Spelling.{space}
use Rattle.ds_line.specs.Piece.{Piece}
use Rattle.script_commands.specs.Key.{key_parts}

-- The text `-`, which means that there is no key.
abbrev pub no_key : List ℕ
no_key = codes "-"

-- The key after which a page begins, or `-` for none, which ends like a name.
abbrev pub after_parts : Option Key → List Part
after_parts None = part Name no_key ∷ []
after_parts (Some key) = key_parts key

-- The key, if there is one, has a valid name.
abbrev pub IsAfter : Option Key → Type 0
IsAfter None = Unit {0}
IsAfter (Some key) = IsName key.name

-- The key after which the page begins, and the most changes.
abbrev pub range_parts : Option Key → ℕ → List Part
range_parts after max = after_parts after ++ space ∷ part Number (decimal max) ∷ []

-- A range of a page.
abbrev pub a_range : Piece
a_range = record {
  Of = Option Key × ℕ;
  Can = λ (x : Option Key × ℕ). IsAfter x.0 × (x.1 < 2 ^ 32);
  parts = λ (x : Option Key × ℕ). space ∷ range_parts x.0 x.1;
}
