-- The line of an item: a change's, or a floor's.
use Rattle.std.specs.Prelude.{ℕ, List, [], ◌∷◌}
use Rattle.std.specs.Fmt.{decimal}
use Rattle.ds_entry.specs.declared.floor.Floor.{Floor}
use Rattle.ds_entry.specs.declared.item.Item.{Item}
use Rattle.ds_entry.specs.declared.item.Item.TheVariants.{Change as Changed, Floor as Floored}
use Rattle.ds_line.specs.Part.{Part, part, byte, Name, Number, texts}
use Rattle.ds_line.specs.Spelling.{space, newline, change_parts}

-- The parts of a floor: `!`, the owner, and the generation.
abbrev pub floor_parts : Floor → List Part
floor_parts f = byte 33 ∷ space ∷ part Name f.owner ∷ space ∷ part Number (decimal f.generation) ∷ newline ∷ []

-- The parts of a change or a floor.
abbrev pub item_parts : Item → List Part
item_parts (Changed c) = change_parts c
item_parts (Floored f) = floor_parts f

-- The item's one line, newline included.
abbrev pub item_spelling : Item → List ℕ
item_spelling i = texts (item_parts i)
