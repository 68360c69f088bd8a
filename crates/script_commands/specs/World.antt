-- The words of a world: the holders of a delivery.
use Rattle.std.specs.Prelude.{ℕ, ◌<◌, ◌^◌, List, ◌∷◌, Option, None, Some}
use Rattle.std.specs.Fmt.{decimal}
use Rattle.ds_line.specs.Part.{Part, part, byte, Number}
use Rattle.ds_replica.specs.declared.event.Holder.{Holder}
use Rattle.ds_replica.specs.declared.event.Holder.TheVariants.{Store, Map}
use Rattle.script_answers.specs.Outcome.{side_word}

-- A side's word, or `m` and the number of a map.
abbrev pub holder_word : Holder → List ℕ
holder_word (Store side) = side_word side
holder_word (Map map) = 109 ∷ decimal map

-- The map's number is below 2^64.
abbrev pub IsHolder : Holder → Type 0
IsHolder (Store side) = Unit {0}
IsHolder (Map map) = map < 2 ^ 64

-- The part of a count: `*`, or the number of items.
abbrev pub count_part : Option ℕ → Part
count_part None = byte 42
count_part (Some n) = part Number (decimal n)

-- The number of items is below 2^32.
abbrev pub IsCount : Option ℕ → Type 0
IsCount None = Unit {0}
IsCount (Some n) = n < 2 ^ 32
