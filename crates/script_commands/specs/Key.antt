-- Keys and versions in a line.
use Rattle.std.specs.Prelude.{List, [], ◌∷◌}
use Rattle.std.specs.Fmt.{decimal}
use Rattle.ds_names.specs.declared.key.Key.{Key}
use Rattle.ds_names.specs.declared.version.Version.{Version}
use Rattle.ds_line.specs.Part.{Part, part, byte, Word, Name, Number}
use Rattle.ds_line.specs.Spelling.{space, kind_word}

-- The name and the word of the kind.
abbrev pub key_parts : Key → List Part
key_parts key = part Name key.name ∷ space ∷ part Word (kind_word key.kind) ∷ []

-- The epoch, a dot, and the sequence number.
abbrev pub version_parts : Version → List Part
version_parts version = part Number (decimal version.epoch) ∷ byte 46 ∷ part Number (decimal version.seq) ∷ []
