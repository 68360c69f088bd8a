-- The parts of a change's line, and the line that they form.
use Rattle.std.specs.Prelude.{ℕ, ◌==◌, ◌||◌, if◌then◌else◌, List, [], ◌∷◌, ◌++◌, codes}
use Rattle.std.specs.List.{flat_map}
use Rattle.std.specs.Fmt.{decimal}
use Rattle.hex.specs.Hex.{encode_lower}
use Rattle.ds_names.specs.Endpoint.{endpoint_text}
use Rattle.ds_names.specs.declared.kind.Kind.{Kind}
use Rattle.ds_names.specs.declared.kind.Kind.TheVariants.{Label, U32, Str, Mem}
use Rattle.ds_entry.specs.declared.body.Value.{Value}
use Rattle.ds_entry.specs.declared.body.Value.TheVariants as values
use Rattle.ds_entry.specs.declared.body.Body.{Body}
use Rattle.ds_entry.specs.declared.body.Body.TheVariants.{Put, Gone}
use Rattle.ds_entry.specs.Change.{ChangeRecord}
use Rattle.ds_line.specs.Part.{Part, part, byte, Name, Word, Number, Endpoint, Quoted, Hex, texts}

-- The space between two parts.
abbrev pub space : Part
space = byte 32

-- The newline that ends a line.
abbrev pub newline : Part
newline = byte 10

-- The word of a kind: `label`, `u32`, `str` or `mem`.
abbrev pub kind_word : Kind → List ℕ
kind_word Label = codes "label"
kind_word U32 = codes "u32"
kind_word Str = codes "str"
kind_word Mem = codes "mem"

-- The escaped form of a byte: a quote and a backslash get a backslash before them, any other byte is unchanged.
abbrev pub escaped_byte : ℕ → List ℕ
escaped_byte b = if b == 34 || b == 92 then 92 ∷ b ∷ [] else b ∷ []

-- The escaped form of each byte of the text.
abbrev pub escaped : List ℕ → List ℕ
escaped text = flat_map escaped_byte text

-- The escaped text between two quotes.
abbrev pub quoted : List ℕ → List ℕ
quoted text = 34 ∷ (escaped text ++ 34 ∷ [])

-- The part of a value: a label's endpoint, a number in decimal, a text in quotes, or a blob in lower-case hex.
abbrev pub value_part : Value → Part
value_part (values.Label endpoint) = part Endpoint (endpoint_text endpoint)
value_part (values.U32 number) = part Number (decimal number)
value_part (values.Str text) = part Quoted (quoted text)
value_part (values.Mem blob) = part Hex (encode_lower blob)

-- The parts of a body. A put: `=`, a space, the value, the newline. A tombstone: `-`, the newline.
abbrev pub body_parts : Body → List Part
body_parts (Put value) = byte 61 ∷ space ∷ value_part value ∷ newline ∷ []
body_parts Gone = byte 45 ∷ newline ∷ []

-- The parts of a change: the name, the word of the kind, the owner, the epoch, a dot, the sequence number, and the
-- body.
abbrev pub change_parts : ChangeRecord → List Part
change_parts c =
    part Name c.key.name ∷ space
    ∷ part Word (kind_word c.key.kind) ∷ space
    ∷ part Name c.owner ∷ space
    ∷ part Number (decimal c.version.epoch) ∷ byte 46 ∷ part Number (decimal c.version.seq) ∷ space
    ∷ body_parts c.body

-- The change's one line, newline included.
abbrev pub spelling : ChangeRecord → List ℕ
spelling c = texts (change_parts c)
