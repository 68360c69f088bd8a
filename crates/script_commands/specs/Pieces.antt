-- The pieces of a command's line, as their readers find them. Each begins with the byte that separates it from the
-- piece before.
use Rattle.std.specs.Prelude.{ℕ, ◌<◌, ◌≤◌, ◌^◌, Bool, true, false, List, [], ◌∷◌, codes}
use Rattle.std.specs.Fmt.{decimal}
use Rattle.ds_names.specs.Name.{IsName}
use Rattle.ds_names.specs.Endpoint.{EndpointRecord, IsEndpoint, endpoint_text}
use Rattle.ds_names.specs.declared.kind.Kind.{Kind}
use Rattle.ds_names.specs.declared.key.Key.{Key}
use Rattle.ds_names.specs.declared.version.Version.{Version}
use Rattle.ds_entry.specs.declared.body.Value.{Value}
use Rattle.ds_entry.specs.declared.body.Body.TheVariants.{Put}
use Rattle.ds_entry.specs.Change.{ValueCopyTakesMemory}
use Rattle.ds_line.specs.Part.{part, byte, Word as AWord, Name, Number, Endpoint, Quoted}
use Rattle.ds_line.specs.Spelling.{space, newline, kind_word, quoted, body_parts}
use Rattle.ds_line.specs.Piece.{Piece, Found, IsValueOf}
use Rattle.line_io.specs.Lines.{IsUnbroken}
use Rattle.script_commands.specs.Key.{key_parts, version_parts}

-- The word of a mode: `over` if the value overwrites, else `new`.
abbrev pub mode_word : Bool → List ℕ
mode_word true = codes "over"
mode_word false = codes "new"

-- The word of a subscription: `first` if it is shown what is held already, else `later`.
abbrev pub initial_word : Bool → List ℕ
initial_word true = codes "first"
initial_word false = codes "later"

-- The numbers of a version are in their ranges.
pub record IsVersion (version : Version) : Type 0 where
  pub epoch : version.epoch ≤ 2097151
  pub seq : version.seq < 2 ^ 32

abbrev pub an_endpoint : Piece
an_endpoint = record { Of = EndpointRecord; Can = IsEndpoint; parts = λ (e : EndpointRecord). space ∷ part Endpoint (endpoint_text e) ∷ [] }

-- The piece of a mode, `new` or `over`.
abbrev pub a_mode : Piece
a_mode = record {
  Of = Bool;
  Can = λ (overwrite : Bool). Unit {0};
  parts = λ (overwrite : Bool). space ∷ part AWord (mode_word overwrite) ∷ [];
}

-- The piece `first` or `later` of a subscription.
abbrev pub an_initial : Piece
an_initial = record {
  Of = Bool;
  Can = λ (initial : Bool). Unit {0};
  parts = λ (initial : Bool). space ∷ part AWord (initial_word initial) ∷ [];
}

abbrev pub a_name : Piece
a_name = record { Of = List ℕ; Can = IsName; parts = λ (name : List ℕ). space ∷ part Name name ∷ [] }

-- The word of a kind.
abbrev pub a_kind : Piece
a_kind = record { Of = Kind; Can = λ (kind : Kind). Unit {0}; parts = λ (kind : Kind). space ∷ part AWord (kind_word kind) ∷ [] }

abbrev pub a_key : Piece
a_key = record { Of = Key; Can = λ (key : Key). IsName key.name; parts = λ (key : Key). space ∷ key_parts key }

abbrev pub a_generation : Piece
a_generation = record { Of = ℕ; Can = λ (n : ℕ). n ≤ 2097151; parts = λ (n : ℕ). space ∷ part Number (decimal n) ∷ [] }

abbrev pub a_seq : Piece
a_seq = record { Of = ℕ; Can = λ (n : ℕ). n < 2 ^ 32; parts = λ (n : ℕ). byte 46 ∷ part Number (decimal n) ∷ [] }

abbrev pub a_version : Piece
a_version = record { Of = Version; Can = IsVersion; parts = λ (version : Version). space ∷ version_parts version }

-- A number below 2^32.
abbrev pub a_number : Piece
a_number = record { Of = ℕ; Can = λ (n : ℕ). n < 2 ^ 32; parts = λ (n : ℕ). space ∷ part Number (decimal n) ∷ [] }

-- A number below 2^64.
abbrev pub a_place : Piece
a_place = record { Of = ℕ; Can = λ (n : ℕ). n < 2 ^ 64; parts = λ (n : ℕ). space ∷ part Number (decimal n) ∷ [] }

-- The mask of some kinds.
abbrev pub a_kinds : Piece
a_kinds = record { Of = ℕ; Can = λ (n : ℕ). (0 < n) × (n ≤ 15); parts = λ (n : ℕ). space ∷ part Number (decimal n) ∷ [] }

-- The text of a pattern, in quotes.
abbrev pub a_pattern : Piece
a_pattern = record { Of = List ℕ; Can = IsUnbroken; parts = λ (text : List ℕ). space ∷ part Quoted (quoted text) ∷ [] }

-- The piece of `=`, a value of the kind, and the newline.
abbrev pub a_value : Kind → Piece
a_value kind = record { Of = Value; Can = IsValueOf kind; parts = λ (value : Value). space ∷ body_parts (Put value) }

-- A value of the kind that takes memory comes next, with its `=` and the newline.
abbrev pub ValueTakesMemory : Kind → List ℕ → Type 0
ValueTakesMemory kind bytes = (value : Value) × (rest : List ℕ) × Found (a_value kind) value bytes rest × ValueCopyTakesMemory value

-- The newline.
abbrev pub an_end : Piece
an_end = record { Of = Unit {0}; Can = λ x. Unit {0}; parts = λ x. newline ∷ [] }
