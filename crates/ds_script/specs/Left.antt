-- What is left of a script of format 2 when its comments and empty lines are taken away.
use Rattle.std.specs.Prelude.{◌≡◌, ℕ, Bool, true, false, List, [], ◌∷◌, nat_eq}
use Rattle.std.specs.List.{All, filter}
use Rattle.line_io.specs.Lines.{IsUnbroken, joined}
use Rattle.ds_script.specs.declared.place.Place.{Place}
use Rattle.ds_script.specs.declared.place.Place.TheVariants.{Begins, Within, Note}

-- The place after a byte of a comment.
abbrev pub after_note_byte : Bool → Place
after_note_byte true = Begins
after_note_byte false = Note

-- The place after a byte of another line.
abbrev pub after_line : Bool → Place
after_line true = Begins
after_line false = Within

-- The place after the first byte of a line: a number sign begins a comment.
abbrev pub after_first : (is_end is_sign : Bool) → Place
after_first true is_sign = Begins
after_first false true = Note
after_first false false = Within

-- The place after a byte.
abbrev pub next : Place → ℕ → Place
next Begins byte = after_first (nat_eq byte 10) (nat_eq byte 35)
next Within byte = after_line (nat_eq byte 10)
next Note byte = after_note_byte (nat_eq byte 10)

-- Whether a first byte of a line is kept.
abbrev pub keeps_first : (is_end is_sign : Bool) → Bool
keeps_first true is_sign = false
keeps_first false true = false
keeps_first false false = true

-- Whether a byte is kept: one of a comment, and the newline of an empty line, isn't.
abbrev pub keeps_byte : Place → ℕ → Bool
keeps_byte Begins byte = keeps_first (nat_eq byte 10) (nat_eq byte 35)
keeps_byte Within byte = true
keeps_byte Note byte = false

-- The byte if it is kept, before these.
abbrev pub kept_before : Bool → ℕ → List ℕ → List ℕ
kept_before true byte rest = byte ∷ rest
kept_before false byte rest = rest

-- The bytes that are left.
abbrev pub text_left : Place → List ℕ → List ℕ
text_left at [] = []
text_left at (byte ∷ rest) = kept_before (keeps_byte at byte) byte (text_left (next at byte) rest)

-- The place after bytes.
abbrev pub after : Place → List ℕ → Place
after at [] = at
after at (byte ∷ rest) = after (next at byte) rest

-- ---- by lines

-- Whether a line is kept: a comment, and an empty line, isn't.
abbrev pub is_kept_line : List ℕ → Bool
is_kept_line [] = false
is_kept_line (byte ∷ rest) = keeps_first (nat_eq byte 10) (nat_eq byte 35)

-- A law: of whole lines, what is left is those that are neither comments nor empty.
abbrev pub WholeLinesAreLeft : Type 0
WholeLinesAreLeft = (lines : List (List ℕ)) → All IsUnbroken lines → text_left Begins (joined lines) ≡ joined (filter is_kept_line lines)
