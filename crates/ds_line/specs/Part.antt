-- The parts of a line. Each is a text of some class.
use Rattle.std.specs.Prelude.{ℕ, Bool, false, ◌&&◌, ◌||◌, nat_le, List, [], ◌∷◌}
use Rattle.std.specs.List.{flat_map}
use Rattle.std.specs.Char.{is_ascii_digit, is_ascii_alphanumeric}
use Rattle.ds_names.specs.Name.{is_name_byte}

-- The class of a part's text: one byte, a name, a word, a decimal number, an endpoint, a quoted text, or bytes in hex.
pub data Class : Type 0 where
  Byte : Class
  Name : Class
  Word : Class
  Number : Class
  Endpoint : Class
  Quoted : Class
  Hex : Class

-- Whether the byte is a digit or a letter from `a` to `f`.
abbrev pub is_hex_byte : ℕ → Bool
is_hex_byte b = (nat_le 48 b && nat_le b 57) || (nat_le 97 b && nat_le b 102)

-- Whether a byte directly after a part of the class would make it longer.
abbrev pub run_of : Class → ℕ → Bool
run_of Byte b = false
run_of Name b = is_name_byte b
run_of Word b = is_ascii_alphanumeric b
run_of Number b = is_ascii_digit b
run_of Endpoint b = is_ascii_digit b
run_of Quoted b = false
run_of Hex b = is_hex_byte b

-- A part: a text, and the class that decides where the part ends.
pub record Part : Type 0 where
  pub class : Class
  pub text : List ℕ

-- The part with this class and text.
abbrev pub part : Class → List ℕ → Part
part class text = record { class = class; text = text }

-- The part that is one byte.
abbrev pub byte : ℕ → Part
byte b = part Byte (b ∷ [])

-- The texts of the parts, in order.
abbrev pub texts : List Part → List ℕ
texts parts = flat_map (λ (p : Part). p.text) parts
