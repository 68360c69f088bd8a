-- Texts and blobs.
use Rattle.std.specs.Prelude.{ℕ, ◌<◌, ◌≤◌, Bool, ◌&&◌, nat_le, IsTrue, List, length, slice_index}
use Rattle.std.specs.List.{list_all}

-- Whether the byte is printable ASCII, 0x20 to 0x7E.
abbrev pub is_text_byte : ℕ → Bool
is_text_byte b = nat_le 32 b && nat_le b 126

-- Whether the list has at most 256 elements, each printable ASCII.
pub record IsText (bytes : List ℕ) : Type 0 where
  pub limit : length bytes ≤ 256
  pub printable : IsTrue (list_all is_text_byte bytes)

-- Whether the list has at most 1024 elements, each a byte.
pub record IsBlob (bytes : List ℕ) : Type 0 where
  pub limit : length bytes ≤ 1024
  pub each : (i : ℕ) → slice_index bytes i < 256
