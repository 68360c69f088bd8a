-- Names: 1 to 64 bytes, each an ASCII letter or digit, a dot, an underscore or a dash.
use Rattle.std.specs.Prelude.{ℕ, ◌<◌, ◌≤◌, Bool, ◌||◌, ◌&&◌, ◌==◌, nat_le, IsTrue, List, [], ◌∷◌, length}
use Rattle.std.specs.List.{list_all}
use Rattle.std.specs.Cmp.Lexicographic.{pointwise}

-- Whether the byte is an ASCII letter or digit, `.`, `_` or `-`.
unfoldable pub is_name_byte : ℕ → Bool
is_name_byte b =
    (nat_le 48 b && nat_le b 57) || (nat_le 65 b && nat_le b 90) || (nat_le 97 b && nat_le b 122) || b == 46 || b == 95 || b == 45

-- Whether the bytes are a name.
pub record IsName (bytes : List ℕ) : Type 0 where
  pub some : 0 < length bytes
  pub limit : length bytes ≤ 64
  pub allowed : IsTrue (list_all is_name_byte bytes)

-- Whether two names are equal, byte by byte.
abbrev pub is_same_name : List ℕ → List ℕ → Bool
is_same_name = pointwise ◌==◌

-- The label of the reincarnation server, `rs`.
abbrev pub rs_name : List ℕ
rs_name = 114 ∷ 115 ∷ []
