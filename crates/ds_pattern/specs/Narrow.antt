-- The properties that a pattern keeps when it is reduced to ASCII.
use Rattle.std.specs.Prelude.{◌≡◌, ℕ, ◌≤◌, List, [], ◌∷◌, is_some, ⊤}
use Rattle.std.specs.Str.{IsAscii}
use Rattle.regex_class.specs.Ranges.{Range, in_ranges}
use Rattle.regex_hir.specs.Re.{Re, Rest, attempt}
use Rattle.regex_hir.specs.Looks.{holds}
use Rattle.regex_hir.specs.declared.look.Look.{Look}

-- Whether both classes have the same members below 128.
abbrev pub SameAscii : List Range → List Range → Type 0
SameAscii rs ss = (c : ℕ) → c ≤ 0x7F → in_ranges rs c ≡ in_ranges ss c

-- Whether, in a text of ASCII, both assertions hold at the same places.
abbrev pub HoldsInAscii : Look → Look → Type 0
HoldsInAscii a b = (text : List ℕ) → IsAscii text → (i : ℕ) → holds a text i ≡ holds b text i

-- Whether, in a text of ASCII, both patterns match at the same places, whatever follows.
abbrev pub SameInAscii : Re → Re → Type 0
SameInAscii a b =
    (text : List ℕ) → IsAscii text → (k l : Rest) → ((i : ℕ) → is_some (k i) ≡ is_some (l i)) →
    (i : ℕ) → is_some (attempt text a k i) ≡ is_some (attempt text b l i)

-- Whether, in a text of ASCII, the patterns at each index of the two lists match at the same places.
abbrev pub EachSame : List Re → List Re → Type 0
EachSame [] [] = ⊤
EachSame (a ∷ first) (b ∷ second) = SameInAscii a b × EachSame first second
EachSame _ _ = ⊥
