-- The spelling that a script would have for a line typed at a terminal.
use Rattle.std.specs.Prelude.{◌≡◌, ℕ, ◌+◌, Bool, ◌&&◌, ◌||◌, nat_eq, cond, List, ◌++◌, length, map, take, drop, codes}
use Rattle.std.specs.List.{prefix_len, starts_with, ends_with}
use Rattle.std.specs.Cmp.Lexicographic.{pointwise}
use Rattle.std.specs.Char.{is_ascii_alphabetic, to_ascii_lowercase}
use Rattle.std.specs.Str.{IsTrimAsciiEnd}

-- The count of letters at the front of a line: those of its command.
abbrev pub word_length : List ℕ → ℕ
word_length line = prefix_len is_ascii_alphabetic line

-- The line with the letters at its front in lower case.
abbrev pub lowered : List ℕ → List ℕ
lowered line = map to_ascii_lowercase (take (word_length line) line) ++ drop (word_length line) line

-- Whether the last part of a line may have no bytes, so that the line ends with the space before that part: a value, after
-- `=`, or the text of `settings`.
abbrev pub may_end_in_space : List ℕ → Bool
may_end_in_space bare = ends_with nat_eq bare (codes "=") || pointwise nat_eq bare (codes "settings")

-- The count of spaces that are kept after a line without its blanks, of those blanks.
abbrev pub spaces_kept : (bare blanks : List ℕ) → ℕ
spaces_kept bare blanks = cond (may_end_in_space bare && starts_with nat_eq blanks (codes " ")) 1 0

-- Whether a line is cut after this many bytes: after its last byte that isn't a blank, and the space that is kept.
pub record IsCutAt (line : List ℕ) (count : ℕ) : Type 0 where
  pub bare : List ℕ
  pub trimmed : IsTrimAsciiEnd line bare
  pub counted : count ≡ length bare + spaces_kept bare (drop (length bare) line)
