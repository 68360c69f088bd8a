-- Queries in a line.
use Rattle.std.specs.Prelude.{◌≡◌, ◌==◌, ℕ, ◌<◌, ◌≤◌, List, [], ◌∷◌, if◌then◌else◌}
use Rattle.std.specs.Fmt.{decimal}
use Rattle.ds_line.specs.Part.{Part, part, Number, Quoted}
use Rattle.ds_line.specs.Spelling.{space, escaped, quoted}
use Rattle.ds_pattern.specs.declared.query.Query.{Query}
use Rattle.ds_pattern.specs.Under.{query_of}
use Rattle.line_io.specs.Lines.{IsUnbroken}

-- The pattern in quotes, and the mask of the kinds.
abbrev pub query_parts : Query → List Part
query_parts query = part Quoted (quoted query.text) ∷ space ∷ part Number (decimal query.kinds) ∷ []

-- The text has no newline, and one or more of the four kinds are named. Whether the text is a pattern is judged by the
-- store or map that takes the query.
pub record IsQuery (query : Query) : Type 0 where
  pub text : IsUnbroken query.text
  pub some : 0 < query.kinds
  pub limit : query.kinds ≤ 15

-- The bytes between the quotes of a text without a newline.
abbrev pub IsWrittenText : List ℕ → Type 0
IsWrittenText written = (text : List ℕ) × IsUnbroken text × (written ≡ escaped text)

-- The text of these bytes: a backslash means the byte after it.
unfoldable pub unescaped : List ℕ → List ℕ
unescaped [] = []
unescaped (b ∷ []) = b ∷ []
unescaped (b ∷ c ∷ written) = if b == 92 then c ∷ unescaped written else b ∷ unescaped (c ∷ written)

-- The query of a pattern, given by the bytes between its quotes, and of these kinds.
abbrev pub written_query : List ℕ → ℕ → Query
written_query written kinds = query_of (unescaped written) kinds
