-- Patterns, and the faults of a text that isn't one.
use Rattle.std.specs.Prelude.{Bool, ℕ, ◌<◌, ◌≤◌, ◌&&◌, ◌≡◌, ◌≢◌, ◌⊎◌, IsTrue, IsFalse, List, length, ⊤}
use Rattle.regex_hir.specs.declared.hir.Hir.{Hir}
use Rattle.regex_syntax.specs.Grammar.{Names}
use Rattle.regex_syntax.specs.Verdict.{default_config, Reads}
use Rattle.regex_syntax.specs.declared.error.ErrorKind.{ErrorKind}
use Rattle.regex_syntax.specs.declared.error.ErrorKind.TheVariants.{OutOfMemory}
use Rattle.ds_pattern.specs.declared.pattern.PatternFault.{PatternFault}
use Rattle.ds_pattern.specs.declared.pattern.PatternFault.TheVariants.{TooLong, BadPattern, NoRoom}
use Rattle.ds_pattern.specs.Under.{anchored, is_printable, is_regex}

-- Whether the text P is printable ASCII, and `regex` accepts both P and `^(?:P)$`.
unfoldable pub is_pattern : List ℕ → Bool
is_pattern p = is_printable p && is_regex p && is_regex (anchored p)

-- Whether the text is a pattern of at most 128 bytes.
pub record IsPattern (p : List ℕ) : Type 0 where
  pub limit : length p ≤ 128
  pub accepted : IsTrue (is_pattern p)

-- Whether the fault is the first that applies to the text. NoRoom doesn't say whether `regex` accepts the text.
abbrev pub IsPatternFault : PatternFault → List ℕ → Type 0
IsPatternFault TooLong p = 128 < length p
IsPatternFault BadPattern p = (length p ≤ 128) × IsFalse (is_pattern p)
IsPatternFault NoRoom p = (length p ≤ 128) × IsTrue (is_printable p)

-- The fault for an error of `regex`: NoRoom if it is out of memory, BadPattern for any other.
abbrev pub IsRegexFault : ErrorKind → PatternFault → Type 0
IsRegexFault kind fault = ((kind ≡ OutOfMemory) × (fault ≡ NoRoom)) ⊎ ((kind ≢ OutOfMemory) × (fault ≡ BadPattern))

-- The fault for the answer of `regex` about a text.
abbrev pub IsSyntaxFault : PatternFault → List ℕ → Type 0
IsSyntaxFault TooLong text = ⊥
IsSyntaxFault BadPattern text = IsFalse (is_regex text)
IsSyntaxFault NoRoom text = ⊤

-- Whether `regex` reads the text as this tree, with its default options.
pub record IsReadAs (text : List ℕ) (tree : Hir) : Type 0 where
  pub names : Names
  pub reads : Reads default_config text tree names
