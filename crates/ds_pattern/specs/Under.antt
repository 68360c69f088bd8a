-- The keys under a query: the query names the key's kind, and the pattern matches the key's name whole.
use Rattle.std.specs.Prelude.{◌≡◌, ℕ, Bool, false, ◌&&◌, List, ◌++◌, length, Option, None, Some, is_some, codes, nat_le}
use Rattle.std.specs.List.{list_all}
use Rattle.regex_hir.specs.Re.{Re}
use Rattle.regex_hir.specs.Find.{find_str}
use Rattle.regex_nfa.specs.declared.nfa.Nfa.{Nfa}
use Rattle.regex_vm.specs.Found.{first_match}
use Rattle.regex_syntax.specs.Brackets.{Nested}
use Rattle.regex_syntax.specs.Grammar.{Names, read}
use Rattle.regex_syntax.specs.Verdict.{default_config}
use Rattle.ds_names.specs.Kind.{names_kind}
use Rattle.ds_names.specs.Name.{IsName}
use Rattle.ds_names.specs.declared.key.Key.{Key}
use Rattle.ds_pattern.specs.declared.query.Query.{Query}

-- The query of a pattern and kinds.
abbrev pub query_of : List ℕ → ℕ → Query
query_of p mask = record { text = p; kinds = mask }

-- The text `^(?:P)$`, which matches what P matches from the first byte of a name to its last.
abbrev pub anchored : List ℕ → List ℕ
anchored p = codes "^(?:" ++ p ++ codes ")$"

-- Whether `regex` could read a pattern, and the pattern passes the test.
abbrev pub is_read_as : Option (Nested Re × Names) → (Nested Re → Bool) → Bool
is_read_as None test = false
is_read_as (Some (re, names)) test = test re

-- Whether the pattern P matches the name whole, as `regex` matches `^(?:P)$` with its default options.
unfoldable pub matches_whole : List ℕ → List ℕ → Bool
matches_whole p name = is_read_as (read default_config (anchored p)) (λ re. is_some (find_str re.value name 0))

-- Whether the query names the key's kind, and its pattern matches the key's name whole.
abbrev pub is_under : Query → Key → Bool
is_under q key = names_kind q.kinds key.kind && matches_whole q.text key.name

-- Whether the byte is printable ASCII.
abbrev pub is_printable_byte : ℕ → Bool
is_printable_byte b = nat_le 0x20 b && nat_le b 0x7E

-- Whether all bytes are printable ASCII.
abbrev pub is_printable : List ℕ → Bool
is_printable = list_all is_printable_byte

-- Whether `regex` accepts the text as a regular expression with its default options, nested no deeper than it allows.
unfoldable pub is_regex : List ℕ → Bool
is_regex text = is_read_as (read default_config text) (λ re. nat_le re.depth default_config.nest_limit)

-- Whether the automaton finds a match in exactly the names that P matches whole.
unfoldable pub FindsWhole : Nfa → List ℕ → Type 0
FindsWhole nfa p = (name : List ℕ) → IsName name → is_some (first_match nfa name (length name) 0 (length name)) ≡ matches_whole p name
