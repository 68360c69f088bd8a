-- What `regex` reads, refuses and finds is what the definitions state.
use Rattle.std.proofs.Common.{◌≡◌, ◌≢◌, ◌⊎◌, ℕ, zero, suc, ◌+◌, ◌-◌, ◌<◌, ◌≤◌, true, false, not, All, List, length, get_or, Option, None}
use Rattle.std.proofs.Common.{Some, IsSomeAnd, IfSome, is_some, option_map, if◌then◌else◌, refl, sym, ap, ◌∙◌, inl, inr, arith}
use Rattle.std.specs.Prelude.{nat_le, slice_get}
use Rattle.std.specs.Int.{is_in_range}
use Rattle.std.specs.Option.{option_or}
use Rattle.std.specs.Str.{IsAscii}
use Rattle.std.proofs.lemmas.Bool.{le-leb, lt-leb, and_parts}
use Rattle.std.proofs.lemmas.Bool.Decides.{nat_tests}
use Rattle.std.proofs.lemmas.List.Elements.{All-from_get_or}
use Rattle.std.proofs.lemmas.Option.{slice_get_cases, get_or_from_slice_get}
use Rattle.regex_compile.specs.Implements.{Implements}
use Rattle.regex_hir.specs.Re.{Re, Trace, Rest, accept, attempt}
use Rattle.regex_hir.specs.Find.{Match, find_str, first_from}
use Rattle.regex_hir.specs.Meaning.{meaning}
use Rattle.regex_hir.specs.Text.{is_boundary, is_none_or}
use Rattle.regex_hir.specs.declared.hir.Hir.{Hir}
use Rattle.regex_nfa.specs.Run.{run}
use Rattle.regex_nfa.specs.declared.nfa.Nfa.{Nfa}
use Rattle.regex_syntax.specs.Brackets.{Nested}
use Rattle.regex_syntax.specs.Captures.{SameCaptures, outcome}
use Rattle.regex_syntax.specs.Grammar.{Names, group_count}
use Rattle.regex_syntax.specs.Verdict.{default_config, Reads, Refuses}
use Rattle.regex_syntax.specs.declared.error.ErrorKind.{ErrorKind}
use Rattle.regex_syntax.specs.declared.error.ErrorKind.TheVariants as kind
use Rattle.ds_pattern.specs.declared.pattern.PatternFault.{PatternFault}
use Rattle.ds_pattern.specs.declared.pattern.PatternFault.TheVariants as fault
use Rattle.ds_pattern.specs.Narrow.{SameInAscii}
use Rattle.ds_pattern.specs.Under.{anchored, is_printable, is_read_as, is_regex, matches_whole, FindsWhole}
use Rattle.ds_pattern.specs.Patterns.{is_pattern, IsRegexFault, IsPatternFault, IsReadAs, IsSyntaxFault}
use Rattle.ds_pattern.proofs.PrintableLemmas.{ascii_of_printable, chars_of_printable, printable_anchored, printable_of_name}

-- What a tree tells of the text that it was read from.
abbrev IsFound : Re → Names → ℕ → Nested Re × Names → Type 0
IsFound re names limit found =
    (found.0.depth ≤ limit) × SameCaptures re found.0.value × (names ≡ found.1) × (group_count re ≤ length names)

within : (o : Option (Nested Re × Names)) (limit : ℕ) (re : Re) (names : Names) → IsSomeAnd o (IsFound re names limit) →
    is_read_as o (λ found. nat_le found.depth limit) ≡ true
within None limit re names h = absurd h
within (Some x) limit re names h = le-leb _ _ h.0

-- a text that is read is a pattern
pub regex_of_read : (text : List ℕ) (tree : Hir) → IsReadAs text tree → is_printable text ≡ true → is_regex text ≡ true
unfolding is_regex Reads
regex_of_read text tree h printable = within _ _ _ _ (rw (chars_of_printable text printable) at h.reads)

-- What a match returns says whether there is one.
seen_of : (o : Option Trace) → is_some (outcome o) ≡ is_some o
unfolding outcome
seen_of None = refl
seen_of (Some t) = refl

seen : (o p : Option Trace) → outcome o ≡ outcome p → is_some o ≡ is_some p
seen o p same = sym (seen_of o) ∙ ap is_some same ∙ seen_of p

first_alike : (f g : Rest) → ((i : ℕ) → is_some (f i) ≡ is_some (g i)) → (n i : ℕ) → is_some (first_from f n i) ≡ is_some (first_from g n i)
unfolding first_from
first_alike f g alike zero i = refl
first_alike f g alike (suc n) i = front (f i) (g i) (alike i) _ _ _ _ (first_alike f g alike n (i + 1)) where
  front : (o p : Option Trace) → is_some o ≡ is_some p → (at there : Trace → Match) (q r : Option Match) → is_some q ≡ is_some r →
      is_some (option_or (option_map at o) q) ≡ is_some (option_or (option_map there p) r)
  front None None same at there q r rest = rest
  front (Some s) (Some t) same at there q r rest = refl
  front None (Some t) same at there q r rest = absurd cc
  front (Some s) None same at there q r rest = absurd cc

-- No byte of a text of ASCII continues a character.
pub boundary_of_ascii : (text : List ℕ) (i : ℕ) → IsAscii text → is_boundary text i ≡ true
unfolding is_boundary
boundary_of_ascii text i ascii = at (slice_get_cases text i).1 where
  small : (b : ℕ) → b < 128 → not (is_in_range 0x80 0xBF b) ≡ true
  small b h = grind (arith, nat_tests)

  at : (((x : ℕ) × (i < length text) × (slice_get text i ≡ Some x) × (get_or text i x ≡ x)) ⊎
      ((length text ≤ i) × (slice_get text i ≡ None))) → is_none_or (slice_get text i) (λ b. not (is_in_range 0x80 0xBF b)) ≡ true
  at (inl h) =
      let low : get_or text i 0 < 128 = ascii i in
      rw h.2 (small h.0 (rw (get_or_from_slice_get text i h.0 0 h.2) at low))
  at (inr h) = rw h.1 refl

-- An automaton of the reduced tree finds a match in exactly the names that P matches whole.
pub finds_of_compiled : (nfa : Nfa) (narrow tree : Hir) (p : List ℕ) → Implements nfa (meaning narrow) →
    SameInAscii (meaning narrow) (meaning tree) → IsReadAs (anchored p) tree → is_printable p ≡ true → FindsWhole nfa p
unfolding FindsWhole matches_whole Reads find_str
finds_of_compiled nfa narrow tree p implements same read printable name is_name =
    let ascii = ascii_of_printable name (printable_of_name name is_name) in
    alike _ _ _ _ (λ re captures. first_alike _ _ (λ i. step i re captures ascii) (length name + 1 - 0) 0)
    (rw (chars_of_printable (anchored p) (printable_anchored p printable)) at read.reads) where
      bytes : IsAscii name → All (λ x. x < 256) name
      bytes ascii = All-from_get_or (λ x. x < 256) name 0 (λ i inside. let small : get_or name i 0 < 128 = ascii i in omega (arith, small))

      step : (i : ℕ) (re : Re) → SameCaptures (meaning tree) re → IsAscii name →
          is_some (run nfa name (length name) nfa.start i) ≡ is_some (if is_boundary name i then attempt name re accept i else None)
      step i re captures ascii =
          ap is_some (implements name i) ∙ same name ascii accept accept (λ j. refl) i ∙
          seen _ _ (captures.at name (bytes ascii) accept i) ∙ rw (boundary_of_ascii name i ascii) refl

      alike : (o : Option (Nested Re × Names)) (limit : ℕ) (re : Re) (names : Names) →
          ((other : Re) → SameCaptures re other →
          is_some (first_from (run nfa name (length name) nfa.start) (length name + 1 - 0) 0) ≡ is_some (find_str other name 0)) →
          IsSomeAnd o (IsFound re names limit) →
          is_some (first_from (run nfa name (length name) nfa.start) (length name + 1 - 0) 0) ≡ is_read_as o
          (λ found. is_some (find_str found.value name 0))
      alike None limit re names found h = absurd h
      alike (Some x) limit re names found h = found x.0.value h.1

refused_by : (o : Option (Nested Re × Names)) (limit : ℕ) (k : ErrorKind) → k ≢ kind.OutOfMemory →
    (k ≡ kind.OutOfMemory) ⊎ ((o ≡ None) ⊎ ((k ≡ kind.NestLimitExceeded) × IfSome o (λ (found, _). limit < found.depth))) →
    is_read_as o (λ found. nat_le found.depth limit) ≡ false
refused_by o limit k other (inl e) = absurd (other e)
refused_by None limit k other (inr h) = refl
refused_by (Some x) limit k other (inr (inl e)) = absurd cc
refused_by (Some x) limit k other (inr (inr h)) = lt-leb _ _ h.1

-- A text with an error of syntax isn't a pattern.
pub no_regex_of_refused : (text : List ℕ) (k : ErrorKind) → Refuses default_config text k → k ≢ kind.OutOfMemory →
    is_printable text ≡ true → is_regex text ≡ false
unfolding is_regex Refuses
no_regex_of_refused text k refused other printable = refused_by _ _ k other (rw (chars_of_printable text printable) at refused)

-- The fault of an error of `regex` is a fault of the text.
pub syntax_fault : (text : List ℕ) (k : ErrorKind) (f : PatternFault) → IsRegexFault k f → Refuses default_config text k →
    is_printable text ≡ true → IsSyntaxFault f text
syntax_fault text k f (inl h) refused printable = rw h.1 tt
syntax_fault text k f (inr h) refused printable = rw h.1 (no_regex_of_refused text k refused h.0 printable)

-- A text that passes each test is a pattern, and each pattern does.
pub accepted_of_parts : (p : List ℕ) → is_printable p ≡ true → is_regex p ≡ true → is_regex (anchored p) ≡ true → is_pattern p ≡ true
unfolding is_pattern
accepted_of_parts p printable alone whole = rw (printable, alone, whole) refl

pub printable_of_accepted : (p : List ℕ) → is_pattern p ≡ true → is_printable p ≡ true
unfolding is_pattern
printable_of_accepted p h = (and_parts _ _ (and_parts _ _ h).0).0

pub whole_of_accepted : (p : List ℕ) → is_pattern p ≡ true → is_regex (anchored p) ≡ true
unfolding is_pattern
whole_of_accepted p h = (and_parts _ _ h).1

-- A text with a byte that isn't printable isn't a pattern.
pub refused_unprintable : (p : List ℕ) → is_printable p ≡ false → is_pattern p ≡ false
unfolding is_pattern
refused_unprintable p h = rw h refl

-- A fault that `regex` finds in the text itself is the pattern's.
pub fault_alone : (p : List ℕ) (f : PatternFault) → length p ≤ 128 → is_printable p ≡ true → IsSyntaxFault f p → IsPatternFault f p
unfolding is_pattern
fault_alone p fault.TooLong short printable h = absurd h
fault_alone p fault.BadPattern short printable h = (short, rw (printable, h) refl)
fault_alone p fault.NoRoom short printable h = (short, printable)

-- And so is a fault that it finds in `^(?:P)$`.
pub fault_whole : (p : List ℕ) (f : PatternFault) → length p ≤ 128 → is_printable p ≡ true → is_regex p ≡ true →
    IsSyntaxFault f (anchored p) → IsPatternFault f p
unfolding is_pattern
fault_whole p fault.TooLong short printable alone h = absurd h
fault_whole p fault.BadPattern short printable alone h = (short, rw (printable, alone, h) refl)
fault_whole p fault.NoRoom short printable alone h = (short, printable)
