-- Scopes: one is missing, or it is read.
use Rattle.std.proofs.Common.{◌≡◌, ◌≢◌, ℕ, suc, ◌<◌, ◌≤◌, List, [], ◌∷◌, ◌++◌, length, get_or, drop, refl, sym, ap, ◌∙◌, arith}
use Rattle.std.specs.Fmt.{decimal}
use Rattle.ds_line.specs.Part.{Part, part, byte, Number, Quoted}
use Rattle.ds_line.specs.Spelling.{space, escaped, quoted}
use Rattle.ds_line.specs.FaultPlace.{Stand}
use Rattle.ds_line.specs.Piece.{Piece, Found, Breaks, StopsIn}
use Rattle.ds_line.specs.declared.part_fault.PartFault.{PartFault}
use Rattle.ds_line.specs.declared.part_fault.PartFault.TheVariants.{BadPart, NoRoom}
use Rattle.ds_line.proofs.PieceLemmas.{One, past, then_breaks, both_found, count_fits}
use Rattle.ds_pattern.specs.declared.query.Query.{Query}
use Rattle.script_commands.specs.Pieces.{a_pattern, a_kinds}
use Rattle.script_commands.specs.Reads.{ReadsOr, FindsPattern}
use Rattle.ds_machine.specs.declared.command.Scope.{Scope}
use Rattle.ds_machine.specs.declared.command.Scope.TheVariants.{All, Under}
use Rattle.ds_pattern.specs.Under.{query_of}
use Rattle.script_commands.specs.Query.{unescaped}
use Rattle.script_commands.specs.Scope.{a_scope, scope_parts, IsScope}
use Rattle.script_commands.proofs.PieceLemmas.{kinds_one}
use Rattle.script_commands.proofs.QueryLemmas.{pattern_fixed, pattern_one}
use Rattle.script_commands.proofs.OneLemmas.{one_after}
use Rattle.script_commands.proofs.OpenLemmas.{Apart, first_counts}

-- what follows the space
abbrev pub scope_rest : Piece
scope_rest = record { Of = Scope; Can = IsScope; parts = scope_parts }

-- a pattern, and a mask of kinds
abbrev pub a_query : Piece
a_query = past a_pattern (λ (_ : List ℕ). a_kinds)

-- ---- neither `*` nor a pattern is there

abbrev first_part : Scope → Part
first_part All = byte 42
first_part (Under query) = part Quoted (quoted query.text)

abbrev more_parts : Scope → List Part
more_parts All = []
more_parts (Under query) = space ∷ part Number (decimal query.kinds) ∷ []

starts : (scope : Scope) → scope_parts scope ≡ first_part scope ∷ more_parts scope
starts All = refl
starts (Under query) = refl

-- ---- `*` and a pattern are never at one place

abbrev second_byte : List ℕ → ℕ
second_byte bytes = get_or bytes 1 0

star_no_quote : (bytes r t : List ℕ) → bytes ≡ 32 ∷ 42 ∷ r → bytes ≢ 32 ∷ 34 ∷ t
star_no_quote bytes r t star quote = omega (arith, ap second_byte star, ap second_byte quote)

-- `*` after a space
star_stands : (bytes rest : List ℕ) → Stand 2 (space ∷ byte 42 ∷ []) bytes rest → bytes ≡ 32 ∷ 42 ∷ rest
star_stands bytes rest h = h.1.parts ∙ ap (λ (t : List ℕ). 32 ∷ t) (h.2.1.parts ∙ ap (λ (t : List ℕ). 42 ∷ t) h.2.2)

-- a pattern after a space
quote_stands : (text bytes mid rest : List ℕ) → bytes ≡ 32 ∷ mid → mid ≡ quoted text ++ rest → (t : List ℕ) × (bytes ≡ 32 ∷ 34 ∷ t)
quote_stands text bytes mid rest space_is quote_is = ((escaped text ++ 34 ∷ []) ++ rest, space_is ∙ ap (λ (t : List ℕ). 32 ∷ t) quote_is)

-- ---- the kinds after a pattern are missing

query_most : (bytes after : List ℕ) (k : ℕ) → 2 ≤ k →
    ((x : a_query.Of) (end : List ℕ) → a_query.Can x → ¬ Stand (suc k) (a_query.parts x) bytes end) → (scope : Scope) →
    IsScope scope → Stand (suc k) (space ∷ scope_parts scope) bytes after → ⊥
query_most bytes after k two most All can h = omega (arith, two, count_fits (suc k) (space ∷ byte 42 ∷ []) bytes after h)
query_most bytes after k two most (Under query) can h = most (query.text, query.kinds) after (can.text, (can.some, can.limit)) h

query_none : (bytes after t : List ℕ) → bytes ≡ 32 ∷ 34 ∷ t →
    ((x : a_query.Of) (end : List ℕ) → a_query.Can x → ¬ Stand (length (a_query.parts x)) (a_query.parts x) bytes end) → (scope : Scope) →
    IsScope scope
    → Stand (length (space ∷ scope_parts scope)) (space ∷ scope_parts scope) bytes after → ⊥
query_none bytes after t quote none All can h = star_no_quote bytes after t (star_stands bytes after h) quote
query_none bytes after t quote none (Under query) can h = none (query.text, query.kinds) after (can.text, (can.some, can.limit)) h

query_breaks : (written bytes r rest : List ℕ) → FindsPattern written bytes r → Breaks a_kinds r rest → Breaks a_scope bytes rest
unfolding ReadsOr
query_breaks written bytes r rest found s =
    let t = then_breaks a_pattern (λ _. a_kinds) 2 (unescaped written) bytes r rest pattern_fixed pattern_one found.1.found s in
    let quote = quote_stands (unescaped written) bytes found.1.found.front.0 found.1.found.front.2.0 found.1.found.front.1.parts
    found.1.found.front.2.1.parts in
    record {
      count = t.count;
      thing = Under (query_of t.thing.0 t.thing.1);
      can = record { text = t.can.0; some = t.can.1.0; limit = t.can.1.1 };
      front = t.front;
      most = λ scope after can h. query_most bytes after t.count
          (first_counts a_pattern (λ _. a_kinds) (unescaped written) 1 bytes r rest found.1.found (omega arith, omega arith) t) t.most
          scope can h;
      none = λ scope after can h. query_none bytes after quote.0 quote.1 t.none scope can h;
    }

pub scope_kinds_stops : (written : List ℕ) (stop : PartFault) (bytes r : List ℕ) → FindsPattern written bytes r → stop ≢ NoRoom →
    StopsIn a_kinds stop r → StopsIn a_scope stop bytes
scope_kinds_stops written (BadPart left) bytes r found room s = (s.0, query_breaks written bytes r s.0 found s.1, s.2)
scope_kinds_stops written NoRoom bytes r found room s = absurd (room refl)

-- ---- a scope is read

pub query_found : (written bytes r rest : List ℕ) (kinds : ℕ) (found : FindsPattern written bytes r) → Found a_kinds kinds r rest →
    Found a_scope (Under (query_of (unescaped written) kinds)) bytes rest
unfolding ReadsOr
query_found written bytes r rest kinds found second =
    let both = both_found a_pattern (λ _. a_kinds) (unescaped written) kinds bytes r rest found.1.found second in
    record { can = record { text = found.1.found.can; some = second.can.0; limit = second.can.1 }; front = both.front }

query_one : One a_query
query_one = one_after a_pattern (λ _. a_kinds) pattern_one (λ _. kinds_one)

query_quote : (query : Query) (bytes rest : List ℕ) → Found a_scope (Under query) bytes rest → (t : List ℕ) × (bytes ≡ 32 ∷ 34 ∷ t)
query_quote query bytes rest f = quote_stands query.text bytes f.front.0 f.front.2.0 f.front.1.parts f.front.2.1.parts

as_query : (query : Query) (bytes rest : List ℕ) → Found a_scope (Under query) bytes rest →
    Found a_query (query.text, query.kinds) bytes rest
as_query query bytes rest f = record { can = (f.can.text, (f.can.some, f.can.limit)); front = f.front }

scopes_one : (a b : Scope) (bytes r s : List ℕ) → Found a_scope a bytes r → Found a_scope b bytes s → (b ≡ a) × (s ≡ r)
scopes_one All All bytes r s fa fb = (refl, ap (drop 2) (sym (star_stands bytes s fb.front) ∙ star_stands bytes r fa.front))
scopes_one All (Under q) bytes r s fa fb = let quote = query_quote q bytes s fb in
    absurd (star_no_quote bytes r quote.0 (star_stands bytes r fa.front) quote.1)
scopes_one (Under p) All bytes r s fa fb = let quote = query_quote p bytes r fa in
    absurd (star_no_quote bytes s quote.0 (star_stands bytes s fb.front) quote.1)
scopes_one (Under p) (Under q) bytes r s fa fb =
    let one = query_one (p.text, p.kinds) (q.text, q.kinds) bytes r s (as_query p bytes r fa) (as_query q bytes s fb) in
    (ap (λ (x : a_query.Of). Under (query_of x.0 x.1)) one.0, one.1)

pub scope_one : One a_scope
scope_one = scopes_one

scopes_apart : (a b : Scope) (bytes r after : List ℕ) → Found a_scope a bytes r → IsScope b →
    length (space ∷ scope_parts a) < length (space ∷ scope_parts b) →
    Stand (suc (length (space ∷ scope_parts a))) (space ∷ scope_parts b) bytes after → ⊥
scopes_apart All All bytes r after f can lt h = omega (arith, lt)
scopes_apart All (Under q) bytes r after f can lt h =
    let quote = quote_stands q.text bytes h.0 h.2.0 h.1.parts h.2.1.parts in
    star_no_quote bytes r quote.0 (star_stands bytes r f.front) quote.1
scopes_apart (Under p) All bytes r after f can lt h = omega (arith, lt)
scopes_apart (Under p) (Under q) bytes r after f can lt h = omega (arith, lt)

-- no scope extends another at the same front
pub scope_apart : Apart a_scope
scope_apart = scopes_apart
