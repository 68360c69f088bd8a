-- Scopes in a line: all keys, or those under a query.
use Rattle.std.specs.Prelude.{◌≢◌, ℕ, List, [], ◌∷◌, Option, None, Some}
use Rattle.ds_line.specs.Part.{Part, byte}
use Rattle.ds_line.specs.Spelling.{space}
use Rattle.ds_line.specs.Piece.{Piece}
use Rattle.ds_machine.specs.declared.command.Scope.{Scope}
use Rattle.ds_machine.specs.declared.command.Scope.TheVariants.{All, Under}
use Rattle.script_commands.specs.Query.{IsQuery, IsWrittenText, query_parts, written_query}

-- The parts of a scope: `*` for all keys, else those of the query.
abbrev pub scope_parts : Scope → List Part
scope_parts All = byte 42 ∷ []
scope_parts (Under query) = query_parts query

-- The query, if there is one, is valid.
abbrev pub IsScope : Scope → Type 0
IsScope All = Unit {0}
IsScope (Under query) = IsQuery query

-- Whether the scope has a pattern that isn't empty.
abbrev pub ScopeTakesMemory : Scope → Type 0
ScopeTakesMemory All = ⊥
ScopeTakesMemory (Under query) = query.text ≢ []

abbrev pub a_scope : Piece
a_scope = record { Of = Scope; Can = IsScope; parts = λ (scope : Scope). space ∷ scope_parts scope }

-- The scope of these bytes and kinds: without kinds that of all keys.
abbrev pub written_scope : List ℕ → Option ℕ → Scope
written_scope text None = All
written_scope text (Some kinds) = Under (written_query text kinds)

-- The bytes between the quotes of some text, if there are kinds.
abbrev pub IsWrittenScope : List ℕ → Option ℕ → Type 0
IsWrittenScope text None = Unit {0}
IsWrittenScope text (Some kinds) = IsWrittenText text
