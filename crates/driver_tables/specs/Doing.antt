-- The sends and answers of moves.
use Rattle.std.specs.Prelude.{ℕ, List, [], ◌∷◌, ◌++◌}
use Rattle.std.specs.List.{flat_map}
use Rattle.ds_names.specs.Endpoint.{EndpointRecord}
use Rattle.driver_tables.specs.declared.moves.Ending.{Ending}
use Rattle.driver_tables.specs.declared.moves.Move.{Move}
use Rattle.driver_tables.specs.declared.moves.Move.TheVariants.{Send, Answer}
use Rattle.driver_tables.specs.DriverTable.{DriverTable}

abbrev pub sends_of : Move → List (ℕ × EndpointRecord)
sends_of (Send id endpoint) = (id, endpoint) ∷ []
sends_of _ = []

abbrev pub answered_by : Move → List (ℕ × Ending)
answered_by (Answer id ending) = (id, ending) ∷ []
answered_by _ = []

-- The table after the moves.
abbrev pub does : DriverTable → List Move → DriverTable
does t moves = record t { sends = t.sends ++ flat_map sends_of moves; answers = t.answers ++ flat_map answered_by moves }
