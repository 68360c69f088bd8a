-- Moves, as C has them.
use Rattle.std.specs.Prelude.{◌≡◌, ℕ, min, List, ◌++◌, length, map, take, drop}
use Rattle.driver_tables.specs.declared.moves.Ending.TheVariants.{Done, Fault}
use Rattle.driver_tables.specs.declared.moves.Move.{Move}
use Rattle.driver_tables.specs.declared.moves.Move.TheVariants.{Start, Send, Answer, Held}
use Rattle.c_store.specs.declared.giving.TableMove.{TableMove}

-- The move of a kind for a request, with zeros for the rest.
abbrev pub blank_move : ℕ → ℕ → TableMove
blank_move kind id = record { id = id; kind = kind; generation = 0; slot = 0; unit = 0 }

-- A move, as C has it.
abbrev pub told_move : Move → TableMove
told_move (Start unit e) = record (blank_move 0 0) { generation = e.generation; slot = e.slot; unit = unit }
told_move (Send id e) = record (blank_move 1 id) { generation = e.generation; slot = e.slot }
told_move (Answer id Done) = blank_move 2 id
told_move (Answer id Fault) = blank_move 3 id
told_move (Held id) = blank_move 4 id

-- Whether the first `count` moves, as many as there are or as fit, are at the front of the place, the rest of which is unchanged.
pub record GivesMoves (moves : List Move) (place : List TableMove) (count : ℕ) (now : List TableMove) : Type 0 where
  pub most : count ≡ min (length moves) (length place)
  pub moves_are : now ≡ map told_move (take count moves) ++ drop count place
