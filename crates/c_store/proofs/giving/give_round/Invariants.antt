use Rattle.std.proofs.Common.{◌≤◌, ◌++◌, List, take, drop}
use Rattle.driver_tables.specs.declared.moves.Move.{Move}
use Rattle.c_store.specs.declared.giving.TableMove.{TableMove}
use Rattle.c_store.specs.Giving.{GivesMoves}
use Rattle.c_store.proofs.giving.give_round.Given as goal

-- the moves between the first and the index are given
abbrev pub invariant-loop-index : goal.invariant-loop-index
invariant-loop-index l = record {
  from : l.fn.first ≤ l.index;
  given : (moves : List Move) (place : List TableMove) → GivesMoves moves place l.fn.count l.fn.room →
      GivesMoves (moves ++ drop l.fn.first (take l.index l.round)) place l.count l.room;
}
