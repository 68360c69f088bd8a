use Rattle.std.proofs.Common.{◌≡◌, ◌-◌, length, take, drop}
use Rattle.rs_to_store.specs.Submitting.{all_in}
use Rattle.c_store.specs.Giving.{GivesMoves}
use Rattle.c_store.proofs.moves.LastMoves.give.Given as goal

-- the moves of the rounds before the index are given, and so many are left out of the next one
abbrev pub invariant-loop-round : goal.invariant-loop-round
invariant-loop-round l = record {
  left : l.left ≡ l.fn.first - length (all_in (take l.round-index l.self-inside.rounds.items));
  given : GivesMoves (drop l.fn.first (all_in (take l.round-index l.self-inside.rounds.items))) l.fn.room l.count l.room;
}
