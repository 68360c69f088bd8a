use Rattle.std.proofs.Common.{◌≡◌, ◌-◌, ◌^◌, length, min, take}
use Rattle.rs_to_store.specs.Submitting.{all_in}
use Rattle.c_store.proofs.moves.LastMoves.count.Given as goal

abbrev pub invariant-loop-round : goal.invariant-loop-round
invariant-loop-round l = l.count ≡ min (length (all_in (take l.round-index l.self-inside.rounds.items))) (2 ^ 64 - 1)
