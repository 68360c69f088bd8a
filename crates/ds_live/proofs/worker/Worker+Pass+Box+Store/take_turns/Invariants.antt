use Rattle.std.proofs.Common.{◌≤◌}
use Rattle.ds_live.specs.Workers.{ComesBack, LetsThrough, TookTurns, plain}
use Rattle.ds_live.proofs.worker.Worker+Pass+Box+Store.take_turns.Given as goal

abbrev pub invariant-loop-turn : goal.invariant-loop-turn
invariant-loop-turn g l = record {
  back : ComesBack l.fn.self l.self;
  took : TookTurns l.turn (plain l.fn.self) (plain l.self);
  through : LetsThrough (g.G.Gate.answers l.fn.gate) l.fn.self.index l.turn;
  few : l.turn ≤ l.fn.self.turns;
}
