use Rattle.std.proofs.Common.{◌≡◌, ◌≤◌, ◌+◌, ◌^◌, length}
use Rattle.ds_script.specs.Progress.{TakesText}
use Rattle.ds_script.specs.Taking.{reached, written, KeepsWriter, OnlyWrites}
use Rattle.ds_script.proofs.taking.Replay.take_whole.Given as goal

abbrev pub invariant-loop-self : goal.invariant-loop-self
invariant-loop-self g l = record {
  text : TakesText (written g.W.Sink l.fn.self) (written g.W.Sink l.self) (reached l.fn.self) l.fn.lines.rest (reached l.self) l.lines.rest;
  count : l.self.tally.lines ≤ l.lines.count + 2 ^ 32;
  reads : l.lines.reads ≡ l.fn.lines.reads;
  same : KeepsWriter l.fn.self l.self;
  wrote : OnlyWrites g.W.Sink l.fn.self l.self;
}

abbrev pub decreases-loop-self : goal.decreases-loop-self
decreases-loop-self g l = length l.lines.rest
