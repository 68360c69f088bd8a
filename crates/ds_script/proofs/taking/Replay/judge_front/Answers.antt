use Rattle.std.proofs.Common.{◌+◌, refl, arith}
use Rattle.ds_script.specs.Taking.{reached}
use Rattle.ds_script.proofs.ProgressLemmas.{takes_none}
use Rattle.ds_script.proofs.RunLemmas.{text_none, overlong}
use Rattle.line_io.proofs.CallLemmas.{no_calls}
use Rattle.ds_script.proofs.taking.Replay.judge_front.Goals as goal

pub returns-in-End-clause-takes : goal.returns-in-End-clause-takes
returns-in-End-clause-takes g c =
    let e = c.end_at.ensures.ends in
    let had = g.W.Sink.contents c.args.self.now.writer.now in
    let has = g.W.Sink.contents c.end_at.new.writer in (
      e.0,
      λ to.
          overlong c.end_at.result to had has (reached c.args.self.now) c.args.front.now c.end_at.new.output.items
          (c.args.self.now.tally.lines + 1) 4096
          e.1 (omega arith) refl c.in-End.is c.requires.front (omega arith),
    )

pub returns-in-GoOn-clause-takes : goal.returns-in-GoOn-clause-takes
returns-in-GoOn-clause-takes g c =
    let had = g.W.Sink.contents c.args.self.now.writer.now in
    let old = reached c.args.self.now in (
      no_calls g.W.Sink.writes c.args.self.now.writer.now,
      λ to.
          (old, c.args.front.now, text_none had had old old c.args.front.now (takes_none had old), refl),
    )
