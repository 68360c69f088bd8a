use Rattle.std.proofs.Common.{refl, inr}
use Rattle.std.proofs.lemmas.Result.{err_from_is_err_and}
use Rattle.line_io.specs.Lines.{unended}
use Rattle.ds_script.specs.Progress.{Reached}
use Rattle.ds_script.specs.Taking.{reached}
use Rattle.ds_script.proofs.ProgressLemmas.{takes_written, takes_after}
use Rattle.ds_script.proofs.RunLemmas.{last_unsent}
use Rattle.line_io.proofs.CallLemmas.{failed_on, only_calls_on}
use Rattle.ds_script.proofs.taking.Replay.take_last.Goals as goal

pub returns-in_err-take_unended-clause-takes : goal.returns-in_err-take_unended-clause-takes
returns-in_err-take_unended-clause-takes g c =
    let exit = err_from_is_err_and c.from_residual.result c.from_residual.ensures.1 in
    rw (exit.1, exit.2) (c.in_err-take_unended.ensures).takes

pub returns-in_err-send-clause-takes : goal.returns-in_err-send-clause-takes
returns-in_err-send-clause-takes g c =
    let exit = err_from_is_err_and c.from_residual-in_err-send.result c.from_residual-in_err-send.ensures.1 in
    let e = (c.in_err-send.ensures).err in
    let a = g.W.Sink.contents c.args.self.now.writer.now in
    let b = g.W.Sink.contents c.take_unended.new.self.writer.now in
    let d = g.W.Sink.contents c.send.new.writer in
    let pending = c.args.lines.now.rest in
    rw (exit.1, exit.2) (
      failed_on g.W.Sink.writes g.W.Sink.fails c.args.self.now.writer.now c.take_unended.new.self.writer.now c.send.new.writer
          (c.in_ok-take_unended.ensures).takes.0 (c.in_err-send.ensures).cause,
      λ to end.
          last_unsent to a b d (reached c.args.self.now) (reached c.take_unended.new.self) pending e.0 e.1 c.send.new.output.items
          (unended pending) (c.in_ok-take_unended.ensures).takes.1 (inr refl) e.2 e.3,
    )

pub returns-clause-takes : goal.returns-clause-takes
returns-clause-takes g c =
    let mid : Reached = reached c.take_unended.new.self in
    let new : Reached = record mid { waiting = c.send.new.output.items } in
    let s = (c.in_ok-send.ensures).ok in
    let a = g.W.Sink.contents c.args.self.now.writer.now in
    let b = g.W.Sink.contents c.take_unended.new.self.writer.now in
    let d = g.W.Sink.contents c.send.new.writer in
    let t = (c.in_ok-take_unended.ensures).takes in
    let wrote = only_calls_on g.W.Sink.writes c.args.self.now.writer.now c.take_unended.new.self.writer.now c.send.new.writer t.0
    (c.in_ok-send.ensures).led in (
      wrote,
      takes_after a b d (reached c.args.self.now) mid new (unended c.args.lines.now.rest) t.1
          (takes_written b d mid c.send.new.output.items s.0 s.1),
      s.1,
    )
