use Rattle.std.proofs.Common.{◌++◌, ◌∙◌, ◌+◌, List, ℕ, refl, sym, ap, append-nil}
use Rattle.std.proofs.lemmas.Result.{err_from_is_err_and}
use Rattle.ds_script.specs.Replay.{badline}
use Rattle.ds_script.specs.Progress.{Reached}
use Rattle.ds_script.specs.Taking.{reached}
use Rattle.ds_script.proofs.ProgressLemmas.{end_stops, pass_stops, takes_bad}
use Rattle.ds_script.proofs.taking.Replay.take_bad.Goals as goal

pub returns-in_err-pass_over-in-GoOn-clause-takes : goal.returns-in_err-pass_over-in-GoOn-clause-takes
returns-in_err-pass_over-in-GoOn-clause-takes g c =
    let exit = err_from_is_err_and c.from_residual.result c.from_residual.ensures.1 in
    let e = c.in_err-pass_over-in-GoOn.ensures in
    let had = g.W.Sink.contents c.args.self.now.writer.now in
    let has = g.W.Sink.contents c.pass_over.new.writer in
    rw (exit.1, exit.2) (
      e.0,
      λ text bad.
          pass_stops c.in_err-pass_over-in-GoOn.field-0.0 had has (reached c.args.self.now) text c.pass_over.new.output.items
          c.args.bad.now.number c.args.bad.now.place e.1 c.requires.number c.in-GoOn.is bad,
    )

pub returns-in-End-clause-takes : goal.returns-in-End-clause-takes
returns-in-End-clause-takes g c =
    let e = c.end_at.ensures.ends in
    let had = g.W.Sink.contents c.args.self.now.writer.now in
    let has = g.W.Sink.contents c.end_at.new.writer in (
      e.0,
      λ text bad.
          end_stops c.end_at.result had has (reached c.args.self.now) text c.end_at.new.output.items c.args.bad.now.number
          c.args.bad.now.place e.1 c.requires.number c.in-End.is bad,
    )

pub returns-in_ok-pass_over-in-GoOn-clause-takes : goal.returns-in_ok-pass_over-in-GoOn-clause-takes
returns-in_ok-pass_over-in-GoOn-clause-takes g c =
    let s = c.in_ok-pass_over-in-GoOn.ensures in (
      s.0,
      λ text bad.
          let had = g.W.Sink.contents c.args.self.now.writer.now in
          let has = g.W.Sink.contents c.pass_over.new.writer in
          let old : Reached = reached c.args.self.now in
          let new : Reached = record old { waiting = c.pass_over.new.output.items; lines = old.lines + 1; bad = old.bad + 1 } in
          let all : List ℕ = old.waiting ++ badline c.args.bad.now.number c.args.bad.now.place in
          takes_bad had has old new c.args.bad.now.number c.args.bad.now.place all text c.in-GoOn.is bad c.requires.number
          (sym (append-nil all) ∙ ap (λ t. all ++ t) (sym s.2)) s.1 refl refl refl refl,
    )
