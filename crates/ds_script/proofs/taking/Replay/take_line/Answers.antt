use Rattle.std.proofs.Common.{◌≡◌, ◌++◌, ◌∙◌, ◌+◌, ◌∷◌, [], List, ℕ, refl, sym, ap, inl}
use Rattle.std.proofs.lemmas.Result.{err_from_is_err_and}
use Rattle.ds_script.specs.Progress.{Reached, TakesLines}
use Rattle.ds_script.specs.Taking.{reached}
use Rattle.ds_script.proofs.ProgressLemmas.{waits, takes_kept, takes_sent, takes_line, takes_then, line_after, where_both}
use Rattle.line_io.proofs.CallLemmas.{only_calls_on}
use Rattle.ds_script.proofs.CauseLemmas.{write_cause_on}
use Rattle.ds_script.proofs.taking.Replay.take_line.Goals as goal

pub returns-in_err-send_full-clause-takes : goal.returns-in_err-send_full-clause-takes
returns-in_err-send_full-clause-takes g c =
    let exit = err_from_is_err_and c.from_residual.result c.from_residual.ensures.1 in
    let e = (c.in_err-send_full.ensures).err in
    let old : Reached = reached c.args.self.now in
    let had = g.W.Sink.contents c.args.self.now.writer.now in
    let has = g.W.Sink.contents c.send_full.new.writer in
    rw (exit.1, exit.2)
    ((c.in_err-send_full.ensures).cause, λ text is. ([], waits old e.1, inl refl, takes_sent had has old e.0 e.1 e.2 e.3))

pub returns-in-Ok-clause-takes : goal.returns-in-Ok-clause-takes
returns-in-Ok-clause-takes g c = (
  (c.in_ok-send_full.ensures).led,
  λ text is.
      let s = (c.in_ok-send_full.ensures).ok in
      let a = (c.in-Ok.ensures).ok in
      let had = g.W.Sink.contents c.args.self.now.writer.now in
      let has = g.W.Sink.contents c.send_full.new.writer in
      let old : Reached = reached c.args.self.now in
      let mid : Reached = waits old c.send_full.new.output.items in
      let new : Reached =
      record old { session = c.answer_line.new.session; waiting = c.answer_line.new.output.items; lines = old.lines + 1 } in
      let one : TakesLines has has mid (text ∷ []) new = takes_line has mid new a.0 text a.1 (a.2 text is) refl refl refl in
      takes_then had has has old mid new [] (text ∷ []) (takes_sent had has old s.0 mid.waiting s.1 s.2) one,
)

pub returns-in-Err-BadLine-clause-takes : goal.returns-in-Err-BadLine-clause-takes
returns-in-Err-BadLine-clause-takes g c =
    let s = (c.in_ok-send_full.ensures).ok in
    let e = c.in-Err-BadLine.ensures in
    let had = g.W.Sink.contents c.args.self.now.writer.now in
    let has = g.W.Sink.contents c.send_full.new.writer in
    let last = g.W.Sink.contents c.take_bad.new.self.writer.now in
    let old : Reached = reached c.args.self.now in
    let mid : Reached = record old { session = c.answer_line.new.session; waiting = c.answer_line.new.output.items } in
    let split : old.waiting ≡ s.0 ++ mid.waiting = s.1 ∙ ap (λ t. s.0 ++ t) (sym e.err) in
    let kept : TakesLines had has old [] mid =
    takes_kept had has old mid s.0 split s.2 (rw c.in-Err-BadLine.field-0-is at e.kept) refl refl refl in
    let from = c.args.self.now.writer.now in
    let at = c.send_full.new.writer in
    let to = c.take_bad.new.self.writer.now in
    let led = (c.in_ok-send_full.ensures).led in
    where_both c.take_bad.result
    (λ _ done. (
      only_calls_on g.W.Sink.writes from at to led done.0,
      λ text is.
          takes_then had has last old mid (reached c.take_bad.new.self) [] (text ∷ []) kept
          (done.1 text (rw c.in-Err-BadLine.field-0-is at (e.fault text is))),
    ))
    (λ fault stops. (
      write_cause_on g.W.Sink fault from at to led stops.0,
      λ text is.
          line_after fault had has last old mid text c.take_bad.new.self.output.items kept
          (stops.1 text (rw c.in-Err-BadLine.field-0-is at (e.fault text is))),
    ))
    c.take_bad.ensures.takes

pub returns-in-Err-NoRoom-clause-takes : goal.returns-in-Err-NoRoom-clause-takes
returns-in-Err-NoRoom-clause-takes g c =
    let s = (c.in_ok-send_full.ensures).ok in
    let old : Reached = reached c.args.self.now in
    let left : List ℕ = c.answer_line.new.output.items in
    let had = g.W.Sink.contents c.args.self.now.writer.now in
    let has = g.W.Sink.contents c.send_full.new.writer in (
      (c.in_ok-send_full.ensures).led,
      λ text is.
          (waits old left, takes_sent had has old s.0 left (s.1 ∙ ap (λ t. s.0 ++ t) (sym (c.in-Err-NoRoom.ensures).err)) s.2, refl),
    )
