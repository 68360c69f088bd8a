use Rattle.std.proofs.Common.{[]}
use Rattle.std.proofs.lemmas.Result.{err_from_is_err_and}
use Rattle.ds_script.specs.Progress.{Reached, TakesLines}
use Rattle.ds_script.specs.Taking.{reached, written}
use Rattle.ds_script.proofs.ProgressLemmas.{waits, takes_written, where_both}
use Rattle.ds_script.proofs.RunLemmas.{turn_unsent, turns_after, turn_stops_after}
use Rattle.line_io.proofs.CallLemmas.{only_calls_on}
use Rattle.ds_script.proofs.CauseLemmas.{turn_cause_on}
use Rattle.ds_script.proofs.taking.Replay.take_turn.Goals as goal

pub returns-in_err-send-clause-turns : goal.returns-in_err-send-clause-turns
returns-in_err-send-clause-turns g c =
    let exit = err_from_is_err_and c.from_residual.result c.from_residual.ensures.1 in
    let e = (c.in_err-send.ensures).err in
    let from = g.R.Source.remaining c.args.reader.now in
    let had = written g.W.Sink c.args.self.now in
    let has = g.W.Sink.contents c.send.new.writer in
    rw (exit.1, exit.2) (
      (c.in_err-send.ensures).cause,
      turn_unsent from had has (reached c.args.self.now) c.args.lines.now.rest e.0 e.1
          c.send.new.output.items e.2 e.3,
    )

pub returns-clause-turns : goal.returns-clause-turns
returns-clause-turns g c =
    let old : Reached = reached c.args.self.now in
    let mid : Reached = waits old c.send.new.output.items in
    let new : Reached = reached c.take_read.new.self in
    let s = (c.in_ok-send.ensures).ok in
    let from = g.R.Source.remaining c.args.reader.now in
    let to = g.R.Source.remaining c.take_read.new.reader in
    let a = written g.W.Sink c.args.self.now in
    let b = g.W.Sink.contents c.send.new.writer in
    let d = written g.W.Sink c.take_read.new.self in
    let pending = c.args.lines.now.rest in
    let sent : TakesLines a b old [] mid = takes_written a b old c.send.new.output.items s.0 s.1 in
    let first = c.args.self.now.writer.now in
    let at = c.send.new.writer in
    let last = c.take_read.new.self.writer.now in
    let led = (c.in_ok-send.ensures).led in
    where_both c.take_read.result
    (λ more t. (
      t.0,
      only_calls_on g.W.Sink.writes first at last led t.1,
      turns_after more from to a b d old mid new pending
          c.take_read.new.lines.rest sent t.2,
    ))
    (λ fault t. (
      turn_cause_on g.R.Source g.W.Sink fault c.args.reader.now c.take_read.new.reader first at last led t.0,
      turn_stops_after fault from to
          a b d old mid pending c.take_read.new.self.output.items sent t.1,
    ))
    c.take_read.ensures.turns
