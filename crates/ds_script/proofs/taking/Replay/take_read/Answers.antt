use Rattle.std.proofs.lemmas.Result.{err_from_is_err_and}
use Rattle.ds_script.specs.Taking.{reached, written}
use Rattle.ds_script.proofs.CauseLemmas.{turn_cause}
use Rattle.ds_script.proofs.RunLemmas.{turns_more, turns_idle, turns_last, turn_stops, turn_stops_last, turn_unread, turn_unkept}
use Rattle.line_io.proofs.CallLemmas.{no_calls}
use Rattle.ds_script.proofs.taking.Replay.take_read.Goals as goal

pub returns-in_err-take_whole-in-More-clause-turns : goal.returns-in_err-take_whole-in-More-clause-turns
returns-in_err-take_whole-in-More-clause-turns g c =
    let exit = err_from_is_err_and c.from_residual.result c.from_residual.ensures.1 in
    let f = (c.in-More.ensures).fills in
    let from = g.R.Source.remaining c.args.reader.now in
    let to = g.R.Source.remaining c.read.new.reader in
    let had = written g.W.Sink c.args.self.now in
    let has = written g.W.Sink c.take_whole.new.self in
    let e = (c.in_err-take_whole-in-More.ensures).takes in
    let fault = c.in_err-take_whole-in-More.field-0.0 in
    rw (exit.1, exit.2) (
      turn_cause g.R.Source g.W.Sink fault c.args.reader.now c.read.new.reader c.args.self.now.writer.now c.take_whole.new.self.writer.now
          e.0,
      turn_stops fault from to had has (reached c.args.self.now) c.args.lines.now.rest f.0 c.read.new.self.rest
          c.take_whole.new.self.output.items f.1 f.2 (e.1 to),
    )

pub returns-in_ok-take_whole-in-More-clause-turns : goal.returns-in_ok-take_whole-in-More-clause-turns
returns-in_ok-take_whole-in-More-clause-turns g c =
    let f = (c.in-More.ensures).fills in
    let from = g.R.Source.remaining c.args.reader.now in
    let to = g.R.Source.remaining c.read.new.reader in
    let had = written g.W.Sink c.args.self.now in
    let has = written g.W.Sink c.take_whole.new.self in
    let t = (c.in_ok-take_whole-in-More.ensures).takes in (
      (c.in-More.ensures).told,
      t.0,
      turns_more from to had has (reached c.args.self.now) (reached c.take_whole.new.self)
          c.args.lines.now.rest f.0 c.read.new.self.rest c.take_whole.new.lines.rest f.1 f.2 t.1 t.2,
    )

pub returns-in-Interrupted-clause-turns : goal.returns-in-Interrupted-clause-turns
returns-in-Interrupted-clause-turns g c =
    let f = (c.in-Interrupted.ensures).fills in
    let from = g.R.Source.remaining c.args.reader.now in
    let to = g.R.Source.remaining c.read.new.reader in
    let had = written g.W.Sink c.args.self.now in (
      (c.in-Interrupted.ensures).told,
      no_calls g.W.Sink.writes c.args.self.now.writer.now,
      turns_idle from to had (reached c.args.self.now)
          c.args.lines.now.rest c.read.new.self.rest f.0 f.1 c.requires.unbroken,
    )

pub returns-in_err-take_last-in-End-clause-turns : goal.returns-in_err-take_last-in-End-clause-turns
returns-in_err-take_last-in-End-clause-turns g c =
    let exit = err_from_is_err_and c.from_residual-in_err-take_last-in-End.result c.from_residual-in_err-take_last-in-End.ensures.1 in
    let f = (c.in-End.ensures).fills in
    let from = g.R.Source.remaining c.args.reader.now in
    let to = g.R.Source.remaining c.read.new.reader in
    let had = written g.W.Sink c.args.self.now in
    let has = written g.W.Sink c.take_last.new.self in
    let e = (c.in_err-take_last-in-End.ensures).takes in
    let fault = c.in_err-take_last-in-End.field-0.0 in
    rw (exit.1, exit.2) (
      turn_cause g.R.Source g.W.Sink fault c.args.reader.now c.read.new.reader c.args.self.now.writer.now c.take_last.new.self.writer.now
          e.0,
      turn_stops_last fault from to had has (reached c.args.self.now) c.args.lines.now.rest c.read.new.self.rest
          c.take_last.new.self.output.items f.0 f.1 f.2 (e.1 to f.1),
    )

pub returns-in_ok-take_last-in-End-clause-turns : goal.returns-in_ok-take_last-in-End-clause-turns
returns-in_ok-take_last-in-End-clause-turns g c =
    let f = (c.in-End.ensures).fills in
    let from = g.R.Source.remaining c.args.reader.now in
    let to = g.R.Source.remaining c.read.new.reader in
    let had = written g.W.Sink c.args.self.now in
    let has = written g.W.Sink c.take_last.new.self in
    let t = (c.in_ok-take_last-in-End.ensures).takes in (
      (c.in-End.ensures).told,
      t.0,
      turns_last from to had has (reached c.args.self.now) (reached c.take_last.new.self)
          c.args.lines.now.rest c.read.new.self.rest c.take_last.new.lines.rest f.0 f.1 f.2 t.1 t.2,
    )

pub returns-in-Failed-clause-turns : goal.returns-in-Failed-clause-turns
returns-in-Failed-clause-turns g c =
    let f = (c.in-Failed.ensures).fills in
    let from = g.R.Source.remaining c.args.reader.now in
    let to = g.R.Source.remaining c.read.new.reader in
    let had = written g.W.Sink c.args.self.now in (
      ((c.in-Failed.ensures).told, no_calls g.W.Sink.writes c.args.self.now.writer.now),
      turn_unread from to had (reached c.args.self.now)
          c.args.lines.now.rest f.0 c.requires.unbroken,
    )

pub returns-in-NoRoom-clause-turns : goal.returns-in-NoRoom-clause-turns
returns-in-NoRoom-clause-turns g c =
    let f = (c.in-NoRoom.ensures).fills in
    let from = g.R.Source.remaining c.args.reader.now in
    let to = g.R.Source.remaining c.read.new.reader in
    let had = written g.W.Sink c.args.self.now in
    (no_calls g.W.Sink.writes c.args.self.now.writer.now, turn_unkept from to had (reached c.args.self.now) c.args.lines.now.rest f.0 f.1)
