use Rattle.std.proofs.Common.{ℕ, List, refl, sym}
use Rattle.std.specs.Io.KnownBytes.{Appends}
use Rattle.std.specs.Option.{option_map}
use Rattle.ds_script.specs.Replay.{IsReplayedIn}
use Rattle.ds_script.specs.Left.{text_left}
use Rattle.ds_script.proofs.ReplayLemmas.{answered_of, stopped_of}
use Rattle.ds_script.proofs.NoteCauseLemmas.{inner_cause}
use Rattle.ds_script.proofs.replaying.replay_without_notes.Goals as goal

pub returns-in-Ok-clause-answered : goal.returns-in-Ok-clause-answered
returns-in-Ok-clause-answered g c =
    let a = c.in-Ok.ensures.answered in
    answered_of (g.R.Source.remaining c.args.reader.now) _ a.0
    (λ plain. (output : List ℕ) × Appends (g.W.Sink.contents c.args.writer.now) (g.W.Sink.contents c.replay_reporting.new.writer) output
    × IsReplayedIn c.args.bad_lines c.args.before c.args.session c.in-Ok.done.session plain c.in-Ok.done.lines
    c.in-Ok.done.bad output)
    a.2 a.3 (a.1, a.4, a.5)

pub returns-in-Err-clause-stopped : goal.returns-in-Err-clause-stopped
returns-in-Err-clause-stopped g c =
    let a = c.in-Err.ensures.stopped in
    stopped_of c.args.bad_lines c.args.before c.args.session c.in-Err.fault (g.R.Source.remaining c.args.reader.now) _
    (g.W.Sink.contents c.args.writer.now) (g.W.Sink.contents c.replay_reporting.new.writer) a.0 a.1 a.2 a.3 a.4

pub returns-in-Err-clause-cause : goal.returns-in-Err-clause-cause
returns-in-Err-clause-cause g c =
    inner_cause (λ s. s.reader.now) (λ s. s.reader.ghost_name)
    (record { remaining = λ s. option_map (λ text. text_left s.place text) (g.R.Source.remaining s.reader.now); reads = _; fails = _ })
    g.R.Source g.W.Sink c.in-Err.fault _ c.replay_reporting.new.reader _ c.args.writer.now c.replay_reporting.new.writer refl refl
    (λ same. sym (c.reader-1.given.1 (sym same))) c.in-Err.ensures.cause
