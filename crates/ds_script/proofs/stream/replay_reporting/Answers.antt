use Rattle.std.proofs.Common.{[]}
use Rattle.std.proofs.KnownBytes.{Appends-nil, Consumes-nil}
use Rattle.line_io.proofs.CallLemmas.{no_calls}
use Rattle.ds_script.proofs.EndLemmas.{nothing_answered_in}
use Rattle.ds_script.proofs.stream.replay_reporting.Goals as goal

pub returns-in_default-clause-stopped : goal.returns-in_default-clause-stopped
returns-in_default-clause-stopped g c =
    let from = g.R.Source.remaining c.args.reader.now in
    let had = g.W.Sink.contents c.args.writer.now in
    ([], [], Consumes-nil from, Appends-nil had, (0, 0, [], nothing_answered_in c.args.bad_lines c.args.before c.args.session, tt))

pub returns-in_default-clause-cause : goal.returns-in_default-clause-cause
returns-in_default-clause-cause g c = no_calls g.W.Sink.writes c.args.writer.now
