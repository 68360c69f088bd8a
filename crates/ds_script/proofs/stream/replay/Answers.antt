use Rattle.std.proofs.Common.{[]}
use Rattle.std.proofs.KnownBytes.{Appends-nil, Consumes-nil}
use Rattle.ds_script.specs.declared.report.BadLines.TheVariants.{End}
use Rattle.ds_script.proofs.EndLemmas.{answered_at_end, nothing_answered, opened_replayed, opened_stops}
use Rattle.ds_script.proofs.stream.replay.Goals as goal

pub returns-in_default-clause-stopped : goal.returns-in_default-clause-stopped
returns-in_default-clause-stopped g c =
    let from = g.R.Source.remaining c.args.reader.now in
    let had = g.W.Sink.contents c.args.writer.now in
    ([], [], Consumes-nil from, Appends-nil had, (0, 0, [], nothing_answered End, tt))

pub returns-in-Ok-ended-clause-answered : goal.returns-in-Ok-ended-clause-answered
returns-in-Ok-ended-clause-answered g c =
    let a = c.in-Ok-ended.ensures.answered in
    let done = c.in-Ok-ended.done in
    let new = done.session in
    let all = opened_replayed End c.in-Ok.session new a.0 done.lines done.bad a.1 c.in-Ok.ensures.opened a.5 in
    (a.0, a.1, a.2, a.3, a.4, answered_at_end a.0 a.1 done.lines done.bad all)

pub returns-in-Err-clause-stopped : goal.returns-in-Err-clause-stopped
returns-in-Err-clause-stopped g c =
    let s = c.in-Err.ensures.stopped in
    let to = g.R.Source.remaining c.replay_reporting-ended.new.reader in
    (s.0, s.1, s.2, s.3, opened_stops End c.in-Ok.session c.in-Err.fault to s.0 s.1 c.in-Ok.ensures.opened s.4)
