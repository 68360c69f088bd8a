use Rattle.std.proofs.Common.{[]}
use Rattle.std.proofs.KnownBytes.{Appends-nil}
use Rattle.std.proofs.lemmas.Result.{IfOk-weaker, IfErr-weaker}
use Rattle.line_io.proofs.CallLemmas.{no_calls}
use Rattle.trace_walk.proofs.BeginLemmas.{known_then}
use Rattle.trace_walk.proofs.FaultLemmas.{carried}
use Rattle.trace_check.proofs.CauseLemmas.{cause_upgraded}
use Rattle.trace_check.proofs.UpgradingLemmas.{refused_first}
use Rattle.trace_check.proofs.upgrading.upgrade.Goals as goal

pub returns-in_err-walk-clause-stopped : goal.returns-in_err-walk-clause-stopped
returns-in_err-walk-clause-stopped g c =
    carried c.from_residual.result _ _ c.from_residual.ensures.1
    (known_then (g.R.Source.remaining c.args.reader.now) _ _ c.in_err-walk.ensures.fails
    (λ bytes fault. ([], Appends-nil (g.W.Sink.contents c.args.writer.now), refused_first bytes c.in_err-walk.field-0.0 fault)))

pub returns-clause-upgraded : goal.returns-clause-upgraded
returns-clause-upgraded g c =
    IfOk-weaker c.upgrade_after_header.result _ _
    (λ count all. known_then (g.R.Source.remaining c.args.reader.now) _ _ c.in_ok-walk.ensures.begins all)
    c.upgrade_after_header.ensures.upgraded

pub returns-clause-stopped : goal.returns-clause-stopped
returns-clause-stopped g c =
    IfErr-weaker c.upgrade_after_header.result _ _
    (λ fault part. known_then (g.R.Source.remaining c.args.reader.now) _ _ c.in_ok-walk.ensures.begins part)
    c.upgrade_after_header.ensures.stopped

pub returns-in_err-walk-clause-cause : goal.returns-in_err-walk-clause-cause
returns-in_err-walk-clause-cause g c =
    carried c.from_residual.result _ _ c.from_residual.ensures.1
    (cause_upgraded g.R.Source g.W.Sink c.in_err-walk.field-0.0 c.args.reader.now c.begin.new.reader c.args.writer.now c.args.writer.now
    (no_calls g.W.Sink.writes c.args.writer.now) c.in_err-walk.ensures.reads)

pub returns-clause-cause : goal.returns-clause-cause
returns-clause-cause g c = IfErr-weaker c.upgrade_after_header.result _ _
    (λ fault caused. caused c.args.reader.now c.in_ok-walk.ensures.reads) c.upgrade_after_header.ensures.cause
