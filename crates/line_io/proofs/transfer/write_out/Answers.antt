use Rattle.std.proofs.Common.{◌++◌, [], take, take-append-drop, append_assoc, refl, sym, ap, inl, inr, ◌∙◌, arith}
use Rattle.std.proofs.KnownBytes.{Appends-nil, Appends-trans}
use Rattle.line_io.proofs.CallLemmas.{leads_more}
use Rattle.line_io.proofs.transfer.write_out.Goals as goal

pub loop-turn-init : goal.loop-turn-init
loop-turn-init g c = ([], refl, Appends-nil (g.W.Sink.contents c.args.writer.now), refl)

pub loop-turn-preserved : goal.loop-turn-preserved
loop-turn-preserved g c =
    let i = c.loop-turn.invariant in
    let rest = c.loop-turn.rest.now in
    let count = c.in-Ok.count in
    let a = g.W.Sink.contents c.args.writer.now in
    let b = g.W.Sink.contents c.loop-turn.writer in
    let d = g.W.Sink.contents c.write_once.new.writer in (
      i.0 ++ take count rest,
      i.1 ∙ ap (λ l. i.0 ++ l) (sym (take-append-drop count rest) ∙ ap (λ l. take count rest ++ l) (sym c.past-rest.ensures))
          ∙ sym (append_assoc i.0 (take count rest) c.past-rest.result.now),
      Appends-trans a b d i.0 (take count rest) i.2 (c.in-Ok.ensures).ok.1,
      leads_more g.W.Sink.writes c.loop-turn._turn c.args.writer.now c.loop-turn.writer c.write_once.new.writer i.3 (c.in-Ok.ensures).led,
    )

pub returns-in-Err-clause-cause : goal.returns-in-Err-clause-cause
returns-in-Err-clause-cause g c = (c.loop-turn._turn, inl (c.loop-turn.writer, c.loop-turn.invariant.3, (c.in-Err.ensures).fails))

pub returns-clause-cause : goal.returns-clause-cause
returns-clause-cause g c = (c.loop-turn._turn, inr (omega arith, c.loop-turn.invariant.3))
