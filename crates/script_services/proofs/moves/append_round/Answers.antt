use Rattle.std.proofs.Common.{◌≡◌, Some, sym, subst}
use Rattle.std.specs.List.{slice_get}
use Rattle.std.specs.Option.{option_copied}
use Rattle.script_services.proofs.MoveLemmas.{lines_next}
use Rattle.script_services.proofs.moves.append_round.Goals as goal

pub loop-index-preserved : goal.loop-index-preserved
loop-index-preserved c =
    let moves = c.args.round.now in
    let i = c.loop-index.index in
    let x = c.in-Some.step.now in
    let at : slice_get moves i ≡ Some x = sym (subst (λ o. option_copied o ≡ slice_get moves i) c.in-Some.is c.get.ensures) in
    lines_next moves i x c.args.output.now.items c.loop-index.output.items c.append_move.new.buffer.items at c.loop-index.invariant
    c.in_ok-append_move.ensures.written
