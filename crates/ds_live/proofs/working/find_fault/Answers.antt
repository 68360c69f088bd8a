use Rattle.std.proofs.Common.{map, take, ap, sym, ◌∙◌, arith}
use Rattle.ds_live.specs.Faults.{fault_or, lowest_fault, own_fault}
use Rattle.ds_live.proofs.FaultLemmas.{lowest_more}
use Rattle.ds_live.proofs.working.find_fault.Goals as goal
use Rattle.ds_live.proofs.working.find_fault.Goals.{in-Some, in_default}

pub loop-place-preserved : goal.loop-place-preserved
loop-place-preserved g c =
    let before = lowest_fault (map (λ j. j.worker.fault) (take c.loop-place.place c.args.jobs.now.items)) in
    let more = lowest_more (λ j. j.worker.fault) c.args.jobs.now.items c.loop-place.place c.index.result.now
    (omega (arith, c.loop-place-test.true, c.len-place-end.ensures, c.args.jobs.now.ok.0)) c.index.ensures in
    elim c.match-own_fault.branch [
      | in-Some w ↦ w.lowest-is ∙ sym (more ∙ ap (λ f. fault_or f before) (sym c.own_fault.ensures ∙ w.in-Some.is))
      | in_default w ↦ w.lowest-is ∙ c.loop-place.invariant ∙
          sym (more ∙ ap (λ f. fault_or f before) (sym c.own_fault.ensures ∙ w.in_default.is))
    ]
