use Rattle.std.proofs.Common.{arith, ◌+◌, ◌<◌, ap, ◌∙◌, length, sym}
use Rattle.desk.specs.Pass.{notes_learnt, notes_made}
use Rattle.desk.proofs.RowLemmas.{total_next}
use Rattle.desk.proofs.close.count_notes.Goals as goal

pub loop-i-preserved : goal.loop-i-preserved
loop-i-preserved g c = let i = c.loop-i.invariant in
    let p = c.index-pass.result.now in let few = p.few_notes in
    let below : c.loop-i.i < length c.args.passes.now.items =
    (let t = c.loop-i-test.true in let l = c.len-i-end.ensures in let k = c.args.passes.now.ok.0 in omega arith) in (
      ap (λ m. m + p.made) i.0 ∙ sym (total_next notes_made c.args.passes.now.items c.loop-i.i p below c.index-pass.ensures),
      ap (λ m. m + p.learnt) i.1 ∙ sym (total_next notes_learnt c.args.passes.now.items c.loop-i.i p below c.index-pass.ensures),
      (let b = i.2 in let f = few.0 in omega arith),
      (let b = i.3 in let f = few.1 in omega arith),
    )
