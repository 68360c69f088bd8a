use Rattle.std.proofs.Common.{◌∙◌, ◌+◌, Bool, Some, cond, sym, ap, drop, arith}
use Rattle.process_keeper.specs.Renewal.{first_forgotten}
use Rattle.process_keeper.proofs.RenewalLemmas.{forgotten_step}
use Rattle.process_keeper.proofs.keeper.Keeper.first_forgotten.Goals as goal

pub returns-then-is_forgotten : goal.returns-then-is_forgotten
returns-then-is_forgotten c =
    let ps = c.args.self.now.labels.items in
    let k = c.loop-k.k in
    let rest = first_forgotten c.args.sources.now (k + 1) (drop (k + 1) ps) in
    sym (forgotten_step c.args.sources.now ps k c.index.result.now
    (omega (arith, c.loop-k-test.true, c.len-k-end.ensures, c.args.self.now.labels.ok.0)) c.index.ensures
    ∙ ap (λ (b : Bool). cond b (Some k) rest) (sym c.is_forgotten.ensures ∙ c.if-is_forgotten.true)) ∙ c.loop-k.invariant

pub loop-k-preserved : goal.loop-k-preserved
loop-k-preserved c =
    let ps = c.args.self.now.labels.items in
    let k = c.loop-k.k in
    let rest = first_forgotten c.args.sources.now (k + 1) (drop (k + 1) ps) in
    sym (forgotten_step c.args.sources.now ps k c.index.result.now
    (omega (arith, c.loop-k-test.true, c.len-k-end.ensures, c.args.self.now.labels.ok.0)) c.index.ensures
    ∙ ap (λ (b : Bool). cond b (Some k) rest) (sym c.is_forgotten.ensures ∙ c.if-is_forgotten.false)) ∙ c.loop-k.invariant
