use Rattle.std.proofs.Common.{◌≡◌, false, length, get_or, subst, arith}
use Rattle.ds_watch.specs.Masks.{made_at}
use Rattle.ds_content.specs.Marking.{AreRemarked}
use Rattle.ds_content.proofs.RemarkLemmas.{none_remarked, remarked_more}
use Rattle.ds_content.proofs.content.marking.make_all.Goals as goal

pub loop-index-init : goal.loop-index-init
loop-index-init c = none_remarked c.args.held.now (λ k. made_at c.args.sub (get_or c.args.flags.now k false) c.args.initial)

pub loop-index-preserved : goal.loop-index-preserved
loop-index-preserved c =
    remarked_more c.args.held.now c.loop-index.held c.make_one.new.held c.loop-index.index
    (λ k. made_at c.args.sub (get_or c.args.flags.now k false) c.args.initial) c.loop-index.invariant c.make_one.ensures

pub returns : goal.returns
returns c =
    let end : c.loop-index.index ≡ length c.args.flags.now = omega (arith, c.loop-index-test.false, c.loop-index.auto.index-end) in
    subst (λ n. AreRemarked c.args.held.now c.loop-index.held n (λ k. made_at c.args.sub (get_or c.args.flags.now k false) c.args.initial))
    end c.loop-index.invariant
