use Rattle.std.proofs.Common.{◌≡◌, Some, sym, subst}
use Rattle.std.specs.List.{slice_get}
use Rattle.std.specs.Option.{option_copied}
use Rattle.ds_live.proofs.ReportLemmas.{exact_more, not_exact}
use Rattle.ds_live.proofs.report.are_exact.Goals as goal

pub returns-then-not-exact : goal.returns-then-not-exact
returns-then-not-exact c =
    let at : slice_get c.args.account.now c.loop-index.index ≡ Some c.in-Some.row.now =
    sym (subst (λ o. option_copied o ≡ slice_get c.args.account.now c.loop-index.index) c.in-Some.is c.get.ensures) in
    sym (not_exact c.args.account.now c.loop-index.index c.in-Some.row.now at (cc))

pub loop-index-preserved : goal.loop-index-preserved
loop-index-preserved c =
    let at : slice_get c.args.account.now c.loop-index.index ≡ Some c.in-Some.row.now =
    sym (subst (λ o. option_copied o ≡ slice_get c.args.account.now c.loop-index.index) c.in-Some.is c.get.ensures) in
    exact_more c.args.account.now c.loop-index.index c.in-Some.row.now at (cc) c.loop-index.invariant
