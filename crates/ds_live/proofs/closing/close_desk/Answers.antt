use Rattle.std.proofs.Common.{subst}
use Rattle.desk.specs.Closing.{IsPassesFault}
use Rattle.desk.specs.Desk.{pass_count}
use Rattle.ds_live.specs.Homes.{home_of}
use Rattle.ds_live.proofs.CloseLemmas.{never_stays}
use Rattle.ds_live.proofs.ReportLemmas.{account_exact}
use Rattle.ds_live.proofs.closing.close_desk.Goals as goal

pub returns-clause-account : goal.returns-clause-account
returns-clause-account c = (c.in-Ok.ensures.account.long, account_exact c.of.result c.in-Ok.closed.account c.in-Ok.ensures.account)

-- all passes are back, and made no note
pub unreachable-requires : goal.unreachable-requires
unreachable-requires c =
    let fault = c.in-Err._stop.fault in let made = pass_count c.args.desk in
    never_stays (home_of c.args.desk) fault made c.args.passes.items c.requires.all c.requires.home
    (subst (λ ps. IsPassesFault fault made ps) c.of.ensures c.in-Err.ensures.refused)
