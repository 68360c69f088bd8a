use Rattle.std.proofs.Common.{rules}
use Rattle.driver_tables.specs.Requests.{is_kept_in, kept_in}
use Rattle.driver_tables.proofs.ListLemmas.{retained}
use Rattle.driver_tables.proofs.request.settle.Goals as goal

pub returns : goal.returns
returns c = retained _ (is_kept_in c.args.devices.now.entries c.args.label.now c.args.state.now)
    (kept_in c.args.devices.now.entries c.args.label.now c.args.state.now) _ (λ p b g q r. search rules) _ _ c.retain_mut.ensures.filtered
