use Rattle.std.proofs.Common.{◌==◌, not, rules}
use Rattle.std.proofs.lemmas.Fn.{filter_same}
use Rattle.driver_tables.specs.declared.request.Pending.{Pending}
use Rattle.driver_tables.proofs.request.end.Goals as goal

pub returns : goal.returns
returns c = filter_same _ (λ (p : Pending). not (p.id == c.args.id)) _ (λ p b g r. search rules) _ _ c.retain.ensures.filtered
