use Rattle.ds_replica.proofs.StartLemmas.{account_fits_at_start}
use Rattle.ds_replica.proofs.EventLemmas.{events_fit}
use Rattle.ds_replica.proofs.world.accounts_fit.Goals as goal

pub returns-clause-start : goal.returns-clause-start
returns-clause-start c = account_fits_at_start

pub returns-clause-events : goal.returns-clause-events
returns-clause-events c = events_fit
