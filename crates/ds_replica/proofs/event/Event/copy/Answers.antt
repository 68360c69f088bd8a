use Rattle.std.proofs.Common.{sym}
use Rattle.ds_replica.proofs.event.Event.copy.Goals as goal

pub returns-in-Deliver-clause-same : goal.returns-in-Deliver-clause-same
returns-in-Deliver-clause-same c = sym c.in-Deliver.is

pub returns-in-ClearMap-clause-same : goal.returns-in-ClearMap-clause-same
returns-in-ClearMap-clause-same c = sym c.in-ClearMap.is

pub returns-in-RestartStore-clause-same : goal.returns-in-RestartStore-clause-same
returns-in-RestartStore-clause-same c = sym c.in-RestartStore.is
