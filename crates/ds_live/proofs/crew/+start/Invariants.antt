use Rattle.std.proofs.Common.{length}
use Rattle.ds_live.proofs.crew.+start.Given as goal

abbrev pub decreases-start : goal.decreases-start
decreases-start g l = length l.jobs.now.items
