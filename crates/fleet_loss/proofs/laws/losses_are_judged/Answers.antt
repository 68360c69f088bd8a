use Rattle.fleet_loss.proofs.LossLemmas.{no_false_alarm, lacks_are_seen, smaller_ids_are_seen, same_end_alarms, counts_are_not_enough}
use Rattle.fleet_loss.proofs.laws.losses_are_judged.Goals as goal

pub returns-clause-quiet : goal.returns-clause-quiet
returns-clause-quiet c = no_false_alarm

pub returns-clause-seen : goal.returns-clause-seen
returns-clause-seen c = lacks_are_seen

pub returns-clause-smaller : goal.returns-clause-smaller
returns-clause-smaller c = smaller_ids_are_seen

pub returns-clause-same_end : goal.returns-clause-same_end
returns-clause-same_end c = same_end_alarms

pub returns-clause-counts : goal.returns-clause-counts
returns-clause-counts c = counts_are_not_enough
