use Rattle.ds_entry.specs.ItemCovers.{covers}
use Rattle.fleet_loss.proofs.CompactionLemmas.{compactions_trim_what_was_read, generated_is_not_enough}
use Rattle.fleet_loss.proofs.laws.compactions_check.Goals as goal

pub returns-clause-read : goal.returns-clause-read
returns-clause-read c = compactions_trim_what_was_read covers

pub returns-clause-generated : goal.returns-clause-generated
returns-clause-generated c = generated_is_not_enough covers
