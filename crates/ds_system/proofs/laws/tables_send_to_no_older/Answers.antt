use Rattle.ds_system.proofs.ApartLemmas.{labels_are_apart}
use Rattle.ds_system.proofs.OlderLemmas.{no_send_to_older}
use Rattle.ds_system.proofs.laws.tables_send_to_no_older.Goals as goal

pub returns-clause-sends : goal.returns-clause-sends
returns-clause-sends c = no_send_to_older

pub returns-clause-apart : goal.returns-clause-apart
returns-clause-apart c = labels_are_apart
