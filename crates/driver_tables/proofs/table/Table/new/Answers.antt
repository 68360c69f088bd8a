use Rattle.driver_tables.proofs.StandsLemmas.{stands_opening}
use Rattle.driver_tables.proofs.table.Table.new.Goals as goal

pub returns : goal.returns
returns c = stands_opening c.new.result.entries c.new-2.result.items c.new.ensures.empty c.new-2.ensures.items
