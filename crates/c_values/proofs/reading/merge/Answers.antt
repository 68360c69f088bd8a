use Rattle.c_values.proofs.AskedLemmas.{none_of_items}
use Rattle.c_values.proofs.reading.merge.Goals as goal

pub returns-in-Ok-None : goal.returns-in-Ok-None
returns-in-Ok-None c = none_of_items c.args.request.now c.args.text.now c.requires (rw c.in-Ok-None.field-0-is at c.in-Ok-None.ensures)
