use Rattle.c_values.proofs.GivingLemmas.{given_after}
use Rattle.c_values.proofs.giving.give_items.Goals as goal

pub returns : goal.returns
returns c = given_after c.args.items.now c.args.first c.args.room.now c.give_lines.new.room c.give_lines.result c.give_lines.ensures
