use Rattle.std.proofs.Common.{ap}
use Rattle.std.specs.Prelude.{slice_set}
use Rattle.c_store.proofs.GivingLemmas.{one_given}
use Rattle.c_store.proofs.giving.give_one.Goals as goal

pub returns-then-count-room : goal.returns-then-count-room
returns-then-count-room c moves place given =
    one_given moves place c.args.room.now c.args.count given c.args.step.now (slice_set c.args.room.now c.args.count c.told_move.result)
    c.if-count-room.true (ap (slice_set c.args.room.now c.args.count) c.told_move.ensures)
