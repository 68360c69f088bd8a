use Rattle.ds_index.proofs.MarkLemmas.{of_refusal}
use Rattle.ds_index.proofs.FloorMarkLemmas.{gap_has_no_floor}
use Rattle.ds_index.proofs.marked.putting.raise_marked.Goals as goal

pub returns-in_err-make_room-clause-new : goal.returns-in_err-make_room-clause-new
returns-in_err-make_room-clause-new g c =
    of_refusal c.from_residual.result (gap_has_no_floor c.args.held.now c.args.floor.owner c.args.place c.requires.place
    c.in_err-make_room.ensures.gap)
