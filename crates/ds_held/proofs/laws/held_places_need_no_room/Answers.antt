use Rattle.ds_held.proofs.MemoryLemmas.{held_key_needs_none, copy_in_place_needs_none, held_owner_needs_none}
use Rattle.ds_held.proofs.laws.held_places_need_no_room.Goals as goal

pub returns-clause-merge : goal.returns-clause-merge
returns-clause-merge c = held_key_needs_none

pub returns-clause-copy : goal.returns-clause-copy
returns-clause-copy c = copy_in_place_needs_none

pub returns-clause-raise : goal.returns-clause-raise
returns-clause-raise c = held_owner_needs_none
