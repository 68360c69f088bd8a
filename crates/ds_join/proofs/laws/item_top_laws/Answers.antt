use Rattle.ds_join.proofs.ItemExistLemmas.{top_exists, tops_is_top}
use Rattle.ds_join.proofs.ItemTopLemmas.{top_is_unique, held_is_top, greatest_floor, void_isnt_held, top_of_top, top_of_union}
use Rattle.ds_join.proofs.ItemTopLemmas.{top_of_covered}
use Rattle.ds_join.proofs.laws.item_top_laws.Goals as goal

pub returns-clause-exists : goal.returns-clause-exists
returns-clause-exists c = top_exists

pub returns-clause-unique : goal.returns-clause-unique
returns-clause-unique c = top_is_unique

pub returns-clause-held : goal.returns-clause-held
returns-clause-held c = held_is_top

pub returns-clause-floors : goal.returns-clause-floors
returns-clause-floors c = greatest_floor

pub returns-clause-void : goal.returns-clause-void
returns-clause-void c = void_isnt_held

pub returns-clause-in_turn : goal.returns-clause-in_turn
returns-clause-in_turn c = tops_is_top

pub returns-clause-of_top : goal.returns-clause-of_top
returns-clause-of_top c = top_of_top

pub returns-clause-of_union : goal.returns-clause-of_union
returns-clause-of_union c = top_of_union

pub returns-clause-of_covered : goal.returns-clause-of_covered
returns-clause-of_covered c = top_of_covered
