use Rattle.ds_entry.specs.ItemCovers.{covers}
use Rattle.fleet_bridge.proofs.MoveLemmas.{asking_happens, moves_happen, nothing_is_left}
use Rattle.fleet_bridge.proofs.laws.moves_happen.Goals as goal

pub returns-clause-asking : goal.returns-clause-asking
returns-clause-asking c = asking_happens covers

pub returns-clause-moves : goal.returns-clause-moves
returns-clause-moves c = moves_happen covers

pub returns-clause-nothing : goal.returns-clause-nothing
returns-clause-nothing c = nothing_is_left
