use Rattle.ds_store.proofs.RoomLemmas.{pattern_may, behind_may}
use Rattle.ds_store.proofs.laws.scopes_may_lack_room.Goals as goal

pub returns-clause-pattern : goal.returns-clause-pattern
returns-clause-pattern c = pattern_may

pub returns-clause-behind : goal.returns-clause-behind
returns-clause-behind c = behind_may
