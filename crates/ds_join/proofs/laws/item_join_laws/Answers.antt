use Rattle.ds_join.proofs.ItemTopLemmas.{join_is_commutative, join_is_associative, join_is_idempotent, join_is_least}
use Rattle.ds_join.proofs.laws.item_join_laws.Goals as goal

pub returns-clause-commutative : goal.returns-clause-commutative
returns-clause-commutative c = join_is_commutative

pub returns-clause-associative : goal.returns-clause-associative
returns-clause-associative c = join_is_associative

pub returns-clause-idempotent : goal.returns-clause-idempotent
returns-clause-idempotent c = join_is_idempotent

pub returns-clause-least : goal.returns-clause-least
returns-clause-least c = join_is_least
