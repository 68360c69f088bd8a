use Rattle.std.proofs.Common.{refl}
use Rattle.ds_machine.proofs.laws.rows_are_answered.Goals as goal

pub returns-clause-publish : goal.returns-clause-publish
returns-clause-publish c = refl

pub returns-clause-sweep : goal.returns-clause-sweep
returns-clause-sweep c = refl

pub returns-clause-ring : goal.returns-clause-ring
returns-clause-ring c = refl

pub returns-clause-pages : goal.returns-clause-pages
returns-clause-pages c = refl

pub returns-clause-changing : goal.returns-clause-changing
returns-clause-changing c = refl

pub returns-clause-last : goal.returns-clause-last
returns-clause-last c = refl
