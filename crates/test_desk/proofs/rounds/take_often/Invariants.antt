use Rattle.std.proofs.Common.{◌≡◌}
use Rattle.desk.specs.Desk.{identity}
use Rattle.desk.specs.Pass.{desk_of}
use Rattle.test_desk.proofs.rounds.take_often.Given as goal

abbrev pub invariant-loop : goal.invariant-loop
invariant-loop g l = desk_of l.pass ≡ identity l.desk
