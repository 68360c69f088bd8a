use Rattle.std.proofs.Common.{◌≡◌}
use Rattle.desk.specs.Desk.{identity}
use Rattle.desk.specs.Pass.{desk_of}
use Rattle.test_desk.proofs.playing.take_steps.Given as goal

-- both passes are of the desk
abbrev pub invariant-loop-step : goal.invariant-loop-step
invariant-loop-step g l = (desk_of l.one ≡ identity l.desk) × (desk_of l.two ≡ identity l.desk)
