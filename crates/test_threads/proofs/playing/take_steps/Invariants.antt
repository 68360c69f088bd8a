use Rattle.test_threads.specs.World.{IsWorld}
use Rattle.test_threads.proofs.playing.take_steps.Given as goal

-- the world is one
abbrev pub invariant-loop-step : goal.invariant-loop-step
invariant-loop-step g l = IsWorld l.world
