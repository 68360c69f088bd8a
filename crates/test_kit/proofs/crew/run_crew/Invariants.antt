use Rattle.desk.specs.Desk.{identity}
use Rattle.test_kit.proofs.crew.run_crew.Given as goal

-- the threads' notes are of the crew's desk
abbrev pub ghosts-run_threads : goal.ghosts-run_threads
ghosts-run_threads g a = record { table = identity a.desk.now }
