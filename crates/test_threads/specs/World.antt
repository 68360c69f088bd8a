-- Conditions on two desks with their passes.
use Rattle.std.specs.Prelude.{◌≡◌}
use Rattle.desk.specs.Desk.{identity}
use Rattle.desk.specs.Pass.{desk_of}
use Rattle.desk_store.specs.Record.{pass_record}
use Rattle.desk_store.specs.KeepsUp.{KeepsUpWith}
use Rattle.test_threads.specs.declared.world.Side.{Side}
use Rattle.test_threads.specs.declared.world.World.{World}

-- Whether each pass is of the desk.
abbrev pub IsSide : Side → Type 0
IsSide s = (desk_of s.caller ≡ identity s.desk) × (desk_of s.reader ≡ identity s.desk)

-- Whether each pass is of its desk, and the follower keeps up with its pass.
abbrev pub IsWorld : World → Type 0
IsWorld w = IsSide w.first × IsSide w.second × KeepsUpWith (pass_record w.first.reader) w.follower
