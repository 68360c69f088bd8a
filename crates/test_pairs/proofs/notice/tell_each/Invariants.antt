use Rattle.std.proofs.Common.{◌≡◌}
use Rattle.desk.specs.Desk.{identity}
use Rattle.desk.specs.Pass.{desk_of}
use Rattle.desk_store.specs.KeepsUp.{KeepsUpWith}
use Rattle.desk_store.specs.PairRecord.{pair_record}
use Rattle.test_pairs.proofs.notice.tell_each.Given as goal

abbrev pub invariant-loop-step : goal.invariant-loop-step
invariant-loop-step g l =
    (desk_of l.caller ≡ identity l.desk) × (desk_of l.reader ≡ identity l.desk) × KeepsUpWith (pair_record l.reader) l.follower
