use Rattle.std.proofs.Common.{◌≡◌, subst, sym}
use Rattle.std.specs.Bool.{⊤}
use Rattle.std.proofs.lemmas.Option.{MatchOption-at_some}
use Rattle.desk_store.specs.Record.{pass_record}
use Rattle.desk_store.specs.Follower.{FollowerRecord, new_follower}
use Rattle.desk_store.specs.KeepsUp.{KeepsUpWith}
use Rattle.test_threads.specs.World.{IsSide}
use Rattle.test_threads.proofs.BothLemmas.{both_hold, ok_holds}
use Rattle.test_threads.proofs.world.World.new.Goals as goal

pub returns : goal.returns
returns c =
    let IsNew = λ (follower : FollowerRecord). follower ≡ new_follower c.args.row.now.sub c.in_ok-query.field-0 in
    let sides = both_hold IsSide IsSide c.open.result c.open-2.result c.zip-sides.result c.zip-sides.ensures c.open.ensures
    c.open-2.ensures in
    let follower = ok_holds IsNew c.new.result c.ok-follower.result c.ok-follower.ensures.value c.new.ensures.new in
    let all = both_hold (λ it. IsSide it.0 × IsSide it.1) IsNew c.zip-sides.result c.ok-follower.result c.zip.result c.zip.ensures sides
    follower in
    let (two, new) = MatchOption-at_some ⊤ (λ it. (IsSide it.0.0 × IsSide it.0.1) × IsNew it.1) _ c.in_ok-first.was all in
    (two.0, two.1, subst (λ follower. KeepsUpWith (pass_record c.in_ok-first.first.reader) follower) (sym new) tt)
