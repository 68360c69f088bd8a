use Rattle.desk_store.proofs.LawLemmas.{keeps_up_later}
use Rattle.desk_store.specs.PairRecord.{pair_record}
use Rattle.desk_store.proofs.PairPassLemmas.{sees_by_looks}
use Rattle.test_pairs.proofs.notice.take.Goals as goal

pub returns-in-Ok-clause-keeps : goal.returns-in-Ok-clause-keeps
returns-in-Ok-clause-keeps g c =
    let old = c.args.pass.now in
    let new = c.take.new.pass in
    keeps_up_later (pair_record old) (pair_record new) c.args.follower.now (sees_by_looks old new c.in-Ok.ensures.taken.sees)
    c.requires.keeps
