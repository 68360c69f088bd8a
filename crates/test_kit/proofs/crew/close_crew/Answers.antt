use Rattle.std.proofs.Common.{◌≡◌}
use Rattle.desk.specs.Pass.{desk_of}
use Rattle.desk_rule.proofs.ListLemmas.{all_popped, all_pushed}
use Rattle.test_kit.proofs.crew.close_crew.Goals as goal

pub loop-worker-preserved : goal.loop-worker-preserved
loop-worker-preserved g c = let i = c.loop-worker.invariant in
    let both = all_popped (λ w. desk_of w.pass ≡ c.args.desk.table.shared.table_id) c.pop.new.self.items c.loop-worker.workers.items
    c.in-Some.worker c.in-Some.ensures.items i.0 in (
      both.0,
      all_pushed (λ p. desk_of p ≡ c.args.desk.table.shared.table_id) c.loop-worker.passes c.push.new.self c.in-Some.worker.pass
          c.in-Ok.ensures.added i.1 both.1,
    )
