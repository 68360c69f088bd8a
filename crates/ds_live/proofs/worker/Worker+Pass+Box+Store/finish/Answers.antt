use Rattle.ds_live.proofs.WorkerLemmas.{is_back}
use Rattle.ds_live.proofs.worker.Worker+Pass+Box+Store.finish.Goals as goal

-- A publisher that has nothing left comes back as it was.
pub returns-in-Publish-clause-back : goal.returns-in-Publish-clause-back
returns-in-Publish-clause-back g c = is_back c.args.self.now
