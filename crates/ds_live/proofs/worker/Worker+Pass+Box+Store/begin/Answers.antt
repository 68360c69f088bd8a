use Rattle.desk_store.specs.Record.{pass_record}
use Rattle.ds_live.proofs.WorkerLemmas.{begun, is_back, took_none}
use Rattle.ds_live.proofs.worker.Worker+Pass+Box+Store.begin.Goals as goal

pub returns-in_ok-publish_label-in-Publish-clause-begun : goal.returns-in_ok-publish_label-in-Publish-clause-begun
returns-in_ok-publish_label-in-Publish-clause-begun g c = let s = c.args.self.now in
    begun s.index (pass_record s.pass) (pass_record c.publish_label.new.pass) s.task c.in-Publish.is
    c.in_ok-publish_label-in-Publish.ensures.accepted

-- another worker comes back as it was
pub returns-in_default-clause-back : goal.returns-in_default-clause-back
returns-in_default-clause-back g c = is_back c.args.self.now

pub returns-in_default-clause-begun : goal.returns-in_default-clause-begun
returns-in_default-clause-begun g c = let s = c.args.self.now in
    took_none c.requires.0 s.index s.pass s.task c.in_default.not-Publish c.requires.1.task
