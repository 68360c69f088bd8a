use Rattle.node_supervisor.proofs.TellLemmas.{beat_keeps_store}
use Rattle.node_supervisor.proofs.processes.Processes.vouch.Goals as goal

pub returns-in-Some-clause-store : goal.returns-in-Some-clause-store
returns-in-Some-clause-store c =
    beat_keeps_store c.args.node.now.services c.tell-reply.new.self.services c.args.tick c.in-Some.endpoint c.args.node.now.store
    c.tell-reply.new.self.store c.tell-reply.result c.tell-reply.ensures
