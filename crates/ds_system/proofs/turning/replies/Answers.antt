use Rattle.ds_system.proofs.TurnLemmas.{reply_answered}
use Rattle.ds_system.proofs.turning.replies.Goals as goal

pub returns : goal.returns
returns g c =
    reply_answered c.args.endpoint c.args.id (g.T.Drivers.kept c.args.table.now) (g.T.Drivers.kept c.reply.new.self) c.reply.result
    c.reply.ensures.answer c.reply.ensures.after c.reply.ensures.unchanged
