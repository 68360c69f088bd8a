use Rattle.std.proofs.Common.{subst}
use Rattle.ds_machine.specs.declared.reply.Reply.{Reply}
use Rattle.ds_reader.specs.Asked.{GetsReply, subscribe_anew}
use Rattle.ds_reader.proofs.asking.subscribe.Goals as goal

pub returns-in-Subscribed-clause-made : goal.returns-in-Subscribed-clause-made
returns-in-Subscribed-clause-made g c =
    let command = subscribe_anew c.args.sub c.args.query in (
      c.in-Subscribed._owed,
      subst (λ (r : Reply). GetsReply g.A.Asks.stands c.args.asked.now command r c.ask.new.self) c.in-Subscribed.is c.in-Some.ensures.asked,
    )
