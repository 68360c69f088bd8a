use Rattle.std.proofs.Common.{sym, ap, subst}
use Rattle.ds_content.specs.Content.{ContentRecord}
use Rattle.ds_store.specs.Turns.{Turn}
use Rattle.rs_store.specs.Pair.{PairRecord}
use Rattle.c_store.proofs.session.Session.answer.Goals as goal

pub returns : goal.returns
returns c =
    let v = c.args.self.now.node.store in
    let reply = c.apply-reply.result in
    record {
      reply = reply;
      turn = subst (λ (p : PairRecord). Turn v c.args.command reply p.store) (sym c.tell_reply.ensures.node_is)
          (subst (λ (x : ContentRecord). Turn x c.args.command reply c.apply-reply.new.self) c.store_mut-store.ensures.value
          (record { stood = c.cursor-stood.ensures.stood; steps = c.apply-reply.ensures.step; last = c.apply-reply.ensures.last }));
      services = ap (λ (p : PairRecord). p.services) c.tell_reply.ensures.node_is;
      told = c.tell_reply.ensures.told_is;
      kept = c.tell_reply.ensures.kept;
    }
