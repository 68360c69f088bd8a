use Rattle.std.proofs.Common.{subst, refl}
use Rattle.ds_replica.specs.declared.event.Event.TheVariants.{Ask}
use Rattle.ds_replica.specs.declared.outcome.Outcome.TheVariants.{Replied}
use Rattle.ds_script.specs.Session.{SessionContent, IsHappening}
use Rattle.ds_script.proofs.session.Session.ask.Goals as goal

pub returns : goal.returns
returns c =
    let new : SessionContent = record { world = c.reply.new.self; side = c.self.inside.side; servers = c.self.inside.servers } in
    subst (λ (old : SessionContent). IsHappening (Ask old.side c.args.command) (Replied c.reply.result) old new) c.self.view_is
    (record { leads = c.reply.ensures.leads; told = c.reply.ensures.told; side = refl; servers = refl })
