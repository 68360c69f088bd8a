use Rattle.std.proofs.Common.{◌∷◌, [], subst, refl}
use Rattle.ds_machine.specs.declared.command.Command.TheVariants.{Merge}
use Rattle.ds_replica.specs.declared.event.Event.TheVariants.{Ask}
use Rattle.ds_replica.specs.declared.outcome.Outcome.TheVariants.{Replied}
use Rattle.ds_script.specs.Session.{SessionContent, IsHappening}
use Rattle.ds_script.proofs.session.Session.fast_offer.Goals as goal

pub returns : goal.returns
returns c =
    let new : SessionContent = record { world = c.fast_offer.new.self; side = c.self.inside.side; servers = c.self.inside.servers } in
    subst
    (λ (old : SessionContent). IsHappening (Ask old.side (Merge (c.args.item.now ∷ []))) (Replied c.fast_offer.result) old new)
    c.self.view_is
    (record { leads = c.fast_offer.ensures.leads; told = c.fast_offer.ensures.told; side = refl; servers = refl })
