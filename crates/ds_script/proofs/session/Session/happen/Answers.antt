use Rattle.std.proofs.Common.{subst, refl}
use Rattle.ds_script.specs.Session.{SessionContent, IsHappening}
use Rattle.ds_script.proofs.session.Session.happen.Goals as goal

pub returns : goal.returns
returns c =
    let new : SessionContent = record { world = c.happen.new.self; side = c.self.inside.side; servers = c.self.inside.servers } in
    subst (λ (old : SessionContent). IsHappening c.args.event c.happen.result old new) c.self.view_is
    (record { leads = c.happen.ensures.leads; told = c.happen.ensures.told; side = refl; servers = refl })
