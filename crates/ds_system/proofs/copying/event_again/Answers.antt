use Rattle.std.proofs.Common.{◌∙◌, ap, sym}
use Rattle.ds_system.specs.declared.event.SystemEvent.TheVariants.{Put, World}
use Rattle.ds_system.proofs.copying.event_again.Goals as goal

pub returns-in-Service : goal.returns-in-Service
returns-in-Service c = sym c.in-Service.is

pub returns-in-Remove : goal.returns-in-Remove
returns-in-Remove c = sym c.in-Remove.is

pub returns-in-Again : goal.returns-in-Again
returns-in-Again c = sym c.in-Again.is

pub returns-in-Follow : goal.returns-in-Follow
returns-in-Follow c = sym c.in-Follow.is

pub returns-in-Submit : goal.returns-in-Submit
returns-in-Submit c = sym c.in-Submit.is

pub returns-in-Answered : goal.returns-in-Answered
returns-in-Answered c = sym c.in-Answered.is

pub returns-in_ok-copy-in-Put : goal.returns-in_ok-copy-in-Put
returns-in_ok-copy-in-Put c =
    let p = c.in-Put in ap (λ v. Put p.label p.key v p.side) c.in_ok-copy-in-Put.ensures.same ∙ sym p.is

pub returns-in_ok-copy-in-World : goal.returns-in_ok-copy-in-World
returns-in_ok-copy-in-World c =
    let p = c.in-World in ap (λ e. World e) c.in_ok-copy-in-World.ensures.same ∙ sym p.is
