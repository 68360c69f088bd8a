use Rattle.std.proofs.Common.{sym, subst}
use Rattle.ds_system.specs.declared.event.SystemEvent.{SystemEvent}
use Rattle.ds_system.specs.Stands.{SystemEventLeads}
use Rattle.ds_system.proofs.system.System.happen.Goals as goal

pub returns-in-Service : goal.returns-in-Service
returns-in-Service c = subst (λ (e : SystemEvent). SystemEventLeads e c.serve.result c.args.self.now c.serve.new.self)
    (sym c.in-Service.is) c.serve.ensures

pub returns-in-Put : goal.returns-in-Put
returns-in-Put c = subst (λ (e : SystemEvent). SystemEventLeads e c.write.result c.args.self.now c.write.new.self) (sym c.in-Put.is)
    c.write.ensures

pub returns-in-Remove : goal.returns-in-Remove
returns-in-Remove c = subst (λ (e : SystemEvent). SystemEventLeads e c.write-in-Remove.result c.args.self.now c.write-in-Remove.new.self)
    (sym c.in-Remove.is) c.write-in-Remove.ensures

pub returns-in-Again : goal.returns-in-Again
returns-in-Again c = subst (λ (e : SystemEvent). SystemEventLeads e c.again.result c.args.self.now c.again.new.self) (sym c.in-Again.is)
    c.again.ensures

pub returns-in-World : goal.returns-in-World
returns-in-World c = subst (λ (e : SystemEvent). SystemEventLeads e c.pass.result c.args.self.now c.pass.new.self) (sym c.in-World.is)
    c.pass.ensures

pub returns-in-Follow : goal.returns-in-Follow
returns-in-Follow c = subst (λ (e : SystemEvent). SystemEventLeads e c.follow.result c.args.self.now c.follow.new.self)
    (sym c.in-Follow.is) c.follow.ensures

pub returns-in-Submit : goal.returns-in-Submit
returns-in-Submit c = subst (λ (e : SystemEvent). SystemEventLeads e c.submit.result c.args.self.now c.submit.new.self)
    (sym c.in-Submit.is) c.submit.ensures

pub returns-in-Answered : goal.returns-in-Answered
returns-in-Answered c = subst (λ (e : SystemEvent). SystemEventLeads e c.answered.result c.args.self.now c.answered.new.self)
    (sym c.in-Answered.is) c.answered.ensures
