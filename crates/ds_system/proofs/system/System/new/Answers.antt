use Rattle.ds_system.proofs.BeginLemmas.{just_new}
use Rattle.ds_system.proofs.system.System.new.Goals as goal

pub returns-in-Ok-over-clause-first : goal.returns-in-Ok-over-clause-first
returns-in-Ok-over-clause-first c =
    just_new c.args.settings c.args.a c.args.b c.args.next c.in-Ok.world c.in-Ok-over.system c.if-next-lt1.false c.in-Ok.ensures.maps
    c.in-Ok-over.ensures
