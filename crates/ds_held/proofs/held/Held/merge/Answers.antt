use Rattle.std.proofs.Common.{rules}
use Rattle.ds_held.proofs.KeptLemmas.{merged_joins}
use Rattle.ds_held.proofs.held.Held.merge.Goals as goal

pub returns-in-Ok-Taken-clause-joined : goal.returns-in-Ok-Taken-clause-joined
returns-in-Ok-Taken-clause-joined c =
    merged_joins c.args.self.now c.take.new.self c.args.change c.take.result c.in-Ok-Taken.ensures.sound c.take.ensures.answer
    c.take.ensures.after

pub returns-in_default-clause-joined : goal.returns-in_default-clause-joined
returns-in_default-clause-joined c = merged_joins c.args.self.now c.args.self.now c.args.change _ c.outlook.ensures.sound (search rules)
    (search rules)
