-- at any place of the other byte, from the first on
use Rattle.std.proofs.Common.{arith, rules}
use Rattle.std.specs.Prelude.{codes}
use Rattle.script_commands.proofs.FirstBytesLemmas.{other_byte}
use Rattle.script_commands.proofs.fast.is_offer.Goals as goal

pub returns-in_default-7 : goal.returns-in_default-7
returns-in_default-7 c = other_byte (codes "offer ") c.args.line.now 0 (omega arith) (search rules)

pub returns-in_default-6 : goal.returns-in_default-6
returns-in_default-6 c = other_byte (codes "offer ") c.args.line.now 1 (omega arith) (search rules)

pub returns-in_default-5 : goal.returns-in_default-5
returns-in_default-5 c = other_byte (codes "offer ") c.args.line.now 2 (omega arith) (search rules)

pub returns-in_default-4 : goal.returns-in_default-4
returns-in_default-4 c = other_byte (codes "offer ") c.args.line.now 3 (omega arith) (search rules)

pub returns-in_default-3 : goal.returns-in_default-3
returns-in_default-3 c = other_byte (codes "offer ") c.args.line.now 4 (omega arith) (search rules)

pub returns-in_default-2 : goal.returns-in_default-2
returns-in_default-2 c = other_byte (codes "offer ") c.args.line.now 5 (omega arith) (search rules)
