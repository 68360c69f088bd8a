use Rattle.std.proofs.Common.{rules, length, ap}
use Rattle.ds_packed.proofs.NamesLemmas.{inside, past}
use Rattle.ds_packed.proofs.names.add_names.Goals as goal

pub returns-then-starts_with-clause-added : goal.returns-then-starts_with-clause-added
returns-then-starts_with-clause-added c =
    inside c.args.change.now c.args.names.now.items c.extend_from_slice.new.self.items (length c.bytes-name.result.now)
    (length c.bytes-owner.result.now) (ap length (search rules)) (ap length (search rules)) (search rules) (search rules)

pub returns-clause-added : goal.returns-clause-added
returns-clause-added c =
    past c.args.change.now c.args.names.now.items c.extend_from_slice-2.new.self.items (length c.bytes-name.result.now)
    (length c.bytes-owner.result.now) (ap length (search rules)) (ap length (search rules)) (search rules)
