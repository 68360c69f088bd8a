use Rattle.std.proofs.Common.{◌∷◌, ap, sym, ◌∙◌, None}
use Rattle.atomic_table.specs.Table.{rest}
use Rattle.desk_rule.proofs.turn.machine_back.Goals as goal

pub exchange-requires : goal.exchange-requires
exchange-requires g c = let out = c.requires.out in (c.requires.at.0, (None, out ∙ (λ i. (0, None) ∷ sym (ap rest out) i)))
