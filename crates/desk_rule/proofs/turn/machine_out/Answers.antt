use Rattle.std.proofs.Common.{◌∷◌, ap, sym, ◌∙◌, Some}
use Rattle.atomic_table.specs.Table.{rest}
use Rattle.desk_rule.proofs.turn.machine_out.Goals as goal

pub exchange-requires : goal.exchange-requires
exchange-requires g c = let h = c.requires.holds in
    (c.requires.at.0, (Some h.home, h.out ∙ (λ i. (0, Some h.home) ∷ sym (ap rest h.out) i)))
