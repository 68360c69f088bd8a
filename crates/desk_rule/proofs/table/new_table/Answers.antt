use Rattle.std.proofs.Common.{refl, ◌*◌, ap, ◌++◌, ◌∷◌, [], ◌∙◌, Some, None}
use Rattle.desk_rule.proofs.TableLemmas.{new_holds, no_bits}
use Rattle.desk_rule.proofs.table.new_table.Goals as goal

pub new-requires : goal.new-requires
new-requires g c = new_holds _ _ _ c.args.machine None _ _ _ _ c.of.ensures
    (c.in_default.ensures.items ∙ ap (λ l. l ++ Some record { machine = c.args.machine; last = None } ∷ []) c.new-slots.ensures.items)
    refl refl (λ k _. no_bits (2 * c.args.first) k) c.requires
