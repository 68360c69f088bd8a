use Rattle.std.proofs.Common.{subst, Some}
use Rattle.desk.specs.Opening.{AreNewPasses}
use Rattle.desk.proofs.OpenLemmas.{length_new, new_of_desk}
use Rattle.desk.proofs.open.Desk+M.open.Goals as goal

pub returns-in-Ok-new_table-clause-passes : goal.returns-in-Ok-new_table-clause-passes
returns-in-Ok-new_table-clause-passes g c = (
  subst (λ m. AreNewPasses c.in-Ok-new_table.table.shared.table_id (Some m) c.args.first c.args.passes c.deal.new.passes.items)
      c.of-opened.ensures c.deal.ensures,
  length_new _ _ _ _ _ c.deal.ensures,
)

pub returns-in-Ok-new_table-clause-of_desk : goal.returns-in-Ok-new_table-clause-of_desk
returns-in-Ok-new_table-clause-of_desk g c = new_of_desk _ _ _ _ _ c.deal.ensures
