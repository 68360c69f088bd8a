use Rattle.std.proofs.Common.{refl}
use Rattle.ds_line.proofs.LabelLemmas.{owner_of_label, owner_of_other, label_not_rs}
use Rattle.ds_line.proofs.AnswerLemmas.{not_then, not_since, is_false}
use Rattle.ds_line.proofs.rules.has_owner.Goals as goal

pub returns-then-is_label : goal.returns-then-is_label
returns-then-is_label c =
    let kind = c.is_label.ensures.label.0 c.if-is_label.true in (
      λ h. owner_of_label c.args.key.now kind c.is_rs.ensures.name (λ same. not_then c.is_rs.result h (c.is_rs.ensures.same.1 same)),
      λ has. not_since c.is_rs.result (λ rs. label_not_rs c.args.key.now kind has (c.is_rs.ensures.same.0 rs)),
    )

pub returns-else-is_label : goal.returns-else-is_label
returns-else-is_label c = (
  λ h. owner_of_other c.args.key.now (λ kind. is_false c.is_label.result c.if-is_label.false (c.is_label.ensures.label.1 kind))
      c.bytes-name.ensures.name,
  λ has. refl,
)
