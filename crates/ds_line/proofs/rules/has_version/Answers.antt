use Rattle.std.proofs.Common.{refl}
use Rattle.ds_line.proofs.LabelLemmas.{version_of_label, version_of_other, label_owner_rs}
use Rattle.ds_line.proofs.AnswerLemmas.{is_false}
use Rattle.ds_line.proofs.rules.has_version.Goals as goal

pub returns-then-is_label : goal.returns-then-is_label
returns-then-is_label c =
    let kind = c.is_label.ensures.label.0 c.if-is_label.true in (
      λ h. version_of_label c.args.key.now c.args.owner.now kind c.requires (c.is_rs.ensures.same.0 h),
      λ has. c.is_rs.ensures.same.1 (label_owner_rs c.args.key.now c.args.owner.now kind has),
    )

pub returns-else-is_label : goal.returns-else-is_label
returns-else-is_label c = (
  λ h. version_of_other c.args.key.now c.args.owner.now
      (λ kind. is_false c.is_label.result c.if-is_label.false (c.is_label.ensures.label.1 kind)) c.requires c.bytes-owner.ensures.name,
  λ has. refl,
)
