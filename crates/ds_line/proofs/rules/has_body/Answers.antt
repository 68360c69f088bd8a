use Rattle.std.proofs.Common.{refl, arith}
use Rattle.ds_entry.specs.declared.body.Body.TheVariants.{Gone}
use Rattle.ds_line.proofs.LabelLemmas.{body_of_label, body_of_other, label_seq}
use Rattle.ds_line.proofs.AnswerLemmas.{is_false, at_most, most_at}
use Rattle.ds_line.proofs.rules.has_body.Goals as goal

pub returns-then-is_label : goal.returns-then-is_label
returns-then-is_label c =
    let kind = c.is_label.ensures.label.0 c.if-is_label.true in (
      λ h. body_of_label c.args.key.now c.args.owner.now c.args.version.now kind c.requires (at_most c.args.version.now.seq 1 h),
      λ has. most_at c.args.version.now.seq 1 (label_seq c.args.key.now c.args.owner.now c.args.version.now kind has),
    )

pub returns-else-is_label : goal.returns-else-is_label
returns-else-is_label c = (
  λ h. (
    Gone,
    body_of_other c.args.key.now c.args.owner.now c.args.version.now
        (λ kind. is_false c.is_label.result c.if-is_label.false (c.is_label.ensures.label.1 kind)) c.requires (omega arith),
  ),
  λ has. refl,
)
