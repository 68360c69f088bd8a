use Rattle.std.proofs.Common.{refl, arith}
use Rattle.ds_line.proofs.LabelLemmas.{seq_of_label, seq_of_other, label_epoch}
use Rattle.ds_line.proofs.AnswerLemmas.{is_false, above_zero, zero_above}
use Rattle.ds_line.proofs.rules.has_seq.Goals as goal

pub returns-then-is_label : goal.returns-then-is_label
returns-then-is_label c =
    let kind = c.is_label.ensures.label.0 c.if-is_label.true in
    let number = c.number-number.ensures.value in
    let most = c.number-number.ensures.limit in (
      λ h. seq_of_label c.args.key.now c.args.owner.now c.args.epoch kind c.requires
          (omega (arith, number, above_zero c.number-number.result h)) (omega (arith, number, most)),
      λ has. zero_above c.number-number.result (omega (arith, number, label_epoch c.args.key.now c.args.owner.now c.args.epoch kind has)),
    )

pub returns-else-is_label : goal.returns-else-is_label
returns-else-is_label c = (
  λ h. seq_of_other c.args.key.now c.args.owner.now c.args.epoch
      (λ kind. is_false c.is_label.result c.if-is_label.false (c.is_label.ensures.label.1 kind)) c.requires
      (omega (arith, c.number-number.ensures.value, c.number-number.ensures.limit)),
  λ has. refl,
)
