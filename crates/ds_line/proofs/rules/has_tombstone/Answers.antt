use Rattle.std.proofs.Common.{refl}
use Rattle.ds_line.proofs.LabelLemmas.{body_of_gone, body_of_other, label_gone_seq, seq_of_body}
use Rattle.ds_line.proofs.AnswerLemmas.{is_false, is_number, number_is}
use Rattle.ds_line.proofs.rules.has_tombstone.Goals as goal

pub returns-then-is_label : goal.returns-then-is_label
returns-then-is_label c =
    let kind = c.is_label.ensures.label.0 c.if-is_label.true in (
      λ h. body_of_gone c.args.key.now c.args.owner.now c.args.version.now kind
          (seq_of_body c.args.key.now c.args.owner.now c.args.version.now c.requires) (is_number c.args.version.now.seq 1 h),
      λ has. number_is c.args.version.now.seq 1 (label_gone_seq c.args.key.now c.args.owner.now c.args.version.now kind has),
    )

pub returns-else-is_label : goal.returns-else-is_label
returns-else-is_label c = (
  λ h. body_of_other c.args.key.now c.args.owner.now c.args.version.now
      (λ kind. is_false c.is_label.result c.if-is_label.false (c.is_label.ensures.label.1 kind))
      (seq_of_body c.args.key.now c.args.owner.now c.args.version.now c.requires) c.requires.1.seq,
  λ has. refl,
)
