use Rattle.std.proofs.Common.{◌≢◌}
use Rattle.ds_names.specs.declared.kind.Kind.TheVariants.{Label}
use Rattle.ds_line.proofs.LabelLemmas.{body_of_put, value_of_other, label_put_seq, other_put_seq, seq_of_body}
use Rattle.ds_line.proofs.AnswerLemmas.{is_false, is_below, is_number, number_is}
use Rattle.ds_line.proofs.rules.has_value.Goals as goal
use Rattle.std.proofs.lemmas.Bool.{lt-ltb}

pub returns-then-is_label : goal.returns-then-is_label
returns-then-is_label c =
    let kind = c.is_label.ensures.label.0 c.if-is_label.true in (
      λ h. body_of_put c.args.key.now c.args.owner.now c.args.version.now kind
          (seq_of_body c.args.key.now c.args.owner.now c.args.version.now c.requires) (is_number c.args.version.now.seq 0 h),
      λ has. number_is c.args.version.now.seq 0 (label_put_seq c.args.key.now c.args.owner.now c.args.version.now kind has),
    )

pub returns-else-is_label : goal.returns-else-is_label
returns-else-is_label c =
    let other : c.args.key.now.kind ≢ Label = λ kind. is_false c.is_label.result c.if-is_label.false (c.is_label.ensures.label.1 kind) in (
      λ h. value_of_other c.args.key.now c.args.owner.now c.args.version.now other c.requires
          (is_below c.args.version.now.seq 4294967295 h),
      λ has. lt-ltb c.args.version.now.seq 4294967295 (other_put_seq c.args.key.now c.args.owner.now c.args.version.now other has),
    )
