use Rattle.std.proofs.Common.{Err, ap, ◌∙◌, arith}
use Rattle.std.specs.List.{remove}
use Rattle.ds_index.proofs.MarkLemmas.{gap_missing, of_refusal, undone}
use Rattle.ds_index.proofs.marked.putting.put_new.Goals as goal

pub returns-in_err-insert_mark-clause-new : goal.returns-in_err-insert_mark-clause-new
returns-in_err-insert_mark-clause-new g c =
    of_refusal c.from_residual.result (gap_missing c.args.held.now c.requires.beside.sound c.args.change.key (Err c.args.index)
    c.requires.place tt)

pub returns-then-is_err-clause-same_marks : goal.returns-then-is_err-clause-same_marks
returns-then-is_err-clause-same_marks g c =
    of_refusal c.put-put.result (c.remove.ensures ∙ ap (λ l. remove l c.args.index) c.in_ok-insert_mark.ensures.inserted
    ∙ undone c.args.marks.now c.args.index c.args.mark (omega (arith, c.requires.place.0, c.requires.beside.each)))
