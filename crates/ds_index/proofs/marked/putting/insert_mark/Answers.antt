use Rattle.ds_index.proofs.marked.putting.insert_mark.Goals as goal

pub insert-requires-clause-few : goal.insert-requires-clause-few
insert-requires-clause-few g c = c.few_marks_proof.ensures
