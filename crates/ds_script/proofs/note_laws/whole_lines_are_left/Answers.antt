use Rattle.ds_script.proofs.NoteLineLemmas.{whole_lines}
use Rattle.ds_script.proofs.note_laws.whole_lines_are_left.Goals as goal

pub returns : goal.returns
returns c = whole_lines
