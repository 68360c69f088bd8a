use Rattle.ds_line.proofs.NewlineLemmas.{line_ends}
use Rattle.ds_line.proofs.laws.newlines_end_lines.Goals as goal

pub returns : goal.returns
returns c = line_ends
