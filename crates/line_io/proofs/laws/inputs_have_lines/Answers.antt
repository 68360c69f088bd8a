use Rattle.line_io.proofs.InputLemmas.{has_lines}
use Rattle.line_io.proofs.laws.inputs_have_lines.Goals as goal

pub returns : goal.returns
returns c = has_lines
