use Rattle.trace_walk.proofs.TellLemmas.{first_lines_tell, offer_lines_tell}
use Rattle.trace_walk.proofs.laws.first_lines_tell.Goals as goal

pub returns : goal.returns
returns c = record { merge = first_lines_tell; offer = offer_lines_tell }
