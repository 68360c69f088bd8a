use Rattle.trace_walk.proofs.WalkLemmas.{header_after, bad_header}
use Rattle.trace_walk.proofs.laws.headers_are_judged.Goals as goal

pub returns : goal.returns
returns c = record { begin = header_after; wrong = bad_header }
