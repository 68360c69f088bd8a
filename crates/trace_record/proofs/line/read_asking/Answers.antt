use Rattle.std.proofs.Common.{ap, length, sym, subst, arith}
use Rattle.line_io.specs.Lines.{EndsLine}
use Rattle.trace_record.proofs.AskingLemmas.{asked_longer, ends_asked}
use Rattle.trace_record.proofs.line.read_asking.Goals as goal

pub read_head-requires-clause-line : goal.read_head-requires-clause-line
read_head-requires-clause-line c = subst EndsLine (sym c.requires.text) (ends_asked c.args.line.now c.requires.ends)

pub returns-in-Ok-clause-found : goal.returns-in-Ok-clause-found
returns-in-Ok-clause-found c = (c.in-Ok._pass, c.in-Ok.ensures.found, omega arith)

pub place_of_command-requires-clause-short : goal.place_of_command-requires-clause-short
place_of_command-requires-clause-short c = omega (arith, asked_longer c.args.line.now, ap length c.requires.text)
