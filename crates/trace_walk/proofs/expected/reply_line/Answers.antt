use Rattle.std.proofs.Common.{◌+◌, arith, sym, subst}
use Rattle.trace_walk.specs.declared.fault.WalkFault.{WalkFault}
use Rattle.trace_walk.specs.Reads.{BlamesReader}
use Rattle.trace_walk.specs.Walking.{IsFault, IsShort}
use Rattle.trace_walk.specs.Wanting.{IsOfReply}
use Rattle.trace_walk.proofs.FaultLemmas.{missing, too_long}
use Rattle.trace_walk.proofs.ReadLemmas.{blames_reply}
use Rattle.trace_walk.proofs.WantedLemmas.{of_reply_is}
use Rattle.trace_walk.proofs.expected.reply_line.Goals as goal

pub returns-in-Ok-true-clause-there : goal.returns-in-Ok-true-clause-there
returns-in-Ok-true-clause-there g c = c.in-Ok-true.ensures.there c.in-Ok-true.field-0-test

pub returns-in-Ok-false-clause-fails : goal.returns-in-Ok-false-clause-fails
returns-in-Ok-false-clause-fails g c start bytes front at p =
    missing start bytes front c.next_line.new.lines.count (c.count.result + 1) IsShort
    (c.in-Ok-false.ensures.none c.in-Ok-false.field-0-test bytes front at) p (omega (arith, c.count.ensures.value))

pub returns-in-Err-clause-fails : goal.returns-in-Err-clause-fails
returns-in-Err-clause-fails g c start bytes front at p =
    subst (IsFault start bytes) (sym c.of_reply.ensures)
    (too_long start bytes front c.in-Err.fault (c.in-Err.ensures.long bytes front at) p)

pub returns-in-Err-clause-kind : goal.returns-in-Err-clause-kind
returns-in-Err-clause-kind g c = subst IsOfReply (sym c.of_reply.ensures) (of_reply_is c.in-Err.fault)

pub returns-in-Err-clause-reads : goal.returns-in-Err-clause-reads
returns-in-Err-clause-reads g c = λ first led.
    subst (λ (f : WalkFault). BlamesReader g.R.Source f first c.next_line.new.reader) (sym c.of_reply.ensures)
    (blames_reply g.R.Source c.in-Err.fault first c.next_line.new.reader (c.in-Err.ensures.reads first led))

pub returns-in-Ok-false-clause-reads : goal.returns-in-Ok-false-clause-reads
returns-in-Ok-false-clause-reads g c = λ first led. tt
