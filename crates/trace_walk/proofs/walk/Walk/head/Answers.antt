use Rattle.std.proofs.Common.{sym, subst}
use Rattle.trace_walk.specs.Head.{HasNoHead}
use Rattle.trace_walk.specs.declared.wrong_line.Wanted.TheVariants.{Entry}
use Rattle.trace_walk.specs.Wanting.{IsWanted}
use Rattle.trace_walk.specs.Walking.{IsFault, of_entry}
use Rattle.trace_walk.proofs.FaultLemmas.{carried}
use Rattle.trace_walk.proofs.HeadLemmas.{head_wrong, head_long, ends_there}
use Rattle.trace_walk.specs.Reads.{Advances}
use Rattle.trace_walk.proofs.ReadLemmas.{asked_blames, blames_walk, carried_as, no_cause}
use Rattle.trace_walk.specs.declared.fault.WalkFault.TheVariants.{NoRoom}
use Rattle.trace_walk.proofs.walk.Walk.head.Goals as goal

pub returns-in_err-next_line-clause-fails : goal.returns-in_err-next_line-clause-fails
returns-in_err-next_line-clause-fails g c =
    let old = c.args.self.now in
    let from = g.R.Source.remaining c.args.reader.now in
    carried c.from_residual.result (of_entry c.in_err-next_line.field-0.0) _ c.from_residual.ensures.1
    (λ b w. (head_long b old.entry.lines old.entry.lines old.store old.header from from w c.in_err-next_line.field-0.0
    (c.in_err-next_line.ensures.long b.bytes b.front w.at)).0)

pub returns-then-not-branch-clause-none : goal.returns-then-not-branch-clause-none
returns-then-not-branch-clause-none g c b w =
    let old = c.args.self.now in
    let from = g.R.Source.remaining c.args.reader.now in
    ends_there b old.entry.lines old.entry.lines old.store old.header from from w c.next_line.new.lines.count
    (c.in_ok-next_line.ensures.none c.if-not-branch.true b.bytes b.front w.at)

pub returns-in-Err-clause-fails : goal.returns-in-Err-clause-fails
returns-in-Err-clause-fails g c b w =
    let old = c.args.self.now in
    let new = c.next_line.new.lines in
    let there = c.in_ok-next_line.ensures.there c.if-not-branch.false b.bytes b.front w.at in
    subst (IsFault b.front b.bytes) (sym c.of_line.ensures)
    (head_wrong b old.entry.lines new old.store old.header (g.R.Source.remaining c.args.reader.now)
    (g.R.Source.remaining c.next_line.new.reader) w there.0 c.in-Err.fault c.count.result there.1 there.2
    (λ bad. subst (HasNoHead old.header.format) c.line.ensures (c.in-Err.ensures.none bad)) c.count.ensures.value).0

pub returns-in_err-extend_from_slice-in-Ok-clause-reads : goal.returns-in_err-extend_from_slice-in-Ok-clause-reads
returns-in_err-extend_from_slice-in-Ok-clause-reads g c =
    carried_as c.from_residual-in_err-extend_from_slice-in-Ok.result NoRoom
    (λ r. Advances g.R.Source r c.args.self.now.entry.lines c.args.reader.now c.next_line.new.lines c.next_line.new.reader)
    c.from_residual-in_err-extend_from_slice-in-Ok.ensures.1 (λ first led. tt)

pub returns-in-Err-clause-reads : goal.returns-in-Err-clause-reads
returns-in-Err-clause-reads g c = λ first led.
    no_cause g.R.Source c.of_line.result first c.next_line.new.reader
    (asked_blames c.in-Err.fault c.count.result c.of_line.result c.of_line.ensures)

pub returns-in_err-next_line-clause-reads : goal.returns-in_err-next_line-clause-reads
returns-in_err-next_line-clause-reads g c =
    carried_as c.from_residual.result (of_entry c.in_err-next_line.field-0.0)
    (λ r. Advances g.R.Source r c.args.self.now.entry.lines c.args.reader.now c.next_line.new.lines c.next_line.new.reader)
    c.from_residual.ensures.1
    (λ first led. blames_walk g.R.Source c.in_err-next_line.field-0.0 first c.next_line.new.reader
    (c.in_err-next_line.ensures.reads first led))

-- ---- the line that must be there

pub returns-in_err-next_line-clause-wanted : goal.returns-in_err-next_line-clause-wanted
returns-in_err-next_line-clause-wanted g c =
    let old = c.args.self.now in
    let from = g.R.Source.remaining c.args.reader.now in
    carried c.from_residual.result (of_entry c.in_err-next_line.field-0.0) _ c.from_residual.ensures.1
    (λ b w. (head_long b old.entry.lines old.entry.lines old.store old.header from from w c.in_err-next_line.field-0.0
    (c.in_err-next_line.ensures.long b.bytes b.front w.at)).1)

pub returns-in-Err-clause-wanted : goal.returns-in-Err-clause-wanted
returns-in-Err-clause-wanted g c b w =
    let old = c.args.self.now in
    let new = c.next_line.new.lines in
    let there = c.in_ok-next_line.ensures.there c.if-not-branch.false b.bytes b.front w.at in
    subst (IsWanted b.bytes Entry) (sym c.of_line.ensures)
    (head_wrong b old.entry.lines new old.store old.header (g.R.Source.remaining c.args.reader.now)
    (g.R.Source.remaining c.next_line.new.reader) w there.0 c.in-Err.fault c.count.result there.1 there.2
    (λ bad. subst (HasNoHead old.header.format) c.line.ensures (c.in-Err.ensures.none bad)) c.count.ensures.value).1
