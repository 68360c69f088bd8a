use Rattle.std.proofs.Common.{Err, subst}
use Rattle.std.proofs.lemmas.Bool.{false≢true}
use Rattle.line_io.specs.Lines.{EndsLine}
use Rattle.script_commands.specs.Command.{IsCommand, ReadsAs}
use Rattle.script_commands.specs.declared.fault.CommandFault.{CommandFault}
use Rattle.trace_walk.proofs.AskedLemmas.{pass_ends, no_head, no_head_there}
use Rattle.trace_walk.proofs.asked.read_head.Goals as goal

pub read_line-requires : goal.read_line-requires
read_line-requires c = pass_ends c.in-Some.pass c.in-Some.rest.now c.in-Some.ensures.found.0
    (subst EndsLine c.in-Some.ensures.found.1 c.requires.line)

pub returns-then-not-may_stand-clause-none : goal.returns-then-not-may_stand-clause-none
returns-then-not-may_stand-clause-none c = λ _.
    no_head c.args.format c.in-Ok.command c.args.line.now c.in-Some.rest.now c.in-Some.pass c.in-Some.ensures.found.0 c.requires.line
    c.requires.short c.in-Some.ensures.found.1 c.in-Ok.ensures.0 c.in-Ok.ensures.1
    (λ h. false≢true (c.if-not-may_stand.ensures.1 h)) c.in_default-read_merge.ensures.none

pub returns-in-Err-BadLine-clause-none : goal.returns-in-Err-BadLine-clause-none
returns-in-Err-BadLine-clause-none c = λ _.
    let fault = subst (λ (x : CommandFault). ReadsAs IsCommand c.in-Some.rest.now (Err x)) c.in-Err-BadLine.field-0-is
    c.in-Err-BadLine.ensures in
    no_head_there c.args.format c.args.line.now c.in-Some.rest.now c.in-Some.pass c.in-Some.ensures.found.0 c.in-Some.ensures.found.1
    fault.none c.in_default-read_merge.ensures.none
