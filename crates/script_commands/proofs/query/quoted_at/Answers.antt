use Rattle.script_commands.proofs.QueryLemmas.{begun_more, no_closing}
use Rattle.script_commands.proofs.query.quoted_at.Goals as goal

pub loop-after-preserved : goal.loop-after-preserved
loop-after-preserved c = begun_more c.in_ok-written.written.now c.loop-after.rest.now c.in-Some.after.now c.in-Some.field-0-0
    c.loop-after.invariant c.in-Some.ensures.found c.in-Some.ensures.valid

pub returns-in_default-read_byte-clause-none : goal.returns-in_default-read_byte-clause-none
returns-in_default-read_byte-clause-none c =
    no_closing c.args.bytes.now c.in_ok-written.written.now c.loop-after.rest.now c.in_ok-written.ensures.found c.loop-after.invariant
    c.in_default.ensures.none c.in_default-read_byte.ensures.none
