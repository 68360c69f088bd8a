use Rattle.std.proofs.Common.{arith}
use Rattle.script_answers.proofs.MaskLemmas.{mask_written}
use Rattle.script_answers.proofs.reply.append_owed.Goals as goal

pub returns-clause-written : goal.returns-clause-written
returns-clause-written c =
    mask_written c.append_mask.result c.append_mask.new.buffer.items c.args.buffer.now.items c.args.limits c.args.mask c.subs.result
    c.to_be_bytes.result
    c.subs.ensures.limits c.subs.ensures.count c.to_be_bytes.ensures (omega (arith, c.if-mask-eq0.false)) c.append_mask.ensures.written
