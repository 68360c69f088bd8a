-- Each reply of RS has a text.
use Rattle.std.proofs.Common.{◌≢◌, [], length}
use Rattle.ds_held.specs.Limits.{larger}
use Rattle.ds_machine.specs.declared.refusal.Refusal.TheVariants.{NotAllowed}
use Rattle.ds_machine.specs.declared.reply.Reply.TheVariants as store_replies
use Rattle.rs_answers.specs.Served.{served_lines, acted_lines}
use Rattle.rs_core.specs.declared.fault.NewFault.TheVariants as new_faults
use Rattle.rs_store.specs.declared.call.RsReply.{RsReply}
use Rattle.rs_store.specs.declared.call.RsReply.TheVariants as replies
use Rattle.script_answers.specs.Actions.{action_count_line}
use Rattle.script_answers.specs.declared.wording.Wording.{Wording}
use Rattle.script_answers.specs.declared.wording.Wording.TheVariants.{AsMerge}
use Rattle.c_store.proofs.TextLemmas.{after_any, reply_has_lines, some_byte}

pub served_has_lines : (wording : Wording) (reply : RsReply) → served_lines wording reply ≢ []
served_has_lines wording (replies.Replied reply) = reply_has_lines wording reply larger
served_has_lines wording replies.NotAllowed = reply_has_lines AsMerge (store_replies.Refused NotAllowed) larger
served_has_lines wording (replies.Begun services slots) = some_byte _ _
served_has_lines wording replies.Exists = some_byte _ _
served_has_lines wording (replies.NotBegun new_faults.OutOfRange) = some_byte _ _
served_has_lines wording (replies.NotBegun new_faults.NoRoom) = some_byte _ _
served_has_lines wording (replies.Acted actions answers given) =
    after_any (acted_lines actions answers) (action_count_line (length actions)) (some_byte _ _)
served_has_lines wording (replies.Refused fault) = some_byte _ _
