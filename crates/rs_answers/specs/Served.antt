-- The lines that answer RS and its store.
use Rattle.std.specs.Prelude.{ℕ, List, [], ◌∷◌, ◌++◌, length, Option, Some, None}
use Rattle.ds_held.specs.Limits.{larger}
use Rattle.ds_machine.specs.declared.refusal.Refusal.TheVariants as refusals
use Rattle.ds_machine.specs.declared.reply.Reply.{Reply}
use Rattle.ds_machine.specs.declared.reply.Reply.TheVariants as store_replies
use Rattle.rs_core.specs.declared.action.Action.{Action}
use Rattle.rs_core.specs.declared.fault.NewFault.{NewFault}
use Rattle.rs_core.specs.declared.fault.NewFault.TheVariants as new_faults
use Rattle.rs_settings.specs.declared.fault.SettingsCause.TheVariants as causes
use Rattle.script_answers.specs.Reply.{reply_lines}
use Rattle.script_answers.specs.declared.wording.Wording.{Wording}
use Rattle.script_answers.specs.declared.wording.Wording.TheVariants.{AsMerge}
use Rattle.script_answers.specs.Actions.{action_line, action_count_line, rs_fault_line}
use Rattle.script_answers.specs.SettingsLines.{settings_line, settings_fault_line, exists_line}
use Rattle.rs_store.specs.declared.call.RsReply.{RsReply}
use Rattle.rs_store.specs.declared.call.RsReply.TheVariants.{Replied, NotAllowed, Begun, Exists, NotBegun, Acted, Refused}

-- The lines of the store's reply to an action, if there is one.
abbrev pub reply_lines_if : Option (Option Reply) → List ℕ
reply_lines_if (Some (Some reply)) = reply_lines AsMerge reply larger
reply_lines_if (Some None) = []
reply_lines_if None = []

-- The lines of actions, each followed by the store's reply.
abbrev pub acted_lines : List Action → List (Option Reply) → List ℕ
acted_lines [] replies = []
acted_lines (action ∷ actions) [] = action_line action ++ acted_lines actions []
acted_lines (action ∷ actions) (reply ∷ replies) = action_line action ++ (reply_lines_if (Some reply) ++ acted_lines actions replies)

-- The actions' lines, each followed by the store's reply, and then the number of actions.
abbrev pub all_acted_lines : List Action → List (Option Reply) → List ℕ
all_acted_lines actions replies = acted_lines actions replies ++ action_count_line (length actions)

-- Why RS didn't begin, in the words of a refused settings text.
abbrev pub start_fault_line : NewFault → List ℕ
start_fault_line new_faults.OutOfRange = settings_fault_line causes.OutOfRange
start_fault_line new_faults.NoRoom = settings_fault_line causes.NoRoom

-- The refusal of a client's command in RS's name, in the words of the store's refusal.
abbrev pub not_allowed_lines : List ℕ
not_allowed_lines = reply_lines AsMerge (store_replies.Refused refusals.NotAllowed) larger

-- The lines of a reply; a service that was given up has no line.
abbrev pub served_lines : Wording → RsReply → List ℕ
served_lines wording (Replied reply) = reply_lines wording reply larger
served_lines wording NotAllowed = not_allowed_lines
served_lines wording (Begun services slots) = settings_line services slots
served_lines wording Exists = exists_line
served_lines wording (NotBegun fault) = start_fault_line fault
served_lines wording (Acted actions replies given) = all_acted_lines actions replies
served_lines wording (Refused fault) = rs_fault_line fault
