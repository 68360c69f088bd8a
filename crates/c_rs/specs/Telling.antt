-- The answers of RS, in numbers.
use Rattle.std.specs.Prelude.{ℕ, ◌+◌, ◌-◌, ◌^◌, min, List, length, Option, Some, None}
use Rattle.std.specs.Int.{to_le_bytes, w128}
use Rattle.rs_core.specs.declared.action.Action.{Action}
use Rattle.rs_core.specs.declared.fault.RsFault.{RsFault}
use Rattle.rs_core.specs.declared.fault.RsFault.TheVariants as faults
use Rattle.rs_core.specs.declared.fault.NewFault.TheVariants as new_faults
use Rattle.rs_settings.specs.declared.fault.SettingsCause.{SettingsCause}
use Rattle.rs_settings.specs.declared.fault.SettingsCause.TheVariants as causes
use Rattle.rs_store.specs.Owed.{owed_in}
use Rattle.rs_store.specs.declared.call.RsReply.{RsReply}
use Rattle.rs_store.specs.declared.call.RsReply.TheVariants as replies
use Rattle.c_values.specs.declared.answer.Answer.{Answer}
use Rattle.c_values.specs.declared.answer.Word.TheVariants as words
use Rattle.c_values.specs.Answer.{no_request, worded}

-- The number of a fault; faults that a store has too have the store's numbers.
abbrev pub rs_fault_number : RsFault → ℕ
rs_fault_number faults.TickBack = 25
rs_fault_number faults.Worn = 19
rs_fault_number faults.UnknownLabel = 26
rs_fault_number faults.BadCause = 27
rs_fault_number faults.AlreadyUp = 28
rs_fault_number faults.NotUp = 29
rs_fault_number faults.OldEndpoint = 30
rs_fault_number faults.GenerationsSpent = 31
rs_fault_number faults.NoSlot = 32
rs_fault_number faults.NoRoom = 20

-- The number of a cause for which a settings text is refused.
abbrev pub cause_number : SettingsCause → ℕ
cause_number causes.BadToml = 33
cause_number causes.UnknownField = 34
cause_number causes.Missing = 35
cause_number causes.OutOfRange = 36
cause_number causes.TwoLabels = 37
cause_number causes.TwoUnits = 38
cause_number causes.SharedName = 39
cause_number causes.NoRoom = 20

-- The answer that refuses, by the number of its cause.
abbrev pub told_cause : ℕ → Answer
told_cause number = record (worded words.Refused) { refusal = number }

-- The number of actions, with that of a service that is given up; a list is never that long.
abbrev pub action_count : List Action → Option ℕ → ℕ
action_count actions None = length actions
action_count actions (Some service) = min (length actions + 1) (2 ^ 64 - 1)

-- The answer of a reply to an event: how many actions there are, and which notices the store's replies to them owe together; or why the
-- event is refused.
abbrev pub told_answer : RsReply → Answer
told_answer (replies.Acted actions given service) =
    record (worded words.Acted) {
      count = action_count actions service;
      owed = to_le_bytes w128 (owed_in (replies.Acted actions given service));
    }
told_answer (replies.Refused fault) = told_cause (rs_fault_number fault)
told_answer _ = no_request

-- The word of a beginning: 0 if it succeeds, else the number of the refusal. A start that is out of its range is BadFirst.
abbrev pub begun_word : RsReply → ℕ
begun_word (replies.Begun services slots) = 0
begun_word replies.Exists = 13
begun_word (replies.NotBegun new_faults.OutOfRange) = 22
begun_word _ = 20
