-- The lines of an event's outcome, and of a script's settings.
use Rattle.std.specs.Prelude.{ℕ, List, [], ◌++◌, codes}
use Rattle.std.specs.Fmt.{decimal}
use Rattle.ds_held.specs.Limits.{LimitsRecord}
use Rattle.ds_replica.specs.declared.event.Side.{Side}
use Rattle.ds_replica.specs.declared.event.Side.TheVariants.{A, B}
use Rattle.ds_replica.specs.declared.outcome.EventFault.{EventFault}
use Rattle.ds_replica.specs.declared.outcome.EventFault.TheVariants as faults
use Rattle.ds_replica.specs.declared.outcome.Outcome.{Outcome}
use Rattle.ds_replica.specs.declared.outcome.Outcome.TheVariants.{Replied, Made, MapMade, Merged, Stopped, Cleared, Restarted, Refused}
use Rattle.line_io.specs.Lines.{with_newline}
use Rattle.script_answers.specs.Reply.{reply_lines, merged, stopped, owed_line}
use Rattle.script_answers.specs.declared.wording.Wording.{Wording}
use Rattle.script_answers.specs.declared.wording.Wording.TheVariants.{AsMerge}

-- The word of an event's refusal: its name in lower case.
abbrev pub event_fault_word : EventFault → List ℕ
event_fault_word faults.MessagesFull = codes "messagesfull"
event_fault_word faults.MapsFull = codes "mapsfull"
event_fault_word faults.TooLong = codes "toolong"
event_fault_word faults.BadPattern = codes "badpattern"
event_fault_word faults.NoMessage = codes "nomessage"
event_fault_word faults.NoMap = codes "nomap"
event_fault_word faults.TooMany = codes "toomany"
event_fault_word faults.OldIncarnation = codes "oldincarnation"
event_fault_word faults.NoRoom = codes "noroom"

-- The lines of an event's outcome; a message has none, beside those of the reply that it keeps.
abbrev pub outcome_lines : Wording → Outcome → LimitsRecord → List ℕ
outcome_lines wording (Replied reply) limits = reply_lines wording reply limits
outcome_lines wording (Made message) limits = []
outcome_lines wording (MapMade map) limits = with_newline (codes "map " ++ decimal map)
outcome_lines wording (Merged count owed) limits = with_newline (merged AsMerge count.done count.taken count.stale) ++ owed_line limits owed
outcome_lines wording (Stopped done fault owed) limits = with_newline (stopped AsMerge done fault) ++ owed_line limits owed
outcome_lines wording Cleared limits = with_newline (codes "cleared")
outcome_lines wording Restarted limits = with_newline (codes "restarted")
outcome_lines wording (Refused fault) limits = with_newline (codes "refused " ++ event_fault_word fault)

-- The answer to `ring`.
abbrev pub ring_line : ℕ → List ℕ
ring_line ring = with_newline (codes "ring " ++ decimal ring)

-- The word of a side: `a` or `b`.
abbrev pub side_word : Side → List ℕ
side_word A = codes "a"
side_word B = codes "b"

-- The answer to `side`.
abbrev pub side_line : Side → List ℕ
side_line side = with_newline (codes "side " ++ side_word side)
