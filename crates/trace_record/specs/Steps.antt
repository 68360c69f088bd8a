-- The parts of a recording, for all inputs and places. `from` and `to` are what the reader has before and after each.
use Rattle.std.specs.Prelude.{◌≡◌, ◌≢◌, ℕ, suc, List, [], ◌++◌, length, Option, Some}
use Rattle.ds_content.specs.Stands.{ContentStands}
use Rattle.line_io.specs.Reading.{LinesContent}
use Rattle.ds_machine.specs.State.{State}
use Rattle.ds_machine.specs.declared.command.Command.{Command}
use Rattle.ds_machine.specs.declared.reply.Reply.{Reply}
use Rattle.script_answers.specs.Reply.{reply_lines}
use Rattle.script_answers.specs.declared.wording.Wording.{Wording}
use Rattle.trace_walk.specs.Walking.{IsAt, IsShort}
use Rattle.trace_walk.specs.declared.asked.Asked.{Asked}
use Rattle.trace_walk.specs.declared.asked.Head.{Head}
use Rattle.trace_walk.specs.declared.header.Header.{Header}
use Rattle.trace_walk.specs.Head.{IsHeadOf}
use Rattle.trace_walk.specs.Legal.{IsTrace, StepOf, opened_by}
use Rattle.trace_walk.specs.OneReply.{IsTraced}
use Rattle.trace_walk.specs.Text.{TraceEntry, IsHeader, command_asked, header_text, marked, worded_as}
use Rattle.trace_record.specs.declared.fault.RecordFault.{RecordFault}
use Rattle.trace_record.specs.declared.form.Form.{Form}
use Rattle.trace_record.specs.declared.recorder.Recorder.{Recorder}
use Rattle.trace_record.specs.Asking.{AskAll, IsRingLine, asked_by}
use Rattle.trace_record.specs.Reading.{IsAtLine, IsBadHead, IsOfInput}
use Rattle.trace_record.specs.Record.{IsBeforeFault, header_of}
use Rattle.trace_record.specs.Stepping.{AllAnswered, IsLastOf}

-- ---- what is unchanged

-- Whether the waiting entries are unchanged.
abbrev pub KeepsOutput : Recorder → Recorder → Type 0
KeepsOutput old new = (new.header ≡ old.header) × (new.output.items ≡ old.output.items)

-- Whether the store is unchanged, too.
abbrev pub KeepsRun : Recorder → Recorder → Type 0
KeepsRun old new = (new.header ≡ old.header) × (new.output.items ≡ old.output.items) × (new.store ≡ old.store)

-- ---- the beginning

-- Whether the store is the one that the header opens, and the header waits.
pub record OpensAs (lines : LinesContent) (form : Form) (ring : ℕ) (w : Recorder) : Type 0 where
  pub lines_are : w.entry.lines ≡ lines
  pub header_is : w.header ≡ header_of form ring
  pub is_header : IsHeader (header_of form ring)
  pub output_is : w.output.items ≡ header_text (header_of form ring)
  pub stands : ContentStands w.store (opened_by (header_of form ring))

-- ---- the first line of an entry

-- Whether the line is read, and its text begun.
pub record HeadsFrom (old new : Recorder) (head : Head) : Type 0 where
  pub pass : ℕ
  pub is : IsHeadOf old.header.format pass head (asked_by old.entry.lines.line)
  pub short : IsShort (asked_by old.entry.lines.line)
  pub begun : new.entry.text.items ≡ asked_by old.entry.lines.line
  pub keeps : KeepsRun old new
  pub stays : new.entry.lines ≡ old.entry.lines

-- Whether the line isn't the first of an entry, and this is the fault. The waiting entries and the store are
-- unchanged.
abbrev pub FailsAtHead : Recorder → Recorder → RecordFault → Type 0
FailsAtHead old new fault = IsBadHead old.header.format old.entry.lines.line old.entry.lines.count fault × KeepsRun old new

-- ---- the reply

-- Whether the entry waits with this reply, in this wording.
pub record AddsReply (wording : Wording) (reply : Reply) (old new : Recorder) : Type 0 where
  pub header : new.header ≡ old.header
  pub lines : new.entry.lines ≡ old.entry.lines
  pub store : new.store ≡ old.store
  pub output : new.output.items ≡ old.output.items ++ (old.entry.text.items ++ marked (reply_lines wording reply old.header.limits))

-- Whether the store takes the step of the entry's command, and the entry waits with its reply.
pub record AnswersIn (old : Recorder) (asked : Asked) (new : Recorder) (s : State) : Type 0 where
  pub command : Command
  pub new_state : State
  pub reply : Reply
  pub asks : command_asked asked ≡ Some command
  pub step : StepOf old.header.format s command reply new_state
  pub last : IsLastOf old.header.format s command reply
  pub stands : ContentStands new.store new_state
  pub output : new.output.items ≡
      old.output.items ++ (old.entry.text.items ++ marked (reply_lines (worded_as asked) reply old.header.limits))

abbrev pub AnswersAsked : Recorder → Asked → Recorder → Type 0
AnswersAsked old asked new =
    (new.header ≡ old.header) × (new.entry.lines ≡ old.entry.lines) ×
    ((s : State) → ContentStands old.store s → IsTraced old.header.format s → AnswersIn old asked new s)

-- ---- entries

-- Whether the text is a legal trace of `count` entries, which are these lines, and leads to the state.
pub record Recorded (h : Header) (text asking : List ℕ) (s : State) (count : ℕ) : Type 0 where
  pub entries : List TraceEntry
  pub asks : AskAll asking entries
  pub trace : IsTrace text h entries s
  pub answered : AllAnswered h.format (opened_by h) entries s
  pub traced : IsTraced h.format s
  pub counted : length entries ≡ count

-- Whether one more entry waits: the line that was reached, and those passed since.
pub record AddedEntry (old : Recorder) (from : Option (List ℕ)) (new : Recorder)
    (to : Option (List ℕ)) (text asking : List ℕ) (count : ℕ) : Type 0 where
  pub added : List ℕ
  pub more : List ℕ
  pub new_state : State
  pub some : more ≢ []
  pub recorded : Recorded old.header (text ++ added) (asking ++ more) new_state (suc count)
  pub stands : ContentStands new.store new_state
  pub output : new.output.items ≡ old.output.items ++ added
  pub over : (bytes front : List ℕ) → IsAtLine bytes front old.entry.lines from → IsAt bytes (front ++ more) new.entry.lines to

abbrev pub AddsEntry : Recorder → Option (List ℕ) → Recorder → Option (List ℕ) → Type 0
AddsEntry old from new to =
    (new.header ≡ old.header) ×
    ((text asking : List ℕ) (s : State) (count : ℕ) →
    Recorded old.header text asking s count → ContentStands old.store s → AddedEntry old from new to text asking count)

-- Whether none does. An input's first line `ring N` isn't read as an entry's.
abbrev pub FailsInEntry : Recorder → Option (List ℕ) → Recorder → RecordFault → Type 0
FailsInEntry old from new fault =
    IsOfInput fault × KeepsOutput old new ×
    ((bytes front : List ℕ) → IsAtLine bytes front old.entry.lines from → (front ≡ [] → ¬ IsRingLine old.entry.lines.line) →
    IsBeforeFault old.header.format fault bytes front)
