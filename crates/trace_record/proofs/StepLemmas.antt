-- The parts of an entry, in order.
use Rattle.std.proofs.Common.{◌≡◌, ◌≢◌, ℕ, List, [], ◌∷◌, ◌++◌, length, Option, Result, Ok, Err, sym, ap, subst, ◌∙◌, arith, append_assoc}
use Rattle.std.proofs.Common.{length-append}
use Rattle.std.specs.Result.{IfErr, OnErr}
use Rattle.ds_content.specs.Content.{ContentRecord}
use Rattle.ds_content.specs.Stands.{ContentStands}
use Rattle.line_io.specs.Lines.{EndsLine, with_newline}
use Rattle.line_io.specs.Reading.{LinesContent}
use Rattle.ds_machine.specs.State.{State}
use Rattle.script_answers.specs.Reply.{reply_lines}
use Rattle.trace_walk.specs.Entry.{AddedLines, AddsLines, IsLackingOne, MissesLines}
use Rattle.trace_walk.specs.Head.{IsHeadOf}
use Rattle.trace_walk.specs.Legal.{StepOf}
use Rattle.trace_walk.specs.OneReply.{IsTraced}
use Rattle.trace_walk.specs.Text.{TraceEntry, asked_text, entry_text, marked, worded_as}
use Rattle.trace_walk.specs.Walking.{IsAt, IsShort}
use Rattle.trace_walk.specs.declared.asked.Asked.{Asked}
use Rattle.trace_walk.specs.declared.asked.Head.{Head}
use Rattle.trace_walk.specs.declared.asked.Head.TheVariants as heads
use Rattle.trace_walk.specs.declared.entry.EntryFault.{EntryFault}
use Rattle.trace_walk.specs.declared.entry.EntryFault.TheVariants as entries
use Rattle.trace_walk.specs.declared.entry.EntryReader.{EntryReader}
use Rattle.trace_walk.specs.declared.header.Format.{Format}
use Rattle.trace_walk.specs.declared.header.Header.{Header}
use Rattle.trace_record.specs.declared.fault.RecordFault.{RecordFault}
use Rattle.trace_record.specs.declared.fault.RecordFault.TheVariants.{BadLine, ReadFault, WriteFault, NoRoom}
use Rattle.trace_record.specs.declared.recorder.Recorder.{Recorder}
use Rattle.trace_record.specs.Asking.{IsPlaceOfLine, AsksNothing, IsFirstLines, IsRingLine, asked_by}
use Rattle.trace_record.specs.Reading.{IsAtLine, IsOfInput, IsOfLines, of_lines}
use Rattle.trace_record.specs.Record.{IsBeforeFault}
use Rattle.trace_record.specs.Stepping.{IsLastOf}
use Rattle.trace_record.specs.Steps.{AddedEntry, AddsEntry, AnswersAsked, AnswersIn, FailsAtHead, FailsInEntry, HeadsFrom, KeepsOutput}
use Rattle.trace_record.specs.Steps.{Recorded}
use Rattle.trace_record.proofs.AskingLemmas.{asked_after}
use Rattle.trace_record.proofs.BadLineLemmas.{asks_nothing, front_there, lacks_item}
use Rattle.trace_record.proofs.EntryLemmas.{recorded_more}

-- ---- faults

pub input_lines : (fault : EntryFault) (place : ℕ) → IsOfInput (of_lines fault place)
input_lines (entries.BadLine number) place = tt
input_lines entries.ReadFault place = tt
input_lines entries.NoRoom place = tt

-- two facts of a fault
pub both_of : {T E : Type 0} (r : Result T E) (P : E → Type 0) (Q : Type 0) (R : E → Type 0) → ((e : E) → P e → Q → R e) → IfErr r P →
    OnErr r Q → IfErr r R
both_of (Ok x) P Q R f p q = tt
both_of (Err e) P Q R f p q = f e p q

-- ---- one more entry

-- the whole command is read
pub lines_of : (w read : Recorder) (whole : EntryReader) (from to : Option (List ℕ)) (head : Head) (asked : Asked)
    (hf : HeadsFrom w read head)
    → AddsLines read.header.format read.entry from head whole to asked → AddedLines w.header.format read.entry from hf.pass whole to asked
lines_of w read whole from to head asked hf adds =
    subst (λ (h : Header). AddsLines h.format read.entry from head whole to asked) hf.keeps.0 adds
    hf.pass (subst (IsHeadOf w.header.format hf.pass head) (sym hf.begun) hf.is) (subst IsShort (sym hf.begun) hf.short)

module _ (w read new : Recorder) (whole : EntryReader) (from to : Option (List ℕ)) (head : Head) (asked : Asked)
    (ends : EndsLine w.entry.lines.line) (hf : HeadsFrom w read head)
    (l : AddedLines w.header.format read.entry from hf.pass whole to asked) where
  abbrev line : List ℕ
  line = w.entry.lines.line

  lines_asked : asked_by (line ++ l.more) ≡ asked_text hf.pass asked
  lines_asked = asked_after line l.more (omega (arith, ap length ends.parts, length-append ends.front (10 ∷ []))) ∙
      ap (λ (t : List ℕ). t ++ l.more) (sym hf.begun) ∙ sym l.whole

  lines_some : line ++ l.more ≢ []
  lines_some none = omega (arith, ap length none, length-append line l.more, ap length ends.parts, length-append ends.front (10 ∷ []))

  lines_over : new.entry.lines ≡ whole.lines → (bytes front : List ℕ) → IsAtLine bytes front w.entry.lines from →
      IsAt bytes (front ++ (line ++ l.more)) new.entry.lines to
  lines_over stays bytes front a =
      let at = subst (λ (t : List ℕ). IsAt bytes (front ++ t) w.entry.lines from) (sym a.1) a.2.then in
      subst (λ (z : LinesContent). IsAt bytes (front ++ (line ++ l.more)) z to) (sym stays)
      (subst (λ (f : List ℕ). IsAt bytes f whole.lines to) (append_assoc front line l.more)
      (l.over bytes (front ++ line) (subst (λ (z : LinesContent). IsAt bytes (front ++ line) z from) (sym hf.stays) at)))

  entry_of : new.entry.lines ≡ whole.lines → (text asking : List ℕ) (s : State) (count : ℕ) → Recorded w.header text asking s count →
      AnswersIn (record read { entry = whole }) asked new s → AddedEntry w from new to text asking count
  entry_of stays text asking s count r q =
      let h : Header = w.header in
      let e : TraceEntry = record { pass = hf.pass; asked = asked; reply = q.reply } in
      let step = subst (λ (z : Header). StepOf z.format s q.command q.reply q.new_state) hf.keeps.0 q.step in
      let last = subst (λ (z : Header). IsLastOf z.format s q.command q.reply) hf.keeps.0 q.last in
      let told : entry_text h.limits e ≡ whole.text.items ++ marked (reply_lines (worded_as asked) q.reply read.header.limits) =
      ap (λ (t : List ℕ). t ++ marked (reply_lines (worded_as asked) q.reply h.limits)) (l.whole ∙ sym l.text) ∙
      ap (λ (z : Header). whole.text.items ++ marked (reply_lines (worded_as asked) q.reply z.limits)) (sym hf.keeps.0) in
      record {
        added = entry_text h.limits e;
        more = line ++ l.more;
        new_state = q.new_state;
        some = lines_some;
        recorded = recorded_more h text asking (line ++ l.more) s q.new_state count e r (record { pass = hf.is.0; asked = l.may })
            (q.command, q.asks, step) last lines_asked;
        stands = q.stands;
        output = q.output ∙ ap (λ (t : List ℕ). read.output.items ++ t) (sym told) ∙
            ap (λ (t : List ℕ). t ++ entry_text h.limits e) hf.keeps.1;
        over = lines_over stays;
      }

  entry_by : AnswersAsked (record read { entry = whole }) asked new → AddsEntry w from new to
  entry_by an = (
    an.0 ∙ hf.keeps.0,
    λ text asking s count r stands. entry_of an.1 text asking s count r
        (an.2 s (subst (λ (z : ContentRecord). ContentStands z s) (sym hf.keeps.2) stands)
        (subst (λ (z : Header). IsTraced z.format s) (sym hf.keeps.0) r.traced)),
  )

pub entry_adds : (w read new : Recorder) (whole : EntryReader) (from to : Option (List ℕ)) (head : Head) (asked : Asked)
    → EndsLine w.entry.lines.line → HeadsFrom w read head → AddsLines read.header.format read.entry from head whole to asked →
    AnswersAsked (record read { entry = whole }) asked new
    → AddsEntry w from new to
entry_adds w read new whole from to head asked ends hf adds an =
    entry_by w read new whole from to head asked ends hf (lines_of w read whole from to head asked hf adds) an

-- a Merge lacks an item
lacks_by : (format : Format) (bytes front here : List ℕ) (pass : ℕ) (fault : EntryFault) (place count : ℕ)
    → IsFirstLines bytes front → IsHeadOf format pass (heads.Merge count) (asked_by (with_newline here))
    → IsLackingOne format bytes (front ++ with_newline here) count fault
    → IsBeforeFault format (of_lines fault place) bytes front
lacks_by format bytes front here pass (entries.BadLine number) place count whole is x =
    lacks_item format bytes front here pass count number place whole is x
lacks_by format bytes front here pass entries.ReadFault place count whole is x = whole
lacks_by format bytes front here pass entries.NoRoom place count whole is x = whole

pub entry_lacks : (w read : Recorder) (whole : EntryReader) (from : Option (List ℕ)) (head : Head) (fault : EntryFault) (told : RecordFault)
    → HeadsFrom w read head → MissesLines read.header.format read.entry from head fault → IsOfLines fault told →
    FailsInEntry w from (record read { entry = whole }) told
entry_lacks w read whole from head fault told hf f is_told =
    let is = subst (λ (x : Head). IsHeadOf w.header.format hf.pass x (asked_by w.entry.lines.line)) f.1 hf.is in
    subst (FailsInEntry w from (record read { entry = whole })) (sym is_told.1) (
      input_lines fault is_told.0,
      (hf.keeps.0, hf.keeps.1),
      λ bytes front a no_ring.
          let at = subst (λ (z : LinesContent). IsAt bytes (front ++ with_newline a.0) z from) (sym hf.stays) a.2.then in
          lacks_by w.header.format bytes front a.0 hf.pass fault is_told.0 f.0 (front_there bytes front w.entry.lines from a)
          (subst (λ (t : List ℕ). IsHeadOf w.header.format hf.pass (heads.Merge f.0) (asked_by t)) a.1 is)
          (subst (λ (h : Header). IsLackingOne h.format bytes (front ++ with_newline a.0) f.0 fault) hf.keeps.0
          (f.2 bytes (front ++ with_newline a.0) at)),
    )

-- the first line isn't a command
pub entry_unread : (w new : Recorder) (from : Option (List ℕ)) (fault : RecordFault) → FailsAtHead w new fault →
    FailsInEntry w from new fault
entry_unread w new from (BadLine number place) f = (
  tt,
  (f.1.0, f.1.1),
  λ bytes front a no_ring. asks_nothing w.header.format bytes front a.0 w.entry.lines from number place a.2
      (subst (AsksNothing w.header.format) a.1 f.0.1) (λ first is. no_ring first (subst IsRingLine (sym a.1) is)) f.0.0
      (subst (λ (n : ℕ). IsPlaceOfLine n (with_newline a.0) place) (sym f.0.0)
      (subst (λ (l : List ℕ). IsPlaceOfLine w.entry.lines.count l place) a.1 f.0.2)),
)
entry_unread w new from NoRoom f = (tt, (f.1.0, f.1.1), λ bytes front a no_ring. front_there bytes front w.entry.lines from a)
entry_unread w new from ReadFault f = absurd f.0
entry_unread w new from WriteFault f = absurd f.0

-- out of memory for the reply
pub entry_unanswered : (w read new : Recorder) (whole : EntryReader) (from : Option (List ℕ)) (head : Head) (fault : RecordFault)
    → HeadsFrom w read head → fault ≡ NoRoom → KeepsOutput (record read { entry = whole }) new → FailsInEntry w from new fault
entry_unanswered w read new whole from head fault hf e kept =
    subst (FailsInEntry w from new) (sym e)
    (tt, (kept.0 ∙ hf.keeps.0, kept.1 ∙ hf.keeps.1), λ bytes front a no_ring. front_there bytes front w.entry.lines from a)
