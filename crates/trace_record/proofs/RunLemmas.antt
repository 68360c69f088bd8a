-- A recording from entry to entry, and its end.
use Rattle.std.proofs.Common.{◌≡◌, ◌≢◌, ℕ, suc, Bool, true, false, List, [], ◌∷◌, ◌++◌, length, Option, Some, Result, Ok, Err, inl, inr}
use Rattle.std.proofs.Common.{◌⊎◌, refl, sym, ap, subst, ◌∙◌, arith, append_assoc, append-nil, length-append}
use Rattle.std.specs.Io.KnownBytes.{Appends}
use Rattle.std.proofs.KnownBytes.{Appends-nil, Appends-trans}
use Rattle.ds_content.specs.Content.{ContentRecord}
use Rattle.ds_content.specs.Stands.{ContentStands}
use Rattle.line_io.specs.Lines.{EndsLine, HasLines}
use Rattle.line_io.specs.Reading.{LinesContent}
use Rattle.line_io.specs.Transfer.{SendsFront, WritesPart}
use Rattle.ds_machine.specs.State.{State}
use Rattle.trace_walk.specs.Walking.{IsAt, IsLongFault, IsRead, IsShort}
use Rattle.trace_walk.specs.declared.entry.EntryFault.{EntryFault}
use Rattle.trace_walk.specs.declared.entry.EntryFault.TheVariants as entries
use Rattle.trace_walk.proofs.BeginLemmas.{by_known}
use Rattle.trace_walk.specs.declared.header.Format.{Format}
use Rattle.trace_walk.specs.declared.header.Header.{Header}
use Rattle.trace_walk.specs.Legal.{opened_by}
use Rattle.trace_record.specs.declared.fault.RecordFault.{RecordFault}
use Rattle.trace_record.specs.declared.fault.RecordFault.TheVariants.{BadLine, ReadFault, WriteFault, NoRoom}
use Rattle.trace_record.specs.declared.form.Form.{Form}
use Rattle.trace_record.specs.declared.form.Form.TheVariants as forms
use Rattle.trace_record.specs.declared.recorder.Recorder.{Recorder}
use Rattle.trace_record.specs.Asking.{IsAtLimit, IsFirstLines, IsAllLines, OpensWith}
use Rattle.trace_record.specs.Reading.{Comes, ComesToNext, GoesToNoRing, IsAtLine, IsOfInput, IsReady, of_lines}
use Rattle.trace_record.specs.Record.{IsRecord, IsBeforeFault, Records, StopsRecording, WritesBy, format_of, header_of}
use Rattle.trace_record.specs.Running.{HasFailed, HasRun, Runs, RunsTo, WritesRest}
use Rattle.trace_record.specs.Steps.{AddsEntry, FailsInEntry, OpensAs, Recorded}
use Rattle.trace_record.proofs.BadLineLemmas.{front_there, long_asks_nothing}
use Rattle.trace_record.proofs.EntryLemmas.{recorded_none}

-- ---- the lines before the next one

pub front_at : (bytes front : List ℕ) (l : LinesContent) (from : Option (List ℕ)) → IsAt bytes front l from → IsFirstLines bytes front
front_at bytes front l from at = (at.before, at.after, at.lines, at.front_is)

-- the next one comes, or none, or it can't be read
pub comes_there : (bytes front : List ℕ) (l : LinesContent) (to : Option (List ℕ)) (there : Bool) →
    (there ≡ true → IsAtLine bytes front l to) → (there ≡ false → IsRead bytes front l.count) → ComesToNext bytes front l to (Ok there)
comes_there bytes front l to true line none = line refl
comes_there bytes front l to false line none = none refl

pub comes_not : (bytes front : List ℕ) (l : LinesContent) (to : Option (List ℕ)) (fault : EntryFault) (place : ℕ)
    → IsFirstLines bytes front → IsLongFault bytes front fault → IsAtLimit place → ComesToNext bytes front l to (Err (of_lines fault place))
comes_not bytes front l to (entries.BadLine number) place whole long limit = (long, limit)
comes_not bytes front l to entries.ReadFault place whole long limit = whole
comes_not bytes front l to entries.NoRoom place whole long limit = whole

pub ready_there : (l : LinesContent) (there : Bool) → (there ≡ true → EndsLine l.line × IsShort l.line) → IsReady l (Ok there)
ready_there l true ready = ready refl
ready_there l false ready = tt

-- whatever the result of reading it
pub front_comes : (bytes front : List ℕ) (l : LinesContent) (to : Option (List ℕ)) (next : Result Bool RecordFault) →
    ComesToNext bytes front l to next → IsFirstLines bytes front
front_comes bytes front l to (Ok true) c = front_there bytes front l to c
front_comes bytes front l to (Ok false) c = (c.0, [], subst (HasLines bytes) (sym (append-nil c.0)) c.1, c.2)
front_comes bytes front l to (Err (BadLine number place)) c = let l = c.0 in (l.before, l.line ∷ l.more, l.lines, l.front_is)
front_comes bytes front l to (Err WriteFault) c = absurd c
front_comes bytes front l to (Err ReadFault) c = c
front_comes bytes front l to (Err NoRoom) c = c

-- why it wasn't reached
pub up_to : (format : Format) (bytes front : List ℕ) (l : LinesContent) (to : Option (List ℕ)) (fault : RecordFault) →
    ComesToNext bytes front l to (Err fault) → IsBeforeFault format fault bytes front
up_to format bytes front l to (BadLine number place) c = long_asks_nothing format bytes front number place c.0 c.1
up_to format bytes front l to WriteFault c = absurd c
up_to format bytes front l to ReadFault c = c
up_to format bytes front l to NoRoom c = c

-- ---- why it ends

-- a fault that isn't the writer's
pub runs_to_fault : (known : Option (List ℕ)) (first : List ℕ) (had : Option (List ℕ)) (h : Header) (waits : List ℕ)
    (has : Option (List ℕ)) (count : ℕ) (fault : RecordFault)
    → IsOfInput fault → HasRun known first had h waits has (IsBeforeFault h.format fault) count
    → RunsTo known first had h waits has (Err fault)
runs_to_fault known first had h waits has count (BadLine number place) is x = (count, x)
runs_to_fault known first had h waits has count ReadFault is x = (count, x)
runs_to_fault known first had h waits has count NoRoom is x = (count, x)
runs_to_fault known first had h waits has count WriteFault is x = absurd is

module _ (known : Option (List ℕ)) (first : List ℕ) (had : Option (List ℕ)) (h : Header) (w : Recorder) (from has : Option (List ℕ))
    (count : ℕ) where
  -- there is no next line
  pub run_ends : (next : Result Bool RecordFault) → Runs known first had h w from has next count → next ≡ Ok false →
      HasRun known first had h w.output.items has IsAllLines count
  run_ends next r e =
      record {
        sent = r.sent;
        asking = r.asking;
        state = r.state;
        written = r.written;
        recorded = r.recorded;
        input = λ bytes k. let c = subst (ComesToNext bytes (first ++ r.asking) w.entry.lines from) e (r.comes bytes k) in (c.0, c.1, c.2);
      }

  -- it can't be read
  pub run_stops : (next : Result Bool RecordFault) (fault : RecordFault) → Runs known first had h w from has next count →
      next ≡ Err fault → IsReady w.entry.lines next → RunsTo known first had h w.output.items has (Err fault)
  run_stops next fault r e ready =
      runs_to_fault known first had h w.output.items has count fault (subst (IsReady w.entry.lines) e ready)
      (record {
        sent = r.sent;
        asking = r.asking;
        state = r.state;
        written = r.written;
        recorded = r.recorded;
        input = λ bytes k. up_to h.format bytes (first ++ r.asking) w.entry.lines from fault
            (subst (ComesToNext bytes (first ++ r.asking) w.entry.lines from) e (r.comes bytes k));
      })

  -- no more entries are counted
  pub run_full : (next : Result Bool RecordFault) → Runs known first had h w from has next count →
      RunsTo known first had h w.output.items has (Err NoRoom)
  run_full next r = (
    count,
    record {
      sent = r.sent;
      asking = r.asking;
      state = r.state;
      written = r.written;
      recorded = r.recorded;
      input = λ bytes k. front_comes bytes (first ++ r.asking) w.entry.lines from next (r.comes bytes k);
    },
  )

-- ---- one more entry

part_more : (had mid has : Option (List ℕ)) (sent waits : List ℕ) → Appends had mid sent → WritesPart mid has waits →
    WritesPart had has (sent ++ waits)
part_more had mid has sent waits a p =
    (sent ++ p.0, p.1, ap (λ (l : List ℕ). sent ++ l) p.2 ∙ sym (append_assoc sent p.0 p.1), Appends-trans had mid has sent p.0 a p.3)

some_more : (first asking more : List ℕ) → more ≢ [] → first ++ (asking ++ more) ≢ []
some_more first asking [] some none = some refl
some_more first asking (b ∷ more) some none =
    omega (arith, ap length none, length-append first (asking ++ b ∷ more), length-append asking (b ∷ more))

-- it waits, and the input is after its lines
pub record IsAfterEntries (known : Option (List ℕ)) (first : List ℕ) (had : Option (List ℕ)) (h : Header) (w : Recorder)
    (from has : Option (List ℕ)) (count : ℕ) : Type 0 where
  pub sent : List ℕ
  pub asking : List ℕ
  pub state : State
  pub header : w.header ≡ h
  pub written : Appends had has sent
  pub recorded : Recorded h (sent ++ w.output.items) asking state count
  pub stands : ContentStands w.store state
  pub at : (bytes : List ℕ) → known ≡ Some bytes → IsAt bytes (first ++ asking) w.entry.lines from
  pub some : first ++ asking ≢ []

module _ (known : Option (List ℕ)) (first : List ℕ) (had : Option (List ℕ)) (h : Header) (w new : Recorder) (from to has : Option (List ℕ))
    (next : Result Bool RecordFault) (count : ℕ) (r : Runs known first had h w from has next count) (there : next ≡ Ok true) where
  abbrev at_line : (bytes : List ℕ) → known ≡ Some bytes → IsAtLine bytes (first ++ r.asking) w.entry.lines from
  at_line bytes k = subst (ComesToNext bytes (first ++ r.asking) w.entry.lines from) there (r.comes bytes k)

  pub entry_added : AddsEntry w from new to → IsAfterEntries known first had h new to has (suc count)
  entry_added added =
      let a = added.1 (r.sent ++ w.output.items) r.asking r.state count
      (subst (λ (z : Header). Recorded z (r.sent ++ w.output.items) r.asking r.state count) (sym r.header) r.recorded) r.stands in
      let text : (r.sent ++ w.output.items) ++ a.added ≡ r.sent ++ new.output.items =
      append_assoc r.sent w.output.items a.added ∙ ap (λ (l : List ℕ). r.sent ++ l) (sym a.output) in
      record {
        sent = r.sent;
        asking = r.asking ++ a.more;
        state = a.new_state;
        header = added.0 ∙ r.header;
        written = r.written;
        recorded =
            subst (λ (z : Header). Recorded z (r.sent ++ new.output.items) (r.asking ++ a.more) a.new_state (suc count)) r.header
            (subst (λ (t : List ℕ). Recorded w.header t (r.asking ++ a.more) a.new_state (suc count)) text a.recorded);
        stands = a.stands;
        at = λ bytes k. subst (λ (f : List ℕ). IsAt bytes f new.entry.lines to) (append_assoc first r.asking a.more)
            (a.over bytes (first ++ r.asking) (at_line bytes k));
        some = some_more first r.asking a.more a.some;
      }

  -- none is
  pub entry_fails : (fault : RecordFault) → FailsInEntry w from new fault → RunsTo known first had h new.output.items has (Err fault)
  entry_fails fault f =
      runs_to_fault known first had h new.output.items has count fault f.0
      (record {
        sent = r.sent;
        asking = r.asking;
        state = r.state;
        written = r.written;
        recorded = subst (λ (l : List ℕ). Recorded h (r.sent ++ l) r.asking r.state count) (sym f.1.1) r.recorded;
        input = λ bytes k. subst (λ (z : Header). IsBeforeFault z.format fault bytes (first ++ r.asking)) r.header
            (f.2 bytes (first ++ r.asking) (at_line bytes k) (λ none. r.no_ring none there));
      })

module _ (known : Option (List ℕ)) (first : List ℕ) (had : Option (List ℕ)) (h : Header) (w : Recorder) (from has now : Option (List ℕ))
    (count : ℕ) (b : IsAfterEntries known first had h w from has count) where
  -- it can't be written
  pub entry_unwritten : (waits : List ℕ) → WritesPart has now w.output.items → RunsTo known first had h waits now (Err WriteFault)
  entry_unwritten waits p =
      record {
        text = b.sent ++ w.output.items;
        asking = b.asking;
        state = b.state;
        count = count;
        recorded = b.recorded;
        written = part_more had has now b.sent w.output.items b.written p;
        input = λ bytes k. front_at bytes (first ++ b.asking) w.entry.lines from (b.at bytes k);
      }

  -- it is written, or waits, and the next line is read
  pub entry_written : (new : Recorder) (waits : List ℕ) (lines : LinesContent) (to : Option (List ℕ)) (next : Result Bool RecordFault) →
      new.header ≡ w.header → new.store ≡ w.store → new.output.items ≡ waits → new.entry.lines ≡ lines →
      SendsFront has now w.output.items waits → Comes w.entry.lines from lines to next → Runs known first had h new to now next count
  entry_written new waits lines to next header store output there s comes =
      let text : b.sent ++ w.output.items ≡ (b.sent ++ s.0) ++ new.output.items =
      ap (λ (l : List ℕ). b.sent ++ l) (s.1 ∙ ap (λ (l : List ℕ). s.0 ++ l) (sym output)) ∙
      sym (append_assoc b.sent s.0 new.output.items) in
      record {
        sent = b.sent ++ s.0;
        asking = b.asking;
        state = b.state;
        header = header ∙ b.header;
        written = Appends-trans had has now b.sent s.0 b.written s.2;
        recorded = subst (λ (t : List ℕ). Recorded h t b.asking b.state count) text b.recorded;
        stands = subst (λ (c : ContentRecord). ContentStands c b.state) (sym store) b.stands;
        comes = λ bytes k. subst (λ (l : LinesContent). ComesToNext bytes (first ++ b.asking) l to next) (sym there)
            (comes bytes (first ++ b.asking) (b.at bytes k));
        no_ring = λ none. absurd (b.some none);
      }

-- ---- from the beginning to the end

-- before the first entry the header waits
pub runs_first : (known : Option (List ℕ)) (first : List ℕ) (had : Option (List ℕ)) (form : Form) (ring : ℕ) (lines : LinesContent)
    (w : Recorder) (from : Option (List ℕ)) (next : Result Bool RecordFault)
    → OpensAs lines form ring w → ((bytes : List ℕ) → known ≡ Some bytes → ComesToNext bytes first lines from next)
    → (first ≡ [] → GoesToNoRing lines next) →
    Runs known first had (header_of form ring) w from had next 0
runs_first known first had form ring lines w from next o comes no_ring =
    record {
      sent = [];
      asking = [];
      state = opened_by (header_of form ring);
      header = o.header_is;
      written = Appends-nil had;
      recorded = subst (λ (t : List ℕ). Recorded (header_of form ring) t [] (opened_by (header_of form ring)) 0) (sym o.output_is)
          (recorded_none (header_of form ring) o.is_header);
      stands = o.stands;
      comes = λ bytes k. subst (λ (f : List ℕ). ComesToNext bytes f w.entry.lines from next) (sym (append-nil first))
          (subst (λ (l : LinesContent). ComesToNext bytes first l from next) (sym o.lines_are) (comes bytes k));
      no_ring = λ none. subst (λ (l : LinesContent). GoesToNoRing l next) (sym o.lines_are) (no_ring (sym (append-nil first) ∙ none));
    }

is_record : (form : Form) (ring : ℕ) (first asking text : List ℕ) (s : State) (count : ℕ) → OpensWith first ring →
    Recorded (header_of form ring) text asking s count → IsRecord form (first ++ asking) text count
is_record form ring first asking text s count opens r =
    record {
      ring = ring;
      first = first;
      asking = asking;
      entries = r.entries;
      last = s;
      opens = opens;
      input_is = refl;
      asks = r.asks;
      trace =
          r.trace;
      answered = r.answered;
      counted = r.counted;
    }

format_is : (form : Form) (ring : ℕ) → (header_of form ring).format ≡ format_of form
format_is forms.One ring = refl
format_is (forms.Two limits) ring = refl

front_up_to : (format : Format) (fault : RecordFault) (bytes input : List ℕ) → IsBeforeFault format fault bytes input →
    IsFirstLines bytes input
front_up_to format (BadLine number place) bytes input x = x.whole
front_up_to format ReadFault bytes input x = x
front_up_to format WriteFault bytes input x = x
front_up_to format NoRoom bytes input x = x

module _ (form : Form) (ring : ℕ) (known : Option (List ℕ)) (first : List ℕ) (had mid has : Option (List ℕ)) (waits : List ℕ)
    (opens : OpensWith first ring) where
  abbrev header : Header
  header = header_of form ring

  pub settled_whole : (count : ℕ) → HasRun known first had header waits mid IsAllLines count → Appends mid has waits →
      Records form known had has count
  settled_whole count r a = (
    first ++ r.asking,
    r.sent ++ waits,
    is_record form ring first r.asking (r.sent ++ waits) r.state count opens r.recorded,
    Appends-trans had mid has r.sent waits r.written a,
    by_known known _ r.input,
  )

  -- the writer fails at last
  settled_unwritten : (Holds : List ℕ → List ℕ → Type 0) (count : ℕ)
      → ((bytes input : List ℕ) → Holds bytes input → IsFirstLines bytes input) → HasRun known first had header waits mid Holds count
      → WritesPart mid has waits
      → StopsRecording form known had has WriteFault
  settled_unwritten Holds count whole r p = (
    first ++ r.asking,
    r.sent ++ waits,
    count,
    is_record form ring first r.asking (r.sent ++ waits) r.state count opens r.recorded,
    part_more had mid has r.sent waits r.written p,
    by_known known _ (λ bytes k. whole bytes (first ++ r.asking) (r.input bytes k)),
  )

  -- it failed before
  settled_failed : HasFailed known first had header mid → Appends mid has [] → StopsRecording form known had has WriteFault
  settled_failed r a =
      let p = r.written in (
        first ++ r.asking,
        r.text,
        r.count,
        is_record form ring first r.asking r.text r.state r.count opens r.recorded,
        (p.0, p.1, p.2, subst (Appends had has) (append-nil p.0) (Appends-trans had mid has p.0 [] p.3 a)),
        by_known known _ r.input,
      )

  -- another fault came
  settled_up_to : (fault : RecordFault) (count : ℕ)
      → ((text : List ℕ) → Appends had has text → WritesBy fault had has text)
      → HasRun known first had header waits mid (IsBeforeFault header.format fault) count → Appends mid has waits
      → StopsRecording form known had has fault
  settled_up_to fault count other r a =
      let written = other (r.sent ++ waits) (Appends-trans had mid has r.sent waits r.written a) in (
        first ++ r.asking,
        r.sent ++ waits,
        count,
        is_record form ring first r.asking (r.sent ++ waits) r.state count opens r.recorded,
        written,
        by_known known _
            (λ bytes k. subst (λ (f : Format). IsBeforeFault f fault bytes (first ++ r.asking)) (format_is form ring) (r.input bytes k)),
      )

  whole_front : (bytes input : List ℕ) → IsAllLines bytes input → IsFirstLines bytes input
  whole_front bytes input w = (w.0, [], subst (HasLines bytes) (sym (append-nil w.0)) w.1, w.2)

  pub whole_unwritten : (count : ℕ) → HasRun known first had header waits mid IsAllLines count → WritesPart mid has waits →
      StopsRecording form known had has WriteFault
  whole_unwritten count r p = settled_unwritten IsAllLines count whole_front r p

  up_to_settled : (fault result : RecordFault) → ((text : List ℕ) → Appends had has text → WritesBy fault had has text) →
      (count : ℕ) × HasRun known first had header waits mid (IsBeforeFault header.format fault) count →
      ((result ≡ fault) × Appends mid has waits) ⊎ ((result ≡ WriteFault) × WritesPart mid has waits) →
      StopsRecording form known had has result
  up_to_settled fault result other r (inl s) = subst (StopsRecording form known had has) (sym s.0) (settled_up_to fault r.0 other r.1 s.1)
  up_to_settled fault result other r (inr s) =
      subst (StopsRecording form known had has) (sym s.0)
      (settled_unwritten (IsBeforeFault header.format fault) r.0 (front_up_to header.format fault) r.1 s.1)

  pub fault_settled : (fault result : RecordFault) → RunsTo known first had header waits mid (Err fault) →
      WritesRest fault mid has waits result → StopsRecording form known had has result
  fault_settled WriteFault result r s = subst (StopsRecording form known had has) (sym s.0) (settled_failed r s.1)
  fault_settled (BadLine number place) result r s = up_to_settled (BadLine number place) result (λ text a. a) r s
  fault_settled ReadFault result r s = up_to_settled ReadFault result (λ text a. a) r s
  fault_settled NoRoom result r s = up_to_settled NoRoom result (λ text a. a) r s
