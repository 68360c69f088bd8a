-- The trace so far, and one more entry.
use Rattle.std.proofs.Common.{◌≡◌, ℕ, suc, List, [], ◌∷◌, ◌++◌, refl, sym, ap, subst, ◌∙◌, arith, append_assoc, append-nil, length-append}
use Rattle.std.specs.List.{flat_map}
use Rattle.std.proofs.lemmas.Grind.{flat_map-append}
use Rattle.std.proofs.lemmas.List.Elements.{All-nil, All-push}
use Rattle.ds_feed.specs.Kept.{IsRing}
use Rattle.ds_machine.specs.State.{State}
use Rattle.trace_walk.specs.declared.header.Format.{Format}
use Rattle.trace_walk.specs.declared.header.Header.{Header}
use Rattle.trace_walk.specs.Legal.{EntryLeads, AllLead, opened_by}
use Rattle.trace_walk.specs.Text.{TraceEntry, FormatHas, IsEntry, IsHeader, asked_text, entry_text, header_text, trace_text}
use Rattle.trace_walk.proofs.TracedLemmas.{traced_stays}
use Rattle.trace_walk.proofs.WalkLemmas.{header_after}
use Rattle.trace_record.specs.declared.form.Form.{Form}
use Rattle.trace_record.specs.declared.form.Form.TheVariants.{One, Two}
use Rattle.trace_record.specs.Asking.{asked_by}
use Rattle.trace_record.specs.Record.{header_of}
use Rattle.trace_record.specs.Stepping.{AllAnswered, EntryAnswered, IsLastOf}
use Rattle.trace_record.specs.Steps.{Recorded}
use Rattle.trace_record.proofs.AskingLemmas.{ask_more}

-- ---- the header

pub header_is : (form : Form) (ring : ℕ) → IsRing ring → FormatHas (header_of form ring).format (header_of form ring).limits →
    IsHeader (header_of form ring)
header_is One ring r l = record { incarnation = omega arith; first = omega arith; ring = r; limits = l }
header_is (Two limits) ring r l = record { incarnation = omega arith; first = omega arith; ring = r; limits = l }

-- it is the trace of nothing
pub recorded_none : (h : Header) → IsHeader h → Recorded h (header_text h) [] (opened_by h) 0
recorded_none h is =
    let b = header_after h is in
    record {
      entries = [];
      asks = refl;
      trace = record { header = is; each = All-nil (IsEntry h.format); history = refl; written = sym (append-nil (header_text h)) };
      answered = refl;
      traced = b.traced;
      counted = refl;
    }

-- ---- one more entry

lead_more : (format : Format) (entries : List TraceEntry) (e : TraceEntry) (s t u : State) → AllLead format s entries t →
    EntryLeads format t e u → AllLead format s (entries ++ e ∷ []) u
lead_more format [] e s t u l x = (u, subst (λ (z : State). EntryLeads format z e u) l x, refl)
lead_more format (f ∷ entries) e s t u l x = (l.0, l.1, lead_more format entries e l.0 t u l.2 x)

answered_more : (format : Format) (entries : List TraceEntry) (e : TraceEntry) (s t u : State) → AllAnswered format s entries t →
    EntryAnswered format t e u → AllAnswered format s (entries ++ e ∷ []) u
answered_more format [] e s t u l x = (u, subst (λ (z : State). EntryAnswered format z e u) l x, refl)
answered_more format (f ∷ entries) e s t u l x = (l.0, l.1, answered_more format entries e l.0 t u l.2 x)

written_more : (h : Header) (entries : List TraceEntry) (e : TraceEntry) →
    trace_text h (entries ++ e ∷ []) ≡ trace_text h entries ++ entry_text h.limits e
written_more h entries e =
    ap (λ (l : List ℕ). header_text h ++ l) (flat_map-append (entry_text h.limits) entries (e ∷ []) ∙
    ap (λ (l : List ℕ). flat_map (entry_text h.limits) entries ++ l) (append-nil (entry_text h.limits e)))
    ∙ sym (append_assoc (header_text h) (flat_map (entry_text h.limits) entries) (entry_text h.limits e))

pub recorded_more : (h : Header) (text asking more : List ℕ) (s t : State) (count : ℕ) (e : TraceEntry) → Recorded h text asking s count →
    IsEntry h.format e → (x : EntryLeads h.format s e t) → IsLastOf h.format s x.0 e.reply
    → asked_by more ≡ asked_text e.pass e.asked →
    Recorded h (text ++ entry_text h.limits e) (asking ++ more) t (suc count)
recorded_more h text asking more s t count e r is x last asks =
    record {
      entries = r.entries ++ e ∷ [];
      asks = ask_more asking more r.entries e r.asks asks;
      trace = record {
        header = r.trace.header;
        each = All-push (IsEntry h.format) r.entries e r.trace.each is;
        history = lead_more h.format r.entries e (opened_by h) s t r.trace.history x;
        written = ap (λ (l : List ℕ). l ++ entry_text h.limits e) r.trace.written ∙ sym (written_more h r.entries e);
      };
      answered = answered_more h.format r.entries e (opened_by h) s t r.answered (x.0, x.1, x.2, last);
      traced = traced_stays h.format e.pass e.asked x.0 s t e.reply r.traced is.asked x.1 x.2;
      counted = omega (arith, r.counted, length-append r.entries (e ∷ []));
    }
