-- The first line of a trace.
use Rattle.std.proofs.Common.{◌≡◌, ℕ, suc, ◌<◌, ◌≤◌, List, [], ◌∷◌, ◌++◌, length, get_or, Option, Some, None, IfSome, refl, sym, ap, subst}
use Rattle.std.proofs.Common.{◌∙◌, arith, length-append}
use Rattle.std.specs.Fmt.{decimal}
use Rattle.std.proofs.lemmas.Fmt.{length-decimal-le}
use Rattle.ds_content.specs.Content.{ContentRecord}
use Rattle.ds_held.specs.Limits.{LimitsRecord, smaller}
use Rattle.line_io.specs.Lines.{HasLines, IsUnbroken, with_newline, joined}
use Rattle.line_io.specs.Reading.{LinesContent, no_lines}
use Rattle.line_io.specs.Pulling.{left}
use Rattle.line_io.proofs.InputLemmas.{has_lines}
use Rattle.trace_walk.specs.declared.header.Format.{Format}
use Rattle.trace_walk.specs.declared.header.Format.TheVariants.{One, Two}
use Rattle.trace_walk.specs.declared.header.Header.{Header}
use Rattle.trace_walk.specs.declared.verdict.Verdict.TheVariants as verdicts
use Rattle.trace_walk.specs.Legal.{IsTrace}
use Rattle.trace_walk.specs.Text.{IsHeader, FormatHas, HasNoHeader, header_text, format_text, numbers_text, limits_text}
use Rattle.trace_walk.specs.Verdict.{IsLegal, IsWrongAt, MayBegin, WantsReply, IsVerdict}
use Rattle.trace_walk.proofs.HeaderLemmas.{few_limits}
use Rattle.trace_walk.proofs.WalkLemmas.{header_after, bad_header}
use Rattle.trace_walk.specs.declared.fault.WalkFault.{WalkFault}
use Rattle.trace_walk.specs.declared.fault.WalkFault.TheVariants as faults
use Rattle.trace_walk.specs.declared.entry.EntryFault.{EntryFault}
use Rattle.trace_walk.specs.declared.entry.EntryFault.TheVariants as entries
use Rattle.trace_walk.specs.declared.wrong_line.Wanted.TheVariants.{Header as AHeader}
use Rattle.trace_walk.specs.Wanting.{IsWanted}
use Rattle.trace_walk.specs.Walking.{Spot, Walks, IsAt, IsRead, IsLongFault, HasLine, IsFault, of_entry, verdict_of}
use Rattle.trace_walk.proofs.FaultLemmas.{none_here}

-- a fault of a walk is its verdict
pub said_for : (start bytes : List ℕ) (fault : WalkFault) → IsFault start bytes fault → IsVerdict bytes (verdict_of fault)
said_for start bytes (faults.IllegalAt number) f = (f.0, f.1, f.2)
said_for start bytes (faults.BadLineAt number) f = (f.0, f.1, f.2)
said_for start bytes faults.ReadFault f = tt
said_for start bytes faults.NoRoom f = tt

-- if nothing is left, what was passed is legal
pub legal_at_end : (b : Spot) (l : LinesContent) (store : ContentRecord) (h : Header) (from : Option (List ℕ))
    → Walks b l store h from → (count : ℕ) → b.count ≡ count → (lines : List (List ℕ)) × HasLines b.bytes lines × (b.front ≡ joined lines)
    → IsVerdict b.bytes (verdicts.Legal count)
legal_at_end b l store h from w count is ends = (
  ends.0,
  ends.1,
  (
    h,
    w.past.entries,
    b.state,
    subst (λ (t : List ℕ). IsTrace t h w.past.entries b.state) ends.2 w.past.trace,
    w.past.counted ∙ is,
  ),
)

-- ---- the empty front

some_header : Header
some_header = record { format = One; incarnation = 0; first = 0; ring = 1; limits = smaller }

some_is : IsHeader some_header
unfolding some_header
some_is =
    record { incarnation = omega arith; first = omega arith; ring = record { some = omega arith; limit = omega arith }; limits = refl }

nothing_begins : MayBegin []
nothing_begins = let b = header_after some_header some_is in (header_text some_header, 0, (some_header, b.entries, _, b.trace, b.counted))

starts : (f : Format) (a b : List ℕ) → get_or ((format_text f ++ a) ++ b) 0 0 ≡ 116
starts One a b = refl
starts Two a b = refl

legal_starts : (text : List ℕ) (n : ℕ) → IsLegal text n → get_or text 0 0 ≡ 116
legal_starts text n l = ap (λ (t : List ℕ). get_or t 0 0) l.3.written ∙ starts l.0.format (numbers_text l.0) _

no_reply_first : ¬ WantsReply []
no_reply_first w = omega (arith, legal_starts (60 ∷ w.0) w.1 w.2)

nothing_illegal : (n : ℕ) → ¬ IsLegal [] n
nothing_illegal n l = omega (arith, legal_starts [] n l)

pub joined_none : (lines : List (List ℕ)) → [] ≡ joined lines → lines ≡ []
joined_none [] e = refl
joined_none (y ∷ ys) e = absurd (omega (arith, ap length e, length-append (with_newline y) (joined ys), length-append y (10 ∷ [])))

-- ---- a header is short

rest_short : (f : Format) (l : LimitsRecord) → FormatHas f l → length (limits_text f l) ≤ 44
rest_short One l has = omega arith
rest_short Two l has =
    let few = few_limits l has in
    omega (
      arith,
      length-append (decimal l.subs) (32 ∷ (decimal l.keys ++ 10 ∷ [])),
      length-append (decimal l.keys) (10 ∷ []),
      length-decimal-le 20 l.subs (omega arith) (omega (arith, few.0)) (omega (arith, few.0)),
      length-decimal-le 20 l.keys (omega arith) (omega (arith, few.1)) (omega (arith, few.1)),
    )

format_short : (f : Format) → length (format_text f) ≡ 8
format_short One = refl
format_short Two = refl

header_short : (h : Header) → IsHeader h → length (header_text h) ≤ 4097
header_short h is =
    let last : List ℕ = decimal h.ring ++ limits_text h.format h.limits in
    let mid : List ℕ = decimal h.first ++ 32 ∷ last in
    omega (
      arith,
      format_short h.format,
      length-append (format_text h.format) (numbers_text h),
      length-append (decimal h.incarnation) (32 ∷ mid),
      length-append (decimal h.first) (32 ∷ last),
      length-append (decimal h.ring) (limits_text h.format h.limits),
      rest_short h.format h.limits is.limits,
      length-decimal-le 20 h.incarnation (omega arith) (omega (arith, is.incarnation)) (omega (arith, is.incarnation)),
      length-decimal-le 20 h.first (omega arith) (omega (arith, is.first)) (omega (arith, is.first)),
      length-decimal-le 20 h.ring (omega arith) (omega (arith, is.ring.limit)) (omega (arith, is.ring.limit)),
    )

long_none : (line : List ℕ) → 4096 < length line → HasNoHeader (with_newline line)
long_none line long h is e = omega (arith, long, header_short h is, ap length e, length-append line (10 ∷ []))

-- ---- why no walk begins

-- the fault is the verdict, and a header must be there
abbrev pub WantsHeader : List ℕ → WalkFault → Type 0
WantsHeader bytes fault = IsFault [] bytes fault × IsWanted bytes AHeader fault

-- the first line isn't a header
pub wrong_first : (bytes line : List ℕ) (number : ℕ) (before more : List (List ℕ))
    → HasLines bytes (before ++ line ∷ more) → [] ≡ joined before → number ≡ suc (length before) → IsUnbroken line
    → HasNoHeader (with_newline line)
    → WantsHeader bytes (faults.BadLineAt number)
wrong_first bytes line number before more lines past counted whole none =
    let wrong : IsWrongAt bytes number [] = record {
      before = before;
      rest = line ∷ more;
      lines = lines;
      past = past;
      counted = counted;
      begins = nothing_begins;
      fails =
          bad_header line more whole none;
    } in
    (([], wrong, no_reply_first, none_here []), ([], wrong, refl))

pub line_wrong : (bytes line : List ℕ) (number : ℕ) (l : LinesContent) (to : Option (List ℕ)) → HasLine bytes [] line l to → number ≡ 1 →
    HasNoHeader (with_newline line) → WantsHeader bytes (faults.BadLineAt number)
line_wrong bytes line number l to h one none =
    wrong_first bytes line number h.before h.more h.lines h.front_is
    (one ∙ ap (λ (b : List (List ℕ)). suc (length b)) (sym (joined_none h.before h.front_is))) h.whole none

pub input_empty : (bytes : List ℕ) (number : ℕ) → IsRead bytes [] number → WantsHeader bytes (faults.BadLineAt 1)
input_empty bytes number r =
    let none : r.0 ≡ [] = joined_none r.0 r.2 in
    let wrong : IsWrongAt bytes 1 [] = record {
      before = [];
      rest = [];
      lines = subst (HasLines bytes) none r.1;
      past = refl;
      counted = refl;
      begins = nothing_begins;
      fails =
          nothing_illegal;
    } in
    (([], wrong, no_reply_first, none_here []), ([], wrong, refl))

pub first_fails : (bytes : List ℕ) (fault : EntryFault) → IsLongFault bytes [] fault → WantsHeader bytes (of_entry fault)
first_fails bytes (entries.BadLine number) l =
    wrong_first bytes l.line number l.before l.more l.lines l.front_is l.counted l.whole (long_none l.line l.long)
first_fails bytes entries.ReadFault l = (tt, tt)
first_fails bytes entries.NoRoom l = (tt, tt)

-- at the beginning nothing was passed
pub at_start : (bytes : List ℕ) (l : LinesContent) (from : Option (List ℕ)) → l ≡ no_lines → from ≡ Some bytes → IsAt bytes [] l from
at_start bytes l from e f =
    let h = has_lines bytes in
    record {
      before = [];
      after = h.0;
      rest = bytes;
      lines = h.1;
      past = h.1;
      left_is = ap (λ (x : LinesContent). left x from) e ∙ ap (λ (o : Option (List ℕ)). left no_lines o) f;
      front_is = refl;
      counted = ap (λ (x : LinesContent). x.count) e;
    }

-- nothing is claimed of an input whose bytes aren't known
pub by_known : (o : Option (List ℕ)) (P : List ℕ → Type 0) → ((bytes : List ℕ) → o ≡ Some bytes → P bytes) → IfSome o P
by_known None P all = tt
by_known (Some bytes) P all = all bytes refl

pub known_both : (o : Option (List ℕ)) (P Q S : List ℕ → Type 0) → IfSome o P → IfSome o Q →
    ((bytes : List ℕ) → P bytes → Q bytes → S bytes) → IfSome o S
known_both None P Q S h k all = tt
known_both (Some bytes) P Q S h k all = all bytes h k

pub known_then : (o : Option (List ℕ)) (P Q : List ℕ → Type 0) → IfSome o P → ((bytes : List ℕ) → P bytes → Q bytes) → IfSome o Q
known_then None P Q h all = tt
known_then (Some bytes) P Q h all = all bytes h
