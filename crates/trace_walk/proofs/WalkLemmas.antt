-- After an entry: what may follow, and why a `>` line that isn't an entry's is the first wrong one.
use Rattle.std.proofs.Common.{◌≡◌, ◌≢◌, ℕ, ◌<◌, ◌≤◌, ◌^◌, List, [], ◌∷◌, ◌++◌, length, get_or, codes, nat_lt, inl, refl, sym, ap, subst}
use Rattle.std.proofs.Common.{◌∙◌, arith, append_assoc, append-nil, length-append}
use Rattle.std.specs.List.{All, flat_map}
use Rattle.std.specs.Fmt.{decimal}
use Rattle.std.proofs.lemmas.Fmt.{length-decimal-le_succ}
use Rattle.std.proofs.lemmas.List.Elements.{All-nil}
use Rattle.ds_entry.specs.declared.item.Item.TheVariants.{Floor as Floored}
use Rattle.ds_entry.proofs.Members.{Contains-nil}
use Rattle.ds_held.specs.Limits.{LimitsRecord, IsLimits}
use Rattle.line_io.specs.Lines.{EndsLine, with_newline, joined}
use Rattle.ds_line.specs.Part.{texts}
use Rattle.ds_line.proofs.NewlineLemmas.{Unbroken, unbroken_decimal, unbroken_one, unbroken_run}
use Rattle.ds_machine.specs.State.{State}
use Rattle.ds_machine.proofs.WithinLemmas.{opening_is_within}
use Rattle.script_commands.specs.Command.{command_parts}
use Rattle.trace_walk.specs.declared.asked.Asked.{Asked}
use Rattle.trace_walk.specs.declared.asked.Asked.TheVariants as askeds
use Rattle.trace_walk.specs.declared.asked.Head.{Head}
use Rattle.trace_walk.specs.declared.asked.Head.TheVariants.{Line, Merge}
use Rattle.trace_walk.specs.declared.header.Format.{Format}
use Rattle.trace_walk.specs.declared.header.Format.TheVariants.{One, Two}
use Rattle.trace_walk.specs.declared.header.Header.{Header}
use Rattle.trace_walk.specs.Text.{TraceEntry, IsEntry, IsHeader, FormatHas, limits_text, numbers_text, format_text, MayAsk, asked_text}
use Rattle.trace_walk.specs.Text.{reply_text, entry_text, header_text, pass_text, merge_text, plus_text}
use Rattle.trace_walk.specs.Head.{head_text, IsHeadOf}
use Rattle.trace_walk.specs.Legal.{IsTrace, opened_by}
use Rattle.trace_walk.specs.OneReply.{KeepsFloors, IsTraced}
use Rattle.trace_walk.specs.Verdict.{IsLegal, MayBegin}
use Rattle.trace_walk.specs.Walk.{MayComeAfter, IsAfterEntries, BadHeadsAreWrong, NoReplyAfterEntries, HeadersBegin, BadHeadersAreWrong}
use Rattle.ds_machine.proofs.ReachedLemmas.{opening_is_reached}
use Rattle.script_commands.proofs.CommandLemmas.{command_ends}
use Rattle.trace_walk.proofs.HeaderLemmas.{few_limits, header_one}
use Rattle.trace_walk.proofs.SplitLemmas.{lines_one, ends_after}

-- ---- the first line of an entry

two_unbroken : (a b : ℕ) → a ≢ 10 → b ≢ 10 → Unbroken (a ∷ b ∷ [])
two_unbroken a b na nb = unbroken_one a (b ∷ []) na (unbroken_one b [] nb (All-nil (λ (x : ℕ). x ≢ 10)))

pass_line : (pass : ℕ) (past : List ℕ) → pass ≤ 63 → EndsLine past → EndsLine (pass_text pass past)
pass_line pass past le e =
    ends_after (62 ∷ 32 ∷ []) (decimal pass ++ 32 ∷ past) (two_unbroken 62 32 (λ same. omega (arith, same)) (λ same. omega (arith, same)))
    (ends_after (decimal pass) (32 ∷ past) (unbroken_decimal pass (omega (arith, le)))
    (ends_after (32 ∷ []) past (unbroken_one 32 [] (λ same. omega (arith, same)) (All-nil (λ (x : ℕ). x ≢ 10))) e))

merge_line : (count : ℕ) → count ≤ 256 → EndsLine (merge_text count)
merge_line count le =
    record {
      front = 109 ∷ 101 ∷ 114 ∷ 103 ∷ 101 ∷ 32 ∷ decimal count;
      parts = refl;
      none = unbroken_one 109 (101 ∷ 114 ∷ 103 ∷ 101 ∷ 32 ∷ decimal count) (λ same. omega (arith, same))
          (unbroken_one 101 (114 ∷ 103 ∷ 101 ∷ 32 ∷ decimal count) (λ same. omega (arith, same))
          (unbroken_one 114 (103 ∷ 101 ∷ 32 ∷ decimal count) (λ same. omega (arith, same))
          (unbroken_one 103 (101 ∷ 32 ∷ decimal count) (λ same. omega (arith, same))
          (unbroken_one 101 (32 ∷ decimal count) (λ same. omega (arith, same))
          (unbroken_one 32 (decimal count) (λ same. omega (arith, same)) (unbroken_decimal count (omega (arith, le))))))));
    }

pub merge_ends : (pass count : ℕ) → pass ≤ 63 → count ≤ 256 → EndsLine (pass_text pass (merge_text count))
merge_ends pass count le few = pass_line pass (merge_text count) le (merge_line count few)

merge_short : (pass count : ℕ) → pass ≤ 63 → count ≤ 256 → length (pass_text pass (merge_text count)) ≤ 4097
merge_short pass count le few =
    omega (
      arith,
      le,
      few,
      length-decimal-le_succ pass (omega (arith, le)),
      length-decimal-le_succ count (omega (arith, few)),
      length-append
          (decimal pass) (32 ∷ merge_text count),
      length-append (decimal count) (10 ∷ []),
    )

-- the first line of a command
abbrev pub head_of : Asked → Head
head_of (askeds.Line c) = Line c
head_of (askeds.Merge items) = Merge (length items)

-- what follows that line
abbrev pub after_head : LimitsRecord → TraceEntry → Asked → List ℕ
after_head limits e (askeds.Line c) = reply_text limits e
after_head limits e (askeds.Merge items) = flat_map plus_text items ++ reply_text limits e

pub entry_splits : (limits : LimitsRecord) (e : TraceEntry) (asked : Asked) →
    asked_text e.pass asked ++ reply_text limits e ≡ head_text e.pass (head_of asked) ++ after_head limits e asked
entry_splits limits e (askeds.Line c) = refl
entry_splits limits e (askeds.Merge items) =
    append_assoc (pass_text e.pass (merge_text (length items))) (flat_map plus_text items) (reply_text limits e)

pub head_is : (format : Format) (pass : ℕ) (asked : Asked)
    → pass ≤ 63 → MayAsk format pass asked
    → IsHeadOf format pass (head_of asked) (head_text pass (head_of asked)) ×
    EndsLine (head_text pass (head_of asked)) × (length (head_text pass (head_of asked)) ≤ 4097)
head_is format pass (askeds.Line c) le may =
    ((le, (may.0, may.1, may.2), refl), pass_line pass (texts (command_parts c)) le (command_ends c may.0), may.3)
head_is format pass (askeds.Merge items) le may = (
  (le, may.0, refl),
  pass_line pass (merge_text (length items)) le (merge_line (length items) may.0),
  merge_short pass (length items) le
      may.0,
)

-- ---- after an entry

-- the front begins a legal trace: itself
pub after_begins : (front : List ℕ) (h : Header) (s : State) (count : ℕ) → IsAfterEntries front h s count → MayBegin front
after_begins front h s count b =
    ([], count, (h, b.entries, s, subst (λ (t : List ℕ). IsTrace t h b.entries s) (sym (append-nil front)) b.trace, b.counted))

head_first : (pass : ℕ) (head : Head) (r s : List ℕ) → get_or ((head_text pass head ++ r) ++ s) 0 0 ≡ 62
head_first pass (Line c) r s = refl
head_first pass (Merge count) r s = refl

-- what comes there begins with `>`
first_by : (limits : LimitsRecord) (entries : List TraceEntry) (b : ℕ) (more : List ℕ) → b ∷ more ≡ flat_map (entry_text limits) entries →
    b ≡ 62
first_by limits [] b more text = absurd (omega (arith, ap length text))
first_by limits (e ∷ entries) b more text =
    ap (λ (l : List ℕ). get_or l 0 0)
    (text ∙ ap (λ (l : List ℕ). l ++ flat_map (entry_text limits) entries) (entry_splits limits e e.asked))
    ∙ head_first e.pass (head_of e.asked) (after_head limits e e.asked) (flat_map (entry_text limits) entries)

goes_first : (format : Format) (limits : LimitsRecord) (s : State) (b : ℕ) (more : List ℕ) → MayComeAfter format limits s (b ∷ more) →
    b ≡ 62
goes_first format limits s b more g = first_by limits g.0 b more g.4

-- no reply line may follow
pub no_reply : NoReplyAfterEntries
no_reply front h s count b w =
    let goes = b.only (60 ∷ w.0) w.1 (subst (λ (t : List ℕ). IsLegal t w.1) (append_assoc front (60 ∷ []) w.0) w.2) in
    omega (arith, goes_first h.format h.limits s 60 w.0 goes)

-- what comes there begins with the first line of an entry
abbrev HasHead : Format → List ℕ → Type 0
HasHead format line = (pass : ℕ) × (head : Head) × IsHeadOf format pass head line × (length line ≤ 4097)

head_by : (format : Format) (limits : LimitsRecord) (entries : List TraceEntry) (line more : List ℕ) → All (IsEntry format) entries →
    EndsLine line → line ++ more ≡ flat_map (entry_text limits) entries → HasHead format line
head_by format limits [] line more each ends text =
    absurd (omega (arith, ap length text, length-append line more, ap length ends.parts, length-append ends.front (10 ∷ [])))
head_by format limits (e ∷ entries) line more each ends text =
    let is : IsEntry format e = each 0 e (omega arith) in
    let h = head_is format e.pass e.asked is.pass is.asked in
    let split =
    text ∙ ap (λ (l : List ℕ). l ++ flat_map (entry_text limits) entries) (entry_splits limits e e.asked) ∙
    append_assoc (head_text e.pass (head_of e.asked)) (after_head limits e e.asked) (flat_map (entry_text limits) entries) in
    let one = lines_one line (head_text e.pass (head_of e.asked)) more
    (after_head limits e e.asked ++ flat_map (entry_text limits) entries) ends h.1 split in (
      e.pass,
      head_of e.asked,
      subst (IsHeadOf format e.pass (head_of e.asked)) (sym one.0) h.0,
      subst (λ (l : List ℕ). length l ≤ 4097)
          (sym one.0) h.2,
    )

goes_head : (format : Format) (limits : LimitsRecord) (s : State) (line more : List ℕ) → EndsLine line →
    MayComeAfter format limits s (line ++ more) → HasHead format line
goes_head format limits s line more ends g = head_by format limits g.0 line more g.2 ends g.4

-- a line that is too long, or isn't the first line of an entry, is wrong there
pub bad_head : BadHeadsAreWrong
bad_head front line rest h s count b whole none begins =
    let e : EndsLine (with_newline line) = record { front = line; parts = refl; none = whole } in
    let one : front ++ joined (line ∷ []) ≡ front ++ with_newline line = ap (λ (l : List ℕ). front ++ l) (append-nil (with_newline line)) in
    let legal = subst (λ (t : List ℕ). IsLegal t begins.1)
    (ap (λ (l : List ℕ). l ++ begins.0) one ∙ append_assoc front (with_newline line) begins.0) begins.2 in
    let g = goes_head h.format h.limits s (with_newline line) begins.0 e (b.only (with_newline line ++ begins.0) begins.1 legal) in
    none g.3 g.0 g.1 g.2

-- ---- the header

number_line : (n stop : ℕ) (rest : List ℕ) → n < 2 ^ 64 → stop ≢ 10 → EndsLine rest → EndsLine (decimal n ++ stop ∷ rest)
number_line n stop rest few other e = ends_after (decimal n) (stop ∷ rest) (unbroken_decimal n few)
    (ends_after (stop ∷ []) rest (unbroken_one stop [] other (All-nil (λ (x : ℕ). x ≢ 10))) e)

last_number : (n : ℕ) → n < 2 ^ 64 → EndsLine (decimal n ++ 10 ∷ [])
last_number n few = record { front = decimal n; parts = refl; none = unbroken_decimal n few }

ring_line : (f : Format) (ring : ℕ) (limits : LimitsRecord) → ring ≤ 4096 → FormatHas f limits →
    EndsLine (decimal ring ++ limits_text f limits)
ring_line One ring limits le has = last_number ring (omega (arith, le))
ring_line Two ring limits le has =
    let few = few_limits limits has in
    number_line ring 32 (decimal limits.subs ++ 32 ∷ (decimal limits.keys ++ 10 ∷ [])) (omega (arith, le)) (λ same. omega (arith, same))
    (number_line limits.subs 32 (decimal limits.keys ++ 10 ∷ []) (omega (arith, few.0)) (λ same. omega (arith, same))
    (last_number limits.keys (omega (arith, few.1))))

numbers_line : (h : Header) → IsHeader h → EndsLine (numbers_text h)
numbers_line h is =
    number_line h.incarnation 32 (decimal h.first ++ 32 ∷ (decimal h.ring ++ limits_text h.format h.limits)) is.incarnation
    (λ same. omega (arith, same))
    (number_line h.first 32 (decimal h.ring ++ limits_text h.format h.limits) (omega (arith, is.first)) (λ same. omega (arith, same))
    (ring_line h.format h.ring h.limits is.ring.limit is.limits))

format_unbroken : (f : Format) → Unbroken (format_text f)
format_unbroken One = unbroken_run (λ (b : ℕ). nat_lt 10 b) refl (codes "trace 1 ") refl
format_unbroken Two = unbroken_run (λ (b : ℕ). nat_lt 10 b) refl (codes "trace 2 ") refl

header_line : (h : Header) → IsHeader h → EndsLine (header_text h)
header_line h is = ends_after (format_text h.format) (numbers_text h) (format_unbroken h.format) (numbers_line h is)

-- the state that it opens is one of the machine's, and nothing was accepted
pub limits_are : (f : Format) (l : LimitsRecord) → FormatHas f l → IsLimits l
limits_are One l has = inl has
limits_are Two l has = has

opened_floors : (f : Format) (h : Header) → KeepsFloors f (opened_by h)
opened_floors One h = λ g k. Contains-nil (Floored g) k
opened_floors Two h = tt

opened_traced : (h : Header) → IsHeader h → IsTraced h.format (opened_by h)
opened_traced h is =
    record {
      reached = opening_is_reached h.incarnation h.first h.ring h.limits (limits_are h.format h.limits is.limits);
      items = λ i k. absurd (Contains-nil i k);
      floors = opened_floors h.format h;
      within = opening_is_within h.incarnation h.first h.ring h.limits is.first;
      incarnation = is.incarnation;
    }

-- a header alone is a legal trace, and what begins with it continues from the state that it opens
pub header_after : HeadersBegin
header_after h is =
    record {
      entries = [];
      trace = record { header = is; each = All-nil (IsEntry h.format); history = refl; written = sym (append-nil (header_text h)) };
      counted = refl;
      traced = opened_traced h is;
      only = λ more n legal.
          let t = legal.3 in
          let one = lines_one (header_text h) (header_text legal.0) more (flat_map (entry_text legal.0.limits) legal.1) (header_line h is)
          (header_line legal.0 t.header) t.written in
          let same : h ≡ legal.0 = header_one h legal.0 is t.header one.0 in
          subst (λ (k : Header). MayComeAfter k.format k.limits (opened_by k) more) (sym same) (legal.1, legal.2, t.each, t.history, one.1);
    }

-- a line that isn't a header is wrong there
pub bad_header : BadHeadersAreWrong
bad_header line rest whole none begins =
    let e : EndsLine (with_newline line) = record { front = line; parts = refl; none = whole } in
    let legal = begins.2 in
    let t = legal.3 in
    let split : with_newline line ++ begins.0 ≡ header_text legal.0 ++ flat_map (entry_text legal.0.limits) legal.1 =
    ap (λ (l : List ℕ). l ++ begins.0) (sym (append-nil (with_newline line))) ∙ t.written in
    let one = lines_one (with_newline line) (header_text legal.0) begins.0 (flat_map (entry_text legal.0.limits) legal.1) e
    (header_line legal.0 t.header) split in
    none legal.0 t.header one.0
