-- An entry has one reading, and leads to one state.
use Rattle.std.proofs.Common.{◌≡◌, ◌≢◌, ℕ, suc, ◌<◌, ◌≤◌, List, [], ◌∷◌, ◌++◌, length, get_or, drop, None, refl, sym, ap, subst, ◌∙◌, arith}
use Rattle.std.proofs.Common.{append_assoc, append-nil, length-append}
use Rattle.std.specs.List.{All, flat_map}
use Rattle.std.specs.Fmt.{decimal}
use Rattle.std.proofs.lemmas.Grind.{flat_map-append}
use Rattle.std.proofs.lemmas.List.{append_cancel_left}
use Rattle.std.proofs.lemmas.List.Elements.{All-push}
use Rattle.std.proofs.lemmas.Option.{same_Some}
use Rattle.ds_entry.specs.declared.item.Item.{Item}
use Rattle.ds_held.specs.Limits.{LimitsRecord}
use Rattle.ds_line.specs.Part.{texts}
use Rattle.ds_line.proofs.ItemLemmas.{items_apart}
use Rattle.ds_machine.specs.State.{State}
use Rattle.ds_machine.specs.declared.command.Command.{Command}
use Rattle.ds_machine.specs.declared.command.Command.TheVariants as commands
use Rattle.script_commands.specs.Command.{command_parts, store_command}
use Rattle.script_answers.specs.Reply.{reply_lines}
use Rattle.script_commands.specs.declared.command.ScriptCommand.{ScriptCommand}
use Rattle.script_commands.specs.declared.command.ScriptCommand.TheVariants as lines
use Rattle.trace_walk.specs.declared.asked.Asked.{Asked}
use Rattle.trace_walk.specs.declared.asked.Asked.TheVariants.{Line, Merge}
use Rattle.trace_walk.specs.declared.header.Format.{Format}
use Rattle.trace_walk.specs.declared.header.Header.{Header}
use Rattle.trace_walk.specs.Legal.{StepOf, EntryLeads, AllLead, opened_by, IsTrace}
use Rattle.trace_walk.specs.OneReply.{IsTraced}
use Rattle.trace_walk.specs.Text.{TraceEntry, IsEntry, MayAsk, MayMerge, command_asked, worded_as, marked, asked_text, reply_text}
use Rattle.trace_walk.specs.Text.{entry_text, trace_text, header_text, pass_text, line_text, merge_text, plus_text}
use Rattle.trace_walk.specs.Verdict.{IsLegal}
use Rattle.trace_walk.specs.Walk.{MayComeAfter, EntriesLead}
use Rattle.trace_walk.proofs.AskedLemmas.{pass_one, same_command}
use Rattle.script_commands.proofs.CommandLemmas.{command_ends}
use Rattle.trace_walk.proofs.MarkLemmas.{marked_first, reply_begins}
use Rattle.trace_walk.proofs.NumberLemmas.{number_one}
use Rattle.trace_walk.proofs.OneReplyLemmas.{reply_is_one}
use Rattle.trace_walk.proofs.SplitLemmas.{lines_one}
use Rattle.trace_walk.proofs.TracedLemmas.{traced_stays}
use Rattle.trace_walk.proofs.WalkLemmas.{head_is, merge_ends}

-- ---- a command has one reading

-- no command of a store begins with `m`
pub no_merge_line : (c : ScriptCommand) (n : ℕ) → store_command c ≢ None → texts (command_parts c) ≡ merge_text n → ⊥
no_merge_line (lines.Offer i) n asks e = omega (arith, ap (λ (l : List ℕ). get_or l 0 0) e)
no_merge_line (lines.Store (commands.Merge items)) n asks e = omega (arith, ap (λ (l : List ℕ). get_or l 0 0) e)
no_merge_line (lines.Store asked) n asks e = omega (arith, ap (λ (l : List ℕ). get_or l 0 0) e)
no_merge_line _ n asks e = asks refl

line_short : (pass : ℕ) (c : ScriptCommand) → length (line_text pass c) ≤ 4097 → length (texts (command_parts c)) ≤ 4097
line_short pass c short = omega (arith, short, length-append (decimal pass) (32 ∷ texts (command_parts c)))

-- a Merge's first line, and what follows it
pub merge_head : (format : Format) (p q n : ℕ) (js : List Item) (r s : List ℕ)
    → p ≤ 63 → q ≤ 63 → n ≤ 256 → MayAsk format q (Merge js) → pass_text p (merge_text n) ++ r ≡ asked_text q (Merge js) ++ s
    → (n ≡ length js) × (r ≡ flat_map plus_text js ++ s)
merge_head format p q n js r s lp lq few may e =
    let one = lines_one (pass_text p (merge_text n)) (pass_text q (merge_text (length js))) r (flat_map plus_text js ++ s)
    (merge_ends p n lp few) (head_is format q (Merge js) lq may).1
    (e ∙ append_assoc (pass_text q (merge_text (length js))) (flat_map plus_text js) s) in
    let past = (pass_one p q (merge_text n) (merge_text (length js)) lp lq one.0).1 in
    ((number_one n (length js) 10 [] [] (omega (arith, few)) (omega (arith, may.0)) refl (ap (drop 6) past)).0, one.1)

-- no command's line is one
pub merge_not_line : (format : Format) (p q n : ℕ) (c : ScriptCommand) (r s : List ℕ) → p ≤ 63 → q ≤ 63 → n ≤ 256 →
    MayAsk format q (Line c) → pass_text p (merge_text n) ++ r ≡ line_text q c ++ s → ⊥
merge_not_line format p q n c r s lp lq few may e =
    let one = lines_one (pass_text p (merge_text n)) (line_text q c) r s (merge_ends p n lp few) (head_is format q (Line c) lq may).1 e in
    no_merge_line c n may.1 (sym (pass_one p q (merge_text n) (texts (command_parts c)) lp lq one.0).1)

-- the lines of items have one reading
items_one : (format : Format) (items others : List Item) (r s : List ℕ)
    → length items ≡ length others → All (MayMerge format) items → All (MayMerge format) others
    → flat_map plus_text items ++ r ≡ flat_map plus_text others ++ s
    → (items ≡ others) × (r ≡ s)
items_one format [] [] r s same a b e = (refl, e)
items_one format [] (j ∷ others) r s same a b e = absurd (omega (arith, same))
items_one format (i ∷ items) [] r s same a b e = absurd (omega (arith, same))
items_one format (i ∷ items) (j ∷ others) r s same a b e =
    let left = append_assoc (plus_text i) (flat_map plus_text items) r in
    let right = append_assoc (plus_text j) (flat_map plus_text others) s in
    let first = items_apart i j (flat_map plus_text items ++ r) (flat_map plus_text others ++ s) (a 0 i (omega arith)).0
    (b 0 j (omega arith)).0 (ap (drop 2) (sym left ∙ e ∙ right)) in
    let rest = items_one format items others r s (omega (arith, same)) (λ k d lt. a (suc k) d (omega (arith, lt)))
    (λ k d lt. b (suc k) d (omega (arith, lt))) first.1 in
    (ap (λ (x : Item). x ∷ items) first.0 ∙ ap (λ (l : List Item). j ∷ l) rest.0, rest.1)

-- a command, and what follows it
pub asked_one : (format : Format) (p q : ℕ) (a b : Asked) (r s : List ℕ) → p ≤ 63 → q ≤ 63 → MayAsk format p a → MayAsk format q b →
    asked_text p a ++ r ≡ asked_text q b ++ s → (a ≡ b) × (r ≡ s)
asked_one format p q (Line c) (Line d) r s lp lq may_a may_b e =
    let ends = head_is format p (Line c) lp may_a in
    let one = lines_one (line_text p c) (line_text q d) r s ends.1 (head_is format q (Line d) lq may_b).1 e in
    let past = (pass_one p q (texts (command_parts c)) (texts (command_parts d)) lp lq one.0).1 in
    let same = same_command c d (texts (command_parts c)) (command_ends c may_a.0) (line_short p c may_a.3) may_a.0 may_b.0 refl past in
    (ap (λ (x : ScriptCommand). Line x) same, one.1)
asked_one format p q (Line c) (Merge js) r s lp lq may_a may_b e =
    let one = lines_one (line_text p c) (pass_text q (merge_text (length js))) r (flat_map plus_text js ++ s)
    (head_is format p (Line c) lp may_a).1 (head_is format q (Merge js) lq may_b).1
    (e ∙ append_assoc (pass_text q (merge_text (length js))) (flat_map plus_text js) s) in
    absurd (no_merge_line c (length js) may_a.1 (pass_one p q (texts (command_parts c)) (merge_text (length js)) lp lq one.0).1)
asked_one format p q (Merge items) (Line d) r s lp lq may_a may_b e =
    let one = lines_one (pass_text p (merge_text (length items))) (line_text q d) (flat_map plus_text items ++ r) s
    (head_is format p (Merge items) lp may_a).1 (head_is format q (Line d) lq may_b).1
    (sym (append_assoc (pass_text p (merge_text (length items))) (flat_map plus_text items) r) ∙ e) in
    absurd (no_merge_line d (length items) may_b.1 (sym (pass_one p q (merge_text (length items)) (texts (command_parts d)) lp lq one.0).1))
asked_one format p q (Merge items) (Merge js) r s lp lq may_a may_b e =
    let one = merge_head format p q (length items) js (flat_map plus_text items ++ r) s lp lq may_a.0 may_b
    (sym (append_assoc (pass_text p (merge_text (length items))) (flat_map plus_text items) r) ∙ e) in
    let all = items_one format items js r s one.0 may_a.1 may_b.1 one.1 in
    (ap (λ (l : List Item). Merge l) all.0, all.1)

-- ---- where an entry leads

-- two entries from one state with one front lead to one state, and the same text follows them
pub one_entry : (format : Format) (limits : LimitsRecord) (e f : TraceEntry) (s t u : State) (r q : List ℕ)
    → IsTraced format s → IsEntry format e → IsEntry format f → EntryLeads format s e t → EntryLeads format s f u
    → entry_text limits e ++ r ≡ entry_text limits f ++ q
    → (t ≡ u) × (r ≡ q)
one_entry format limits e f s t u r q traced is_e is_f x y same =
    let asked = asked_one format e.pass f.pass e.asked f.asked (reply_text limits e ++ r) (reply_text limits f ++ q) is_e.pass is_f.pass
    is_e.asked is_f.asked
    (sym (append_assoc (asked_text e.pass e.asked) (reply_text limits e) r) ∙ same ∙
    append_assoc (asked_text f.pass f.asked) (reply_text limits f) q) in
    let command : x.0 ≡ y.0 = same_Some x.0 y.0 (sym x.1 ∙ ap (λ (a : Asked). command_asked a) asked.0 ∙ y.1) in
    let step : StepOf format s x.0 f.reply u = subst (λ (c : Command). StepOf format s c f.reply u) (sym command) y.2 in
    let text : reply_text limits f ≡ marked (reply_lines (worded_as e.asked) f.reply limits) =
    ap (λ (a : Asked). marked (reply_lines (worded_as a) f.reply limits)) (sym asked.0) in
    let front = asked.1 ∙ ap (λ (l : List ℕ). l ++ q) text in
    let first = marked_first (reply_lines (worded_as e.asked) e.reply limits) (reply_lines (worded_as e.asked) f.reply limits) r q
    (reply_begins (worded_as e.asked) e.reply limits) (reply_begins (worded_as e.asked) f.reply limits) front in
    let one = reply_is_one format limits e.pass e.asked x.0 s t u e.reply f.reply traced is_e.asked x.1 x.2 step first in
    (one.1, append_cancel_left (reply_text limits e) r q (front ∙ ap (λ (l : List ℕ). marked l ++ q) (sym one.0)))

-- ---- after one more entry

leads_more : (format : Format) (s t u : State) (entries : List TraceEntry) (e : TraceEntry) → AllLead format s entries t →
    EntryLeads format t e u → AllLead format s (entries ++ e ∷ []) u
leads_more format s t u [] e l x = (u, subst (λ (z : State). EntryLeads format z e u) l x, refl)
leads_more format s t u (f ∷ entries) e l x = (l.0, l.1, leads_more format l.0 t u entries e l.2 x)

text_more : (h : Header) (entries : List TraceEntry) (e : TraceEntry) →
    trace_text h entries ++ entry_text h.limits e ≡ trace_text h (entries ++ e ∷ [])
text_more h entries e =
    append_assoc (header_text h) (flat_map (entry_text h.limits) entries) (entry_text h.limits e)
    ∙ ap (λ (l : List ℕ). header_text h ++ l)
    (ap (λ (l : List ℕ). flat_map (entry_text h.limits) entries ++ l) (sym (append-nil (entry_text h.limits e))) ∙
    sym (flat_map-append (entry_text h.limits) entries (e ∷ [])))

-- a trace with one more entry is a trace
pub trace_more : (front : List ℕ) (h : Header) (entries : List TraceEntry) (e : TraceEntry) (s t : State)
    → IsTrace front h entries s → IsEntry h.format e → EntryLeads h.format s e t
    → IsTrace (front ++ entry_text h.limits e) h (entries ++ e ∷ []) t
trace_more front h entries e s t trace is x =
    record {
      header = trace.header;
      each = All-push (IsEntry h.format) entries e trace.each is;
      history = leads_more h.format (opened_by h) s t entries e trace.history x;
      written = ap (λ (l : List ℕ). l ++ entry_text h.limits e) trace.written ∙ text_more h entries e;
    }

pub asked_some : (pass : ℕ) (asked : Asked) → 0 < length (asked_text pass asked)
asked_some pass (Line c) = omega arith
asked_some pass (Merge items) = omega arith

goes_on : (format : Format) (limits : LimitsRecord) (s t : State) (e : TraceEntry) (more : List ℕ)
    → IsTraced format s → IsEntry format e → EntryLeads format s e t → (entries : List TraceEntry) (last : State)
    → All (IsEntry format) entries → AllLead format s entries last → entry_text limits e ++ more ≡ flat_map (entry_text limits) entries
    → MayComeAfter format limits t more
goes_on format limits s t e more traced is x [] last each l text =
    absurd
    (omega (
      arith,
      ap length text,
      length-append (entry_text limits e) more,
      length-append (asked_text e.pass e.asked) (reply_text limits e),
      asked_some e.pass e.asked,
    ))
goes_on format limits s t e more traced is x (f ∷ entries) last each l text =
    let one = one_entry format limits e f s t l.0 more (flat_map (entry_text limits) entries) traced is (each 0 f (omega arith)) x l.1
    text in (
      entries,
      last,
      λ k d lt. each (suc k) d (omega (arith, lt)),
      subst (λ (z : State). AllLead format z entries last) (sym one.0) l.2,
      one.1,
    )

pub entries_lead : EntriesLead
entries_lead front h s t count e b is x =
    record {
      entries = b.entries ++ e ∷ [];
      trace = trace_more front h b.entries e s t b.trace is x;
      counted = omega (arith, b.counted, length-append b.entries (e ∷ []));
      traced = traced_stays h.format e.pass e.asked x.0 s t e.reply b.traced is.asked x.1 x.2;
      only = λ more n legal.
          let g = b.only (entry_text h.limits e ++ more) n
          (subst (λ (l : List ℕ). IsLegal l n) (append_assoc front (entry_text h.limits e) more) legal) in
          goes_on h.format h.limits s t e more b.traced is x g.0 g.1 g.2 g.3 g.4;
    }
