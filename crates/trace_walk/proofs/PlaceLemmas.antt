-- The places within an entry.
use Rattle.std.proofs.Common.{◌≡◌, ◌≢◌, ℕ, suc, ◌-◌, ◌<◌, ◌≤◌, true, false, List, [], ◌∷◌, ◌++◌, length, get_or, drop, replicate, nat_lt}
use Rattle.std.proofs.Common.{Option, None, Some, inl, inr}
use Rattle.std.proofs.Common.{refl, sym, ap, subst, ◌∙◌, arith, append_assoc, append-nil, length-append}
use Rattle.std.specs.List.{All, flat_map}
use Rattle.std.proofs.lemmas.Grind.{flat_map-append}
use Rattle.std.proofs.lemmas.Option.{same_Some}
use Rattle.std.proofs.lemmas.List.{append_cancel_left, length-replicate}
use Rattle.std.proofs.lemmas.List.Elements.{All-append, All-replicate}
use Rattle.ds_names.specs.declared.kind.Kind.TheVariants.{U32}
use Rattle.ds_entry.specs.Change.{change_of}
use Rattle.ds_names.specs.Name.{rs_name}
use Rattle.ds_entry.specs.Item.{IsItem}
use Rattle.ds_entry.specs.declared.body.Body.TheVariants.{Gone}
use Rattle.ds_entry.specs.declared.item.Item.{Item}
use Rattle.ds_entry.specs.declared.item.Item.TheVariants.{Change as Changed}
use Rattle.ds_held.specs.Limits.{LimitsRecord}
use Rattle.line_io.specs.Lines.{EndsLine, with_newline, IsUnbroken, joined}
use Rattle.ds_line.proofs.ItemLemmas.{items_apart, item_ends}
use Rattle.ds_line.proofs.LabelLemmas.{rs_is_name}
use Rattle.ds_machine.specs.State.{State}
use Rattle.ds_machine.specs.declared.command.Command.{Command}
use Rattle.ds_machine.specs.declared.command.Command.TheVariants as commands
use Rattle.ds_machine.specs.declared.refusal.Refusal.TheVariants as refusals
use Rattle.ds_machine.specs.declared.reply.Reply.{Reply}
use Rattle.ds_machine.specs.declared.reply.Reply.TheVariants.{Refused}
use Rattle.script_commands.specs.Command.{store_command}
use Rattle.script_answers.specs.Reply.{reply_lines}
use Rattle.script_answers.specs.declared.wording.Wording.TheVariants.{AsMerge}
use Rattle.trace_walk.specs.declared.asked.Asked.{Asked}
use Rattle.trace_walk.specs.declared.asked.Asked.TheVariants.{Line, Merge}
use Rattle.trace_walk.specs.declared.header.Format.{Format}
use Rattle.trace_walk.specs.declared.header.Format.TheVariants.{One, Two}
use Rattle.trace_walk.specs.declared.header.Header.{Header}
use Rattle.trace_walk.specs.Legal.{StepOf, EntryLeads, AllLead}
use Rattle.trace_walk.specs.OneReply.{HaveOneFirst, IsTraced}
use Rattle.trace_walk.specs.Text.{TraceEntry, IsEntry, MayAsk, MayMerge, command_asked, worded_as, marked, asked_text, reply_text}
use Rattle.trace_walk.specs.Text.{entry_text, pass_text, merge_text, plus_text}
use Rattle.trace_walk.specs.Verdict.{IsLegal, MayBegin, WantsReply, Fails}
use Rattle.trace_walk.specs.Walk.{MayComeAfter, IsAfterEntries, IsPlaceInEntry, NoneEnds, IsPlus, PlusPlaces, MayReply, ReplyPlaces}
use Rattle.trace_walk.specs.Walk.{WithinReplies}
use Rattle.trace_walk.proofs.EntryLemmas.{asked_one, asked_some, merge_head, merge_not_line, one_entry, entries_lead}
use Rattle.trace_walk.proofs.MarkLemmas.{BeginsLine, begins_line, marked_first, marked_line, marked_append, reply_begins}
use Rattle.trace_walk.proofs.OneReplyLemmas.{reply_is_one}
use Rattle.trace_walk.proofs.SplitLemmas.{lines_one, without, ends_after}

-- ---- legal traces and their fronts

legal_after : (front : List ℕ) (h : Header) (s : State) (count : ℕ) → IsAfterEntries front h s count → IsLegal front count
legal_after front h s count b = (h, b.entries, s, b.trace, b.counted)

begins_by : (front more whole : List ℕ) (n : ℕ) → IsLegal whole n → whole ≡ front ++ more → MayBegin front
begins_by front more whole n legal e = (more, n, subst (λ (l : List ℕ). IsLegal l n) e legal)

-- what may come at a front
abbrev Only : List ℕ → (List ℕ → Type 0) → Type 0
Only front Next = (more : List ℕ) (n : ℕ) → IsLegal (front ++ more) n → Next more

-- a line that is there begins what may come
wrong_by : (front : List ℕ) (Next May : List ℕ → Type 0)
    → Only front Next → ((line more : List ℕ) → IsUnbroken line → Next (with_newline line ++ more) → May (with_newline line))
    → (line : List ℕ) (rest : List (List ℕ)) → IsUnbroken line → ¬ May (with_newline line)
    → Fails front (line ∷ rest)
wrong_by front Next May only first line rest whole none begins =
    let one : front ++ joined (line ∷ []) ≡ front ++ with_newline line = ap (λ (l : List ℕ). front ++ l) (append-nil (with_newline line)) in
    let legal = subst (λ (t : List ℕ). IsLegal t begins.1)
    (ap (λ (l : List ℕ). l ++ begins.0) one ∙ append_assoc front (with_newline line) begins.0) begins.2 in
    none (first line begins.0 whole (only (with_newline line ++ begins.0) begins.1 legal))

ends_by : (front : List ℕ) (Next : List ℕ → Type 0) → Only front Next → ¬ Next [] → (n : ℕ) → ¬ IsLegal front n
ends_by front Next only none n legal = none (only [] n (subst (λ (l : List ℕ). IsLegal l n) (sym (append-nil front)) legal))

not_wanted : (front : List ℕ) (Next : List ℕ → Type 0) → Only front Next → ((more : List ℕ) → ¬ Next (60 ∷ more)) → ¬ WantsReply front
not_wanted front Next only none w = none w.0
    (only (60 ∷ w.0) w.1 (subst (λ (t : List ℕ). IsLegal t w.1) (append_assoc front (60 ∷ []) w.0) w.2))

wanted : (front more whole : List ℕ) (n : ℕ) → IsLegal whole n → whole ≡ front ++ 60 ∷ more → WantsReply front
wanted front more whole n legal e = (more, n, subst (λ (l : List ℕ). IsLegal l n) (e ∙ sym (append_assoc front (60 ∷ []) more)) legal)

-- ---- the first entry of what comes

pub record FirstEntry (format : Format) (limits : LimitsRecord) (s : State) (text : List ℕ) : Type 0 where
  pub entry : TraceEntry
  pub is : IsEntry format entry
  pub new : State
  pub leads : EntryLeads format s entry new
  pub rest : List ℕ
  pub text_is : text ≡ entry_text limits entry ++ rest
  pub goes : MayComeAfter format limits new rest

first_entry : (format : Format) (limits : LimitsRecord) (s : State) (text : List ℕ)
    → 0 < length text → (entries : List TraceEntry) (last : State) → All (IsEntry format) entries → AllLead format s entries last
    → text ≡ flat_map (entry_text limits) entries
    → FirstEntry format limits s text
first_entry format limits s text some [] last each l e = absurd (omega (arith, some, ap length e))
first_entry format limits s text some (f ∷ entries) last each l e =
    record {
      entry = f;
      is = each 0 f (omega arith);
      new = l.0;
      leads = l.1;
      rest = flat_map (entry_text limits) entries;
      text_is = e;
      goes = (entries, last, λ k d lt. each (suc k) d (omega (arith, lt)), l.2, refl);
    }

first_goes : (format : Format) (limits : LimitsRecord) (s : State) (text : List ℕ) → 0 < length text → MayComeAfter format limits s text →
    FirstEntry format limits s text
first_goes format limits s text some g = first_entry format limits s text some g.0 g.1 g.2 g.3 g.4

-- ---- an entry for which memory runs out is always legal

pub wants_step : (format : Format) (s : State) (command : Command) → StepOf format s command (Refused refusals.NoRoom) s
wants_step Two s command = inl (inr (record { reply_is = refl; state_is = refl }))
wants_step One s (commands.Sweep caller owner generation) = inr (record { reply_is = refl; state_is = refl })
wants_step One s (commands.Publish caller key version value overwrite) = inl (inr (record { reply_is = refl; state_is = refl }))
wants_step One s (commands.Delete caller key version) = inl (inr (record { reply_is = refl; state_is = refl }))
wants_step One s (commands.Retrieve key) = inl (inr (record { reply_is = refl; state_is = refl }))
wants_step One s (commands.NameOf endpoint) = inl (inr (record { reply_is = refl; state_is = refl }))
wants_step One s (commands.Subscribe sub query initial overwrite) = inl (inr (record { reply_is = refl; state_is = refl }))
wants_step One s (commands.Check sub max) = inl (inr (record { reply_is = refl; state_is = refl }))
wants_step One s (commands.Since scope at max) = inl (inr (record { reply_is = refl; state_is = refl }))
wants_step One s (commands.Snapshot scope) = inl (inr (record { reply_is = refl; state_is = refl }))
wants_step One s (commands.Page scope after max) = inl (inr (record { reply_is = refl; state_is = refl }))
wants_step One s (commands.Merge items) = inl (inr (record { reply_is = refl; state_is = refl }))

some_of : {X : Type 0} (o : Option X) → o ≢ None → (x : X) × (o ≡ Some x)
some_of None n = absurd (n refl)
some_of (Some x) n = (x, refl)

pub asks_some : (format : Format) (pass : ℕ) (asked : Asked) → MayAsk format pass asked →
    (command : Command) × (command_asked asked ≡ Some command)
asks_some format pass (Line c) may = some_of (store_command c) may.1
asks_some format pass (Merge items) may = (commands.Merge items, refl)

abbrev pub wanting : ℕ → Asked → TraceEntry
wanting pass asked = record { pass = pass; asked = asked; reply = Refused refusals.NoRoom }

-- so a legal trace may have every command there
legal_wanting : (front : List ℕ) (h : Header) (s : State) (count pass : ℕ) (asked : Asked) → IsAfterEntries front h s count → pass ≤ 63 →
    MayAsk h.format pass asked → IsLegal (front ++ entry_text h.limits (wanting pass asked)) (suc count)
legal_wanting front h s count pass asked b le may =
    let c = asks_some h.format pass asked may in
    legal_after (front ++ entry_text h.limits (wanting pass asked)) h s (suc count)
    (entries_lead front h s s count (wanting pass asked) b (record { pass = le; asked = may }) (c.0, c.1, wants_step h.format s c.0))

-- ---- no legal trace ends within an entry

-- the marked form of a text that begins with a line
marked_starts : (text rest : List ℕ) (b : BeginsLine text) →
    marked text ++ rest ≡ (60 ∷ 32 ∷ (b.front ++ 10 ∷ [])) ++ (marked b.rest ++ rest)
marked_starts text rest b =
    ap (λ (l : List ℕ). l ++ rest) (ap (λ (l : List ℕ). marked l) b.is ∙ marked_line b.front b.rest b.whole)
    ∙ ap (λ (l : List ℕ). 60 ∷ 32 ∷ l) (append_assoc b.front (10 ∷ marked b.rest) rest ∙
    sym (append_assoc b.front (10 ∷ []) (marked b.rest ++ rest)))

marked_some : (text : List ℕ) → BeginsLine text → 0 < length (marked text)
marked_some text b = omega (arith, ap length (sym (append-nil (marked text)) ∙ marked_starts text [] b))

-- what comes before the end of an entry isn't whole entries
none_whole : (format : Format) (limits : LimitsRecord) (s t : State) (e : TraceEntry) (part more : List ℕ) → IsTraced format s →
    IsEntry format e → EntryLeads format s e t → entry_text limits e ≡ part ++ more → 0 < length more →
    (entries : List TraceEntry) (last : State) → All (IsEntry format) entries → AllLead format s entries last →
    part ≡ flat_map (entry_text limits) entries → part ≡ []
none_whole format limits s t e part more traced is x whole some [] last each l text = text
none_whole format limits s t e part more traced is x whole some (f ∷ entries) last each l text =
    let rest : List ℕ = flat_map (entry_text limits) entries in
    let one = one_entry format limits e f s t l.0 [] (rest ++ more) traced is (each 0 f (omega arith)) x l.1
    (append-nil (entry_text limits e) ∙ whole ∙ ap (λ (l : List ℕ). l ++ more) text ∙ append_assoc (entry_text limits f) rest more) in
    absurd (omega (arith, some, ap length one.1, length-append rest more))

none_within : (front : List ℕ) (h : Header) (s t : State) (count : ℕ) (e : TraceEntry) (part more : List ℕ)
    → IsAfterEntries front h s count → IsEntry h.format e → EntryLeads h.format s e t → entry_text h.limits e ≡ part ++ more →
    0 < length more
    → NoneEnds front (front ++ part)
none_within front h s t count e part more b is x whole some p left n same legal =
    let split : part ≡ p ++ left = append_cancel_left front part (p ++ left) (same ∙ append_assoc front p left) in
    let g = b.only p n legal in
    none_whole h.format h.limits s t e p (left ++ more) b.traced is x
    (whole ∙ ap (λ (l : List ℕ). l ++ more) split ∙ append_assoc p left more) (omega (arith, some, length-append left more)) g.0 g.1 g.2
    g.3 g.4

-- if memory may run out for it
none_wanting : (front : List ℕ) (h : Header) (s : State) (count pass : ℕ) (asked : Asked) (part more : List ℕ)
    → IsAfterEntries front h s count → pass ≤ 63 → MayAsk h.format pass asked → entry_text h.limits (wanting pass asked) ≡ part ++ more
    → 0 < length more
    → NoneEnds front (front ++ part)
none_wanting front h s count pass asked part more b le may whole some =
    let c = asks_some h.format pass asked may in
    none_within front h s s count (wanting pass asked) part more b (record { pass = le; asked = may })
    (c.0, c.1, wants_step h.format s c.0) whole some

-- ---- within the items of a Merge

example : Item
example = Changed (change_of (record { name = rs_name; kind = U32 }) rs_name (record { epoch = 0; seq = 0 }) Gone)

example_may : (format : Format) → MayMerge format example
unfolding example
example_may One =
    (record { name = rs_is_name; owner = rs_is_name; epoch = omega arith; seq = omega arith; body = tt; kind = tt; rule = tt }, tt)
example_may Two =
    (record { name = rs_is_name; owner = rs_is_name; epoch = omega arith; seq = omega arith; body = tt; kind = tt; rule = tt }, tt)

-- what may come there: another item
abbrev ItemComes : Format → List ℕ → Type 0
ItemComes format more = (i : Item) × (rest : List ℕ) × MayMerge format i × (more ≡ plus_text i ++ rest)

plus_next : (format : Format) (items others : List Item) (r s : List ℕ)
    → length items < length others → All (MayMerge format) items → All (MayMerge format) others
    → flat_map plus_text items ++ r ≡ flat_map plus_text others ++ s
    → ItemComes format r
plus_next format items [] r s less a b e = absurd (omega (arith, less))
plus_next format [] (j ∷ others) r s less a b e =
    (j, flat_map plus_text others ++ s, b 0 j (omega arith), e ∙ append_assoc (plus_text j) (flat_map plus_text others) s)
plus_next format (i ∷ items) (j ∷ others) r s less a b e =
    let left = append_assoc (plus_text i) (flat_map plus_text items) r in
    let right = append_assoc (plus_text j) (flat_map plus_text others) s in
    let first = items_apart i j (flat_map plus_text items ++ r) (flat_map plus_text others ++ s) (a 0 i (omega arith)).0
    (b 0 j (omega arith)).0 (ap (drop 2) (sym left ∙ e ∙ right)) in
    plus_next format items others r s (omega (arith, less)) (λ k d lt. a (suc k) d (omega (arith, lt)))
    (λ k d lt. b (suc k) d (omega (arith, lt))) first.1

merge_next : (format : Format) (limits : LimitsRecord) (pass n : ℕ) (items : List Item) (more : List ℕ) (f : TraceEntry)
    (asked : Asked) (rest : List ℕ)
    → pass ≤ 63 → f.pass ≤ 63 → n ≤ 256 → length items < n → All (MayMerge format) items → MayAsk format f.pass asked →
    (pass_text pass (merge_text n) ++ flat_map plus_text items) ++ more ≡ asked_text f.pass asked ++ rest → ItemComes format more
merge_next format limits pass n items more f (Line c) rest le lf few less all may e =
    absurd (merge_not_line format pass f.pass n c (flat_map plus_text items ++ more) rest le lf few may
    (sym (append_assoc (pass_text pass (merge_text n)) (flat_map plus_text items) more) ∙ e))
merge_next format limits pass n items more f (Merge js) rest le lf few less all may e =
    let one = merge_head format pass f.pass n js (flat_map plus_text items ++ more) rest le lf few may
    (sym (append_assoc (pass_text pass (merge_text n)) (flat_map plus_text items) more) ∙ e) in
    plus_next format items js more rest (omega (arith, less, one.0)) all may.1 one.1

module _ (front : List ℕ) (h : Header) (s : State) (count pass n : ℕ) (items : List Item) (b : IsAfterEntries front h s count)
    (le : pass ≤ 63) (few : n ≤ 256) (less : length items < n) (all : All (MayMerge h.format) items) where
  abbrev head : List ℕ
  head = pass_text pass (merge_text n)

  abbrev so_far : List ℕ
  so_far = head ++ flat_map plus_text items

  plus_only : Only (front ++ so_far) (ItemComes h.format)
  plus_only more k legal =
      let g = b.only (so_far ++ more) k (subst (λ (l : List ℕ). IsLegal l k) (append_assoc front so_far more) legal) in
      let f = first_goes h.format h.limits s (so_far ++ more) (omega arith) g in
      merge_next h.format h.limits pass n items more f.entry f.entry.asked (reply_text h.limits f.entry ++ f.rest) le f.is.pass few less
      all f.is.asked
      (f.text_is ∙ append_assoc (asked_text f.entry.pass f.entry.asked) (reply_text h.limits f.entry) f.rest)

  -- items that make it up to the count
  abbrev filled : List Item
  filled = items ++ replicate (n - length items) example

  filled_count : length filled ≡ n
  filled_count =
      omega (arith, less, length-append items (replicate (n - length items) example), length-replicate (n - length items) example)

  filled_may : MayAsk h.format pass (Merge filled)
  filled_may = (
    omega (arith, filled_count, few),
    All-append (MayMerge h.format) items (replicate (n - length items) example) all
        (All-replicate (MayMerge h.format) (n - length items) example (example_may h.format)),
  )

  -- what follows in that entry
  abbrev further : List ℕ
  further = flat_map plus_text (replicate (n - length items) example) ++ reply_text h.limits (wanting pass (Merge filled))

  filled_text : entry_text h.limits (wanting pass (Merge filled)) ≡ so_far ++ further
  filled_text =
      let answer : List ℕ = reply_text h.limits (wanting pass (Merge filled)) in
      let fill : List ℕ = flat_map plus_text (replicate (n - length items) example) in
      ap (λ (m : ℕ). (pass_text pass (merge_text m) ++ flat_map plus_text filled) ++ answer) filled_count
      ∙ ap (λ (l : List ℕ). (head ++ l) ++ answer) (flat_map-append plus_text items (replicate (n - length items) example))
      ∙ ap (λ (l : List ℕ). l ++ answer) (sym (append_assoc head (flat_map plus_text items) fill))
      ∙ append_assoc so_far fill answer

  further_some : 0 < length further
  further_some =
      let said : List ℕ = reply_lines AsMerge (Refused refusals.NoRoom) h.limits in
      omega (
        arith,
        length-append (flat_map plus_text (replicate (n - length items) example)) (marked said),
        marked_some said
            (reply_begins AsMerge (Refused refusals.NoRoom) h.limits),
      )

  plus_ends : (i : Item) → IsItem i → EndsLine (plus_text i)
  plus_ends i is = ends_after (43 ∷ 32 ∷ []) _ (without 10 (λ (x : ℕ). nat_lt 10 x) refl (43 ∷ 32 ∷ []) refl) (item_ends i is)

  plus_line : (line more : List ℕ) → IsUnbroken line → ItemComes h.format (with_newline line ++ more) → IsPlus h.format (with_newline line)
  plus_line line more whole next =
      let e : EndsLine (with_newline line) = record { front = line; parts = refl; none = whole } in
      (next.0, next.2, (lines_one (with_newline line) (plus_text next.0) more next.1 e (plus_ends next.0 next.2.0) next.3).0)

  plus_place : IsPlaceInEntry front (front ++ so_far) false (IsPlus h.format)
  plus_place =
      record {
        begins = begins_by (front ++ so_far) further (front ++ entry_text h.limits (wanting pass (Merge filled))) (suc count)
            (legal_wanting front h s count pass (Merge filled) b le filled_may)
            (ap (λ (l : List ℕ). front ++ l) filled_text ∙ sym (append_assoc front so_far further));
        wants = not_wanted (front ++ so_far) (ItemComes h.format) plus_only
            (λ more next. omega (arith, ap (λ (l : List ℕ). get_or l 0 0) next.3));
        ends = ends_by (front ++ so_far) (ItemComes h.format) plus_only (λ next. omega (arith, ap length next.3));
        none = none_wanting front h s count pass (Merge filled) so_far further b le filled_may filled_text further_some;
        wrong = wrong_by (front ++ so_far) (ItemComes h.format) (IsPlus h.format) plus_only plus_line;
      }

pub plus_places : PlusPlaces
plus_places front h s count pass n items b le few less all = plus_place front h s count pass n items b le few less all

-- ---- after a command

not_empty : (text rest : List ℕ) → BeginsLine text → [] ≡ marked text ++ rest → ⊥
not_empty text rest b e = omega (arith, ap length (e ∙ marked_starts text rest b))

-- the line that comes is the first one
first_line : (text rest line more : List ℕ) (b : BeginsLine text) → IsUnbroken line → with_newline line ++ more ≡ marked text ++ rest →
    with_newline line ≡ 60 ∷ 32 ∷ (b.front ++ 10 ∷ [])
first_line text rest line more b whole e =
    let ends : EndsLine (with_newline line) = record { front = line; parts = refl; none = whole } in
    let last : EndsLine (b.front ++ 10 ∷ []) = record { front = b.front; parts = refl; none = b.whole } in
    (lines_one (with_newline line) (60 ∷ 32 ∷ (b.front ++ 10 ∷ [])) more (marked b.rest ++ rest) ends
    (ends_after (60 ∷ 32 ∷ []) (b.front ++ 10 ∷ []) (without 10 (λ (x : ℕ). nat_lt 10 x) refl (60 ∷ 32 ∷ []) refl) last)
    (e ∙ marked_starts text rest b)).0

-- a reply comes, and how a trace continues after it
pub record ReplyComes (format : Format) (limits : LimitsRecord) (s : State) (asked : Asked) (more : List ℕ) : Type 0 where
  pub command : Command
  pub asks : command_asked asked ≡ Some command
  pub reply : Reply
  pub new : State
  pub step : StepOf format s command reply new
  pub rest : List ℕ
  pub text_is : more ≡ marked (reply_lines (worded_as asked) reply limits) ++ rest
  pub goes : MayComeAfter format limits new rest

module _ (front : List ℕ) (h : Header) (s : State) (count pass : ℕ) (asked : Asked) (b : IsAfterEntries front h s count) (le : pass ≤ 63)
    (may : MayAsk h.format pass asked) where
  pub reply_only : Only (front ++ asked_text pass asked) (ReplyComes h.format h.limits s asked)
  reply_only more k legal =
      let text : List ℕ = asked_text pass asked in
      let g = b.only (text ++ more) k (subst (λ (l : List ℕ). IsLegal l k) (append_assoc front text more) legal) in
      let f = first_goes h.format h.limits s (text ++ more) (omega (arith, length-append text more, asked_some pass asked)) g in
      let one = asked_one h.format pass f.entry.pass asked f.entry.asked more (reply_text h.limits f.entry ++ f.rest) le f.is.pass may
      f.is.asked
      (f.text_is ∙ append_assoc (asked_text f.entry.pass f.entry.asked) (reply_text h.limits f.entry) f.rest) in
      record {
        command = f.leads.0;
        asks = ap (λ (a : Asked). command_asked a) one.0 ∙ f.leads.1;
        reply = f.entry.reply;
        new = f.new;
        step = f.leads.2;
        rest = f.rest;
        text_is = one.1 ∙ ap (λ (a : Asked). marked (reply_lines (worded_as a) f.entry.reply h.limits) ++ f.rest) (sym one.0);
        goes = f.goes;
      }

  reply_line : (line more : List ℕ) → IsUnbroken line → ReplyComes h.format h.limits s asked (with_newline line ++ more) →
      MayReply h.format h.limits s asked (with_newline line)
  reply_line line more whole r =
      let text : List ℕ = reply_lines (worded_as asked) r.reply h.limits in
      let begins : BeginsLine text = reply_begins (worded_as asked) r.reply h.limits in
      record {
        command = r.command;
        asks = r.asks;
        reply = r.reply;
        new = r.new;
        step = r.step;
        first = begins.front ++ 10 ∷ [];
        ends = record { front = begins.front; parts = refl; none = begins.whole };
        rest = begins.rest;
        text = begins.is ∙ sym (append_assoc begins.front (10 ∷ []) begins.rest);
        line_is = first_line text r.rest line more begins whole r.text_is;
      }

  reply_place : IsPlaceInEntry front (front ++ asked_text pass asked) true (MayReply h.format h.limits s asked)
  reply_place =
      let text : List ℕ = asked_text pass asked in
      let answer : List ℕ = reply_text h.limits (wanting pass asked) in
      let said : List ℕ = reply_lines (worded_as asked) (Refused refusals.NoRoom) h.limits in
      let begins : BeginsLine said = reply_begins (worded_as asked) (Refused refusals.NoRoom) h.limits in
      let legal : IsLegal (front ++ (text ++ answer)) (suc count) = legal_wanting front h s count pass asked b le may in
      let whole : front ++ (text ++ answer) ≡ (front ++ text) ++ answer = sym (append_assoc front text answer) in
      let starts : answer ≡ 60 ∷ 32 ∷ ((begins.front ++ 10 ∷ []) ++ (marked begins.rest ++ [])) =
      sym (append-nil answer) ∙ marked_starts said [] begins in
      record {
        begins = begins_by (front ++ text) answer (front ++ (text ++ answer)) (suc count) legal whole;
        wants = wanted (front ++ text) (32 ∷ ((begins.front ++ 10 ∷ []) ++ (marked begins.rest ++ []))) (front ++ (text ++ answer))
            (suc count) legal (whole ∙ ap (λ (l : List ℕ). (front ++ text) ++ l) starts);
        ends = ends_by (front ++ text) (ReplyComes h.format h.limits s asked) reply_only
            (λ r. not_empty (reply_lines (worded_as asked) r.reply h.limits) r.rest (reply_begins (worded_as asked) r.reply h.limits)
            r.text_is);
        none = none_wanting front h s count pass asked text answer b le may refl (marked_some said begins);
        wrong = wrong_by (front ++ text) (ReplyComes h.format h.limits s asked) (MayReply h.format h.limits s asked) reply_only reply_line;
      }

pub reply_places : ReplyPlaces
reply_places front h s count pass asked b le may = reply_place front h s count pass asked b le may

-- ---- within a reply

module _ (front : List ℕ) (h : Header) (s t : State) (count : ℕ) (e : TraceEntry) (given next left : List ℕ)
    (b : IsAfterEntries front h s count) (is : IsEntry h.format e) (x : EntryLeads h.format s e t)
    (text : reply_lines (worded_as e.asked) e.reply h.limits ≡ (given ++ 10 ∷ []) ++ (next ++ left)) (ends : EndsLine next) where
  abbrev asked : List ℕ
  asked = asked_text e.pass e.asked

  abbrev said : List ℕ
  said = marked (given ++ 10 ∷ [])

  -- the rest of the reply comes
  abbrev RestComes : List ℕ → Type 0
  RestComes more = (rest : List ℕ) × (more ≡ marked (next ++ left) ++ rest)

  abbrev left_begins : BeginsLine (next ++ left)
  left_begins =
      record {
        front = ends.front;
        whole = ends.none;
        rest = left;
        is =
            ap (λ (l : List ℕ). l ++ left) ends.parts ∙ append_assoc ends.front (10 ∷ []) left;
      }

  marks : marked (reply_lines (worded_as e.asked) e.reply h.limits) ≡ said ++ marked (next ++ left)
  marks = ap (λ (l : List ℕ). marked l) text ∙ marked_append given (next ++ left)

  within_only : Only (front ++ (asked ++ said)) RestComes
  within_only more k legal =
      let assoc : (front ++ (asked ++ said)) ++ more ≡ (front ++ asked) ++ (said ++ more) =
      append_assoc front (asked ++ said) more ∙ ap (λ (l : List ℕ). front ++ l) (append_assoc asked said more) ∙
      sym (append_assoc front asked (said ++ more)) in
      let r = reply_only front h s count e.pass e.asked b is.pass is.asked (said ++ more) k
      (subst (λ (l : List ℕ). IsLegal l k) assoc legal) in
      let own : List ℕ = reply_lines (worded_as e.asked) e.reply h.limits in
      let other : List ℕ = reply_lines (worded_as e.asked) r.reply h.limits in
      let first : HaveOneFirst (given ++ 10 ∷ []) other =
      marked_first (given ++ 10 ∷ []) other more r.rest (begins_line given []) (reply_begins (worded_as e.asked) r.reply h.limits)
      r.text_is in
      let both : HaveOneFirst own other = record {
        line = first.line;
        ends = first.ends;
        left = first.left ++ (next ++ left);
        right = first.right;
        a_is = text ∙ ap (λ (l : List ℕ). l ++ (next ++ left)) first.a_is ∙ append_assoc first.line first.left (next ++ left);
        b_is = first.b_is;
      } in
      let command : r.command ≡ x.0 = same_Some r.command x.0 (sym r.asks ∙ x.1) in
      let step : StepOf h.format s x.0 r.reply r.new = subst (λ (c : Command). StepOf h.format s c r.reply r.new) command r.step in
      let one = reply_is_one h.format h.limits e.pass e.asked x.0 s t r.new e.reply r.reply b.traced is.asked x.1 x.2 step both in
      let split : said ++ more ≡ said ++ (marked (next ++ left) ++ r.rest) =
      r.text_is ∙ ap (λ (l : List ℕ). marked l ++ r.rest) (sym one.0) ∙ ap (λ (l : List ℕ). l ++ r.rest) marks ∙
      append_assoc said (marked (next ++ left)) r.rest in
      (r.rest, append_cancel_left said more (marked (next ++ left) ++ r.rest) split)

  within_line : (line more : List ℕ) → IsUnbroken line → RestComes (with_newline line ++ more) → with_newline line ≡ 60 ∷ 32 ∷ next
  within_line line more whole r = first_line (next ++ left) r.0 line more left_begins whole r.1 ∙
      ap (λ (l : List ℕ). 60 ∷ 32 ∷ l) (sym ends.parts)

  within_place : IsPlaceInEntry front (front ++ (asked ++ said)) true (λ (line : List ℕ). line ≡ 60 ∷ 32 ∷ next)
  within_place =
      let past = entries_lead front h s t count e b is x in
      let legal : IsLegal (front ++ entry_text h.limits e) (suc count) =
      legal_after (front ++ entry_text h.limits e) h t (suc count) past in
      let whole : front ++ entry_text h.limits e ≡ (front ++ (asked ++ said)) ++ marked (next ++ left) =
      ap (λ (l : List ℕ). front ++ (asked ++ l)) marks ∙
      ap (λ (l : List ℕ). front ++ l) (sym (append_assoc asked said (marked (next ++ left)))) ∙
      sym (append_assoc front (asked ++ said) (marked (next ++ left))) in
      let starts : marked (next ++ left) ≡ 60 ∷ 32 ∷ ((ends.front ++ 10 ∷ []) ++ (marked left ++ [])) =
      sym (append-nil (marked (next ++ left))) ∙ marked_starts (next ++ left) [] left_begins in
      record {
        begins = begins_by (front ++ (asked ++ said)) (marked (next ++ left)) (front ++ entry_text h.limits e) (suc count) legal whole;
        wants = wanted (front ++ (asked ++ said)) (32 ∷ ((ends.front ++ 10 ∷ []) ++ (marked left ++ []))) (front ++ entry_text h.limits e)
            (suc count) legal (whole ∙ ap (λ (l : List ℕ). (front ++ (asked ++ said)) ++ l) starts);
        ends = ends_by (front ++ (asked ++ said)) RestComes within_only (λ r. not_empty (next ++ left) r.0 left_begins r.1);
        none = none_within front h s t count e (asked ++ said) (marked (next ++ left)) b is x
            (ap (λ (l : List ℕ). asked ++ l) marks ∙ sym (append_assoc asked said (marked (next ++ left))))
            (marked_some (next ++ left) left_begins);
        wrong = wrong_by (front ++ (asked ++ said)) RestComes (λ (line : List ℕ). line ≡ 60 ∷ 32 ∷ next) within_only within_line;
      }

pub within_replies : WithinReplies
within_replies front h s t count e given next left b is x text ends = within_place front h s t count e given next left b is x text ends
