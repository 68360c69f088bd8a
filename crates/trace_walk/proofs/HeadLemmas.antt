-- The lines of a command.
use Rattle.std.proofs.Common.{◌≡◌, ℕ, suc, ◌≤◌, false, List, [], ◌∷◌, ◌++◌, length, Option, refl, sym, ap, subst, ◌∙◌, append_assoc}
use Rattle.std.specs.List.{flat_map}
use Rattle.ds_content.specs.Content.{ContentRecord}
use Rattle.ds_names.specs.Limits.{most_items}
use Rattle.line_io.specs.Lines.{HasLines, IsUnbroken, with_newline, joined}
use Rattle.line_io.specs.Reading.{LinesContent}
use Rattle.trace_walk.specs.declared.asked.Asked.{Asked}
use Rattle.trace_walk.specs.declared.asked.AskedFault.{AskedFault}
use Rattle.trace_walk.specs.declared.asked.AskedFault.TheVariants as badly
use Rattle.trace_walk.specs.declared.asked.Head.{Head}
use Rattle.trace_walk.specs.declared.entry.EntryFault.{EntryFault}
use Rattle.trace_walk.specs.declared.entry.EntryFault.TheVariants as entries
use Rattle.trace_walk.specs.declared.entry.EntryReader.{EntryReader}
use Rattle.trace_walk.specs.declared.header.Header.{Header}
use Rattle.trace_walk.specs.Head.{IsHeadOf, HasNoHead, head_text}
use Rattle.trace_walk.specs.Text.{asked_text, merge_text, pass_text, plus_text}
use Rattle.trace_walk.specs.Verdict.{Fails, IsLegal, IsWrongAt}
use Rattle.trace_walk.specs.Walk.{IsAfterEntries, IsPlaceInEntry, IsPlus}
use Rattle.trace_walk.proofs.PlaceLemmas.{plus_places}
use Rattle.trace_walk.proofs.WalkLemmas.{bad_head, after_begins, no_reply}
use Rattle.trace_walk.specs.declared.fault.WalkFault.{WalkFault}
use Rattle.trace_walk.specs.declared.fault.WalkFault.TheVariants.{BadLineAt}
use Rattle.trace_walk.specs.declared.wrong_line.Wanted.TheVariants.{Entry, Item as AnItem}
use Rattle.trace_walk.specs.Entry.{AddsLines, BeginsNoItem, IsLackingOne, LacksOne, MissesLines}
use Rattle.trace_walk.specs.Wanting.{IsWanted, IsWithinMerge}
use Rattle.trace_walk.specs.Walking.{Spot, IsAt, IsRead, IsLongFault, HasLine, IsFault, of_entry, of_line, IsShort, Walks, Heads, HasAsked}
use Rattle.trace_walk.proofs.FaultLemmas.{none_here, not_short}
use Rattle.trace_walk.proofs.ShortLemmas.{plus_short}
use Rattle.trace_walk.proofs.WalkingLemmas.{whole_line}

-- what was passed is a legal trace
pub legal_front : (b : Spot) (h : Header) → IsAfterEntries b.front h b.state b.count → IsLegal b.front b.count
legal_front b h past = (h, past.entries, b.state, past.trace, past.counted)

-- ---- the first line of an entry

module _ (b : Spot) (old l : LinesContent) (store : ContentRecord) (h : Header) (from to : Option (List ℕ)) (w : Walks b old store h from)
  where
    -- it is one
    pub heads_on : (line : List ℕ) (pass : ℕ) (head : Head) (kept : List ℕ)
        → l.line ≡ with_newline line → HasLine b.bytes b.front line l to → IsHeadOf h.format pass head l.line → IsShort l.line →
        kept ≡ l.line
        → Heads b l store h to pass head kept
    heads_on line pass head kept line_is here is short keeps =
        record {
          at = subst (λ (t : List ℕ). IsAt b.bytes (b.front ++ t) l to) (sym line_is ∙ is.2) here.then;
          stands = w.stands;
          past = w.past;
          pass_few = is.0;
          may = is.1;
          short = subst IsShort is.2 short;
          kept_is = keeps ∙ is.2;
        }

    -- the fault is the verdict, and an entry must begin there
    abbrev pub WantsEntry : WalkFault → Type 0
    WantsEntry fault = IsFault b.front b.bytes fault × IsWanted b.bytes Entry fault

    head_fails : (number : ℕ) (line : List ℕ) (before more : List (List ℕ))
        → HasLines b.bytes (before ++ line ∷ more) → b.front ≡ joined before → number ≡ suc (length before) → IsUnbroken line
        → (IsShort (with_newline line) → HasNoHead h.format (with_newline line))
        → WantsEntry (BadLineAt number)
    head_fails number line before more lines past counted whole none =
        let wrong : IsWrongAt b.bytes number b.front =
        record {
          before = before;
          rest = line ∷ more;
          lines = lines;
          past = past;
          counted = counted;
          begins = after_begins b.front h b.state b.count w.past;
          fails = bad_head b.front line more h b.state b.count w.past whole none;
        } in (
          (b.front, wrong, no_reply b.front h b.state b.count w.past, none_here b.front),
          (b.front, wrong, (b.count, legal_front b h w.past)),
        )

    -- it is none
    pub head_wrong : (line : List ℕ) (fault : AskedFault) (number : ℕ)
        → l.line ≡ with_newline line → HasLine b.bytes b.front line l to → (fault ≡ badly.BadLine → HasNoHead h.format l.line)
        → number ≡ l.count
        → WantsEntry (of_line fault number)
    head_wrong line badly.NoRoom number line_is here none e = (tt, tt)
    head_wrong line badly.BadLine number line_is here none e =
        head_fails number line here.before here.more here.lines here.front_is (e ∙ here.counted) here.whole
        (λ short. subst (HasNoHead h.format) line_is (none refl))

    -- it is too long
    pub head_long : (fault : EntryFault) → IsLongFault b.bytes b.front fault → WantsEntry (of_entry fault)
    head_long (entries.BadLine number) long = head_fails number long.line long.before long.more long.lines long.front_is long.counted
        long.whole (λ short. absurd (not_short long.line long.long short))
    head_long entries.ReadFault long = (tt, tt)
    head_long entries.NoRoom long = (tt, tt)

    -- there is none
    pub ends_there : (number : ℕ) → IsRead b.bytes b.front number →
        (lines : List (List ℕ)) × HasLines b.bytes lines × (b.front ≡ joined lines)
    ends_there number r = (r.0, r.1, r.2)

-- ---- the rest of the command

-- it is read
pub command_on : (b : Spot) (old new : EntryReader) (store : ContentRecord) (h : Header) (from to : Option (List ℕ)) (pass : ℕ)
    (head : Head) (asked : Asked)
    → Heads b old.lines store h from pass head old.text.items → AddsLines h.format old from head new to asked
    → HasAsked b new.lines store h to pass asked new.text.items
command_on b old new store h from to pass head asked x adds =
    let l = adds pass (x.pass_few, x.may, x.kept_is) (subst IsShort (sym x.kept_is) x.short) in
    let text : head_text pass head ++ l.more ≡ asked_text pass asked = ap (λ (t : List ℕ). t ++ l.more) (sym x.kept_is) ∙ sym l.whole in
    record {
      at = subst (λ (t : List ℕ). IsAt b.bytes t new.lines to)
          (append_assoc b.front (head_text pass head) l.more ∙ ap (λ (t : List ℕ). b.front ++ t) text)
          (l.over b.bytes (b.front ++ head_text pass head) x.at);
      stands = x.stands;
      past = x.past;
      pass_few = x.pass_few;
      may = l.may;
      kept_is = l.text ∙ sym l.whole;
    }

-- the fault is the verdict, and an item must be there
abbrev pub WantsItem : Spot → WalkFault → Type 0
WantsItem b fault = IsFault b.front b.bytes fault × IsWanted b.bytes AnItem fault

-- an item of a Merge is missing
module _ (b : Spot) (h : Header) (past : IsAfterEntries b.front h b.state b.count) (pass most number : ℕ) (pass_few : pass ≤ 63)
    (few : most ≤ most_items)
    (x : LacksOne h.format b.bytes (b.front ++ pass_text pass (merge_text most)) most number) where
  abbrev front : List ℕ
  front = b.front ++ (pass_text pass (merge_text most) ++ flat_map plus_text x.items)

  place : IsPlaceInEntry b.front front false (IsPlus h.format)
  place = plus_places b.front h b.state b.count pass most x.items past pass_few few x.less x.may

  item_fails : (rest : List (List ℕ)) → HasLines b.bytes (x.lacks.before ++ rest) → BeginsNoItem h.format rest → Fails front rest
  item_fails [] lines none = place.ends
  item_fails (line ∷ more) lines none =
      place.wrong line more (whole_line b.bytes line x.lacks.before more lines)
      (λ plus. none plus.0 plus.1 (subst IsShort (sym plus.2) (plus_short plus.0 plus.1.0)) plus.2)

  item_wrong : WantsItem b (BadLineAt number)
  item_wrong =
      let wrong : IsWrongAt b.bytes number front =
      record {
        before = x.lacks.before;
        rest = x.lacks.rest;
        lines = x.lacks.lines;
        past = sym (append_assoc b.front (pass_text pass (merge_text most)) (flat_map plus_text x.items)) ∙ x.lacks.past;
        counted = x.lacks.counted;
        begins = place.begins;
        fails = item_fails x.lacks.rest x.lacks.lines x.lacks.lacks;
      } in
      let within : IsWithinMerge front = record {
        start = b.front;
        count = b.count;
        pass = pass;
        most = most;
        items = x.items;
        legal = legal_front b h past;
        less =
            x.less;
        front_is = refl;
      } in
      ((front, wrong, place.wants, place.none), (front, wrong, within))

item_or_not : (b : Spot) (h : Header) (pass most : ℕ) (fault : EntryFault) → IsAfterEntries b.front h b.state b.count → pass ≤ 63 →
    most ≤ most_items
    → IsLackingOne h.format b.bytes (b.front ++ pass_text pass (merge_text most)) most fault → WantsItem b (of_entry fault)
item_or_not b h pass most (entries.BadLine number) past pass_few few lacks = item_wrong b h past pass most number pass_few few lacks
item_or_not b h pass most entries.ReadFault past pass_few few lacks = (tt, tt)
item_or_not b h pass most entries.NoRoom past pass_few few lacks = (tt, tt)

pub command_fails : (b : Spot) (old : EntryReader) (store : ContentRecord) (h : Header) (from : Option (List ℕ)) (pass : ℕ) (head : Head)
    (fault : EntryFault)
    → MissesLines h.format old from head fault → Heads b old.lines store h from pass head old.text.items → WantsItem b (of_entry fault)
command_fails b old store h from pass head fault misses x =
    let merge = subst (λ (k : Head). Heads b old.lines store h from pass k old.text.items) misses.1 x in
    item_or_not b h pass misses.0 fault merge.past merge.pass_few merge.may
    (misses.2 b.bytes (b.front ++ pass_text pass (merge_text misses.0)) merge.at)
