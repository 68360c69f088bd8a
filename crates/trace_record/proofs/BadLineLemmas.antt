-- Which line is the first bad one.
use Rattle.std.proofs.Common.{◌≡◌, ℕ, List, [], ◌∷◌, ◌++◌, length, Option, inl, inr, refl, sym, ap, ◌∙◌, arith, append_assoc, append-nil}
use Rattle.std.proofs.Common.{length-append}
use Rattle.std.specs.List.{flat_map}
use Rattle.line_io.specs.Lines.{joined, with_newline}
use Rattle.line_io.specs.Reading.{LinesContent}
use Rattle.trace_walk.specs.Walking.{HasLine, IsLong}
use Rattle.trace_walk.specs.declared.asked.Head.TheVariants as heads
use Rattle.trace_walk.specs.declared.header.Format.{Format}
use Rattle.trace_walk.specs.Entry.{LacksOne}
use Rattle.trace_walk.specs.Head.{IsHeadOf}
use Rattle.trace_walk.specs.Text.{plus_text}
use Rattle.trace_walk.proofs.FaultLemmas.{not_short}
use Rattle.trace_record.specs.Asking.{AsksNothing, AsksNothingAt, IsAtLimit, IsFirstLines, IsPlaceOfLine, IsRingLine, asked_by}
use Rattle.trace_record.specs.Reading.{IsAtLine}
use Rattle.trace_record.proofs.AskingLemmas.{asked_longer, asked_after, some_line}
use Rattle.trace_record.proofs.RingLemmas.{long_no_ring}

-- ---- a line that must be a command

-- the lines before it
pub front_there : (bytes front : List ℕ) (l : LinesContent) (to : Option (List ℕ)) → IsAtLine bytes front l to → IsFirstLines bytes front
front_there bytes front l to a = let h = a.2 in (h.before, a.0 ∷ h.more, h.lines, h.front_is)

pub asks_nothing : (format : Format) (bytes front line : List ℕ) (l : LinesContent) (to : Option (List ℕ)) (number place : ℕ) →
    HasLine bytes front line l to →
    AsksNothing format (with_newline line) → (front ≡ [] → ¬ IsRingLine (with_newline line)) → number ≡ l.count →
    IsPlaceOfLine number (with_newline line) place → AsksNothingAt format bytes front number place
asks_nothing format bytes front line l to number place h none no_ring e at =
    record {
      whole = (h.before, line ∷ h.more, h.lines, h.front_is);
      part = [];
      before = h.before;
      rest = line ∷ h.more;
      lines = h.lines;
      past = append-nil front ∙ h.front_is;
      counted = e ∙ h.counted;
      stops = inl (refl, none);
      no_ring = λ first. no_ring (h.front_is ∙ ap (λ (l : List (List ℕ)). joined l) first);
      at = λ whole. at;
    }

pub long_asks_nothing : (format : Format) (bytes front : List ℕ) (number place : ℕ) → IsLong bytes front number → IsAtLimit place →
    AsksNothingAt format bytes front number place
long_asks_nothing format bytes front number place l limit =
    record {
      whole = (l.before, l.line ∷ l.more, l.lines, l.front_is);
      part = [];
      before = l.before;
      rest = l.line ∷ l.more;
      lines = l.lines;
      past = append-nil front ∙ l.front_is;
      counted = l.counted;
      stops = inl (refl, λ pass head short is. not_short l.line l.long (omega (arith, short, asked_longer (with_newline l.line))));
      no_ring = λ first. long_no_ring l.line l.long;
      at = λ whole. (λ short. absurd (not_short l.line l.long (omega (arith, short, asked_longer (with_newline l.line)))), λ long. limit);
    }

-- ---- a line that must be an item's

some_after : (front line items : List ℕ) → front ++ (with_newline line ++ items) ≡ [] → ⊥
some_after front line items none =
    omega (arith, ap length none, length-append front (with_newline line ++ items), length-append (with_newline line) items, some_line line)

-- after a Merge's first line and some of its items
pub lacks_item : (format : Format) (bytes front line : List ℕ) (pass count number place : ℕ)
    → IsFirstLines bytes front → IsHeadOf format pass (heads.Merge count) (asked_by (with_newline line))
    → LacksOne format bytes (front ++ with_newline line) count number
    → AsksNothingAt format bytes front number place
lacks_item format bytes front line pass count number place whole head x =
    let items : List ℕ = flat_map plus_text x.items in
    let past : front ++ (with_newline line ++ items) ≡ joined x.lacks.before =
    sym (append_assoc front (with_newline line) items) ∙ x.lacks.past in
    record {
      whole = whole;
      part = with_newline line ++ items;
      before = x.lacks.before;
      rest = x.lacks.rest;
      lines = x.lacks.lines;
      past = past;
      counted = x.lacks.counted;
      stops = inr (record {
        pass = pass;
        count = count;
        items = x.items;
        pass_few = head.0;
        few = head.1;
        may = x.may;
        part_is = asked_after (with_newline line) items (some_line line) ∙ ap (λ (l : List ℕ). l ++ items) head.2;
        less = x.less;
        lacks = x.lacks.lacks;
      });
      no_ring = λ first. absurd (some_after front line items (past ∙ ap (λ (l : List (List ℕ)). joined l) first));
      at = λ none. absurd (omega (arith, ap length none, length-append (with_newline line) items, some_line line));
    }
