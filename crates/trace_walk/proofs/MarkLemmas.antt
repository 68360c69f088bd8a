-- Texts that begin with a line, and lines with their marks.
use Rattle.std.proofs.Common.{◌≡◌, ◌≢◌, ℕ, ◌==◌, Bool, true, false, List, [], ◌∷◌, ◌++◌, length, drop, refl, sym, ap, ◌∙◌, arith}
use Rattle.std.proofs.Common.{append_assoc, append-nil}
use Rattle.std.proofs.lemmas.Bool.{eqb-true, eqb-false}
use Rattle.std.proofs.lemmas.List.Elements.{All-nil}
use Rattle.ds_held.specs.Limits.{LimitsRecord}
use Rattle.ds_line.specs.ItemSpelling.{item_spelling}
use Rattle.ds_line.proofs.NewlineLemmas.{Unbroken, unbroken_one}
use Rattle.ds_machine.specs.Owed.{owed_by}
use Rattle.ds_machine.specs.declared.reply.Reply.{Reply}
use Rattle.script_answers.specs.Reply.{reply_lines, reply_words, owed_line}
use Rattle.ds_machine.specs.Given.{shown_by}
use Rattle.script_answers.specs.declared.wording.Wording.{Wording}
use Rattle.std.specs.List.{flat_map}
use Rattle.line_io.specs.Lines.{EndsLine}
use Rattle.trace_walk.specs.Text.{marked, marked_from}
use Rattle.trace_walk.specs.OneReply.{HaveOneFirst}
use Rattle.trace_walk.proofs.SplitLemmas.{split_same, unbroken_tail}

-- ---- a line at the front

-- the text begins with a line
pub record BeginsLine (text : List ℕ) : Type 0 where
  pub front : List ℕ
  pub whole : Unbroken front
  pub rest : List ℕ
  pub is : text ≡ front ++ 10 ∷ rest

-- so does each that has a newline
pub begins_line : (before past : List ℕ) → BeginsLine (before ++ 10 ∷ past)
begins_line [] past = record { front = []; whole = All-nil (λ (x : ℕ). x ≢ 10); rest = past; is = refl }
begins_line (b ∷ before) past = by_test (b == 10) refl (begins_line before past)
  where
    by_test : (t : Bool) → (b == 10) ≡ t → BeginsLine (before ++ 10 ∷ past) → BeginsLine (b ∷ (before ++ 10 ∷ past))
    by_test true e more =
        record {
          front = [];
          whole = All-nil (λ (x : ℕ). x ≢ 10);
          rest = before ++ 10 ∷ past;
          is =
              ap (λ (x : ℕ). x ∷ (before ++ 10 ∷ past)) (eqb-true b 10 e);
        }
    by_test false e more =
        record {
          front = b ∷ more.front;
          whole = unbroken_one b more.front (eqb-false b 10 e) more.whole;
          rest = more.rest;
          is =
              ap (λ (l : List ℕ). b ∷ l) more.is;
        }

pub reply_begins : (wording : Wording) (reply : Reply) (limits : LimitsRecord) → BeginsLine (reply_lines wording reply limits)
reply_begins wording reply limits =
    let words : List ℕ = reply_words wording reply in
    let last : List ℕ = owed_line limits (owed_by reply) in
    let items : List ℕ = flat_map item_spelling (shown_by reply) in
    let b = begins_line (items ++ words) last in
    let same : reply_lines wording reply limits ≡ (items ++ words) ++ 10 ∷ last =
    ap (λ (l : List ℕ). items ++ l) (append_assoc words (10 ∷ []) last) ∙ sym (append_assoc items words (10 ∷ last)) in
    record { front = b.front; whole = b.whole; rest = b.rest; is = same ∙ b.is }

-- ---- marks

not_ten : (b : ℕ) → b ≢ 10 → (b == 10) ≡ false
not_ten b other = by_test (b == 10) refl
  where
    by_test : (t : Bool) → (b == 10) ≡ t → (b == 10) ≡ false
    by_test true e = absurd (other (eqb-true b 10 e))
    by_test false e = e

within_line : (front rest : List ℕ) → Unbroken front → marked_from false (front ++ 10 ∷ rest) ≡ front ++ 10 ∷ marked rest
unfolding marked_from
within_line [] rest whole = refl
within_line (b ∷ front) rest whole =
    ap (λ (t : Bool). b ∷ marked_from t (front ++ 10 ∷ rest)) (not_ten b (whole 0 0 (omega arith))) ∙
    ap (λ (l : List ℕ). b ∷ l) (within_line front rest (unbroken_tail b front whole))

-- a line has its mark in front, and then the rest has its own
pub marked_line : (front rest : List ℕ) → Unbroken front → marked (front ++ 10 ∷ rest) ≡ 60 ∷ 32 ∷ (front ++ 10 ∷ marked rest)
unfolding marked_from
marked_line [] rest whole = refl
marked_line (b ∷ front) rest whole = ap (λ (l : List ℕ). 60 ∷ 32 ∷ l) (within_line (b ∷ front) rest whole)

pub marked_none : marked [] ≡ []
unfolding marked_from
marked_none = refl

-- likewise for a line with its newline
pub marked_more : (line more : List ℕ) → EndsLine line → marked (line ++ more) ≡ 60 ∷ 32 ∷ (line ++ marked more)
marked_more line more e =
    ap (λ (l : List ℕ). marked l) (ap (λ (l : List ℕ). l ++ more) e.parts ∙ append_assoc e.front (10 ∷ []) more)
    ∙ marked_line e.front more e.none
    ∙ ap (λ (l : List ℕ). 60 ∷ 32 ∷ l) (sym (append_assoc e.front (10 ∷ []) (marked more)) ∙
    ap (λ (l : List ℕ). l ++ marked more) (sym e.parts))

-- a line without a newline has it, too
open_line : (line : List ℕ) → Unbroken line → marked_from false line ≡ line
unfolding marked_from
open_line [] whole = refl
open_line (b ∷ line) whole =
    ap (λ (t : Bool). b ∷ marked_from t line) (not_ten b (whole 0 0 (omega arith))) ∙
    ap (λ (l : List ℕ). b ∷ l) (open_line line (unbroken_tail b line whole))

pub marked_open : (line : List ℕ) → Unbroken line → line ≢ [] → marked line ≡ 60 ∷ 32 ∷ line
unfolding marked_from
marked_open [] whole some = absurd (some refl)
marked_open (b ∷ line) whole some = ap (λ (l : List ℕ). 60 ∷ 32 ∷ l) (open_line (b ∷ line) whole)

-- what is written of a text whose rest is empty, or is a line without a newline
pub none_more : (text rest whole : List ℕ) → (length rest == 0) ≡ true → text ++ marked rest ≡ whole → text ≡ whole
none_more text [] whole e is = sym (append-nil text) ∙ ap (λ (l : List ℕ). text ++ l) (sym marked_none) ∙ is
none_more text (b ∷ rest) whole e is = absurd (omega (arith, eqb-true (length (b ∷ rest)) 0 e))

pub open_more : (text after rest whole : List ℕ) → Unbroken rest → (length rest == 0) ≡ false → after ≡ text ++ 60 ∷ 32 ∷ (rest ++ []) →
    text ++ marked rest ≡ whole → after ≡ whole
open_more text after rest whole line e written is =
    written ∙ ap (λ (l : List ℕ). text ++ 60 ∷ 32 ∷ l) (append-nil rest)
    ∙ ap (λ (l : List ℕ). text ++ l) (sym (marked_open rest line
    (λ none. eqb-false (length rest) 0 e (ap (λ (l : List ℕ). length l) none)))) ∙ is

-- the marks of a text that ends with a newline, and of what follows it
from_append : (first : Bool) (a b : List ℕ) → marked_from first (a ++ 10 ∷ b) ≡ marked_from first (a ++ 10 ∷ []) ++ marked b
unfolding marked_from
from_append true [] b = refl
from_append false [] b = refl
from_append true (x ∷ a) b = ap (λ (l : List ℕ). 60 ∷ 32 ∷ x ∷ l) (from_append (x == 10) a b)
from_append false (x ∷ a) b = ap (λ (l : List ℕ). x ∷ l) (from_append (x == 10) a b)

pub marked_append : (a b : List ℕ) → marked ((a ++ 10 ∷ []) ++ b) ≡ marked (a ++ 10 ∷ []) ++ marked b
marked_append a b = ap (λ (l : List ℕ). marked l) (append_assoc a (10 ∷ []) b) ∙ from_append true a b

-- texts that begin with lines, whose marked forms have one front, begin with one line
pub marked_first : (a b r s : List ℕ) → BeginsLine a → BeginsLine b → marked a ++ r ≡ marked b ++ s → HaveOneFirst a b
marked_first a b r s x y e =
    let left : marked a ++ r ≡ 60 ∷ 32 ∷ (x.front ++ 10 ∷ (marked x.rest ++ r)) =
    ap (λ (l : List ℕ). l ++ r) (ap (λ (l : List ℕ). marked l) x.is ∙ marked_line x.front x.rest x.whole) ∙
    ap (λ (l : List ℕ). 60 ∷ 32 ∷ l) (append_assoc x.front (10 ∷ marked x.rest) r) in
    let right : marked b ++ s ≡ 60 ∷ 32 ∷ (y.front ++ 10 ∷ (marked y.rest ++ s)) =
    ap (λ (l : List ℕ). l ++ s) (ap (λ (l : List ℕ). marked l) y.is ∙ marked_line y.front y.rest y.whole) ∙
    ap (λ (l : List ℕ). 60 ∷ 32 ∷ l) (append_assoc y.front (10 ∷ marked y.rest) s) in
    let one = split_same 10 x.front y.front (marked x.rest ++ r) (marked y.rest ++ s) x.whole y.whole
    (ap (drop 2) (sym left ∙ e ∙ right)) in
    record {
      line = x.front ++ 10 ∷ [];
      ends = record { front = x.front; parts = refl; none = x.whole };
      left = x.rest;
      right = y.rest;
      a_is = x.is ∙ sym (append_assoc x.front (10 ∷ []) x.rest);
      b_is = y.is ∙ ap (λ (l : List ℕ). l ++ 10 ∷ y.rest) (sym one.0) ∙ sym (append_assoc x.front (10 ∷ []) y.rest);
    }
