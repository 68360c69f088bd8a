-- Answers to lines in order, bad ones too.
use Rattle.std.proofs.Common.{◌≡◌, ℕ, suc, ◌+◌, List, [], ◌∷◌, ◌++◌, length, Option, Result, Ok, Err, MatchResult, IfErr, refl, sym, ap}
use Rattle.std.proofs.Common.{subst, ◌∙◌, inl, inr, arith, append_assoc, append-nil, length-append}
use Rattle.std.specs.Io.KnownBytes.{Appends}
use Rattle.std.proofs.KnownBytes.{Appends-nil, Appends-trans}
use Rattle.ds_script.specs.declared.fault.ReplayFault.{ReplayFault}
use Rattle.ds_script.specs.declared.fault.ReplayFault.TheVariants.{BadLine, ReadFault, WriteFault, NoRoom}
use Rattle.ds_script.specs.declared.report.BadLines.{BadLines}
use Rattle.ds_script.specs.declared.report.BadLines.TheVariants.{End, GoOn}
use Rattle.ds_script.specs.Session.{SessionContent}
use Rattle.ds_script.specs.Answer.{AnswersLine}
use Rattle.ds_script.specs.Replay.{IsBadAfter, badline, AnswersLines}
use Rattle.ds_script.specs.Progress.{Reached, TakesLines, EndsAtBad, TellsBad, LineStops}

-- ---- results

-- each case of a result implies its weaker form
pub where_both : {T E : Type 0} {P P2 : T → Type 0} {Q Q2 : E → Type 0} (r : Result T E) → ((t : T) → P t → P2 t) →
    ((e : E) → Q e → Q2 e) → MatchResult r P Q → MatchResult r P2 Q2
where_both (Ok t) f g p = f t p
where_both (Err e) f g p = g e p

-- an error that is known
pub where_known : {T E : Type 0} (Q : E → Type 0) (r : Result T E) (y e : E) → r ≡ Err y → y ≡ e → Q e → IfErr r Q
where_known {T} {E} Q r y e at is q = subst (λ (s : Result T E). IfErr s Q) (sym at) (subst Q (sym is) q)

-- ---- counts

pub same_sum : (a b : ℕ) → a ≡ b → a ≡ b + 0
same_sum a b same = omega arith

pub none_more : (a b : ℕ) → a ≡ b + 0 → a ≡ b
none_more a b same = omega arith

none_first : (x y : ℕ) → x ≡ 0 → y ≡ x + y
none_first x y none = omega arith

one_first : (a b n : ℕ) → a ≡ b + suc n → a ≡ suc b + n
one_first a b n same = omega arith

sum_after : (a b c y : ℕ) → a ≡ b + c → a + y ≡ b + (c + y)
sum_after a b c y same = omega arith

sums : (a b c x y : ℕ) → b ≡ a + x → c ≡ b + y → c ≡ a + (x + y)
sums a b c x y first then = omega arith

-- ---- answers to lines

lines_both : (policy q : BadLines) (n k x y : ℕ) (a b c : SessionContent) (ls ms : List (List ℕ)) (o p : List ℕ)
    → q ≡ policy → k ≡ n + length ls → AnswersLines policy n a ls o x b → AnswersLines q k b ms p y c
    → AnswersLines policy n a (ls ++ ms) (o ++ p) (x + y) c
lines_both policy q n k x y a b c [] ms o p same e u v =
    let past : k ≡ n = none_more k n e in
    let sum : y ≡ x + y = none_first x y u.1 in
    let v0 : AnswersLines policy k b ms p y c = subst (λ (r : BadLines). AnswersLines r k b ms p y c) same v in
    let v1 : AnswersLines policy n b ms p y c = subst (λ (j : ℕ). AnswersLines policy j b ms p y c) past v0 in
    let v2 : AnswersLines policy n a ms p y c = subst (λ (h : SessionContent). AnswersLines policy n h ms p y c) u.2 v1 in
    let v3 : AnswersLines policy n a ms p (x + y) c = subst (λ (z : ℕ). AnswersLines policy n a ms p z c) sum v2 in
    subst (λ (t : List ℕ). AnswersLines policy n a ms (t ++ p) (x + y) c) (sym u.0) v3
lines_both policy q n k x y a b c (l ∷ ls) ms o p same e u v = (
  u.0,
  u.1,
  u.2 ++ p,
  u.3,
  u.4 + y,
  u.5,
  lines_both policy q (suc n) k u.4 y u.0 b c ls ms u.2 p same (one_first k n (length ls) e) u.6
      v,
  ap (λ t. t ++ p) u.7 ∙ append_assoc u.1 u.2 p,
  sum_after x u.3 u.4 y u.8,
)

-- ---- how far a replay has come

-- others of the answers wait
abbrev pub waits : Reached → List ℕ → Reached
waits old waiting = record old { waiting = waiting }

-- some of the answers that wait are written, and nothing else changes
pub takes_kept : (had has : Option (List ℕ)) (old new : Reached) (sent : List ℕ)
    → old.waiting ≡ sent ++ new.waiting → Appends had has sent → new.session ≡ old.session → new.lines ≡ old.lines → new.bad ≡ old.bad
    → new.policy ≡ old.policy
    → TakesLines had has old [] new
takes_kept had has old new sent split written session lines bad policy =
    record {
      output = [];
      sent = sent;
      bad = 0;
      answers = (refl, refl, session);
      split = append-nil old.waiting ∙ split;
      written =
          written;
      counted = same_sum new.lines old.lines lines;
      told = same_sum new.bad old.bad bad;
      policy = policy;
    }

pub takes_sent : (had has : Option (List ℕ)) (old : Reached) (sent left : List ℕ) → old.waiting ≡ sent ++ left → Appends had has sent →
    TakesLines had has old [] (waits old left)
takes_sent had has old sent left split written = takes_kept had has old (waits old left) sent split written refl refl refl refl

-- all of them are
pub takes_written : (had has : Option (List ℕ)) (old : Reached) (waiting : List ℕ) → Appends had has old.waiting → waiting ≡ [] →
    TakesLines had has old [] (waits old waiting)
takes_written had has old waiting written none =
    takes_sent had has old old.waiting waiting (sym (append-nil old.waiting) ∙ ap (λ t. old.waiting ++ t) (sym none)) written

-- nothing is
pub takes_none : (had : Option (List ℕ)) (old : Reached) → TakesLines had had old [] old
takes_none had old = takes_sent had had old [] old.waiting refl (Appends-nil had)

-- a command's line is answered
pub takes_line : (had : Option (List ℕ)) (old new : Reached) (out text : List ℕ)
    → new.waiting ≡ old.waiting ++ out → AnswersLine old.lines old.session text out new.session → new.lines ≡ old.lines + 1
    → new.bad ≡ old.bad → new.policy ≡ old.policy
    → TakesLines had had old (text ∷ []) new
takes_line had old new out text grown line counted told policy =
    record {
      output = out;
      sent = [];
      bad = 0;
      answers = (new.session, out, [], 0, 0, inl (line, refl), (refl, refl, refl), sym (append-nil out), refl);
      split = sym grown;
      written = Appends-nil had;
      counted = counted;
      told = same_sum new.bad old.bad told;
      policy = policy;
    }

-- a bad one is passed over
pub takes_bad : (had has : Option (List ℕ)) (old new : Reached) (number place : ℕ) (sent text : List ℕ)
    → old.policy ≡ GoOn → IsBadAfter old.lines text place → number ≡ suc old.lines
    → old.waiting ++ badline number place ≡ sent ++ new.waiting
    → Appends had has sent
    → new.session ≡ old.session → new.lines ≡ old.lines + 1 → new.bad ≡ old.bad + 1 → new.policy ≡ old.policy →
    TakesLines had has old (text ∷ []) new
takes_bad had has old new number place sent text goes bad numbered split written same counted told policy =
    let out : List ℕ = badline number place in
    record {
      output = out;
      sent = sent;
      bad = 1;
      answers = (
        new.session,
        out,
        [],
        1,
        0,
        inr (goes, same, refl, place, bad, ap (λ (n : ℕ). badline n place) numbered),
        (refl, refl, refl),
        sym (append-nil out),
        refl,
      );
      split = split;
      written = written;
      counted = counted;
      told = told;
      policy = policy;
    }

-- lines after lines
pub takes_then : (a b c : Option (List ℕ)) (old mid new : Reached) (ls ms : List (List ℕ)) → TakesLines a b old ls mid →
    TakesLines b c mid ms new → TakesLines a c old (ls ++ ms) new
takes_then a b c old mid new ls ms p q =
    record {
      output = p.output ++ q.output;
      sent = p.sent ++ q.sent;
      bad = p.bad + q.bad;
      answers = lines_both old.policy mid.policy old.lines mid.lines p.bad q.bad old.session mid.session new.session ls ms p.output
          q.output p.policy p.counted p.answers q.answers;
      split = sym (append_assoc old.waiting p.output q.output) ∙ ap (λ t. t ++ q.output) p.split ∙
          append_assoc p.sent mid.waiting q.output ∙ ap (λ t. p.sent ++ t) q.split ∙ sym (append_assoc p.sent q.sent new.waiting);
      written = Appends-trans a b c p.sent q.sent p.written q.written;
      counted = sums old.lines mid.lines new.lines (length ls) (length ms) p.counted q.counted ∙
          ap (λ n. old.lines + n) (sym (length-append ls ms));
      told = sums old.bad mid.bad new.bad p.bad q.bad p.told q.told;
      policy = q.policy ∙ p.policy;
    }

-- then some of the answers are written
pub takes_after : (a b c : Option (List ℕ)) (old mid new : Reached) (ls : List (List ℕ)) → TakesLines a b old ls mid →
    TakesLines b c mid [] new → TakesLines a c old ls new
takes_after a b c old mid new ls p q = subst (λ (ms : List (List ℕ)). TakesLines a c old ms new) (append-nil ls)
    (takes_then a b c old mid new ls [] p q)

-- no line is answered, so the count is the same
pub same_count : (had has : Option (List ℕ)) (old new : Reached) → TakesLines had has old [] new → new.lines ≡ old.lines
same_count had has old new p = none_more new.lines old.lines p.counted

-- ---- a line that isn't answered

-- a bad line ends the replay
pub end_stops : (fault : ReplayFault) (had has : Option (List ℕ)) (old : Reached) (text output : List ℕ) (number place : ℕ)
    → EndsAtBad fault number place had has old.waiting output → number ≡ suc old.lines → old.policy ≡ End → IsBadAfter old.lines text place
    → LineStops fault had has old text output
end_stops (BadLine n p expected) had has old text output number place e numbered ends bad = (
  waits old output,
  takes_written had has old output e.2 e.3,
  ends,
  refl,
  subst (IsBadAfter old.lines text) (sym e.1) bad,
  e.0 ∙
      numbered,
)
end_stops ReadFault had has old text output number place e numbered ends bad = absurd e
end_stops WriteFault had has old text output number place e numbered ends bad =
    ([], waits old e.1, inl refl, takes_sent had has old e.0 e.1 e.2 e.3)
end_stops NoRoom had has old text output number place e numbered ends bad = absurd e

-- it isn't passed over
pub pass_stops : (fault : ReplayFault) (had has : Option (List ℕ)) (old : Reached) (text output : List ℕ) (number place : ℕ)
    → TellsBad fault number place had has old.waiting output → number ≡ suc old.lines → old.policy ≡ GoOn → IsBadAfter old.lines text place
    → LineStops fault had has old text output
pass_stops (BadLine n p expected) had has old text output number place e numbered goes bad = absurd e
pass_stops ReadFault had has old text output number place e numbered goes bad = absurd e
pass_stops WriteFault had has old text output number place e numbered goes bad =
    let mid : Reached = record old { waiting = e.1; lines = old.lines + 1; bad = old.bad + 1 } in
    (text ∷ [], mid, inr refl, takes_bad had has old mid number place e.0 text goes bad numbered e.2 e.3 refl refl refl refl)
pass_stops NoRoom had has old text output number place e numbered goes bad =
    (waits old output, takes_sent had has old [] output (sym e.1) e.0, refl)

-- answers were written before
pub line_after : (fault : ReplayFault) (a b c : Option (List ℕ)) (old mid : Reached) (text output : List ℕ) → TakesLines a b old [] mid →
    LineStops fault b c mid text output → LineStops fault a c old text output
line_after (BadLine number place expected) a b c old mid text output p s =
    let same : mid.lines ≡ old.lines = same_count a b old mid p in
    (s.0, takes_then a b c old mid s.0 [] [] p s.1, s.2, s.3, subst (λ (n : ℕ). IsBadAfter n text place) same s.4, s.5 ∙ ap suc same)
line_after ReadFault a b c old mid text output p s = absurd s
line_after WriteFault a b c old mid text output p s = (s.0, s.1, s.2, takes_then a b c old mid s.1 [] s.0 p s.3)
line_after NoRoom a b c old mid text output p s = (s.0, takes_then a b c old mid s.0 [] [] p s.1, s.2)
