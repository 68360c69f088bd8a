-- The lines of a text, and one turn after another.
use Rattle.std.proofs.Common.{◌≡◌, ◌≢◌, ℕ, suc, ◌<◌, Bool, true, false, List, [], ◌∷◌, ◌++◌, length, Option, refl, sym, ap, subst, ◌∙◌, ◌⊎◌}
use Rattle.std.proofs.Common.{inl, inr, append_assoc, append-nil}
use Rattle.std.specs.Io.KnownBytes.{Appends, Consumes, IsAtEnd}
use Rattle.std.proofs.KnownBytes.{Consumes-nil}
use Rattle.std.proofs.lemmas.List.Elements.{All-nil, All-append, All-push}
use Rattle.std.proofs.lemmas.List.Concat.{flat_map-append}
use Rattle.line_io.specs.Lines.{IsUnbroken, joined, unended, with_newline}
use Rattle.ds_script.specs.declared.fault.ReplayFault.{ReplayFault}
use Rattle.ds_script.specs.declared.fault.ReplayFault.TheVariants.{BadLine, ReadFault, WriteFault, NoRoom}
use Rattle.ds_script.specs.declared.report.BadLines.TheVariants.{End}
use Rattle.ds_script.specs.Replay.{IsBadAfter}
use Rattle.ds_script.specs.Progress.{Reached, TakesLines, TakesText, EndsAtBad, LineStops, TextStops, LastStops, Turns, TurnStops}
use Rattle.ds_script.proofs.ProgressLemmas.{waits, takes_sent, takes_written, takes_none, takes_then, takes_after, same_count}

-- ---- lines of a text

joined-append : (ls ms : List (List ℕ)) → joined (ls ++ ms) ≡ joined ls ++ joined ms
joined-append ls ms = flat_map-append with_newline ls ms

joined_one : (l : List ℕ) → joined (l ∷ []) ≡ with_newline l
joined_one l = append-nil (with_newline l)

pub something : (bs : List ℕ) → bs ≢ [] → unended bs ≡ bs ∷ []
something [] some = absurd (some refl)
something (b ∷ bs) some = refl

-- no line of it is answered
pub text_none : (had has : Option (List ℕ)) (old new : Reached) (text : List ℕ) → TakesLines had has old [] new →
    TakesText had has old text new text
text_none had has old new text p = record { lines = []; split = refl; unbroken = All-nil IsUnbroken; takes = p }

-- one more line is answered
pub text_more : (a b c : Option (List ℕ)) (old mid new : Reached) (text rest line more l : List ℕ)
    → TakesText a b old text mid rest → rest ≡ line ++ more → line ≡ with_newline l → IsUnbroken l → TakesLines b c mid (l ∷ []) new
    → TakesText a c old text new more
text_more a b c old mid new text rest line more l p split is unbroken one =
    let lines : List (List ℕ) = p.lines in
    record {
      lines = lines ++ l ∷ [];
      split = p.split ∙ ap (λ t. joined lines ++ t) (split ∙ ap (λ t. t ++ more) (is ∙ sym (joined_one l))) ∙
          sym (append_assoc (joined lines) (joined (l ∷ [])) more) ∙ ap (λ t. t ++ more) (sym (joined-append lines (l ∷ [])));
      unbroken = All-push IsUnbroken lines l p.unbroken unbroken;
      takes = takes_then a b c old mid new lines (l ∷ []) p.takes one;
    }

-- answers are written, and no line is answered
pub text_sent : (a b c : Option (List ℕ)) (old mid new : Reached) (text rest : List ℕ) → TakesText a b old text mid rest →
    TakesLines b c mid [] new → TakesText a c old text new rest
text_sent a b c old mid new text rest p sent =
    record { lines = p.lines; split = p.split; unbroken = p.unbroken; takes = takes_after a b c old mid new p.lines p.takes sent }

-- the lines of a text, and then those of its rest with what was read after it
pub texts_then : (a b c : Option (List ℕ)) (old mid new : Reached) (text rest bytes more whole last : List ℕ)
    → TakesText a b old text mid rest → rest ++ bytes ≡ more → text ++ bytes ≡ whole → TakesText b c mid more new last
    → TakesText a c old whole new last
texts_then a b c old mid new text rest bytes more whole last p left all q =
    record {
      lines = p.lines ++ q.lines;
      split =
          sym all ∙ ap (λ t. t ++ bytes) p.split ∙ append_assoc (joined p.lines) rest bytes ∙ ap (λ t. joined p.lines ++ t) (left ∙ q.split)
          ∙ sym (append_assoc (joined p.lines) (joined q.lines) last) ∙ ap (λ t. t ++ last) (sym (joined-append p.lines q.lines));
      unbroken = All-append IsUnbroken p.lines q.lines p.unbroken q.unbroken;
      takes = takes_then a b c old mid new p.lines q.lines p.takes q.takes;
    }

-- nothing changed since
pub text_kept : {W : Type 0} (contents : W → Option (List ℕ)) (a : Option (List ℕ)) (b d : W) (old mid new : Reached)
    (text rest last : List ℕ) → TakesText a (contents b) old text mid rest → new ≡ mid → d ≡ b → last ≡ rest
    → TakesText a (contents d) old text new last
text_kept {W} contents a b d old mid new text rest last p same held left =
    let one : TakesText a (contents b) old text mid last = subst (λ (r : List ℕ). TakesText a (contents b) old text mid r) (sym left) p in
    let two : TakesText a (contents b) old text new last =
    subst (λ (r : Reached). TakesText a (contents b) old text r last) (sym same) one in
    subst (λ (w : W). TakesText a (contents w) old text new last) (sym held) two

-- the answers that waited are written before
pub text_after : (a b c : Option (List ℕ)) (old mid new : Reached) (text rest : List ℕ) → TakesLines a b old [] mid →
    TakesText b c mid text new rest → TakesText a c old text new rest
text_after a b c old mid new text rest p q =
    record { lines = q.lines; split = q.split; unbroken = q.unbroken; takes = takes_then a b c old mid new [] q.lines p q.takes }

-- ---- a text whose lines aren't all answered

-- its next line isn't answered
pub line_stops : (fault : ReplayFault) (to a b c : Option (List ℕ)) (old mid : Reached) (text rest line more l output : List ℕ)
    → TakesText a b old text mid rest → rest ≡ line ++ more → line ≡ with_newline l → IsUnbroken l → LineStops fault b c mid l output
    → TextStops fault to a c old text output
line_stops (BadLine number place expected) to a b c old mid text rest line more l output p split is unbroken s =
    let same : s.0.lines ≡ mid.lines = same_count b c mid s.0 s.1 in (
      s.0,
      rest,
      text_sent a b c old mid s.0 text rest p s.1,
      (
        s.2,
        s.3,
        record {
          line = l;
          more = 10 ∷ more;
          split = split ∙ ap (λ t. t ++ more) is ∙ append_assoc l (10 ∷ []) more;
          unbroken = unbroken;
          bad = subst (λ (n : ℕ). IsBadAfter n l place) (sym same) s.4;
          ends = inl (more, refl);
        },
        s.5 ∙ ap suc (sym same),
      ),
    )
line_stops ReadFault to a b c old mid text rest line more l output p split is unbroken s = absurd s
line_stops WriteFault to a b c old mid text rest line more l output p split is unbroken s =
    elim s.2 [
      | inl none ↦
          (s.1, rest, text_sent a b c old mid s.1 text rest p (subst (λ (ls : List (List ℕ)). TakesLines b c mid ls s.1) none s.3), tt)
      | inr all ↦ (
        s.1,
        more,
        text_more a b c old mid s.1 text rest line more l p split is unbroken
            (subst (λ (ls : List (List ℕ)). TakesLines b c mid ls s.1) all s.3),
        tt,
      )
    ]
line_stops NoRoom to a b c old mid text rest line more l output p split is unbroken s =
    (s.0, rest, text_sent a b c old mid s.0 text rest p s.1, s.2)

-- nor is its rest, with what was read after it
pub stops_then : (fault : ReplayFault) (to a b c : Option (List ℕ)) (old mid : Reached) (text rest bytes more whole output : List ℕ)
    → TakesText a b old text mid rest → rest ++ bytes ≡ more → text ++ bytes ≡ whole → TextStops fault to b c mid more output
    → TextStops fault to a c old whole output
stops_then fault to a b c old mid text rest bytes more whole output p left all s =
    (s.0, s.1, texts_then a b c old mid s.0 text rest bytes more whole s.1 p left all s.2, s.3)

pub stops_after : (fault : ReplayFault) (to a b c : Option (List ℕ)) (old mid : Reached) (text output : List ℕ) →
    TakesLines a b old [] mid → TextStops fault to b c mid text output → TextStops fault to a c old text output
stops_after fault to a b c old mid text output p s = (s.0, s.1, text_after a b c old mid s.0 text s.1 p s.2, s.3)

-- a front of a line is too long
pub overlong : (fault : ReplayFault) (to had has : Option (List ℕ)) (old : Reached) (front output : List ℕ) (number place : ℕ)
    → EndsAtBad fault number place had has old.waiting output → number ≡ suc old.lines → place ≡ 4096 → old.policy ≡ End → IsUnbroken front
    → 4096 < length front
    → TextStops fault to had has old front output
overlong (BadLine n p expected) to had has old front output number place e numbered placed ends unbroken long = (
  waits old output,
  front,
  text_none had has old (waits old output) front (takes_written had has old output e.2 e.3),
  (
    ends,
    refl,
    record {
      line = front;
      more = [];
      split = sym (append-nil front);
      unbroken =
          unbroken;
      bad = inl (long, e.1 ∙ placed);
      ends = inr (inr long);
    },
    e.0 ∙ numbered,
  ),
)
overlong ReadFault to had has old front output number place e numbered placed ends unbroken long = absurd e
overlong WriteFault to had has old front output number place e numbered placed ends unbroken long =
    (waits old e.1, front, text_none had has old (waits old e.1) front (takes_sent had has old e.0 e.1 e.2 e.3), tt)
overlong NoRoom to had has old front output number place e numbered placed ends unbroken long = absurd e

-- ---- the last line

-- it isn't answered
pub last_stops : (fault : ReplayFault) (to had has : Option (List ℕ)) (old : Reached) (pending output : List ℕ)
    → LineStops fault had has old pending output → unended pending ≡ pending ∷ [] → IsUnbroken pending → IsAtEnd to
    → LastStops fault to had has old pending output
last_stops (BadLine number place expected) to had has old pending output s one unbroken end =
    let same : s.0.lines ≡ old.lines = same_count had has old s.0 s.1 in
    inl (
      s.0,
      pending,
      text_none had has old s.0 pending s.1,
      (
        s.2,
        s.3,
        record {
          line = pending;
          more = [];
          split = sym (append-nil pending);
          unbroken = unbroken;
          bad =
              subst (λ (n : ℕ). IsBadAfter n pending place) (sym same) s.4;
          ends = inr (inl (refl, end));
        },
        s.5 ∙ ap suc (sym same),
      ),
    )
last_stops ReadFault to had has old pending output s one unbroken end = absurd s
last_stops WriteFault to had has old pending output s one unbroken end = inr
    (refl, (s.0, s.1, subst (λ (whole : List (List ℕ)). (s.0 ≡ []) ⊎ (s.0 ≡ whole)) (sym one) s.2, s.3))
last_stops NoRoom to had has old pending output s one unbroken end = inl (s.0, pending, text_none had has old s.0 pending s.1, s.2)

-- the writer failed before or after it
pub last_unsent : (to a b c : Option (List ℕ)) (old mid : Reached) (pending sent left output : List ℕ) (ls : List (List ℕ))
    → TakesLines a b old ls mid → (ls ≡ []) ⊎ (ls ≡ unended pending) → mid.waiting ≡ sent ++ left → Appends b c sent
    → LastStops WriteFault to a c old pending output
last_unsent to a b c old mid pending sent left output ls p which split written = inr
    (refl, (ls, waits mid left, which, takes_after a b c old mid (waits mid left) ls p (takes_sent b c mid sent left split written)))

pub last_after : (fault : ReplayFault) (to a b c : Option (List ℕ)) (old mid : Reached) (pending output : List ℕ) →
    TakesLines a b old [] mid → LastStops fault to b c mid pending output → LastStops fault to a c old pending output
last_after fault to a b c old mid pending output p s =
    elim s [
      | inl t ↦ inl (stops_after fault to a b c old mid pending output p t)
      | inr t ↦ inr (t.0, (t.1.0, t.1.1, t.1.2, takes_then a b c old mid t.1.1 [] t.1.0 p t.1.3))
    ]

-- ---- turns

-- more is read, and lines of it were answered
pub turns_more : (from to had has : Option (List ℕ)) (old new : Reached) (pending bytes whole rest : List ℕ)
    → Consumes from to bytes → whole ≡ pending ++ bytes → TakesText had has old whole new rest → IsUnbroken rest
    → Turns true from to had has old pending new rest
turns_more from to had has old new pending bytes whole rest read all text unbroken =
    (bytes, read, subst (λ (t : List ℕ). TakesText had has old t new rest) all text, unbroken)

-- nothing is
pub turns_idle : (from to had : Option (List ℕ)) (old : Reached) (pending rest : List ℕ) → Consumes from to [] → rest ≡ pending →
    IsUnbroken pending → Turns true from to had had old pending old rest
turns_idle from to had old pending rest read same unbroken =
    let whole : rest ≡ pending ++ [] = same ∙ sym (append-nil pending) in
    turns_more from to had had old old pending [] rest rest read whole (text_none had had old old rest (takes_none had old))
    (subst IsUnbroken (sym same) unbroken)

-- there is no more
pub turns_last : (from to had has : Option (List ℕ)) (old new : Reached) (pending whole rest : List ℕ)
    → Consumes from to [] → IsAtEnd to → whole ≡ pending → TakesLines had has old (unended whole) new → new.waiting ≡ []
    → Turns false from to had has old pending new rest
turns_last from to had has old new pending whole rest read end same takes none =
    (read, end, subst (λ (t : List ℕ). TakesLines had has old (unended t) new) same takes, none)

-- a turn stops in what was read
pub turn_stops : (fault : ReplayFault) (from to had has : Option (List ℕ)) (old : Reached) (pending bytes whole output : List ℕ)
    → Consumes from to bytes → whole ≡ pending ++ bytes → TextStops fault to had has old whole output
    → TurnStops fault from to had has old pending output
turn_stops fault from to had has old pending bytes whole output read all s = inl
    (bytes, read, subst (λ (t : List ℕ). TextStops fault to had has old t output) all s)

-- it stops at the last line
pub turn_stops_last : (fault : ReplayFault) (from to had has : Option (List ℕ)) (old : Reached) (pending whole output : List ℕ)
    → Consumes from to [] → IsAtEnd to → whole ≡ pending → LastStops fault to had has old whole output
    → TurnStops fault from to had has old pending output
turn_stops_last fault from to had has old pending whole output read end same s = inr
    (read, end, subst (λ (t : List ℕ). LastStops fault to had has old t output) same s)

-- the reader failed
pub turn_unread : (from to had : Option (List ℕ)) (old : Reached) (pending : List ℕ) → Consumes from to [] → IsUnbroken pending →
    TurnStops ReadFault from to had had old pending old.waiting
turn_unread from to had old pending read unbroken =
    turn_stops ReadFault from to had had old pending [] pending old.waiting read (sym (append-nil pending))
    (old, pending, text_none had had old old pending (takes_none had old), (refl, unbroken))

-- out of memory for what was read
pub turn_unkept : (from to had : Option (List ℕ)) (old : Reached) (pending bytes : List ℕ) → Consumes from to bytes →
    TurnStops NoRoom from to had had old pending old.waiting
turn_unkept from to had old pending bytes read = inl
    (bytes, read, (old, pending ++ bytes, text_none had had old old (pending ++ bytes) (takes_none had old), refl))

-- the answers that waited weren't written
pub turn_unsent : (from had has : Option (List ℕ)) (old : Reached) (pending sent left output : List ℕ) → old.waiting ≡ sent ++ left →
    Appends had has sent → TurnStops WriteFault from from had has old pending output
turn_unsent from had has old pending sent left output split written =
    inl (
      [],
      Consumes-nil from,
      (
        waits old left,
        pending ++ [],
        text_none had has old (waits old left) (pending ++ [])
            (takes_sent had has old sent left split written),
        tt,
      ),
    )

-- answers were written before a turn
pub turns_after : (more : Bool) (from to a b c : Option (List ℕ)) (old mid new : Reached) (pending rest : List ℕ) →
    TakesLines a b old [] mid → Turns more from to b c mid pending new rest → Turns more from to a c old pending new rest
turns_after true from to a b c old mid new pending rest p t = (t.0, t.1, text_after a b c old mid new (pending ++ t.0) rest p t.2, t.3)
turns_after false from to a b c old mid new pending rest p t = (t.0, t.1, takes_then a b c old mid new [] (unended pending) p t.2, t.3)

pub turn_stops_after : (fault : ReplayFault) (from to a b c : Option (List ℕ)) (old mid : Reached) (pending output : List ℕ)
    → TakesLines a b old [] mid → TurnStops fault from to b c mid pending output → TurnStops fault from to a c old pending output
turn_stops_after fault from to a b c old mid pending output p s =
    elim s [
      | inl t ↦ inl (t.0, t.1, stops_after fault to a b c old mid (pending ++ t.0) output p t.2)
      | inr t ↦ inr (t.0, t.1, last_after fault to a b c old mid pending output p t.2)
    ]
