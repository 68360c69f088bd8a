-- A replay from its start to its end.
use Rattle.std.specs.List.{All}
use Rattle.std.proofs.Common.{◌≡◌, ◌≢◌, ℕ, suc, ◌+◌, Bool, true, false, List, [], ◌∷◌, ◌++◌, length, Option, refl, sym, ap, subst, ◌∙◌, ◌⊎◌}
use Rattle.std.proofs.Common.{inl, inr, arith, append_assoc, append-nil}
use Rattle.std.specs.Io.KnownBytes.{Appends, Consumes, IsAtEnd}
use Rattle.std.proofs.KnownBytes.{Appends-nil, Appends-trans, Consumes-nil, Consumes-trans}
use Rattle.std.proofs.lemmas.List.Elements.{All-nil}
use Rattle.line_io.specs.Lines.{IsUnbroken, joined, unended, HasLines}
use Rattle.ds_script.specs.declared.fault.ReplayFault.{ReplayFault}
use Rattle.ds_script.specs.declared.fault.ReplayFault.TheVariants.{BadLine, ReadFault, WriteFault, NoRoom}
use Rattle.ds_script.specs.declared.report.BadLines.{BadLines}
use Rattle.ds_script.specs.declared.report.BadLines.TheVariants.{End, GoOn}
use Rattle.ds_script.specs.Session.{SessionContent, IsOpened}
use Rattle.ds_script.specs.Replay.{AnswersLines, AreAnswers, AnswersFrom, IsAnsweredAs}
use Rattle.ds_script.specs.Replay.{IsReplayed, IsReplayedIn, IsAnsweredUpTo, IsAnsweredInPart}
use Rattle.ds_script.specs.Replay.{BeginsBadLine, StopsBy, StopsWith, StopsLater}
use Rattle.ds_script.specs.Progress.{Reached, TakesLines, TakesText, TakesNoneOrAll, TextStops, Turns, TurnStops, Stops, Settles}
use Rattle.ds_script.proofs.ProgressLemmas.{takes_kept, takes_then}
use Rattle.ds_script.proofs.RunLemmas.{text_sent, texts_then, stops_then}

-- ---- answers

are_answers : (policy : BadLines) (lines : List (List ℕ)) (bad : ℕ) (output : List ℕ) (start end : SessionContent) → IsOpened 256 start →
    AnswersLines policy 0 start lines output bad end → AreAnswers policy lines bad output
are_answers policy [] bad output start end opened a = (a.0, a.1)
are_answers policy (line ∷ lines) bad output start end opened a = (start, end, opened, a)

none_both : (n a b : ℕ) → n ≡ a + b → a ≡ 0 → b ≡ 0 → n ≡ 0
none_both n a b sum first rest = omega arith

-- none is bad where a bad line ends the replay
pub none_bad : (before : ℕ) (old new : SessionContent) (lines : List (List ℕ)) (out : List ℕ) (bad : ℕ) →
    AnswersLines End before old lines out bad new → bad ≡ 0
none_bad before old new [] out bad a = a.1
none_bad before old new (line ∷ lines) out bad a =
    let rest : a.4 ≡ 0 = none_bad (suc before) a.0 new lines a.2 a.4 a.6 in
    elim a.5 [
      | inl one ↦ none_both bad a.3 a.4 a.8 one.1 rest
      | inr told ↦ (let never : End ≡ GoOn = told.0 in cc)
    ]

none_of : (lines : List (List ℕ)) (bad : ℕ) (output : List ℕ) → AreAnswers End lines bad output → bad ≡ 0
none_of [] bad output a = a.1
none_of (line ∷ lines) bad output a = none_bad 0 a.0 a.1 (line ∷ lines) output bad a.3

pub answered_at_end : (input output : List ℕ) (count bad : ℕ) → IsReplayed End input count bad output → IsReplayed End input count 0 output
answered_at_end input output count bad a =
    record {
      lines = a.lines;
      split = a.split;
      answers =
          subst (λ (n : ℕ). AreAnswers End a.lines n output) (none_of a.lines bad output a.answers) a.answers;
      counted = a.counted;
    }

-- ---- whole lines

-- each with its newline
abbrev whole_lines : (lines : List (List ℕ)) → All IsUnbroken lines → HasLines (joined lines) lines
whole_lines lines unbroken =
    record {
      front = lines;
      last = [];
      text = sym (append-nil (joined lines));
      unbroken = unbroken;
      unbroken_last =
          All-nil (λ (x : ℕ). x ≢ 10);
      all = sym (append-nil lines);
    }

-- the last of which may have none
all_lines : (bytes last : List ℕ) (lines : List (List ℕ)) → bytes ≡ joined lines ++ last → All IsUnbroken lines → IsUnbroken last →
    HasLines bytes (lines ++ unended last)
all_lines bytes last lines split unbroken whole =
    record { front = lines; last = last; text = split; unbroken = unbroken; unbroken_last = whole; all = refl }

-- some of the answers are left
part_of : (A : List (List ℕ) → ℕ → List ℕ → Type 0) (to : Option (List ℕ)) (rest input output answers left : List ℕ) (count bad : ℕ) →
    IsAnsweredUpTo A rest input count bad answers → answers ≡ output ++ left → IsAnsweredInPart A to input output
part_of A to rest input output answers left count bad u same =
    record {
      front = joined u.lines;
      rest = rest;
      left = left;
      count = count;
      bad = bad;
      split = u.split;
      answered =
          record {
            lines = u.lines;
            split = whole_lines u.lines u.unbroken;
            answers =
                subst (λ (o : List ℕ). A u.lines bad o) same u.answers;
            counted = u.counted;
          };
      ends = inl refl;
    }

-- nothing was read
pub nothing_answered : (policy : BadLines) → IsAnsweredUpTo (AreAnswers policy) [] [] 0 0 []
nothing_answered policy = record { lines = []; unbroken = All-nil IsUnbroken; split = refl; answers = (refl, refl); counted = refl }

-- nor was it in a session
pub nothing_answered_in : (policy : BadLines) (before : ℕ) (old : SessionContent) →
    IsAnsweredUpTo (AnswersFrom policy before old) [] [] 0 0 []
nothing_answered_in policy before old =
    record { lines = []; unbroken = All-nil IsUnbroken; split = refl; answers = (old, (refl, refl, refl)); counted = refl }

-- ---- from the start

-- at the first line, after `before` others
abbrev pub start : SessionContent → BadLines → ℕ → Reached
start session policy before = record { session = session; waiting = []; lines = before; bad = 0; policy = policy }

-- what was read and answered since
pub record Come (from to had has : Option (List ℕ)) (policy : BadLines) (before : ℕ) (first : SessionContent) (now : Reached)
    (pending : List ℕ) : Type 0 where
  pub bytes : List ℕ
  pub read : Consumes from to bytes
  pub text : TakesText had has (start first policy before) bytes now pending

pub come_none : (from had : Option (List ℕ)) (old : Reached) (pending : List ℕ) → old.waiting ≡ [] → old.bad ≡ 0 → pending ≡ [] →
    Come from from had had old.policy old.lines old.session old pending
come_none from had old pending empty bad none =
    record {
      bytes = [];
      read = Consumes-nil from;
      text =
          record {
            lines = [];
            split = sym none;
            unbroken = All-nil IsUnbroken;
            takes =
                takes_kept had had (start old.session old.policy old.lines) old [] (sym empty) (Appends-nil had) refl refl bad refl;
          };
    }

-- a turn left more to read
pub come_more : (from mid to had is has : Option (List ℕ)) (policy : BadLines) (before : ℕ) (first : SessionContent) (old new : Reached)
    (pending rest : List ℕ)
    → Come from mid had is policy before first old pending → Turns true mid to is has old pending new rest
    → Come from to had has policy before first new rest × IsUnbroken rest
come_more from mid to had is has policy before first old new pending rest p t = (
  record {
    bytes = p.bytes ++ t.0;
    read = Consumes-trans from mid to p.bytes t.0 p.read t.1;
    text = texts_then had is has (start first policy before) old new p.bytes pending t.0 (pending ++ t.0) (p.bytes ++ t.0) rest p.text
        refl refl
        t.2;
  },
  t.3,
)

pub come_turn : (from mid to had is has : Option (List ℕ)) (policy : BadLines) (before : ℕ) (first : SessionContent) (old new : Reached)
    (pending rest : List ℕ)
    (more : Bool)
    → more ≡ true → Come from mid had is policy before first old pending → Turns more mid to is has old pending new rest
    → Come from to had has policy before first new rest × IsUnbroken rest
come_turn from mid to had is has policy before first old new pending rest more same p t =
    come_more from mid to had is has policy before first old new pending rest p (subst (λ (m : Bool). Turns m mid to is has old pending
    new rest) same t)

-- ---- to the end

read_all : (from mid to : Option (List ℕ)) (bytes : List ℕ) → Consumes from mid bytes → Consumes mid to [] → Consumes from to bytes
read_all from mid to bytes first second = subst (Consumes from to) (append-nil bytes) (Consumes-trans from mid to bytes [] first second)

-- all was read and answered
abbrev pub Answered : (from to had has : Option (List ℕ)) → BadLines → ℕ → (first last : SessionContent) → (total bad : ℕ) → Type 0
Answered from to had has policy before first last total bad = (input output : List ℕ) × Consumes from to input × IsAtEnd to ×
    Appends had has output × IsReplayedIn policy before first last input total bad output

come_whole : (from mid to had is has : Option (List ℕ)) (policy : BadLines) (before : ℕ) (first : SessionContent) (old new : Reached)
    (pending rest : List ℕ)
    → Come from mid had is policy before first old pending → IsUnbroken pending → Turns false mid to is has old pending new rest
    → Answered from to had has policy before first new.session new.lines new.bad
come_whole from mid to had is has policy before first old new pending rest p whole t =
    let lines : List (List ℕ) = p.text.lines ++ unended pending in
    let a : TakesLines had has (start first policy before) lines new =
    takes_then had is has (start first policy before) old new p.text.lines (unended pending) p.text.takes t.2 in
    let same : a.output ≡ a.sent = a.split ∙ ap (λ t. a.sent ++ t) t.3 ∙ append-nil a.sent in
    let bads : a.bad ≡ new.bad = omega (arith, a.told) in (
      p.bytes,
      a.output,
      read_all from mid to p.bytes p.read t.0,
      t.1,
      subst (Appends had has) (sym same) a.written,
      record {
        count = length lines;
        answered = record {
          lines = lines;
          split = all_lines p.bytes pending p.text.lines p.text.split p.text.unbroken whole;
          answers = subst (λ (n : ℕ). AnswersLines policy before first lines a.output n new.session) bads a.answers;
          counted = refl;
        };
        counted = a.counted;
      },
    )

pub come_end : (from mid to had is has : Option (List ℕ)) (policy : BadLines) (before : ℕ) (first : SessionContent) (old new : Reached)
    (pending rest : List ℕ) (more : Bool)
    → more ≡ false → Come from mid had is policy before first old pending → IsUnbroken pending →
    Turns more mid to is has old pending new rest
    → Answered from to had has policy before first new.session new.lines new.bad
come_end from mid to had is has policy before first old new pending rest more same p whole t =
    come_whole from mid to had is has policy before first old new pending rest p whole
    (subst (λ (m : Bool). Turns m mid to is has old pending new rest) same t)

-- ---- to a fault

-- some input was read and some output written, and the fault ended the replay there
abbrev pub Stopped : BadLines → ℕ → SessionContent → ReplayFault → (from to had has : Option (List ℕ)) → List ℕ → Type 0
Stopped policy before first fault from to had has waiting =
    (input output : List ℕ) × Consumes from to input × Appends had has output × Stops policy before first fault to input output waiting

-- whole lines were answered
up_to : (had has : Option (List ℕ)) (first : SessionContent) (policy : BadLines) (before : ℕ) (now : Reached) (input rest waiting : List ℕ)
    → (t : TakesText had has (start first policy before) input now rest) → now.waiting ≡ waiting
    → IsAnsweredUpTo (AnswersFrom policy before first) rest input (length t.lines) t.takes.bad (t.takes.sent ++ waiting)
up_to had has first policy before now input rest waiting t same =
    let split : t.takes.output ≡ t.takes.sent ++ waiting = t.takes.split ∙ ap (λ w. t.takes.sent ++ w) same in
    record {
      lines = t.lines;
      unbroken = t.unbroken;
      split = t.split;
      answers = (
        now.session,
        subst (λ (o : List ℕ). AnswersLines policy before first t.lines o t.takes.bad now.session) split t.takes.answers,
      );
      counted = refl;
    }

unwritten : (from to had has : Option (List ℕ)) (first : SessionContent) (policy : BadLines) (before : ℕ) (now : Reached)
    (input rest waiting : List ℕ)
    → Consumes from to input → (t : TakesText had has (start first policy before) input now rest)
    → Stopped policy before first WriteFault from to had has waiting
unwritten from to had has first policy before now input rest waiting read t = (
  input,
  t.takes.sent,
  read,
  t.takes.written,
  part_of (AnswersFrom policy before first) to rest input t.takes.sent (t.takes.sent ++ now.waiting) now.waiting
      (length t.lines) t.takes.bad (up_to had has first policy before now input rest now.waiting t refl) refl,
)

-- the bad line after those that were answered
bad_line_after : (lines : ℕ) (to : Option (List ℕ)) (rest : List ℕ) (number place total : ℕ) → total ≡ lines →
    BeginsBadLine lines to rest place × (number ≡ suc lines) → BeginsBadLine total to rest place × (number ≡ suc total)
bad_line_after lines to rest number place total same b =
    subst (λ (n : ℕ). BeginsBadLine n to rest place × (number ≡ suc n)) (sym same) b

text_stopped : (fault : ReplayFault) (from to had has : Option (List ℕ)) (first : SessionContent) (policy : BadLines) (before : ℕ)
    (input waiting : List ℕ)
    → Consumes from to input → TextStops fault to had has (start first policy before) input waiting
    → Stopped policy before first fault from to had has waiting
text_stopped (BadLine number place expected) from to had has first policy before input waiting read s =
    let t = s.2.takes in (
      input,
      t.sent,
      read,
      t.written,
      (
        sym t.policy ∙
            s.3.0,
        (
          length s.2.lines,
          t.bad,
          s.1,
          up_to had has first policy before s.0 input s.1 waiting s.2 s.3.1,
          bad_line_after s.0.lines to s.1 number place (before + length s.2.lines) (sym t.counted) (s.3.2, s.3.3),
        ),
      ),
    )
text_stopped ReadFault from to had has first policy before input waiting read s =
    let t = s.2.takes in (
      input,
      t.sent,
      read,
      t.written,
      (length s.2.lines, t.bad, s.1, up_to had has first policy before s.0 input s.1 waiting s.2 s.3.0, s.3.1),
    )
text_stopped WriteFault from to had has first policy before input waiting read s =
    unwritten from to had has first policy before s.0 input s.1 waiting read s.2
text_stopped NoRoom from to had has first policy before input waiting read s =
    let t = s.2.takes in (
      input,
      t.sent,
      read,
      t.written,
      (length s.2.lines, t.bad, s.1, up_to had has first policy before s.0 input s.1 waiting s.2 s.3, tt),
    )

-- the answer to the last line wasn't written whole
last_stopped : (from mid to had is has : Option (List ℕ)) (policy : BadLines) (before : ℕ) (first : SessionContent) (old : Reached)
    (pending waiting : List ℕ)
    → Come from mid had is policy before first old pending → IsUnbroken pending → Consumes mid to [] → IsAtEnd to
    → TakesNoneOrAll is has old (unended pending)
    → Stopped policy before first WriteFault from to had has waiting
last_stopped from mid to had is has policy before first old pending waiting p whole read end s =
    let input : Consumes from to p.bytes = read_all from mid to p.bytes p.read read in
    elim s.2 [
      | inl none ↦
          (let sent : TakesLines is has old [] s.1 = subst (λ (ls : List (List ℕ)). TakesLines is has old ls s.1) none s.3 in
          unwritten from to had has first policy before s.1 p.bytes pending waiting input
          (text_sent had is has (start first policy before) old s.1 p.bytes pending p.text sent))
      | inr all ↦
          (let one : TakesLines is has old (unended pending) s.1 = subst (λ (ls : List (List ℕ)). TakesLines is has old ls s.1) all s.3 in
          let lines : List (List ℕ) = p.text.lines ++ unended pending in
          let a : TakesLines had has (start first policy before) lines s.1 =
          takes_then had is has (start first policy before) old s.1 p.text.lines (unended pending) p.text.takes one in (
            p.bytes,
            a.sent,
            input,
            a.written,
            record {
              front = p.bytes;
              rest = [];
              left = s.1.waiting;
              count = length lines;
              bad = a.bad;
              split = sym (append-nil p.bytes);
              answered = record {
                lines = lines;
                split = all_lines p.bytes pending p.text.lines p.text.split p.text.unbroken whole;
                answers = (
                  s.1.session,
                  subst (λ (o : List ℕ). AnswersLines policy before first lines o a.bad s.1.session) a.split a.answers,
                );
                counted = refl;
              };
              ends = inr (refl, end);
            },
          ))
    ]

-- a turn stopped
pub come_stop : (fault : ReplayFault) (from mid to had is has : Option (List ℕ)) (policy : BadLines) (before : ℕ) (first : SessionContent)
    (old : Reached)
    (pending waiting : List ℕ)
    → Come from mid had is policy before first old pending → IsUnbroken pending → TurnStops fault mid to is has old pending waiting
    → Stopped policy before first fault from to had has waiting
come_stop fault from mid to had is has policy before first old pending waiting p whole s =
    elim s [
      | inl t ↦
          text_stopped fault from to had has first policy before (p.bytes ++ t.0) waiting
          (Consumes-trans from mid to p.bytes t.0 p.read t.1)
          (stops_then fault to had is has (start first policy before) old p.bytes pending t.0 (pending ++ t.0) (p.bytes ++ t.0) waiting
          p.text refl refl t.2)
      | inr t ↦ elim t.2 [
        | inl u ↦
            text_stopped fault from to had has first policy before p.bytes waiting (read_all from mid to p.bytes p.read t.0)
            (stops_then fault to had is has (start first policy before) old p.bytes pending [] pending p.bytes waiting p.text
            (append-nil pending) (append-nil p.bytes) u)
        | inr u ↦ subst (λ (f : ReplayFault). Stopped policy before first f from to had has waiting) (sym u.0)
            (last_stopped from mid to had is has policy before first old pending waiting p whole t.0 t.1 u.1)
      ]
    ]

-- the turns are over
pub come_over : (from to had has : Option (List ℕ)) (policy : BadLines) (before : ℕ) (first : SessionContent) (now : Reached) (pending :
    List ℕ) →
    Come from to had has policy before first now pending → IsUnbroken pending →
    Stopped policy before first ReadFault from to had has now.waiting
come_over from to had has policy before first now pending p whole =
    text_stopped ReadFault from to had has first policy before p.bytes now.waiting p.read (now, pending, p.text, (refl, whole))

-- ---- after a fault

-- what the caller learns
abbrev pub Told : BadLines → ℕ → SessionContent → ReplayFault → (from to had has : Option (List ℕ)) → Type 0
Told policy before first fault from to had has = (input output : List ℕ) × Consumes from to input × Appends had has output ×
    StopsLater policy before first fault to input output

-- the answers that waited were written, or the writer failed
settles : (policy : BadLines) (before : ℕ) (first : SessionContent) (fault given : ReplayFault) (from to had is has : Option (List ℕ))
    (input output waiting rest : List ℕ)
    (count bad : ℕ)
    → Consumes from to input → Appends had is output →
    IsAnsweredUpTo (AnswersFrom policy before first) rest input count bad (output ++ waiting)
    → StopsLater policy before first fault to input (output ++ waiting)
    → ((given ≡ fault) × Appends is has waiting) ⊎
    ((given ≡ WriteFault) × ((sent left : List ℕ) × (waiting ≡ sent ++ left) × Appends is has sent)) →
    Told policy before first given from to had has
settles policy before first fault given from to had is has input output waiting rest count bad read written up s h =
    elim h [
      | inl w ↦ subst (λ (f : ReplayFault). Told policy before first f from to had has) (sym w.0)
          (input, output ++ waiting, read, Appends-trans had is has output waiting written w.1, s)
      | inr w ↦
          (let v = w.1 in
          subst (λ (f : ReplayFault). Told policy before first f from to had has) (sym w.0) (
            input,
            output ++ v.0,
            read,
            Appends-trans had is has output v.0 written v.3,
            part_of (AnswersFrom policy before first) to rest input (output ++ v.0) (output ++ waiting) v.1 count bad up
                (ap (λ t. output ++ t) v.2 ∙ sym (append_assoc output v.0 v.1)),
          ))
    ]

pub settled_stops : (policy : BadLines) (before : ℕ) (first : SessionContent) (fault given : ReplayFault) (from to had is has : Option
    (List ℕ)) (waiting : List ℕ)
    → Stopped policy before first fault from to had is waiting → Settles given fault is has waiting →
    Told policy before first given from to had has
settled_stops policy before first (BadLine number place expected) given from to had is has waiting s h =
    let at = s.4.1 in
    settles policy before first (BadLine number place expected) given from to had is has s.0 s.1 waiting at.2 at.0 at.1 s.2 s.3 at.3 s.4 h
settled_stops policy before first ReadFault given from to had is has waiting s h =
    settles policy before first ReadFault given from to had is has s.0 s.1 waiting s.4.2 s.4.0 s.4.1 s.2 s.3 s.4.3 s.4 h
settled_stops policy before first WriteFault given from to had is has waiting s h =
    subst (λ (f : ReplayFault). Told policy before first f from to had has) (sym h.0)
    (s.0, s.1, s.2, subst (λ (w : Option (List ℕ)). Appends had w s.1) (sym h.1) s.3, s.4)
settled_stops policy before first NoRoom given from to had is has waiting s h =
    settles policy before first NoRoom given from to had is has s.0 s.1 waiting s.4.2 s.4.0 s.4.1 s.2 s.3 s.4.3 s.4 h

-- ---- from a new session

-- the answers from a session that was just opened are a new script's
pub opened_answers : (policy : BadLines) (first : SessionContent) (lines : List (List ℕ)) (bad : ℕ) (output : List ℕ) → IsOpened 256 first →
    AnswersFrom policy 0 first lines bad output → AreAnswers policy lines bad output
opened_answers policy first lines bad output opened a = are_answers policy lines bad output first a.0 opened a.1

pub opened_replayed : (policy : BadLines) (first last : SessionContent) (input : List ℕ) (total bad : ℕ) (output : List ℕ) →
    IsOpened 256 first → IsReplayedIn policy 0 first last input total bad output → IsReplayed policy input total bad output
opened_replayed policy first last input total bad output opened r =
    record {
      lines = r.answered.lines;
      split = r.answered.split;
      answers = are_answers policy r.answered.lines bad output first last opened r.answered.answers;
      counted = omega (arith, r.answered.counted, r.counted);
    }

opened_up_to : (policy : BadLines) (first : SessionContent) (rest input : List ℕ) (count bad : ℕ) (output : List ℕ) → IsOpened 256 first →
    IsAnsweredUpTo (AnswersFrom policy 0 first) rest input count bad output → IsAnsweredUpTo (AreAnswers policy) rest input count bad output
opened_up_to policy first rest input count bad output opened u =
    record {
      lines = u.lines;
      unbroken = u.unbroken;
      split = u.split;
      answers = opened_answers policy first u.lines bad output opened u.answers;
      counted = u.counted;
    }

pub opened_stops : (policy : BadLines) (first : SessionContent) (fault : ReplayFault) (to : Option (List ℕ)) (input output : List ℕ) →
    IsOpened 256 first → StopsLater policy 0 first fault to input output → StopsWith policy fault to input output
opened_stops policy first (BadLine number place expected) to input output opened s =
    (s.0, (s.1.0, s.1.1, s.1.2, opened_up_to policy first s.1.2 input s.1.0 s.1.1 output opened s.1.3, s.1.4))
opened_stops policy first ReadFault to input output opened s =
    (s.0, s.1, s.2, opened_up_to policy first s.2 input s.0 s.1 output opened s.3, s.4)
opened_stops policy first WriteFault to input output opened s =
    record {
      front = s.front;
      rest = s.rest;
      left = s.left;
      count = s.count;
      bad = s.bad;
      split = s.split;
      answered = record {
        lines = s.answered.lines;
        split = s.answered.split;
        answers = opened_answers policy first s.answered.lines s.bad (output ++ s.left) opened s.answered.answers;
        counted = s.answered.counted;
      };
      ends = s.ends;
    }
opened_stops policy first NoRoom to input output opened s =
    (s.0, s.1, s.2, opened_up_to policy first s.2 input s.0 s.1 output opened s.3, s.4)
