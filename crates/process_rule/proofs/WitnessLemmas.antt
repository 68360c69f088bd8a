-- Runs of events, step by step.
use Rattle.std.proofs.Common.{◌≡◌, ◌⊎◌, ℕ, false, List, [], ◌∷◌, Option, Some, None, refl, sym, ap, ◌∙◌, inl, arith}
use Rattle.history.specs.History.{Path}
use Rattle.std.proofs.lemmas.Option.{same_Some}
use Rattle.process_rule.specs.Kernel.{Process, Processes, IsFreeNumber, put_process}
use Rattle.process_rule.specs.Supervisor.{InstanceState, Host}
use Rattle.process_rule.specs.Events.{Event, after_event, May, OccurAll, IsNewHost, leader_of, stopping}
use Rattle.process_rule.specs.Events.Event.{Start, Write, Begin, Report, Reap, Clear, Exit}
use Rattle.process_rule.specs.Witness.{new_host, NumbersComeAgain}
use Rattle.process_rule.specs.Careless.{CarelessOccurs, IsCarelesslyReached}
use Rattle.process_rule.proofs.PutLemmas.{is_none, at_put, put_same}

unfoldable pub ends : Host → List Event → Host
ends w [] = w
ends w (e ∷ es) = ends (after_event w e) es

-- ---- processes of worked hosts
-- Whether all processes have this number.
abbrev pub Only : ℕ → Processes → Type 0
Only n processes = (q : ℕ) (r : Process) → processes q ≡ Some r → q ≡ n

pub only_none : (n : ℕ) → Only n (λ q. None)
only_none n q r e = is_none None r refl e

pub only_put : (n : ℕ) (o : Option Process) (processes : Processes) → Only n processes → Only n (put_process n o processes)
only_put n o processes f = at_put (λ q r. q ≡ n) n o processes (λ r e. refl) (λ q r d e. f q r e)

pub none_free : (n : ℕ) → IsFreeNumber (λ q. None) n
none_free n = record { process = refl; group = λ q r e g. is_none None r refl e }

-- Nothing is left where the only process is reaped.
pub gone : (n : ℕ) (processes : Processes) → Only n processes → (q : ℕ) (r : Process) → put_process n None processes q ≡ Some r → ⊥
gone n processes f = at_put (λ q r. ⊥) n None processes (λ r e. is_none None r refl e) (λ q r d e. d (f q r e))

pub gone_free : (n : ℕ) (processes : Processes) → Only n processes → IsFreeNumber (put_process n None processes) n
gone_free n processes f =
    record { process = put_same n None processes; group = λ q r e g. absurd (gone n processes f q r e) }

-- Whether all groups have this number.
abbrev pub Grouped : ℕ → Processes → Type 0
Grouped n processes = (q : ℕ) (r : Process) → processes q ≡ Some r → r.group ≡ n

pub grouped_none : (n : ℕ) → Grouped n (λ q. None)
grouped_none n q r e = is_none None r refl e

pub grouped_put : (n p : ℕ) (s : Process) (processes : Processes) → s.group ≡ n → Grouped n processes →
    Grouped n (put_process p (Some s) processes)
grouped_put n p s processes g f =
    at_put (λ q r. r.group ≡ n) p (Some s) processes (λ r e. ap (λ (y : Process). y.group) (sym (same_Some s r e)) ∙ g) (λ q r d e. f q r e)

pub grouped_gone : (n p : ℕ) (processes : Processes) → Grouped n processes → Grouped n (put_process p None processes)
grouped_gone n p processes f =
    at_put (λ q r. r.group ≡ n) p None processes (λ r e. is_none None r refl e) (λ q r d e. f q r e)

pub other_free : (n m : ℕ) (processes : Processes) → Grouped n processes → processes m ≡ None → (n ≡ m → ⊥) → IsFreeNumber processes m
other_free n m processes f e d = record { process = e; group = λ q r a g. d (sym (f q r a) ∙ g) }

-- ---- one instance
abbrev pub first : ℕ → Process
first g = leader_of 0 g 7 0

abbrev pub exited : Process
exited = record (leader_of 0 1 7 0) { alive = false }

abbrev pub one : InstanceState
one = record { generation = 1; leader = 7; deadline = None }

abbrev pub reported : InstanceState
reported = record { generation = 1; leader = 7; deadline = Some 0 }

pub no_instance : (i : InstanceState) → None ≡ Some i → i.deadline ≡ None → ⊥
no_instance i e = is_none None i refl e

pub not_up : (i j : InstanceState) (t : ℕ) → Some (stopping i t) ≡ Some j → j.deadline ≡ None → ⊥
not_up i j t e o = is_none j.deadline t o (ap (λ (y : InstanceState). y.deadline) (sym (same_Some (stopping i t) j e)))

-- The host on which it has begun.
abbrev pub begun : Host
begun = after_event (after_event (after_event (after_event new_host (Write 65)) (Clear 0)) (Start 0)) (Begin 0 1 7)

module _ (careless : Host → Event → Type 0) where
  abbrev pub Each : Host → List Event → Type 0
  Each w [] = Unit {0}
  Each w (e ∷ es) = (May w e ⊎ careless w e) × Each (after_event w e) es

  occur : (w : Host) (es : List Event) → Each w es → Path (CarelessOccurs careless) w es (ends w es)
  unfolding ends
  occur w [] m = refl
  occur w (e ∷ es) m = (after_event w e, (m.0, refl), occur (after_event w e) es m.1)

  pub reached : (es : List Event) → Each new_host es → IsCarelesslyReached careless (ends new_host es)
  reached es m = record { events = es; occurred = occur new_host es m }

  -- Once an instance has begun.
  pub reached_begun : (es : List Event) → Each begun es → IsCarelesslyReached careless (ends begun es)
  unfolding ends
  reached_begun es m =
      reached (Write 65 ∷ Clear 0 ∷ Start 0 ∷ Begin 0 1 7 ∷ es) (
        inl (omega arith),
        (
          inl (λ q s e. is_none None s refl e),
          (inl (refl, no_instance, omega arith), (inl (refl, refl, refl, none_free 7), m)),
        ),
      )

-- ---- a number that is given again
abbrev pub AllMay : Host → List Event → Type 0
AllMay w [] = Unit {0}
AllMay w (e ∷ es) = May w e × AllMay (after_event w e) es

occur_all : (w : Host) (es : List Event) → AllMay w es → OccurAll w es (ends w es)
unfolding ends
occur_all w [] m = refl
occur_all w (e ∷ es) m = (after_event w e, (m.0, refl), occur_all (after_event w e) es m.1)

abbrev events : List Event
events =
    Write 65 ∷ Clear 0 ∷ Start 0 ∷ Begin 0 1 7 ∷ Exit 7 (first 1) ∷ Report 0 one exited ∷ Reap 0 reported exited ∷ Start 0 ∷ Begin 0 2 7 ∷
    []

pub only_exited : Only 7 (put_process 7 (Some exited) begun.processes)
only_exited = only_put 7 (Some exited) begun.processes (only_put 7 (Some (first 1)) (λ q. None) (only_none 7))

may : AllMay new_host events
may = (
  omega arith,
  (
    λ q s e. is_none None s refl e,
    (
      (refl, no_instance, omega arith),
      (
        (refl, refl, refl, none_free 7),
        (
          refl,
          (
            (refl, refl, refl, refl),
            (
              (refl, (0, refl), refl, refl, λ q s e found label. only_exited q s e),
              (
                (refl, no_instance, omega arith),
                (
                  (
                    refl,
                    refl,
                    refl,
                    gone_free 7 (put_process 7 (Some exited) begun.processes)
                        only_exited,
                  ),
                  tt,
                ),
              ),
            ),
          ),
        ),
      ),
    ),
  ),
)

pub begins : IsNewHost new_host
begins =
    record {
      processes = λ q r e. is_none None r refl e;
      services = λ k. refl;
      given = refl;
      begun = refl;
      reported = refl;
    }

pub numbers_come_again : NumbersComeAgain
unfolding ends
numbers_come_again =
    record {
      host = ends new_host events;
      events = events;
      new = begins;
      occurred = occur_all new_host events may;
      instance = refl;
      begun = refl;
      reported = refl;
    }
