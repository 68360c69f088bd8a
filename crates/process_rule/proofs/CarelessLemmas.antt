-- Runs of careless supervisors.
use Rattle.std.proofs.Common.{◌≡◌, ◌⊎◌, ℕ, true, false, [], ◌∷◌, Some, None, refl, sym, ◌∙◌, inl, inr, arith}
use Rattle.std.proofs.lemmas.Option.{same_Some}
use Rattle.process_rule.specs.Kernel.{Process, Processes, IsFreeNumber, put_process}
use Rattle.process_rule.specs.Supervisor.{InstanceState, Host}
use Rattle.process_rule.specs.Events.{IsDue, leader_of, stopping}
use Rattle.process_rule.specs.Events.Event.{Start, Stop, Shorten, Write, Begin, Report, Kill, Reap, Clear, Fork, Exit, Vanish, Restart}
use Rattle.process_rule.specs.Witness.{new_host}
use Rattle.process_rule.specs.Careless.{ReapsEarly, EarlyReapersMiss, BeginsUnclean, BeginsBeside, ClearsBlindly, ReapsBlindly}
use Rattle.process_rule.specs.Careless.{CarelessStartsDouble}
use Rattle.process_rule.specs.Careless.{StartsUnwritten, WritesBack, BeginsUnasked, CarelessGenerationsRepeat, ReportsLiving, ReportsAgain}
use Rattle.process_rule.specs.Careless.{CarelessReportsLie}
use Rattle.process_rule.specs.Careless.{KillsEarly, StopsAgain, Lengthens, CarelessKillsAreEarly, IsDouble, IsKilledEarly}
use Rattle.process_rule.specs.Careless.{IsCarelesslyReached}
use Rattle.process_rule.proofs.PutLemmas.{is_none}
use Rattle.process_rule.proofs.WitnessLemmas.{ends, only_exited, none_free, gone, gone_free, Grouped, grouped_none, grouped_put}
use Rattle.process_rule.proofs.WitnessLemmas.{grouped_gone, other_free}
use Rattle.process_rule.proofs.WitnessLemmas.{first, exited, one, reported, begun, no_instance, not_up, reached, reached_begun}

seven_is : (n : ℕ) → 7 ≡ n → n ≡ 8 ⊎ n ≡ 9 → ⊥
seven_is n e (inl f) = let z : 7 ≡ 8 = e ∙ f in omega arith
seven_is n e (inr f) = let z : 7 ≡ 9 = e ∙ f in omega arith

grouped_begun : Grouped 7 begun.processes
grouped_begun = grouped_put 7 7 (first 1) (λ q. None) refl (grouped_none 7)

free_8 : IsFreeNumber begun.processes 8
free_8 = other_free 7 8 begun.processes grouped_begun refl (λ e. seven_is 8 e (inl refl))

-- ---- a leader is reaped early
pub early_reapers_miss : EarlyReapersMiss
unfolding ends
early_reapers_miss =
    let es = Exit 7 (first 1) ∷ Report 0 one exited ∷ Vanish 7 exited ∷ Clear 1 ∷ Start 1 ∷ Begin 1 2 7 ∷ [] in (
      ends begun es,
      reached_begun ReapsEarly es (
        inl refl,
        (
          inl (refl, refl, refl, refl),
          (
            inr (refl, refl),
            (
              inl (λ q s e f l. gone 7 (put_process 7 (Some exited) begun.processes) only_exited q s e),
              (
                inl (refl, no_instance, omega arith),
                (inl (refl, refl, refl, gone_free 7 (put_process 7 (Some exited) begun.processes) only_exited), tt),
              ),
            ),
          ),
        ),
      ),
      (reported, refl, (leader_of 1 2 7 0, refl, refl, refl, refl)),
    )

-- ---- two instances at once
double : (h : Host) (g p run : ℕ) → h.processes 7 ≡ Some (first 1) → h.processes p ≡ Some (leader_of 0 g p run) → (1 ≡ g → ⊥) → IsDouble h
double h g p run a b d =
    record {
      one = first 1;
      two = leader_of 0 g p run;
      numbers = (7, p);
      there = (a, b);
      alive = (refl, refl);
      found = (refl, refl);
      labels = (refl, refl);
      differ = d;
    }

one_isnt : (g : ℕ) → 2 ≡ g ⊎ 65 ≡ g → 1 ≡ g → ⊥
one_isnt g (inl e) f = let z : 1 ≡ 2 = f ∙ sym e in omega arith
one_isnt g (inr e) f = let z : 1 ≡ 65 = f ∙ sym e in omega arith

unclean : (h : Host) × IsCarelesslyReached BeginsUnclean h × IsDouble h
unfolding ends
unclean =
    let es = Restart ∷ Write 129 ∷ Start 0 ∷ Begin 0 65 8 ∷ [] in (
      ends begun es,
      reached_begun BeginsUnclean es (inl tt, (inl (omega arith), (inl (refl, no_instance, omega arith), (inr (refl, refl, free_8), tt)))),
      double (ends begun es) 65 8 1 refl refl (one_isnt 65 (inr refl)),
    )

beside : (h : Host) × IsCarelesslyReached BeginsBeside h × IsDouble h
unfolding ends
beside =
    let es = Stop 0 one 10 ∷ Start 0 ∷ Begin 0 2 8 ∷ [] in (
      ends begun es,
      reached_begun BeginsBeside es
          (inl (refl, refl), (inl (refl, (λ i e. not_up one i 10 e), omega arith), (inr (refl, refl, free_8), tt))),
      double (ends begun es) 2 8 0 refl refl (one_isnt 2 (inl refl)),
    )

cleared : (h : Host) × IsCarelesslyReached ClearsBlindly h × IsDouble h
unfolding ends
cleared =
    let es = Restart ∷ Clear 0 ∷ Write 129 ∷ Start 0 ∷ Begin 0 65 8 ∷ [] in (
      ends begun es,
      reached_begun ClearsBlindly es
          (inl tt, (inr tt, (inl (omega arith), (inl (refl, no_instance, omega arith), (inl (refl, refl, refl, free_8), tt))))),
      double (ends begun es) 65 8 1 refl refl (one_isnt 65 (inr refl)),
    )

abbrev child : Process
child = record (leader_of 0 1 7 0) { leads = false }

abbrev left : Processes
left = put_process 7 None (put_process 7 (Some exited) (put_process 8 (Some child) begun.processes))

free_9 : IsFreeNumber left 9
free_9 =
    other_free 7 9 left
    (grouped_gone 7 7 (put_process 7 (Some exited) (put_process 8 (Some child) begun.processes))
    (grouped_put 7 7 exited (put_process 8 (Some child) begun.processes) refl (grouped_put 7 8 child begun.processes refl grouped_begun)))
    refl (λ e. seven_is 9 e (inr refl))

reaped : (h : Host) × IsCarelesslyReached ReapsBlindly h × IsDouble h
unfolding ends
reaped =
    let es = Fork 7 (first 1) 8 ∷ Exit 7 (first 1) ∷ Report 0 one exited ∷ Reap 0 reported exited ∷ Start 0 ∷ Begin 0 2 9 ∷ [] in (
      ends begun es,
      reached_begun ReapsBlindly es (
        inl (refl, refl, refl, free_8),
        (
          inl refl,
          (
            inl (refl, refl, refl, refl),
            (
              inr (refl, (0, refl), refl, refl),
              (inl (refl, no_instance, omega arith), (inl (refl, refl, refl, free_9), tt)),
            ),
          ),
        ),
      ),
      record {
        one = child;
        two = leader_of 0 2 9 0;
        numbers = (8, 9);
        there = (refl, refl);
        alive = (refl, refl);
        found = (refl, refl);
        labels = (refl, refl);
        differ = one_isnt 2 (inl refl);
      },
    )

pub careless_starts_double : CarelessStartsDouble
careless_starts_double = record { unclean = unclean; beside = beside; cleared = cleared; reaped = reaped }

-- ---- generations that repeat
pub careless_generations_repeat : CarelessGenerationsRepeat
unfolding ends
careless_generations_repeat =
    record {
      unwritten =
          let es = Start 0 ∷ Restart ∷ Start 0 ∷ [] in
          (ends new_host es, reached StartsUnwritten es (inr refl, (inl tt, (inr refl, tt))), refl);
      back =
          let es = Write 65 ∷ Start 0 ∷ Write 1 ∷ Restart ∷ Write 65 ∷ Start 0 ∷ [] in (
            ends new_host es,
            reached WritesBack es (
              inl (omega arith),
              (
                inl (refl, no_instance, omega arith),
                (inr tt, (inl tt, (inl (omega arith), (inl (refl, no_instance, omega arith), tt)))),
              ),
            ),
            refl,
          );
      unasked =
          let es = Clear 0 ∷ Clear 1 ∷ Begin 0 1 7 ∷ Begin 1 1 8 ∷ [] in (
            ends new_host es,
            reached BeginsUnasked es (
              inl (λ q s e. is_none None s refl e),
              (inl (λ q s e. is_none None s refl e), (inr (refl, refl, none_free 7), (inr (refl, refl, free_8), tt))),
            ),
            refl,
          );
    }

-- ---- reports that lie
pub careless_reports_lie : CarelessReportsLie
unfolding ends
careless_reports_lie =
    record {
      living =
          let es = Report 0 one (first 1) ∷ [] in
          (ends begun es, reached_begun ReportsLiving es (inr (refl, refl, refl), tt), (first 1, refl, refl, refl, refl));
      again =
          let es = Exit 7 (first 1) ∷ Report 0 one exited ∷ Report 0 reported exited ∷ [] in (
            ends begun es,
            reached_begun ReportsAgain es (inl refl, (inl (refl, refl, refl, refl), (inr (refl, refl, refl), tt))),
            refl,
          );
    }

-- ---- kills before the grace period has passed
abbrev killed : Process
killed = record (leader_of 0 1 7 0) { killed = true }

killed_early : (h : Host) (i : InstanceState) → (h.services 0).instance ≡ Some i → h.processes i.leader ≡ Some killed →
    (IsDue i h.now → ⊥) → IsKilledEarly h
killed_early h i a b d = record { instance = i; runs = a; leader = killed; there = b; killed = refl; early = d }

never_due : IsDue one 0 → ⊥
never_due d = is_none None d.at refl d.set

later_due : IsDue (stopping one 10) 0 → ⊥
later_due d =
    let z : 10 ≡ d.at = same_Some 10 d.at d.set in
    let l = d.passed in
    omega arith

pub careless_kills_are_early : CarelessKillsAreEarly
unfolding ends
careless_kills_are_early =
    record {
      early =
          let es = Kill 7 (first 1) ∷ [] in
          (ends begun es, reached_begun KillsEarly es (inr refl, tt), killed_early (ends begun es) one refl refl never_due);
      again =
          let es = Stop 0 one 0 ∷ Kill 7 (first 1) ∷ Stop 0 (stopping one 0) 10 ∷ [] in (
            ends begun es,
            reached_begun StopsAgain es (
              inl (refl, refl),
              (
                inl (
                  refl,
                  (
                    refl,
                    inr
                        (stopping one 0, refl, refl, record { at = 0; set = refl; passed = omega arith }),
                  ),
                ),
                (inr refl, tt),
              ),
            ),
            killed_early (ends begun es) (stopping one 10) refl refl later_due,
          );
      longer =
          let es = Stop 0 one 0 ∷ Kill 7 (first 1) ∷ Shorten 0 (stopping one 0) 10 ∷ [] in (
            ends begun es,
            reached_begun Lengthens es (
              inl (refl, refl),
              (
                inl (
                  refl,
                  (
                    refl,
                    inr
                        (stopping one 0, refl, refl, record { at = 0; set = refl; passed = omega arith }),
                  ),
                ),
                (inr (refl, (0, refl)), tt),
              ),
            ),
            killed_early (ends begun es) (stopping one 10) refl refl later_due,
          );
    }
