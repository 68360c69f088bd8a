-- Runs with servers that break a premise.
use Rattle.std.proofs.Common.{◌≡◌, Bool, true, List, [], ◌∷◌, refl, arith}
use Rattle.fleet_rule.specs.Happens.{Event, after}
use Rattle.fleet_rule.specs.Happens.Event.{FailsOver, Loses}
use Rattle.fleet_rule.specs.Example.{server_of, new_fleet}
use Rattle.fleet_rule.specs.Premises.{loses_unseen, fails_over_to_any, SeeingIsNeeded, ChoiceIsNeeded}
use Rattle.fleet_rule.proofs.RunLemmas.{◌▸◌, none_met, joining, publishing, all_of, ends, ends_of, AllMay, PhasesMay, follow, puts}
use Rattle.fleet_rule.proofs.RunLemmas.{is_server}

module _ {I : Type 0} (covers : I → I → Bool) (reflexive : (i : I) → covers i i ≡ true)
    (transitive : (i j k : I) → covers i j ≡ true → covers j k ≡ true → covers i k ≡ true) where
  abbrev seeing_is_needed_run : I → List (List (Event I))
  seeing_is_needed_run i =
      joining 0 1 ∷
      publishing 0 i 1 1 ∷
      (Loses (server_of 1 [] 0) ∷ []) ∷ []

  seeing_is_needed_may : (i : I) → PhasesMay (loses_unseen covers) (after covers) new_fleet (seeing_is_needed_run i)
  unfolding ends ends_of AllMay PhasesMay
  seeing_is_needed_may i =
      (refl ▸ refl ▸ (refl, none_met 1) ▸ refl ▸ tt) ▸
      (puts covers reflexive transitive [] (i ∷ []) ▸ (refl, omega arith) ▸ refl ▸ (omega arith, omega arith) ▸ (refl, omega arith) ▸ refl
      ▸ tt) ▸
      (is_server covers reflexive transitive 1 [] 0 (omega arith) ▸ tt) ▸ tt

  pub seeing_is_needed : SeeingIsNeeded covers
  unfolding ends ends_of
  seeing_is_needed i = (
    ends_of (loses_unseen covers) (after covers) new_fleet (seeing_is_needed_run i),
    all_of (seeing_is_needed_run i),
    follow (loses_unseen covers) (after covers) new_fleet (seeing_is_needed_run i) (seeing_is_needed_may i),
    (
      record { met = refl; must_resend = refl; outbox = refl },
      refl,
      refl,
    ),
  )

  abbrev choice_is_needed_run : I → List (List (Event I))
  choice_is_needed_run i =
      joining 0 1 ∷
      publishing 0 i 1 1 ∷
      (FailsOver (server_of 2 [] 0) ∷ []) ∷ []

  choice_is_needed_may : (i : I) → PhasesMay (fails_over_to_any covers) (after covers) new_fleet (choice_is_needed_run i)
  unfolding ends ends_of AllMay PhasesMay
  choice_is_needed_may i =
      (refl ▸ refl ▸ (refl, none_met 1) ▸ refl ▸ tt) ▸
      (puts covers reflexive transitive [] (i ∷ []) ▸ (refl, omega arith) ▸ refl ▸ (omega arith, omega arith) ▸ (refl, omega arith) ▸ refl
      ▸ tt) ▸
      ((omega arith, is_server covers reflexive transitive 2 [] 0 (omega arith), (0, refl)) ▸ tt) ▸ tt

  pub choice_is_needed : ChoiceIsNeeded covers
  unfolding ends ends_of
  choice_is_needed i = (
    ends_of (fails_over_to_any covers) (after covers) new_fleet (choice_is_needed_run i),
    all_of (choice_is_needed_run i),
    follow (fails_over_to_any covers) (after covers) new_fleet (choice_is_needed_run i) (choice_is_needed_may i),
    (
      refl,
      refl,
    ),
  )
