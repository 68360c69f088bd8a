-- Runs of wrong rules of reading.
use Rattle.std.proofs.Common.{◌≡◌, Bool, true, List, [], ◌∷◌, refl, arith, Some}
use Rattle.fleet_rule.specs.Happens.{Event, after, May}
use Rattle.fleet_rule.specs.Happens.Event.{Changes, AsksToAdd, AsksToRead, IsAdded, IsRead, Consumes, Rereads, Loses}
use Rattle.fleet_rule.specs.Example.{server_of, new_fleet}
use Rattle.fleet_rule.specs.CarelessReading.{consumes_old, consumes_elsewhere, consumes_past_gap, forgets_dropping, SameHistoryIsNeeded}
use Rattle.fleet_rule.specs.CarelessReading.{SamePositionIsNeeded, GapIsNeeded, NotingIsNeeded}
use Rattle.fleet_rule.proofs.RunLemmas.{◌▸◌, none_met, other_met, joining, publishing, reading, dropping_all, compacting, all_of, ends}
use Rattle.fleet_rule.proofs.RunLemmas.{ends_of, AllMay, PhasesMay, follow, puts, repeats, refuses, is_server}

module _ {I : Type 0} (covers : I → I → Bool) (reflexive : (i : I) → covers i i ≡ true)
    (transitive : (i j k : I) → covers i j ≡ true → covers j k ≡ true → covers i k ≡ true) where
  abbrev same_history_is_needed_run : I → I → List (List (Event I))
  same_history_is_needed_run i j =
      joining 0 1 ∷
      publishing 0 i 1 1 ∷
      joining 1 1 ∷
      (AsksToRead 1 ∷ IsRead 1 (Some 1) 0 1 (i ∷ []) ∷ []) ∷
      (Loses (server_of 2 [] 0) ∷ []) ∷
      joining 2 2 ∷
      publishing 2 j 2 1 ∷
      joining 1 2 ∷
      (Consumes 1 (Some 1) 0 0 (i ∷ []) (i ∷ []) ∷ []) ∷ []

  same_history_is_needed_may : (i j : I) → PhasesMay (consumes_old covers) (after covers) new_fleet (same_history_is_needed_run i j)
  unfolding ends ends_of AllMay PhasesMay
  same_history_is_needed_may i j =
      (refl ▸ refl ▸ (refl, none_met 1) ▸ refl ▸ tt) ▸
      (puts covers reflexive transitive [] (i ∷ []) ▸ (refl, omega arith) ▸ refl ▸ (omega arith, omega arith) ▸ (refl, omega arith) ▸ refl
      ▸ tt) ▸
      (refl ▸ refl ▸ (refl, none_met 1) ▸ refl ▸ tt) ▸
      (refl ▸ (refl, λ l. refl) ▸ tt) ▸
      ((omega arith, is_server covers reflexive transitive 2 [] 0 (omega arith)) ▸ tt) ▸
      (refl ▸ refl ▸ (refl, none_met 2) ▸ refl ▸ tt) ▸
      (puts covers reflexive transitive [] (j ∷ []) ▸ (refl, omega arith) ▸ refl ▸ (omega arith, omega arith) ▸ (refl, omega arith) ▸ refl
      ▸ tt) ▸
      (refl ▸ refl ▸ (refl, other_met 1 2 refl) ▸ refl ▸ tt) ▸
      ((refl, refl, omega arith, puts covers reflexive transitive [] (i ∷ [])) ▸ tt) ▸ tt

  pub same_history_is_needed : SameHistoryIsNeeded covers
  unfolding ends ends_of
  same_history_is_needed i j = (
    ends_of (consumes_old covers) (after covers) new_fleet (same_history_is_needed_run i j),
    all_of (same_history_is_needed_run i j),
    follow (consumes_old covers) (after covers) new_fleet (same_history_is_needed_run i j) (same_history_is_needed_may i j),
    record { read = record { met = refl; position = refl; whole = refl }; answered_is = refl; held_is = refl },
  )

  abbrev same_position_is_needed_run : I → List (List (Event I))
  same_position_is_needed_run i =
      joining 0 1 ∷
      publishing 0 i 1 1 ∷
      joining 1 1 ∷
      dropping_all 1 1 (i ∷ []) ∷
      (AsksToRead 1 ∷ IsRead 1 (Some 1) 1 0 [] ∷ Rereads 1 ∷ Consumes 1 (Some 1) 1 0 [] [] ∷ []) ∷ []

  same_position_is_needed_may : (i : I) → PhasesMay (consumes_elsewhere covers) (after covers) new_fleet (same_position_is_needed_run i)
  unfolding ends ends_of AllMay PhasesMay
  same_position_is_needed_may i =
      (refl ▸ refl ▸ (refl, none_met 1) ▸ refl ▸ tt) ▸
      (puts covers reflexive transitive [] (i ∷ []) ▸ (refl, omega arith) ▸ refl ▸ (omega arith, omega arith) ▸ (refl, omega arith) ▸ refl
      ▸ tt) ▸
      (refl ▸ refl ▸ (refl, none_met 1) ▸ refl ▸ tt) ▸
      (refl ▸ (refl, λ l. refl) ▸ (refl, refl, omega arith, refuses covers reflexive transitive [] (i ∷ [])) ▸ tt) ▸
      (refl ▸ (refl, λ l. refl) ▸ tt ▸ (refl, refl, omega arith, puts covers reflexive transitive [] []) ▸ tt) ▸ tt

  pub same_position_is_needed : SamePositionIsNeeded covers
  unfolding ends ends_of
  same_position_is_needed i = (
    ends_of (consumes_elsewhere covers) (after covers) new_fleet (same_position_is_needed_run i),
    all_of (same_position_is_needed_run i),
    follow (consumes_elsewhere covers) (after covers) new_fleet (same_position_is_needed_run i) (same_position_is_needed_may i),
    record { read = record { met = refl; position = refl; whole = refl }; answered_is = refl; held_is = refl },
  )

  abbrev gap_is_needed_run : I → I → List (List (Event I))
  gap_is_needed_run i j =
      joining 0 1 ∷
      publishing 0 i 1 1 ∷
      reading 0 1 0 0 (i ∷ []) ∷
      compacting 0 1 1 (i ∷ []) ∷
      (Changes 0 j (i ∷ j ∷ []) ∷ AsksToAdd 0 1 ∷ IsAdded 0 (j ∷ []) ∷ []) ∷
      joining 1 1 ∷
      reading 1 1 0 1 (j ∷ []) ∷
      reading 1 1 1 1 (j ∷ []) ∷ []

  gap_is_needed_may : (i j : I) → PhasesMay (consumes_past_gap covers) (after covers) new_fleet (gap_is_needed_run i j)
  unfolding ends ends_of AllMay PhasesMay
  gap_is_needed_may i j =
      (refl ▸ refl ▸ (refl, none_met 1) ▸ refl ▸ tt) ▸
      (puts covers reflexive transitive [] (i ∷ []) ▸ (refl, omega arith) ▸ refl ▸ (omega arith, omega arith) ▸ (refl, omega arith) ▸ refl
      ▸ tt) ▸
      (refl ▸ (refl, λ l. refl) ▸ (refl, refl, refl, repeats covers reflexive transitive (i ∷ [])) ▸ tt) ▸
      ((refl, refl, refl) ▸ (refl, refl, omega arith) ▸ tt ▸ tt) ▸
      (puts covers reflexive transitive (i ∷ []) (j ∷ []) ▸ (refl, omega arith) ▸ refl ▸ tt) ▸
      (refl ▸ refl ▸ (refl, none_met 1) ▸ refl ▸ tt) ▸
      (refl ▸ (refl, λ l. absurd (omega arith)) ▸ (refl, refl, refl, puts covers reflexive transitive [] (j ∷ [])) ▸ tt) ▸
      (refl ▸ (refl, λ l. refl) ▸ (refl, refl, refl, repeats covers reflexive transitive (j ∷ [])) ▸ tt) ▸ tt

  pub gap_is_needed : GapIsNeeded covers
  unfolding ends ends_of
  gap_is_needed i j = (
    ends_of (consumes_past_gap covers) (after covers) new_fleet (gap_is_needed_run i j),
    all_of (gap_is_needed_run i j),
    follow (consumes_past_gap covers) (after covers) new_fleet (gap_is_needed_run i j) (gap_is_needed_may i j),
    record { read = record { met = refl; position = refl; whole = refl }; answered_is = refl; held_is = refl },
  )

  abbrev noting_is_needed_run : I → List (List (Event I))
  noting_is_needed_run i =
      joining 0 1 ∷
      publishing 0 i 1 1 ∷
      joining 1 1 ∷
      dropping_all 1 1 (i ∷ []) ∷ []

  noting_is_needed_may : (i : I) → PhasesMay (May covers) (forgets_dropping covers) new_fleet (noting_is_needed_run i)
  unfolding ends ends_of AllMay PhasesMay
  noting_is_needed_may i =
      (refl ▸ refl ▸ (refl, none_met 1) ▸ refl ▸ tt) ▸
      (puts covers reflexive transitive [] (i ∷ []) ▸ (refl, omega arith) ▸ refl ▸ (omega arith, omega arith) ▸ (refl, omega arith) ▸ refl
      ▸ tt) ▸
      (refl ▸ refl ▸ (refl, none_met 1) ▸ refl ▸ tt) ▸
      (refl ▸ (refl, λ l. refl) ▸ (refl, refl, omega arith, refuses covers reflexive transitive [] (i ∷ [])) ▸ tt) ▸ tt

  pub noting_is_needed : NotingIsNeeded covers
  unfolding ends ends_of
  noting_is_needed i = (
    ends_of (May covers) (forgets_dropping covers) new_fleet (noting_is_needed_run i),
    all_of (noting_is_needed_run i),
    follow (May covers) (forgets_dropping covers) new_fleet (noting_is_needed_run i) (noting_is_needed_may i),
    record { read = record { met = refl; position = refl; whole = refl }; answered_is = refl; held_is = refl },
  )
