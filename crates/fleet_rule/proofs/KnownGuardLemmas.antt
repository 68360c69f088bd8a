-- Runs in which a bridge holds a change that its server's replicas lack.
use Rattle.std.proofs.Common.{◌≡◌, Bool, true, List, [], ◌∷◌, refl, arith}
use Rattle.fleet_rule.specs.Happens.{Event, after, May}
use Rattle.fleet_rule.specs.Happens.Event.{Changes, AsksToMeet, AsksToAdd, IsMet, IsAdded, Meets, Loses}
use Rattle.fleet_rule.specs.Example.{server_of, new_fleet}
use Rattle.fleet_rule.specs.Known.{LookIsNeeded, ToldIsNeeded, OwedIsNeeded, WaitIsNeeded}
use Rattle.fleet_rule.proofs.RunLemmas.{◌▸◌, none_met, other_met, joining, publishing, reading, all_of, ends, ends_of, AllMay, PhasesMay}
use Rattle.fleet_rule.proofs.RunLemmas.{follow, puts, is_server}

module _ {I : Type 0} (covers : I → I → Bool) (reflexive : (i : I) → covers i i ≡ true)
    (transitive : (i j k : I) → covers i j ≡ true → covers j k ≡ true → covers i k ≡ true) where
  -- Once the bridge met its server, the server loses its only change.
  abbrev look_run : I → List (List (Event I))
  look_run i = joining 0 1 ∷ publishing 0 i 1 1 ∷ (Loses (server_of 2 [] 0) ∷ []) ∷ []

  look_may : (i : I) → PhasesMay (May covers) (after covers) new_fleet (look_run i)
  unfolding ends ends_of AllMay PhasesMay
  look_may i =
      (refl ▸ refl ▸ (refl, none_met 1) ▸ refl ▸ tt) ▸
      (puts covers reflexive transitive [] (i ∷ []) ▸ (refl, omega arith) ▸ refl ▸ (omega arith, omega arith) ▸ (refl, omega arith) ▸ refl
      ▸ tt) ▸
      ((omega arith, is_server covers reflexive transitive 2 [] 0 (omega arith)) ▸ tt) ▸ tt

  pub look_is_needed : LookIsNeeded covers
  unfolding ends ends_of
  look_is_needed i = (
    ends_of (May covers) (after covers) new_fleet (look_run i),
    all_of (look_run i),
    follow (May covers) (after covers) new_fleet (look_run i) (look_may i),
    (record { held = refl; replicated = refl }, refl, refl, refl),
  )

  abbrev told_run : I → List (List (Event I))
  told_run i = joining 0 1 ∷ (Changes 0 i (i ∷ []) ∷ []) ∷ []

  told_may : (i : I) → PhasesMay (May covers) (after covers) new_fleet (told_run i)
  unfolding ends ends_of AllMay PhasesMay
  told_may i =
      (refl ▸ refl ▸ (refl, none_met 1) ▸ refl ▸ tt) ▸
      (puts covers reflexive transitive [] (i ∷ []) ▸ tt) ▸ tt

  pub told_is_needed : ToldIsNeeded covers
  unfolding ends ends_of
  told_is_needed i = (
    ends_of (May covers) (after covers) new_fleet (told_run i),
    all_of (told_run i),
    follow (May covers) (after covers) new_fleet (told_run i) (told_may i),
    (record { held = refl; replicated = refl }, refl, refl),
  )

  -- The bridge meets the server that lost its change.
  abbrev owed_run : I → List (List (Event I))
  owed_run i = joining 0 1 ∷ publishing 0 i 1 1 ∷ (Loses (server_of 2 [] 0) ∷ []) ∷ (AsksToMeet 0 ∷ IsMet 0 ∷ Meets 0 2 ∷ []) ∷ []

  owed_may : (i : I) → PhasesMay (May covers) (after covers) new_fleet (owed_run i)
  unfolding ends ends_of AllMay PhasesMay
  owed_may i =
      (refl ▸ refl ▸ (refl, none_met 1) ▸ refl ▸ tt) ▸
      (puts covers reflexive transitive [] (i ∷ []) ▸ (refl, omega arith) ▸ refl ▸ (omega arith, omega arith) ▸ (refl, omega arith) ▸ refl
      ▸ tt) ▸
      ((omega arith, is_server covers reflexive transitive 2 [] 0 (omega arith)) ▸ tt) ▸
      (refl ▸ refl ▸ (refl, other_met 1 2 refl) ▸ tt) ▸ tt

  pub owed_is_needed : OwedIsNeeded covers
  unfolding ends ends_of
  owed_is_needed i = (
    ends_of (May covers) (after covers) new_fleet (owed_run i),
    all_of (owed_run i),
    follow (May covers) (after covers) new_fleet (owed_run i) (owed_may i),
    (record { held = refl; replicated = refl }, refl, refl),
  )

  -- The bridge reads another one's change, which no replica has.
  abbrev wait_run : I → List (List (Event I))
  wait_run i =
      joining 0 1 ∷
      joining 1 1 ∷
      (Changes 1 i (i ∷ []) ∷ AsksToAdd 1 1 ∷ IsAdded 1 (i ∷ []) ∷ []) ∷
      reading 0 1 0 0 (i ∷ []) ∷ []

  wait_may : (i : I) → PhasesMay (May covers) (after covers) new_fleet (wait_run i)
  unfolding ends ends_of AllMay PhasesMay
  wait_may i =
      (refl ▸ refl ▸ (refl, none_met 1) ▸ refl ▸ tt) ▸
      (refl ▸ refl ▸ (refl, none_met 1) ▸ refl ▸ tt) ▸
      (puts covers reflexive transitive [] (i ∷ []) ▸ (refl, omega arith) ▸ refl ▸ tt) ▸
      (refl ▸ (refl, λ l. refl) ▸ (refl, refl, refl, omega arith, puts covers reflexive transitive [] (i ∷ [])) ▸ tt) ▸ tt

  pub wait_is_needed : WaitIsNeeded covers
  unfolding ends ends_of
  wait_is_needed i = (
    ends_of (May covers) (after covers) new_fleet (wait_run i),
    all_of (wait_run i),
    follow (May covers) (after covers) new_fleet (wait_run i) (wait_may i),
    (record { held = refl; replicated = refl }, refl, refl, refl),
  )
