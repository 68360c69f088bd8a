-- Runs of wrong rules of the outbox.
use Rattle.std.proofs.Common.{◌≡◌, Bool, true, List, [], ◌∷◌, refl, arith}
use Rattle.fleet_rule.specs.Happens.{Event, after, May}
use Rattle.fleet_rule.specs.Happens.Event.{Changes, AsksToAdd, IsAdded, IsReplicated, GetsAcknowledged, FailsOver}
use Rattle.fleet_rule.specs.Example.{server_of, new_fleet}
use Rattle.fleet_rule.specs.CarelessSending.{ignores_replicas, counts_later, empties_outbox, ReplicasAreNeeded, CountIsNeeded, RestIsNeeded}
use Rattle.fleet_rule.proofs.RunLemmas.{◌▸◌, none_met, joining, all_of, ends, ends_of, AllMay, PhasesMay, follow, puts, is_server}

module _ {I : Type 0} (covers : I → I → Bool) (reflexive : (i : I) → covers i i ≡ true)
    (transitive : (i j k : I) → covers i j ≡ true → covers j k ≡ true → covers i k ≡ true) where
  abbrev replicas_are_needed_run : I → List (List (Event I))
  replicas_are_needed_run i =
      joining 0 1 ∷
      (Changes 0 i (i ∷ []) ∷ AsksToAdd 0 1 ∷ IsAdded 0 (i ∷ []) ∷ IsReplicated 0 1 1 ∷ GetsAcknowledged 0 1 ∷ []) ∷
      (FailsOver (server_of 2 [] 0) ∷ []) ∷ []

  replicas_are_needed_may : (i : I) → PhasesMay (ignores_replicas covers) (after covers) new_fleet (replicas_are_needed_run i)
  unfolding ends ends_of AllMay PhasesMay
  replicas_are_needed_may i =
      (refl ▸ refl ▸ (refl, none_met 1) ▸ refl ▸ tt) ▸
      (puts covers reflexive transitive [] (i ∷ []) ▸ (refl, omega arith) ▸ refl ▸ refl ▸ refl ▸ tt) ▸
      ((omega arith, is_server covers reflexive transitive 2 [] 0 (omega arith), omega arith, (0, refl)) ▸ tt) ▸ tt

  pub replicas_are_needed : ReplicasAreNeeded covers
  unfolding ends ends_of
  replicas_are_needed i = (
    ends_of (ignores_replicas covers) (after covers) new_fleet (replicas_are_needed_run i),
    all_of (replicas_are_needed_run i),
    follow (ignores_replicas covers) (after covers) new_fleet (replicas_are_needed_run i) (replicas_are_needed_may i),
    (
      refl,
      refl,
    ),
  )

  abbrev count_is_needed_run : I → List (List (Event I))
  count_is_needed_run i =
      joining 0 1 ∷
      (AsksToAdd 0 1 ∷ IsAdded 0 [] ∷ Changes 0 i (i ∷ []) ∷ IsReplicated 0 1 0 ∷ GetsAcknowledged 0 1 ∷ []) ∷ []

  count_is_needed_may : (i : I) → PhasesMay (counts_later covers) (after covers) new_fleet (count_is_needed_run i)
  unfolding ends ends_of AllMay PhasesMay
  count_is_needed_may i =
      (refl ▸ refl ▸ (refl, none_met 1) ▸ refl ▸ tt) ▸
      (refl ▸ refl ▸ puts covers reflexive transitive [] (i ∷ []) ▸ (refl, omega arith) ▸ refl ▸ tt) ▸ tt

  pub count_is_needed : CountIsNeeded covers
  unfolding ends ends_of
  count_is_needed i = (
    ends_of (counts_later covers) (after covers) new_fleet (count_is_needed_run i),
    all_of (count_is_needed_run i),
    follow (counts_later covers) (after covers) new_fleet (count_is_needed_run i) (count_is_needed_may i),
    (
      refl,
      refl,
    ),
  )

  abbrev rest_is_needed_run : I → List (List (Event I))
  rest_is_needed_run i =
      joining 0 1 ∷
      (AsksToAdd 0 0 ∷ IsAdded 0 [] ∷ Changes 0 i (i ∷ []) ∷ IsReplicated 0 1 0 ∷ GetsAcknowledged 0 1 ∷ []) ∷ []

  rest_is_needed_may : (i : I) → PhasesMay (May covers) (empties_outbox covers) new_fleet (rest_is_needed_run i)
  unfolding ends ends_of AllMay PhasesMay
  rest_is_needed_may i =
      (refl ▸ refl ▸ (refl, none_met 1) ▸ refl ▸ tt) ▸
      ((refl, omega arith) ▸ refl ▸ puts covers reflexive transitive [] (i ∷ []) ▸ (refl, omega arith) ▸ refl ▸ tt) ▸ tt

  pub rest_is_needed : RestIsNeeded covers
  unfolding ends ends_of
  rest_is_needed i = (
    ends_of (May covers) (empties_outbox covers) new_fleet (rest_is_needed_run i),
    all_of (rest_is_needed_run i),
    follow (May covers) (empties_outbox covers) new_fleet (rest_is_needed_run i) (rest_is_needed_may i),
    (
      record { met = refl; must_resend = refl; outbox = refl },
      refl,
      refl,
    ),
  )
