-- Runs in which a change reaches another bridge, by the log, by a snapshot, and after a loss.
use Rattle.std.proofs.Common.{◌≡◌, Bool, true, List, [], ◌∷◌, refl, arith}
use Rattle.fleet_rule.specs.Happens.{Event, after, May, bridge_at}
use Rattle.fleet_rule.specs.Happens.Event.{AsksToAdd, AsksToFetch, IsAdded, IsReplicated, IsFetched, GetsAcknowledged, TakesSnapshot}
use Rattle.fleet_rule.specs.Happens.Event.{Replicates, Loses}
use Rattle.fleet_rule.specs.Example.{CanEnd, server_of, new_fleet, ChangesCome, SnapshotsCome, LostIsSentAgain}
use Rattle.fleet_rule.specs.Laws.{HasRead, HasSent}
use Rattle.fleet_rule.proofs.RunLemmas.{◌▸◌, none_met, other_met, joining, publishing, reading, compacting, all_of, ends, ends_of, AllMay}
use Rattle.fleet_rule.proofs.RunLemmas.{PhasesMay, follow, puts, repeats, is_server}

module _ {I : Type 0} (covers : I → I → Bool) (reflexive : (i : I) → covers i i ≡ true)
    (transitive : (i j k : I) → covers i j ≡ true → covers j k ≡ true → covers i k ≡ true) where
  abbrev comes_run : I → List (List (Event I))
  comes_run i =
      joining 0 1 ∷
      publishing 0 i 1 1 ∷
      joining 1 1 ∷
      reading 1 1 0 0 (i ∷ []) ∷ []

  comes_may : (i : I) → PhasesMay (May covers) (after covers) new_fleet (comes_run i)
  unfolding ends ends_of AllMay PhasesMay
  comes_may i =
      (refl ▸ refl ▸ (refl, none_met 1) ▸ refl ▸ tt) ▸
      (puts covers reflexive transitive [] (i ∷ []) ▸ (refl, omega arith) ▸ refl ▸ (omega arith, omega arith) ▸ (refl, omega arith) ▸ refl
      ▸ tt) ▸
      (refl ▸ refl ▸ (refl, none_met 1) ▸ refl ▸ tt) ▸
      (refl ▸ (refl, λ l. refl) ▸ (refl, refl, refl, omega arith, puts covers reflexive transitive [] (i ∷ [])) ▸ tt) ▸ tt

  comes : (i : I) → CanEnd (May covers) (after covers)
      (λ x. HasSent x 0 × HasRead x 1 × HasSent x 1 × (x.answered ≡ i ∷ []) × ((bridge_at x 1).held ≡ i ∷ []))
  unfolding ends ends_of
  comes i = (
    ends_of (May covers) (after covers) new_fleet (comes_run i),
    all_of (comes_run i),
    follow (May covers) (after covers) new_fleet (comes_run i) (comes_may i),
    (
      record { met = refl; must_resend = refl; outbox = refl },
      record { met = refl; position = refl; whole = refl },
      record { met = refl; must_resend = refl; outbox = refl },
      refl,
      refl,
    ),
  )

  pub changes_come : ChangesCome covers
  changes_come = (record { server = is_server covers reflexive transitive 1 [] 0 (omega arith); hosts = λ k. refl; answered = refl }, comes)

  abbrev snapshots_come_run : I → List (List (Event I))
  snapshots_come_run i =
      joining 0 1 ∷
      publishing 0 i 1 1 ∷
      reading 0 1 0 0 (i ∷ []) ∷
      compacting 0 1 1 (i ∷ []) ∷
      joining 1 1 ∷
      (AsksToFetch 1 ∷ IsFetched 1 ∷ TakesSnapshot 1 1 (i ∷ []) (i ∷ []) ∷ []) ∷ []

  snapshots_come_may : (i : I) → PhasesMay (May covers) (after covers) new_fleet (snapshots_come_run i)
  unfolding ends ends_of AllMay PhasesMay
  snapshots_come_may i =
      (refl ▸ refl ▸ (refl, none_met 1) ▸ refl ▸ tt) ▸
      (puts covers reflexive transitive [] (i ∷ []) ▸ (refl, omega arith) ▸ refl ▸ (omega arith, omega arith) ▸ (refl, omega arith) ▸ refl
      ▸ tt) ▸
      (refl ▸ (refl, λ l. refl) ▸ (refl, refl, refl, omega arith, repeats covers reflexive transitive (i ∷ [])) ▸ tt) ▸
      ((refl, refl, refl) ▸ (refl, refl, omega arith) ▸ tt ▸ tt) ▸
      (refl ▸ refl ▸ (refl, none_met 1) ▸ refl ▸ tt) ▸
      (refl ▸ refl ▸ (refl, puts covers reflexive transitive [] (i ∷ [])) ▸ tt) ▸ tt

  pub snapshots_come : SnapshotsCome covers
  unfolding ends ends_of
  snapshots_come i = (
    ends_of (May covers) (after covers) new_fleet (snapshots_come_run i),
    all_of (snapshots_come_run i),
    follow (May covers) (after covers) new_fleet (snapshots_come_run i) (snapshots_come_may i),
    (
      record { met = refl; position = refl; whole = refl },
      record { met = refl; must_resend = refl; outbox = refl },
      refl,
      refl,
    ),
  )

  abbrev lost_is_sent_again_run : I → List (List (Event I))
  lost_is_sent_again_run i =
      joining 0 1 ∷
      publishing 0 i 1 1 ∷
      (Loses (server_of 2 [] 0) ∷ []) ∷
      joining 0 2 ∷
      (AsksToAdd 0 1 ∷ IsAdded 0 (i ∷ []) ∷ Replicates 1 ∷ IsReplicated 0 2 1 ∷ GetsAcknowledged 0 2 ∷ []) ∷ []

  lost_is_sent_again_may : (i : I) → PhasesMay (May covers) (after covers) new_fleet (lost_is_sent_again_run i)
  unfolding ends ends_of AllMay PhasesMay
  lost_is_sent_again_may i =
      (refl ▸ refl ▸ (refl, none_met 1) ▸ refl ▸ tt) ▸
      (puts covers reflexive transitive [] (i ∷ []) ▸ (refl, omega arith) ▸ refl ▸ (omega arith, omega arith) ▸ (refl, omega arith) ▸ refl
      ▸ tt) ▸
      ((omega arith, is_server covers reflexive transitive 2 [] 0 (omega arith)) ▸ tt) ▸
      (refl ▸ refl ▸ (refl, other_met 1 2 refl) ▸ refl ▸ tt) ▸
      ((refl, omega arith) ▸ refl ▸ (omega arith, omega arith) ▸ (refl, omega arith) ▸ refl ▸ tt) ▸ tt

  pub lost_is_sent_again : LostIsSentAgain covers
  unfolding ends ends_of
  lost_is_sent_again i = (
    ends_of (May covers) (after covers) new_fleet (lost_is_sent_again_run i),
    all_of (lost_is_sent_again_run i),
    follow (May covers) (after covers) new_fleet (lost_is_sent_again_run i) (lost_is_sent_again_may i),
    (
      record { met = refl; must_resend = refl; outbox = refl },
      refl,
      refl,
      refl,
    ),
  )
