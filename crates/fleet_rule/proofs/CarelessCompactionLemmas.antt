-- Runs of wrong rules of compaction.
use Rattle.std.proofs.Common.{◌≡◌, Bool, true, List, [], ◌∷◌, refl, arith, Some}
use Rattle.fleet_rule.specs.Happens.{Event, after, May}
use Rattle.fleet_rule.specs.Happens.Event.{Changes, AsksToMeet, AsksToFetch, AsksToCompact, IsMet, IsFetched, IsCompacted, Meets}
use Rattle.fleet_rule.specs.Happens.Event.{TakesSnapshot, Crashes, Loses}
use Rattle.fleet_rule.specs.Example.{server_of, new_fleet}
use Rattle.fleet_rule.specs.CarelessCompaction.{leaves_outbox, ignores_resending, ignores_dropping, ignores_history, replaces_later}
use Rattle.fleet_rule.specs.CarelessCompaction.{OutboxIsNeeded, ResendingIsNeeded, DroppingIsNeeded, HistoryIsNeeded, LaterIsNeeded}
use Rattle.fleet_rule.proofs.RunLemmas.{◌▸◌, none_met, other_met, joining, publishing, reading, dropping_all, compacting, all_of, ends}
use Rattle.fleet_rule.proofs.RunLemmas.{ends_of, AllMay, PhasesMay, follow, puts, repeats, refuses, is_server}

module _ {I : Type 0} (covers : I → I → Bool) (reflexive : (i : I) → covers i i ≡ true)
    (transitive : (i j k : I) → covers i j ≡ true → covers j k ≡ true → covers i k ≡ true) where
  abbrev outbox_is_needed_run : I → List (List (Event I))
  outbox_is_needed_run i =
      joining 1 1 ∷
      joining 0 1 ∷
      (Changes 0 i (i ∷ []) ∷ []) ∷
      compacting 0 1 0 (i ∷ []) ∷
      (Crashes 0 ∷ []) ∷
      joining 2 1 ∷
      (AsksToFetch 2 ∷ IsFetched 2 ∷ TakesSnapshot 2 0 (i ∷ []) (i ∷ []) ∷ []) ∷ []

  outbox_is_needed_may : (i : I) → PhasesMay (May covers) (leaves_outbox covers) new_fleet (outbox_is_needed_run i)
  unfolding ends ends_of AllMay PhasesMay
  outbox_is_needed_may i =
      (refl ▸ refl ▸ (refl, none_met 1) ▸ refl ▸ tt) ▸
      (refl ▸ refl ▸ (refl, none_met 1) ▸ refl ▸ tt) ▸
      (puts covers reflexive transitive [] (i ∷ []) ▸ tt) ▸
      ((refl, refl, refl) ▸ (refl, refl, omega arith) ▸ tt ▸ tt) ▸
      (tt ▸ tt) ▸
      (refl ▸ refl ▸ (refl, none_met 1) ▸ refl ▸ tt) ▸
      (refl ▸ refl ▸ (refl, puts covers reflexive transitive [] (i ∷ [])) ▸ tt) ▸ tt

  pub outbox_is_needed : OutboxIsNeeded covers
  unfolding ends ends_of
  outbox_is_needed i = (
    ends_of (May covers) (leaves_outbox covers) new_fleet (outbox_is_needed_run i),
    all_of (outbox_is_needed_run i),
    follow (May covers) (leaves_outbox covers) new_fleet (outbox_is_needed_run i) (outbox_is_needed_may i),
    record {
      read_one = record { met = refl; position = refl; whole = refl };
      sent_one = record { met = refl; must_resend = refl; outbox = refl };
      read_two = record { met = refl; position = refl; whole = refl };
      sent_two = record { met = refl; must_resend = refl; outbox = refl };
      one = refl;
      two = refl;
    },
  )

  abbrev resending_is_needed_run : I → List (List (Event I))
  resending_is_needed_run i =
      joining 0 1 ∷
      publishing 0 i 1 1 ∷
      (Loses (server_of 2 [] 0) ∷ []) ∷
      joining 1 2 ∷
      (AsksToMeet 0 ∷ IsMet 0 ∷ Meets 0 2 ∷ []) ∷
      compacting 0 2 0 (i ∷ []) ∷
      (Crashes 0 ∷ []) ∷
      joining 2 2 ∷
      (AsksToFetch 2 ∷ IsFetched 2 ∷ TakesSnapshot 2 0 (i ∷ []) (i ∷ []) ∷ []) ∷ []

  resending_is_needed_may : (i : I) → PhasesMay (ignores_resending covers) (after covers) new_fleet (resending_is_needed_run i)
  unfolding ends ends_of AllMay PhasesMay
  resending_is_needed_may i =
      (refl ▸ refl ▸ (refl, none_met 1) ▸ refl ▸ tt) ▸
      (puts covers reflexive transitive [] (i ∷ []) ▸ (refl, omega arith) ▸ refl ▸ (omega arith, omega arith) ▸ (refl, omega arith) ▸ refl
      ▸ tt) ▸
      ((omega arith, is_server covers reflexive transitive 2 [] 0 (omega arith)) ▸ tt) ▸
      (refl ▸ refl ▸ (refl, none_met 2) ▸ refl ▸ tt) ▸
      (refl ▸ refl ▸ (refl, other_met 1 2 refl) ▸ tt) ▸
      ((refl, refl) ▸ (refl, refl, omega arith) ▸ tt ▸ tt) ▸
      (tt ▸ tt) ▸
      (refl ▸ refl ▸ (refl, none_met 2) ▸ refl ▸ tt) ▸
      (refl ▸ refl ▸ (refl, puts covers reflexive transitive [] (i ∷ [])) ▸ tt) ▸ tt

  pub resending_is_needed : ResendingIsNeeded covers
  unfolding ends ends_of
  resending_is_needed i = (
    ends_of (ignores_resending covers) (after covers) new_fleet (resending_is_needed_run i),
    all_of (resending_is_needed_run i),
    follow (ignores_resending covers) (after covers) new_fleet (resending_is_needed_run i) (resending_is_needed_may i),
    record {
      read_one = record { met = refl; position = refl; whole = refl };
      sent_one = record { met = refl; must_resend = refl; outbox = refl };
      read_two = record { met = refl; position = refl; whole = refl };
      sent_two = record { met = refl; must_resend = refl; outbox = refl };
      one = refl;
      two = refl;
    },
  )

  abbrev dropping_is_needed_run : I → List (List (Event I))
  dropping_is_needed_run i =
      joining 0 1 ∷
      publishing 0 i 1 1 ∷
      joining 1 1 ∷
      dropping_all 1 1 (i ∷ []) ∷
      compacting 1 1 1 ([]) ∷ []

  dropping_is_needed_may : (i : I) → PhasesMay (ignores_dropping covers) (after covers) new_fleet (dropping_is_needed_run i)
  unfolding ends ends_of AllMay PhasesMay
  dropping_is_needed_may i =
      (refl ▸ refl ▸ (refl, none_met 1) ▸ refl ▸ tt) ▸
      (puts covers reflexive transitive [] (i ∷ []) ▸ (refl, omega arith) ▸ refl ▸ (omega arith, omega arith) ▸ (refl, omega arith) ▸ refl
      ▸ tt) ▸
      (refl ▸ refl ▸ (refl, none_met 1) ▸ refl ▸ tt) ▸
      (refl ▸ (refl, λ l. refl) ▸ (refl, refl, omega arith, refuses covers reflexive transitive [] (i ∷ [])) ▸ tt) ▸
      ((refl, refl) ▸ (refl, refl, omega arith) ▸ tt ▸ tt) ▸ tt

  pub dropping_is_needed : DroppingIsNeeded covers
  unfolding ends ends_of
  dropping_is_needed i = (
    ends_of (ignores_dropping covers) (after covers) new_fleet (dropping_is_needed_run i),
    all_of (dropping_is_needed_run i),
    follow (ignores_dropping covers) (after covers) new_fleet (dropping_is_needed_run i) (dropping_is_needed_may i),
    (
      refl,
      refl,
    ),
  )

  abbrev history_is_needed_run : I → I → List (List (Event I))
  history_is_needed_run i j =
      joining 0 1 ∷
      publishing 0 i 1 1 ∷
      reading 0 1 0 0 (i ∷ []) ∷
      (AsksToCompact 0 ∷ []) ∷
      (Loses (server_of 2 [] 0) ∷ []) ∷
      joining 1 2 ∷
      publishing 1 j 2 1 ∷
      (IsCompacted 0 (Some 1) 1 (i ∷ []) [] ∷ []) ∷ []

  history_is_needed_may : (i j : I) → PhasesMay (ignores_history covers) (after covers) new_fleet (history_is_needed_run i j)
  unfolding ends ends_of AllMay PhasesMay
  history_is_needed_may i j =
      (refl ▸ refl ▸ (refl, none_met 1) ▸ refl ▸ tt) ▸
      (puts covers reflexive transitive [] (i ∷ []) ▸ (refl, omega arith) ▸ refl ▸ (omega arith, omega arith) ▸ (refl, omega arith) ▸ refl
      ▸ tt) ▸
      (refl ▸ (refl, λ l. refl) ▸ (refl, refl, refl, omega arith, repeats covers reflexive transitive (i ∷ [])) ▸ tt) ▸
      ((refl, refl, refl) ▸ tt) ▸
      ((omega arith, is_server covers reflexive transitive 2 [] 0 (omega arith)) ▸ tt) ▸
      (refl ▸ refl ▸ (refl, none_met 2) ▸ refl ▸ tt) ▸
      (puts covers reflexive transitive [] (j ∷ []) ▸ (refl, omega arith) ▸ refl ▸ (omega arith, omega arith) ▸ (refl, omega arith) ▸ refl
      ▸ tt) ▸
      ((refl, omega arith) ▸ tt) ▸ tt

  pub history_is_needed : HistoryIsNeeded covers
  unfolding ends ends_of
  history_is_needed i j = (
    ends_of (ignores_history covers) (after covers) new_fleet (history_is_needed_run i j),
    all_of (history_is_needed_run i j),
    follow (ignores_history covers) (after covers) new_fleet (history_is_needed_run i j) (history_is_needed_may i j),
    (
      refl,
      refl,
    ),
  )

  abbrev later_is_needed_run : I → List (List (Event I))
  later_is_needed_run i =
      joining 0 1 ∷
      publishing 0 i 1 1 ∷
      reading 0 1 0 0 (i ∷ []) ∷
      joining 1 1 ∷
      (AsksToCompact 1 ∷ []) ∷
      compacting 0 1 1 (i ∷ []) ∷
      (IsCompacted 1 (Some 1) 0 [] [] ∷ []) ∷ []

  later_is_needed_may : (i : I) → PhasesMay (replaces_later covers) (after covers) new_fleet (later_is_needed_run i)
  unfolding ends ends_of AllMay PhasesMay
  later_is_needed_may i =
      (refl ▸ refl ▸ (refl, none_met 1) ▸ refl ▸ tt) ▸
      (puts covers reflexive transitive [] (i ∷ []) ▸ (refl, omega arith) ▸ refl ▸ (omega arith, omega arith) ▸ (refl, omega arith) ▸ refl
      ▸ tt) ▸
      (refl ▸ (refl, λ l. refl) ▸ (refl, refl, refl, omega arith, repeats covers reflexive transitive (i ∷ [])) ▸ tt) ▸
      (refl ▸ refl ▸ (refl, none_met 1) ▸ refl ▸ tt) ▸
      ((refl, refl, refl) ▸ tt) ▸
      ((refl, refl, refl) ▸ (refl, refl) ▸ tt ▸ tt) ▸
      ((refl, refl) ▸ tt) ▸ tt

  pub later_is_needed : LaterIsNeeded covers
  unfolding ends ends_of
  later_is_needed i = (
    ends_of (replaces_later covers) (after covers) new_fleet (later_is_needed_run i),
    all_of (later_is_needed_run i),
    follow (replaces_later covers) (after covers) new_fleet (later_is_needed_run i) (later_is_needed_may i),
    (
      refl,
      refl,
      refl,
      refl,
    ),
  )
