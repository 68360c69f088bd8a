-- Runs of wrong rules of meetings.
use Rattle.std.proofs.Common.{◌≡◌, Bool, true, List, [], ◌∷◌, refl, arith, false, not, cond, ap, ◌||◌}
use Rattle.fleet_rule.specs.Happens.{Event, after, May}
use Rattle.fleet_rule.specs.Happens.Event.{AsksToMeet, IsMet, Meets, Refills, Loses}
use Rattle.fleet_rule.specs.Example.{server_of, new_fleet}
use Rattle.fleet_rule.specs.Covered.{uncovered}
use Rattle.fleet_rule.specs.CarelessMeeting.{keeps_position, keeps_consumed, resends_nothing, meets_again, refills_again, PositionIsNeeded}
use Rattle.fleet_rule.specs.CarelessMeeting.{ConsumedIsNeeded, SendingAgainIsNeeded, NewsIsNeeded, NeedIsNeeded}
use Rattle.fleet_rule.proofs.RunLemmas.{◌▸◌, none_met, other_met, joining, publishing, reading, all_of, ends, ends_of, AllMay, PhasesMay}
use Rattle.fleet_rule.proofs.RunLemmas.{follow, puts, repeats, is_server}

module _ {I : Type 0} (covers : I → I → Bool) (reflexive : (i : I) → covers i i ≡ true)
    (transitive : (i j k : I) → covers i j ≡ true → covers j k ≡ true → covers i k ≡ true) where
  abbrev position_is_needed_run : I → I → List (List (Event I))
  position_is_needed_run i j =
      joining 0 1 ∷
      publishing 0 i 1 1 ∷
      reading 0 1 0 0 (i ∷ []) ∷
      (Loses (server_of 2 (j ∷ []) 1) ∷ []) ∷
      joining 0 2 ∷ []

  position_is_needed_may : (i j : I) → PhasesMay (May covers) (keeps_position covers) new_fleet (position_is_needed_run i j)
  unfolding ends ends_of AllMay PhasesMay
  position_is_needed_may i j =
      (refl ▸ refl ▸ (refl, none_met 1) ▸ refl ▸ tt) ▸
      (puts covers reflexive transitive [] (i ∷ []) ▸ (refl, omega arith) ▸ refl ▸ (omega arith, omega arith) ▸ (refl, omega arith) ▸ refl
      ▸ tt) ▸
      (refl ▸ (refl, λ l. refl) ▸ (refl, refl, refl, omega arith, repeats covers reflexive transitive (i ∷ [])) ▸ tt) ▸
      ((omega arith, is_server covers reflexive transitive 2 (j ∷ []) 1 (omega arith)) ▸ tt) ▸
      (refl ▸ refl ▸ (refl, other_met 1 2 refl) ▸ refl ▸ tt) ▸ tt

  pub position_is_needed : PositionIsNeeded covers
  unfolding ends ends_of
  position_is_needed i j = (
    ends_of (May covers) (keeps_position covers) new_fleet (position_is_needed_run i j),
    all_of (position_is_needed_run i j),
    follow (May covers) (keeps_position covers) new_fleet (position_is_needed_run i j) (position_is_needed_may i j),
    (
      record { met = refl; position = refl; whole = refl },
      refl,
      refl,
    ),
  )

  -- Nothing is left to send of what was consumed.
  no_rest : (i : I) → uncovered covers (i ∷ []) (i ∷ []) ≡ []
  no_rest i = ap (λ (b : Bool). cond (not (b || false)) (i ∷ []) []) (reflexive i)

  abbrev consumed_is_needed_run : I → List (List (Event I))
  consumed_is_needed_run i =
      joining 0 1 ∷
      publishing 0 i 1 1 ∷
      reading 0 1 0 0 (i ∷ []) ∷
      (Loses (server_of 2 [] 0) ∷ []) ∷
      joining 0 2 ∷ []

  consumed_is_needed_may : (i : I) → PhasesMay (May covers) (keeps_consumed covers) new_fleet (consumed_is_needed_run i)
  unfolding ends ends_of AllMay PhasesMay
  consumed_is_needed_may i =
      (refl ▸ refl ▸ (refl, none_met 1) ▸ refl ▸ tt) ▸
      (puts covers reflexive transitive [] (i ∷ []) ▸ (refl, omega arith) ▸ refl ▸ (omega arith, omega arith) ▸ (refl, omega arith) ▸ refl
      ▸ tt) ▸
      (refl ▸ (refl, λ l. refl) ▸ (refl, refl, refl, omega arith, repeats covers reflexive transitive (i ∷ [])) ▸ tt) ▸
      ((omega arith, is_server covers reflexive transitive 2 [] 0 (omega arith)) ▸ tt) ▸
      (refl ▸ refl ▸ (refl, other_met 1 2 refl) ▸ refl ▸ tt) ▸ tt

  pub consumed_is_needed : ConsumedIsNeeded covers
  unfolding ends ends_of
  consumed_is_needed i = (
    ends_of (May covers) (keeps_consumed covers) new_fleet (consumed_is_needed_run i),
    all_of (consumed_is_needed_run i),
    follow (May covers) (keeps_consumed covers) new_fleet (consumed_is_needed_run i) (consumed_is_needed_may i),
    record { sent = record { met = refl; must_resend = refl; outbox = no_rest i }; held = refl; log = refl },
  )

  abbrev sending_again_is_needed_run : I → List (List (Event I))
  sending_again_is_needed_run i =
      (AsksToMeet 0 ∷ IsMet 0 ∷ Meets 0 1 ∷ []) ∷
      publishing 0 i 1 1 ∷
      (Loses (server_of 2 [] 0) ∷ []) ∷
      (AsksToMeet 0 ∷ IsMet 0 ∷ Meets 0 2 ∷ []) ∷ []

  sending_again_is_needed_may : (i : I) → PhasesMay (May covers) (resends_nothing covers) new_fleet (sending_again_is_needed_run i)
  unfolding ends ends_of AllMay PhasesMay
  sending_again_is_needed_may i =
      (refl ▸ refl ▸ (refl, none_met 1) ▸ tt) ▸
      (puts covers reflexive transitive [] (i ∷ []) ▸ (refl, omega arith) ▸ refl ▸ (omega arith, omega arith) ▸ (refl, omega arith) ▸ refl
      ▸ tt) ▸
      ((omega arith, is_server covers reflexive transitive 2 [] 0 (omega arith)) ▸ tt) ▸
      (refl ▸ refl ▸ (refl, other_met 1 2 refl) ▸ tt) ▸ tt

  pub sending_again_is_needed : SendingAgainIsNeeded covers
  unfolding ends ends_of
  sending_again_is_needed i = (
    ends_of (May covers) (resends_nothing covers) new_fleet (sending_again_is_needed_run i),
    all_of (sending_again_is_needed_run i),
    follow (May covers) (resends_nothing covers) new_fleet (sending_again_is_needed_run i) (sending_again_is_needed_may i),
    record { sent = record { met = refl; must_resend = refl; outbox = refl }; held = refl; log = refl },
  )

  abbrev news_is_needed_run : I → List (List (Event I))
  news_is_needed_run i =
      joining 0 1 ∷
      publishing 0 i 1 1 ∷ []

  news_is_needed_may : (i : I) → PhasesMay (meets_again covers) (after covers) new_fleet (news_is_needed_run i)
  unfolding ends ends_of AllMay PhasesMay
  news_is_needed_may i =
      (refl ▸ refl ▸ refl ▸ refl ▸ tt) ▸
      (puts covers reflexive transitive [] (i ∷ []) ▸ (refl, omega arith) ▸ refl ▸ (omega arith, omega arith) ▸ (refl, omega arith) ▸ refl
      ▸ tt) ▸ tt

  abbrev news_is_needed_later : List (Event I)
  news_is_needed_later = joining 0 1

  news_is_needed_later_may : (i : I) → PhasesMay (meets_again covers) (after covers)
      (ends_of (meets_again covers) (after covers) new_fleet (news_is_needed_run i)) (news_is_needed_later ∷ [])
  unfolding ends ends_of AllMay PhasesMay
  news_is_needed_later_may i = (refl ▸ refl ▸ refl ▸ refl ▸ tt) ▸ tt

  pub news_is_needed : NewsIsNeeded covers
  unfolding ends ends_of all_of
  news_is_needed i = (
    ends_of (meets_again covers) (after covers) new_fleet (news_is_needed_run i),
    all_of (news_is_needed_run i),
    follow (meets_again covers) (after covers) new_fleet (news_is_needed_run i) (news_is_needed_may i),
    record {
      sent = record { met = refl; must_resend = refl; outbox = refl };
      answered = refl;
      y = ends_of (meets_again covers) (after covers) (ends_of (meets_again covers) (after covers) new_fleet (news_is_needed_run i))
          (news_is_needed_later ∷ []);
      later = all_of (news_is_needed_later ∷ []);
      path = follow (meets_again covers) (after covers) (ends_of (meets_again covers) (after covers) new_fleet (news_is_needed_run i))
          (news_is_needed_later ∷ []) (news_is_needed_later_may i);
      unbroken = refl;
      unchanged = refl;
      outbox = refl;
    },
  )

  abbrev need_is_needed_run : I → List (List (Event I))
  need_is_needed_run i =
      joining 0 1 ∷
      publishing 0 i 1 1 ∷ []

  need_is_needed_may : (i : I) → PhasesMay (refills_again covers) (after covers) new_fleet (need_is_needed_run i)
  unfolding ends ends_of AllMay PhasesMay
  need_is_needed_may i =
      (refl ▸ refl ▸ (refl, none_met 1) ▸ tt ▸ tt) ▸
      (puts covers reflexive transitive [] (i ∷ []) ▸ (refl, omega arith) ▸ refl ▸ (omega arith, omega arith) ▸ (refl, omega arith) ▸ refl
      ▸ tt) ▸ tt

  abbrev need_is_needed_later : List (Event I)
  need_is_needed_later = Refills 0 ∷ []

  need_is_needed_later_may : (i : I) → PhasesMay (refills_again covers) (after covers)
      (ends_of (refills_again covers) (after covers) new_fleet (need_is_needed_run i)) (need_is_needed_later ∷ [])
  unfolding ends ends_of AllMay PhasesMay
  need_is_needed_later_may i = (tt ▸ tt) ▸ tt

  pub need_is_needed : NeedIsNeeded covers
  unfolding ends ends_of all_of
  need_is_needed i = (
    ends_of (refills_again covers) (after covers) new_fleet (need_is_needed_run i),
    all_of (need_is_needed_run i),
    follow (refills_again covers) (after covers) new_fleet (need_is_needed_run i) (need_is_needed_may i),
    record {
      sent = record { met = refl; must_resend = refl; outbox = refl };
      answered = refl;
      y = ends_of (refills_again covers) (after covers) (ends_of (refills_again covers) (after covers) new_fleet (need_is_needed_run i))
          (need_is_needed_later ∷ []);
      later = all_of (need_is_needed_later ∷ []);
      path = follow (refills_again covers) (after covers) (ends_of (refills_again covers) (after covers) new_fleet (need_is_needed_run i))
          (need_is_needed_later ∷ []) (need_is_needed_later_may i);
      unbroken = refl;
      unchanged = refl;
      outbox = refl;
    },
  )
