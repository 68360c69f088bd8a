-- Runs by phases: what each phase leads to, and that each event of it may happen.
use Rattle.std.proofs.Common.{◌≡◌, ◌+◌, ◌≤◌, ℕ, Bool, true, List, [], ◌∷◌, ◌++◌, length, Some, None, refl, arith}
use Rattle.fleet_rule.specs.Covered.{Covers, Joins, JoinsPart}
use Rattle.fleet_rule.specs.Server.{IsServer}
use Rattle.fleet_rule.specs.Fleet.{Fleet}
use Rattle.fleet_rule.specs.Happens.{Event, Follow}
use Rattle.fleet_rule.specs.Happens.Event.{Changes, AsksToMeet, AsksToAdd, AsksToCompact, AsksToRead, IsMet, IsAdded, IsReplicated}
use Rattle.fleet_rule.specs.Happens.Event.{IsCompacted, IsRead, Meets, GetsAcknowledged, Consumes, ConsumesPart, Ignores, Refills}
use Rattle.fleet_rule.specs.Happens.Event.{Replicates}
use Rattle.fleet_rule.specs.Example.{server_of}
use Rattle.fleet_rule.proofs.CoverLemmas.{part_left}
use Rattle.fleet_rule.proofs.CoverLemmas as cover

infixr 4 ◌▸◌
-- The proofs of a run's events, in order.
abbrev pub ◌▸◌ : {A B : Type 0} → A → B → A × B
a ▸ b = (a, b)

pub none_met : (n : ℕ) → None ≡ Some n → ⊥
none_met n e = cc

pub other_met : (n m : ℕ) → n + 1 ≡ m → Some n ≡ Some m → ⊥
other_met n m l e = let f : n ≡ m = cc in omega arith

module _ {I : Type 0} where
  -- A bridge meets a server, and refills its outbox.
  abbrev pub joining : ℕ → ℕ → List (Event I)
  joining k h = AsksToMeet k ∷ IsMet k ∷ Meets k h ∷ Refills k ∷ []

  -- A change takes effect, and is added and acknowledged as the log's last item, at position p.
  abbrev pub publishing : ℕ → I → ℕ → ℕ → List (Event I)
  publishing k i h p =
      Changes k i (i ∷ []) ∷ AsksToAdd k 1 ∷ IsAdded k (i ∷ []) ∷ Replicates p ∷ IsReplicated k h p ∷ GetsAcknowledged k h ∷ []

  -- A bridge asks to read, and the server answers.
  abbrev pub asking : ℕ → ℕ → ℕ → List I → List (Event I)
  asking k h p items = AsksToRead k ∷ IsRead k (Some h) p (length items) items ∷ []

  abbrev pub reading : ℕ → ℕ → ℕ → ℕ → List I → List (Event I)
  reading k h p end items = AsksToRead k ∷ IsRead k (Some h) p (length items) items ∷ Consumes k (Some h) p end items items ∷ []

  abbrev pub dropping_all : ℕ → ℕ → List I → List (Event I)
  dropping_all k h items = AsksToRead k ∷ IsRead k (Some h) 0 (length items) items ∷ ConsumesPart k (Some h) 0 0 items [] ∷ []

  -- A bridge with nothing in its outbox compacts.
  abbrev pub compacting : ℕ → ℕ → ℕ → List I → List (Event I)
  compacting k h p snapshot = AsksToCompact k ∷ IsCompacted k (Some h) p snapshot [] ∷ Ignores k ∷ []

  unfoldable pub all_of : List (List (Event I)) → List (Event I)
  all_of [] = []
  all_of (es ∷ phases) = es ++ all_of phases

module _ {I : Type 0} (may : Fleet I → Event I → Type 0) (leads : Fleet I → Event I → Fleet I) where
  unfoldable pub ends : Fleet I → List (Event I) → Fleet I
  ends w [] = w
  ends w (e ∷ es) = ends (leads w e) es

  unfoldable pub ends_of : Fleet I → List (List (Event I)) → Fleet I
  ends_of w [] = w
  ends_of w (es ∷ phases) = ends_of (ends w es) phases

  unfoldable pub AllMay : Fleet I → List (Event I) → Type 0
  AllMay w [] = Unit {0}
  AllMay w (e ∷ es) = may w e × AllMay (leads w e) es

  unfoldable pub PhasesMay : Fleet I → List (List (Event I)) → Type 0
  PhasesMay w [] = Unit {0}
  PhasesMay w (es ∷ phases) = AllMay w es × PhasesMay (ends w es) phases

  follow_phase : (w x : Fleet I) (es rest : List (Event I)) → AllMay w es → Follow may leads (ends w es) rest x →
      Follow may leads w (es ++ rest) x
  unfolding ends AllMay
  follow_phase w x [] rest m path = path
  follow_phase w x (e ∷ es) rest m path = (leads w e, (m.0, refl), follow_phase (leads w e) x es rest m.1 path)

  pub follow : (w : Fleet I) (phases : List (List (Event I))) → PhasesMay w phases → Follow may leads w (all_of phases) (ends_of w phases)
  unfolding ends_of PhasesMay all_of
  follow w [] m = refl
  follow w (es ∷ phases) m = follow_phase w (ends_of (ends w es) phases) es (all_of phases) m.0 (follow (ends w es) phases m.1)

module _ {I : Type 0} (covers : I → I → Bool) (reflexive : (i : I) → covers i i ≡ true)
    (transitive : (i j k : I) → covers i j ≡ true → covers j k ≡ true → covers i k ≡ true) where
  -- Stores that put what they got after what they held, hold what they got already, or got nothing.
  itself : (items : List I) → Covers covers items items
  itself items = cover.by_part covers reflexive transitive items items (λ x h. h)

  pub puts : (old items : List I) → Joins covers (old ++ items) old items
  puts old items = record { among = λ x h. h; covered = itself (old ++ items) }

  pub repeats : (items : List I) → Joins covers items items items
  repeats items =
      record {
        among = part_left items items;
        covered = cover.both covers reflexive transitive items items items (itself items) (itself items);
      }

  pub refuses : (old items : List I) → JoinsPart covers old old items
  refuses old items = record { among = part_left old items; covered = itself old }

  pub is_server : (h : ℕ) (items : List I) (n : ℕ) → n ≤ length items → IsServer covers (server_of h items n)
  is_server h items n l =
      record {
        trimmed = omega arith;
        end = omega arith;
        replicated = l;
        whole = cover.none covers reflexive transitive [];
        nothing_else = cover.none covers reflexive transitive items;
      }
