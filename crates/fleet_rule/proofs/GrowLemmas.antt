-- What is known of a host stays known while its server grows, and is forgotten once another server replaces it.
use Rattle.std.proofs.Common.{◌≡◌, ◌<◌, ◌≤◌, ℕ, Bool, true, List, ◌++◌, length, take, Option, Some, None, sym, ap, ◌∙◌, subst, append_assoc}
use Rattle.std.proofs.Common.{arith}
use Rattle.std.specs.List.{Contains}
use Rattle.std.proofs.lemmas.List.{take-append-le, length-append}
use Rattle.fleet_rule.specs.Covered.{ArePart, Covers}
use Rattle.fleet_rule.specs.Server.{Server}
use Rattle.fleet_rule.specs.Bridge.{Bridge}
use Rattle.fleet_rule.specs.Fleet.{Producer, Consumer, Host}
use Rattle.fleet_rule.specs.Fleet.Producer.{Idle, Meeting, Adding, Fetching, Compacting, Replicating, Met, Acknowledged, Fetched}
use Rattle.fleet_rule.specs.Fleet.Consumer.{Paused, Reading, Read}
use Rattle.fleet_rule.specs.Happens.{cut_off}
use Rattle.fleet_rule.proofs.CoverLemmas.{part_left, part_takes}
use Rattle.fleet_rule.proofs.CoverLemmas as cover
use Rattle.fleet_rule.proofs.Kept.{IsUpTo, Tracks, IsSnapshot, AreBoth, IsThere, IsPiece, in_flight_of, ProducerIs, ConsumerIs, IsHost}
use Rattle.fleet_rule.proofs.Kept.{Grows}

pub up_to-le : (o : Option ℕ) (n m : ℕ) → n ≤ m → IsUpTo o n → IsUpTo o m
up_to-le None n m l h = tt
up_to-le (Some k) n m l h = omega arith

-- A bridge that met a server of an earlier history didn't meet this one.
pub not_met : (o : Option ℕ) (n m : ℕ) → n < m → IsUpTo o n → o ≡ Some m → ⊥
not_met None n m l h e = let e2 : None ≡ Some m = e in cc
not_met (Some k) n m l h e = let e2 : k ≡ m = cc in omega arith

some : (s t : ℕ) → t ≡ s → Some t ≡ Some s
some s t e = ap (λ (x : ℕ). Some x) e

module _ {I : Type 0} (covers : I → I → Bool) (reflexive : (i : I) → covers i i ≡ true)
    (transitive : (i j k : I) → covers i j ≡ true → covers j k ≡ true → covers i k ≡ true) where
  -- ---- a server that grows
  grown_take : (s t : Server I) → Grows covers s t → (p : ℕ) → p ≤ length s.log → take p t.log ≡ take p s.log
  grown_take s t g p l = ap (λ (xs : List I). take p xs) g.log ∙ take-append-le p s.log g.more l

  grown_length : (s t : Server I) → Grows covers s t → (p : ℕ) → p ≤ length s.log → p ≤ length t.log
  grown_length s t g p l = let e = ap (λ (xs : List I). length xs) g.log ∙ length-append s.log g.more in omega arith

  grown_part : (s t : Server I) → Grows covers s t → ArePart s.log t.log
  grown_part s t g i h = subst (λ (xs : List I). Contains xs i) (sym g.log) (part_left s.log g.more i h)

  grown_tracks : (s t : Server I) (b : Bridge I) → Grows covers s t → Tracks covers s b → Tracks covers t b
  grown_tracks s t b g h =
      record {
        accounted = λ e. cover.both_parts covers reflexive transitive s.log t.log b.outbox b.held (grown_part s t g) (h.accounted e);
        position = grown_length s t g b.position h.position;
        read = λ q. subst (λ (xs : List I). Covers covers b.held xs) (sym (grown_take s t g b.position h.position)) (h.read q);
        consumed = cover.in_more covers reflexive transitive s.log t.log b.consumed (grown_part s t g) h.consumed;
      }

  grown_snapshot : (s t : Server I) (p : ℕ) (items : List I) → Grows covers s t → IsSnapshot covers s p items → IsSnapshot covers t p items
  grown_snapshot s t p items g h =
      record {
        end = grown_length s t g p h.end;
        whole = subst (λ (xs : List I). Covers covers items xs) (sym (grown_take s t g p h.end)) h.whole;
        nothing_else = cover.in_more covers reflexive transitive s.log t.log items (grown_part s t g) h.nothing_else;
      }

  grown_both : (s t : Server I) (p : ℕ) (snapshot items : List I) → Grows covers s t → AreBoth covers s p snapshot items →
      AreBoth covers t p snapshot items
  grown_both s t p snapshot items g h =
      record {
        end = grown_length s t g p h.end;
        whole = subst (λ (xs : List I). Covers covers snapshot xs) (sym (grown_take s t g p h.end)) h.whole;
        nothing_else = cover.both_parts covers reflexive transitive s.log t.log items snapshot (grown_part s t g) h.nothing_else;
      }

  grown_there : (s t : Server I) (p : ℕ) (items : List I) → Grows covers s t → IsThere covers s p items → IsThere covers t p items
  grown_there s t p items g h =
      record {
        end = grown_length s t g p h.end;
        there = subst (λ (xs : List I). Covers covers xs items) (sym (grown_take s t g p h.end)) h.there;
      }

  grown_piece : (s t : Server I) (p : ℕ) (items : List I) → Grows covers s t → IsPiece covers s p items → IsPiece covers t p items
  grown_piece s t p items g h =
      record {
        front = h.front;
        back = h.back ++ g.more;
        whole = g.log ∙ ap (λ (xs : List I). xs ++ g.more) h.whole ∙ append_assoc h.front (items ++ h.back) g.more ∙
            ap (λ (xs : List I). h.front ++ xs) (append_assoc items h.back g.more);
        position = h.position;
      }

  -- What the replicas have grows, too.
  grown_replicated : (s t : Server I) → Grows covers s t → s.replicated ≤ length s.log →
      ArePart (take s.replicated s.log) (take t.replicated t.log)
  grown_replicated s t g l i h =
      part_takes s.replicated t.replicated t.log g.replicated i
      (subst (λ (xs : List I). Contains xs i) (sym (grown_take s t g s.replicated l)) h)

  grown_producer : (s t : Server I) (b : Bridge I) (l : Producer I) → Grows covers s t → s.replicated ≤ length s.log →
      ProducerIs covers s b l → ProducerIs covers t b l
  grown_producer s t b Idle g k h = tt
  grown_producer s t b Meeting g k h = tt
  grown_producer s t b (Adding items) g k h = h
  grown_producer s t b Fetching g k h = tt
  grown_producer s t b (Compacting m p snapshot items) g k h = (
    h.0,
    up_to-le m s.history t.history (let e = g.history in omega arith) h.1,
    λ e. grown_both s t p snapshot items g (h.2 (e ∙ some s.history t.history g.history)),
  )
  grown_producer s t b (Replicating n p) g k h = (
    let e = g.history in omega arith,
    λ e. h.1 (e ∙ some s.history t.history g.history) ∙ sym g.history,
    λ e. grown_there s t p (in_flight_of b) g (h.2 (e ∙ g.history)),
  )
  grown_producer s t b (Met n) g k h =
      (let e = g.history in omega arith, λ e. h.1 (e ∙ some s.history t.history g.history) ∙ sym g.history)
  grown_producer s t b (Acknowledged n) g k h = (
    let e = g.history in omega arith,
    λ e. h.1 (e ∙ some s.history t.history g.history) ∙ sym g.history,
    λ e. cover.in_more covers reflexive transitive (take s.replicated s.log) (take t.replicated t.log) (in_flight_of b)
        (grown_replicated s t g k) (h.2 (e ∙ g.history)),
  )
  grown_producer s t b (Fetched p items) g k h = λ e. grown_snapshot s t p items g (h (e ∙ some s.history t.history g.history))

  grown_consumer : (s t : Server I) (l : Consumer I) → Grows covers s t → ConsumerIs covers s l → ConsumerIs covers t l
  grown_consumer s t Paused g h = tt
  grown_consumer s t (Reading m p) g h = (
    up_to-le m s.history t.history (let e = g.history in omega arith) h.0,
    λ e. grown_length s t g p (h.1 (e ∙ some s.history t.history g.history)),
  )
  grown_consumer s t (Read m p end items) g h = (
    up_to-le m s.history t.history (let e = g.history in omega arith) h.0,
    λ e l. grown_piece s t p items g (h.1 (e ∙ some s.history t.history g.history) l),
  )

  pub grown_host : (s t : Server I) (host : Host I) → Grows covers s t → s.replicated ≤ length s.log → IsHost covers s host →
      IsHost covers t host
  grown_host s t host g k h =
      record {
        in_flight = h.in_flight;
        met = up_to-le host.bridge.met s.history t.history (let e = g.history in omega arith) h.met;
        tracks = λ e. grown_tracks s t host.bridge g (h.tracks (e ∙ some s.history t.history g.history));
        producer = grown_producer s t host.bridge host.producer g k h.producer;
        consumer = grown_consumer s t host.consumer g h.consumer;
      }

  -- ---- another server
  other_producer : (s t : Server I) (b : Bridge I) (l : Producer I) → s.history < t.history → IsUpTo b.met s.history →
      ProducerIs covers s b l → ProducerIs covers t b l
  other_producer s t b Idle g u h = tt
  other_producer s t b Meeting g u h = tt
  other_producer s t b (Adding items) g u h = h
  other_producer s t b Fetching g u h = tt
  other_producer s t b (Compacting m p snapshot items) g u h =
      (h.0, up_to-le m s.history t.history (omega arith) h.1, λ e. absurd (not_met m s.history t.history g h.1 e))
  other_producer s t b (Replicating n p) g u h = let l = h.0 in
      (omega arith, λ e. absurd (not_met b.met s.history t.history g u e), λ e. absurd (omega arith))
  other_producer s t b (Met n) g u h = let l = h.0 in (omega arith, λ e. absurd (not_met b.met s.history t.history g u e))
  other_producer s t b (Acknowledged n) g u h = let l = h.0 in
      (omega arith, λ e. absurd (not_met b.met s.history t.history g u e), λ e. absurd (omega arith))
  other_producer s t b (Fetched p items) g u h = λ e. absurd (not_met b.met s.history t.history g u e)

  other_consumer : (s t : Server I) (l : Consumer I) → s.history < t.history → ConsumerIs covers s l → ConsumerIs covers t l
  other_consumer s t Paused g h = tt
  other_consumer s t (Reading m p) g h =
      (up_to-le m s.history t.history (omega arith) h.0, λ e. absurd (not_met m s.history t.history g h.0 e))
  other_consumer s t (Read m p end items) g h =
      (up_to-le m s.history t.history (omega arith) h.0, λ e. absurd (not_met m s.history t.history g h.0 e))

  pub other_host : (s t : Server I) (host : Host I) → s.history < t.history → IsHost covers s host → IsHost covers t host
  other_host s t host g h =
      record {
        in_flight = h.in_flight;
        met = up_to-le host.bridge.met s.history t.history (omega arith) h.met;
        tracks = λ e. absurd (not_met host.bridge.met s.history t.history g h.met e);
        producer = other_producer s t host.bridge host.producer g h.met h.producer;
        consumer = other_consumer s t host.consumer g h.consumer;
      }

  pub cut_host : (s : Server I) (host : Host I) → IsHost covers s host → IsHost covers s (cut_off host)
  cut_host s host h =
      record {
        in_flight = h.in_flight;
        met = h.met;
        tracks = h.tracks;
        producer = tt;
        consumer = tt;
      }
