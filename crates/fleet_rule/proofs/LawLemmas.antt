-- The laws of a fleet, except that nothing is echoed.
use Rattle.std.proofs.Common.{◌≡◌, ◌+◌, ◌==◌, cond, ℕ, Bool, true, false, List, [], ◌∷◌, ◌++◌, length, take, drop, refl, sym, ap, ◌∙◌}
use Rattle.std.proofs.Common.{subst, arith}
use Rattle.std.specs.List.{list_any}
use Rattle.std.proofs.lemmas.Bool.{eqb-true, eq-eqb, or_parts}
use Rattle.std.proofs.lemmas.List.{append-nil, take-append-drop, take_all}
use Rattle.fleet_rule.specs.Covered.{Covers}
use Rattle.fleet_rule.specs.Bridge.{changed, sending, acknowledged, meeting, consuming, dropping, rereading, refilled, folded, doubting}
use Rattle.fleet_rule.specs.Fleet.{Producer, Consumer, Host, Fleet, new_host, placed}
use Rattle.fleet_rule.specs.Fleet.Producer.{Idle, Meeting, Adding, Fetching, Compacting, Replicating, Met, Acknowledged, Fetched}
use Rattle.fleet_rule.specs.Fleet.Consumer.{Paused, Reading, Read}
use Rattle.fleet_rule.specs.Happens.{Event, after, May, HappenAll, IsNew, bridge_at, with_producer, with_consumer, cut_off}
use Rattle.fleet_rule.specs.Happens.Event.{Changes, AsksToMeet, AsksToAdd, AsksToFetch, AsksToCompact, AsksToRead}
use Rattle.fleet_rule.specs.Happens.Event.{IsMet, IsAdded, IsReplicated, IsFetched, IsCompacted, IsOnlyAdded, IsRead}
use Rattle.fleet_rule.specs.Happens.Event.{Meets, GetsAcknowledged, TakesSnapshot, TakesPart, Consumes, ConsumesPart, Ignores}
use Rattle.fleet_rule.specs.Happens.Event.{IgnoresReading}
use Rattle.fleet_rule.specs.Happens.Event.{Rereads, Refills, Folds, Doubts, Disconnects, Crashes, Replicates, FailsOver, Loses}
use Rattle.fleet_rule.specs.Laws.{HasRead, HasSent, is_crash_of, readable, AnsweredIsKept, ReadersHoldAll, BridgesAgree, SnapshotsAreWhole}
use Rattle.fleet_rule.specs.Laws.{NothingHeldIsLost}
use Rattle.fleet_rule.proofs.CoverLemmas.{part_left, part_right, part_take, part_drop}
use Rattle.fleet_rule.proofs.CoverLemmas as cover
use Rattle.fleet_rule.proofs.Kept.{IsKept}
use Rattle.fleet_rule.proofs.HostLemmas.{true_is_false}
use Rattle.fleet_rule.proofs.StepLemmas as steps

-- The host at k, after another one was put at j.
module _ {I : Type 0} where
  pub at_host : (P : Host I → Type 0) (j k : ℕ) (host : Host I) (hosts : ℕ → Host I) → (k ≡ j → P host) → P (hosts k) →
      P (placed j host hosts k)
  at_host P j k host hosts f g = by_test (k == j) refl
    where
      by_test : (b : Bool) → (k == j) ≡ b → P (cond b host (hosts k))
      by_test true e = f (eqb-true k j e)
      by_test false e = g

module _ {I : Type 0} (covers : I → I → Bool) (reflexive : (i : I) → covers i i ≡ true)
    (transitive : (i j k : I) → covers i j ≡ true → covers j k ≡ true → covers i k ≡ true) where
  pub kept : (w x : Fleet I) (es : List (Event I)) → IsNew covers w → HappenAll covers w es x → IsKept covers x
  kept w x es n path = steps.all_kept covers reflexive transitive w x es path (steps.new_kept covers reflexive transitive w n)

  pub answered_is_kept : AnsweredIsKept covers
  answered_is_kept w x es n path = (kept w x es n path).answered

  reads_all : (x : Fleet I) (k : ℕ) → IsKept covers x → HasRead x k → Covers covers (bridge_at x k).held x.server.log
  reads_all x k h r =
      let tracks = (h.hosts k).tracks r.met in
      subst (λ (xs : List I). Covers covers (bridge_at x k).held xs)
      (ap (λ (n : ℕ). take n x.server.log) r.position ∙ take_all (length x.server.log) x.server.log (omega arith))
      (tracks.read r.whole)

  sends_all : (x : Fleet I) (k : ℕ) → IsKept covers x → HasSent x k → Covers covers x.server.log (bridge_at x k).held
  sends_all x k h t =
      let tracks = (h.hosts k).tracks t.met in
      subst (λ (xs : List I). Covers covers xs (bridge_at x k).held)
      (ap (λ (xs : List I). x.server.log ++ xs) t.outbox ∙ append-nil x.server.log)
      (tracks.accounted t.must_resend)

  pub readers_hold_all : ReadersHoldAll covers
  readers_hold_all w x es k n path r =
      let h = kept w x es n path in
      let all = reads_all x k h r in
      let front = take x.server.replicated x.server.log in
      let holds_front = cover.of_part covers reflexive transitive front x.server.log (bridge_at x k).held
      (part_take x.server.replicated x.server.log) all in
      (all, cover.through covers reflexive transitive x.answered front (bridge_at x k).held h.answered holds_front)

  pub bridges_agree : BridgesAgree covers
  bridges_agree w x es j k n path rj rk t =
      let h = kept w x es n path in
      cover.through covers reflexive transitive (bridge_at x j).held x.server.log (bridge_at x k).held (sends_all x j h t)
      (reads_all x k h rk)

  pub snapshots_are_whole : SnapshotsAreWhole covers
  snapshots_are_whole w x es n path =
      let s = x.server in
      let v = (kept w x es n path).server in
      let rest = drop s.end s.log in (
        v.trimmed,
        subst (λ (xs : List I). Covers covers (readable s) xs) (take-append-drop s.end s.log)
            (cover.both covers reflexive transitive (take s.end s.log) rest (readable s)
            (cover.in_more covers reflexive transitive s.snapshot (readable s) (take s.end s.log) (part_left s.snapshot rest) v.whole)
            (cover.by_part covers reflexive transitive rest (readable s) (part_right s.snapshot rest))),
        cover.both covers reflexive transitive s.snapshot rest s.log v.nothing_else
            (cover.by_part covers reflexive transitive rest s.log (part_drop s.end s.log)),
      )

  -- ---- what a bridge holds only grows
  itself : (xs : List I) → Covers covers xs xs
  itself xs = cover.by_part covers reflexive transitive xs xs (λ i h. h)

  grown_at : (w : Fleet I) (j k : ℕ) (host : Host I) → Covers covers host.bridge.held (bridge_at w j).held →
      Covers covers (placed j host w.hosts k).bridge.held (bridge_at w k).held
  grown_at w j k host h =
      at_host (λ (x : Host I). Covers covers x.bridge.held (bridge_at w k).held) j k host w.hosts
      (λ e. subst (λ (z : ℕ). Covers covers host.bridge.held (bridge_at w z).held) (sym e) h)
      (itself (bridge_at w k).held)

  same_at : (w : Fleet I) (j k : ℕ) (host : Host I) → host.bridge.held ≡ (bridge_at w j).held →
      Covers covers (placed j host w.hosts k).bridge.held (bridge_at w k).held
  same_at w j k host e =
      grown_at w j k host (subst (λ (xs : List I). Covers covers xs (bridge_at w j).held) (sym e) (itself (bridge_at w j).held))

  on_producer : (w : Fleet I) (j k : ℕ) (l : Producer I) → Covers covers (bridge_at (with_producer w j l) k).held (bridge_at w k).held
  on_producer w j k l = same_at w j k (record (w.hosts j) { producer = l }) refl

  on_consumer : (w : Fleet I) (j k : ℕ) (l : Consumer I) → Covers covers (bridge_at (with_consumer w j l) k).held (bridge_at w k).held
  on_consumer w j k l = same_at w j k (record (w.hosts j) { consumer = l }) refl

  held_grows : (w : Fleet I) (e : Event I) (k : ℕ) → May covers w e → is_crash_of k e ≡ false →
      Covers covers (bridge_at (after covers w e) k).held (bridge_at w k).held
  held_grows w (Changes j i held) k m n =
      grown_at w j k (record (w.hosts j) { bridge = changed (bridge_at w j) i held })
      (cover.joined_old covers reflexive transitive held (bridge_at w j).held (i ∷ []) m)
  held_grows w (AsksToMeet j) k m n = on_producer w j k Meeting
  held_grows w (AsksToAdd j c) k m n =
      same_at w j k (record (w.hosts j) { bridge = sending (bridge_at w j) c; producer = Adding (take c (bridge_at w j).outbox) }) refl
  held_grows w (AsksToFetch j) k m n = on_producer w j k Fetching
  held_grows w (AsksToCompact j) k m n =
      let b = bridge_at w j in
      same_at w j k (record (w.hosts j) { bridge = sending b (length b.outbox); producer = Compacting b.met b.position b.held b.outbox })
      refl
  held_grows w (AsksToRead j) k m n = on_consumer w j k (Reading (bridge_at w j).met (bridge_at w j).position)
  held_grows w (IsMet j) k m n = on_producer w j k (Met w.server.history)
  held_grows w (IsAdded j items) k m n = on_producer w j k (Replicating w.server.history (length (w.server.log ++ items)))
  held_grows w (IsReplicated j h p) k m n = on_producer w j k (Acknowledged h)
  held_grows w (IsFetched j) k m n = on_producer w j k (Fetched w.server.end w.server.snapshot)
  held_grows w (IsCompacted j o p snapshot items) k m n = on_producer w j k (Replicating w.server.history (length (w.server.log ++ items)))
  held_grows w (IsOnlyAdded j o p snapshot items) k m n = on_producer w j k (Replicating w.server.history (length (w.server.log ++ items)))
  held_grows w (IsRead j o p c items) k m n = on_consumer w j k (Read o p w.server.end items)
  held_grows w (Meets j h) k m n = same_at w j k (record (w.hosts j) { bridge = meeting (bridge_at w j) h; producer = Idle }) refl
  held_grows w (GetsAcknowledged j h) k m n =
      same_at w j k (record (w.hosts j) { bridge = acknowledged (bridge_at w j); producer = Idle }) refl
  held_grows w (TakesSnapshot j p items held) k m n =
      grown_at w j k (record (w.hosts j) { bridge = consuming (bridge_at w j) items p held; producer = Idle })
      (cover.joined_old covers reflexive transitive held (bridge_at w j).held items m.1)
  held_grows w (TakesPart j p items held) k m n =
      grown_at w j k (record (w.hosts j) { bridge = dropping (bridge_at w j) items p held; producer = Idle }) m.1.covered
  held_grows w (Consumes j o p end items held) k m n =
      grown_at w j k (record (w.hosts j) { bridge = consuming (bridge_at w j) items (p + length items) held; consumer = Paused })
      (cover.joined_old covers reflexive transitive held (bridge_at w j).held items m.4)
  held_grows w (ConsumesPart j o p end items held) k m n =
      grown_at w j k (record (w.hosts j) { bridge = dropping (bridge_at w j) items (p + length items) held; consumer = Paused }) m.3.covered
  held_grows w (Ignores j) k m n = on_producer w j k Idle
  held_grows w (IgnoresReading j) k m n = on_consumer w j k Paused
  held_grows w (Rereads j) k m n = same_at w j k (record (w.hosts j) { bridge = rereading (bridge_at w j) }) refl
  held_grows w (Refills j) k m n = same_at w j k (record (w.hosts j) { bridge = refilled covers (bridge_at w j) }) refl
  held_grows w (Folds j) k m n = same_at w j k (record (w.hosts j) { bridge = folded (bridge_at w j) }) refl
  held_grows w (Doubts j) k m n = same_at w j k (record (w.hosts j) { bridge = doubting (bridge_at w j) }) refl
  held_grows w (Disconnects j) k m n = same_at w j k (cut_off (w.hosts j)) refl
  held_grows w (Crashes j) k m n =
      at_host (λ (x : Host I). Covers covers x.bridge.held (bridge_at w k).held) j k new_host w.hosts
      (λ e. true_is_false (sym (eq-eqb j k (sym e)) ∙ n))
      (itself (bridge_at w k).held)
  held_grows w (Replicates p) k m n = itself (bridge_at w k).held
  held_grows w (FailsOver s) k m n = itself (bridge_at w k).held
  held_grows w (Loses s) k m n = itself (bridge_at w k).held

  held_grows_all : (w x : Fleet I) (es : List (Event I)) (k : ℕ) → HappenAll covers w es x → list_any (is_crash_of k) es ≡ false →
      Covers covers (bridge_at x k).held (bridge_at w k).held
  held_grows_all w x [] k e n = subst (λ (y : Fleet I). Covers covers (bridge_at y k).held (bridge_at w k).held) e
      (itself (bridge_at w k).held)
  held_grows_all w x (e ∷ es) k path n =
      let first = subst (λ (y : Fleet I). Covers covers (bridge_at y k).held (bridge_at w k).held) path.1.1
      (held_grows w e k path.1.0 (or_parts (is_crash_of k e) (list_any (is_crash_of k) es) n).0) in
      cover.through covers reflexive transitive (bridge_at w k).held (bridge_at path.0 k).held (bridge_at x k).held first
      (held_grows_all path.0 x es k path.2 (or_parts (is_crash_of k e) (list_any (is_crash_of k) es) n).1)

  pub nothing_held_is_lost : NothingHeldIsLost covers
  nothing_held_is_lost w x y es later k n path more c t =
      let h = steps.all_kept covers reflexive transitive x y later more (kept w x es n path) in
      cover.through covers reflexive transitive (bridge_at x k).held (bridge_at y k).held y.server.log
      (held_grows_all x y later k more c) (sends_all y k h t)
