-- Nothing is echoed.
use Rattle.std.proofs.Common.{◌≡◌, ◌+◌, ◌==◌, cond, ℕ, Bool, true, false, List, [], ◌∷◌, ◌++◌, length, take, Some, refl, sym, ap, ◌∙◌}
use Rattle.std.proofs.Common.{subst, inl, inr, append_assoc}
use Rattle.std.specs.List.{Contains, list_any}
use Rattle.std.proofs.lemmas.Bool.{eq-eqb, or_parts}
use Rattle.std.proofs.lemmas.List.Elements.{Contains-append_left, Contains-append_right, Contains-append_cases}
use Rattle.fleet_rule.specs.Covered.{ArePart}
use Rattle.fleet_rule.specs.Bridge.{Bridge, changed, sending, acknowledged, meeting, consuming, dropping, rereading, refilled, folded}
use Rattle.fleet_rule.specs.Bridge.{doubting}
use Rattle.fleet_rule.specs.Fleet.{Producer, Consumer, Host, Fleet, new_host, placed}
use Rattle.fleet_rule.specs.Fleet.Producer.{Idle, Meeting, Adding, Fetching, Compacting, Replicating, Met, Acknowledged, Fetched}
use Rattle.fleet_rule.specs.Fleet.Consumer.{Paused, Reading, Read}
use Rattle.fleet_rule.specs.Happens.{Event, after, May, HappenAll, bridge_at, with_producer, with_consumer, cut_off}
use Rattle.fleet_rule.specs.Happens.Event.{Changes, AsksToMeet, AsksToAdd, AsksToFetch, AsksToCompact, AsksToRead}
use Rattle.fleet_rule.specs.Happens.Event.{IsMet, IsAdded, IsReplicated, IsFetched, IsCompacted, IsOnlyAdded, IsRead}
use Rattle.fleet_rule.specs.Happens.Event.{Meets, GetsAcknowledged, TakesSnapshot, TakesPart, Consumes, ConsumesPart, Ignores}
use Rattle.fleet_rule.specs.Happens.Event.{IgnoresReading}
use Rattle.fleet_rule.specs.Happens.Event.{Rereads, Refills, Folds, Doubts, Disconnects, Crashes, Replicates, FailsOver, Loses}
use Rattle.fleet_rule.specs.Laws.{breaks, change_at, changes_of, NothingIsEchoed}
use Rattle.fleet_rule.proofs.CoverLemmas.{part_left, part_drop}
use Rattle.fleet_rule.proofs.Kept.{IsKept, ProducerIs}
use Rattle.fleet_rule.proofs.HostLemmas.{true_is_false}
use Rattle.fleet_rule.proofs.StepLemmas as steps
use Rattle.fleet_rule.proofs.LawLemmas.{at_host}
use Rattle.fleet_rule.proofs.LawLemmas as laws

module _ {I : Type 0} where
  -- A bridge after an event that changed it little: its outbox has a few items more.
  pub record SameBut (new old : Bridge I) (more : List I) : Type 0 where
    pub met : new.met ≡ old.met
    pub must_resend : new.must_resend ≡ old.must_resend
    pub outbox : ArePart new.outbox (old.outbox ++ more)

  same : (b : Bridge I) → SameBut b b []
  same b = record { met = refl; must_resend = refl; outbox = part_left b.outbox [] }

  -- The host at k, if the host that was put at j is the same but for these, or can't have been put at k.
  moved : (w : Fleet I) (j k : ℕ) (host : Host I) → SameBut host.bridge (bridge_at w j) [] →
      SameBut (placed j host w.hosts k).bridge (bridge_at w k) []
  moved w j k host h =
      at_host (λ (x : Host I). SameBut x.bridge (bridge_at w k) []) j k host w.hosts
      (λ e. subst (λ (z : ℕ). SameBut host.bridge (bridge_at w z) []) (sym e) h)
      (same (bridge_at w k))

  moved_changed : (w : Fleet I) (j k : ℕ) (host : Host I) (more : List I) → SameBut host.bridge (bridge_at w j) more →
      SameBut (placed j host w.hosts k).bridge (bridge_at w k) more
  moved_changed w j k host more h =
      at_host (λ (x : Host I). SameBut x.bridge (bridge_at w k) more) j k host w.hosts
      (λ e. subst (λ (z : ℕ). SameBut host.bridge (bridge_at w z) more) (sym e) h)
      (record { met = refl; must_resend = refl; outbox = part_left (bridge_at w k).outbox more })

  not_moved : (w : Fleet I) (j k : ℕ) (host : Host I) → (k ≡ j → ⊥) →
      SameBut (placed j host w.hosts k).bridge (bridge_at w k) []
  not_moved w j k host n =
      at_host (λ (x : Host I). SameBut x.bridge (bridge_at w k) []) j k host w.hosts (λ e. absurd (n e)) (same (bridge_at w k))

module _ {I : Type 0} (covers : I → I → Bool) (reflexive : (i : I) → covers i i ≡ true)
    (transitive : (i j k : I) → covers i j ≡ true → covers j k ≡ true → covers i k ≡ true) where
  -- What an event leaves unchanged, at a bridge that met this server and need not resend.
  pub record Quietly (w x : Fleet I) (k : ℕ) (more : List I) : Type 0 where
    pub history : x.server.history ≡ w.server.history
    pub bridge : SameBut (bridge_at x k) (bridge_at w k) more

  -- The outbox is no longer than it was.
  same_outbox : (w : Fleet I) (j k : ℕ) (host : Host I) → host.bridge.met ≡ (bridge_at w j).met →
      host.bridge.must_resend ≡ (bridge_at w j).must_resend →
      host.bridge.outbox ≡ (bridge_at w j).outbox → SameBut (placed j host w.hosts k).bridge (bridge_at w k) []
  same_outbox w j k host e f g =
      moved w j k host
      (record {
        met = e;
        must_resend = f;
        outbox = λ x q. part_left (bridge_at w j).outbox [] x (subst (λ (xs : List I). Contains xs x) g q);
      })

  -- It met this server, and the answer to a meeting is of it, too: the bridge ignores it.
  pub no_meeting : (w : Fleet I) (j q k : ℕ) → IsKept covers w → (bridge_at w k).met ≡ Some w.server.history → k ≡ j →
      May covers w (Meets j q) → ⊥
  no_meeting w j q k h a e m =
      let at : (bridge_at w j).met ≡ Some w.server.history = subst (λ (z : ℕ). (bridge_at w z).met ≡ Some w.server.history) e a in
      let t : ProducerIs covers w.server (bridge_at w j) (Met q) =
      subst (λ (l : Producer I). ProducerIs covers w.server (bridge_at w j) l) m.0 (h.hosts j).producer in
      m.1 (at ∙ ap (λ (z : ℕ). Some z) (sym (t.1 at)))

  quiet_change : (w : Fleet I) (j k : ℕ) (i : I) (held : List I) →
      Quietly w (after covers w (Changes j i held)) k (change_at k (Changes j i held))
  quiet_change w j k i held = record { history = refl; bridge = by_test (j == k) refl }
    where
      new : Host I
      new = record (w.hosts j) { bridge = changed (bridge_at w j) i held }

      by_test : (b : Bool) → (j == k) ≡ b → SameBut (placed j new w.hosts k).bridge (bridge_at w k) (cond b (i ∷ []) [])
      by_test true e = moved_changed w j k new (i ∷ []) (record { met = refl; must_resend = refl; outbox = λ x q. q })
      by_test false e = not_moved w j k new (λ f. true_is_false (sym (eq-eqb j k (sym f)) ∙ e))

  on_producer : (w : Fleet I) (j k : ℕ) (l : Producer I) → SameBut (bridge_at (with_producer w j l) k) (bridge_at w k) []
  on_producer w j k l = same_outbox w j k (record (w.hosts j) { producer = l }) refl refl refl

  on_consumer : (w : Fleet I) (j k : ℕ) (l : Consumer I) → SameBut (bridge_at (with_consumer w j l) k) (bridge_at w k) []
  on_consumer w j k l = same_outbox w j k (record (w.hosts j) { consumer = l }) refl refl refl

  pub quiet_step : (w : Fleet I) (e : Event I) (k : ℕ) → IsKept covers w → May covers w e → breaks k e ≡ false →
      (bridge_at w k).met ≡ Some w.server.history → (bridge_at w k).must_resend ≡ false → Quietly w (after covers w e) k (change_at k e)
  quiet_step w (Changes j i held) k h m n a o = quiet_change w j k i held
  quiet_step w (AsksToMeet j) k h m n a o = record { history = refl; bridge = on_producer w j k Meeting }
  quiet_step w (AsksToAdd j c) k h m n a o =
      let new = record (w.hosts j) { bridge = sending (bridge_at w j) c; producer = Adding (take c (bridge_at w j).outbox) } in
      record { history = refl; bridge = same_outbox w j k new refl refl refl }
  quiet_step w (AsksToFetch j) k h m n a o = record { history = refl; bridge = on_producer w j k Fetching }
  quiet_step w (AsksToCompact j) k h m n a o =
      let b = bridge_at w j in
      let new = record (w.hosts j) { bridge = sending b (length b.outbox); producer = Compacting b.met b.position b.held b.outbox } in
      record { history = refl; bridge = same_outbox w j k new refl refl refl }
  quiet_step w (AsksToRead j) k h m n a o = record
      { history = refl; bridge = on_consumer w j k (Reading (bridge_at w j).met (bridge_at w j).position) }
  quiet_step w (IsMet j) k h m n a o = record { history = refl; bridge = on_producer w j k (Met w.server.history) }
  quiet_step w (IsAdded j items) k h m n a o =
      record { history = refl; bridge = on_producer w j k (Replicating w.server.history (length (w.server.log ++ items))) }
  quiet_step w (IsReplicated j q p) k h m n a o = record { history = refl; bridge = on_producer w j k (Acknowledged q) }
  quiet_step w (IsFetched j) k h m n a o = record { history = refl; bridge = on_producer w j k (Fetched w.server.end w.server.snapshot) }
  quiet_step w (IsCompacted j q p snapshot items) k h m n a o =
      record { history = refl; bridge = on_producer w j k (Replicating w.server.history (length (w.server.log ++ items))) }
  quiet_step w (IsOnlyAdded j q p snapshot items) k h m n a o =
      record { history = refl; bridge = on_producer w j k (Replicating w.server.history (length (w.server.log ++ items))) }
  quiet_step w (IsRead j q p c items) k h m n a o = record { history = refl; bridge = on_consumer w j k (Read q p w.server.end items) }
  quiet_step w (Meets j q) k h m n a o =
      let new = record (w.hosts j) { bridge = meeting (bridge_at w j) q; producer = Idle } in
      record { history = refl; bridge = not_moved w j k new (λ e. no_meeting w j q k h a e m) }
  quiet_step w (GetsAcknowledged j q) k h m n a o =
      let b = bridge_at w j in
      let new = record (w.hosts j) { bridge = acknowledged b; producer = Idle } in
      record {
        history = refl;
        bridge = moved w j k new
            (record { met = refl; must_resend = refl; outbox = λ x s. part_left b.outbox [] x (part_drop b.in_flight b.outbox x s) });
      }
  quiet_step w (TakesSnapshot j p items held) k h m n a o =
      let new = record (w.hosts j) { bridge = consuming (bridge_at w j) items p held; producer = Idle } in
      record { history = refl; bridge = same_outbox w j k new refl refl refl }
  quiet_step w (TakesPart j p items held) k h m n a o =
      let new = record (w.hosts j) { bridge = dropping (bridge_at w j) items p held; producer = Idle } in
      record { history = refl; bridge = same_outbox w j k new refl refl refl }
  quiet_step w (Consumes j q p end items held) k h m n a o =
      let new = record (w.hosts j) { bridge = consuming (bridge_at w j) items (p + length items) held; consumer = Paused } in
      record { history = refl; bridge = same_outbox w j k new refl refl refl }
  quiet_step w (ConsumesPart j q p end items held) k h m n a o =
      let new = record (w.hosts j) { bridge = dropping (bridge_at w j) items (p + length items) held; consumer = Paused } in
      record { history = refl; bridge = same_outbox w j k new refl refl refl }
  quiet_step w (Ignores j) k h m n a o = record { history = refl; bridge = on_producer w j k Idle }
  quiet_step w (IgnoresReading j) k h m n a o = record { history = refl; bridge = on_consumer w j k Paused }
  quiet_step w (Rereads j) k h m n a o =
      record { history = refl; bridge = same_outbox w j k (record (w.hosts j) { bridge = rereading (bridge_at w j) }) refl refl refl }
  quiet_step w (Refills j) k h m n a o =
      let new = record (w.hosts j) { bridge = refilled covers (bridge_at w j) } in
      record {
        history = refl;
        bridge = not_moved w j k new (λ e. true_is_false (sym m ∙ subst (λ (z : ℕ). (bridge_at w z).must_resend ≡ false) e o));
      }
  quiet_step w (Folds j) k h m n a o =
      let new = record (w.hosts j) { bridge = folded (bridge_at w j) } in
      record
      { history = refl; bridge = not_moved w j k new (λ e. true_is_false (sym (eq-eqb j k (sym e)) ∙ (or_parts (j == k) false n).0)) }
  quiet_step w (Doubts j) k h m n a o =
      let new = record (w.hosts j) { bridge = doubting (bridge_at w j) } in
      record
      { history = refl; bridge = not_moved w j k new (λ e. true_is_false (sym (eq-eqb j k (sym e)) ∙ (or_parts (j == k) false n).0)) }
  quiet_step w (Disconnects j) k h m n a o = record { history = refl; bridge = same_outbox w j k (cut_off (w.hosts j)) refl refl refl }
  quiet_step w (Crashes j) k h m n a o =
      record
      { history = refl; bridge = not_moved w j k new_host (λ e. true_is_false (sym (eq-eqb j k (sym e)) ∙ (or_parts (j == k) false n).0)) }
  quiet_step w (Replicates p) k h m n a o = record { history = refl; bridge = same (bridge_at w k) }
  quiet_step w (FailsOver s) k h m n a o = true_is_false n
  quiet_step w (Loses s) k h m n a o = true_is_false n

  quiet_all : (x y : Fleet I) (later : List (Event I)) (k : ℕ) → IsKept covers x → HappenAll covers x later y →
      list_any (breaks k) later ≡ false →
      (bridge_at x k).met ≡ Some x.server.history → (bridge_at x k).must_resend ≡ false →
      ArePart (bridge_at y k).outbox ((bridge_at x k).outbox ++ changes_of k later)
  quiet_all x y [] k h path n a o =
      subst (λ (z : Fleet I). ArePart (bridge_at z k).outbox ((bridge_at x k).outbox ++ [])) path (part_left (bridge_at x k).outbox [])
  quiet_all x y (e ∷ es) k h path n a o =
      let u = path.0 in
      let one : Quietly x u k (change_at k e) =
      subst (λ (z : Fleet I). Quietly x z k (change_at k e)) path.1.1
      (quiet_step x e k h path.1.0 (or_parts (breaks k e) (list_any (breaks k) es) n).0 a o) in
      let rest = quiet_all u y es k
      (subst (λ (z : Fleet I). IsKept covers z) path.1.1 (steps.step covers reflexive transitive x e path.1.0 h))
      path.2 (or_parts (breaks k e) (list_any (breaks k) es) n).1
      (one.bridge.met ∙ a ∙ ap (λ (z : ℕ). Some z) (sym one.history)) (one.bridge.must_resend ∙ o) in
      λ i q. elim (Contains-append_cases (bridge_at u k).outbox (changes_of k es) i (rest i q)) [
        | inl s ↦ subst (λ (l : List I). Contains l i) (append_assoc (bridge_at x k).outbox (change_at k e) (changes_of k es))
            (Contains-append_left ((bridge_at x k).outbox ++ change_at k e) (changes_of k es) i (one.bridge.outbox i s))
        | inr s ↦ Contains-append_right (bridge_at x k).outbox (change_at k e ++ changes_of k es) i
            (Contains-append_right (change_at k e) (changes_of k es) i s)
      ]

  pub nothing_is_echoed : NothingIsEchoed covers
  nothing_is_echoed w x y es later k n path more c a o =
      λ i q. Contains-append_cases (bridge_at x k).outbox (changes_of k later) i
      (quiet_all x y later k (laws.kept covers reflexive transitive w x es n path) more c a o i q)
