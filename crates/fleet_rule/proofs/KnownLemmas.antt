-- A change that a bridge held already is on its server, and what is acknowledged leaves the outbox at its front.
use Rattle.std.proofs.Common.{◌≡◌, ◌+◌, ◌≤◌, ◌==◌, cond, ℕ, Bool, true, false, List, [], ◌∷◌, ◌++◌, length, take, drop, Option, Some, None}
use Rattle.std.proofs.Common.{refl, sym, ap, ◌∙◌, subst, append_assoc, arith}
use Rattle.std.specs.List.{Contains, list_any}
use Rattle.std.proofs.lemmas.Bool.{eqb-true, eq-eqb, or_parts}
use Rattle.std.proofs.lemmas.List.{append-nil, take-append-drop, take-append-le, take_at, length-append}
use Rattle.fleet_rule.specs.Covered.{ArePart, Covers}
use Rattle.fleet_rule.specs.Server.{Server}
use Rattle.fleet_rule.specs.Bridge.{Bridge, changed, sending, acknowledged, meeting, consuming, dropping, rereading, refilled, folded}
use Rattle.fleet_rule.specs.Bridge.{doubting}
use Rattle.fleet_rule.specs.Fleet.{Producer, Consumer, Host, Fleet, new_host, placed}
use Rattle.fleet_rule.specs.Fleet.Producer.{Idle, Meeting, Adding, Fetching, Compacting, Replicating, Met, Acknowledged, Fetched}
use Rattle.fleet_rule.specs.Fleet.Consumer.{Paused, Reading, Read}
use Rattle.fleet_rule.specs.Happens.{Event, after, May, HappenAll, bridge_at, with_producer, with_consumer, cut_off}
use Rattle.fleet_rule.specs.Happens.Event.{Changes, AsksToMeet, AsksToAdd, AsksToFetch, AsksToCompact, AsksToRead}
use Rattle.fleet_rule.specs.Happens.Event.{IsMet, IsAdded, IsReplicated, IsFetched, IsCompacted, IsOnlyAdded, IsRead}
use Rattle.fleet_rule.specs.Happens.Event.{Meets, GetsAcknowledged, TakesSnapshot, TakesPart, Consumes, ConsumesPart, Ignores}
use Rattle.fleet_rule.specs.Happens.Event.{IgnoresReading}
use Rattle.fleet_rule.specs.Happens.Event.{Rereads, Refills, Folds, Doubts, Disconnects, Crashes, Replicates, FailsOver, Loses}
use Rattle.fleet_rule.specs.Laws.{breaks, begins_anew, is_loss, change_at, changes_of}
use Rattle.fleet_rule.specs.Known.{KnownIsKept}
use Rattle.fleet_rule.proofs.CoverLemmas.{part_take, part_takes}
use Rattle.fleet_rule.proofs.CoverLemmas as cover
use Rattle.fleet_rule.proofs.Kept.{IsUpTo, ProducerIs, IsKept, Grows}
use Rattle.fleet_rule.proofs.HostLemmas.{true_is_false}
use Rattle.fleet_rule.proofs.StepLemmas as steps
use Rattle.fleet_rule.proofs.LawLemmas.{at_host}
use Rattle.fleet_rule.proofs.LawLemmas as laws
use Rattle.fleet_rule.proofs.EchoLemmas as echo

self_le : (n : ℕ) → n ≤ n
self_le n = omega arith

le_through : (n m o : ℕ) → n ≤ m → m ≤ o → n ≤ o
le_through n m o f g = omega arith

not_some : (n : ℕ) → None ≡ Some n → ⊥
not_some n e = cc

-- The history met last is no later than the server's was: if the server has that history later, it had it then.
same_history : (o : Option ℕ) (n m : ℕ) → n ≤ m → IsUpTo o n → o ≡ Some m → o ≡ Some n
same_history None n m l h e = absurd (not_some m e)
same_history (Some j) n m l h e =
    let f : j ≡ m = cc in
    let g : j ≡ n = omega arith in
    ap (λ (z : ℕ). Some z) g

module _ {I : Type 0} where
  -- The first of two lists that make up another two is no longer than the first of those.
  first_part : (xs cs gone left : List I) → xs ++ cs ≡ gone ++ left → length left ≤ length cs → ArePart xs gone
  first_part xs cs gone left e l i h =
      let both = ap (λ (ys : List I). length ys) e in
      let one = length-append xs cs in
      let other = length-append gone left in
      let fits : length xs ≤ length gone = omega arith in
      let front : xs ≡ take (length xs) gone =
      sym (take_at xs cs (length xs) refl) ∙ ap (λ (ys : List I). take (length xs) ys) e ∙ take-append-le (length xs) gone left fits in
      part_take (length xs) gone i (subst (λ (ys : List I). Contains ys i) front h)

module _ {I : Type 0} (covers : I → I → Bool) (reflexive : (i : I) → covers i i ≡ true)
    (transitive : (i j k : I) → covers i j ≡ true → covers j k ≡ true → covers i k ≡ true) where
  -- ---- the server's history never falls, and the server grows
  never_falls : (w : Fleet I) (e : Event I) → May covers w e → w.server.history ≤ (after covers w e).server.history
  never_falls w (Changes j i held) m = self_le w.server.history
  never_falls w (AsksToMeet j) m = self_le w.server.history
  never_falls w (AsksToAdd j c) m = self_le w.server.history
  never_falls w (AsksToFetch j) m = self_le w.server.history
  never_falls w (AsksToCompact j) m = self_le w.server.history
  never_falls w (AsksToRead j) m = self_le w.server.history
  never_falls w (IsMet j) m = self_le w.server.history
  never_falls w (IsAdded j items) m = self_le w.server.history
  never_falls w (IsReplicated j q p) m = self_le w.server.history
  never_falls w (IsFetched j) m = self_le w.server.history
  never_falls w (IsCompacted j q p snapshot items) m = self_le w.server.history
  never_falls w (IsOnlyAdded j q p snapshot items) m = self_le w.server.history
  never_falls w (IsRead j q p c items) m = self_le w.server.history
  never_falls w (Meets j q) m = self_le w.server.history
  never_falls w (GetsAcknowledged j q) m = self_le w.server.history
  never_falls w (TakesSnapshot j p items held) m = self_le w.server.history
  never_falls w (TakesPart j p items held) m = self_le w.server.history
  never_falls w (Consumes j q p end items held) m = self_le w.server.history
  never_falls w (ConsumesPart j q p end items held) m = self_le w.server.history
  never_falls w (Ignores j) m = self_le w.server.history
  never_falls w (IgnoresReading j) m = self_le w.server.history
  never_falls w (Rereads j) m = self_le w.server.history
  never_falls w (Refills j) m = self_le w.server.history
  never_falls w (Folds j) m = self_le w.server.history
  never_falls w (Doubts j) m = self_le w.server.history
  never_falls w (Disconnects j) m = self_le w.server.history
  never_falls w (Crashes j) m = self_le w.server.history
  never_falls w (Replicates p) m = self_le w.server.history
  never_falls w (FailsOver s) m = let l : w.server.history ≤ s.history = (let k = m.0 in omega arith) in l
  never_falls w (Loses s) m = let l : w.server.history ≤ s.history = (let k = m.0 in omega arith) in l

  never_falls_all : (w x : Fleet I) (es : List (Event I)) → HappenAll covers w es x → w.server.history ≤ x.server.history
  never_falls_all w x [] e = subst (λ (y : Fleet I). w.server.history ≤ y.server.history) e (self_le w.server.history)
  never_falls_all w x (e ∷ es) path =
      le_through w.server.history path.0.server.history x.server.history
      (subst (λ (y : Fleet I). w.server.history ≤ y.server.history) path.1.1 (never_falls w e path.1.0))
      (never_falls_all path.0 x es path.2)

  stays : (s : Server I) → Grows covers s s
  stays s = record { history = refl; more = []; log = sym (append-nil s.log); replicated = self_le s.replicated }

  grows : (w : Fleet I) (e : Event I) → May covers w e → is_loss e ≡ false → Grows covers w.server (after covers w e).server
  grows w (Changes j i held) m n = stays w.server
  grows w (AsksToMeet j) m n = stays w.server
  grows w (AsksToAdd j c) m n = stays w.server
  grows w (AsksToFetch j) m n = stays w.server
  grows w (AsksToCompact j) m n = stays w.server
  grows w (AsksToRead j) m n = stays w.server
  grows w (IsMet j) m n = stays w.server
  grows w (IsAdded j items) m n = record { history = refl; more = items; log = refl; replicated = self_le w.server.replicated }
  grows w (IsReplicated j q p) m n = stays w.server
  grows w (IsFetched j) m n = stays w.server
  grows w (IsCompacted j q p snapshot items) m n =
      record { history = refl; more = items; log = refl; replicated = self_le w.server.replicated }
  grows w (IsOnlyAdded j q p snapshot items) m n =
      record { history = refl; more = items; log = refl; replicated = self_le w.server.replicated }
  grows w (IsRead j q p c items) m n = stays w.server
  grows w (Meets j q) m n = stays w.server
  grows w (GetsAcknowledged j q) m n = stays w.server
  grows w (TakesSnapshot j p items held) m n = stays w.server
  grows w (TakesPart j p items held) m n = stays w.server
  grows w (Consumes j q p end items held) m n = stays w.server
  grows w (ConsumesPart j q p end items held) m n = stays w.server
  grows w (Ignores j) m n = stays w.server
  grows w (IgnoresReading j) m n = stays w.server
  grows w (Rereads j) m n = stays w.server
  grows w (Refills j) m n = stays w.server
  grows w (Folds j) m n = stays w.server
  grows w (Doubts j) m n = stays w.server
  grows w (Disconnects j) m n = stays w.server
  grows w (Crashes j) m n = stays w.server
  grows w (Replicates p) m n = record { history = refl; more = []; log = sym (append-nil w.server.log); replicated = m.0 }
  grows w (FailsOver s) m n = true_is_false n
  grows w (Loses s) m n = true_is_false n

  grows_twice : (s t u : Server I) → Grows covers s t → Grows covers t u → Grows covers s u
  grows_twice s t u g h =
      record {
        history = h.history ∙ g.history;
        more = g.more ++ h.more;
        log = h.log ∙ ap (λ (xs : List I). xs ++ h.more) g.log ∙ append_assoc s.log g.more h.more;
        replicated = le_through s.replicated t.replicated u.replicated g.replicated h.replicated;
      }

  grows_all : (x z : Fleet I) (later : List (Event I)) (k : ℕ) → HappenAll covers x later z → list_any (breaks k) later ≡ false →
      Grows covers x.server z.server
  grows_all x z [] k e n = subst (λ (y : Fleet I). Grows covers x.server y.server) e (stays x.server)
  grows_all x z (e ∷ es) k path n =
      let parts = or_parts (breaks k e) (list_any (breaks k) es) n in
      grows_twice x.server path.0.server z.server
      (subst (λ (y : Fleet I). Grows covers x.server y.server) path.1.1
      (grows x e path.1.0 (or_parts (begins_anew k e) (is_loss e) parts.0).1))
      (grows_all path.0 z es k path.2 parts.1)

  replicated_part : (s t : Server I) → Grows covers s t → s.replicated ≤ length s.log →
      ArePart (take s.replicated s.log) (take t.replicated t.log)
  replicated_part s t g l i h =
      part_takes s.replicated t.replicated t.log g.replicated i
      (subst (λ (xs : List I). Contains xs i)
      (sym (ap (λ (xs : List I). take s.replicated xs) g.log ∙ take-append-le s.replicated s.log g.more l)) h)

  -- ---- what left the outbox is replicated
  record Leaves (s : Server I) (before left : List I) : Type 0 where
    gone : List I
    whole : before ≡ gone ++ left
    there : Covers covers (take s.replicated s.log) gone

  no_leaves : (s : Server I) (before left : List I) → before ≡ left → Leaves s before left
  no_leaves s before left e = record { gone = []; whole = e; there = cover.none covers reflexive transitive (take s.replicated s.log) }

  -- The outbox of the bridge at k, if that of the host put at j is the same.
  same_outbox : (w : Fleet I) (j k : ℕ) (host : Host I) → host.bridge.outbox ≡ (bridge_at w j).outbox →
      Leaves w.server ((bridge_at w k).outbox ++ []) (placed j host w.hosts k).bridge.outbox
  same_outbox w j k host f =
      no_leaves w.server ((bridge_at w k).outbox ++ []) (placed j host w.hosts k).bridge.outbox
      (append-nil (bridge_at w k).outbox ∙
      sym (at_host (λ (x : Host I). x.bridge.outbox ≡ (bridge_at w k).outbox) j k host w.hosts
      (λ e. f ∙ ap (λ (z : ℕ). (bridge_at w z).outbox) (sym e)) refl))

  on_producer : (w : Fleet I) (j k : ℕ) (l : Producer I) →
      Leaves w.server ((bridge_at w k).outbox ++ []) (bridge_at (with_producer w j l) k).outbox
  on_producer w j k l = same_outbox w j k (record (w.hosts j) { producer = l }) refl

  on_consumer : (w : Fleet I) (j k : ℕ) (l : Consumer I) →
      Leaves w.server ((bridge_at w k).outbox ++ []) (bridge_at (with_consumer w j l) k).outbox
  on_consumer w j k l = same_outbox w j k (record (w.hosts j) { consumer = l }) refl

  other_outbox : (w : Fleet I) (j k : ℕ) (host : Host I) → (k ≡ j → ⊥) →
      Leaves w.server ((bridge_at w k).outbox ++ []) (placed j host w.hosts k).bridge.outbox
  other_outbox w j k host n =
      at_host (λ (x : Host I). Leaves w.server ((bridge_at w k).outbox ++ []) x.bridge.outbox) j k host w.hosts (λ e. absurd (n e))
      (no_leaves w.server ((bridge_at w k).outbox ++ []) (bridge_at w k).outbox (append-nil (bridge_at w k).outbox))

  leave_change : (w : Fleet I) (j k : ℕ) (i : I) (held : List I) →
      Leaves w.server ((bridge_at w k).outbox ++ change_at k (Changes j i held)) (bridge_at (after covers w (Changes j i held)) k).outbox
  leave_change w j k i held = by_test (j == k) refl
    where
      new : Host I
      new = record (w.hosts j) { bridge = changed (bridge_at w j) i held }

      by_test : (b : Bool) → (j == k) ≡ b → Leaves w.server ((bridge_at w k).outbox ++ cond b (i ∷ []) [])
          (placed j new w.hosts k).bridge.outbox
      by_test true e =
          let f : j ≡ k = eqb-true j k e in
          no_leaves w.server ((bridge_at w k).outbox ++ i ∷ []) (placed j new w.hosts k).bridge.outbox
          (ap (λ (z : ℕ). (bridge_at w z).outbox ++ i ∷ []) (sym f) ∙
          sym (ap (λ (b : Bool). (cond b new (w.hosts k)).bridge.outbox) (eq-eqb k j (sym f))))
      by_test false e = other_outbox w j k new (λ f. true_is_false (sym (eq-eqb j k (sym f)) ∙ e))

  leave_acknowledged : (w : Fleet I) (j q k : ℕ) → IsKept covers w → (w.hosts j).producer ≡ Acknowledged q →
      (bridge_at w k).met ≡ Some w.server.history →
      Leaves w.server ((bridge_at w k).outbox ++ []) (bridge_at (after covers w (GetsAcknowledged j q)) k).outbox
  leave_acknowledged w j q k h m a =
      at_host (λ (x : Host I). Leaves w.server ((bridge_at w k).outbox ++ []) x.bridge.outbox) j k new w.hosts mine
      (no_leaves w.server ((bridge_at w k).outbox ++ []) (bridge_at w k).outbox (append-nil (bridge_at w k).outbox))
    where
      b : Bridge I
      b = bridge_at w j

      new : Host I
      new = record (w.hosts j) { bridge = acknowledged b; producer = Idle }

      mine : k ≡ j → Leaves w.server ((bridge_at w k).outbox ++ []) (drop b.in_flight b.outbox)
      mine e =
          let at : b.met ≡ Some w.server.history = subst (λ (z : ℕ). (bridge_at w z).met ≡ Some w.server.history) e a in
          let t : ProducerIs covers w.server b (Acknowledged q) =
          subst (λ (l : Producer I). ProducerIs covers w.server b l) m (h.hosts j).producer in
          record {
            gone = take b.in_flight b.outbox;
            whole = append-nil (bridge_at w k).outbox ∙ ap (λ (z : ℕ). (bridge_at w z).outbox) e ∙
                sym (take-append-drop b.in_flight b.outbox);
            there = t.2 (t.1 at);
          }

  leave_step : (w : Fleet I) (e : Event I) (k : ℕ) → IsKept covers w → May covers w e → breaks k e ≡ false →
      (bridge_at w k).met ≡ Some w.server.history → (bridge_at w k).must_resend ≡ false →
      Leaves w.server ((bridge_at w k).outbox ++ change_at k e) (bridge_at (after covers w e) k).outbox
  leave_step w (Changes j i held) k h m n a o = leave_change w j k i held
  leave_step w (AsksToMeet j) k h m n a o = on_producer w j k Meeting
  leave_step w (AsksToAdd j c) k h m n a o =
      same_outbox w j k (record (w.hosts j) { bridge = sending (bridge_at w j) c; producer = Adding (take c (bridge_at w j).outbox) }) refl
  leave_step w (AsksToFetch j) k h m n a o = on_producer w j k Fetching
  leave_step w (AsksToCompact j) k h m n a o =
      let b = bridge_at w j in
      same_outbox w j k
      (record (w.hosts j) { bridge = sending b (length b.outbox); producer = Compacting b.met b.position b.held b.outbox }) refl
  leave_step w (AsksToRead j) k h m n a o = on_consumer w j k (Reading (bridge_at w j).met (bridge_at w j).position)
  leave_step w (IsMet j) k h m n a o = on_producer w j k (Met w.server.history)
  leave_step w (IsAdded j items) k h m n a o = on_producer w j k (Replicating w.server.history (length (w.server.log ++ items)))
  leave_step w (IsReplicated j q p) k h m n a o = on_producer w j k (Acknowledged q)
  leave_step w (IsFetched j) k h m n a o = on_producer w j k (Fetched w.server.end w.server.snapshot)
  leave_step w (IsCompacted j q p snapshot items) k h m n a o =
      on_producer w j k (Replicating w.server.history (length (w.server.log ++ items)))
  leave_step w (IsOnlyAdded j q p snapshot items) k h m n a o =
      on_producer w j k (Replicating w.server.history (length (w.server.log ++ items)))
  leave_step w (IsRead j q p c items) k h m n a o = on_consumer w j k (Read q p w.server.end items)
  leave_step w (Meets j q) k h m n a o =
      other_outbox w j k (record (w.hosts j) { bridge = meeting (bridge_at w j) q; producer = Idle })
      (λ e. echo.no_meeting covers reflexive transitive w j q k h a e m)
  leave_step w (GetsAcknowledged j q) k h m n a o = leave_acknowledged w j q k h m a
  leave_step w (TakesSnapshot j p items held) k h m n a o =
      same_outbox w j k (record (w.hosts j) { bridge = consuming (bridge_at w j) items p held; producer = Idle }) refl
  leave_step w (TakesPart j p items held) k h m n a o =
      same_outbox w j k (record (w.hosts j) { bridge = dropping (bridge_at w j) items p held; producer = Idle }) refl
  leave_step w (Consumes j q p end items held) k h m n a o =
      same_outbox w j k (record (w.hosts j) { bridge = consuming (bridge_at w j) items (p + length items) held; consumer = Paused }) refl
  leave_step w (ConsumesPart j q p end items held) k h m n a o =
      same_outbox w j k (record (w.hosts j) { bridge = dropping (bridge_at w j) items (p + length items) held; consumer = Paused }) refl
  leave_step w (Ignores j) k h m n a o = on_producer w j k Idle
  leave_step w (IgnoresReading j) k h m n a o = on_consumer w j k Paused
  leave_step w (Rereads j) k h m n a o = same_outbox w j k (record (w.hosts j) { bridge = rereading (bridge_at w j) }) refl
  leave_step w (Refills j) k h m n a o =
      other_outbox w j k (record (w.hosts j) { bridge = refilled covers (bridge_at w j) })
      (λ e. true_is_false (sym m ∙ subst (λ (z : ℕ). (bridge_at w z).must_resend ≡ false) e o))
  leave_step w (Folds j) k h m n a o =
      other_outbox w j k (record (w.hosts j) { bridge = folded (bridge_at w j) })
      (λ e. true_is_false (sym (eq-eqb j k (sym e)) ∙ (or_parts (j == k) false n).0))
  leave_step w (Doubts j) k h m n a o = same_outbox w j k (record (w.hosts j) { bridge = doubting (bridge_at w j) }) refl
  leave_step w (Disconnects j) k h m n a o = same_outbox w j k (cut_off (w.hosts j)) refl
  leave_step w (Crashes j) k h m n a o =
      other_outbox w j k new_host (λ e. true_is_false (sym (eq-eqb j k (sym e)) ∙ (or_parts (j == k) false n).0))
  leave_step w (Replicates p) k h m n a o =
      no_leaves w.server ((bridge_at w k).outbox ++ []) (bridge_at w k).outbox (append-nil (bridge_at w k).outbox)
  leave_step w (FailsOver s) k h m n a o = true_is_false n
  leave_step w (Loses s) k h m n a o = true_is_false n

  leaves_all : (x z : Fleet I) (later : List (Event I)) (k : ℕ) → IsKept covers x → HappenAll covers x later z →
      list_any (breaks k) later ≡ false → (bridge_at x k).met ≡ Some x.server.history → (bridge_at x k).must_resend ≡ false →
      Leaves z.server ((bridge_at x k).outbox ++ changes_of k later) (bridge_at z k).outbox
  leaves_all x z [] k h path n a o =
      subst (λ (y : Fleet I). Leaves y.server ((bridge_at x k).outbox ++ []) (bridge_at y k).outbox) path
      (no_leaves x.server ((bridge_at x k).outbox ++ []) (bridge_at x k).outbox (append-nil (bridge_at x k).outbox))
  leaves_all x z (e ∷ es) k h path n a o =
      let u = path.0 in
      let parts = or_parts (breaks k e) (list_any (breaks k) es) n in
      let quiet = echo.quiet_step covers reflexive transitive x e k h path.1.0 parts.0 a o in
      let before = (bridge_at x k).outbox ++ change_at k e in
      let one : Leaves x.server before (bridge_at u k).outbox =
      subst (λ (y : Fleet I). Leaves x.server before (bridge_at y k).outbox) path.1.1 (leave_step x e k h path.1.0 parts.0 a o) in
      let met : (bridge_at u k).met ≡ Some u.server.history =
      subst (λ (y : Fleet I). (bridge_at y k).met ≡ Some y.server.history) path.1.1
      (quiet.bridge.met ∙ a ∙ ap (λ (z : ℕ). Some z) (sym quiet.history)) in
      let owed : (bridge_at u k).must_resend ≡ false =
      subst (λ (y : Fleet I). (bridge_at y k).must_resend ≡ false) path.1.1 (quiet.bridge.must_resend ∙ o) in
      let kept = subst (λ (y : Fleet I). IsKept covers y) path.1.1 (steps.step covers reflexive transitive x e path.1.0 h) in
      let rest = leaves_all u z es k kept path.2 parts.1 met owed in
      let part = replicated_part x.server z.server (grows_all x z (e ∷ es) k path n) h.server.replicated in
      let cs = changes_of k es in
      record {
        gone = one.gone ++ rest.gone;
        whole = sym (append_assoc (bridge_at x k).outbox (change_at k e) cs) ∙ ap (λ (xs : List I). xs ++ cs) one.whole ∙
            append_assoc one.gone (bridge_at u k).outbox cs ∙ ap (λ (xs : List I). one.gone ++ xs) rest.whole ∙
            sym (append_assoc one.gone rest.gone (bridge_at z k).outbox);
        there = cover.both covers reflexive transitive one.gone rest.gone (take z.server.replicated z.server.log)
            (cover.in_more covers reflexive transitive (take x.server.replicated x.server.log) (take z.server.replicated z.server.log)
            one.gone part one.there)
            rest.there;
      }

  pub known_is_kept : KnownIsKept covers
  known_is_kept w x y z es look later k n path o seen named told b waits r =
      let h = laws.kept covers reflexive transitive w x es n path in
      let a = same_history (bridge_at x k).met x.server.history y.server.history (never_falls_all x y look seen) (h.hosts k).met named in
      let left = leaves_all x z later k h told b a o in
      let g = grows_all x z later k told b in
      let replicas = take z.server.replicated z.server.log in
      let of_outbox = first_part (bridge_at x k).outbox (changes_of k later) left.gone (bridge_at z k).outbox left.whole waits in
      let front : take (length x.server.log) z.server.log ≡ x.server.log =
      ap (λ (xs : List I). take (length x.server.log) xs) g.log ∙ take_at x.server.log g.more (length x.server.log) refl in
      let of_log : ArePart x.server.log replicas =
      λ i q. part_takes (length x.server.log) z.server.replicated z.server.log r i (subst (λ (xs : List I). Contains xs i) (sym front) q) in
      cover.through covers reflexive transitive (bridge_at x k).held (x.server.log ++ (bridge_at x k).outbox) replicas
      (((h.hosts k).tracks a).accounted o)
      (cover.both covers reflexive transitive x.server.log (bridge_at x k).outbox replicas
      (cover.by_part covers reflexive transitive x.server.log replicas of_log)
      (cover.of_part covers reflexive transitive (bridge_at x k).outbox left.gone replicas of_outbox left.there))
