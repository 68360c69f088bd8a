-- Each event keeps the invariant of a fleet.
use Rattle.std.proofs.Common.{◌≡◌, ◌<◌, ◌≤◌, ◌+◌, ◌==◌, cond, max, ℕ, Bool, true, false, List, [], ◌∷◌, ◌++◌, length, take, drop, Option}
use Rattle.std.proofs.Common.{Some, refl, sym, ap, ◌∙◌, subst, arith}
use Rattle.std.specs.List.{Contains}
use Rattle.std.proofs.lemmas.Bool.{eqb-true}
use Rattle.std.proofs.lemmas.List.{append-nil, take-append-drop, take-append-le, take-take, take_all, length-append, length-take}
use Rattle.std.proofs.lemmas.List.{length-take-le}
use Rattle.fleet_rule.specs.Covered.{Covers}
use Rattle.fleet_rule.specs.Server.{Server, IsServer}
use Rattle.fleet_rule.specs.Bridge.{changed, sending, acknowledged, meeting, consuming, dropping, rereading, refilled, folded, doubting}
use Rattle.fleet_rule.specs.Fleet.{Producer, Consumer, Host, Fleet, new_host, with_host}
use Rattle.fleet_rule.specs.Fleet.Producer.{Idle, Meeting, Adding, Fetching, Compacting, Replicating, Met, Acknowledged, Fetched}
use Rattle.fleet_rule.specs.Fleet.Consumer.{Paused, Reading, Read}
use Rattle.fleet_rule.specs.Happens.{Event, after, May, HappenAll, IsNew, bridge_at, with_producer, with_consumer, with_added, added}
use Rattle.fleet_rule.specs.Happens.{cut_off}
use Rattle.fleet_rule.specs.Happens.Event.{Changes, AsksToMeet, AsksToAdd, AsksToFetch, AsksToCompact, AsksToRead}
use Rattle.fleet_rule.specs.Happens.Event.{IsMet, IsAdded, IsReplicated, IsFetched, IsCompacted, IsOnlyAdded, IsRead}
use Rattle.fleet_rule.specs.Happens.Event.{Meets, GetsAcknowledged, TakesSnapshot, TakesPart, Consumes, ConsumesPart, Ignores}
use Rattle.fleet_rule.specs.Happens.Event.{IgnoresReading}
use Rattle.fleet_rule.specs.Happens.Event.{Rereads, Refills, Folds, Doubts, Disconnects, Crashes, Replicates, FailsOver, Loses}
use Rattle.fleet_rule.proofs.CoverLemmas.{part_left, part_right, part_takes}
use Rattle.fleet_rule.proofs.CoverLemmas as cover
use Rattle.fleet_rule.proofs.Kept.{in_flight_of, ProducerIs, ConsumerIs, IsHost, IsKept, Grows}
use Rattle.fleet_rule.proofs.GrowLemmas as grow
use Rattle.fleet_rule.proofs.HostLemmas as hosts

module _ {I : Type 0} (covers : I → I → Bool) (reflexive : (i : I) → covers i i ≡ true)
    (transitive : (i j k : I) → covers i j ≡ true → covers j k ≡ true → covers i k ≡ true) where
  same_grows : (s : Server I) (trimmed end replicated : ℕ) (snapshot : List I) → s.replicated ≤ replicated →
      Grows covers s (record s { trimmed = trimmed; end = end; snapshot = snapshot; replicated = replicated })
  same_grows s trimmed end replicated snapshot l = record { history = refl; more = []; log = sym (append-nil s.log); replicated = l }

  added_server : (s : Server I) (items : List I) → IsServer covers s → IsServer covers (added s items)
  added_server s items v =
      let more = length-append s.log items in
      record {
        trimmed = v.trimmed;
        end = (let k = v.end in omega arith);
        replicated = (let k = v.replicated in omega arith);
        whole = subst (λ (xs : List I). Covers covers s.snapshot xs) (sym (take-append-le s.end s.log items v.end)) v.whole;
        nothing_else = cover.in_more covers reflexive transitive s.log (s.log ++ items) s.snapshot (part_left s.log items) v.nothing_else;
      }

  -- Items were added for the bridge at k, and the snapshot may be another one.
  added_with : (w : Fleet I) (k : ℕ) (items : List I) (trimmed end : ℕ) (snapshot : List I) →
      let s = w.server in
      let t = record s { log = s.log ++ items; trimmed = trimmed; end = end; snapshot = snapshot } in
      IsServer covers t → Covers covers items (in_flight_of (bridge_at w k)) → IsKept covers w →
      IsKept covers (with_added w k t)
  added_with w k items trimmed end snapshot v sent h =
      let s = w.server in
      let t = record s { log = s.log ++ items; trimmed = trimmed; end = end; snapshot = snapshot } in
      let g : Grows covers s t = record { history = refl; more = items; log = refl; replicated = omega arith } in
      let flight = in_flight_of (bridge_at w k) in
      let grown = grow.grown_host covers reflexive transitive s t (w.hosts k) g h.server.replicated (h.hosts k) in
      record {
        server = v;
        hosts = hosts.placed_all covers reflexive transitive t k (record (w.hosts k) { producer = Replicating s.history (length t.log) })
            w.hosts
            (hosts.producer_host covers reflexive transitive t (w.hosts k) (Replicating s.history (length t.log)) grown (
              omega arith,
              λ e. refl,
              λ e.
                  record {
                    end = omega arith;
                    there = subst (λ (xs : List I). Covers covers xs flight) (sym (take_all (length t.log) t.log (omega arith)))
                        (cover.in_more covers reflexive transitive items t.log flight (part_right s.log items) sent);
                  },
            ))
            (λ j. grow.grown_host covers reflexive transitive s t (w.hosts j) g h.server.replicated (h.hosts j));
        answered = subst (λ (xs : List I). Covers covers xs w.answered) (sym (take-append-le s.replicated s.log items h.server.replicated))
            h.answered;
      }

  added_kept : (w : Fleet I) (k : ℕ) (items : List I) → Covers covers items (in_flight_of (bridge_at w k)) → IsKept covers w →
      IsKept covers (with_added w k (added w.server items))
  added_kept w k items sent h =
      added_with w k items w.server.trimmed w.server.end w.server.snapshot (added_server w.server items h.server) sent h

  compacted_kept : (w : Fleet I) (k : ℕ) (m : Option ℕ) (p : ℕ) (snapshot items : List I) →
      (w.hosts k).producer ≡ Compacting m p snapshot items →
      m ≡ Some w.server.history → w.server.end ≤ p → IsKept covers w → IsKept covers (after covers w (IsCompacted k m p snapshot items))
  compacted_kept w k m p snapshot items q e l h =
      let s = w.server in
      let t = hosts.at_producer covers reflexive transitive s (w.hosts k) (Compacting m p snapshot items) (h.hosts k) q in
      let both = t.2 e in
      let more = length-append s.log items in
      added_with w k items (max s.trimmed p) p snapshot
      (record {
        trimmed = (let r = h.server.trimmed in omega arith);
        end = (let r = both.end in omega arith);
        replicated = (let r = h.server.replicated in omega arith);
        whole = subst (λ (xs : List I). Covers covers snapshot xs) (sym (take-append-le p s.log items both.end)) both.whole;
        nothing_else = both.nothing_else;
      })
      t.0 h

  replicated_kept : (w : Fleet I) (p : ℕ) → w.server.replicated ≤ p → p ≤ length w.server.log → IsKept covers w →
      IsKept covers (after covers w (Replicates p))
  replicated_kept w p l m h =
      let s = w.server in
      let t = record s { replicated = p } in
      let g = same_grows s s.trimmed s.end p s.snapshot l in
      record {
        server =
            record {
              trimmed = h.server.trimmed;
              end = h.server.end;
              replicated = m;
              whole = h.server.whole;
              nothing_else =
                  h.server.nothing_else;
            };
        hosts = λ j. grow.grown_host covers reflexive transitive s t (w.hosts j) g h.server.replicated (h.hosts j);
        answered = cover.in_more covers reflexive transitive (take s.replicated s.log) (take p s.log) w.answered
            (part_takes s.replicated p s.log l) h.answered;
      }

  failed_over_kept : (w : Fleet I) (s : Server I) → w.server.history < s.history → IsServer covers s → w.server.replicated ≤ s.replicated →
      (n : ℕ) × (s.log ≡ take n w.server.log) → IsKept covers w → IsKept covers (after covers w (FailsOver s))
  failed_over_kept w s l v k e h =
      let old = w.server in
      let n = e.0 in
      let less = length-take n old.log in
      let same = ap (λ (xs : List I). length xs) e.1 in
      let fits : old.replicated ≤ n = (let q = v.replicated in omega arith) in
      let front : take old.replicated s.log ≡ take old.replicated old.log =
      ap (λ (xs : List I). take old.replicated xs) e.1 ∙ take-take old.replicated n old.log fits in
      record {
        server = v;
        hosts = λ j. grow.cut_host covers reflexive transitive s (w.hosts j)
            (grow.other_host covers reflexive transitive old s (w.hosts j) l (h.hosts j));
        answered = cover.in_more covers reflexive transitive (take old.replicated old.log) (take s.replicated s.log) w.answered
            (λ x q. part_takes old.replicated s.replicated s.log k x (subst (λ (xs : List I). Contains xs x) (sym front) q))
            h.answered;
      }

  lost_kept : (w : Fleet I) (s : Server I) → w.server.history < s.history → IsServer covers s → IsKept covers w →
      IsKept covers (after covers w (Loses s))
  lost_kept w s l v h =
      record {
        server = v;
        hosts = λ j. grow.other_host covers reflexive transitive w.server s (w.hosts j) l (h.hosts j);
        answered = cover.none covers reflexive transitive (take s.replicated s.log);
      }

  acknowledged_kept : (w : Fleet I) (k n : ℕ) → (w.hosts k).producer ≡ Acknowledged n → IsKept covers w →
      IsKept covers (after covers w (GetsAcknowledged k n))
  acknowledged_kept w k n m h =
      let s = w.server in
      let t = hosts.at_producer covers reflexive transitive s (w.hosts k) (Acknowledged n) (h.hosts k) m in
      record {
        server = h.server;
        hosts = hosts.placed_all covers reflexive transitive s k
            (record (w.hosts k) { bridge = acknowledged (bridge_at w k); producer = Idle }) w.hosts
            (hosts.acknowledge_host covers reflexive transitive s (w.hosts k) n h.server (h.hosts k) m) h.hosts;
        answered = by_test (n == s.history) refl t.2;
      }
    where
      by_test : (c : Bool) → (n == w.server.history) ≡ c →
          (n ≡ w.server.history → Covers covers (take w.server.replicated w.server.log) (in_flight_of (bridge_at w k))) →
          Covers covers (take w.server.replicated w.server.log) (cond c (w.answered ++ in_flight_of (bridge_at w k)) w.answered)
      by_test true e f =
          cover.both covers reflexive transitive w.answered (in_flight_of (bridge_at w k)) (take w.server.replicated w.server.log)
          h.answered (f (eqb-true n w.server.history e))
      by_test false e f = h.answered

  -- ---- each event
  with_kept : (w : Fleet I) (k : ℕ) (host : Host I) → IsKept covers w → IsHost covers w.server host → IsKept covers (with_host w k host)
  with_kept w k host h new = hosts.host_kept covers reflexive transitive w k host h new

  producer_kept : (w : Fleet I) (k : ℕ) (l : Producer I) → IsKept covers w → ProducerIs covers w.server (bridge_at w k) l →
      IsKept covers (with_producer w k l)
  producer_kept w k l h t =
      with_kept w k (record (w.hosts k) { producer = l }) h
      (hosts.producer_host covers reflexive transitive w.server (w.hosts k) l (h.hosts k) t)

  consumer_kept : (w : Fleet I) (k : ℕ) (l : Consumer I) → IsKept covers w → ConsumerIs covers w.server l →
      IsKept covers (with_consumer w k l)
  consumer_kept w k l h t =
      with_kept w k (record (w.hosts k) { consumer = l }) h
      (hosts.consumer_host covers reflexive transitive w.server (w.hosts k) l (h.hosts k) t)

  read_kept : (w : Fleet I) (k : ℕ) (m : Option ℕ) (p n : ℕ) (items : List I) → (w.hosts k).consumer ≡ Reading m p →
      (w.server.trimmed ≤ p → items ≡ take n (drop p w.server.log)) → IsKept covers w →
      IsKept covers (after covers w (IsRead k m p n items))
  read_kept w k m p n items r f h =
      let s = w.server in
      let t = hosts.at_consumer covers reflexive transitive s (w.hosts k) (Reading m p) (h.hosts k) r in
      consumer_kept w k (Read m p s.end items) h (
        t.0,
        λ e l.
            record {
              front = take p s.log;
              back = drop n (drop p s.log);
              whole = sym (ap (λ (xs : List I). take p s.log ++ xs)
                  (ap (λ (xs : List I). xs ++ drop n (drop p s.log)) (f (let g = h.server.trimmed in omega arith)) ∙
                  take-append-drop n (drop p s.log)) ∙
                  take-append-drop p s.log);
              position = length-take-le p s.log (t.1 e);
            },
      )

  pub step : (w : Fleet I) (e : Event I) → May covers w e → IsKept covers w → IsKept covers (after covers w e)
  step w (Changes k i held) m h =
      with_kept w k (record (w.hosts k) { bridge = changed (bridge_at w k) i held }) h
      (hosts.change_host covers reflexive transitive w.server (w.hosts k) i held (h.hosts k) m)
  step w (AsksToMeet k) m h = producer_kept w k Meeting h tt
  step w (AsksToAdd k n) m h =
      with_kept w k (record (w.hosts k) { bridge = sending (bridge_at w k) n; producer = Adding (take n (bridge_at w k).outbox) }) h
      (hosts.send_host covers reflexive transitive w.server (w.hosts k) n (h.hosts k) m.1)
  step w (AsksToFetch k) m h = producer_kept w k Fetching h tt
  step w (AsksToCompact k) m h =
      let b = bridge_at w k in
      with_kept w k (record (w.hosts k) { bridge = sending b (length b.outbox); producer = Compacting b.met b.position b.held b.outbox }) h
      (hosts.compact_host covers reflexive transitive w.server (w.hosts k) (h.hosts k) m.1 m.2)
  step w (AsksToRead k) m h =
      consumer_kept w k (Reading (bridge_at w k).met (bridge_at w k).position) h ((h.hosts k).met, λ e. ((h.hosts k).tracks e).position)
  step w (IsMet k) m h = producer_kept w k (Met w.server.history) h (omega arith, λ e. refl)
  step w (IsAdded k items) m h = added_kept w k items
      (hosts.at_producer covers reflexive transitive w.server (w.hosts k) (Adding items) (h.hosts k) m) h
  step w (IsReplicated k n p) m h =
      let t = hosts.at_producer covers reflexive transitive w.server (w.hosts k) (Replicating n p) (h.hosts k) m.0 in
      producer_kept w k (Acknowledged n) h (
        t.0,
        t.1,
        λ e. cover.in_more covers reflexive transitive (take p w.server.log) (take w.server.replicated w.server.log)
            (in_flight_of (bridge_at w k)) (part_takes p w.server.replicated w.server.log m.1) (t.2 e).there,
      )
  step w (IsFetched k) m h =
      producer_kept w k (Fetched w.server.end w.server.snapshot) h
      (λ e. record { end = h.server.end; whole = h.server.whole; nothing_else = h.server.nothing_else })
  step w (IsCompacted k o p snapshot items) m h = compacted_kept w k o p snapshot items m.0 m.1 m.2 h
  step w (IsOnlyAdded k o p snapshot items) m h =
      added_kept w k items (hosts.at_producer covers reflexive transitive w.server (w.hosts k) (Compacting o p snapshot items) (h.hosts k)
      m).0 h
  step w (IsRead k o p n items) m h = read_kept w k o p n items m.0 m.1 h
  step w (Meets k n) m h =
      with_kept w k (record (w.hosts k) { bridge = meeting (bridge_at w k) n; producer = Idle }) h
      (hosts.meet_host covers reflexive transitive w.server (w.hosts k) n (h.hosts k) m.0)
  step w (GetsAcknowledged k n) m h = acknowledged_kept w k n m h
  step w (TakesSnapshot k p items held) m h =
      with_kept w k (record (w.hosts k) { bridge = consuming (bridge_at w k) items p held; producer = Idle }) h
      (hosts.take_host covers reflexive transitive w.server (w.hosts k) p items held (h.hosts k) m.0 m.1)
  step w (TakesPart k p items held) m h =
      with_kept w k (record (w.hosts k) { bridge = dropping (bridge_at w k) items p held; producer = Idle }) h
      (hosts.take_part_host covers reflexive transitive w.server (w.hosts k) p items held (h.hosts k) m.0 m.1)
  step w (Consumes k o p end items held) m h =
      with_kept w k (record (w.hosts k) { bridge = consuming (bridge_at w k) items (p + length items) held; consumer = Paused }) h
      (hosts.consume_host covers reflexive transitive w.server (w.hosts k) o p end items held (h.hosts k) m.0 m.1 m.2 m.3 m.4)
  step w (ConsumesPart k o p end items held) m h =
      with_kept w k (record (w.hosts k) { bridge = dropping (bridge_at w k) items (p + length items) held; consumer = Paused }) h
      (hosts.consume_part_host covers reflexive transitive w.server (w.hosts k) o p end items held (h.hosts k) m.0 m.1 m.2 m.3)
  step w (Ignores k) m h = producer_kept w k Idle h tt
  step w (IgnoresReading k) m h = consumer_kept w k Paused h tt
  step w (Rereads k) m h =
      with_kept w k (record (w.hosts k) { bridge = rereading (bridge_at w k) }) h
      (hosts.reread_host covers reflexive transitive w.server (w.hosts k) (h.hosts k))
  step w (Refills k) m h =
      with_kept w k (record (w.hosts k) { bridge = refilled covers (bridge_at w k) }) h
      (hosts.refill_host covers reflexive transitive w.server (w.hosts k) (h.hosts k))
  step w (Folds k) m h =
      with_kept w k (record (w.hosts k) { bridge = folded (bridge_at w k) }) h
      (hosts.fold_host covers reflexive transitive w.server (w.hosts k) (h.hosts k))
  step w (Doubts k) m h =
      with_kept w k (record (w.hosts k) { bridge = doubting (bridge_at w k) }) h
      (hosts.doubt_host covers reflexive transitive w.server (w.hosts k) (h.hosts k))
  step w (Disconnects k) m h = with_kept w k (cut_off (w.hosts k)) h
      (grow.cut_host covers reflexive transitive w.server (w.hosts k) (h.hosts k))
  step w (Crashes k) m h = with_kept w k new_host h (hosts.fresh_host covers reflexive transitive w.server)
  step w (Replicates p) m h = replicated_kept w p m.0 m.1 h
  step w (FailsOver s) m h = failed_over_kept w s m.0 m.1 m.2 m.3 h
  step w (Loses s) m h = lost_kept w s m.0 m.1 h

  pub new_kept : (w : Fleet I) → IsNew covers w → IsKept covers w
  new_kept w n =
      record {
        server = n.server;
        hosts = λ k. subst (λ (host : Host I). IsHost covers w.server host) (sym (n.hosts k))
            (hosts.fresh_host covers reflexive transitive w.server);
        answered = subst (λ (xs : List I). Covers covers (take w.server.replicated w.server.log) xs) (sym n.answered)
            (cover.none covers reflexive transitive (take w.server.replicated w.server.log));
      }

  pub all_kept : (w x : Fleet I) (es : List (Event I)) → HappenAll covers w es x → IsKept covers w → IsKept covers x
  all_kept w x [] e h = subst (λ (y : Fleet I). IsKept covers y) e h
  all_kept w x (e ∷ es) path h =
      all_kept path.0 x es path.2 (subst (λ (y : Fleet I). IsKept covers y) path.1.1 (step w e path.1.0 h))
