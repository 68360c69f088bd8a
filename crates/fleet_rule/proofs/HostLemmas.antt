-- What is known of a host after its bridge's own events.
use Rattle.std.proofs.Common.{◌≡◌, ◌≤◌, ◌+◌, ◌==◌, cond, ℕ, Bool, true, false, List, [], ◌∷◌, ◌++◌, length, take, drop, Option, Some, None}
use Rattle.std.proofs.Common.{refl, sym, ap, ◌∙◌, subst, append_assoc, arith}
use Rattle.std.specs.List.{Contains}
use Rattle.std.proofs.lemmas.List.{take-append-drop, take-append-le, take_at, length-append}
use Rattle.ds_entry.proofs.Members.{Contains-nil}
use Rattle.fleet_rule.specs.Covered.{JoinsPart, ArePart, Covers, Joins, uncovered}
use Rattle.fleet_rule.specs.Server.{Server, IsServer}
use Rattle.fleet_rule.specs.Bridge.{Bridge, changed, sending, acknowledged, meeting, consuming, dropping, rereading, refilled, folded}
use Rattle.fleet_rule.specs.Bridge.{doubting}
use Rattle.fleet_rule.specs.Fleet.{Producer, Consumer, Host, Fleet, new_host, placed, with_host}
use Rattle.fleet_rule.specs.Fleet.Producer.{Idle, Meeting, Adding, Fetching, Compacting, Replicating, Met, Acknowledged, Fetched}
use Rattle.fleet_rule.specs.Fleet.Consumer.{Paused, Read}
use Rattle.fleet_rule.proofs.CoverLemmas.{part_left, part_right, part_take, part_same}
use Rattle.fleet_rule.proofs.CoverLemmas as cover
use Rattle.fleet_rule.proofs.Kept.{in_flight_of, ProducerIs, ConsumerIs, IsHost, IsKept}

none_is_some : {A : Type 0} (n : ℕ) → None ≡ Some n → A
none_is_some n e = absurd (cc)

pub true_is_false : {A : Type 0} → true ≡ false → A
true_is_false e = absurd (cc)

module _ {I : Type 0} (covers : I → I → Bool) (reflexive : (i : I) → covers i i ≡ true)
    (transitive : (i j k : I) → covers i j ≡ true → covers j k ≡ true → covers i k ≡ true) where
  pub placed_all : (s : Server I) (k : ℕ) (host : Host I) (hosts : ℕ → Host I) → IsHost covers s host →
      ((j : ℕ) → IsHost covers s (hosts j)) → (j : ℕ) → IsHost covers s (placed k host hosts j)
  placed_all s k host hosts h f j = elim (j == k) as (λ b. IsHost covers s (cond b host (hosts j))) [ true ↦ h | false ↦ f j ]

  pub host_kept : (w : Fleet I) (k : ℕ) (host : Host I) → IsKept covers w → IsHost covers w.server host → IsKept covers (with_host w k host)
  host_kept w k host h new =
      record { server = h.server; hosts = placed_all w.server k host w.hosts new h.hosts; answered = h.answered }

  -- Only what is under way changes.
  pub producer_host : (s : Server I) (host : Host I) (l : Producer I) → IsHost covers s host → ProducerIs covers s host.bridge l →
      IsHost covers s (record host { producer = l })
  producer_host s host l h t = record { in_flight = h.in_flight; met = h.met; tracks = h.tracks; producer = t; consumer = h.consumer }

  pub consumer_host : (s : Server I) (host : Host I) (l : Consumer I) → IsHost covers s host → ConsumerIs covers s l →
      IsHost covers s (record host { consumer = l })
  consumer_host s host l h t = record { in_flight = h.in_flight; met = h.met; tracks = h.tracks; producer = h.producer; consumer = t }

  -- What is known of an answer depends on the history met last, and holds of fewer items in flight.
  producer_as : (s : Server I) (b c : Bridge I) (l : Producer I) → ArePart (in_flight_of c) (in_flight_of b) → b.met ≡ c.met →
      ProducerIs covers s b l → ProducerIs covers s c l
  producer_as s b c Idle p f h = tt
  producer_as s b c Meeting p f h = tt
  producer_as s b c (Adding items) p f h = cover.of_part covers reflexive transitive (in_flight_of c) (in_flight_of b) items p h
  producer_as s b c Fetching p f h = tt
  producer_as s b c (Compacting m q snapshot items) p f h =
      (cover.of_part covers reflexive transitive (in_flight_of c) (in_flight_of b) items p h.0, h.1, h.2)
  producer_as s b c (Replicating n q) p f h = (
    h.0,
    λ m. h.1 (f ∙ m),
    λ m.
        (let t = h.2 m in
        record
        { end = t.end; there = cover.of_part covers reflexive transitive (in_flight_of c) (in_flight_of b) (take q s.log) p t.there }),
  )
  producer_as s b c (Met n) p f h = (h.0, λ m. h.1 (f ∙ m))
  producer_as s b c (Acknowledged n) p f h = (
    h.0,
    λ m. h.1 (f ∙ m),
    λ m. cover.of_part covers reflexive transitive (in_flight_of c) (in_flight_of b) (take s.replicated s.log) p (h.2 m),
  )
  producer_as s b c (Fetched q items) p f h = λ m. h (f ∙ m)

  producer_same : (s : Server I) (b c : Bridge I) (l : Producer I) → in_flight_of c ≡ in_flight_of b → b.met ≡ c.met →
      ProducerIs covers s b l → ProducerIs covers s c l
  producer_same s b c l e f h = producer_as s b c l (part_same (in_flight_of c) (in_flight_of b) e) f h

  -- What is known of the question or answer that is under way.
  pub at_producer : (s : Server I) (host : Host I) (l : Producer I) → IsHost covers s host → host.producer ≡ l →
      ProducerIs covers s host.bridge l
  at_producer s host l h e = subst (λ (x : Producer I). ProducerIs covers s host.bridge x) e h.producer

  pub at_consumer : (s : Server I) (host : Host I) (l : Consumer I) → IsHost covers s host → host.consumer ≡ l → ConsumerIs covers s l
  at_consumer s host l h e = subst (λ (x : Consumer I). ConsumerIs covers s x) e h.consumer

  pub change_host : (s : Server I) (host : Host I) (i : I) (held : List I) → IsHost covers s host →
      Joins covers held host.bridge.held (i ∷ []) →
      IsHost covers s (record host { bridge = changed host.bridge i held })
  change_host s host i held h j =
      let b = host.bridge in
      let more = length-append b.outbox (i ∷ []) in
      record {
        in_flight = (let k = h.in_flight in omega arith);
        met = h.met;
        tracks = λ e. (let k = h.tracks e in
            record {
              accounted = λ o. cover.joined_under covers reflexive transitive held b.held (i ∷ []) (s.log ++ (b.outbox ++ i ∷ [])) j
                  (cover.in_more covers reflexive transitive (s.log ++ b.outbox) (s.log ++ (b.outbox ++ i ∷ [])) b.held
                  (λ x m. subst (λ (xs : List I). Contains xs x) (append_assoc s.log b.outbox (i ∷ []))
                  (part_left (s.log ++ b.outbox) (i ∷ []) x m))
                  (k.accounted o))
                  (cover.by_part covers reflexive transitive (i ∷ []) (s.log ++ (b.outbox ++ i ∷ []))
                  (λ x m. part_right s.log (b.outbox ++ i ∷ []) x (part_right b.outbox (i ∷ []) x m)));
              position = k.position;
              read = λ q. cover.through covers reflexive transitive (take b.position s.log) b.held held (k.read q)
                  (cover.joined_old covers reflexive transitive held b.held (i ∷ []) j);
              consumed = k.consumed;
            });
        producer = producer_same s b (changed b i held) host.producer (take-append-le b.in_flight b.outbox (i ∷ []) h.in_flight) refl
            h.producer;
        consumer = h.consumer;
      }

  pub send_host : (s : Server I) (host : Host I) (n : ℕ) → IsHost covers s host → n ≤ length host.bridge.outbox →
      IsHost covers s (record host { bridge = sending host.bridge n; producer = Adding (take n host.bridge.outbox) })
  send_host s host n h l =
      record {
        in_flight = l;
        met = h.met;
        tracks = λ e. (let k = h.tracks e in record
            { accounted = k.accounted; position = k.position; read = k.read; consumed = k.consumed });
        producer = cover.by_part covers reflexive transitive (take n host.bridge.outbox) (take n host.bridge.outbox) (λ i q. q);
        consumer = h.consumer;
      }

  pub meet_host : (s : Server I) (host : Host I) (n : ℕ) → IsHost covers s host → host.producer ≡ Met n →
      IsHost covers s (record host { bridge = meeting host.bridge n; producer = Idle })
  meet_host s host n h m =
      record {
        in_flight = h.in_flight;
        met = (at_producer s host (Met n) h m).0;
        tracks = λ e.
            record {
              accounted = λ o. true_is_false o;
              position = omega arith;
              read = λ q. cover.none covers reflexive transitive host.bridge.held;
              consumed = cover.none covers reflexive transitive s.log;
            };
        producer = tt;
        consumer = h.consumer;
      }

  pub acknowledge_host : (s : Server I) (host : Host I) (n : ℕ) → IsServer covers s → IsHost covers s host →
      host.producer ≡ Acknowledged n →
      IsHost covers s (record host { bridge = acknowledged host.bridge; producer = Idle })
  acknowledge_host s host n v h m =
      let b = host.bridge in
      let t = at_producer s host (Acknowledged n) h m in
      record {
        in_flight = omega arith;
        met = h.met;
        tracks = λ e. (let k = h.tracks e in
            record {
              accounted = λ o. cover.through covers reflexive transitive b.held (s.log ++ b.outbox) (s.log ++ drop b.in_flight b.outbox)
                  (k.accounted o)
                  (cover.both covers reflexive transitive s.log b.outbox (s.log ++ drop b.in_flight b.outbox)
                  (cover.by_part covers reflexive transitive s.log (s.log ++ drop b.in_flight b.outbox)
                  (part_left s.log (drop b.in_flight b.outbox)))
                  (subst (λ (xs : List I). Covers covers (s.log ++ drop b.in_flight b.outbox) xs) (take-append-drop b.in_flight b.outbox)
                  (cover.both covers reflexive transitive (take b.in_flight b.outbox) (drop b.in_flight b.outbox)
                  (s.log ++ drop b.in_flight b.outbox)
                  (cover.in_more covers reflexive transitive (take s.replicated s.log) (s.log ++ drop b.in_flight b.outbox)
                  (take b.in_flight b.outbox)
                  (λ x q. part_left s.log (drop b.in_flight b.outbox) x (part_take s.replicated s.log x q)) (t.2 (t.1 e)))
                  (cover.by_part covers reflexive transitive (drop b.in_flight b.outbox) (s.log ++ drop b.in_flight b.outbox)
                  (part_right s.log (drop b.in_flight b.outbox))))));
              position = k.position;
              read = k.read;
              consumed = k.consumed;
            });
        producer = tt;
        consumer = h.consumer;
      }

  pub take_host : (s : Server I) (host : Host I) (p : ℕ) (items held : List I) → IsHost covers s host → host.producer ≡ Fetched p items →
      Joins covers held host.bridge.held items →
      IsHost covers s (record host { bridge = consuming host.bridge items p held; producer = Idle })
  take_host s host p items held h m j =
      let b = host.bridge in
      let t = at_producer s host (Fetched p items) h m in
      record {
        in_flight = h.in_flight;
        met = h.met;
        tracks = λ e. (let k = h.tracks e in
            let snap = t e in
            record {
              accounted = λ o. cover.joined_under covers reflexive transitive held b.held items (s.log ++ b.outbox) j (k.accounted o)
                  (cover.in_more covers reflexive transitive s.log (s.log ++ b.outbox) items (part_left s.log b.outbox) snap.nothing_else);
              position = snap.end;
              read = λ q. cover.through covers reflexive transitive (take p s.log) items held snap.whole
                  (cover.joined_items covers reflexive transitive held b.held items j);
              consumed = cover.both covers reflexive transitive b.consumed items s.log k.consumed snap.nothing_else;
            });
        producer = tt;
        consumer = h.consumer;
      }

  pub consume_host : (s : Server I) (host : Host I) (m : Option ℕ) (p end : ℕ) (items held : List I) → IsHost covers s host →
      host.consumer ≡ Read m p end items →
      host.bridge.met ≡ m → host.bridge.position ≡ p → end ≤ p → Joins covers held host.bridge.held items →
      IsHost covers s (record host { bridge = consuming host.bridge items (p + length items) held; consumer = Paused })
  consume_host s host m p end items held h r f at l j =
      let b = host.bridge in
      let t = at_consumer s host (Read m p end items) h r in
      record {
        in_flight = h.in_flight;
        met = h.met;
        tracks = λ e. (let k = h.tracks e in
            let piece = t.1 (sym f ∙ e) l in
            let whole : s.log ≡ (piece.front ++ items) ++ piece.back = piece.whole ∙ sym (append_assoc piece.front items piece.back) in
            let long = length-append piece.front items in
            let longer = length-append (piece.front ++ items) piece.back in
            let all = ap (λ (xs : List I). length xs) whole in
            let begun : take b.position s.log ≡ piece.front =
            ap (λ (q : ℕ). take q s.log) at ∙ ap (λ (xs : List I). take p xs) piece.whole ∙
            take_at piece.front (items ++ piece.back) p piece.position in
            let read : take (p + length items) s.log ≡ piece.front ++ items =
            ap (λ (xs : List I). take (p + length items) xs) whole ∙
            take_at (piece.front ++ items) piece.back (p + length items) (long ∙ ap (λ (q : ℕ). q + length items) piece.position) in
            let there : ArePart items s.log =
            λ x q. subst (λ (xs : List I). Contains xs x) (sym piece.whole)
            (part_right piece.front (items ++ piece.back) x (part_left items piece.back x q)) in
            let covered = cover.by_part covers reflexive transitive items s.log there in
            record {
              accounted = λ o. cover.joined_under covers reflexive transitive held b.held items (s.log ++ b.outbox) j (k.accounted o)
                  (cover.in_more covers reflexive transitive s.log (s.log ++ b.outbox) items (part_left s.log b.outbox) covered);
              position = (let position_is = piece.position in omega arith);
              read = λ q. subst (λ (xs : List I). Covers covers held xs) (sym read)
                  (cover.both covers reflexive transitive piece.front items held
                  (cover.through covers reflexive transitive piece.front b.held held
                  (subst (λ (xs : List I). Covers covers b.held xs) begun (k.read q))
                  (cover.joined_old covers reflexive transitive held b.held items j))
                  (cover.joined_items covers reflexive transitive held b.held items j));
              consumed = cover.both covers reflexive transitive b.consumed items s.log k.consumed covered;
            });
        producer = producer_same s b (consuming b items (p + length items) held) host.producer refl refl h.producer;
        consumer = tt;
      }

  -- Some of the items read were dropped. All held items are still in the log, or in the outbox.
  dropped_accounted : (s : Server I) (b : Bridge I) (items held : List I) → JoinsPart covers held b.held items →
      Covers covers (s.log ++ b.outbox) b.held → Covers covers s.log items → Covers covers (s.log ++ b.outbox) held
  dropped_accounted s b items held j t c =
      cover.of_part covers reflexive transitive held (b.held ++ items) (s.log ++ b.outbox) j.among
      (cover.both covers reflexive transitive b.held items (s.log ++ b.outbox) t
      (cover.in_more covers reflexive transitive s.log (s.log ++ b.outbox) items (part_left s.log b.outbox) c))

  pub take_part_host : (s : Server I) (host : Host I) (p : ℕ) (items held : List I) → IsHost covers s host →
      host.producer ≡ Fetched p items →
      JoinsPart covers held host.bridge.held items →
      IsHost covers s (record host { bridge = dropping host.bridge items p held; producer = Idle })
  take_part_host s host p items held h m j =
      let b = host.bridge in
      let t = at_producer s host (Fetched p items) h m in
      record {
        in_flight = h.in_flight;
        met = h.met;
        tracks = λ e. (let k = h.tracks e in
            let snap = t e in
            record {
              accounted = λ o. dropped_accounted s b items held j (k.accounted o) snap.nothing_else;
              position = snap.end;
              read = λ q. true_is_false q;
              consumed = cover.both covers reflexive transitive b.consumed items s.log k.consumed snap.nothing_else;
            });
        producer = tt;
        consumer = h.consumer;
      }

  pub consume_part_host : (s : Server I) (host : Host I) (m : Option ℕ) (p end : ℕ) (items held : List I) → IsHost covers s host →
      host.consumer ≡ Read m p end items →
      host.bridge.met ≡ m → end ≤ p → JoinsPart covers held host.bridge.held items →
      IsHost covers s (record host { bridge = dropping host.bridge items (p + length items) held; consumer = Paused })
  consume_part_host s host m p end items held h r f l j =
      let b = host.bridge in
      let t = at_consumer s host (Read m p end items) h r in
      record {
        in_flight = h.in_flight;
        met = h.met;
        tracks = λ e. (let k = h.tracks e in
            let piece = t.1 (sym f ∙ e) l in
            let long = length-append piece.front (items ++ piece.back) in
            let longer = length-append items piece.back in
            let all = ap (λ (xs : List I). length xs) piece.whole in
            let there : ArePart items s.log =
            λ x q. subst (λ (xs : List I). Contains xs x) (sym piece.whole)
            (part_right piece.front (items ++ piece.back) x (part_left items piece.back x q)) in
            let covered = cover.by_part covers reflexive transitive items s.log there in
            record {
              accounted = λ o. dropped_accounted s b items held j (k.accounted o) covered;
              position = (let position_is = piece.position in omega arith);
              read = λ q. true_is_false q;
              consumed = cover.both covers reflexive transitive b.consumed items s.log k.consumed covered;
            });
        producer = producer_same s b (dropping b items (p + length items) held) host.producer refl refl h.producer;
        consumer = tt;
      }

  pub reread_host : (s : Server I) (host : Host I) → IsHost covers s host → IsHost covers s (record host { bridge = rereading host.bridge })
  reread_host s host h =
      let b = host.bridge in
      record {
        in_flight = h.in_flight;
        met = h.met;
        tracks = λ e. (let k = h.tracks e in
            record {
              accounted = k.accounted;
              position = omega arith;
              read = λ q. cover.none covers reflexive transitive b.held;
              consumed =
                  k.consumed;
            });
        producer = producer_same s b (rereading b) host.producer refl refl h.producer;
        consumer = h.consumer;
      }

  pub refill_host : (s : Server I) (host : Host I) → IsHost covers s host →
      IsHost covers s (record host { bridge = refilled covers host.bridge })
  refill_host s host h =
      let b = host.bridge in
      let rest = uncovered covers (b.consumed ++ b.outbox) b.held in
      let all = s.log ++ (b.outbox ++ rest) in
      let more = length-append b.outbox rest in
      record {
        in_flight = (let k = h.in_flight in omega arith);
        met = h.met;
        tracks = λ e. (let k = h.tracks e in
            record {
              accounted = λ o. cover.through covers reflexive transitive b.held ((b.consumed ++ b.outbox) ++ rest) all
                  (cover.uncovered_rest covers reflexive transitive (b.consumed ++ b.outbox) b.held)
                  (cover.both covers reflexive transitive (b.consumed ++ b.outbox) rest all
                  (cover.both covers reflexive transitive b.consumed b.outbox all
                  (cover.in_more covers reflexive transitive s.log all b.consumed (part_left s.log (b.outbox ++ rest)) k.consumed)
                  (cover.by_part covers reflexive transitive b.outbox all
                  (λ x q. part_right s.log (b.outbox ++ rest) x (part_left b.outbox rest x q))))
                  (cover.by_part covers reflexive transitive rest all
                  (λ x q. part_right s.log (b.outbox ++ rest) x (part_right b.outbox rest x q))));
              position = k.position;
              read = k.read;
              consumed = k.consumed;
            });
        producer = producer_same s b (refilled covers b) host.producer (take-append-le b.in_flight b.outbox rest h.in_flight) refl
            h.producer;
        consumer = h.consumer;
      }

  pub compact_host : (s : Server I) (host : Host I) → IsHost covers s host → host.bridge.must_resend ≡ false →
      host.bridge.has_dropped ≡ false →
      IsHost covers s
      (record host {
        bridge = sending host.bridge (length host.bridge.outbox);
        producer = Compacting host.bridge.met host.bridge.position host.bridge.held host.bridge.outbox;
      })
  compact_host s host h o f =
      let b = host.bridge in
      record {
        in_flight = omega arith;
        met = h.met;
        tracks = λ e. (let k = h.tracks e in record
            { accounted = k.accounted; position = k.position; read = k.read; consumed = k.consumed });
        producer = (
          cover.by_part covers reflexive transitive (take (length b.outbox) b.outbox) b.outbox (part_take (length b.outbox) b.outbox),
          h.met,
          λ e.
              (let k = h.tracks e in
              record { end = k.position; whole = k.read f; nothing_else = k.accounted o }),
        );
        consumer = h.consumer;
      }

  pub fold_host : (s : Server I) (host : Host I) → IsHost covers s host → IsHost covers s (record host { bridge = folded host.bridge })
  fold_host s host h =
      let b = host.bridge in
      record {
        in_flight = omega arith;
        met = h.met;
        tracks = λ e. (let k = h.tracks e in
            record {
              accounted = λ o. cover.by_part covers reflexive transitive b.held (s.log ++ b.held) (part_right s.log b.held);
              position = k.position;
              read = k.read;
              consumed = k.consumed;
            });
        producer = producer_as s b (folded b) host.producer (λ i q. absurd (Contains-nil i q)) refl h.producer;
        consumer = h.consumer;
      }

  pub doubt_host : (s : Server I) (host : Host I) → IsHost covers s host → IsHost covers s (record host { bridge = doubting host.bridge })
  doubt_host s host h =
      let b = host.bridge in
      record {
        in_flight = h.in_flight;
        met = h.met;
        tracks = λ e. (let k = h.tracks e in
            record { accounted = λ o. true_is_false o; position = k.position; read = k.read; consumed = k.consumed });
        producer = producer_same s b (doubting b) host.producer refl refl h.producer;
        consumer = h.consumer;
      }

  pub fresh_host : (s : Server I) → IsHost covers s new_host
  fresh_host s =
      record {
        in_flight = omega arith;
        met = tt;
        tracks = λ e. none_is_some s.history e;
        producer = tt;
        consumer = tt;
      }
