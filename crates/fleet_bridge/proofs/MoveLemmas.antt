-- The moves of a bridge's decisions are events of the rule.
use Rattle.std.proofs.Common.{◌≡◌, ◌+◌, ◌-◌, ◌≤◌, ◌==◌, ◌||◌, ◌&&◌, not, cond, min, max, if◌then◌else◌, ℕ, Bool, true, false, List, [], ◌∷◌}
use Rattle.std.proofs.Common.{◌++◌, length, take, refl, sym, ap, ◌∙◌, subst, arith}
use Rattle.std.proofs.lemmas.Bool.{eqb-true}
use Rattle.std.proofs.lemmas.List.{length-append, length-drop}
use Rattle.fleet_rule.specs.Covered.{uncovered}
use Rattle.fleet_rule.specs.Bridge as rule
use Rattle.fleet_rule.specs.Fleet.{Host, Fleet, placed}
use Rattle.fleet_rule.specs.Fleet.Producer.{Idle, Meeting, Adding, Fetching, Compacting}
use Rattle.fleet_rule.specs.Fleet.Consumer.{Paused, Reading}
use Rattle.fleet_rule.specs.Happens.{Event, after, bridge_at, cut_off}
use Rattle.fleet_bridge.specs.State.{met_another, changed, refilled, folded, rereading, doubting, parted, acknowledged, fetched}
use Rattle.fleet_bridge.specs.Asking.{next_question, having_asked, NothingIsLeft}
use Rattle.fleet_bridge.specs.Moving.{Represents, Leads, event_of, AskingHappens, MovesHappen}
use Rattle.fleet_bridge.specs.declared.bridge.Bridge.{Bridge}
use Rattle.fleet_bridge.specs.declared.question.Question.{Question}
use Rattle.fleet_bridge.specs.declared.question.Question.TheVariants.{Nothing, Meet, Fetch, Refill, Add, Compact}

-- The next question, by flags: met, gap, must resend, at the end, compaction due, dropped, nothing to add; and the number to add.
abbrev pick : Bool → Bool → Bool → Bool → Bool → Bool → Bool → ℕ → Question
pick m g r e c d z n =
    if not m then Meet else if g then Fetch else if r && e then Refill else if c && (e && not d) then Compact else if z then Nothing else
    Add n

-- What the rule asks of a question.
abbrev MayAsk : Bool → Bool → ℕ → Question → Type 0
MayAsk r d o (Add n) = n ≤ o
MayAsk r d o Compact = (r ≡ false) × (d ≡ false)
MayAsk r d o Nothing = Unit {0}
MayAsk r d o Meet = Unit {0}
MayAsk r d o Fetch = Unit {0}
MayAsk r d o Refill = Unit {0}

picked : (m g r e c d z : Bool) (n o : ℕ) → n ≤ o → MayAsk r d o (pick m g r e c d z n)
picked false g r e c d z n o l = tt
picked true true r e c d z n o l = tt
picked true false true true c d z n o l = tt
picked true false true false true d true n o l = tt
picked true false true false true d false n o l = l
picked true false true false false d true n o l = tt
picked true false true false false d false n o l = l
picked true false false true true false z n o l = (refl, refl)
picked true false false true true true true n o l = tt
picked true false false true true true false n o l = l
picked true false false true false d true n o l = tt
picked true false false true false d false n o l = l
picked true false false false true d true n o l = tt
picked true false false false true d false n o l = l
picked true false false false false d true n o l = tt
picked true false false false false d false n o l = l

-- A bridge that asks nothing has nothing left.
left : (m g r e c d z : Bool) (n : ℕ) → pick m g r e c d z n ≡ Nothing → (m ≡ true) × (g ≡ false) × (z ≡ true) × ((r && e) ≡ false)
left false g r e c d z n q = absurd (cc)
left true true r e c d z n q = absurd (cc)
left true false true true c d z n q = absurd (cc)
left true false true false true d true n q = (refl, refl, refl, refl)
left true false true false true d false n q = absurd (cc)
left true false true false false d true n q = (refl, refl, refl, refl)
left true false true false false d false n q = absurd (cc)
left true false false true true false z n q = absurd (cc)
left true false false true true true true n q = (refl, refl, refl, refl)
left true false false true true true false n q = absurd (cc)
left true false false true false d true n q = (refl, refl, refl, refl)
left true false false true false d false n q = absurd (cc)
left true false false false true d true n q = (refl, refl, refl, refl)
left true false false false true d false n q = absurd (cc)
left true false false false false d true n q = (refl, refl, refl, refl)
left true false false false false d false n q = absurd (cc)

pub nothing_is_left : NothingIsLeft
nothing_is_left b due q =
    let all = left b.is_met b.has_gap b.must_resend b.is_at_end due.compaction b.has_dropped (b.outbox == 0)
    (min b.outbox (max due.most 1)) q in
    (all.0, all.1, eqb-true b.outbox 0 all.2, all.3)

or_none : (a b : Bool) → b ≡ false → a ≡ (a || b)
or_none true b e = refl
or_none false b e = sym e

or_some : (a b : Bool) → b ≡ true → true ≡ (a || b)
or_some true b e = refl
or_some false b e = sym e

module _ {I : Type 0} (covers : I → I → Bool) where
  -- The bridge of the host that was put at k.
  at_k : (k : ℕ) (host : Host I) (hosts : ℕ → Host I) → host.bridge ≡ (placed k host hosts k).bridge
  at_k k host hosts =
      let e : (k == k) ≡ true = grind arith in ap (λ (b : Bool). (cond b host (hosts k)).bridge) (sym e)

  at_host : (at : ℕ → ℕ) (b : Bridge) (k : ℕ) (host : Host I) (hosts : ℕ → Host I) → Represents at b host.bridge →
      Represents at b (placed k host hosts k).bridge
  at_host at b k host hosts h = subst (λ (r : rule.Bridge I). Represents at b r) (at_k k host hosts) h

  asks : (at : ℕ → ℕ) (w : Fleet I) (k : ℕ) (b : Bridge) (q : Question) → Represents at b (bridge_at w k) → (w.hosts k).producer ≡ Idle →
      MayAsk b.must_resend b.has_dropped b.outbox q → Leads covers at w k (event_of covers k q) (having_asked b q)
  asks at w k b Nothing h p m = record { may = tt; after = at_host at b k (record (w.hosts k) { producer = Idle }) w.hosts h }
  asks at w k b Refill h p m = record { may = tt; after = at_host at b k (record (w.hosts k) { producer = Idle }) w.hosts h }
  asks at w k b Meet h p m = record { may = p; after = at_host at b k (record (w.hosts k) { producer = Meeting }) w.hosts h }
  asks at w k b Fetch h p m = record { may = p; after = at_host at b k (record (w.hosts k) { producer = Fetching }) w.hosts h }
  asks at w k b (Add n) h p m =
      let r = bridge_at w k in
      record {
        may = (p, let e = h.outbox in omega arith);
        after = at_host at (record b { in_flight = n }) k
            (record (w.hosts k) { bridge = rule.sending r n; producer = Adding (take n r.outbox) }) w.hosts
            (record {
              outbox = h.outbox;
              in_flight = refl;
              position = h.position;
              must_resend = h.must_resend;
              has_dropped = h.has_dropped;
              met = h.met;
            });
      }
  asks at w k b Compact h p m =
      let r = bridge_at w k in
      record {
        may = (p, h.must_resend ∙ m.0, h.has_dropped ∙ m.1);
        after = at_host at (record b { in_flight = b.outbox }) k
            (record (w.hosts k) { bridge = rule.sending r (length r.outbox); producer = Compacting r.met r.position r.held r.outbox })
            w.hosts
            (record {
              outbox = h.outbox;
              in_flight = h.outbox;
              position = h.position;
              must_resend = h.must_resend;
              has_dropped = h.has_dropped;
              met = h.met;
            });
      }

  pub asking_happens : AskingHappens covers
  asking_happens =
      record {
        question = λ at w k b due h p. asks at w k b (next_question b due) h p
            (picked b.is_met b.has_gap b.must_resend b.is_at_end due.compaction b.has_dropped (b.outbox == 0)
            (min b.outbox (max due.most 1)) b.outbox (omega arith));
        reading = λ at w k b h p.
            record {
              may = p;
              after = at_host at b k (record (w.hosts k) { consumer = Reading (bridge_at w k).met (bridge_at w k).position }) w.hosts h;
            };
      }

  -- A bridge that read up to an id.
  read_to : (at : ℕ → ℕ) (b : Bridge) (r : rule.Bridge I) (items held : List I) (p last : ℕ) (dropped is_all gap : Bool) →
      Represents at b r → p ≡ at last → (d : Bool) → r.has_dropped ≡ b.has_dropped → (b.has_dropped ≡ d) →
      Represents at (record b { position = last; has_dropped = d; is_at_end = is_all; has_gap = gap }) (rule.consuming r items p held)
  read_to at b r items held p last dropped is_all gap h e d f g =
      record {
        outbox = h.outbox;
        in_flight = h.in_flight;
        position = e;
        must_resend = h.must_resend;
        has_dropped = f ∙ g;
        met = h.met;
      }

  dropped_to : (at : ℕ → ℕ) (b : Bridge) (r : rule.Bridge I) (items held : List I) (p last : ℕ) (is_all gap d : Bool) →
      Represents at b r → p ≡ at last → true ≡ d →
      Represents at (record b { position = last; has_dropped = d; is_at_end = is_all; has_gap = gap }) (rule.dropping r items p held)
  dropped_to at b r items held p last is_all gap d h e g =
      record {
        outbox = h.outbox;
        in_flight = h.in_flight;
        position = e;
        must_resend = h.must_resend;
        has_dropped = g;
        met = h.met;
      }

  pub moves_happen : MovesHappen covers
  moves_happen =
      record {
        change = λ at w k b i held h j.
            (let r = bridge_at w k in
            record {
              may = j;
              after = at_host at (changed b) k (record (w.hosts k) { bridge = rule.changed r i held }) w.hosts
                  (record {
                    outbox = (let e = length-append r.outbox (i ∷ []) in let f = h.outbox in omega arith);
                    in_flight = h.in_flight;
                    position = h.position;
                    must_resend = h.must_resend;
                    has_dropped = h.has_dropped;
                    met = h.met;
                  });
            });
        meet = λ at w k n b new ids h p no m.
            (let r = bridge_at w k in
            record {
              may = (p, λ e. no (sym h.met ∙ e));
              after = subst (λ (x : Bridge). Represents at x (bridge_at (after covers w (Event.Meets k n)) k)) (sym (m.another no))
                  (at_host at (met_another b n) k (record (w.hosts k) { bridge = rule.meeting r n; producer = Idle }) w.hosts
                  (record {
                    outbox = h.outbox;
                    in_flight = h.in_flight;
                    position = sym ids.front;
                    must_resend = refl;
                    has_dropped = refl;
                    met = refl;
                  }));
            });
        acknowledge = λ at w k n b h p.
            (let r = bridge_at w k in
            record {
              may = p;
              after = at_host at (acknowledged b) k (record (w.hosts k) { bridge = rule.acknowledged r; producer = Idle }) w.hosts
                  (record {
                    outbox = (let e = length-drop r.in_flight r.outbox in let f = h.outbox in let g = h.in_flight in omega arith);
                    in_flight = refl;
                    position = h.position;
                    must_resend = h.must_resend;
                    has_dropped = h.has_dropped;
                    met = h.met;
                  });
            });
        fetch = λ at w k end b items held h p j.
            record {
              may = (p, j);
              after = at_host at (fetched b end false) k
                  (record (w.hosts k) { bridge = rule.consuming (bridge_at w k) items (at end) held; producer = Idle }) w.hosts
                  (read_to at b (bridge_at w k) items held (at end) end false false false h refl (b.has_dropped || false) h.has_dropped
                  (or_none b.has_dropped false refl));
            };
        fetch_part = λ at w k end b items held h p j.
            record {
              may = (p, j);
              after = at_host at (fetched b end true) k
                  (record (w.hosts k) { bridge = rule.dropping (bridge_at w k) items (at end) held; producer = Idle }) w.hosts
                  (dropped_to at b (bridge_at w k) items held (at end) end false false (b.has_dropped || true) h refl
                  (or_some b.has_dropped true refl));
            };
        consume = λ at w k b new r items held ids h p l d j c.
            record {
              may = (p, h.met ∙ c.0, h.position ∙ ap at c.1, ids.grow r.end r.from c.2, j);
              after = subst (λ (x : Bridge). Represents at x
                  (bridge_at (after covers w (Event.Consumes k r.history (at r.from) (at r.end) items held)) k)) (sym c.3)
                  (at_host at (record b { position = r.last; has_dropped = b.has_dropped || r.has_dropped; is_at_end = r.is_all }) k
                  (record (w.hosts k) { bridge = rule.consuming (bridge_at w k) items (at r.from + length items) held; consumer = Paused })
                  w.hosts
                  (read_to at b (bridge_at w k) items held (at r.from + length items) r.last false r.is_all b.has_gap h (sym l)
                  (b.has_dropped || r.has_dropped)
                  h.has_dropped (or_none b.has_dropped r.has_dropped d)));
            };
        consume_part = λ at w k b new r items held ids h p l d j c.
            record {
              may = (p, h.met ∙ c.0, ids.grow r.end r.from c.2, j);
              after = subst (λ (x : Bridge). Represents at x
                  (bridge_at (after covers w (Event.ConsumesPart k r.history (at r.from) (at r.end) items held)) k)) (sym c.3)
                  (at_host at (record b { position = r.last; has_dropped = b.has_dropped || r.has_dropped; is_at_end = r.is_all }) k
                  (record (w.hosts k) { bridge = rule.dropping (bridge_at w k) items (at r.from + length items) held; consumer = Paused })
                  w.hosts
                  (dropped_to at b (bridge_at w k) items held (at r.from + length items) r.last r.is_all b.has_gap
                  (b.has_dropped || r.has_dropped) h (sym l)
                  (or_some b.has_dropped r.has_dropped d)));
            };
        refill = λ at w k b h m.
            (let r = bridge_at w k in
            let rest = uncovered covers (r.consumed ++ r.outbox) r.held in
            record {
              may = h.must_resend ∙ m;
              after = at_host at (refilled b (length rest)) k (record (w.hosts k) { bridge = rule.refilled covers r }) w.hosts
                  (record {
                    outbox = (let e = length-append r.outbox rest in let f = h.outbox in omega arith);
                    in_flight = h.in_flight;
                    position = h.position;
                    must_resend = refl;
                    has_dropped = h.has_dropped;
                    met = h.met;
                  });
            });
        fold = λ at w k b h.
            (let r = bridge_at w k in
            record {
              may = tt;
              after = at_host at (folded b (length r.held)) k (record (w.hosts k) { bridge = rule.folded r }) w.hosts
                  (record {
                    outbox = refl;
                    in_flight = refl;
                    position = h.position;
                    must_resend = h.must_resend;
                    has_dropped = h.has_dropped;
                    met = h.met;
                  });
            });
        reread = λ at w k b ids h.
            record {
              may = tt;
              after = at_host at (rereading b) k (record (w.hosts k) { bridge = rule.rereading (bridge_at w k) }) w.hosts
                  (record {
                    outbox = h.outbox;
                    in_flight = h.in_flight;
                    position = sym ids.front;
                    must_resend = h.must_resend;
                    has_dropped = refl;
                    met = h.met;
                  });
            };
        doubt = λ at w k b h.
            record {
              may = tt;
              after = at_host at (doubting b) k (record (w.hosts k) { bridge = rule.doubting (bridge_at w k) }) w.hosts
                  (record {
                    outbox = h.outbox;
                    in_flight = h.in_flight;
                    position = h.position;
                    must_resend = refl;
                    has_dropped = h.has_dropped;
                    met = h.met;
                  });
            };
        part = λ at w k b h.
            record {
              may = tt;
              after = at_host at (parted b) k (cut_off (w.hosts k)) w.hosts
                  (record {
                    outbox = h.outbox;
                    in_flight = h.in_flight;
                    position = h.position;
                    must_resend = h.must_resend;
                    has_dropped = h.has_dropped;
                    met = h.met;
                  });
            };
      }
