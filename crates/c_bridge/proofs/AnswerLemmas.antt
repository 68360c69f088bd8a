-- Answers are events.
use Rattle.std.proofs.Common.{◌≡◌, ◌∙◌, ℕ, ◌+◌, Bool, true, false, cond, List, [], ◌∷◌, length, drop, Option, Some, None}
use Rattle.std.proofs.Common.{refl, sym, ap}
use Rattle.std.proofs.Common.{subst, inl, inr}
use Rattle.history.specs.History.{Path}
use Rattle.ds_entry.specs.ItemCovers.{covers}
use Rattle.ds_entry.specs.declared.item.Item.{Item}
use Rattle.ds_held.specs.Held.{Holding}
use Rattle.ds_content.specs.Content.{ContentRecord}
use Rattle.fleet_rule.specs.Bridge as rule
use Rattle.fleet_rule.specs.Covered.{Joins, JoinsPart}
use Rattle.fleet_rule.specs.Fleet.{Fleet, Host}
use Rattle.fleet_rule.specs.Fleet.Producer.{Idle}
use Rattle.fleet_rule.specs.Fleet.Consumer.{Paused, Read}
use Rattle.fleet_rule.specs.Happens.{Event, bridge_at, cut_off}
use Rattle.fleet_bridge.specs.State as decisions
use Rattle.fleet_bridge.specs.State.{ConsumedBy}
use Rattle.fleet_bridge.specs.Moving.{AreIds, Represents}
use Rattle.fleet_bridge.specs.declared.bridge.Bridge.{Bridge}
use Rattle.fleet_bridge.specs.declared.question.Question.TheVariants.{Nothing}
use Rattle.fleet_bridge.specs.declared.question.Reading.{Reading}
use Rattle.fleet_bridge.proofs.MoveLemmas as moves
use Rattle.fleet_store.specs.Taking.{TakesItem, held_with_dead, taking_begun, taking_of}
use Rattle.fleet_store.specs.declared.taking.Taken.{Taken}
use Rattle.fleet_store.proofs.TakingLemmas.{taken_are_joined, taken_are_joined_in_part}
use Rattle.c_bridge.specs.State as states
use Rattle.c_bridge.specs.Answering.{having_acknowledged}
use Rattle.c_bridge.specs.Reading.{FinishesReadingOf, answer_to}
use Rattle.c_bridge.specs.Happening.{AcknowledgingHappens, FetchingHappens, ConsumingHappens, IsHeldBeside, LeadsTo, MeetingHappens}
use Rattle.c_bridge.specs.Happening.{OthersHappen, Represented, consuming_event, taking_event}
use Rattle.c_bridge.specs.declared.bridge.StoreBridge.{StoreBridge}
use Rattle.c_bridge.specs.declared.bridge.UnderRead.{UnderRead}
use Rattle.c_bridge.proofs.RepresentLemmas.{held_at_end, at_host, beside, gathered_held, leads_one, make_represented, path_state}

-- ---- a history

-- The rule's bridge doesn't know flags of the connection.
same_counts : (at : ℕ → ℕ) (b x : Bridge) (r : rule.Bridge Item) → x.outbox ≡ b.outbox → x.in_flight ≡ b.in_flight →
    x.position ≡ b.position → x.must_resend ≡ b.must_resend → x.has_dropped ≡ b.has_dropped → x.met ≡ b.met → Represents at b r →
    Represents at x r
same_counts at b x r o f p m d h s =
    record {
      outbox = s.outbox ∙ sym o;
      in_flight = s.in_flight ∙ sym f;
      position = s.position ∙ ap at (sym p);
      must_resend = s.must_resend ∙ sym m;
      has_dropped = s.has_dropped ∙ sym d;
      met = s.met ∙ sym h;
    }

pub meeting_happens : MeetingHappens
meeting_happens =
    record {
      another = λ at w k h c old new ids s p no m.
          (let l = (moves.moves_happen covers).meet at w k h old.decisions new.decisions ids s.decisions p no m.met in
          let r = bridge_at w k in
          let b : StoreBridge = record old { decisions = new.decisions; question = Nothing } in
          subst (λ (x : StoreBridge). LeadsTo at w k (Event.Meets k h ∷ []) c x) (sym m.bridge)
          (leads_one at w k (Event.Meets k h) c b l.may
          (make_represented at c b k (record (w.hosts k) { bridge = rule.meeting r h; producer = Idle }) w.hosts l.after s.outbox
          (beside c old b r.held refl refl s.held))));
      same = λ at w k h c old new s e m.
          (let r = bridge_at w k in
          let host : Host Item = record (w.hosts k) { producer = Idle } in
          let b : StoreBridge = record old { decisions = record old.decisions { is_met = true }; question = Nothing } in
          let same : new.decisions ≡ record old.decisions { is_met = true } = m.met.same e in
          let to : record old { decisions = new.decisions; question = Nothing } ≡ b =
          ap (λ (d : Bridge). record old { decisions = d; question = Nothing }) same in
          subst (λ (x : StoreBridge). LeadsTo at w k (Event.Ignores k ∷ []) c x) (sym (m.bridge ∙ to))
          (leads_one at w k (Event.Ignores k) c b tt
          (make_represented at c b k host w.hosts
          (at_host at b.decisions k host w.hosts
          (same_counts at old.decisions b.decisions r refl refl refl refl refl refl s.decisions)) s.outbox
          (beside c old b r.held refl refl s.held))));
    }

-- ---- an acknowledgement

pub acknowledging_happens : AcknowledgingHappens
acknowledging_happens at w k h count c old new s p a =
    let l = (moves.moves_happen covers).acknowledge at w k h old.decisions s.decisions p in
    let r = bridge_at w k in
    subst (λ (x : StoreBridge). LeadsTo at w k (Event.GetsAcknowledged k h ∷ []) c x) (sym a.bridge)
    (leads_one at w k (Event.GetsAcknowledged k h) c (having_acknowledged old) l.may
    (make_represented at c (having_acknowledged old) k (record
    (w.hosts k) { bridge = rule.acknowledged r; producer = Idle }) w.hosts l.after
    (ap (λ (l : List Item). drop r.in_flight l) s.outbox ∙ ap (λ (n : ℕ). drop n old.outbox) s.decisions.in_flight)
    (beside c old (having_acknowledged old) r.held refl refl s.held)))

-- ---- items that are taken

module _ (at : ℕ → ℕ) (k : ℕ) (c d : ContentRecord) (old : StoreBridge) (dead : Holding) (r : rule.Bridge Item) (s : Represented at c old r)
    (gathered : c.journal.position ≡ old.seen) (items : List Item) (taken : Taken)
    (takes : Path TakesItem (taking_begun c old.dead) items (taking_of d dead taken)) where
  all_joined : taken.has_dropped ≡ false → Joins covers (held_with_dead d dead) r.held items
  all_joined e =
      subst (λ (l : List Item). Joins covers (held_with_dead d dead) l items) (sym (gathered_held at c old r s gathered))
      (taken_are_joined (taking_begun c old.dead) (taking_of d dead taken) items takes e)

  part_joined : JoinsPart covers (held_with_dead d dead) r.held items
  part_joined =
      subst (λ (l : List Item). JoinsPart covers (held_with_dead d dead) l items) (sym (gathered_held at c old r s gathered))
      (taken_are_joined_in_part (taking_begun c old.dead) (taking_of d dead taken) items takes)

  taken_held : (x : StoreBridge) → x.seen ≡ d.journal.position → x.dead ≡ dead → IsHeldBeside d x (held_with_dead d dead)
  taken_held x e f =
      let t = path_state items (taking_begun c old.dead) (taking_of d dead taken) takes s.held.state s.held.content in
      subst (λ (h : Holding). IsHeldBeside d x (held_with_dead d h)) f (held_at_end d x t.0 t.1 (sym e))

-- ---- a snapshot

pub fetching_happens : FetchingHappens
fetching_happens at w k end c d old new text taken s f p =
    subst (λ (x : StoreBridge). LeadsTo at w k (taking_event k (at end) f.items (held_with_dead d new.dead) taken.has_dropped ∷ []) d x)
    (sym f.bridge) (by_dropped taken.has_dropped refl)
  where
    r : rule.Bridge Item
    r = bridge_at w k

    held : List Item
    held = held_with_dead d new.dead

    to : Bool → StoreBridge
    to b = record old {
      decisions = decisions.fetched old.decisions end b;
      dead = new.dead;
      seen = d.journal.position;
      question = Nothing;
    }

    by_dropped : (b : Bool) → taken.has_dropped ≡ b → LeadsTo at w k (taking_event k (at end) f.items held b ∷ []) d (to b)
    by_dropped false e =
        let l = (moves.moves_happen covers).fetch at w k end old.decisions f.items held s.decisions p
        (all_joined at k c d old new.dead r s f.gathered f.items taken f.takes e) in
        leads_one at w k (Event.TakesSnapshot k (at end) f.items held) d (to false) l.may
        (make_represented at d (to false) k (record (w.hosts k) {
          bridge = rule.consuming r f.items
              (at end) held;
          producer = Idle;
        }) w.hosts
        l.after s.outbox (taken_held at k c d old new.dead r s f.gathered f.items taken f.takes (to false) refl refl))
    by_dropped true e =
        let l = (moves.moves_happen covers).fetch_part at w k end old.decisions f.items held s.decisions p
        (part_joined at k c d old new.dead r s f.gathered f.items taken f.takes) in
        leads_one at w k (Event.TakesPart k (at end) f.items held) d (to true) l.may
        (make_represented at d (to true) k (record (w.hosts k) { bridge = rule.dropping r f.items (at end) held; producer = Idle }) w.hosts
        l.after s.outbox (taken_held at k c d old new.dead r s f.gathered f.items taken f.takes (to true) refl refl))

-- ---- a reading's end

ignored_counts : (at : ℕ → ℕ) (b x : Bridge) (a : Reading) (r : rule.Bridge Item) → ConsumedBy b a false x → Represents at b r →
    Represents at x r
ignored_counts at b x a r (inl h) s = subst (λ (y : Bridge). Represents at y r) (sym h.0) s
ignored_counts at b x a r (inr h) s =
    subst (λ (y : Bridge). Represents at y r) (sym h.0)
    (same_counts at b (record b { has_gap = true }) r refl refl refl refl refl refl s)

module _ (at : ℕ → ℕ) (w : Fleet Item) (k end : ℕ) (c d : ContentRecord) (old new : StoreBridge) (u : UnderRead) (is_all : Bool)
    (ids : AreIds at) (s : Represented at c old (bridge_at w k)) (p : (w.hosts k).consumer ≡ Read u.history (at u.from)
    (at end) old.entries)
    (q : at u.last ≡ at u.from + length old.entries) (gathered : c.journal.position ≡ old.seen) where
  abbrev r : rule.Bridge Item
  r = bridge_at w k

  by_taken : (taken : Option Taken) → FinishesReadingOf c old u end is_all taken d new →
      LeadsTo at w k (consuming_event at k u end old.entries (held_with_dead d new.dead) taken ∷ []) d new
  by_taken None h =
      let host : Host Item = record (w.hosts k) { consumer = Paused } in
      let b : StoreBridge = record old { decisions = new.decisions; reading = None; entries = [] } in
      subst (λ (x : ContentRecord). LeadsTo at w k (Event.IgnoresReading k ∷ []) x new) (sym h.1)
      (subst (λ (x : StoreBridge). LeadsTo at w k (Event.IgnoresReading k ∷ []) c x) (sym h.2)
      (leads_one at w k (Event.IgnoresReading k) c b tt
      (make_represented at c b k host w.hosts
      (at_host at b.decisions k host w.hosts
      (ignored_counts at old.decisions new.decisions (answer_to u end is_all false) r h.0 s.decisions)) s.outbox
      (beside c old b r.held refl refl s.held))))
  by_taken (Some taken) h =
      subst (λ (x : StoreBridge). LeadsTo at w k (consuming_event at k u end old.entries held (Some taken) ∷ []) d x) (sym h.2)
      (by_dropped taken.has_dropped refl)
    where
      held : List Item
      held = held_with_dead d new.dead

      to : StoreBridge
      to = record old { decisions = new.decisions; dead = new.dead; seen = d.journal.position; reading = None; entries = [] }

      event : Bool → Event Item
      event b = cond b (Event.ConsumesPart k u.history (at u.from) (at end) old.entries held)
          (Event.Consumes k u.history (at u.from) (at end) old.entries held)

      by_dropped : (b : Bool) → taken.has_dropped ≡ b → LeadsTo at w k (event b ∷ []) d to
      by_dropped false e =
          let l = (moves.moves_happen covers).consume at w k old.decisions new.decisions (answer_to u end is_all taken.has_dropped)
          old.entries held ids s.decisions p q e (all_joined at k c d old new.dead r s gathered old.entries taken h.1 e) h.0 in
          leads_one at w k (event false) d to l.may
          (make_represented at d to k
          (record (w.hosts k) { bridge = rule.consuming r old.entries (at u.from + length old.entries) held; consumer = Paused }) w.hosts
          l.after s.outbox (taken_held at k c d old new.dead r s gathered old.entries taken h.1 to refl refl))
      by_dropped true e =
          let l = (moves.moves_happen covers).consume_part at w k old.decisions new.decisions (answer_to u end is_all taken.has_dropped)
          old.entries held ids s.decisions p q e (part_joined at k c d old new.dead r s gathered old.entries taken h.1) h.0 in
          leads_one at w k (event true) d to l.may
          (make_represented at d to k
          (record (w.hosts k) { bridge = rule.dropping r old.entries (at u.from + length old.entries) held; consumer = Paused }) w.hosts
          l.after s.outbox (taken_held at k c d old new.dead r s gathered old.entries taken h.1 to refl refl))

pub consuming_happens : ConsumingHappens
consuming_happens at w k end c d old new u is_all taken ids s p q gathered h =
    by_taken at w k end c d old new u is_all ids s p q gathered taken h

-- ---- the other calls

pub others_happen : OthersHappen
others_happen =
    record {
      refused = λ at w k c b s.
          (let host : Host Item = record (w.hosts k) { producer = Idle } in
          leads_one at w k (Event.Ignores k) c (states.bridge_refused b) tt
          (make_represented at c (states.bridge_refused b) k host w.hosts (at_host at b.decisions k host w.hosts s.decisions) s.outbox
          (beside c b (states.bridge_refused b) (bridge_at w k).held refl refl s.held)));
      parted = λ at w k c b s.
          (let l = (moves.moves_happen covers).part at w k b.decisions s.decisions in
          leads_one at w k (Event.Disconnects k) c (states.bridge_parted b) l.may
          (make_represented at c (states.bridge_parted b) k (cut_off (w.hosts k)) w.hosts l.after s.outbox
          (beside c b (states.bridge_parted b) (bridge_at w k).held refl refl s.held)));
      differs = λ at w k c b s.
          (let l = (moves.moves_happen covers).doubt at w k b.decisions s.decisions in
          leads_one at w k (Event.Doubts k) c (states.bridge_doubting b) l.may
          (make_represented at c (states.bridge_doubting b) k (record (w.hosts k) {
            bridge = rule.doubting
                (bridge_at w k);
          }) w.hosts l.after s.outbox
          (beside c b (states.bridge_doubting b) (bridge_at w k).held refl refl s.held)));
      reread = λ at w k c b ids s.
          (let l = (moves.moves_happen covers).reread at w k b.decisions ids s.decisions in
          leads_one at w k (Event.Rereads k) c (states.bridge_rereading b) l.may
          (make_represented at c (states.bridge_rereading b) k (record (w.hosts k) {
            bridge = rule.rereading
                (bridge_at w k);
          }) w.hosts l.after
          s.outbox (beside c b (states.bridge_rereading b) (bridge_at w k).held refl refl s.held)));
    }
