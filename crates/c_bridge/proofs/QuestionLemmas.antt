-- Questions are events.
use Rattle.std.proofs.Common.{◌≡◌, ◌≢◌, ◌∙◌, ℕ, ◌==◌, Bool, true, false, not, ◌||◌, ◌&&◌, cond, min, max, List, [], ◌∷◌, ◌++◌, length, take}
use Rattle.std.proofs.Common.{Option, Some, None, refl, sym, ap, subst}
use Rattle.std.proofs.lemmas.Option.{same_Some}
use Rattle.ds_entry.specs.ItemCovers.{covers}
use Rattle.ds_entry.specs.declared.item.Item.{Item}
use Rattle.ds_content.specs.Content.{ContentRecord}
use Rattle.fleet_rule.specs.Bridge as rule
use Rattle.fleet_rule.specs.Covered.{uncovered}
use Rattle.fleet_rule.specs.Fleet.{Fleet, Host}
use Rattle.fleet_rule.specs.Fleet.Producer.{Idle, Meeting, Adding, Fetching, Compacting}
use Rattle.fleet_rule.specs.Fleet.Consumer.{Reading}
use Rattle.fleet_rule.specs.Happens.{Event, after, bridge_at}
use Rattle.fleet_bridge.specs.State as decisions
use Rattle.fleet_bridge.specs.Asking as asking
use Rattle.fleet_bridge.specs.Moving.{Leads, Represents, event_of}
use Rattle.fleet_bridge.specs.declared.bridge.Bridge.{Bridge}
use Rattle.fleet_bridge.specs.declared.question.Question.{Question}
use Rattle.fleet_bridge.specs.declared.question.Question.TheVariants.{Nothing, Meet, Fetch, Refill, Add, Compact}
use Rattle.fleet_bridge.proofs.MoveLemmas as moves
use Rattle.fleet_store.specs.Taking.{held_with_dead}
use Rattle.fleet_store.proofs.ChangeLemmas.{at_same}
use Rattle.c_bridge.specs.Asking.{begins_reading, having_sent}
use Rattle.c_bridge.specs.Happening.{AskingHappens, LeadsTo, ReadingHappens, RefillingHappens, Represented, carried}
use Rattle.c_bridge.specs.declared.bridge.StoreBridge.{StoreBridge}
use Rattle.c_bridge.proofs.RepresentLemmas.{beside, gathered_held, held_same, leads_one, make_represented}

-- ---- a question

module _ (at : ℕ → ℕ) (w : Fleet Item) (k : ℕ) (c : ContentRecord) (old : StoreBridge) (s : Represented at c old (bridge_at w k))
    (gathered : c.journal.position ≡ old.seen) where
  abbrev Sends : Question → Type 0
  Sends q = (leads : LeadsTo at w k (event_of covers k q ∷ []) c (having_sent c old q)) ×
      ((leads.fleet.hosts k).producer ≡ carried at (having_sent c old q) q)

  by_question : (q : Question) → Leads covers at w k (event_of covers k q) (asking.having_asked old.decisions q) → q ≢ Refill → Sends q
  by_question Nothing l other =
      let host : Host Item = record (w.hosts k) { producer = Idle } in (
        leads_one at w k (Event.Ignores k) c (having_sent c old Nothing) l.may
            (make_represented at c (having_sent c old Nothing) k host w.hosts l.after s.outbox
            (beside c old (having_sent c old Nothing) (bridge_at w k).held refl refl s.held)),
        ap (λ (x : Host Item). x.producer) (at_same k host w.hosts),
      )
  by_question Meet l other =
      let host : Host Item = record (w.hosts k) { producer = Meeting } in (
        leads_one at w k (Event.AsksToMeet k) c (having_sent c old Meet) l.may
            (make_represented at c (having_sent c old Meet) k host w.hosts l.after s.outbox
            (beside c old (having_sent c old Meet) (bridge_at w k).held refl refl s.held)),
        ap (λ (x : Host Item). x.producer) (at_same k host w.hosts),
      )
  by_question Fetch l other =
      let host : Host Item = record (w.hosts k) { producer = Fetching } in (
        leads_one at w k (Event.AsksToFetch k) c (having_sent c old Fetch) l.may
            (make_represented at c (having_sent c old Fetch) k host w.hosts l.after s.outbox
            (beside c old (having_sent c old Fetch) (bridge_at w k).held refl refl s.held)),
        ap (λ (x : Host Item). x.producer) (at_same k host w.hosts),
      )
  by_question (Add n) l other =
      let r = bridge_at w k in
      let host : Host Item = record (w.hosts k) { bridge = rule.sending r n; producer = Adding (take n r.outbox) } in (
        leads_one at w k (Event.AsksToAdd k n) c (having_sent c old (Add n)) l.may
            (make_represented at c (having_sent c old (Add n)) k host w.hosts l.after s.outbox
            (beside c old (having_sent c old (Add n)) r.held refl refl s.held)),
        ap (λ (x : Host Item). x.producer) (at_same k host w.hosts) ∙ ap (λ (l : List Item). Adding (take n l)) s.outbox,
      )
  by_question Compact l other =
      let r = bridge_at w k in
      let host : Host Item =
      record (w.hosts k) { bridge = rule.sending r (length r.outbox); producer = Compacting r.met r.position r.held r.outbox } in (
        leads_one at w k (Event.AsksToCompact k) c (having_sent c old Compact) l.may
            (make_represented at c (having_sent c old Compact) k host w.hosts l.after s.outbox
            (beside c old (having_sent c old Compact) r.held refl refl s.held)),
        ap (λ (x : Host Item). x.producer) (at_same k host w.hosts) ∙
            ap (λ (m : Option ℕ). Compacting m r.position r.held r.outbox) s.decisions.met ∙
            ap (λ (p : ℕ). Compacting old.decisions.met p r.held r.outbox) s.decisions.position ∙
            ap (λ (l : List Item). Compacting old.decisions.met (at old.decisions.position) l r.outbox)
            (gathered_held at c old r s gathered) ∙
            ap (λ (l : List Item). Compacting old.decisions.met (at old.decisions.position) (held_with_dead c old.dead) l) s.outbox,
      )
  by_question Refill l other = absurd (other refl)

pub asking_happens : AskingHappens
asking_happens at w k c old new due q s p a other =
    let l = (moves.asking_happens covers).question at w k old.decisions due s.decisions p in
    let m = subst (λ (x : Question). Leads covers at w k (event_of covers k x) (asking.having_asked old.decisions x)) (sym a.question) l in
    subst (λ (x : StoreBridge). (leads : LeadsTo at w k (event_of covers k q ∷ []) c x) × ((leads.fleet.hosts k).producer ≡ carried at x q))
    (sym a.bridge) (by_question at w k c old s a.gathered q m other)

-- ---- a refill

either_not : (b : Bool) (x y : Question) → x ≢ Refill → y ≢ Refill → cond b x y ≢ Refill
either_not true x y f g e = f e
either_not false x y f g e = g e

abbrev is_refill : Question → Bool
is_refill Refill = true
is_refill _ = false

distinct : (q : Question) → is_refill q ≡ false → q ≢ Refill
distinct q e f = let n : false ≡ true = sym e ∙ ap is_refill f in cc

only_then : (m g r e d z : Bool) (n : ℕ) →
    cond (not m) Meet (cond g Fetch (cond (r && e) Refill (cond d Compact (cond z Nothing (Add n))))) ≡ Refill → r ≡ true
only_then m g true e d z n q = refl
only_then m g false e d z n q =
    absurd (either_not (not m) Meet (cond g Fetch (cond d Compact (cond z Nothing (Add n)))) (distinct Meet refl)
    (either_not g Fetch (cond d Compact (cond z Nothing (Add n))) (distinct Fetch refl)
    (either_not d Compact (cond z Nothing (Add n)) (distinct Compact refl)
    (either_not z Nothing (Add n) (distinct Nothing refl) (distinct (Add n) refl)))) q)

pub refilling_happens : RefillingHappens
refilling_happens at w k c old new due s a =
    let b : Bridge = old.decisions in
    let r = bridge_at w k in
    let must : b.must_resend ≡ true =
    only_then b.is_met b.has_gap b.must_resend b.is_at_end (due.compaction && (b.is_at_end && not b.has_dropped)) (b.outbox == 0)
    (min b.outbox (max due.most 1)) (sym a.question) in
    let one = (moves.moves_happen covers).refill at w k b s.decisions must in
    let host : Host Item = record (w.hosts k) { bridge = rule.refilled covers r } in
    let mid : Fleet Item = after covers w (Event.Refills k) in
    let held_is : (bridge_at mid k).held ≡ held_with_dead c old.dead =
    ap (λ (x : Host Item). x.bridge.held) (at_same k host w.hosts) ∙ gathered_held at c old r s a.gathered in
    let count : ℕ = length (uncovered covers (r.consumed ++ r.outbox) r.held) in
    let two = (moves.moves_happen covers).fold at mid k (decisions.refilled b count) one.after in
    let last : Host Item = record (mid.hosts k) { bridge = rule.folded (bridge_at mid k) } in
    let rep = subst (λ (n : ℕ). Represents at (decisions.folded (decisions.refilled b 0) n)
    (bridge_at (after covers mid (Event.Folds k)) k))
    (ap length held_is) two.after in
    subst (λ (x : StoreBridge). LeadsTo at w k (Event.Refills k ∷ Event.Folds k ∷ []) c x) (sym a.bridge)
    (record {
      fleet = after covers mid (Event.Folds k);
      happen = (mid, (one.may, refl), (after covers mid (Event.Folds k), (two.may, refl), refl));
      represented = make_represented at c (having_sent c old Refill) k last mid.hosts rep held_is
          (held_same c (having_sent c old Refill) r.held (bridge_at mid k).held (ap (λ (x : Host Item). x.bridge.held)
          (at_same k host w.hosts))
          (beside c old (having_sent c old Refill) r.held refl refl s.held));
    })

-- ---- a reading

read_at : (b : Bool) (p from : ℕ) → cond b None (Some p) ≡ Some from → p ≡ from
read_at true p from e = absurd (let n : None ≡ Some from = e in cc)
read_at false p from e = same_Some _ _ e

pub reading_happens : ReadingHappens
reading_happens at w k c old new from s p a =
    let b : Bridge = old.decisions in
    let r = bridge_at w k in
    let l = (moves.asking_happens covers).reading at w k b s.decisions p in
    let host : Host Item = record (w.hosts k) { consumer = Reading r.met r.position } in
    let e : b.position ≡ from = read_at (not b.is_met || b.has_gap) b.position from a.1 in
    subst (λ (x : StoreBridge). (leads : LeadsTo at w k (Event.AsksToRead k ∷ []) c x) ×
    ((leads.fleet.hosts k).consumer ≡ Reading old.decisions.met (at from))) (sym a.2) (
      leads_one at w k (Event.AsksToRead k) c (begins_reading old from) l.may
          (make_represented at c (begins_reading old from) k host w.hosts l.after s.outbox
          (beside c old (begins_reading old from) r.held refl refl s.held)),
      ap (λ (x : Host Item). x.consumer) (at_same k host w.hosts) ∙ ap (λ (m : Option ℕ). Reading m r.position) s.decisions.met ∙
          ap (λ (n : ℕ). Reading b.met n) (s.decisions.position ∙ ap at e),
    )
