-- Gathering is a change for each item.
use Rattle.std.proofs.Common.{◌≡◌, ◌∙◌, ℕ, zero, suc, ◌+◌, ◌-◌, ◌≤◌, List, [], ◌∷◌, ◌++◌, length, take, drop, refl, sym, ap}
use Rattle.std.proofs.Common.{subst, arith}
use Rattle.std.proofs.Common.{inl, inr, take-add}
use Rattle.std.proofs.lemmas.List.{length-drop, take-append-drop}
use Rattle.history.proofs.RunLemmas.{path_push}
use Rattle.ds_entry.specs.ItemCovers.{covers}
use Rattle.ds_entry.specs.declared.item.Item.{Item}
use Rattle.ds_join.specs.ItemTop.{tops}
use Rattle.ds_held.specs.Held.{held_items}
use Rattle.ds_machine.specs.State.{State}
use Rattle.ds_content.specs.Content.{ContentRecord}
use Rattle.ds_content.specs.Stands.{ContentStands, InEachState}
use Rattle.fleet_rule.specs.Bridge as rule
use Rattle.fleet_rule.specs.Fleet.{Fleet, Host}
use Rattle.fleet_rule.specs.Happens.{Event, May, after, bridge_at}
use Rattle.fleet_bridge.specs.State as decisions
use Rattle.fleet_bridge.specs.Moving.{Represents}
use Rattle.fleet_bridge.specs.declared.bridge.Bridge.{Bridge}
use Rattle.fleet_bridge.proofs.MoveLemmas as moves
use Rattle.fleet_store.specs.Changes.{IsChangedTo, changes}
use Rattle.fleet_store.specs.Taking.{held_with_dead}
use Rattle.fleet_store.proofs.ChangeLemmas.{news_are_changes}
use Rattle.c_bridge.specs.State.{bridge_folded}
use Rattle.c_bridge.specs.Gathering.{gathered}
use Rattle.c_bridge.specs.Happening.{GatheringHappens, IsHeldBeside, LeadsTo, Represented}
use Rattle.c_bridge.specs.declared.bridge.StoreBridge.{StoreBridge}
use Rattle.c_bridge.proofs.RepresentLemmas.{held_at_end, make_represented}

-- ---- lists

take_short : {X : Type 0} (k : ℕ) (xs : List X) → take (length (take k xs)) xs ≡ take k xs
take_short zero xs = refl
take_short (suc k) [] = refl
take_short (suc k) (x ∷ xs) = ap (λ l. x ∷ l) (take_short k xs)

take_on : {X : Type 0} (n k : ℕ) (xs : List X) → take n xs ++ take k (drop n xs) ≡ take (n + length (take k (drop n xs))) xs
take_on n k xs =
    ap (λ l. take n xs ++ l) (sym (take_short k (drop n xs))) ∙ sym (take-add n (length (take k (drop n xs))) xs)

take_le : {X : Type 0} (k : ℕ) (xs : List X) → length (take k xs) ≤ length xs
take_le zero xs = let z : 0 ≤ length xs = omega arith in z
take_le (suc k) [] = let z : 0 ≤ 0 = omega arith in z
take_le (suc k) (x ∷ xs) =
    let m : length (take k xs) ≤ length xs = take_le k xs in
    let z : suc (length (take k xs)) ≤ suc (length xs) = omega (arith, m) in z

within : {X : Type 0} (n k : ℕ) (xs : List X) → n ≤ length xs → n + length (take k (drop n xs)) ≤ length xs
within n k xs l =
    let a : length (take k (drop n xs)) ≤ length (drop n xs) = take_le k (drop n xs) in
    let b : length (drop n xs) ≡ length xs - n = length-drop n xs in
    omega (arith, a, b, l)

-- ---- items that took effect

module _ (at : ℕ → ℕ) (w x : Fleet Item) (k : ℕ) (old : StoreBridge) (news held : List Item)
    (s : Represents at old.decisions (bridge_at w k))
    (e : (bridge_at w k).outbox ≡ old.outbox) (c : IsChangedTo w k held ((bridge_at w k).outbox ++ news) x) where
  abbrev counted : Bridge
  counted = record old.decisions { outbox = length (old.outbox ++ news) }

  outbox_is : (bridge_at x k).outbox ≡ old.outbox ++ news
  outbox_is = ap (λ (b : rule.Bridge Item). b.outbox) c.bridge ∙ ap (λ (l : List Item). l ++ news) e

  counts : Represents at counted (bridge_at x k)
  counts =
      record {
        outbox = ap (λ (l : List Item). length l) outbox_is;
        in_flight = ap (λ (b : rule.Bridge Item). b.in_flight) c.bridge ∙ s.in_flight;
        position = ap (λ (b : rule.Bridge Item). b.position) c.bridge ∙ s.position;
        must_resend = ap (λ (b : rule.Bridge Item). b.must_resend) c.bridge ∙ s.must_resend;
        has_dropped = ap (λ (b : rule.Bridge Item). b.has_dropped) c.bridge ∙ s.has_dropped;
        met = ap (λ (b : rule.Bridge Item). b.met) c.bridge ∙ s.met;
      }

module _ (at : ℕ → ℕ) (w : Fleet Item) (k : ℕ) (c d : ContentRecord) (old new : StoreBridge) (s : Represented at c old (bridge_at w k))
    (stays : InEachState c (ContentStands d)) where
  abbrev t : State
  t = s.held.state

  abbrev n : ℕ
  n = old.seen - t.feed.first

  abbrev accepted : List Item
  accepted = t.feed.accepted

  abbrev dead : List Item
  dead = held_items old.dead

  few : n ≤ length accepted
  few = let l : old.seen ≤ t.feed.first + length t.feed.accepted = s.held.last in omega (arith, l)

  -- the news are in the journal
  all_in_journal : new ≡ gathered t.feed old → (es : List (Event Item)) × LeadsTo at w k es d new
  all_in_journal e =
      let news : List Item = take 256 (drop n accepted) in
      let x = news_are_changes w k dead (take n accepted) news s.held.held_is in
      let first : t.feed.first ≤ old.seen = s.held.first in
      let m : (old.seen + length news) - t.feed.first ≡ n + length news = omega (arith, first) in
      let inside : n + length news ≤ length accepted = within n 256 accepted few in
      let later : t.feed.first ≤ old.seen + length news = omega (arith, first) in
      let last : old.seen + length news ≤ t.feed.first + length accepted = omega (arith, first, inside) in
      let held_is : (bridge_at x.0 k).held ≡ tops (take ((old.seen + length news) - t.feed.first) accepted) ++ dead =
      ap (λ (b : rule.Bridge Item). b.held) x.2.bridge ∙ ap (λ (l : List Item). tops l ++ dead) (take_on n 256 accepted) ∙
      ap (λ (q : ℕ). tops (take q accepted) ++ dead) (sym m) in
      let here : IsHeldBeside d (gathered t.feed old) (bridge_at x.0 k).held =
      record {
        state = t;
        content = stays t s.held.content;
        first = later;
        last = last;
        held_is = held_is;
      } in (
        changes k dead (take n accepted) news,
        subst (λ (b : StoreBridge). LeadsTo at w k (changes k dead (take n accepted) news) d b) (sym e)
            (record {
              fleet = x.0;
              happen = x.1;
              represented = record {
                decisions = counts at w x.0 k old news (tops (take n accepted ++ news) ++ dead) s.decisions s.outbox x.2;
                outbox = outbox_is at w x.0 k old news (tops (take n accepted ++ news) ++ dead) s.decisions s.outbox x.2;
                held = here;
              };
            }),
      )

  -- they aren't, and all that is held replaces the outbox
  pub some_are_gone : new ≡ bridge_folded d old → (es : List (Event Item)) × LeadsTo at w k es d new
  some_are_gone e =
      let news : List Item = drop n accepted in
      let x = news_are_changes w k dead (take n accepted) news s.held.held_is in
      let known : d.held ≡ tops accepted = (stays t s.held.content).held in
      let held_is : (bridge_at x.0 k).held ≡ held_with_dead d old.dead =
      ap (λ (b : rule.Bridge Item). b.held) x.2.bridge ∙ ap (λ (l : List Item). tops l ++ dead) (take-append-drop n accepted) ∙
      ap (λ (l : List Item). l ++ dead) (sym known) in
      let rep = counts at w x.0 k old news (tops (take n accepted ++ news) ++ dead) s.decisions s.outbox x.2 in
      let b : Bridge = record old.decisions { outbox = length (old.outbox ++ news) } in
      let l = (moves.moves_happen covers).fold at x.0 k b rep in
      let last : Fleet Item = after covers x.0 (Event.Folds k) in
      let host : Host Item = record (x.0.hosts k) { bridge = rule.folded (bridge_at x.0 k) } in
      let to = subst (λ (q : ℕ). Represents at (decisions.folded b q) (bridge_at last k))
      (ap (λ (l : List Item). length l) held_is) l.after in
      let es : List (Event Item) = changes k dead (take n accepted) news in (
        es ++ Event.Folds k ∷ [],
        subst (λ (y : StoreBridge). LeadsTo at w k (es ++ Event.Folds k ∷ []) d y) (sym e)
            (record {
              fleet = last;
              happen = path_push (λ (a : Fleet Item) (v : Event Item) (z : Fleet Item). May covers a v ×
                  (after covers a v ≡ z)) w x.0 last es
                  (Event.Folds k) x.1 (tt, refl);
              represented = make_represented at d (bridge_folded d old) k host x.0.hosts to held_is
                  (subst (λ (l : List Item). IsHeldBeside d (bridge_folded d old) l) (sym held_is)
                  (held_at_end d (bridge_folded d old) t (stays t s.held.content) refl));
            }),
      )

pub gathering_happens : GatheringHappens
gathering_happens at w k c d old new s g stays = elim (g s.held.state s.held.content) [
  | inl e ↦ all_in_journal at w k c d old new s stays e.1
  | inr h ↦ some_are_gone at w k c d old new s stays h.2
]
