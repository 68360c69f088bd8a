-- What a bridge beside a store represents.
use Rattle.std.proofs.Common.{◌≡◌, ◌∙◌, ℕ, ◌+◌, ◌-◌, ◌≤◌, List, [], ◌∷◌, ◌++◌, length, take, refl, sym, ap, subst, arith}
use Rattle.history.specs.History.{Path}
use Rattle.ds_entry.specs.ItemCovers.{covers}
use Rattle.ds_entry.specs.declared.item.Item.{Item}
use Rattle.ds_join.specs.ItemTop.{tops}
use Rattle.ds_held.specs.Held.{Holding, held_items}
use Rattle.ds_machine.specs.State.{State}
use Rattle.ds_machine.proofs.PartLemmas.{take_whole}
use Rattle.ds_content.specs.Content.{ContentRecord}
use Rattle.ds_content.specs.Stands.{ContentStands}
use Rattle.fleet_rule.specs.Bridge as rule
use Rattle.fleet_rule.specs.Fleet.{Fleet, Host, placed}
use Rattle.fleet_rule.specs.Happens.{Event, May, after, bridge_at}
use Rattle.fleet_bridge.specs.Moving.{Represents}
use Rattle.fleet_bridge.specs.declared.bridge.Bridge.{Bridge}
use Rattle.fleet_store.specs.Taking.{Taking, TakesItem, held_with_dead}
use Rattle.fleet_store.proofs.ChangeLemmas.{at_same}
use Rattle.c_bridge.specs.Happening.{IsHeldBeside, LeadsTo, Represented}
use Rattle.c_bridge.specs.declared.bridge.StoreBridge.{StoreBridge}

-- All that was gathered is all that is held.
pub whole_held : (c : ContentRecord) (b : StoreBridge) (t : State) → ContentStands c t → c.journal.position ≡ b.seen →
    tops (take (b.seen - t.feed.first) t.feed.accepted) ++ held_items b.dead ≡ held_with_dead c b.dead
whole_held c b t h e =
    let q : c.journal.position ≡ t.feed.first + length t.feed.accepted = h.journal.position in
    let n : b.seen - t.feed.first ≡ length t.feed.accepted = omega (arith, e, q) in
    ap (λ (m : ℕ). tops (take m t.feed.accepted) ++ held_items b.dead) n ∙
    ap (λ (l : List Item). tops l ++ held_items b.dead) (take_whole t.feed.accepted) ∙
    ap (λ (l : List Item). l ++ held_items b.dead) (sym h.held)

pub gathered_held : (at : ℕ → ℕ) (c : ContentRecord) (b : StoreBridge) (r : rule.Bridge Item) → Represented at c b r →
    c.journal.position ≡ b.seen → r.held ≡ held_with_dead c b.dead
gathered_held at c b r s e = s.held.held_is ∙ whole_held c b s.held.state s.held.content e

pub held_at_end : (c : ContentRecord) (b : StoreBridge) (t : State) → ContentStands c t → c.journal.position ≡ b.seen →
    IsHeldBeside c b (held_with_dead c b.dead)
held_at_end c b t h e =
    let q : c.journal.position ≡ t.feed.first + length t.feed.accepted = h.journal.position in
    record { state = t; content = h; first = omega (arith, e, q); last = omega (arith, e, q); held_is = sym (whole_held c b t h e) }

-- Only what was gathered and the dead letters count.
pub beside : (c : ContentRecord) (b x : StoreBridge) (held : List Item) → x.seen ≡ b.seen → x.dead ≡ b.dead → IsHeldBeside c b held →
    IsHeldBeside c x held
beside c b x held e f h =
    record {
      state = h.state;
      content = h.content;
      first = subst (λ (n : ℕ). h.state.feed.first ≤ n) (sym e) h.first;
      last = subst (λ (n : ℕ). n ≤ h.state.feed.first + length h.state.feed.accepted) (sym e) h.last;
      held_is = h.held_is ∙
          ap (λ (n : ℕ). tops (take (n - h.state.feed.first) h.state.feed.accepted) ++ held_items b.dead) (sym e) ∙
          ap (λ (d : Holding). tops (take (x.seen - h.state.feed.first) h.state.feed.accepted) ++ held_items d) (sym f);
    }

pub held_same : (c : ContentRecord) (b : StoreBridge) (held other : List Item) → other ≡ held → IsHeldBeside c b held →
    IsHeldBeside c b other
held_same c b held other e h = subst (λ (l : List Item). IsHeldBeside c b l) (sym e) h

-- A store that took items has some state, too.
pub path_state : (items : List Item) (old new : Taking) → Path TakesItem old items new → (s : State) → ContentStands old.store s →
    (t : State) × ContentStands new.store t
path_state [] old new path s h = (s, subst (λ (x : Taking). ContentStands x.store s) path h)
path_state (i ∷ items) old new path s h =
    let step = path.1.turn.steps s h in path_state items path.0 new path.2 step.0 step.2

pub at_host : (at : ℕ → ℕ) (b : Bridge) (k : ℕ) (host : Host Item) (hosts : ℕ → Host Item) → Represents at b host.bridge →
    Represents at b (placed k host hosts k).bridge
at_host at b k host hosts h = subst (λ (x : Host Item). Represents at b x.bridge) (sym (at_same k host hosts)) h

pub make_represented : (at : ℕ → ℕ) (c : ContentRecord) (b : StoreBridge) (k : ℕ) (host : Host Item) (hosts : ℕ → Host Item) →
    Represents at b.decisions (placed k host hosts k).bridge → host.bridge.outbox ≡ b.outbox → IsHeldBeside c b host.bridge.held →
    Represented at c b (placed k host hosts k).bridge
make_represented at c b k host hosts rep e h =
    record {
      decisions = rep;
      outbox = ap (λ (x : Host Item). x.bridge.outbox) (at_same k host hosts) ∙ e;
      held = subst (λ (x : Host Item). IsHeldBeside c b x.bridge.held) (sym (at_same k host hosts)) h;
    }

abbrev pub leads_one : (at : ℕ → ℕ) (w : Fleet Item) (k : ℕ) (e : Event Item) (c : ContentRecord) (b : StoreBridge) → May covers w e →
    Represented at c b (bridge_at (after covers w e) k) → LeadsTo at w k (e ∷ []) c b
leads_one at w k e c b may s = record { fleet = after covers w e; happen = (after covers w e, (may, refl), refl); represented = s }
