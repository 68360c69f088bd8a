-- A bridge that is opened has all that is held to send.
use Rattle.std.proofs.Common.{◌≡◌, ◌∙◌, ℕ, ◌+◌, ◌-◌, ◌≤◌, List, [], ◌++◌, length, take, append-nil, None, refl, sym, ap, subst, arith}
use Rattle.ds_entry.specs.declared.item.Item.{Item}
use Rattle.ds_join.specs.ItemTop.{tops}
use Rattle.ds_held.specs.Held.{held_items, nothing_held}
use Rattle.ds_held.specs.Limits.{larger}
use Rattle.ds_content.specs.Content.{ContentRecord}
use Rattle.ds_content.proofs.OpenLemmas.{nothing_is_held}
use Rattle.fleet_rule.specs.Bridge as rule
use Rattle.fleet_bridge.specs.State as decisions
use Rattle.fleet_bridge.specs.declared.question.Question.TheVariants.{Nothing}
use Rattle.c_bridge.specs.State.{bridge_folded, bridge_opened}
use Rattle.c_bridge.specs.Happening.{LeadsTo, OpeningHappens, Represented}
use Rattle.c_bridge.specs.declared.bridge.StoreBridge.{StoreBridge}
use Rattle.c_bridge.proofs.GatherLemmas.{some_are_gone}

-- A bridge that gathered nothing yet.
abbrev ungathered : ℕ → StoreBridge
ungathered first = record {
  decisions = decisions.new_state;
  question = Nothing;
  outbox = [];
  snapshot = [];
  dead = nothing_held larger;
  seen = first;
  reading = None;
  entries = [];
}

opened_is : (c : ContentRecord) (first : ℕ) → bridge_folded c (ungathered first) ≡ bridge_opened c
opened_is c first =
    let to : List Item → StoreBridge = λ l.
    record {
      decisions = decisions.folded decisions.new_state (length l);
      question = Nothing;
      outbox = l;
      snapshot = [];
      dead = nothing_held larger;
      seen = c.journal.position;
      reading = None;
      entries = [];
    } in
    ap to (ap (λ (x : List Item). c.held ++ x) (nothing_is_held larger) ∙ append-nil c.held)

pub opening_happens : OpeningHappens
opening_happens at w k c ids s h e =
    let first : ℕ = s.feed.first in
    let z : first - first ≡ 0 = omega arith in
    let low : first ≤ first = omega arith in
    let high : first ≤ first + length s.feed.accepted = omega arith in
    let none : tops (take (first - first) s.feed.accepted) ++ held_items (nothing_held larger) ≡ [] =
    ap (λ (n : ℕ). tops (take n s.feed.accepted) ++ held_items (nothing_held larger)) z ∙ nothing_is_held larger in
    let new : Represented at c (ungathered first) rule.new_bridge =
    record {
      decisions = record {
        outbox = refl;
        in_flight = refl;
        position = sym ids.front;
        must_resend = refl;
        has_dropped = refl;
        met = refl;
      };
      outbox = refl;
      held = record { state = s; content = h; first = low; last = high; held_is = sym none };
    } in
    let now = subst (λ (r : rule.Bridge Item). Represented at c (ungathered first) r) (sym e) new in
    let g = some_are_gone at w k c c (ungathered first) (bridge_folded c (ungathered first)) now (λ t q. q) refl in
    (g.0, subst (λ (b : StoreBridge). LeadsTo at w k g.0 c b) (opened_is c first) g.1)
