use Rattle.std.proofs.Common.{◌≡◌, ◌≤◌, ◌+◌, Option, None, length, replicate, ap, sym, ◌∙◌, subst, arith}
use Rattle.ds_feed.specs.Feed.{restarted}
use Rattle.ds_feed.specs.Kept.{Keeps}
use Rattle.ds_held.specs.Held.{Holding, held_items}
use Rattle.ds_held.specs.Limits.{LimitsRecord, IsLimits}
use Rattle.ds_index.specs.Marked.{nothing_marked}
use Rattle.ds_watch.specs.Watching.{Watching}
use Rattle.ds_machine.specs.State.{State, opening}
use Rattle.ds_content.specs.Content.{ContentRecord}
use Rattle.ds_content.specs.Followed.{followed_from}
use Rattle.ds_content.specs.Kept.{content_of, unseen_at}
use Rattle.ds_content.specs.Stands.{ContentStands}
use Rattle.ds_content.proofs.OpenLemmas.{places_here, none_marked, none_pending, stands_opening}
use Rattle.ds_content.proofs.content.Content.restart.Goals as goal
use Rattle.ds_content.proofs.content.Content.restart.Goals.{After-new}
use Rattle.ds_names.specs.Limits.{last_place}

-- the limits that it had
bounds : (c : After-new) → c.limits-limits.result ≡ c.self.inside.held.held.limits
bounds c = c.limits-limits.ensures ∙ ap (λ (h : Holding). h.limits) c.held.ensures.value

nothing : (c : After-new) → c.bounded.result ≡ nothing_marked c.self.inside.held.held.limits
nothing c = c.bounded.ensures ∙ ap (λ (l : LimitsRecord). nothing_marked l) (bounds c)

none : (c : After-new) → c.new.result ≡ replicate c.self.inside.held.held.limits.subs None
none c =
    c.new.ensures ∙ ap (λ n. replicate {A = Option Watching} n None) (c.subs.ensures.count ∙ ap (λ (l : LimitsRecord). l.subs) (bounds c))

stands_after : (c : After-new) (s : State) → ContentStands (content_of c.self.inside) s
    → ContentStands (record {
      held = held_items c.bounded.result.held;
      journal = c.restart.new.self;
      limits = c.bounded.result.held.limits;
      stamp = c.first-self-inside.result;
      subscriptions = followed_from (held_items c.bounded.result.held) (unseen_at c.bounded.result) 0 c.new.result;
    }) (opening c.args.incarnation s.feed.first s.feed.ring s.limits)
stands_after c s stands =
    let l = c.self.inside.held.held.limits in
    let keeps : Keeps c.restart.new.self (restarted s.feed c.args.incarnation) = c.restart.ensures s.feed stands.journal in
    let is_limits : IsLimits l = subst IsLimits (sym stands.limits) stands.reached.limits in
    let within : s.feed.first + length s.feed.accepted ≤ last_place = stands.within.position in
    let low : s.feed.first ≤ last_place = omega (arith, within) in
    subst (λ (x : LimitsRecord). ContentStands
    (record {
      held = held_items c.bounded.result.held;
      journal = c.restart.new.self;
      limits = c.bounded.result.held.limits;
      stamp = c.first-self-inside.result;
      subscriptions =
          followed_from (held_items c.bounded.result.held) (unseen_at c.bounded.result) 0 c.new.result;
    }) (opening c.args.incarnation s.feed.first s.feed.ring x)) stands.limits
    (stands_opening c.bounded.result c.new.result l (nothing c) (none c) c.restart.new.self c.args.incarnation s.feed.first s.feed.ring
    c.first-self-inside.result keeps (c.first-self-inside.ensures ∙ keeps.first) is_limits low)

pub invariant_of-self : goal.invariant_of-self
invariant_of-self c =
    let d = (goal.at.invariant_of-self c).After-new in
    let l = c.self.inside.held.held.limits in
    let stood = c.self.invariant.stood in
    record {
      places = places_here c.bounded.result c.new.result l (nothing d) (none d);
      marked = none_marked c.bounded.result c.new.result l (nothing d) (none d);
      pending = none_pending c.bounded.result c.new.result l (nothing d) (none d) c.none-self-inside.result c.none-self-inside.ensures;
      stood = (opening c.args.incarnation stood.0.feed.first stood.0.feed.ring stood.0.limits, stands_after d stood.0 stood.1);
    }

pub returns : goal.returns
returns c = λ s stands.
    stands_after (goal.at.returns c).After-new s (subst (λ (v : ContentRecord). ContentStands v s) (sym c.self.view_is) stands)
