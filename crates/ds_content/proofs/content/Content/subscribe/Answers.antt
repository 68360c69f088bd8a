use Rattle.std.proofs.Common.{◌≡◌, ◌+◌, ◌<◌, List, Option, Some, length, map, set, refl, ap, sym, ◌∙◌, subst}
use Rattle.std.proofs.lemmas.List.{length-set}
use Rattle.std.specs.List.{list_any}
use Rattle.ds_entry.specs.declared.item.Item.{Item}
use Rattle.ds_held.specs.Held.{Holding, held_items}
use Rattle.ds_watch.specs.Watching.{Watching, watching}
use Rattle.ds_machine.specs.State.{State, subscribes}
use Rattle.ds_machine.specs.Watching.{shown_at_first}
use Rattle.ds_content.specs.Content.{ContentRecord}
use Rattle.ds_content.specs.Kept.{AreMarked, ArePending, content_of}
use Rattle.ds_content.specs.Stands.{ContentStands}
use Rattle.ds_content.proofs.EnterLemmas.{value_of}
use Rattle.ds_content.proofs.RemarkLemmas.{made_marked, made_pending}
use Rattle.ds_content.proofs.ServeLemmas.{made_stands, seat_here, any_flags}
use Rattle.ds_content.proofs.content.Content.subscribe.Goals as goal
use Rattle.ds_content.proofs.content.Content.subscribe.Goals.{After-put}
use Rattle.ds_names.specs.Limits.{last_place}
use Rattle.ds_pattern.specs.Under.{is_under}
use Rattle.ds_entry.specs.Item.{passes}

pub make_all-requires : goal.make_all-requires
make_all-requires c =
    (seat_here c.self.inside.held c.self.inside.journal c.self.inside.stamp c.self.inside.subscriptions c.args.self.now c.self.view_is
    c.self.invariant.stood.0 c.self.invariant.stood.1 c.self.invariant.places c.args.sub c.requires.place).1

pub put-requires : goal.put-requires
put-requires c =
    (seat_here c.self.inside.held c.self.inside.journal c.self.inside.stamp c.self.inside.subscriptions c.args.self.now c.self.view_is
    c.self.invariant.stood.0 c.self.invariant.stood.1 c.self.invariant.places c.args.sub c.requires.place).0

within : (c : After-put) → (c.args.sub < length c.self.inside.subscriptions) × (c.args.sub < 128)
within c =
    seat_here c.self.inside.held c.self.inside.journal c.self.inside.stamp c.self.inside.subscriptions c.args.self.now c.self.view_is
    c.self.invariant.stood.0 c.self.invariant.stood.1 c.self.invariant.places c.args.sub c.requires.place

-- the flags are those of the query
flags : (c : After-put) → c.deref-2.result.now ≡ map (passes (is_under c.args.filter)) (held_items c.self.inside.held.held)
flags c = c.deref-2.ensures.value ∙ c.in_ok-flags.ensures ∙
    ap (λ (h : Holding). map (passes (is_under c.args.filter)) (held_items h)) c.held.ensures.value

room : (c : After-put) → c.self.inside.stamp < last_place
room c = subst (λ (v : ContentRecord). v.stamp < last_place) (sym c.self.view_is) c.requires.room

-- the places with the subscription
places : (c : After-put) → c.put.new.self ≡ set c.self.inside.subscriptions c.args.sub
    (Some (watching c.args.filter (c.self.inside.stamp + 1)))
places c = c.put.ensures ∙ ap (λ (w : Watching). set c.self.inside.subscriptions c.args.sub (Some w)) c.new.ensures

stands_after : (c : After-put) (s : State) → ContentStands (content_of c.self.inside) s →
    ContentStands (value_of c.make_all.new.held c.self.inside.journal (c.self.inside.stamp + 1) c.put.new.self)
    (subscribes s c.args.sub c.args.filter (shown_at_first (held_items c.self.inside.held.held) c.args.initial))
stands_after c s stands =
    subst (λ (ws : List (Option Watching)). ContentStands (value_of c.make_all.new.held c.self.inside.journal (c.self.inside.stamp + 1) ws)
    (subscribes s c.args.sub c.args.filter (shown_at_first (held_items c.self.inside.held.held) c.args.initial))) (sym (places c))
    (made_stands c.self.inside.held c.make_all.new.held c.self.inside.journal c.self.inside.stamp c.self.inside.subscriptions c.args.sub
    c.self.invariant.places (within c).0
    (room c) c.args.filter c.args.initial c.deref-2.result.now (flags c) (within c).1 c.make_all.ensures c.self.invariant.marked s stands)

pub invariant_of-self : goal.invariant_of-self
invariant_of-self c =
    let d = (goal.at.invariant_of-self c).After-put in
    let w = watching c.args.filter (c.self.inside.stamp + 1) in
    let stood = c.self.invariant.stood in
    record {
      places = ap (λ (l : List (Option Watching)). length l) (places d) ∙ length-set c.self.inside.subscriptions c.args.sub (Some w) ∙
          c.self.invariant.places ∙ ap (λ (h : Holding). h.limits.subs) (sym c.make_all.ensures.held);
      marked = subst (λ ws. AreMarked c.make_all.new.held ws) (sym (places d))
          (made_marked c.self.inside.held c.make_all.new.held c.args.sub (within d).1 c.args.filter c.args.initial c.deref-2.result.now
          (flags d) c.make_all.ensures c.self.inside.subscriptions w (within d).0 refl c.self.invariant.marked);
      pending = subst (λ fs. ArePending c.make_all.new.held fs) (sym c.put-self-inside.ensures.value)
          (made_pending c.self.inside.held c.make_all.new.held c.args.sub (within d).1 c.args.filter c.args.initial c.deref-2.result.now
          (flags d) c.make_all.ensures
          c.self.inside.pending c.self.invariant.marked.long c.self.invariant.pending);
      stood = (
        subscribes stood.0 c.args.sub c.args.filter (shown_at_first (held_items c.self.inside.held.held) c.args.initial),
        stands_after d
            stood.0 stood.1,
      );
    }

pub returns-clause-ok : goal.returns-clause-ok
returns-clause-ok c = λ s stands.
    let d = (goal.at.returns-clause-ok c).After-put in
    subst (λ (hs : List Item). ContentStands (value_of c.make_all.new.held c.self.inside.journal (c.self.inside.stamp + 1) c.put.new.self)
    (subscribes s c.args.sub c.args.filter (shown_at_first hs c.args.initial))) (ap (λ (v : ContentRecord). v.held) c.self.view_is)
    (stands_after d s (subst (λ (v : ContentRecord). ContentStands v s) (sym c.self.view_is) stands))

pub returns-clause-some : goal.returns-clause-some
returns-clause-some c =
    let d = (goal.at.returns-clause-some c).After-put in
    c.has_any-some.ensures ∙ ap (list_any (λ b. b)) (c.deref.ensures.value ∙ sym c.deref-2.ensures.value ∙ flags d) ∙
    any_flags (passes (is_under c.args.filter)) (held_items c.self.inside.held.held)
    ∙ ap (λ (v : ContentRecord). list_any (passes (is_under c.args.filter)) v.held) c.self.view_is
