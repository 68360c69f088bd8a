use Rattle.std.proofs.Common.{◌≡◌, ◌+◌, ◌<◌, ◌++◌, List, Option, Some, None, true, is_some, length, take, filter, get_or, set, ap, sym, ◌∙◌}
use Rattle.std.proofs.Common.{subst}
use Rattle.std.proofs.lemmas.List.{length-set}
use Rattle.std.specs.Option.{option_map}
use Rattle.ds_entry.specs.declared.item.Item.{Item}
use Rattle.ds_held.specs.Held.{Holding, held_items}
use Rattle.ds_watch.specs.Watching.{Watching, watching, stamped}
use Rattle.ds_machine.specs.State.{State, subscribes, subscription_at}
use Rattle.ds_machine.specs.Subscription.{Subscription}
use Rattle.ds_content.specs.Content.{ContentRecord}
use Rattle.ds_content.specs.Kept.{AreMarked, ArePending, content_of}
use Rattle.ds_content.specs.Shown.{AreUnseen, IsRest, IsRestOf, is_to_show}
use Rattle.ds_content.specs.Stands.{ContentStands}
use Rattle.ds_content.proofs.EnterLemmas.{value_of}
use Rattle.ds_content.proofs.RemarkLemmas.{checked_marked, check_pending}
use Rattle.ds_content.proofs.ServeLemmas.{shown_stands, made_place, unseen_items, rest_items, within_places, twin_of, few_seats}
use Rattle.ds_content.proofs.content.Content.show.Goals as goal
use Rattle.ds_content.proofs.content.Content.show.Goals.{After-set_stamp}
use Rattle.ds_names.specs.Limits.{last_place}

pub show_first-requires-clause-place : goal.show_first-requires-clause-place
show_first-requires-clause-place c =
    let w = made_place c.self.inside.held c.self.inside.subscriptions c.args.sub
    (subst (λ (v : ContentRecord). is_some (get_or v.subscriptions c.args.sub None) ≡ true) (sym c.self.view_is) c.requires.made) in
    few_seats c.self.inside.held c.self.inside.journal c.self.inside.stamp c.self.inside.subscriptions c.self.invariant.stood.0
    c.self.invariant.stood.1 c.self.invariant.places c.args.sub w.0 w.1

pub show_first-requires-clause-left : goal.show_first-requires-clause-left
show_first-requires-clause-left c =
    let w = made_place c.self.inside.held c.self.inside.subscriptions c.args.sub
    (subst (λ (v : ContentRecord). is_some (get_or v.subscriptions c.args.sub None) ≡ true) (sym c.self.view_is) c.requires.made) in
    c.len.ensures ∙ ap (λ (l : List Item). length l)
    (unseen_items c.self.inside.held c.self.inside.subscriptions c.args.sub w.0 w.1 c.self.inside.journal c.self.inside.stamp
    c.args.shown.now.items c.args.shown.now.passed
    (subst (λ (v : ContentRecord). AreUnseen v c.args.sub c.args.shown.now.items c.args.shown.now.passed) (sym c.self.view_is)
    c.requires.unseen))

pub set_stamp-requires : goal.set_stamp-requires
set_stamp-requires c =
    let w = made_place c.self.inside.held c.self.inside.subscriptions c.args.sub
    (subst (λ (v : ContentRecord). is_some (get_or v.subscriptions c.args.sub None) ≡ true) (sym c.self.view_is) c.requires.made) in
    within_places c.self.inside.subscriptions c.args.sub w.0 w.1

seat : (c : After-set_stamp) → (w : Watching) × (get_or c.self.inside.subscriptions c.args.sub None ≡ Some w)
seat c = made_place c.self.inside.held c.self.inside.subscriptions c.args.sub
    (subst (λ (v : ContentRecord). is_some (get_or v.subscriptions c.args.sub None) ≡ true) (sym c.self.view_is) c.requires.made)

place : (c : After-set_stamp) → c.args.sub < 128
place c = few_seats c.self.inside.held c.self.inside.journal c.self.inside.stamp c.self.inside.subscriptions c.self.invariant.stood.0
    c.self.invariant.stood.1 c.self.invariant.places c.args.sub (seat c).0 (seat c).1

-- what the masks say of the rest
rest : (c : After-set_stamp) → IsRestOf c.self.inside.held c.args.sub c.args.shown.now.passed c.args.shown.now.more
rest c =
    rest_items c.self.inside.held c.self.inside.subscriptions c.args.sub (seat c).0 (seat c).1 c.self.inside.journal c.self.inside.stamp
    c.args.shown.now.passed c.args.shown.now.more
    (subst (λ (v : ContentRecord). IsRest v c.args.sub c.args.shown.now.passed c.args.shown.now.more) (sym c.self.view_is) c.requires.rest)

room : (c : After-set_stamp) → c.self.inside.stamp < last_place
room c = subst (λ (v : ContentRecord). v.stamp < last_place) (sym c.self.view_is) c.requires.room

-- the places with the stamp
places : (c : After-set_stamp) → c.set_stamp.new.self ≡ set c.self.inside.subscriptions c.args.sub
    (Some (watching (seat c).0.query (c.self.inside.stamp + 1)))
places c = c.set_stamp.ensures ∙ ap (λ (o : Option Watching).
    set c.self.inside.subscriptions c.args.sub (option_map (stamped (c.self.inside.stamp + 1)) o)) (seat c).1

-- what is shown is what the masks say
items : (c : After-set_stamp) → c.args.shown.now.items ≡ filter (is_to_show c.self.inside.held c.args.sub)
    (take c.args.shown.now.passed (held_items c.self.inside.held.held))
items c =
    unseen_items c.self.inside.held c.self.inside.subscriptions c.args.sub (seat c).0 (seat c).1 c.self.inside.journal c.self.inside.stamp
    c.args.shown.now.items c.args.shown.now.passed
    (subst (λ (v : ContentRecord). AreUnseen v c.args.sub c.args.shown.now.items c.args.shown.now.passed) (sym c.self.view_is)
    c.requires.unseen)

stands_after : (c : After-set_stamp) (s : State) (seer : Subscription) → ContentStands (content_of c.self.inside) s →
    subscription_at s c.args.sub ≡ Some seer
    → ContentStands (value_of c.show_first.new.held c.self.inside.journal (c.self.inside.stamp + 1) c.set_stamp.new.self)
    (subscribes s c.args.sub seer.query (seer.shown ++ c.args.shown.now.items))
stands_after c s seer stands here =
    subst (λ (ws : List (Option Watching)). ContentStands
    (value_of c.show_first.new.held c.self.inside.journal (c.self.inside.stamp + 1) ws)
    (subscribes s c.args.sub seer.query (seer.shown ++ c.args.shown.now.items))) (sym (places c))
    (shown_stands c.self.inside.held c.show_first.new.held c.self.inside.journal c.self.inside.stamp c.self.inside.subscriptions c.args.sub
    c.self.invariant.places
    (within_places c.self.inside.subscriptions c.args.sub (seat c).0 (seat c).1) (room c) c.held-held.ensures.sound
    c.args.shown.now.passed c.show_first.ensures s seer (seat c).0 c.args.shown.now.items stands here (seat c).1 (items c))

pub invariant_of-self : goal.invariant_of-self
invariant_of-self c =
    let d = (goal.at.invariant_of-self c).After-set_stamp in
    let w = watching (seat d).0.query (c.self.inside.stamp + 1) in
    let stood = c.self.invariant.stood in
    let t = twin_of c.self.inside.held c.self.inside.subscriptions c.args.sub c.self.inside.journal c.self.inside.stamp stood.0 stood.1
    (seat d).0 (seat d).1 in
    record {
      places = ap (λ (l : List (Option Watching)). length l) (places d) ∙ length-set c.self.inside.subscriptions c.args.sub (Some w) ∙
          c.self.invariant.places ∙ ap (λ (h : Holding). h.limits.subs) (sym c.show_first.ensures.held);
      marked = subst (λ ws. AreMarked c.show_first.new.held ws) (sym (places d))
          (checked_marked c.self.inside.held c.show_first.new.held c.args.shown.now.passed c.args.sub c.show_first.ensures
          c.self.inside.subscriptions (seat d).0 (c.self.inside.stamp + 1) (seat d).1 c.self.invariant.marked);
      pending = subst (λ fs. ArePending c.show_first.new.held fs) (sym c.put-self-inside.ensures.value)
          (check_pending c.self.inside.held c.show_first.new.held c.args.shown.now.passed c.args.sub c.show_first.ensures
          c.self.inside.pending c.args.shown.now.more (place d) (rest d) c.self.invariant.pending);
      stood = (subscribes stood.0 c.args.sub t.0.query (t.0.shown ++ c.args.shown.now.items), stands_after d stood.0 t.0 stood.1 t.1);
    }

pub returns : goal.returns
returns c = λ s seer stands here.
    stands_after (goal.at.returns c).After-set_stamp s seer (subst (λ (v : ContentRecord). ContentStands v s) (sym c.self.view_is) stands)
    here
