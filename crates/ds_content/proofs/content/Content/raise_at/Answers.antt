use Rattle.std.proofs.Common.{◌≡◌, List, [], ◌∷◌, ◌++◌, None, length, map, ap, sym, ◌∙◌, subst, Ok}
use Rattle.std.specs.FinMap.{insert}
use Rattle.std.specs.Option.{option_map}
use Rattle.ds_entry.specs.Change.{ChangeRecord}
use Rattle.ds_entry.specs.Floor.{floor_of}
use Rattle.ds_entry.specs.declared.floor.Floor.{Floor}
use Rattle.ds_entry.specs.declared.item.Item.{Item}
use Rattle.ds_entry.specs.declared.item.Item.TheVariants.{Floor as Floored}
use Rattle.ds_feed.specs.Feed as feeds
use Rattle.ds_feed.specs.Feed.{Feed}
use Rattle.ds_feed.specs.Kept.{Keeps}
use Rattle.ds_held.specs.Held.{Holding, held_items}
use Rattle.ds_held.specs.Kept.{puts_void_by, IsFloorPlace}
use Rattle.ds_held.specs.Raise.{after_raise, at_kept_keys}
use Rattle.ds_held.proofs.KeptLemmas.{raised_joins}
use Rattle.ds_join.specs.ItemTop.{IsTop}
use Rattle.ds_join.specs.declared.merge.Merge.TheVariants.{Taken}
use Rattle.ds_machine.specs.Parts.{changes_in, floors_in, floor_at}
use Rattle.ds_machine.specs.State.{State, takes_effect}
use Rattle.ds_watch.specs.Mask.{padded}
use Rattle.ds_watch.specs.Masks.{fresh}
use Rattle.ds_watch.specs.declared.masks.Masks.{Masks}
use Rattle.ds_content.specs.Content.{ContentRecord}
use Rattle.ds_content.specs.Followed.{watches_item}
use Rattle.ds_content.specs.Kept.{ArePending, content_of}
use Rattle.ds_content.specs.Stands.{ContentStands}
use Rattle.ds_content.proofs.EnterLemmas.{effect, marked_then, pending_then, places_then, floor_view}
use Rattle.ds_content.proofs.HoldingLemmas.{changes_are, floors_are, floor_at-is, floor_taken}
use Rattle.ds_content.proofs.KeptLemmas.{floor_here, floor_kept}
use Rattle.ds_content.proofs.OpenLemmas.{on_err}
use Rattle.ds_content.proofs.RoomLemmas.{floor_enters}
use Rattle.ds_content.proofs.content.Content.raise_at.Goals as goal
use Rattle.ds_content.proofs.content.Content.raise_at.Goals.{In_ok-count, After-push}
use Rattle.ds_content.specs.Standing.{floor_standing_in}
use Rattle.ds_machine.specs.Standing.{IsFloorFree}

-- what the floor meets, read from the fields
free_in : (v : ContentRecord) (now : ContentRecord) (f : Floor) → v ≡ now → IsFloorFree (floor_standing_in now f) f →
    IsFloorFree (floor_standing_in v f) f
free_in v now f is free = subst (λ (x : ContentRecord). IsFloorFree (floor_standing_in x f) f) (sym is) free

free : (c : In_ok-count) → IsFloorFree (floor_standing_in (content_of c.self.inside) c.args.floor) c.args.floor
free c = free_in (content_of c.self.inside) c.args.self.now c.args.floor c.self.view_is c.requires.free

pub raise_at-requires-clause-place : goal.raise_at-requires-clause-place
raise_at-requires-clause-place c =
    subst (λ l. IsFloorPlace l c.args.floor.owner c.args.place) (floors_are c.self.inside.held.held)
    (subst (λ (v : ContentRecord). IsFloorPlace (floors_in v.held) c.args.floor.owner c.args.place) (sym c.self.view_is) c.requires.place)

pub raise_at-requires-clause-taken : goal.raise_at-requires-clause-taken
raise_at-requires-clause-taken c =
    floor_taken c.self.inside.held.held c.held-held.ensures.sound c.args.floor
    (free_in (content_of c.self.inside) c.args.self.now c.args.floor c.self.view_is c.requires.free).room

pub returns-in_err-count-clause-new_owner : goal.returns-in_err-count-clause-new_owner
returns-in_err-count-clause-new_owner c =
    let new : floor_at (held_items c.self.inside.held.held) c.args.floor.owner ≡ None =
    floor_at-is c.self.inside.held.held c.held-held.ensures.sound c.args.floor.owner ∙
    ap (option_map (floor_of c.args.floor.owner)) c.in_err-count.ensures.new in
    on_err c.from_residual.result (floor_at c.args.self.now.held c.args.floor.owner ≡ None)
    (subst (λ (v : ContentRecord). floor_at v.held c.args.floor.owner ≡ None) c.self.view_is new)

-- as many puts were dropped as the floor makes void
pub returns-clause-count : goal.returns-clause-count
returns-clause-count c =
    let b = (goal.at.returns-clause-count c).In_ok-count in
    b.in_ok-count.ensures.count ∙ ap (λ (l : List ChangeRecord). length (puts_void_by c.args.floor l))
    (sym (changes_are c.self.inside.held.held)) ∙
    ap (λ (v : ContentRecord). length (puts_void_by c.args.floor (changes_in v.held))) c.self.view_is

held : (c : In_ok-count) → c.raise_at.new.self.held ≡ after_raise c.self.inside.held.held c.args.floor (Ok Taken)
held c = c.in_ok-count.ensures.raised.held

-- what is held is the top with the floor
joined : (c : In_ok-count) → IsTop (held_items c.raise_at.new.self.held) (held_items c.self.inside.held.held ++ Floored c.args.floor ∷ [])
joined c =
    raised_joins c.self.inside.held.held c.raise_at.new.self.held c.args.floor (Ok Taken) c.held-held.ensures.sound
    (floor_taken c.self.inside.held.held c.held-held.ensures.sound c.args.floor (free c).room) (held c)

-- what it makes void was dropped with its masks
marks : (c : In_ok-count) → c.raise_at.new.self.marks ≡ at_kept_keys c.args.floor c.self.inside.held.held.changes c.self.inside.held.marks
marks c = c.in_ok-count.ensures.raised.marks

-- its own masks were inserted with it
floors : (c : In_ok-count) → c.raise_at.new.self.floor_marks ≡ insert c.self.inside.held.floor_marks c.args.floor.owner (fresh c.args.owed)
floors c = c.in_ok-count.ensures.raised.floor_marks ∙
    ap (λ (m : Masks). insert c.self.inside.held.floor_marks c.args.floor.owner m) c.fresh.ensures

-- it is owed to all that are made
owes : (c : In_ok-count) → c.args.owed ≡ padded (map (watches_item (Floored c.args.floor)) c.self.inside.subscriptions)
owes c = c.requires.owed ∙ floor_view c.self.inside.held c.self.inside.journal c.self.inside.stamp c.self.inside.subscriptions
    c.args.self.now c.self.view_is c.args.floor

pushed : (c : After-push) → (f : Feed) → Keeps c.self.inside.journal f → Keeps c.push.new.self (feeds.accepts f (Floored c.args.floor))
pushed c f keeps = subst (λ (i : Item). Keeps c.push.new.self (feeds.accepts f i)) c.item_of-item.ensures (c.push.ensures f keeps)

pub returns-clause-ok : goal.returns-clause-ok
returns-clause-ok c = λ s stands.
    let b = (goal.at.returns-clause-ok c).In_ok-count in
    let d = (goal.at.returns-clause-ok c).After-push in
    let old = c.self.inside.held in
    let new = c.raise_at.new.self in
    effect old new c.self.inside.journal c.push.new.self c.self.inside.stamp c.self.inside.subscriptions (Floored c.args.floor) c.args.owed
    (joined b) (ap (λ (h : Holding). h.limits) (held b))
    (floor_here old new c.args.floor c.args.owed c.raise_at.ensures.sound (held b) (marks b) (floors b))
    (floor_kept old new c.args.floor c.args.owed c.raise_at.ensures.sound (held b) (marks b) (floors b)) (owes b) (pushed d)
    (λ t stood. floor_enters (content_of c.self.inside) t c.args.floor stood (free b)) s
    (subst (λ (v : ContentRecord). ContentStands v s) (sym c.self.view_is) stands)

pub invariant_of-self-2 : goal.invariant_of-self-2
invariant_of-self-2 c =
    let b = (goal.at.invariant_of-self-2 c).In_ok-count in
    let d = (goal.at.invariant_of-self-2 c).After-push in
    let old = c.self.inside.held in
    let new = c.raise_at.new.self in
    let here = floor_here old new c.args.floor c.args.owed c.raise_at.ensures.sound (held b) (marks b) (floors b) in
    let kept = floor_kept old new c.args.floor c.args.owed c.raise_at.ensures.sound (held b) (marks b) (floors b) in
    let bounds : new.held.limits ≡ old.held.limits = ap (λ (h : Holding). h.limits) (held b) in
    let enters = λ (t : State) (stood : ContentStands (content_of c.self.inside) t).
    floor_enters (content_of c.self.inside) t c.args.floor stood (free b) in
    let stood = c.self.invariant.stood in
    record {
      places = places_then old new c.self.inside.journal c.push.new.self c.self.inside.stamp c.self.inside.subscriptions
          (Floored c.args.floor) c.args.owed (joined b) bounds here kept (owes b) (pushed d) enters c.self.invariant.places;
      marked = marked_then old new c.self.inside.journal c.push.new.self c.self.inside.stamp c.self.inside.subscriptions
          (Floored c.args.floor) c.args.owed (joined b) bounds here
          kept (owes b) (pushed d) enters stood.0 stood.1 c.self.invariant.places c.self.invariant.marked;
      pending = subst (λ fs. ArePending new fs) (sym c.add.ensures)
          (pending_then old new c.self.inside.journal c.push.new.self c.self.inside.stamp c.self.inside.subscriptions
          (Floored c.args.floor) c.args.owed (joined b) bounds
          here kept (owes b) (pushed d) enters stood.0 stood.1 c.self.invariant.places c.self.invariant.marked c.self.inside.pending
          c.self.invariant.pending);
      stood = (
        takes_effect stood.0 (Floored c.args.floor ∷ []),
        effect old new c.self.inside.journal c.push.new.self c.self.inside.stamp c.self.inside.subscriptions (Floored c.args.floor)
            c.args.owed (joined b) bounds here kept (owes b) (pushed d) enters stood.0 stood.1,
      );
    }
