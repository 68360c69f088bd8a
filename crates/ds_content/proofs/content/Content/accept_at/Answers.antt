use Rattle.std.proofs.Common.{◌≡◌, [], ◌∷◌, ◌++◌, None, map, ap, sym, ◌∙◌, subst, inl, Ok, ◌⊎◌}
use Rattle.std.specs.FinMap.{insert}
use Rattle.ds_entry.specs.Change.{ChangeRecord, BodyCopyTakesMemory}
use Rattle.ds_entry.specs.declared.item.Item.TheVariants.{Change as Changed}
use Rattle.ds_feed.specs.Feed as feeds
use Rattle.ds_feed.specs.Feed.{Feed}
use Rattle.ds_feed.specs.Kept.{Keeps}
use Rattle.ds_held.specs.Held.{Holding, held_changes, held_for, held_items}
use Rattle.ds_held.specs.Kept.{IsPlace}
use Rattle.ds_held.specs.Merge.{after_merge, MergeAnswer}
use Rattle.ds_held.proofs.KeptLemmas.{merged_joins}
use Rattle.ds_join.specs.ItemTop.{IsTop}
use Rattle.ds_join.specs.declared.merge.Merge.TheVariants.{Taken}
use Rattle.ds_machine.specs.Parts.{changes_in, held_at}
use Rattle.ds_index.specs.Put.{IsPutMarked}
use Rattle.ds_machine.specs.State.{State, takes_effect}
use Rattle.ds_watch.specs.Mask.{padded}
use Rattle.ds_watch.specs.Masks.{fresh}
use Rattle.ds_watch.specs.declared.masks.Masks.{Masks}
use Rattle.ds_content.specs.Content.{ContentRecord}
use Rattle.ds_content.specs.Followed.{watches_item}
use Rattle.ds_content.specs.Kept.{ArePending, content_of}
use Rattle.ds_content.specs.Stands.{ContentStands}
use Rattle.ds_content.proofs.EnterLemmas.{effect, marked_then, pending_then, places_then, change_view}
use Rattle.ds_content.proofs.HoldingLemmas.{changes_are, change_taken, held_at-is}
use Rattle.ds_content.proofs.KeptLemmas.{change_here, change_kept}
use Rattle.ds_content.proofs.OpenLemmas.{on_err}
use Rattle.ds_content.proofs.RoomLemmas.{change_enters}
use Rattle.ds_content.proofs.content.Content.accept_at.Goals as goal
use Rattle.ds_content.proofs.content.Content.accept_at.Goals.{In_ok-put_at, After-push}
use Rattle.ds_content.specs.Standing.{standing_in}
use Rattle.ds_machine.specs.Standing.{IsFree}

-- what the change meets, read from the fields
free_in : (v : ContentRecord) (now : ContentRecord) (c : ChangeRecord) → v ≡ now → IsFree (standing_in now c) c → IsFree (standing_in v c) c
free_in v now c is f = subst (λ (x : ContentRecord). IsFree (standing_in x c) c) (sym is) f

free : (c : In_ok-put_at) → IsFree (standing_in (content_of c.self.inside) c.args.change.now) c.args.change.now
free c = free_in (content_of c.self.inside) c.args.self.now c.args.change.now c.self.view_is c.requires.free

pub put_at-requires-clause-place : goal.put_at-requires-clause-place
put_at-requires-clause-place c =
    let here = subst (λ l. IsPlace l c.args.change.now.key c.args.place) (changes_are c.self.inside.held.held)
    (subst (λ (v : ContentRecord). IsPlace (changes_in v.held) c.args.change.now.key c.args.place) (sym c.self.view_is) c.requires.place) in
    subst (λ (x : ChangeRecord). IsPlace (held_changes c.self.inside.held.held) x.key c.args.place) (sym c.again.ensures) here

pub put_at-requires-clause-taken : goal.put_at-requires-clause-taken
put_at-requires-clause-taken c =
    let f = free_in (content_of c.self.inside) c.args.self.now c.args.change.now c.self.view_is c.requires.free in
    subst (λ (x : ChangeRecord). MergeAnswer c.self.inside.held.held x (Ok Taken)) (sym c.again.ensures)
    (change_taken c.self.inside.held.held c.held-held.ensures.sound c.args.change.now f.room f.valid)

pub returns-in_err-put_at-clause-wants : goal.returns-in_err-put_at-clause-wants
returns-in_err-put_at-clause-wants c =
    let new : held_at (held_items c.self.inside.held.held) c.args.change.now.key ≡ None =
    held_at-is c.self.inside.held.held c.held-held.ensures.sound c.args.change.now.key ∙
    subst (λ (x : ChangeRecord). held_for c.self.inside.held.held x.key ≡ None) c.again.ensures c.in_err-put_at.ensures.new in
    on_err c.from_residual-in_err-put_at.result
    ((held_at c.args.self.now.held c.args.change.now.key ≡ None) ⊎ BodyCopyTakesMemory c.args.change.now.body)
    (inl (subst (λ (v : ContentRecord). held_at v.held c.args.change.now.key ≡ None) c.self.view_is new))

-- the copy was put, which is the change
put : (c : In_ok-put_at) → IsPutMarked c.self.inside.held c.args.change.now c.fresh.result c.put_at.new.self
put c = subst (λ (x : ChangeRecord). IsPutMarked c.self.inside.held x c.fresh.result c.put_at.new.self) c.again.ensures
    c.in_ok-put_at.ensures.put

held : (c : In_ok-put_at) → c.put_at.new.self.held ≡ after_merge c.self.inside.held.held c.args.change.now (Ok Taken)
held c = (put c).held

-- what is held is the top with the change
joined : (c : In_ok-put_at) → IsTop (held_items c.put_at.new.self.held)
    (held_items c.self.inside.held.held ++ Changed c.args.change.now ∷ [])
joined c =
    merged_joins c.self.inside.held.held c.put_at.new.self.held c.args.change.now (Ok Taken) c.held-held.ensures.sound
    (change_taken c.self.inside.held.held c.held-held.ensures.sound c.args.change.now (free c).room (free c).valid) (held c)

-- its masks were inserted with it
marks : (c : In_ok-put_at) → c.put_at.new.self.marks ≡ insert c.self.inside.held.marks c.args.change.now.key (fresh c.args.owed)
marks c = (put c).marks ∙ ap (λ (m : Masks). insert c.self.inside.held.marks c.args.change.now.key m) c.fresh.ensures

-- it is owed to those under whose query it is
owes : (c : In_ok-put_at) → c.args.owed ≡ padded (map (watches_item (Changed c.args.change.now)) c.self.inside.subscriptions)
owes c = c.requires.owed ∙ change_view c.self.inside.held c.self.inside.journal c.self.inside.stamp c.self.inside.subscriptions
    c.args.self.now c.self.view_is c.args.change.now

pushed : (c : After-push) → (f : Feed) → Keeps c.self.inside.journal f → Keeps c.push.new.self (feeds.accepts f (Changed c.args.change.now))
pushed c f keeps = subst (λ (x : ChangeRecord). Keeps c.push.new.self (feeds.accepts f (Changed x))) c.again-2.ensures
    (c.push.ensures f keeps)

pub returns-clause-ok : goal.returns-clause-ok
returns-clause-ok c = λ s stands.
    let b = (goal.at.returns-clause-ok c).In_ok-put_at in
    let d = (goal.at.returns-clause-ok c).After-push in
    let old = c.self.inside.held in
    let new = c.put_at.new.self in
    effect old new c.self.inside.journal c.push.new.self c.self.inside.stamp c.self.inside.subscriptions (Changed c.args.change.now)
    c.args.owed (joined b) (ap (λ (h : Holding). h.limits) (held b))
    (change_here old new c.args.change.now c.args.owed c.put_at.ensures.sound (held b) (marks b) (put b).floor_marks)
    (change_kept old new c.args.change.now c.args.owed c.put_at.ensures.sound (held b) (marks b) (put b).floor_marks) (owes b) (pushed d)
    (λ t stood. change_enters (content_of c.self.inside) t c.args.change.now stood (free b)) s
    (subst (λ (v : ContentRecord). ContentStands v s) (sym c.self.view_is) stands)

pub invariant_of-self-2 : goal.invariant_of-self-2
invariant_of-self-2 c =
    let b = (goal.at.invariant_of-self-2 c).In_ok-put_at in
    let d = (goal.at.invariant_of-self-2 c).After-push in
    let old = c.self.inside.held in
    let new = c.put_at.new.self in
    let here = change_here old new c.args.change.now c.args.owed c.put_at.ensures.sound (held b) (marks b) (put b).floor_marks in
    let kept = change_kept old new c.args.change.now c.args.owed c.put_at.ensures.sound (held b) (marks b) (put b).floor_marks in
    let bounds : new.held.limits ≡ old.held.limits = ap (λ (h : Holding). h.limits) (held b) in
    let enters = λ (t : State) (stood : ContentStands (content_of c.self.inside) t).
    change_enters (content_of c.self.inside) t c.args.change.now stood (free b) in
    let stood = c.self.invariant.stood in
    record {
      places = places_then old new c.self.inside.journal c.push.new.self c.self.inside.stamp c.self.inside.subscriptions
          (Changed c.args.change.now) c.args.owed (joined b) bounds here kept (owes b) (pushed d) enters c.self.invariant.places;
      marked = marked_then old new c.self.inside.journal c.push.new.self c.self.inside.stamp c.self.inside.subscriptions
          (Changed c.args.change.now) c.args.owed (joined b) bounds
          here kept (owes b) (pushed d) enters stood.0 stood.1 c.self.invariant.places c.self.invariant.marked;
      pending = subst (λ fs. ArePending new fs) (sym c.add.ensures)
          (pending_then old new c.self.inside.journal c.push.new.self c.self.inside.stamp c.self.inside.subscriptions
          (Changed c.args.change.now) c.args.owed (joined b) bounds
          here kept (owes b) (pushed d) enters stood.0 stood.1 c.self.invariant.places c.self.invariant.marked c.self.inside.pending
          c.self.invariant.pending);
      stood = (
        takes_effect stood.0 (Changed c.args.change.now ∷ []),
        effect old new c.self.inside.journal c.push.new.self c.self.inside.stamp c.self.inside.subscriptions (Changed c.args.change.now)
            c.args.owed (joined b) bounds here kept (owes b) (pushed d) enters stood.0 stood.1,
      );
    }
