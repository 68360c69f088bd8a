-- What gathering did, and why it is refused.
use Rattle.std.proofs.Common.{Result, Ok, Err, OnOk, OnErr, IfOk, IfErr, ◌≡◌, ◌∙◌, ℕ, true, false, sym, ap, subst, inl, inr}
use Rattle.ds_feed.specs.Feed.{Feed}
use Rattle.ds_feed.specs.declared.reading.Since.{Since}
use Rattle.ds_machine.specs.declared.refusal.Refusal.{Refusal}
use Rattle.ds_machine.specs.declared.refusal.Refusal.TheVariants as refusals
use Rattle.ds_content.specs.Content.{ContentRecord}
use Rattle.ds_content.specs.Stands.{InEachState}
use Rattle.fleet_store.specs.Journal.{IsInJournal, IsNewsRefusal, news_after}
use Rattle.c_bridge.specs.Gathering.{Gathers, GathersAll, SettlesNews, IsFoldFault, IsGatherFault, IsNewsFault}
use Rattle.c_bridge.specs.Gathering.{gathered_up_to, is_ahead, is_behind}
use Rattle.c_bridge.specs.declared.bridge.StoreBridge.{StoreBridge}
use Rattle.c_bridge.specs.declared.fault.BridgeFault.{BridgeFault}
use Rattle.c_bridge.specs.declared.fault.BridgeFault.TheVariants as faults

pub gathers_now : (c d : ContentRecord) (old new : StoreBridge) (since : Since) → InEachState c (λ s. since ≡ news_after s.feed old.seen) →
    InEachState c (λ s. IsInJournal s.feed old.seen) → new ≡ gathered_up_to old since.items since.cursor.position →
    InEachState c (λ s. Gathers s d old new)
gathers_now c d old new since given there e s h =
    inl (there s h, e ∙ ap (λ (x : Since). gathered_up_to old x.items x.cursor.position) (given s h))

behind_is : (f : Feed) (at : ℕ) (r : Refusal) → is_behind r ≡ true → IsNewsRefusal f at r → IsNewsRefusal f at refusals.Behind
behind_is f at refusals.Behind e h = h
behind_is f at refusals.NoRoom e h = absurd (let n : false ≡ true = e in cc)
behind_is f at refusals.Ahead e h = absurd (let n : false ≡ true = e in cc)
behind_is f at refusals.BadSub e h = absurd h
behind_is f at refusals.TooMany e h = absurd h
behind_is f at refusals.TooLong e h = absurd h
behind_is f at refusals.BadPattern e h = absurd h
behind_is f at refusals.BadKind e h = absurd h
behind_is f at refusals.BadLabel e h = absurd h
behind_is f at refusals.BadVersion e h = absurd h
behind_is f at refusals.NoCaller e h = absurd h
behind_is f at refusals.NotAllowed e h = absurd h
behind_is f at refusals.NotOwner e h = absurd h
behind_is f at (refusals.Clash v) e h = absurd h
behind_is f at refusals.Stale e h = absurd h
behind_is f at refusals.Exists e h = absurd h
behind_is f at refusals.NotFound e h = absurd h
behind_is f at refusals.OldCursor e h = absurd h
behind_is f at refusals.Full e h = absurd h
behind_is f at refusals.Worn e h = absurd h
behind_is f at refusals.BadRing e h = absurd h
behind_is f at refusals.BadFirst e h = absurd h

pub gathers_all : (c d : ContentRecord) (old new : StoreBridge) (r : Refusal) → InEachState c (λ s. IsNewsRefusal s.feed old.seen r) →
    GathersAll r d old new → InEachState c (λ s. Gathers s d old new)
gathers_all c d old new r refused g s h = inr (behind_is s.feed old.seen r g.0 (refused s h), g.1, g.2)

pub lacks_room : (c : ContentRecord) (old : StoreBridge) → InEachState c (λ s. IsInJournal s.feed old.seen) →
    InEachState c (λ s. IsGatherFault s.feed old faults.NoRoom)
lacks_room c old there s h = inl (there s h)

by_fold : (f : Feed) (old : StoreBridge) (fault : BridgeFault) → IsNewsRefusal f old.seen refusals.Behind → IsFoldFault old fault →
    IsGatherFault f old fault
by_fold f old faults.Busy behind e = (behind, e)
by_fold f old faults.NoRoom behind e = inr (behind, e)
by_fold f old faults.NotUnderWay behind e = absurd e
by_fold f old faults.Ungathered behind e = absurd e
by_fold f old faults.Ahead behind e = absurd e
by_fold f old faults.BadId behind e = absurd e
by_fold f old faults.BadLines behind e = absurd e

by_refusal : (f : Feed) (old : StoreBridge) (r : Refusal) (fault : BridgeFault) → IsNewsRefusal f old.seen r →
    IsNewsFault (is_behind r) (is_ahead r) old fault → IsGatherFault f old fault
by_refusal f old refusals.Behind fault h e = by_fold f old fault h e
by_refusal f old refusals.Ahead fault h e = subst (IsGatherFault f old) (sym e) h
by_refusal f old refusals.NoRoom fault h e = subst (IsGatherFault f old) (sym e) (inl h.0)
by_refusal f old refusals.BadSub fault h e = absurd h
by_refusal f old refusals.TooMany fault h e = absurd h
by_refusal f old refusals.TooLong fault h e = absurd h
by_refusal f old refusals.BadPattern fault h e = absurd h
by_refusal f old refusals.BadKind fault h e = absurd h
by_refusal f old refusals.BadLabel fault h e = absurd h
by_refusal f old refusals.BadVersion fault h e = absurd h
by_refusal f old refusals.NoCaller fault h e = absurd h
by_refusal f old refusals.NotAllowed fault h e = absurd h
by_refusal f old refusals.NotOwner fault h e = absurd h
by_refusal f old (refusals.Clash v) fault h e = absurd h
by_refusal f old refusals.Stale fault h e = absurd h
by_refusal f old refusals.Exists fault h e = absurd h
by_refusal f old refusals.NotFound fault h e = absurd h
by_refusal f old refusals.OldCursor fault h e = absurd h
by_refusal f old refusals.Full fault h e = absurd h
by_refusal f old refusals.Worn fault h e = absurd h
by_refusal f old refusals.BadRing fault h e = absurd h
by_refusal f old refusals.BadFirst fault h e = absurd h

pub refused_by : (c : ContentRecord) (old : StoreBridge) (r : Refusal) (fault : BridgeFault) →
    InEachState c (λ s. IsNewsRefusal s.feed old.seen r) → IsNewsFault (is_behind r) (is_ahead r) old fault →
    InEachState c (λ s. IsGatherFault s.feed old fault)
refused_by c old r fault refused e s h = by_refusal s.feed old r fault (refused s h) e

pub settled : {U : Type 0} (c d : ContentRecord) (old new : StoreBridge) (news : Result Since Refusal) (r : Result U BridgeFault) →
    IfOk news (λ since. InEachState c (λ s. since ≡ news_after s.feed old.seen)) →
    OnOk news (InEachState c (λ s. IsInJournal s.feed old.seen)) →
    IfErr news (λ x. InEachState c (λ s. IsNewsRefusal s.feed old.seen x)) → SettlesNews d old news r new →
    OnOk r (InEachState c (λ s. Gathers s d old new))
settled c d old new (Ok since) (Ok done) given there refused e = gathers_now c d old new since given there e
settled c d old new (Ok since) (Err fault) given there refused e = tt
settled c d old new (Err x) (Ok done) given there refused e = gathers_all c d old new x refused e
settled c d old new (Err x) (Err fault) given there refused e = tt

pub settled_not : {U : Type 0} (c d : ContentRecord) (old new : StoreBridge) (news : Result Since Refusal) (r : Result U BridgeFault) →
    OnOk news (InEachState c (λ s. IsInJournal s.feed old.seen)) →
    IfErr news (λ x. InEachState c (λ s. IsNewsRefusal s.feed old.seen x)) → SettlesNews d old news r new →
    IfErr r (λ fault. InEachState c (λ s. IsGatherFault s.feed old fault))
settled_not c d old new (Ok since) (Ok done) there refused e = tt
settled_not c d old new (Ok since) (Err fault) there refused e =
    subst (λ (f : BridgeFault). InEachState c (λ s. IsGatherFault s.feed old f)) (sym e.0) (lacks_room c old there)
settled_not c d old new (Err x) (Ok done) there refused e = tt
settled_not c d old new (Err x) (Err fault) there refused e = refused_by c old x fault refused e.0

pub settled_same : {U : Type 0} (d : ContentRecord) (old new : StoreBridge) (news : Result Since Refusal) (r : Result U BridgeFault) →
    SettlesNews d old news r new → OnErr r (new ≡ old)
settled_same d old new (Ok since) (Ok done) e = tt
settled_same d old new (Ok since) (Err fault) e = e.1
settled_same d old new (Err x) (Ok done) e = tt
settled_same d old new (Err x) (Err fault) e = e.1
