-- From turns of RS and its store to what a supervisor tells RS.
use Rattle.std.proofs.Common.{◌≡◌, ◌≢◌, ◌&&◌, ℕ, nat_lt, Bool, true, false, not, List, [], ◌∷◌, Option, Some, None, Result, Ok, Err, refl}
use Rattle.std.proofs.Common.{sym, ap, ◌∙◌, subst, inl, inr}
use Rattle.std.proofs.lemmas.Bool.{false≢true, true≢false}
use Rattle.std.proofs.lemmas.Option.{none-some, same_Some}
use Rattle.std.specs.List.{slice_get}
use Rattle.ds_content.specs.Content.{ContentRecord}
use Rattle.ds_machine.specs.declared.reply.Reply.{Reply}
use Rattle.ds_names.specs.Endpoint.{EndpointRecord}
use Rattle.process_keeper.specs.Inputs.{is_accepted}
use Rattle.process_keeper.specs.Order.{TakesAt}
use Rattle.process_keeper.specs.declared.input.Input.TheVariants.{Reported}
use Rattle.process_keeper.specs.declared.keeper.Keeper.{Keeper}
use Rattle.process_keeper.specs.declared.lifecycle.Lifecycle.{Lifecycle}
use Rattle.rs_core.specs.declared.action.Action.{Action}
use Rattle.rs_core.specs.declared.deed.Deed.TheVariants.{Hear}
use Rattle.rs_core.specs.declared.deed.Task.{Task}
use Rattle.rs_core.specs.declared.event.Event.{Event}
use Rattle.rs_core.specs.declared.event.Event.TheVariants.{Beat, Death}
use Rattle.rs_core.specs.declared.fault.RsFault.{RsFault}
use Rattle.rs_core.specs.declared.fault.RsFault.TheVariants as faults
use Rattle.rs_core.specs.declared.plan.Plan.{Plan}
use Rattle.rs_core.specs.declared.state.State.{State}
use Rattle.rs_core.specs.declared.state.State.TheVariants.{Down, Up, Waiting, GaveUp}
use Rattle.rs_settings.specs.declared.service.Service.{Service}
use Rattle.rs_core.specs.Judging.{asks, has_actions, refusal, takes_generation}
use Rattle.rs_core.specs.Machine.{actions_of, asked, of_instance, task}
use Rattle.rs_core.specs.Planning.{IsPlanOf, acts, starts_instance}
use Rattle.rs_core.specs.Reading.{place_of_instance}
use Rattle.rs_core.specs.State.{RsRecord, service_at, state_at}
use Rattle.rs_core.specs.Step.{IsCarriedOut, RsStep}
use Rattle.rs_store.specs.Pair.{PairRecord, pair_of}
use Rattle.rs_store.specs.Serving.{EventTurn, RsRefuses, RsServes, TurnsFor}
use Rattle.rs_store.specs.declared.call.RsReply.{RsReply}
use Rattle.rs_store.specs.declared.call.RsReply.TheVariants.{Replied, NotAllowed, Begun, Exists, NotBegun, Acted, Refused as RefusedReply}
use Rattle.supervisor.specs.Moves.Move.{Report, Tell}
use Rattle.supervisor.specs.Telling.{IsPlanned, IsRefusedBy, Told, is_held, next_after_start}
use Rattle.supervisor.specs.declared.fault.SupervisorFault.{SupervisorFault}
use Rattle.supervisor.specs.declared.fault.SupervisorFault.TheVariants.{NotDead, Refused, Unwritten}
use Rattle.node_supervisor.specs.Moves.{Supervises}
use Rattle.node_supervisor.specs.Telling.{FollowsNode, Holds, IsDeadIn, IsNodeRefusal, IsNodeReportRefused, IsNodeVouchRefused, IsPendingIn}
use Rattle.node_supervisor.specs.Telling.{NoneIsDead, NoneIsPending, ReportTurn, ToldBy, VouchesNode, why_refused, next_start}

-- ---- starts that wait for the file
but_not : (b c : Bool) → c ≡ true → (b && not c) ≡ false
but_not true true e = refl
but_not false true e = refl
but_not b false e = absurd (false≢true e)

pub holds_not_ahead : (o : Option RsRecord) (next file tick : ℕ) (event : Event) → nat_lt next file ≡ true →
    Holds o next file event tick false
holds_not_ahead None next file tick event e = refl
holds_not_ahead (Some rs) next file tick event e =
    λ p h. but_not (starts_instance p) (nat_lt next file) e

abbrev calls_for : Option Task → Result (Option Task) RsFault
calls_for p = Ok p

abbrev task_in : Result (Option Task) RsFault → Option Task
task_in (Ok p) = p
task_in (Err fault) = None

abbrev is_fault : Result (Option Task) RsFault → Bool
is_fault (Ok p) = false
is_fault (Err fault) = true

same_task : (p q : Option Task) → calls_for p ≡ calls_for q → p ≡ q
same_task p q e = ap task_in e

pub holds_by_plan : (o : Option RsRecord) (rs : RsRecord) (next file tick : ℕ) (event : Event) (plan : Plan) (b : Bool) → o ≡ Some rs →
    IsPlanOf rs event tick plan → b ≡ is_held plan next file → Holds o next file event tick b
holds_by_plan o rs next file tick event plan b e h is =
    subst (λ (x : Option RsRecord). Holds x next file event tick b) (sym e) (by_held b is)
  where
    by_held : (b : Bool) → b ≡ is_held plan next file → Holds (Some rs) next file event tick b
    by_held true is = (plan, h, sym is)
    by_held false is = λ p k.
        ap (λ (t : Option Task). asks takes_generation (Ok t) && not (nat_lt next file))
        (same_task p.task plan.task (sym k.called ∙ h.called)) ∙ sym is

pub holds_not_refused : (o : Option RsRecord) (rs : RsRecord) (next file tick : ℕ) (event : Event) (fault : RsFault) → o ≡ Some rs →
    refusal rs event tick ≡ Some fault → Holds o next file event tick false
holds_not_refused o rs next file tick event fault e h =
    subst (λ (x : Option RsRecord). Holds x next file event tick false) (sym e) (λ p k. absurd (none-some fault (sym k.allowed ∙ h)))

pub held_is_refusal : (o : Option RsRecord) (next file tick : ℕ) (event : Event) → Holds o next file event tick true →
    IsNodeRefusal o next file event tick Unwritten
held_is_refusal None next file tick event h = absurd (true≢false h)
held_is_refusal (Some rs) next file tick event h = h

-- ---- refusals
planned : (rs : RsRecord) (event : Event) (tick : ℕ) (r : Result (Option Task) RsFault) → asked rs event tick ≡ r →
    refusal rs event tick ≡ None →
    asks has_actions r ≡ true → IsPlanned acts rs event tick
planned rs event tick (Err fault) e n a = absurd (false≢true a)
planned rs event tick (Ok p) e n a = (record { tick = tick; task = p }, record { allowed = n; called = e; at = refl }, a)

refused_by : (rs : RsRecord) (next file tick : ℕ) (event : Event) (fault : RsFault) → RsRefuses rs event tick fault →
    IsRefusedBy rs next file event tick (Refused fault)
refused_by rs next file tick event faults.NoRoom h = inr (refl, planned rs event tick (asked rs event tick) refl h.0 h.1)
refused_by rs next file tick event faults.TickBack h = inl h
refused_by rs next file tick event faults.Worn h = inl h
refused_by rs next file tick event faults.UnknownLabel h = inl h
refused_by rs next file tick event faults.BadCause h = inl h
refused_by rs next file tick event faults.AlreadyUp h = inl h
refused_by rs next file tick event faults.NotUp h = inl h
refused_by rs next file tick event faults.OldEndpoint h = inl h
refused_by rs next file tick event faults.GenerationsSpent h = inl h
refused_by rs next file tick event faults.NoSlot h = inl h

-- The reply of a turn whose reply has this fault.
refusing : (event : Event) (tick : ℕ) (rs : RsRecord) (old new : ContentRecord) (reply : RsReply) (after : Option RsRecord)
    (fault : RsFault) →
    RsServes event tick rs old reply after new → why_refused reply ≡ Some fault →
    RsRefuses rs event tick fault × (after ≡ Some rs) × (new ≡ old)
refusing event tick rs old new (RefusedReply f) after fault h e =
    subst (λ (x : RsFault). RsRefuses rs event tick x × (after ≡ Some rs) × (new ≡ old)) (same_Some f fault e) h
refusing event tick rs old new (Acted a r g) after fault h e = absurd (none-some fault e)
refusing event tick rs old new (Replied r) after fault h e = absurd h
refusing event tick rs old new NotAllowed after fault h e = absurd h
refusing event tick rs old new (Begun a b) after fault h e = absurd h
refusing event tick rs old new Exists after fault h e = absurd h
refusing event tick rs old new (NotBegun f) after fault h e = absurd h

reply_of_fault : (reply : RsReply) (fault : RsFault) → why_refused reply ≡ Some fault → reply ≡ RefusedReply fault
reply_of_fault (RefusedReply f) fault e = ap RefusedReply (same_Some f fault e)
reply_of_fault (Acted a r g) fault e = absurd (none-some fault e)
reply_of_fault (Replied r) fault e = absurd (none-some fault e)
reply_of_fault NotAllowed fault e = absurd (none-some fault e)
reply_of_fault (Begun a b) fault e = absurd (none-some fault e)
reply_of_fault Exists fault e = absurd (none-some fault e)
reply_of_fault (NotBegun f) fault e = absurd (none-some fault e)

pub turn_is_refusal : (o after : Option RsRecord) (next file tick : ℕ) (event : Event) (old new : ContentRecord) (reply : RsReply)
    (fault : RsFault) →
    EventTurn event tick o old reply after new → Some fault ≡ why_refused reply → IsNodeRefusal o next file event tick (Refused fault)
turn_is_refusal None after next file tick event old new reply fault h e = sym h.0 ∙ reply_of_fault reply fault (sym e)
turn_is_refusal (Some rs) after next file tick event old new reply fault h e =
    refused_by rs next file tick event fault (refusing event tick rs old new reply after fault h (sym e)).0

pub refused_changes_nothing : (a b : PairRecord) (tick : ℕ) (event : Event) (reply : RsReply) (fault : RsFault) →
    EventTurn event tick a.services a.store reply b.services b.store → Some fault ≡ why_refused reply → b ≡ a
refused_changes_nothing a b tick event reply fault h e = by_services a.services refl h
  where
    both : b.services ≡ a.services → b.store ≡ a.store → b ≡ a
    both x y = ap (λ (o : Option RsRecord). pair_of o b.store) x ∙ ap (pair_of a.services) y

    by_services : (o : Option RsRecord) → a.services ≡ o → EventTurn event tick o a.store reply b.services b.store → b ≡ a
    by_services None is h = both (h.1 ∙ sym is) h.2
    by_services (Some rs) is h = let r = refusing event tick rs a.store b.store reply b.services fault h (sym e) in both (r.1 ∙ sym is) r.2

-- ---- what RS is told
acting : (event : Event) (tick : ℕ) (rs : RsRecord) (old new : ContentRecord) (reply : RsReply) (after : Option RsRecord) →
    RsServes event tick rs old reply after new → None ≡ why_refused reply →
    (actions : List Action) × (t : RsRecord) × RsStep rs event tick actions t × (after ≡ Some t) × (replies : List (Option Reply)) ×
    TurnsFor old actions replies new
acting event tick rs old new (Acted a r g) after h e = (a, h.0.0, h.0.1, h.0.2, r, h.1)
acting event tick rs old new (RefusedReply f) after h e = absurd (none-some f e)
acting event tick rs old new (Replied r) after h e = absurd h
acting event tick rs old new NotAllowed after h e = absurd h
acting event tick rs old new (Begun a b) after h e = absurd h
acting event tick rs old new Exists after h e = absurd h
acting event tick rs old new (NotBegun f) after h e = absurd h

told_by_step : (rs t : RsRecord) (next file given tick : ℕ) (event : Event) (actions : List Action) → RsStep rs event tick actions t →
    Holds (Some rs) next file event tick false → given ≡ next_after_start rs.next t.next next file →
    Told rs next file event tick actions t given
told_by_step rs t next file given tick event actions step free counts =
    let p : Plan = record { tick = tick; task = step.0 } in
    let h : IsPlanOf rs event tick p = record { allowed = step.1; called = step.2; at = refl } in
    record { planned = p; of_event = h; written = free p h; step = step; counts = counts }

pub turn_is_told : (o after : Option RsRecord) (next file given tick : ℕ) (event : Event) (old new : ContentRecord) (reply : RsReply) →
    EventTurn event tick o old reply after new → None ≡ why_refused reply → Holds o next file event tick false →
    given ≡ next_after_start (next_start o) (next_start after) next file → ToldBy o next file event tick after given
turn_is_told None after next file given tick event old new reply h e free counts =
    subst (λ (x : Option RsRecord). ToldBy None next file event tick x given) (sym h.1)
    (counts ∙ ap (λ (x : Option RsRecord). next_after_start 0 (next_start x) next file) h.1)
turn_is_told (Some rs) after next file given tick event old new reply h e free counts =
    let a = acting event tick rs old new reply after h e in
    subst (λ (x : Option RsRecord). ToldBy (Some rs) next file event tick x given) (sym a.3) (
      a.0,
      told_by_step rs a.1 next file given tick event a.0 a.2 free
          (counts ∙ ap (λ (x : Option RsRecord). next_after_start rs.next (next_start x) next file) a.3),
    )

-- ---- moves
pub told_is_move : (o after : Option RsRecord) (k l : Keeper) (event : Event) (tick deadline given : ℕ) (mid : List Lifecycle) →
    ToldBy o k.next k.file event tick after given → mid ≡ k.labels.items → FollowsNode after deadline mid l.labels.items → l.next ≡ given →
    l.file ≡ k.file → Supervises o k (Tell event tick deadline) after l
told_is_move None None k l event tick deadline given mid told m f n e = record { labels = f ∙ m; next = n ∙ told; file = e }
told_is_move None (Some t) k l event tick deadline given mid told m f n e = absurd told
told_is_move (Some rs) None k l event tick deadline given mid told m f n e = absurd told
told_is_move (Some rs) (Some t) k l event tick deadline given mid told m f n e = (
  subst (λ (x : ℕ). (actions : List Action) × Told rs k.next k.file event tick actions t x) (sym n) told,
  subst (λ (xs : List Lifecycle). FollowsNode (Some t) deadline xs l.labels.items) m f,
)

took : (labels new : List Lifecycle) (k now : ℕ) (b : Bool) (p : Lifecycle) → slice_get labels k ≡ Some p →
    is_accepted p (Reported 0) ≡ true →
    TakesAt labels k (Reported now) b new → TakesAt labels k (Reported now) true new
took labels new k now true p at a h = h
took labels new k now false p at a h = absurd (true≢false (sym a ∙ h.0 p at))

pub report_is_move : (o after : Option RsRecord) (k l : Keeper) (label cause tick now given : ℕ) (endpoint : EndpointRecord) (b : Bool)
    (mid taken : List Lifecycle) →
    IsDeadIn o k.labels.items label endpoint → ToldBy o k.next k.file (Death endpoint cause) tick after given → mid ≡ k.labels.items →
    TakesAt mid label (Reported now) b taken → FollowsNode after now taken l.labels.items → l.next ≡ given → l.file ≡ k.file →
    Supervises o k (Report label cause tick now) after l
report_is_move None after k l label cause tick now given endpoint b mid taken dead told m t f n e = absurd dead
report_is_move (Some rs) None k l label cause tick now given endpoint b mid taken dead told m t f n e = absurd told
report_is_move (Some rs) (Some s) k l label cause tick now given endpoint b mid taken ((p, at, a), up) told m t f n e = (
  (told.0, (endpoint, up, subst (λ (x : ℕ). Told rs k.next k.file (Death endpoint cause) tick told.0 s x) (sym n) told.1)),
  (taken, took k.labels.items taken label now b p at a (subst (λ (xs : List Lifecycle). TakesAt xs label (Reported now) b taken) m t), f),
)

pub report_turn : (o after : Option RsRecord) (labels : List Lifecycle) (label cause tick : ℕ) (endpoint : EndpointRecord)
    (old new : ContentRecord) (reply : RsReply) →
    IsDeadIn o labels label endpoint → EventTurn (Death endpoint cause) tick o old reply after new →
    ReportTurn o old label cause tick reply after new
report_turn None after labels label cause tick endpoint old new reply dead h = absurd dead
report_turn (Some rs) after labels label cause tick endpoint old new reply dead h = (endpoint, dead.1, h)

pub report_refused : (o : Option RsRecord) (k : Keeper) (label cause tick : ℕ) (endpoint : EndpointRecord) (fault : SupervisorFault) →
    IsDeadIn o k.labels.items label endpoint → IsNodeRefusal o k.next k.file (Death endpoint cause) tick fault →
    IsNodeReportRefused o k label cause tick fault
report_refused None k label cause tick endpoint fault dead h = absurd dead
report_refused (Some rs) k label cause tick endpoint fault dead h = inr (endpoint, dead, h)

pub not_dead : (o : Option RsRecord) (k : Keeper) (label cause tick : ℕ) → NoneIsDead o k.labels.items label →
    IsNodeReportRefused o k label cause tick NotDead
not_dead None k label cause tick h = refl
not_dead (Some rs) k label cause tick h = inl (refl, h)

-- ---- heartbeats
hears_nothing : (s : RsRecord) (service : Service) (st : State) → actions_of s service st Hear ≡ []
hears_nothing s service Down = refl
hears_nothing s service (Up r) = refl
hears_nothing s service (Waiting p) = refl
hears_nothing s service GaveUp = refl

beat_actions : (rs t : RsRecord) (e : EndpointRecord) (tick : ℕ) (actions : List Action) (o : Option ℕ) (p : Option Task) →
    of_instance Hear o ≡ Ok p →
    IsCarriedOut rs tick p actions t → actions ≡ []
beat_actions rs t e tick actions None p is h = absurd (true≢false (ap is_fault is))
beat_actions rs t e tick actions (Some j) p is h =
    by_task p (same_task (Some (task Hear j)) p is) h
  where
    by_task : (p : Option Task) → Some (task Hear j) ≡ p → IsCarriedOut rs tick p actions t → actions ≡ []
    by_task None q h = absurd (none-some (task Hear j) (sym q))
    by_task (Some x) q h =
        h.done ∙ ap (λ (y : Task). actions_of rs (service_at rs y.place) (state_at rs y.place) y.deed) (sym (same_Some (task Hear j) x q)) ∙
        hears_nothing rs (service_at rs j) (state_at rs j)

no_turns : (old new : ContentRecord) (replies : List (Option Reply)) → TurnsFor old [] replies new → new ≡ old
no_turns old new [] h = h
no_turns old new (r ∷ replies) h = absurd h

pub beat_keeps_store : (o after : Option RsRecord) (tick : ℕ) (endpoint : EndpointRecord) (old new : ContentRecord) (reply : RsReply) →
    EventTurn (Beat endpoint) tick o old reply after new → new ≡ old
beat_keeps_store None after tick endpoint old new reply h = h.2
beat_keeps_store (Some rs) after tick endpoint old new reply h = by_fault (why_refused reply) refl
  where
    by_fault : (f : Option RsFault) → f ≡ why_refused reply → new ≡ old
    by_fault (Some fault) e = (refusing (Beat endpoint) tick rs old new reply after fault h (sym e)).2
    by_fault None e =
        let a = acting (Beat endpoint) tick rs old new reply after h e in
        let none : a.0 ≡ [] = beat_actions rs a.1 endpoint tick a.0 (place_of_instance rs endpoint) a.2.0 a.2.2 a.2.3 in
        no_turns old new a.4 (subst (λ (xs : List Action). TurnsFor old xs a.4 new) none a.5)

pub vouched : (o after : Option RsRecord) (labels : List Lifecycle) (label tick : ℕ) (endpoint : EndpointRecord) (old new : ContentRecord)
    (reply : RsReply) →
    IsPendingIn o labels label endpoint → EventTurn (Beat endpoint) tick o old reply after new → None ≡ why_refused reply →
    VouchesNode o labels label tick true after
vouched None after labels label tick endpoint old new reply h turn e = absurd h
vouched (Some rs) after labels label tick endpoint old new reply (accepts, up) turn e =
    let a = acting (Beat endpoint) tick rs old new reply after turn e in
    subst (λ (x : Option RsRecord). VouchesNode (Some rs) labels label tick true x) (sym a.3) (accepts, (endpoint, up, (a.0, a.2)))

pub not_vouched : (o : Option RsRecord) (labels : List Lifecycle) (label tick : ℕ) → NoneIsPending o labels label →
    VouchesNode o labels label tick false o
not_vouched None labels label tick h = refl
not_vouched (Some rs) labels label tick h = (h, refl)

abbrev is_room : RsFault → Bool
is_room faults.NoRoom = true
is_room _ = false

abbrev SaysWhy : RsRecord → Event → ℕ → RsFault → Type 0
SaysWhy rs event tick fault =
    (fault ≢ faults.NoRoom → refusal rs event tick ≡ Some fault) × (fault ≡ faults.NoRoom → asks has_actions (asked rs event tick) ≡ true)

other_fault : (fault : RsFault) → is_room fault ≡ false → fault ≡ faults.NoRoom → ⊥
other_fault fault n e = false≢true (sym n ∙ ap is_room e)

other_says : (rs : RsRecord) (event : Event) (tick : ℕ) (fault : RsFault) → is_room fault ≡ false → refusal rs event tick ≡ Some fault →
    SaysWhy rs event tick fault
other_says rs event tick fault n h = ((λ m. h), (λ e. absurd (other_fault fault n e)))

says_why : (rs : RsRecord) (event : Event) (tick : ℕ) (fault : RsFault) → RsRefuses rs event tick fault → SaysWhy rs event tick fault
says_why rs event tick faults.NoRoom h = ((λ n. absurd (n refl)), (λ e. h.1))
says_why rs event tick faults.TickBack h = other_says rs event tick faults.TickBack refl h
says_why rs event tick faults.Worn h = other_says rs event tick faults.Worn refl h
says_why rs event tick faults.UnknownLabel h = other_says rs event tick faults.UnknownLabel refl h
says_why rs event tick faults.BadCause h = other_says rs event tick faults.BadCause refl h
says_why rs event tick faults.AlreadyUp h = other_says rs event tick faults.AlreadyUp refl h
says_why rs event tick faults.NotUp h = other_says rs event tick faults.NotUp refl h
says_why rs event tick faults.OldEndpoint h = other_says rs event tick faults.OldEndpoint refl h
says_why rs event tick faults.GenerationsSpent h = other_says rs event tick faults.GenerationsSpent refl h
says_why rs event tick faults.NoSlot h = other_says rs event tick faults.NoSlot refl h

pub vouch_refused : (o after : Option RsRecord) (labels : List Lifecycle) (label tick : ℕ) (endpoint : EndpointRecord)
    (old new : ContentRecord) (reply : RsReply)
    (fault : RsFault) → IsPendingIn o labels label endpoint → EventTurn (Beat endpoint) tick o old reply after new →
    Some fault ≡ why_refused reply →
    IsNodeVouchRefused o label tick (Refused fault)
vouch_refused None after labels label tick endpoint old new reply fault h turn e = absurd h
vouch_refused (Some rs) after labels label tick endpoint old new reply fault h turn e =
    let r = refusing (Beat endpoint) tick rs old new reply after fault turn (sym e) in
    let s = says_why rs (Beat endpoint) tick fault r.0 in
    (endpoint, h.1, (fault, refl, s.0, s.1))

-- ---- the same, by what a body has at hand
pub ahead_holds_not : (rs : RsRecord) (next file tick : ℕ) (event : Event) (b : Bool) → b ≡ nat_lt next file → b ≡ true →
    Holds (Some rs) next file event tick false
ahead_holds_not rs next file tick event b e is = holds_not_ahead (Some rs) next file tick event (sym e ∙ is)

pub plan_holds : (rs : RsRecord) (next file tick : ℕ) (event : Event) (plan : Plan) (b : Bool) → IsPlanOf rs event tick plan →
    b ≡ is_held plan next file → Holds (Some rs) next file event tick b
plan_holds rs next file tick event plan b h is = holds_by_plan (Some rs) rs next file tick event plan b refl h is

pub refused_holds_not : (rs : RsRecord) (next file tick : ℕ) (event : Event) (fault : RsFault) → refusal rs event tick ≡ Some fault →
    Holds (Some rs) next file event tick false
refused_holds_not rs next file tick event fault h = holds_not_refused (Some rs) rs next file tick event fault refl h

pub held : (o : Option RsRecord) (next file tick : ℕ) (event : Event) (b : Bool) → Holds o next file event tick b → b ≡ true →
    IsNodeRefusal o next file event tick Unwritten
held o next file tick event b h e = held_is_refusal o next file tick event (subst (λ (x : Bool). Holds o next file event tick x) e h)

pub refused : (o after : Option RsRecord) (next file tick : ℕ) (event : Event) (old new : ContentRecord) (reply : RsReply) (fault : RsFault)
    (r : Option RsFault) → EventTurn event tick o old reply after new → r ≡ why_refused reply → r ≡ Some fault →
    IsNodeRefusal o next file event tick (Refused fault)
refused o after next file tick event old new reply fault r h e is =
    turn_is_refusal o after next file tick event old new reply fault h (sym is ∙ e)

pub unchanged : (a b : PairRecord) (tick : ℕ) (event : Event) (reply : RsReply) (fault : RsFault) (r : Option RsFault) →
    EventTurn event tick a.services a.store reply b.services b.store → r ≡ why_refused reply → r ≡ Some fault → b ≡ a
unchanged a b tick event reply fault r h e is = refused_changes_nothing a b tick event reply fault h (sym is ∙ e)

pub told : (o after : Option RsRecord) (next file given tick before later : ℕ) (event : Event) (old new : ContentRecord) (reply : RsReply)
    (r : Option RsFault) (b : Bool) → EventTurn event tick o old reply after new → r ≡ why_refused reply → r ≡ None →
    Holds o next file event tick b → b ≡ false → before ≡ next_start o → later ≡ next_start after →
    given ≡ next_after_start before later next file → ToldBy o next file event tick after given
told o after next file given tick before later event old new reply r b h e is free not_held was comes counts =
    turn_is_told o after next file given tick event old new reply h (sym is ∙ e)
    (subst (λ (x : Bool). Holds o next file event tick x) not_held free)
    (counts ∙ ap (λ (n : ℕ). next_after_start n later next file) was ∙ ap (λ (n : ℕ). next_after_start (next_start o) n next file) comes)

pub told_moves : (o after : Option RsRecord) (k m l : Keeper) (event : Event) (tick deadline : ℕ) →
    ToldBy o k.next k.file event tick after m.next →
    m.labels.items ≡ k.labels.items → m.file ≡ k.file → FollowsNode after deadline m.labels.items l.labels.items → l.next ≡ m.next →
    l.file ≡ m.file → Supervises o k (Tell event tick deadline) after l
told_moves o after k m l event tick deadline told same file f n e =
    told_is_move o after k l event tick deadline m.next m.labels.items told same f n (e ∙ file)

pub report_moves : (o after : Option RsRecord) (k m j l : Keeper) (label cause tick now : ℕ) (endpoint : EndpointRecord) (b : Bool) →
    IsDeadIn o k.labels.items label endpoint → ToldBy o k.next k.file (Death endpoint cause) tick after m.next →
    m.labels.items ≡ k.labels.items → m.file ≡ k.file → TakesAt m.labels.items label (Reported now) b j.labels.items →
    (j.next ≡ m.next) × (j.file ≡ m.file) → FollowsNode after now j.labels.items l.labels.items → l.next ≡ j.next → l.file ≡ j.file →
    Supervises o k (Report label cause tick now) after l
report_moves o after k m j l label cause tick now endpoint b dead told same file t kept f n e =
    report_is_move o after k l label cause tick now m.next endpoint b m.labels.items j.labels.items dead told same t f (n ∙ kept.0)
    (e ∙ kept.1 ∙ file)

pub heard : (o after : Option RsRecord) (labels : List Lifecycle) (label tick : ℕ) (endpoint : EndpointRecord) (old new : ContentRecord)
    (reply : RsReply) (r : Option RsFault) → IsPendingIn o labels label endpoint → EventTurn (Beat endpoint) tick o old reply after new →
    r ≡ why_refused reply → r ≡ None → VouchesNode o labels label tick true after
heard o after labels label tick endpoint old new reply r h turn e is =
    vouched o after labels label tick endpoint old new reply h turn (sym is ∙ e)

pub refuses_beat : (o after : Option RsRecord) (labels : List Lifecycle) (label tick : ℕ) (endpoint : EndpointRecord)
    (old new : ContentRecord)
    (reply : RsReply) (fault : RsFault) (r : Option RsFault) → IsPendingIn o labels label endpoint →
    EventTurn (Beat endpoint) tick o old reply after new → r ≡ why_refused reply → r ≡ Some fault →
    IsNodeVouchRefused o label tick (Refused fault)
refuses_beat o after labels label tick endpoint old new reply fault r h turn e is =
    vouch_refused o after labels label tick endpoint old new reply fault h turn (sym is ∙ e)
