-- A store's turns in a list of events.
use Rattle.std.proofs.Common.{◌≡◌, ℕ, true, false, List, [], ◌∷◌, ◌++◌, Option, Some, None, refl, ap, sym, ◌∙◌, subst}
use Rattle.std.specs.List.{list_any}
use Rattle.ds_entry.specs.declared.item.Item.{Item}
use Rattle.ds_replica.proofs.WholeLemmas as wholes
use Rattle.ds_machine.specs.State.{State}
use Rattle.ds_machine.specs.Machine.{Step, Run}
use Rattle.ds_machine.specs.Effect.{GoesOn}
use Rattle.ds_machine.specs.declared.command.Command.{Command}
use Rattle.ds_machine.specs.declared.command.Command.TheVariants.{Merge}
use Rattle.ds_machine.specs.declared.reply.Reply.{Reply}
use Rattle.ds_machine.specs.declared.reply.Reply.TheVariants.{Merged, MergeStopped, Refused as Refusing}
use Rattle.ds_machine.proofs.KnownLemmas.{runs_go_on}
use Rattle.ds_replica.specs.Growth.{LaterIsFront}
use Rattle.ds_replica.specs.declared.event.Side.{Side}
use Rattle.ds_replica.specs.declared.event.Side.TheVariants.{A, B}
use Rattle.ds_replica.specs.declared.event.Holder.{Holder}
use Rattle.ds_replica.specs.declared.event.Holder.TheVariants.{Store, Map}
use Rattle.ds_replica.specs.declared.event.Event.{Event}
use Rattle.ds_replica.specs.declared.event.Event.TheVariants.{Ask, NewMap, Deliver, ClearMap, RestartStore}
use Rattle.ds_replica.specs.declared.outcome.Outcome.{Outcome}
use Rattle.ds_replica.specs.declared.outcome.Outcome.TheVariants.{Refused, Restarted}
use Rattle.ds_replica.specs.World.{World, MapState, store_at, with_state, with_items}
use Rattle.ds_replica.specs.Delivery.{Tally, OthersFollow, GroupsAreMerged}
use Rattle.ds_replica.specs.Happens.{Asks, IsDelivered, reopened, Happens, HappenAll}
use Rattle.ds_replica.specs.Known.{Account, store_of, extended_all}
use Rattle.ds_replica.specs.Fits.{Fits}
use Rattle.ds_replica.specs.Turns.{is_side, empties_by, empties, Stays, TurnsAreRunInWorlds, WholeStaysInWorlds}
use Rattle.ds_replica.proofs.FitLemmas.{store_fits}
use Rattle.ds_replica.proofs.EventLemmas.{events_fit}
use Rattle.std.proofs.lemmas.Bool.{or_parts}

-- ---- runs
-- some run leads from one state to the other
abbrev pub Ran : State → State → Type 0
Ran s t = (commands : List Command) × (replies : List Reply) × Run s commands replies t

ran_same : (s t : State) → t ≡ s → Ran s t
ran_same s t e = ([], [], e)

ran_one : (s t : State) (command : Command) (reply : Reply) → Step s command reply t → Ran s t
ran_one s t command reply step = (command ∷ [], reply ∷ [], (t, step, refl))

run_append : (s m t : State) (cs : List Command) (rs : List Reply) (ds : List Command) (qs : List Reply) → Run s cs rs m → Run m ds qs t →
    Run s (cs ++ ds) (rs ++ qs) t
run_append s m t [] [] ds qs h k = subst (λ (x : State). Run x ds qs t) h k
run_append s m t (c ∷ cs) (r ∷ rs) ds qs h k = (h.0, h.1, run_append h.0 m t cs rs ds qs h.2 k)
run_append s m t [] (r ∷ rs) ds qs h k = absurd h
run_append s m t (c ∷ cs) [] ds qs h k = absurd h

ran_on : (s m t : State) → Ran s m → Ran m t → Ran s t
ran_on s m t h k = (h.0 ++ k.0, h.1 ++ k.1, run_append s m t h.0 h.1 k.0 k.1 h.2 k.2)

-- ---- Merges of groups
followed : (s mid new : State) (group : List Item) (Others : Tally → State → Type 0) (reply : Reply) (tally : Tally) →
    ((later : Tally) → Others later new → Ran mid new) →
    Step s (Merge group) reply mid → OthersFollow reply mid Others tally new → Ran s new
followed s mid new group Others (Merged done taken stale owed) tally others step f =
    ran_on s mid new (ran_one s mid (Merge group) (Merged done taken stale owed) step) (others f.0 f.1)
followed s mid new group Others (MergeStopped done fault owed) tally others step f =
    ran_on s mid new (ran_one s mid (Merge group) (MergeStopped done fault owed) step) (ran_same mid new f.1)
followed s mid new group Others (Refusing fault) tally others step f =
    ran_on s mid new (ran_one s mid (Merge group) (Refusing fault) step) (ran_same mid new f.1)
followed s mid new group Others _ tally others step f = absurd f

merges_ran : (groups : List (List Item)) (s new : State) (tally : Tally) → GroupsAreMerged s groups tally new → Ran s new
merges_ran [] s new tally m = ran_same s new m.1
merges_ran (group ∷ groups) s new tally m =
    followed s m.1 new group (λ t n. GroupsAreMerged m.1 groups t n) m.0 tally (λ later a. merges_ran groups m.1 new later a) m.2 m.3

-- ---- events
pub items_store : (w : World) (o : Option (List Item)) (side : Side) → store_at (with_items w o) side ≡ store_at w side
items_store w None side = refl
items_store w (Some items) A = refl
items_store w (Some items) B = refl

pub maps_store : (w : World) (maps : List MapState) (side : Side) → store_at (record w { maps = maps }) side ≡ store_at w side
maps_store w maps A = refl
maps_store w maps B = refl

put_ran : (w : World) (s side : Side) (t : State) → Ran (store_at w s) t → Ran (store_at w side) (store_at (with_state w s t) side)
put_ran w A A t r = r
put_ran w A B t r = ran_same w.b w.b refl
put_ran w B A t r = ran_same w.a w.a refl
put_ran w B B t r = r

module _ (w new : World) (side : Side) where
  still : new ≡ w → Ran (store_at w side) (store_at new side)
  still e = ran_same (store_at w side) (store_at new side) (ap (λ (x : World). store_at x side) e)

  maps_still : (maps : List MapState) → new ≡ record w { maps = maps } → Ran (store_at w side) (store_at new side)
  maps_still maps e = ran_same (store_at w side) (store_at new side) (ap (λ (x : World). store_at x side) e ∙ maps_store w maps side)

  asks_ran : (s : Side) (command : Command) (out : Outcome) → Asks w s command out new → Ran (store_at w side) (store_at new side)
  asks_ran s command out h =
      subst (Ran (store_at w side)) (sym (ap (λ (x : World). store_at x side) h.world_is ∙ items_store (with_state w s h.after) _ side))
      (put_ran w s side h.after (ran_one (store_at w s) h.after command h.reply h.step))

  taken_ran : (holder : Holder) (items : List Item) (tally : Tally) → IsDelivered w holder items tally new →
      Ran (store_at w side) (store_at new side)
  taken_ran (Store s) items tally h =
      subst (Ran (store_at w side)) (sym (ap (λ (x : World). store_at x side) h.world_is))
      (put_ran w s side h.after (merges_ran h.takes.groups (store_at w s) h.after tally h.takes.merged))
  taken_ran (Map j) items tally h = maps_still _ h.world_is

  restarts_ran : (s : Side) (incarnation : ℕ) → is_side s side ≡ false → new ≡ with_state w s (reopened (store_at w s) incarnation) →
      Ran (store_at w side) (store_at new side)
  restarts_ran s incarnation e q = subst (Ran (store_at w side)) (sym (ap (λ (x : World). store_at x side) q)) (other s side e)
    where
      other : (s side : Side) → is_side s side ≡ false →
          Ran (store_at w side) (store_at (with_state w s (reopened (store_at w s) incarnation)) side)
      other A A e = absurd (let n : true ≡ false = e in cc)
      other A B e = ran_same w.b w.b refl
      other B A e = ran_same w.a w.a refl
      other B B e = absurd (let n : true ≡ false = e in cc)

restart_stays : (side s : Side) (incarnation : ℕ) (out : Outcome) → out ≡ Restarted →
    empties_by (Store side) (RestartStore s incarnation) out ≡ false → is_side s side ≡ false
restart_stays side s incarnation out e q = sym (ap (empties_by (Store side) (RestartStore s incarnation)) e) ∙ q

event_ran : (w new : World) (side : Side) (event : Event) (out : Outcome) → Happens w event out new →
    empties_by (Store side) event out ≡ false → Ran (store_at w side) (store_at new side)
event_ran w new side (Ask s command) (Refused fault) h e = still w new side h.1
event_ran w new side (Ask s command) out h e = asks_ran w new side s command out h.1
event_ran w new side (NewMap query) (Refused fault) h e = still w new side h.1
event_ran w new side (NewMap query) out h e = maps_still w new side _ h.1.world_is
event_ran w new side (Deliver k holder count) (Refused fault) h e = still w new side h.1
event_ran w new side (Deliver k holder count) out h e = taken_ran w new side holder _ h.1.tally h.1.taken
event_ran w new side (ClearMap j) (Refused fault) h e = still w new side h.1
event_ran w new side (ClearMap j) out h e = maps_still w new side _ h.1.world_is
event_ran w new side (RestartStore s incarnation) (Refused fault) h e = still w new side h.1
event_ran w new side (RestartStore s incarnation) out h e =
    restarts_ran w new side s incarnation (restart_stays side s incarnation out h.1.outcome_is e) h.1.world_is

pub turns_are_run : TurnsAreRunInWorlds
turns_are_run old new side [] h e = ran_same (store_at old side) (store_at new side) (ap (λ (x : World). store_at x side) h)
turns_are_run old new side (x ∷ events) h e =
    let n = or_parts (empties (Store side) x) (list_any (empties (Store side)) events) e in
    ran_on (store_at old side) (store_at h.0 side) (store_at new side) (event_ran old h.0 side x.0 x.1 h.1 n.0)
    (turns_are_run h.0 new side events h.2 n.1)

-- ---- what lasts
-- the store grows, as the account has it
pub goes_on : (account : Account) (old new : World) (side : Side) (events : List (Event × Outcome)) → Fits account old →
    HappenAll old events new → Stays (Store side) events
    → GoesOn (store_of account side).state (store_of (extended_all account events) side).state
goes_on account old new side events f h e =
    let ran = turns_are_run old new side events h e in
    let here = store_fits account old side f in
    let there = store_fits (extended_all account events) new side (events_fit account old new events f h) in
    subst (λ (x : State). GoesOn x (store_of (extended_all account events) side).state) (sym here.state_is)
    (subst (GoesOn (store_at old side)) (sym there.state_is)
    (runs_go_on (store_at old side) (store_at new side) ran.0 ran.1 here.reached ran.2))

pub front_of : LaterIsFront
front_of s t g = record { incarnation = g.incarnation; first = g.first; grown = (g.grown.0, g.grown.2) }

pub whole_stays : WholeStaysInWorlds
whole_stays account old new side events query items r f h e l whole =
    wholes.whole_stays (store_of account side).state.feed (store_of (extended_all account events) side).state.feed query items r
    (front_of (store_of account side).state (store_of (extended_all account events) side).state
    (goes_on account old new side events f h e)) l whole
