-- How an account grows: what events of the world bring in was all made.
use Rattle.std.proofs.Common.{◌≡◌, false, List, [], ◌∷◌, ◌++◌, Option, Some, None, refl, sym, subst, inl, inr, ◌⊎◌, Contains}
use Rattle.std.proofs.lemmas.List.Elements.{Contains-append_left, Contains-append_cases}
use Rattle.ds_entry.specs.Change.{ChangeRecord}
use Rattle.ds_entry.specs.declared.item.Item.{Item}
use Rattle.ds_entry.specs.declared.item.Item.TheVariants.{Change as Changed}
use Rattle.ds_entry.proofs.Members.{In, Contains-nil}
use Rattle.ds_machine.specs.State.{State}
use Rattle.ds_machine.specs.Machine.{outcome, Step}
use Rattle.ds_machine.specs.Effect.{learnt_by}
use Rattle.ds_machine.specs.declared.command.Command.{Command}
use Rattle.ds_machine.specs.declared.command.Command.TheVariants.{Publish, Delete, Sweep, Merge}
use Rattle.ds_machine.specs.declared.reply.Reply.{Reply}
use Rattle.ds_replica.specs.Sent.{Sent}
use Rattle.ds_replica.specs.declared.event.Side.{Side}
use Rattle.ds_replica.specs.declared.event.Side.TheVariants.{A, B}
use Rattle.ds_replica.specs.declared.event.Holder.{Holder}
use Rattle.ds_replica.specs.declared.event.Holder.TheVariants.{Store, Map}
use Rattle.ds_replica.specs.declared.event.Event.{Event}
use Rattle.ds_replica.specs.declared.event.Event.TheVariants.{Ask, NewMap, Deliver, ClearMap, RestartStore}
use Rattle.ds_replica.specs.declared.outcome.Outcome.{Outcome}
use Rattle.ds_replica.specs.declared.outcome.Outcome.TheVariants.{Replied, Made, MapMade, Merged, Stopped, Cleared, Restarted}
use Rattle.ds_replica.specs.World.{World, store_at}
use Rattle.ds_replica.specs.Happens.{items_given, ask_outcome, Asks, Happens, HappenAll}
use Rattle.ds_replica.specs.Known.{StoreAccount, Account, store_of, with_account, delivered, sent_first, extended, extended_all}
use Rattle.ds_replica.specs.Fits.{Fits}
use Rattle.ds_replica.proofs.FitLemmas.{store_fits}
use Rattle.ds_replica.proofs.EventLemmas.{event_fits}
use Rattle.ds_system.specs.Steps.{WorldEvents, asks_replied, is_bringing, is_barred}
use Rattle.ds_system.proofs.Kept.{AreAllMade}
use Rattle.ds_system.proofs.BringLemmas.{BringsMade, known_within}

-- ---- what one event brings in
-- an Ask brings in what its store learns, other events nothing
abbrev IsLearnt : Account → Event → Outcome → Item → Type 0
IsLearnt account (Ask side command) (Replied reply) i = Contains (learnt_by (store_of account side).state command reply) i
IsLearnt account (Ask side command) (Made k) i =
    Contains (learnt_by (store_of account side).state command (outcome (store_of account side).state command).0) i
IsLearnt account event out i = ⊥

left_by_store : (account : Account) (side : Side) (x : StoreAccount) → (with_account account side x).brought ≡ account.brought
left_by_store account A x = refl
left_by_store account B x = refl

left_by_delivery : (account : Account) (holder : Holder) (items : List Sent) → (delivered account holder items).brought ≡ account.brought
left_by_delivery account (Store side) items = left_by_store account side _
left_by_delivery account (Map j) items = refl

-- nothing else is brought in
abbrev Brings : Account → Event → Outcome → Type 0
Brings account event out = (i : Item) → Contains (extended account event out).brought i →
    Contains account.brought i ⊎ IsLearnt account event out i

as_before : (account : Account) (event : Event) (out : Outcome) → (extended account event out).brought ≡ account.brought →
    Brings account event out
as_before account event out e i h = inl (subst (λ (z : List Item). Contains z i) e h)

event_brings : (account : Account) (event : Event) (out : Outcome) → Brings account event out
event_brings account (Ask side command) (Replied reply) i h =
    Contains-append_cases account.brought (learnt_by (store_of account side).state command reply) i h
event_brings account (Ask side command) (Made k) i h =
    Contains-append_cases account.brought (learnt_by (store_of account side).state command
    (outcome (store_of account side).state command).0) i h
event_brings account (Ask side command) _ i h = inl h
event_brings account (NewMap query) (MapMade j) i h = inl h
event_brings account (NewMap query) _ i h = inl h
event_brings account (Deliver k holder count) (Merged counted owed) i h =
    as_before account (Deliver k holder count) (Merged counted owed) (left_by_delivery account holder (sent_first account k counted.done))
    i h
event_brings account (Deliver k holder count) (Stopped done fault owed) i h =
    as_before account (Deliver k holder count) (Stopped done fault owed) (left_by_delivery account holder (sent_first account k done)) i h
event_brings account (Deliver k holder count) _ i h = inl h
event_brings account (ClearMap j) Cleared i h = inl h
event_brings account (ClearMap j) _ i h = inl h
event_brings account (RestartStore side incarnation) Restarted i h =
    as_before account (RestartStore side incarnation) Restarted (left_by_store account side _) i h
event_brings account (RestartStore side incarnation) _ i h = inl h

-- ---- events that bring in only what was made
-- an Ask with its reply is a step of the account's store
asked_step : (account : Account) (w new : World) (side : Side) (command : Command) (reply : Reply) → Fits account w →
    Happens w (Ask side command) (Replied reply) new → (t : State) × Step (store_of account side).state command reply t
asked_step account w new side command reply f h = by (items_given asks.reply) asks.outcome_is
  where
    asks : Asks w side command (Replied reply) new
    asks = h.1

    replied : (x y : Reply) → Replied x ≡ Replied y → x ≡ y
    replied x y e = cc

    by : (o : Option (List Item)) → Replied reply ≡ ask_outcome w asks.reply o →
        (t : State) × Step (store_of account side).state command reply t
    by (Some items) e = cc
    by None e = (
      asks.after,
      subst (λ (s : State). Step s command reply asks.after) (sym (store_fits account w side f).state_is)
          (subst (λ (x : Reply). Step (store_at w side) command x asks.after) (sym (replied reply asks.reply e)) asks.step),
    )

pub ask_made : (made : List ChangeRecord) (account : Account) (w new : World) (side : Side) (command : Command) (reply : Reply) →
    Fits account w → AreAllMade made account → BringsMade made (store_of account side).state command
    → Happens w (Ask side command) (Replied reply) new → AreAllMade made (extended account (Ask side command) (Replied reply))
ask_made made account w new side command reply f all brings h c k =
    elim (event_brings account (Ask side command) (Replied reply) (Changed c) k) [
      | inl l ↦ all c l
      | inr l ↦ (let s = asked_step account w new side command reply f h in brings s.0 reply s.1 c l)
    ]

nothing_learnt : (s : State) (command : Command) (reply : Reply) (i : Item) → is_bringing command ≡ false →
    Contains (learnt_by s command reply) i → ⊥
nothing_learnt s (Publish caller key version value overwrite) reply i e h = cc
nothing_learnt s (Delete caller key version) reply i e h = cc
nothing_learnt s (Sweep caller owner generation) reply i e h = cc
nothing_learnt s (Merge items) reply i e h = cc
nothing_learnt s command reply i e h = Contains-nil i (known_within reply [] i h)

pub allowed_made : (made : List ChangeRecord) (account : Account) (event : Event) (out : Outcome) → is_barred event ≡ false →
    AreAllMade made account → AreAllMade made (extended account event out)
allowed_made made account event out e all c k =
    elim (event_brings account event out (Changed c) k) [ inl l ↦ all c l | inr l ↦ absurd (none event out e l) ]
  where
    none : (event : Event) (out : Outcome) → is_barred event ≡ false → IsLearnt account event out (Changed c) → ⊥
    none (Ask side command) (Replied reply) e l = nothing_learnt (store_of account side).state command reply (Changed c) e l
    none (Ask side command) (Made j) e l = nothing_learnt (store_of account side).state command
        (outcome (store_of account side).state command).0 (Changed c) e l
    none event out e l = l

-- commands in sequence
pub asks_made : (made : List ChangeRecord) (side : Side) (commands : List Command) (replies : List Reply) (account : Account)
    (w new : World) → Fits account w → AreAllMade made account
    → ((command : Command) → In command commands → (s : State) → BringsMade made s command) →
    HappenAll w (asks_replied side commands replies) new → AreAllMade made (extended_all account (asks_replied side commands replies))
asks_made made side [] replies account w new f all brings h = all
asks_made made side (x ∷ xs) [] account w new f all brings h = all
asks_made made side (x ∷ xs) (r ∷ rs) account w new f all brings h =
    asks_made made side xs rs (extended account (Ask side x) (Replied r)) h.0 new (event_fits account w h.0 (Ask side x) (Replied r) f h.1)
    (ask_made made account w h.0 side x r f all (brings x (inl refl) (store_of account side).state) h.1)
    (λ y i. brings y (inr i)) h.2

-- ---- events of two lists
pub extended_twice : (account : Account) (xs ys : WorldEvents) → extended_all account (xs ++ ys) ≡ extended_all (extended_all account xs) ys
extended_twice account [] ys = refl
extended_twice account (x ∷ xs) ys = extended_twice (extended account x.0 x.1) xs ys

-- what was brought in stays brought in
still_brought : (account : Account) (event : Event) (out : Outcome) (i : Item) → Contains account.brought i →
    Contains (extended account event out).brought i
still_brought account (Ask side command) (Replied reply) i h =
    Contains-append_left account.brought (learnt_by (store_of account side).state command reply) i h
still_brought account (Ask side command) (Made k) i h =
    Contains-append_left account.brought (learnt_by (store_of account side).state command
    (outcome (store_of account side).state command).0) i h
still_brought account (Ask side command) _ i h = h
still_brought account (NewMap query) (MapMade j) i h = h
still_brought account (NewMap query) _ i h = h
still_brought account (Deliver k holder count) (Merged counted owed) i h =
    subst (λ (z : List Item). Contains z i) (sym (left_by_delivery account holder (sent_first account k counted.done))) h
still_brought account (Deliver k holder count) (Stopped done fault owed) i h =
    subst (λ (z : List Item). Contains z i) (sym (left_by_delivery account holder (sent_first account k done))) h
still_brought account (Deliver k holder count) _ i h = h
still_brought account (ClearMap j) Cleared i h = h
still_brought account (ClearMap j) _ i h = h
still_brought account (RestartStore side incarnation) Restarted i h =
    subst (λ (z : List Item). Contains z i) (sym (left_by_store account side _)) h
still_brought account (RestartStore side incarnation) _ i h = h

pub all_brought : (account : Account) (events : WorldEvents) (i : Item) → Contains account.brought i →
    Contains (extended_all account events).brought i
all_brought account [] i h = h
all_brought account (e ∷ es) i h = all_brought (extended account e.0 e.1) es i (still_brought account e.0 e.1 i h)
