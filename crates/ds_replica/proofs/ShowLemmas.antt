-- What one event shows to a subscription.
use Rattle.std.proofs.Common.{◌≡◌, ◌==◌, ℕ, Bool, true, false, ◌&&◌, cond, List, [], ◌∷◌, ◌++◌, length, Option, Some, None, refl, ap, sym}
use Rattle.std.proofs.Common.{◌∙◌, subst, inl, inr, append-nil}
use Rattle.std.proofs.lemmas.Bool.Decides.{eqb_tells}
use Rattle.ds_entry.specs.declared.item.Item.{Item}
use Rattle.ds_pattern.specs.declared.query.Query.{Query}
use Rattle.ds_replica.specs.Sent.{Sent, given}
use Rattle.ds_replica.specs.Taking.{items_of}
use Rattle.ds_machine.specs.State.{State, subscription_at}
use Rattle.ds_machine.specs.Machine.{Step}
use Rattle.ds_machine.specs.Reached.{IsReached}
use Rattle.ds_machine.specs.Effect.{uses}
use Rattle.ds_machine.specs.declared.command.Command.{Command}
use Rattle.ds_machine.specs.declared.command.Command.TheVariants.{Subscribe, Check, Merge}
use Rattle.ds_machine.specs.declared.reply.Reply.{Reply}
use Rattle.ds_machine.specs.declared.reply.Reply.TheVariants.{Subscribed, Merged, MergeStopped, Refused}
use Rattle.ds_machine.proofs.KnownLemmas.{steps_stay_reached}
use Rattle.ds_replica.specs.declared.event.Side.{Side}
use Rattle.ds_replica.specs.declared.event.Holder.{Holder}
use Rattle.ds_replica.specs.declared.event.Holder.TheVariants.{Store, Map}
use Rattle.ds_replica.specs.declared.event.Event.{Event}
use Rattle.ds_replica.specs.declared.event.Event.TheVariants.{Ask, NewMap, Deliver, ClearMap, RestartStore}
use Rattle.ds_replica.specs.declared.outcome.Outcome.{Outcome}
use Rattle.ds_replica.specs.declared.outcome.Outcome.TheVariants.{Replied, Made, Refused as Refusing}
use Rattle.ds_replica.specs.declared.outcome.EventFault.{EventFault}
use Rattle.ds_replica.specs.World.{MapState, World, store_at, with_state}
use Rattle.ds_replica.specs.Delivery.{Tally, OthersFollow, GroupsAreMerged}
use Rattle.ds_replica.specs.Happens.{items_given, event_fault, ask_outcome, Asks, IsDelivered, reopened, Happens}
use Rattle.ds_replica.specs.Known.{Account, store_of, message_items, extended}
use Rattle.ds_replica.specs.Fits.{Fits}
use Rattle.ds_replica.specs.Turns.{is_side, empties_by}
use Rattle.ds_replica.specs.Messages.{IsAsked}
use Rattle.ds_replica.specs.Checks.{subscribes_by, sent_in, check_sent}
use Rattle.ds_replica.proofs.GivenLemmas.{given_reply}
use Rattle.ds_replica.proofs.FitLemmas.{store_fits, items_given_back}
use Rattle.ds_replica.proofs.TurnLemmas.{items_store, maps_store}
use Rattle.ds_replica.proofs.MessageLemmas.{gave}
use Rattle.ds_replica.proofs.SeerLemmas.{Shows, still_shows, same_items, place_kept, check_shows, unchecked, unmade, side_itself, one_side}
use Rattle.ds_replica.proofs.SeerLemmas.{store_put, store_other, itself, and_false}
use Rattle.std.proofs.lemmas.Bool.{and_from}

-- ---- one event
-- a command that isn't for the subscription at this side showed it nothing
pub check_none : (side : Side) (sub : ℕ) (account : Account) (s : Side) (command : Command) (out : Outcome) →
    is_side s side && uses sub command ≡ false → check_sent side sub account (Ask s command) out ≡ []
check_none side sub account s (Check n max) (Made k) e =
    ap (λ (b : Bool). cond b (sent_in (extended account (Ask s (Check n max)) (Made k)) k) []) e
check_none side sub account s (Check n max) out e = refl
check_none side sub account s command out e = refl

module _ (account : Account) (w new : World) (side : Side) (sub : ℕ) (query : Query) (shown : List Item) (f : Fits account w)
    (h : Shows (store_at w side) sub query shown) where
  pub reached : IsReached (store_at w side)
  reached = (store_fits account w side f).reached

  pub with_none : (l : List Sent) → l ≡ [] → subscription_at (store_at new side) sub ≡ subscription_at (store_at w side) sub →
      Shows (store_at new side) sub query (shown ++ items_of l)
  with_none l e q =
      subst (λ (x : List Sent). Shows (store_at new side) sub query (shown ++ items_of x)) (sym e)
      (subst (Shows (store_at new side) sub query) (sym (append-nil shown))
      (still_shows (store_at w side) (store_at new side) sub query shown q h))

  pub same_place : store_at new side ≡ store_at w side → subscription_at (store_at new side) sub ≡ subscription_at (store_at w side) sub
  same_place e = ap (λ (x : State). subscription_at x sub) e

  pub after_is : (command : Command) (out : Outcome) (a : Asks w side command out new) → store_at new side ≡ a.after
  after_is command out a = ap (λ (x : World). store_at x side) a.world_is ∙
      (items_store (with_state w side a.after) (items_given a.reply) side ∙ store_put w side a.after)

  pub ask_elsewhere : (s : Side) (command : Command) (out : Outcome) → is_side s side ≡ false → Asks w s command out new →
      Shows (store_at new side) sub query (shown ++ items_of (check_sent side sub account (Ask s command) out))
  ask_elsewhere s command out e a =
      with_none (check_sent side sub account (Ask s command) out)
      (check_none side sub account s command out (ap (λ (b : Bool). b && uses sub command) e))
      (same_place (ap (λ (x : World). store_at x side) a.world_is ∙
      (items_store (with_state w s a.after) (items_given a.reply) side ∙ store_other w s side a.after e)))

  pub ask_unused : (command : Command) (out : Outcome) → uses sub command ≡ false → Asks w side command out new →
      Shows (store_at new side) sub query (shown ++ items_of (check_sent side sub account (Ask side command) out))
  ask_unused command out e a =
      with_none (check_sent side sub account (Ask side command) out)
      (check_none side sub account side command out (and_false (is_side side side) (uses sub command) e))
      (ap (λ (x : State). subscription_at x sub) (after_is command out a) ∙
      place_kept (store_at w side) a.after sub command a.reply reached a.step e)

  pub ask_subscribe : (q : Query) (initial overwrite : Bool) (out : Outcome) →
      subscribes_by side sub (Ask side (Subscribe sub q initial overwrite)) out ≡ false →
      Asks w side (Subscribe sub q initial overwrite) out new
      → Shows (store_at new side) sub query (shown ++ items_of
      (check_sent side sub account (Ask side (Subscribe sub q initial overwrite)) out))
  ask_subscribe q initial overwrite out e a =
      with_none [] refl (same_place (after_is (Subscribe sub q initial overwrite) out a ∙
      unmade (store_at w side) a.after sub reached sub q initial overwrite a.reply a.step not_made))
    where
      not_made : (stamp owed : ℕ) → a.reply ≡ Subscribed stamp owed → ⊥
      not_made stamp owed is =
          let told : out ≡ Replied (Subscribed stamp owed) = a.outcome_is ∙ ap (λ (x : Reply). ask_outcome w x (items_given x)) is in
          let yes : is_side side side && (sub == sub) ≡ true = and_from (is_side side side) (sub == sub) (side_itself side) (itself sub) in
          let n : true ≡ false = sym yes ∙ (sym (ap (subscribes_by side sub (Ask side (Subscribe sub q initial overwrite))) told) ∙ e) in
          cc

  pub ask_check : (max : ℕ) (out : Outcome) → event_fault w (Ask side (Check sub max)) ≡ None → (a : Asks w side (Check sub max) out new) →
      Shows (store_at new side) sub query (shown ++ items_of (check_sent side sub account (Ask side (Check sub max)) out))
  ask_check max out none a = by_given (items_given a.reply) refl a.outcome_is
    where
      own : State
      own = (store_of account side).state

      by_given : (o : Option (List Item)) → items_given a.reply ≡ o → out ≡ ask_outcome w a.reply o →
          Shows (store_at new side) sub query (shown ++ items_of (check_sent side sub account (Ask side (Check sub max)) out))
      by_given None e q =
          with_none (check_sent side sub account (Ask side (Check sub max)) out)
          (ap (check_sent side sub account (Ask side (Check sub max))) q)
          (same_place (after_is (Check sub max) out a ∙ unchecked (store_at w side) a.after sub reached max a.reply a.step e))
      by_given (Some items) e q =
          let k = length w.messages in
          let asked : IsAsked account w side (Check sub max) k [] new =
          record { fits = f; happen = (new, (none, subst (λ (o : Outcome). Asks w side (Check sub max) o new) q a), refl); stays = refl } in
          let g = gave account w new side (Check sub max) k [] asked in
          let step = subst (λ (s : State). Step s (Check sub max) a.reply a.after) (sym (store_fits account w side f).state_is) a.step in
          let reply = given_reply (store_of account side).state a.after (Check sub max) a.reply items step e in
          let same : g.items ≡ items = same_items g.items items (sym g.given_is ∙ (sym (ap items_given reply) ∙ e)) in
          let test = and_from (is_side side side) (sub == sub) (side_itself side) (itself sub) in
          let sent : check_sent side sub account (Ask side (Check sub max)) out ≡ given (store_of account side).known g.items =
          ap (check_sent side sub account (Ask side (Check sub max))) q
          ∙ (ap (λ (b : Bool). cond b (sent_in (extended account (Ask side (Check sub max)) (Made k)) k) []) test ∙
          ap message_items g.message) in
          let all : items_of (check_sent side sub account (Ask side (Check sub max)) out) ≡ items =
          ap items_of sent ∙ (items_given_back (store_of account side).known g.items ∙ same) in
          subst (λ (l : List Item). Shows (store_at new side) sub query (shown ++ l)) (sym all)
          (subst (λ (s : State). Shows s sub query (shown ++ items)) (sym (after_is (Check sub max) out a))
          (check_shows (store_at w side) a.after sub reached query max a.reply items shown a.step e h))

  pub by_number : (n : ℕ) (P : ℕ → Type 0) → ((n == sub) ≡ false → P n) → P sub → P n
  by_number n P other here = elim (eqb_tells n sub) [ inl y ↦ subst P (sym y.1) here | inr d ↦ other d.0 ]

  pub ask_here : (command : Command) (out : Outcome) → event_fault w (Ask side command) ≡ None →
      subscribes_by side sub (Ask side command) out ≡ false → Asks w side command out new
      → Shows (store_at new side) sub query (shown ++ items_of (check_sent side sub account (Ask side command) out))
  ask_here (Check n max) out none e a = elim (eqb_tells n sub) [
    | inl y ↦ subst (λ (m : ℕ). event_fault w (Ask side (Check m max)) ≡ None → Asks w side (Check m max) out new →
        Shows (store_at new side) sub query (shown ++ items_of (check_sent side sub account (Ask side (Check m max)) out)))
        (sym y.1) (λ none a. ask_check max out none a) none a
    | inr d ↦ ask_unused (Check n max) out d.0 a
  ]
  ask_here (Subscribe n q initial overwrite) out none e a = elim (eqb_tells n sub) [
    | inl y ↦ subst (λ (m : ℕ). subscribes_by side sub (Ask side (Subscribe m q initial overwrite)) out ≡ false →
        Asks w side (Subscribe m q initial overwrite) out new →
        Shows (store_at new side) sub query (shown ++ items_of
        (check_sent side sub account (Ask side (Subscribe m q initial overwrite)) out)))
        (sym y.1) (λ e a. ask_subscribe q initial overwrite out e a) e a
    | inr d ↦ ask_unused (Subscribe n q initial overwrite) out d.0 a
  ]
  ask_here command out none e a = ask_unused command out refl a

  pub ask_shows : (s : Side) (command : Command) (out : Outcome) → event_fault w (Ask s command) ≡ None →
      subscribes_by side sub (Ask s command) out ≡ false → Asks w s command out new
      → Shows (store_at new side) sub query (shown ++ items_of (check_sent side sub account (Ask s command) out))
  ask_shows s command out none e a = by_side (is_side s side) refl
    where
      by_side : (b : Bool) → is_side s side ≡ b →
          Shows (store_at new side) sub query (shown ++ items_of (check_sent side sub account (Ask s command) out))
      by_side false q = ask_elsewhere s command out q a
      by_side true q =
          subst (λ (x : Side). event_fault w (Ask x command) ≡ None → subscribes_by side sub (Ask x command) out ≡ false →
          Asks w x command out new →
          Shows (store_at new side) sub query (shown ++ items_of (check_sent side sub account (Ask x command) out)))
          (sym (one_side s side q)) (λ none e a. ask_here command out none e a) none e a

-- ---- every event
pub followed_kept : (sub : ℕ) (s mid new : State) (group : List Item) (Others : Tally → State → Type 0) (reply : Reply) (tally : Tally) →
    IsReached s
    → ((later : Tally) → IsReached mid → Others later new → subscription_at new sub ≡ subscription_at mid sub) →
    Step s (Merge group) reply mid → OthersFollow reply mid Others tally new → subscription_at new sub ≡ subscription_at s sub
followed_kept sub s mid new group Others (Merged done taken stale owed) tally r others step f =
    others f.0 (steps_stay_reached s mid (Merge group) (Merged done taken stale owed) r step) f.1 ∙
    place_kept s mid sub (Merge group) (Merged done taken stale owed) r step refl
followed_kept sub s mid new group Others (MergeStopped done fault owed) tally r others step f =
    ap (λ (x : State). subscription_at x sub) f.1 ∙ place_kept s mid sub (Merge group) (MergeStopped done fault owed) r step refl
followed_kept sub s mid new group Others (Refused fault) tally r others step f =
    ap (λ (x : State). subscription_at x sub) f.1 ∙ place_kept s mid sub (Merge group) (Refused fault) r step refl
followed_kept sub s mid new group Others _ tally r others step f = absurd f

pub merges_kept : (sub : ℕ) (groups : List (List Item)) (s new : State) (tally : Tally) → IsReached s →
    GroupsAreMerged s groups tally new → subscription_at new sub ≡ subscription_at s sub
merges_kept sub [] s new tally r m = ap (λ (x : State). subscription_at x sub) m.1
merges_kept sub (group ∷ groups) s new tally r m =
    followed_kept sub s m.1 new group (λ t n. GroupsAreMerged m.1 groups t n) m.0 tally r
    (λ later q a. merges_kept sub groups m.1 new later q a) m.2 m.3

pub refused_none : (side : Side) (sub : ℕ) (account : Account) (s : Side) (command : Command) (fault : EventFault) →
    check_sent side sub account (Ask s command) (Refusing fault) ≡ []
refused_none side sub account s (Check n max) fault = refl
refused_none side sub account s command fault = refl

module _ (account : Account) (w new : World) (side : Side) (sub : ℕ) (query : Query) (shown : List Item) (f : Fits account w)
    (h : Shows (store_at w side) sub query shown) where
  pub unchanged : store_at new side ≡ store_at w side → Shows (store_at new side) sub query (shown ++ [])
  unchanged e = with_none account w new side sub query shown f h [] refl (ap (λ (x : State). subscription_at x sub) e)

  pub maps_shows : (maps : List MapState) → new ≡ record w { maps = maps } → Shows (store_at new side) sub query (shown ++ [])
  maps_shows maps e = unchanged (ap (λ (x : World). store_at x side) e ∙ maps_store w maps side)

  pub taken_shows : (holder : Holder) (items : List Item) (tally : Tally) → IsDelivered w holder items tally new →
      Shows (store_at new side) sub query (shown ++ [])
  taken_shows (Map j) items tally t = maps_shows _ t.world_is
  taken_shows (Store s) items tally t = by_side (is_side s side) refl
    where
      at_new : store_at new side ≡ store_at (with_state w s t.after) side
      at_new = ap (λ (x : World). store_at x side) t.world_is

      kept : subscription_at t.after sub ≡ subscription_at (store_at w s) sub
      kept = merges_kept sub t.takes.groups (store_at w s) t.after tally (store_fits account w s f).reached t.takes.merged

      by_side : (b : Bool) → is_side s side ≡ b → Shows (store_at new side) sub query (shown ++ [])
      by_side false q = unchanged (at_new ∙ store_other w s side t.after q)
      by_side true q =
          with_none account w new side sub query shown f h [] refl
          (ap (λ (x : State). subscription_at x sub)
          (at_new ∙ (ap (λ (x : Side). store_at (with_state w x t.after) side) (one_side s side q) ∙ store_put w side t.after)) ∙
          (kept ∙ ap (λ (x : Side). subscription_at (store_at w x) sub) (one_side s side q)))

  pub event_shows : (event : Event) (out : Outcome) → Happens w event out new → empties_by (Store side) event out ≡ false →
      subscribes_by side sub event out ≡ false →
      Shows (store_at new side) sub query (shown ++ items_of (check_sent side sub account event out))
  event_shows (Ask s command) (Refusing fault) a e n =
      with_none account w new side sub query shown f h (check_sent side sub account (Ask s command) (Refusing fault))
      (refused_none side sub account s command fault) (ap (λ (x : World). subscription_at (store_at x side) sub) a.1)
  event_shows (Ask s command) out a e n = ask_shows account w new side sub query shown f h s command out a.0 n a.1
  event_shows (NewMap q) (Refusing fault) a e n = unchanged (ap (λ (x : World). store_at x side) a.1)
  event_shows (NewMap q) out a e n = maps_shows _ a.1.world_is
  event_shows (Deliver k holder count) (Refusing fault) a e n = unchanged (ap (λ (x : World). store_at x side) a.1)
  event_shows (Deliver k holder count) out a e n = taken_shows holder _ a.1.tally a.1.taken
  event_shows (ClearMap j) (Refusing fault) a e n = unchanged (ap (λ (x : World). store_at x side) a.1)
  event_shows (ClearMap j) out a e n = maps_shows _ a.1.world_is
  event_shows (RestartStore s incarnation) (Refusing fault) a e n = unchanged (ap (λ (x : World). store_at x side) a.1)
  event_shows (RestartStore s incarnation) out a e n =
      unchanged (ap (λ (x : World). store_at x side) a.1.world_is ∙
      store_other w s side (reopened (store_at w s) incarnation)
      (sym (ap (empties_by (Store side) (RestartStore s incarnation)) a.1.outcome_is) ∙ e))
