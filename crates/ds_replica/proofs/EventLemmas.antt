-- The account fits over every list of events.
use Rattle.std.proofs.Common.{◌≡◌, ℕ, ◌≤◌, List, [], ◌∷◌, ◌++◌, length, take, Option, Some, None, refl, ap, sym, ◌∙◌, subst, arith}
use Rattle.std.proofs.Common.{Contains}
use Rattle.std.specs.List.{AllZip, slice_set}
use Rattle.std.proofs.lemmas.Option.{slice_get_within}
use Rattle.std.proofs.lemmas.List.Elements.{Contains-append_left}
use Rattle.ds_entry.specs.declared.item.Item.{Item}
use Rattle.ds_entry.proofs.Members.{Contains-nil, Contains-from_take}
use Rattle.ds_join.specs.ItemTop.{IsTop}
use Rattle.ds_pattern.specs.declared.query.Query.{Query}
use Rattle.ds_pattern.specs.Under.{is_under}
use Rattle.ds_replica.specs.Sent.{Sent, IsSent}
use Rattle.ds_replica.specs.Taking.{items_of}
use Rattle.ds_replica.proofs.TakingLemmas.{new_map_is_map}
use Rattle.ds_machine.specs.State.{State}
use Rattle.ds_machine.specs.Machine.{Step}
use Rattle.ds_machine.specs.Effect.{learnt_by}
use Rattle.ds_machine.specs.declared.command.Command.{Command}
use Rattle.ds_machine.specs.declared.refusal.Refusal.{Refusal}
use Rattle.ds_machine.specs.declared.reply.Reply.{Reply}
use Rattle.ds_replica.specs.declared.event.Side.{Side}
use Rattle.ds_replica.specs.declared.event.Holder.{Holder}
use Rattle.ds_replica.specs.declared.event.Holder.TheVariants.{Store, Map}
use Rattle.ds_replica.specs.declared.event.Event.{Event}
use Rattle.ds_replica.specs.declared.event.Event.TheVariants.{Ask, NewMap, Deliver, ClearMap, RestartStore}
use Rattle.ds_replica.specs.declared.outcome.Outcome.{Outcome}
use Rattle.ds_replica.specs.declared.outcome.Outcome.TheVariants.{Refused}
use Rattle.ds_replica.specs.World.{MapState, World, store_at, with_state, with_items}
use Rattle.ds_replica.specs.Delivery.{Tally, DeliveryEnds}
use Rattle.ds_replica.specs.Happens.{items_given, ask_outcome, Asks, new_map, MakesMap, tally_outcome, count_of, IsDelivered, TakenByStore}
use Rattle.ds_replica.specs.Happens.{TakenByMap, Delivers, ClearsMap, reopened, Restarts, Happens}
use Rattle.ds_replica.specs.Known.{StoreAccount, MapAccount, Account, store_of, with_reply, with_account, store_asked, took, opened}
use Rattle.ds_replica.specs.Known.{message_items, map_took, map_cleared, delivered, sent_first, extended}
use Rattle.ds_replica.specs.Fits.{AreWithin, FitsStore, FitsMap, FitsMessage, Fits}
use Rattle.ds_replica.specs.Headline.{EventsFit}
use Rattle.ds_replica.proofs.ZipLemmas.{AllZip-last, AllZip-at, AllZip-both_set}
use Rattle.ds_replica.proofs.StartLemmas.{opened_fits}
use Rattle.ds_replica.proofs.GoneLemmas.{Gone, store_went}
use Rattle.ds_replica.proofs.GivenLemmas.{given_reply, given_part}
use Rattle.ds_replica.proofs.FitLemmas.{store_fits, own_fits, put_fits, asked_fits, asked_store, message_given, first_sent, took_store}
use Rattle.ds_replica.proofs.FitLemmas.{took_map}
use Rattle.ds_entry.specs.Under.{under}
use Rattle.ds_machine.proofs.ReachedLemmas.{opening_is_reached}

module _ (account : Account) (w new : World) (f : Fits account w) where
  -- ---- a store gets a command
  ask_fits : (side : Side) (command : Command) (out : Outcome) → Asks w side command out new →
      Fits (extended account (Ask side command) out) new
  ask_fits side command out h =
      subst (λ (z : World). Fits (extended account (Ask side command) out) z) (sym h.world_is)
      (subst (λ (z : Account). Fits z (with_items (with_state w side h.after) (items_given h.reply)))
      (sym (account_is (items_given h.reply) refl h.outcome_is))
      (asked_fits account w (asked_by h.reply) h.after (learnt_by a.state command h.reply) a.known f side (items_given h.reply)
      (asked_store account.brought a h.after command h.reply own step)
      (λ items e. message_given (account.brought ++ learnt_by a.state command h.reply) a.known items
      (λ i k. own.accepted i (given_part a.state h.after command h.reply items own.reached step e i k))
      (λ i k. Contains-append_left account.brought (learnt_by a.state command h.reply) i (own.within i k)))))
    where
      a : StoreAccount
      a = store_of account side

      asked_by : Reply → StoreAccount
      asked_by reply = store_asked (store_of account side) command reply

      own : FitsStore account.brought (store_of account side) (store_of account side).state
      own = own_fits account w side f

      step : Step (store_of account side).state command h.reply h.after
      step = subst (λ (s : State). Step s command h.reply h.after) (sym (store_fits account w side f).state_is) h.step

      account_is : (o : Option (List Item)) → items_given h.reply ≡ o → out ≡ ask_outcome w h.reply o →
          extended account (Ask side command) out ≡ with_reply account side command h.reply
      account_is None e q = ap (extended account (Ask side command)) q
      account_is (Some items) e q =
          ap (extended account (Ask side command)) q ∙
          ap (with_reply account side command) (sym (given_reply (store_of account side).state h.after command h.reply items step e))

  -- ---- a map was made
  map_fits : (query : Query) (out : Outcome) → MakesMap w query out new → Fits (extended account (NewMap query) out) new
  map_fits query out h =
      subst (λ (z : World). Fits (extended account (NewMap query) out) z) (sym h.world_is)
      (subst (λ (o : Outcome). Fits (extended account (NewMap query) o) (record w { maps = w.maps ++ new_map query ∷ [] }))
      (sym h.outcome_is)
      (record {
        a = f.a;
        b = f.b;
        maps = AllZip-last (FitsMap account.brought) account.maps w.maps (record { query = query; taken = [] }) (new_map query) f.maps
            (record { query_is = refl; map = new_map_is_map (is_under query); within = λ s k. absurd (Contains-nil s k) });
        messages = f.messages;
      }))

  -- ---- items were delivered
  -- a message, as the account has it
  module _ (sent : List Sent) (items : List Item) (c : ℕ) (m : FitsMessage account.brought sent items) where
    first_are : (n : ℕ) → (s : Sent) → Contains (take n sent) s → IsSent s
    first_are n s h = m.sent s (Contains-from_take n sent s h)

    first_within : (n : ℕ) → AreWithin account.brought (take n sent)
    first_within n s h = m.within s (Contains-from_take n sent s h)

    to_store : (side : Side) (tally : Tally) → TakenByStore w side (take c items) tally new →
        Fits (delivered account (Store side) (take tally.count.done sent)) new
    to_store side tally h =
        let went = store_went (store_at w side) h.after (take c items) tally (store_fits account w side f).reached h.takes in
        let same = first_sent account.brought sent items tally.count.done c m went.within in
        let gone = subst (λ (l : List Item). Gone (store_at w side) l h.after) same went.gone in
        let own = subst (λ (s : State). Gone s (items_of (take tally.count.done sent)) h.after)
        (sym (store_fits account w side f).state_is) gone in
        subst (Fits (delivered account (Store side) (take tally.count.done sent))) (sym h.world_is)
        (put_fits account w side (took (store_of account side) (take tally.count.done sent)) h.after f
        (took_store account.brought (take tally.count.done sent) (first_are tally.count.done) (first_within tally.count.done)
        (store_of account side) h.after (own_fits account w side f) own))

    done_within : (after : MapState) (some : List Item) (done : ℕ) (o : Option Refusal) → DeliveryEnds after some done o →
        done ≤ length some
    done_within after some done None e = omega (arith, e)
    done_within after some done (Some fault) e = let l = slice_get_within some done e.0 e.1 in omega (arith, l)

    to_map : (j : ℕ) (tally : Tally) → TakenByMap w j (take c items) tally new →
        Fits (delivered account (Map j) (take tally.count.done sent)) new
    to_map j tally h =
        let at = AllZip-at (FitsMap account.brought) account.maps w.maps j h.old f.maps h.there in
        let few = done_within h.after (take c items) tally.count.done tally.stop h.takes.ends in
        let same = first_sent account.brought sent items tally.count.done c m few in
        let top = subst (λ (l : List Item). IsTop h.after.held (h.old.held ++ under (is_under h.old.query) l)) same h.takes.top in
        let fits = took_map account.brought (take tally.count.done sent) (first_are tally.count.done) (first_within tally.count.done) at.0
        h.old h.after at.2 h.takes.query top in
        subst (Fits (delivered account (Map j) (take tally.count.done sent))) (sym h.world_is)
        (record {
          a = f.a;
          b = f.b;
          maps = subst (λ (o : Option MapAccount).
              AllZip (FitsMap account.brought) (map_took account.maps j (take tally.count.done sent) o) (slice_set w.maps j h.after))
              (sym at.1)
              (AllZip-both_set (FitsMap account.brought) account.maps w.maps j
              (record at.0 { taken = at.0.taken ++ take tally.count.done sent }) h.after f.maps fits);
          messages = f.messages;
        })

    to_holder : (holder : Holder) (tally : Tally) → IsDelivered w holder (take c items) tally new →
        Fits (delivered account holder (take tally.count.done sent)) new
    to_holder (Store side) tally h = to_store side tally h
    to_holder (Map j) tally h = to_map j tally h

  delivery_is : (k : ℕ) (holder : Holder) (count : Option ℕ) (tally : Tally) (o : Option Refusal) →
      extended account (Deliver k holder count) (tally_outcome tally o) ≡ delivered account holder (sent_first account k tally.count.done)
  delivery_is k holder count tally None = refl
  delivery_is k holder count tally (Some fault) = refl

  delivery_fits : (k : ℕ) (holder : Holder) (count : Option ℕ) (out : Outcome) → Delivers w k holder count out new →
      Fits (extended account (Deliver k holder count) out) new
  delivery_fits k holder count out h =
      let at = AllZip-at (FitsMessage account.brought) account.messages w.messages k h.items f.messages h.there in
      subst (λ (z : Account). Fits z new) (sym (ap (extended account (Deliver k holder count)) h.outcome_is ∙
      delivery_is k holder count h.tally h.tally.stop))
      (subst (λ (o : Option (List Sent)). Fits (delivered account holder (take h.tally.count.done (message_items o))) new) (sym at.1)
      (to_holder at.0 h.items (count_of count h.items) at.2 holder h.tally h.taken))

  -- ---- a map was cleared, a store restarted
  clear_fits : (j : ℕ) (out : Outcome) → ClearsMap w j out new → Fits (extended account (ClearMap j) out) new
  clear_fits j out h =
      let at = AllZip-at (FitsMap account.brought) account.maps w.maps j h.old f.maps h.there in
      subst (λ (z : World). Fits (extended account (ClearMap j) out) z) (sym h.world_is)
      (subst (λ (o : Outcome). Fits (extended account (ClearMap j) o) (record w { maps = slice_set w.maps j (new_map h.old.query) }))
      (sym h.outcome_is)
      (record {
        a = f.a;
        b = f.b;
        maps = subst (λ (o : Option MapAccount).
            AllZip (FitsMap account.brought) (map_cleared account.maps j o) (slice_set w.maps j (new_map h.old.query))) (sym at.1)
            (AllZip-both_set (FitsMap account.brought) account.maps w.maps j (record at.0 { taken = [] }) (new_map h.old.query) f.maps
            (record { query_is = at.2.query_is; map = new_map_is_map (is_under at.0.query); within = λ s k. absurd (Contains-nil s k) }));
        messages = f.messages;
      }))

  restart_fits : (side : Side) (incarnation : ℕ) (out : Outcome) → Restarts w side incarnation out new →
      Fits (extended account (RestartStore side incarnation) out) new
  restart_fits side incarnation out h =
      let own = own_fits account w side f in
      let s = (store_of account side).state in
      let same : with_state w side (reopened s incarnation) ≡ new =
      ap (λ (x : State). with_state w side (reopened x incarnation)) (store_fits account w side f).state_is ∙ sym h.world_is in
      subst (λ (o : Outcome). Fits (extended account (RestartStore side incarnation) o) new) (sym h.outcome_is)
      (subst (Fits (with_account account side (opened (reopened s incarnation)))) same
      (put_fits account w side (opened (reopened s incarnation)) (reopened s incarnation) f
      (opened_fits account.brought incarnation s.feed.first s.feed.ring s.limits
      (opening_is_reached incarnation s.feed.first s.feed.ring s.limits own.reached.limits))))

-- ---- every event
pub event_fits : (account : Account) (w new : World) (event : Event) (out : Outcome) → Fits account w → Happens w event out new →
    Fits (extended account event out) new
event_fits account w new (Ask side command) (Refused fault) f h = subst (Fits account) (sym h.1) f
event_fits account w new (Ask side command) out f h = ask_fits account w new f side command out h.1
event_fits account w new (NewMap query) (Refused fault) f h = subst (Fits account) (sym h.1) f
event_fits account w new (NewMap query) out f h = map_fits account w new f query out h.1
event_fits account w new (Deliver k holder count) (Refused fault) f h = subst (Fits account) (sym h.1) f
event_fits account w new (Deliver k holder count) out f h = delivery_fits account w new f k holder count out h.1
event_fits account w new (ClearMap j) (Refused fault) f h = subst (Fits account) (sym h.1) f
event_fits account w new (ClearMap j) out f h = clear_fits account w new f j out h.1
event_fits account w new (RestartStore side incarnation) (Refused fault) f h = subst (Fits account) (sym h.1) f
event_fits account w new (RestartStore side incarnation) out f h = restart_fits account w new f side incarnation out h.1

pub events_fit : EventsFit
events_fit account old new [] f h = subst (Fits account) (sym h) f
events_fit account old new (e ∷ es) f h = events_fit (extended account e.0 e.1) h.0 new es (event_fits account old h.0 e.0 e.1 f h.1) h.2
