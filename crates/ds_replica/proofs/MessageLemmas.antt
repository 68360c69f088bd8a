-- What a store's messages are.
use Rattle.std.proofs.Common.{◌≡◌, ℕ, zero, suc, ◌+◌, nat_lt, min, Bool, cond, List, [], ◌∷◌, ◌++◌, length, take, Option, Some, None, refl}
use Rattle.std.proofs.Common.{ap, sym, ◌∙◌, subst, arith}
use Rattle.std.specs.List.{filter, slice_get}
use Rattle.std.specs.Option.{option_map_or}
use Rattle.std.proofs.lemmas.List.{append-nil}
use Rattle.std.proofs.lemmas.Slice.Zip.{AllZip-long}
use Rattle.ds_names.specs.declared.key.Key.{Key}
use Rattle.ds_entry.specs.declared.item.Item.{Item}
use Rattle.ds_feed.specs.declared.cursor.Cursor.{Cursor}
use Rattle.ds_feed.specs.declared.journal.SinceFault.TheVariants as faults
use Rattle.ds_feed.specs.Feed.{Feed, position}
use Rattle.ds_feed.specs.Since.{fault_at, piece, since_of}
use Rattle.ds_feed.specs.Page.{floors_of, changes_of, still_to_come, snapshot_of, page_of}
use Rattle.ds_replica.specs.Sent.{Sent, given}
use Rattle.ds_replica.specs.Front.{IsFront}
use Rattle.ds_replica.specs.Whole.{IsWhole}
use Rattle.ds_replica.specs.Journaled.{SinceTurn}
use Rattle.ds_replica.specs.Paged.{PageTurn}
use Rattle.ds_replica.specs.Checked.{CheckTurn}
use Rattle.ds_replica.proofs.WholeLemmas as wholes
use Rattle.ds_replica.proofs.JournalLemmas as journals
use Rattle.ds_machine.specs.Scope.{keeps, is_kept}
use Rattle.ds_machine.specs.State.{State, held, cursor, unseen}
use Rattle.ds_machine.specs.Subscription.{Subscription}
use Rattle.ds_machine.specs.Order.{by_command, by_room, first_refusal}
use Rattle.ds_machine.specs.Calling.{against_scope, against_since, against_page}
use Rattle.ds_machine.specs.Machine.{Step, outcome}
use Rattle.ds_machine.specs.declared.refusal.Refusal.{Refusal}
use Rattle.ds_machine.specs.declared.refusal.Refusal.TheVariants as refusals
use Rattle.ds_machine.specs.declared.command.Scope.{Scope}
use Rattle.ds_machine.specs.declared.command.Command.{Command}
use Rattle.ds_machine.specs.declared.command.Command.TheVariants.{Check, Since, Snapshot, Page}
use Rattle.ds_machine.specs.declared.reply.Reply.{Reply}
use Rattle.ds_machine.specs.declared.reply.Reply.TheVariants.{Journaled, Snapped, Paged, Refused}
use Rattle.ds_machine.proofs.PartLemmas.{missing}
use Rattle.ds_machine.proofs.ReachedLemmas.{held_is_top}
use Rattle.ds_replica.specs.declared.event.Side.{Side}
use Rattle.ds_replica.specs.declared.event.Side.TheVariants.{A, B}
use Rattle.ds_replica.specs.declared.event.Holder.{Holder}
use Rattle.ds_replica.specs.declared.event.Holder.TheVariants.{Store, Map}
use Rattle.ds_replica.specs.declared.event.Event.{Event}
use Rattle.ds_replica.specs.declared.event.Event.TheVariants.{Ask, NewMap, Deliver, ClearMap, RestartStore}
use Rattle.ds_replica.specs.declared.outcome.Outcome.{Outcome}
use Rattle.ds_replica.specs.declared.outcome.Outcome.TheVariants.{Replied, Made, MapMade, Merged, Stopped, Cleared, Restarted}
use Rattle.ds_replica.specs.World.{World}
use Rattle.ds_replica.specs.Happens.{items_given, ask_outcome, Asks}
use Rattle.ds_replica.specs.Known.{StoreAccount, Account, store_of, with_account, with_sent, delivered, sent_first, extended, extended_all}
use Rattle.ds_replica.specs.Fits.{FitsStore, FitsMessage}
use Rattle.ds_replica.specs.Messages.{IsAsked, account_after, feed_of, IsMessage, SnapshotIsWholeInWorlds, SinceIsTurn, PageIsTurn}
use Rattle.ds_replica.specs.Messages.{SinceExtendsInWorlds, CheckIsTurn}
use Rattle.ds_replica.proofs.FitLemmas.{store_fits, own_fits}
use Rattle.ds_replica.proofs.GivenLemmas.{given_reply, given_unless, check_given}
use Rattle.ds_replica.proofs.TurnLemmas.{goes_on, front_of}

-- ---- messages stay
last_at : {X : Type 0} (xs : List X) (x : X) → slice_get (xs ++ x ∷ []) (length xs) ≡ Some x
last_at [] x = refl
last_at (y ∷ xs) x = last_at xs x

still_at : {X : Type 0} (xs : List X) (y : X) (k : ℕ) (x : X) → slice_get xs k ≡ Some x → slice_get (xs ++ y ∷ []) k ≡ Some x
still_at [] y k x e = cc
still_at (z ∷ xs) y zero x e = e
still_at (z ∷ xs) y (suc k) x e = still_at xs y k x e

module _ (account : Account) (k : ℕ) (sent : List Sent) (e : IsMessage account k sent) where
  sent_stays : (known : List Item) (o : Option (List Item)) → slice_get (with_sent account.messages known o) k ≡ Some sent
  sent_stays known None = e
  sent_stays known (Some items) = still_at account.messages (given known items) k sent e

  put_stays : (side : Side) (x : StoreAccount) → IsMessage (with_account account side x) k sent
  put_stays A x = e
  put_stays B x = e

  delivered_stays : (holder : Holder) (items : List Sent) → IsMessage (delivered account holder items) k sent
  delivered_stays (Store side) items = put_stays side _
  delivered_stays (Map j) items = e

  message_stays : (event : Event) (out : Outcome) → IsMessage (extended account event out) k sent
  message_stays (Ask side command) (Replied reply) = sent_stays (store_of account side).known (items_given reply)
  message_stays (Ask side command) (Made n) =
      sent_stays (store_of account side).known (items_given (outcome (store_of account side).state command).0)
  message_stays (Ask side command) _ = e
  message_stays (NewMap query) (MapMade j) = e
  message_stays (NewMap query) _ = e
  message_stays (Deliver n holder count) (Merged counted owed) = delivered_stays holder (sent_first account n counted.done)
  message_stays (Deliver n holder count) (Stopped done fault owed) = delivered_stays holder (sent_first account n done)
  message_stays (Deliver n holder count) _ = e
  message_stays (ClearMap j) Cleared = e
  message_stays (ClearMap j) _ = e
  message_stays (RestartStore side incarnation) Restarted = put_stays side _
  message_stays (RestartStore side incarnation) _ = e

messages_stay : (account : Account) (k : ℕ) (sent : List Sent) (events : List (Event × Outcome)) → IsMessage account k sent →
    IsMessage (extended_all account events) k sent
messages_stay account k sent [] e = e
messages_stay account k sent (x ∷ events) e =
    messages_stay (extended account x.0 x.1) k sent events (message_stays account k sent e x.0 x.1)

-- ---- a message that a store made
pub record GaveItems (account : Account) (side : Side) (command : Command) (k : ℕ) (events : List (Event × Outcome)) : Type 0 where
  pub items : List Item
  pub given_is : items_given (outcome (store_of account side).state command).0 ≡ Some items
  pub message : IsMessage (account_after account side command k events) k (given (store_of account side).known items)

module _ (account : Account) (w late : World) (side : Side) (command : Command) (k : ℕ) (events : List (Event × Outcome))
    (h : IsAsked account w side command k events late) where
  own : FitsStore account.brought (store_of account side) (store_of account side).state
  own = own_fits account w side h.fits

  pub front : IsFront (feed_of account side) (feed_of (account_after account side command k events) side)
  front = front_of (store_of account side).state (store_of (account_after account side command k events) side).state
      (goes_on account w late side ((Ask side command, Made k) ∷ events) h.fits h.happen h.stays)

  gave_at : (asks : Asks w side command (Made k) h.happen.0) (o : Option (List Item)) → items_given asks.reply ≡ o →
      Made k ≡ ask_outcome w asks.reply o → GaveItems account side command k events
  gave_at asks None e q = absurd (let n : Made k ≡ Replied asks.reply = q in cc)
  gave_at asks (Some items) e q =
      let step = subst (λ (s : State). Step s command asks.reply asks.after) (sym (store_fits account w side h.fits).state_is) asks.step in
      let is = sym (ap items_given (given_reply (store_of account side).state asks.after command asks.reply items step e)) ∙ e in
      let place : k ≡ length w.messages = cc in
      let long = AllZip-long (FitsMessage account.brought) account.messages w.messages h.fits.messages in
      let here : slice_get (account.messages ++ given (store_of account side).known items ∷ []) k ≡ Some
      (given (store_of account side).known items) =
      ap (slice_get (account.messages ++ given (store_of account side).known items ∷ [])) (place ∙ long) ∙
      last_at account.messages (given (store_of account side).known items) in
      record {
        items = items;
        given_is = is;
        message = messages_stay (extended account (Ask side command) (Made k)) k (given (store_of account side).known items) events
            (subst (λ (o : Option (List Item)). slice_get (with_sent account.messages (store_of account side).known o) k ≡ Some
            (given (store_of account side).known items)) (sym is) here);
      }

  pub gave : GaveItems account side command k events
  gave = let asks = h.happen.1.1 in gave_at asks (items_given asks.reply) refl asks.outcome_is

-- ---- snapshots
pub snapshot_is_whole : SnapshotIsWholeInWorlds
snapshot_is_whole account w late side scope query k events h keep =
    let a = store_of account side in
    let own = own_fits account w side h.fits in
    let g = gave account w late side (Snapshot scope) k events h in
    let same = given_unless a.state own.reached (first_refusal (against_scope scope))
    (Snapped (snapshot_of (is_kept scope) (held a.state) (cursor a.state))) (filter (is_kept scope) (held a.state)) g.items refl
    g.given_is in
    let whole = wholes.snapshot_is_whole a.state.feed a.known (held a.state) (keeps scope) query (held_is_top a.state own.reached)
    own.accepted keep in (
      given a.known g.items,
      g.message,
      wholes.whole_stays a.state.feed (feed_of (account_after account side (Snapshot scope) k events) side) query (given a.known g.items)
          (position a.state.feed) (front account w late side (Snapshot scope) k events h) (omega arith)
          (subst (λ (l : List Item). IsWhole a.state.feed query (given a.known l) (position a.state.feed)) same whole),
    )

-- ---- the journal
-- if no refusal applies to a Since, its cursor can be read from
reached_at : (f : Feed) (scope : Scope) (at : Cursor) (max : ℕ) → first_refusal (against_since f scope at max) ≡ None → fault_at f at ≡ None
reached_at f scope at max e =
    let old = missing (against_since f scope at max) (by_command ++ by_room) refusals.OldCursor e (11, omega arith, refl) in
    let ahead = missing (against_since f scope at max) (by_command ++ by_room) refusals.Ahead e (12, omega arith, refl) in
    let past = missing (against_since f scope at max) (by_command ++ by_room) refusals.Behind e (13, omega arith, refl) in
    ap (λ (b : Bool). cond b (Some faults.OldCursor)
    (cond (nat_lt (position f) at.position) (Some faults.Ahead)
    (cond (nat_lt (at.position + min f.ring (length f.accepted)) (position f)) (Some faults.Behind) None))) old
    ∙ (ap (λ (b : Bool). cond b (Some faults.Ahead)
    (cond (nat_lt (at.position + min f.ring (length f.accepted)) (position f)) (Some faults.Behind) None)) ahead
    ∙ ap (λ (b : Bool). cond b (Some faults.Behind) None) past)

nothing_stands : (s : State) (o : Option Refusal) (reply : Reply) (items : List Item) →
    items_given (option_map_or {U = Reply × State} (λ f. (Refused f, s)) o (reply, s)).0 ≡ Some items → o ≡ None
nothing_stands s None reply items e = refl
nothing_stands s (Some f) reply items e = absurd (let n : None ≡ Some items = e in cc)

since_turn : (account : Account) (side : Side) (scope : Scope) (at : Cursor) (max : ℕ) → SinceTurn
since_turn account side scope at max = record {
  feed = feed_of account side;
  known = (store_of account side).known;
  max = max;
  since =
      since_of (feed_of account side) (is_kept scope) at max;
}

pub since_is_turn : SinceIsTurn
unfolding since_turn
since_is_turn account w late side scope at max k events h =
    let a = store_of account side in
    let own = own_fits account w side h.fits in
    let g = gave account w late side (Since scope at max) k events h in
    let none = nothing_stands a.state (first_refusal (against_since a.state.feed scope at max))
    (Journaled (since_of a.state.feed (is_kept scope) at max)) g.items g.given_is in
    let same = given_unless a.state own.reached (first_refusal (against_since a.state.feed scope at max))
    (Journaled (since_of a.state.feed (is_kept scope) at max))
    (filter (is_kept scope) (piece a.state.feed (is_kept scope) at max)) g.items refl g.given_is in (
      since_turn account side scope at max,
      refl,
      record {
        front = front account w late side (Since scope at max) k events h;
        knows = own.accepted;
        given =
            record { reached = reached_at a.state.feed scope at max none; given = refl };
      },
      subst (λ (l : List Item). IsMessage (account_after account side (Since scope at max) k events) k (given a.known l)) (sym same)
          g.message,
    )

pub since_extends : SinceExtendsInWorlds
since_extends account w late side scope query at max k events items h keep whole =
    let now = feed_of (account_after account side (Since scope at max) k events) side in
    let t = since_is_turn account w late side scope at max k events h in (
      t.0,
      t.2,
      t.3,
      subst (λ (l : List Sent). IsWhole now query (items ++ l) t.0.since.cursor.position) (append-nil (given t.0.known t.0.since.items))
          (journals.sinces_extend now (keeps scope) query items at (t.0 ∷ []) keep (t.2, tt) whole),
    )

-- ---- pages
page_turn : (account : Account) (side : Side) (scope : Scope) (past : Option Key) (max : ℕ) → PageTurn
page_turn account side scope past max = record {
  feed = feed_of account side;
  known = (store_of account side).known;
  held = held (store_of account side).state;
  max = max;
  page = page_of (is_kept scope) past max (held (store_of account side).state) (cursor (store_of account side).state);
}

pub page_is_turn : PageIsTurn
unfolding page_turn
page_is_turn account w late side scope past max k events h =
    let a = store_of account side in
    let own = own_fits account w side h.fits in
    let g = gave account w late side (Page scope past max) k events h in
    let left = still_to_come (is_kept scope) past (held a.state) in
    let same = given_unless a.state own.reached (first_refusal (against_page scope max))
    (Paged (page_of (is_kept scope) past max (held a.state) (cursor a.state)))
    (floors_of left ++ take max (changes_of left)) g.items refl g.given_is in (
      page_turn account side scope past max,
      refl,
      refl,
      record {
        front = front account w late side (Page scope past max) k events h;
        knows = own.accepted;
        top =
            held_is_top a.state own.reached;
        given = refl;
      },
      subst (λ (l : List Item). IsMessage (account_after account side (Page scope past max) k events) k (given a.known l)) (sym same)
          g.message,
    )

-- ---- checks
check_turn : (account : Account) (side : Side) (seer : Subscription) (max : ℕ) → CheckTurn
check_turn account side seer max = record {
  feed = feed_of account side;
  known = (store_of account side).known;
  held = held (store_of account side).state;
  max = max;
  items = take max (unseen (store_of account side).state seer);
}

pub check_is_turn : CheckIsTurn
unfolding check_turn
check_is_turn account w late side sub max k events early h earlier =
    let a = store_of account side in
    let own = own_fits account w side h.fits in
    let g = gave account w late side (Check sub max) k events h in
    let c = check_given a.state own.reached sub max g.items g.given_is in (
      c.0,
      c.1,
      check_turn account side c.0 max,
      refl,
      record {
        later = earlier;
        front = front account w late side (Check sub max) k events h;
        knows = own.accepted;
        top =
            held_is_top a.state own.reached;
        given = refl;
      },
      subst (λ (l : List Item). IsMessage (account_after account side (Check sub max) k events) k (given a.known l)) (sym c.2) g.message,
    )
