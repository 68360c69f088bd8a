-- What a store's messages leave out nothing of, over a list of events.
use Rattle.std.specs.Prelude.{◌≡◌, ℕ, Bool, List, ◌∷◌, ◌++◌, Option, Some}
use Rattle.std.specs.List.{slice_get}
use Rattle.ds_names.specs.declared.key.Key.{Key}
use Rattle.ds_feed.specs.declared.cursor.Cursor.{Cursor}
use Rattle.ds_feed.specs.Feed.{Feed, position}
use Rattle.ds_pattern.specs.Under.{is_under}
use Rattle.ds_replica.specs.Under.{KeepsQuery}
use Rattle.ds_replica.specs.Sent.{Sent, given}
use Rattle.ds_replica.specs.Front.{IsFront}
use Rattle.ds_replica.specs.Whole.{IsWhole}
use Rattle.ds_replica.specs.Checked.{CheckTurn, IsCheckTurn}
use Rattle.ds_replica.specs.Journaled.{SinceTurn, IsSinceTurn}
use Rattle.ds_replica.specs.Paged.{PageTurn, IsPageTurn}
use Rattle.ds_machine.specs.Scope.{keeps}
use Rattle.ds_machine.specs.Subscription.{Subscription}
use Rattle.ds_machine.specs.State.{subscription_at}
use Rattle.ds_machine.specs.declared.command.Scope.{Scope}
use Rattle.ds_machine.specs.declared.command.Command.{Command}
use Rattle.ds_machine.specs.declared.command.Command.TheVariants.{Check, Since, Snapshot, Page}
use Rattle.ds_replica.specs.declared.event.Side.{Side}
use Rattle.ds_replica.specs.declared.event.Holder.TheVariants.{Store}
use Rattle.ds_replica.specs.declared.event.Event.{Event}
use Rattle.ds_replica.specs.declared.event.Event.TheVariants.{Ask}
use Rattle.ds_replica.specs.declared.outcome.Outcome.{Outcome}
use Rattle.ds_replica.specs.declared.outcome.Outcome.TheVariants.{Made}
use Rattle.ds_replica.specs.World.{World}
use Rattle.ds_replica.specs.Happens.{HappenAll}
use Rattle.ds_replica.specs.Known.{Account, store_of, extended_all}
use Rattle.ds_replica.specs.Fits.{Fits}
use Rattle.ds_replica.specs.Turns.{Stays}

-- A store was sent a command and made this message. Then these events happened, and none restarted the store.
pub record IsAsked (account : Account) (w : World) (side : Side) (command : Command) (k : ℕ) (events : List (Event × Outcome))
    (late : World) : Type 0 where
  pub fits : Fits account w
  pub happen : HappenAll w ((Ask side command, Made k) ∷ events) late
  pub stays : Stays (Store side) events

-- The account after that.
abbrev pub account_after : Account → Side → Command → ℕ → List (Event × Outcome) → Account
account_after account side command k events = extended_all account ((Ask side command, Made k) ∷ events)

-- The feed of a store.
abbrev pub feed_of : Account → Side → Feed
feed_of account side = (store_of account side).state.feed

-- The message has these items.
abbrev pub IsMessage : Account → ℕ → List Sent → Type 0
IsMessage account k sent = slice_get account.messages k ≡ Some sent

-- A law: a snapshot message, under a scope that has all of the query, is whole up to the position at which it was
-- taken.
abbrev pub SnapshotIsWholeInWorlds : Type 0
SnapshotIsWholeInWorlds =
    (account : Account) (w late : World) (side : Side) (scope : Scope) (query : Key → Bool) (k : ℕ) (events : List (Event × Outcome)) →
    IsAsked account w side (Snapshot scope) k events late → KeepsQuery (keeps scope) query →
    let now = account_after account side (Snapshot scope) k events in
    (sent : List Sent) × IsMessage now k sent × IsWhole (feed_of now side) query sent (position (feed_of account side))

-- A law: a journal message is a turn of the store, as the laws of wholeness and of pages take it.
abbrev pub SinceIsTurn : Type 0
SinceIsTurn =
    (account : Account) (w late : World) (side : Side) (scope : Scope) (at : Cursor) (max k : ℕ) (events : List (Event × Outcome)) →
    IsAsked account w side (Since scope at max) k events late →
    let now = account_after account side (Since scope at max) k events in
    (t : SinceTurn) × (t.max ≡ max) × IsSinceTurn (feed_of now side) (keeps scope) at t × IsMessage now k (given t.known t.since.items)

-- A law: so is a page message, for the store's state when the page was read.
abbrev pub PageIsTurn : Type 0
PageIsTurn =
    (account : Account) (w late : World) (side : Side) (scope : Scope) (past : Option Key) (max k : ℕ) (events : List (Event × Outcome)) →
    IsAsked account w side (Page scope past max) k events late →
    let now = account_after account side (Page scope past max) k events in
    (t : PageTurn) × (t.max ≡ max) × (t.feed ≡ feed_of account side) × IsPageTurn (feed_of now side) (keeps scope) past t ×
    IsMessage now k (given t.known t.page.items)

-- A law: items that are whole up to a cursor, with a journal message from that cursor under a scope that has all of the
-- query, are whole up to the message's cursor.
abbrev pub SinceExtendsInWorlds : Type 0
SinceExtendsInWorlds =
    (account : Account) (w late : World) (side : Side) (scope : Scope) (query : Key → Bool) (at : Cursor) (max k : ℕ)
    (events : List (Event × Outcome)) (items : List Sent) →
    IsAsked account w side (Since scope at max) k events late → KeepsQuery (keeps scope) query →
    let now = account_after account side (Since scope at max) k events in
    IsWhole (feed_of now side) query items at.position →
    (t : SinceTurn) × IsSinceTurn (feed_of now side) (keeps scope) at t × IsMessage now k (given t.known t.since.items) ×
    IsWhole (feed_of now side) query (items ++ given t.known t.since.items) t.since.cursor.position

-- A law: a check message is a turn of its subscription, as the store has it at the Check. `early` is the feed of any
-- earlier state.
abbrev pub CheckIsTurn : Type 0
CheckIsTurn =
    (account : Account) (w late : World) (side : Side) (sub max k : ℕ) (events : List (Event × Outcome)) (early : Feed) →
    IsAsked account w side (Check sub max) k events late → IsFront early (feed_of account side) →
    let now = account_after account side (Check sub max) k events in
    (seer : Subscription) × (subscription_at (store_of account side).state sub ≡ Some seer) × (t : CheckTurn) × (t.max ≡ max) ×
    IsCheckTurn early (feed_of now side) (is_under seer.query) seer.shown t
    × IsMessage now k (given t.known t.items)
