-- What the stores' messages of a run leave out nothing of.
use Rattle.std.specs.Prelude.{◌≡◌, ℕ, ◌<◌, Bool, true, false, List, ◌∷◌, ◌++◌, length, Option, Some}
use Rattle.std.specs.List.{list_any, slice_get}
use Rattle.ds_names.specs.declared.key.Key.{Key}
use Rattle.ds_feed.specs.declared.cursor.Cursor.{Cursor}
use Rattle.ds_feed.specs.declared.reading.Since as readings
use Rattle.ds_feed.specs.declared.reading.Snapshot as snapshots
use Rattle.ds_feed.specs.declared.reading.Page as pages
use Rattle.ds_feed.specs.Feed.{Feed, position}
use Rattle.ds_pattern.specs.declared.query.Query.{Query}
use Rattle.ds_pattern.specs.Under.{is_under}
use Rattle.ds_replica.specs.Under.{KeepsQuery}
use Rattle.ds_replica.specs.Sent.{Sent, given}
use Rattle.ds_replica.specs.Front.{IsFront}
use Rattle.ds_replica.specs.Whole.{IsWhole}
use Rattle.ds_replica.specs.Checked.{CheckTurn, IsCheckTurn}
use Rattle.ds_replica.specs.Journaled.{SinceTurn, IsSinceTurn}
use Rattle.ds_replica.specs.Paged.{PageTurn, IsPageTurn}
use Rattle.ds_machine.specs.Scope.{keeps}
use Rattle.ds_machine.specs.Subscription.{Subscription}
use Rattle.ds_machine.specs.State.{subscription_at}
use Rattle.ds_machine.specs.declared.command.Scope.{Scope}
use Rattle.ds_machine.specs.declared.command.Command.{Command}
use Rattle.ds_machine.specs.declared.command.Command.TheVariants.{Subscribe, Check, Since, Snapshot, Page}
use Rattle.ds_machine.specs.declared.reply.Reply.{Reply}
use Rattle.ds_machine.specs.declared.reply.Reply.TheVariants.{Subscribed, Journaled, Snapped, Paged}
use Rattle.ds_replica.specs.declared.event.Side.{Side}
use Rattle.ds_replica.specs.declared.event.Holder.TheVariants.{Store}
use Rattle.ds_replica.specs.declared.event.Event.{Event}
use Rattle.ds_replica.specs.declared.event.Event.TheVariants.{Ask}
use Rattle.ds_replica.specs.declared.outcome.Outcome.{Outcome}
use Rattle.ds_replica.specs.declared.outcome.Outcome.TheVariants.{Replied, Made}
use Rattle.ds_replica.specs.Known.{Account, store_of, extended, extended_all}
use Rattle.ds_replica.specs.Messages.{IsMessage, feed_of}
use Rattle.ds_replica.specs.Checks.{is_subscribing, sent_in, checks_sent}
use Rattle.ds_replica.specs.Turns.{Stays}

-- Whether, among the events, a store was sent the command and made this message, and wasn't restarted since.
pub record WasGiven (events : List (Event × Outcome)) (side : Side) (command : Command) (k : ℕ) : Type 0 where
  pub before : List (Event × Outcome)
  pub since : List (Event × Outcome)
  pub all : before ++ (Ask side command, Made k) ∷ since ≡ events
  pub stays : Stays (Store side) since

-- A journal message: how many items were asked for, its number, and the reply.
pub record GivenSince : Type 0 where
  pub max : ℕ
  pub message : ℕ
  pub since : readings.Since

-- A page message, likewise.
pub record GivenPage : Type 0 where
  pub max : ℕ
  pub message : ℕ
  pub page : pages.Page

-- Whether a snapshot message, under a scope that has all of the query, is whole up to its cursor.
abbrev pub SnapshotsAreWhole : Account → List (Event × Outcome) → List Reply → Type 0
SnapshotsAreWhole account events messages =
    (side : Side) (scope : Scope) (query : Key → Bool) (k : ℕ) (snapshot : snapshots.Snapshot) → WasGiven events side (Snapshot scope) k →
    slice_get messages k ≡ Some (Snapped snapshot) → KeepsQuery (keeps scope) query →
    let now = extended_all account events in
    IsWhole (feed_of now side) query (sent_in now k) snapshot.cursor.position

-- Whether a journal message is a turn of the store in its state at the Since.
abbrev pub SincesAreTurns : Account → List (Event × Outcome) → List Reply → Type 0
SincesAreTurns account events messages =
    (side : Side) (scope : Scope) (at : Cursor) (x : GivenSince) (g : WasGiven events side (Since scope at x.max) x.message) →
    slice_get messages x.message ≡ Some (Journaled x.since) →
    let now = extended_all account events in
    (t : SinceTurn) × (t.max ≡ x.max) × (t.since ≡ x.since) × (t.feed ≡ feed_of (extended_all account g.before) side) ×
    IsSinceTurn (feed_of now side) (keeps scope) at t × (sent_in now x.message ≡ given t.known x.since.items)

-- Whether items that are whole up to a cursor, with a journal message from that cursor under a scope that has all of
-- the query, are whole up to the message's cursor.
abbrev pub SinceMessagesExtend : Account → List (Event × Outcome) → List Reply → Type 0
SinceMessagesExtend account events messages =
    (side : Side) (scope : Scope) (query : Key → Bool) (at : Cursor) (x : GivenSince) (items : List Sent) →
    WasGiven events side (Since scope at x.max) x.message → slice_get messages x.message ≡ Some (Journaled x.since) →
    KeepsQuery (keeps scope) query →
    let now = extended_all account events in
    IsWhole (feed_of now side) query items at.position →
    IsWhole (feed_of now side) query (items ++ sent_in now x.message) x.since.cursor.position

-- Whether a page message is a turn of the store in its state at the Page, as the law of pages takes it.
abbrev pub PagesAreTurns : Account → List (Event × Outcome) → List Reply → Type 0
PagesAreTurns account events messages =
    (side : Side) (scope : Scope) (past : Option Key) (x : GivenPage) (g : WasGiven events side (Page scope past x.max) x.message) →
    slice_get messages x.message ≡ Some (Paged x.page) →
    let now = extended_all account events in
    (t : PageTurn) × (t.max ≡ x.max) × (t.page ≡ x.page) × (t.feed ≡ feed_of (extended_all account g.before) side) ×
    IsPageTurn (feed_of now side) (keeps scope) past t × (sent_in now x.message ≡ given t.known x.page.items)

-- Whether a check message is a turn of its subscription, in the store's state at the Check. `early` is the feed of any
-- earlier state.
abbrev pub ChecksAreTurns : Account → List (Event × Outcome) → Type 0
ChecksAreTurns account events =
    (side : Side) (sub max k : ℕ) (early : Feed) (g : WasGiven events side (Check sub max) k) →
    IsFront early (feed_of (extended_all account g.before) side) →
    let now = extended_all account events in
    (seer : Subscription) × (subscription_at (store_of (extended_all account g.before) side).state sub ≡ Some seer) × (t : CheckTurn) ×
    (t.max ≡ max) × IsCheckTurn early (feed_of now side) (is_under seer.query) seer.shown t
    × IsMessage now k (given t.known t.items)

-- Whether, among the events, a subscription with the query was made with INITIAL and later checked. In between it
-- wasn't made again, and the store wasn't restarted.
pub record WasChecked (events : List (Event × Outcome)) (side : Side) (sub : ℕ) (query : Query) (max k : ℕ) : Type 0 where
  pub before : List (Event × Outcome)
  pub overwrite : Bool
  pub stamp : ℕ
  pub owed : ℕ
  pub between : List (Event × Outcome)
  pub since : List (Event × Outcome)
  pub all : before ++ (Ask side (Subscribe sub query true overwrite), Replied (Subscribed stamp owed)) ∷
      (between ++ (Ask side (Check sub max), Made k) ∷ since) ≡ events
  pub stays : Stays (Store side) between
  pub alone : list_any (is_subscribing side sub) between ≡ false

-- Whether the items of all checks since then are whole up to that check, if it showed fewer than its max.
abbrev pub AllChecksAreWhole : Account → List (Event × Outcome) → Type 0
AllChecksAreWhole account events =
    (side : Side) (sub : ℕ) (query : Query) (max k : ℕ) (g : WasChecked events side sub query max k) →
    let begun = extended (extended_all account g.before) (Ask side (Subscribe sub query true g.overwrite))
    (Replied (Subscribed g.stamp g.owed)) in
    let asked = extended_all begun g.between in
    let told = extended asked (Ask side (Check sub max)) (Made k) in
    length (sent_in told k) < max →
    IsWhole (feed_of told side) (is_under query) (checks_sent side sub begun g.between ++ sent_in told k)
    (position (feed_of asked side))
