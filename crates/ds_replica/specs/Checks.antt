-- What the checks of a subscription show over a list of events, and when they leave out nothing.
use Rattle.std.specs.Prelude.{◌≡◌, ℕ, ◌<◌, ◌==◌, Bool, true, false, ◌&&◌, if◌then◌else◌, List, [], ◌++◌, ◌∷◌, length}
use Rattle.std.specs.List.{list_any, slice_get}
use Rattle.ds_feed.specs.Feed.{position}
use Rattle.ds_pattern.specs.declared.query.Query.{Query}
use Rattle.ds_pattern.specs.Under.{is_under}
use Rattle.ds_replica.specs.Sent.{Sent}
use Rattle.ds_replica.specs.Whole.{IsWhole}
use Rattle.ds_machine.specs.declared.command.Command.TheVariants.{Subscribe, Check}
use Rattle.ds_machine.specs.declared.reply.Reply.TheVariants.{Subscribed}
use Rattle.ds_replica.specs.declared.event.Side.{Side}
use Rattle.ds_replica.specs.declared.event.Holder.TheVariants.{Store}
use Rattle.ds_replica.specs.declared.event.Event.{Event}
use Rattle.ds_replica.specs.declared.event.Event.TheVariants.{Ask}
use Rattle.ds_replica.specs.declared.outcome.Outcome.{Outcome}
use Rattle.ds_replica.specs.declared.outcome.Outcome.TheVariants.{Replied, Made}
use Rattle.ds_replica.specs.World.{World}
use Rattle.ds_replica.specs.Happens.{Happens, HappenAll}
use Rattle.ds_replica.specs.Known.{Account, message_items, extended, extended_all}
use Rattle.ds_replica.specs.Fits.{Fits}
use Rattle.ds_replica.specs.Turns.{is_side, Stays}
use Rattle.ds_replica.specs.Messages.{feed_of}

-- Whether the event made this subscription at this store.
abbrev pub subscribes_by : Side → ℕ → Event → Outcome → Bool
subscribes_by side sub (Ask s (Subscribe n query initial overwrite)) (Replied (Subscribed stamp owed)) = is_side s side && n == sub
subscribes_by side sub _ _ = false

abbrev pub is_subscribing : Side → ℕ → Event × Outcome → Bool
is_subscribing side sub e = subscribes_by side sub e.0 e.1

-- The items of a message.
abbrev pub sent_in : Account → ℕ → List Sent
sent_in account k = message_items (slice_get account.messages k)

-- The items of the message that a Check of the subscription made, if the event is one.
abbrev pub check_sent : Side → ℕ → Account → Event → Outcome → List Sent
check_sent side sub account (Ask s (Check n max)) (Made k) =
    if is_side s side && n == sub then sent_in (extended account (Ask s (Check n max)) (Made k)) k else []
check_sent side sub account _ _ = []

-- The items of all such messages that the events made.
abbrev pub checks_sent : Side → ℕ → Account → List (Event × Outcome) → List Sent
checks_sent side sub account [] = []
checks_sent side sub account (e ∷ es) = check_sent side sub account e.0 e.1 ++ checks_sent side sub (extended account e.0 e.1) es

-- A law: after a Subscribe with INITIAL, the items of all its checks are whole up to the last one, if that one showed
-- fewer than its max, and the subscription wasn't made again nor the store restarted in between.
abbrev pub ChecksAreWholeInWorlds : Type 0
ChecksAreWholeInWorlds =
    (account : Account) (w begun before late : World) (side : Side) (sub : ℕ) (query : Query) (overwrite : Bool) (stamp owed : ℕ)
    (events : List (Event × Outcome)) (max k : ℕ) → Fits account w →
    Happens w (Ask side (Subscribe sub query true overwrite)) (Replied (Subscribed stamp owed)) begun → HappenAll begun events before →
    Stays (Store side) events → list_any (is_subscribing side sub) events ≡ false →
    Happens before (Ask side (Check sub max)) (Made k) late →
    let first = extended account (Ask side (Subscribe sub query true overwrite)) (Replied (Subscribed stamp owed)) in
    let mid = extended_all first events in
    let now = extended mid (Ask side (Check sub max)) (Made k) in
    length (sent_in now k) < max →
    IsWhole (feed_of now side) (is_under query) (checks_sent side sub first events ++ sent_in now k) (position (feed_of mid side))
