-- The effects of workers' turns on their passes.
use Rattle.std.specs.Prelude.{◌≡◌, ◌≢◌, ◌⊎◌, ℕ, zero, suc, ◌*◌, ◌/◌, ◌<◌, ◌≤◌, Bool, true, false, List, length, Option, Some, None}
use Rattle.std.specs.List.{AllByRecursion}
use Rattle.history.specs.declared.entry.Entry.{Entry}
use Rattle.desk_rule.specs.declared.view.View.{View}
use Rattle.desk.specs.declared.pass.Sight.{Ghosts}
use Rattle.desk.specs.Calls.{TakesPending}
use Rattle.desk.specs.Pass.{Pass}
use Rattle.desk.specs.declared.fault.DeskFault.TheVariants.{BadServer}
use Rattle.ds_feed.specs.declared.cursor.Cursor.{Cursor}
use Rattle.ds_machine.specs.declared.command.Command.{Command}
use Rattle.ds_machine.specs.declared.refusal.Refusal.TheVariants.{Behind}
use Rattle.ds_machine.specs.declared.reply.Reply.{Reply}
use Rattle.ds_store.specs.Turns.{commands_of}
use Rattle.desk_store.specs.Called.{IsAccepted, Made, MadeCall}
use Rattle.desk_store.specs.Record.{Boxed, PassRecord, pass_record}
use Rattle.desk_store.specs.CallFaults.{FailsBy}
use Rattle.desk_store.specs.Seat.{IsSameSeat, SeatRecord}
use Rattle.desk_store.specs.declared.call_fault.CallFault.TheVariants as calls
use Rattle.desk_store.specs.RefreshFaults.{IsRefreshFault}
use Rattle.desk_store.specs.Follower.{FollowerRecord, IsSameFollower}
use Rattle.desk_store.specs.FollowerCalls.{AreOpenCalls}
use Rattle.desk_store.specs.KeepsUp.{KeepsUpWith}
use Rattle.desk_store.specs.Refresh.{AreOfFollower, CallsOnly, IsUpTo}
use Rattle.desk_store.specs.declared.refresh_fault.RefreshFault.{RefreshFault}
use Rattle.desk_store.specs.declared.exchange.Exchanged.{Exchanged}
use Rattle.desk_store.specs.Exchange.{Exchanges, ExchangesOnly}
use Rattle.desk_store.specs.ExchangeFaults.{IsExchangeFault}
use Rattle.desk_store.specs.declared.exchange_fault.ExchangeFault.{ExchangeFault}
use Rattle.desk_store.specs.declared.exchange_fault.ExchangeFault.TheVariants as exchanges
use Rattle.ds_live.specs.declared.worker_fault.WorkerFault.{WorkerFault}
use Rattle.ds_live.specs.declared.worker_fault.WorkerFault.TheVariants as faults

-- Whether q is the pass p after some calls of its own.
abbrev pub HasCalled : PassRecord → PassRecord → Type 0
HasCalled p q = (own : List (Entry Command Reply)) × Made p q own

-- Like `HasCalled`, for a seat.
abbrev pub SeatHasCalled : SeatRecord → SeatRecord → Type 0
SeatHasCalled s t = IsSameSeat s t × HasCalled s.pass t.pass

-- ---- publishers

-- Whether q is the pass p after this one call, which wasn't refused.
pub record WasAccepted (p q : PassRecord) (command : Command) : Type 0 where
  pub reply : Reply
  pub place : ℕ
  pub call : MadeCall p q command reply place
  pub accepted : IsAccepted reply

-- Whether these calls have these commands, in order, and none was refused.
pub record AreAccepted (commands : List Command) (own : List (Entry Command Reply)) : Type 0 where
  pub commands_are : commands_of own ≡ commands
  pub accepted : AllByRecursion (λ (e : Entry Command Reply). IsAccepted e.reply) own

-- Whether q is the pass p after these calls, none of which was refused.
pub record WereAccepted (p q : PassRecord) (commands : List Command) : Type 0 where
  pub own : List (Entry Command Reply)
  pub made : Made p q own
  pub accepted : AreAccepted commands own

-- ---- followers

-- Whether q is the pass p after 1 to 8 calls, each of them the follower's.
pub record HasRefreshed (p q : PassRecord) (f : FollowerRecord) : Type 0 where
  pub own : List (Entry Command Reply)
  pub made : Made p q own
  pub some : 0 < length own
  pub few : length own ≤ 8
  pub theirs : AreOfFollower f.sub f.map.query own

module _ {Z : Type 0} {G : Ghosts (View (Boxed Z) Command Reply)} where
  -- Whether a pass took all that was pending for the follower's server, and then refreshed the follower.
  pub record HasFollowed (p q : Pass (Boxed Z) Command Reply G) (f : FollowerRecord) : Type 0 where
    pub mid : Pass (Boxed Z) Command Reply G
    pub bits : ℕ
    pub takes : TakesPending p mid (f.sub / 8) bits
    pub refreshed : HasRefreshed (pass_record mid) (pass_record q) f

-- Whether q is the pass p after this many refreshes of 1 to 8 calls, each of them the follower's. The follower, now g, keeps up.
pub record HasFollowedOn (count : ℕ) (p q : PassRecord) (f g : FollowerRecord) : Type 0 where
  pub own : List (Entry Command Reply)
  pub made : Made p q own
  pub many : count ≤ length own
  pub few : length own ≤ 8 * count
  pub theirs : AreOfFollower f.sub f.map.query own
  pub keeps : KeepsUpWith q g
  pub same : IsSameFollower f g

-- Whether the fault is that of a follower's turn: its server isn't one of 16, or its refresh failed, after calls that were all the
-- follower's.
abbrev pub FailsFollowing : PassRecord → PassRecord → FollowerRecord → WorkerFault → Type 0
FailsFollowing p q f fault =
    ((fault ≡ faults.Call (calls.Desk BadServer)) × (16 ≤ f.sub / 8))
    ⊎ ((refresh : RefreshFault) × (mid : PassRecord) × (fault ≡ faults.Refresh refresh) × IsRefreshFault 8 mid q f refresh
    × CallsOnly p q f 8)

-- Whether q is the pass p after calls of the follower f, now g, none of which ended a refresh.
pub record HasGoneOn (p q : PassRecord) (f g : FollowerRecord) : Type 0 where
  pub own : List (Entry Command Reply)
  pub made : Made p q own
  pub open_calls : AreOpenCalls f.sub f.map.query f.stamp own g.stamp
  pub same : IsSameFollower f g

-- Whether the fault is that of one of the refreshes, each of at most 65536 calls, that bring a follower up to date. No call before it ended
-- a refresh.
abbrev pub FailsBringingUp : PassRecord → PassRecord → FollowerRecord → RefreshFault → Type 0
FailsBringingUp p q f fault =
    (mid : PassRecord) × (g : FollowerRecord) × HasGoneOn p mid f g × IsRefreshFault 65536 mid q g fault × CallsOnly mid q g 65536

-- Whether the map is what the store held under the map's query after all that the pass has seen.
abbrev pub IsBroughtUp : PassRecord → FollowerRecord → Type 0
IsBroughtUp q g = (place : ℕ) × IsUpTo q g place

-- ---- exchanges: p to q is the pass that reads, and r to s the one that merges

-- Whether one exchange was made from the cursor on, and the next one begins at its cursor. Otherwise the journal didn't reach back to the
-- cursor, and the next exchange has none.
abbrev pub HasExchanged : PassRecord → PassRecord → PassRecord → PassRecord → Option Cursor → Option Cursor → Bool → Type 0
HasExchanged p q r s from next more =
    ((x : Exchanged) × Exchanges p q r s from x × (next ≡ Some x.cursor) × (more ≡ x.more))
    ⊎ ((more ≡ true) × (next ≡ None) × FailsBy p q (calls.Refused Behind) × ExchangesOnly p q r s from)

-- Whether the fault is that of an exchange from the cursor on, and isn't that the journal doesn't reach back to it. The calls before it are
-- the exchange's alone.
abbrev pub FailsExchanging : PassRecord → PassRecord → PassRecord → PassRecord → Option Cursor → ExchangeFault → Type 0
FailsExchanging p q r s from fault =
    IsExchangeFault p q r s fault × ExchangesOnly p q r s from × (fault ≢ exchanges.Call (calls.Refused Behind))

-- Whether this many exchanges were made in order, each from the cursor of the one before it.
abbrev pub HasExchangedOften : ℕ → PassRecord → PassRecord → PassRecord → PassRecord → Option Cursor → Option Cursor → Type 0
HasExchangedOften zero p q r s from next = (q ≡ p) × (s ≡ r) × (next ≡ from)
HasExchangedOften (suc count) p q r s from next =
    (t u : PassRecord) × (mid : Option Cursor) × (more : Bool) × HasExchangedOften count p t r u from mid
    × HasExchanged t q u s mid next more

-- Like `HasExchangedOften`, where each exchange left more.
abbrev pub HasLeftMore : ℕ → PassRecord → PassRecord → PassRecord → PassRecord → Option Cursor → Option Cursor → Type 0
HasLeftMore zero p q r s from next = (q ≡ p) × (s ≡ r) × (next ≡ from)
HasLeftMore (suc count) p q r s from next =
    (t u : PassRecord) × (mid : Option Cursor) × HasLeftMore count p t r u from mid × HasExchanged t q u s mid next true

-- Whether exchanges were made in order, of which only the last left nothing more.
pub record HasHandedOver (p q r s : PassRecord) (from next : Option Cursor) : Type 0 where
  pub asked : PassRecord
  pub given : PassRecord
  pub mid : Option Cursor
  pub count : ℕ
  pub before : HasLeftMore count p asked r given from mid
  pub last : HasExchanged asked q given s mid next false

-- Whether the fault is that of an exchange, after some others that were made in order and left more.
abbrev pub FailsHandingOver : PassRecord → PassRecord → PassRecord → PassRecord → Option Cursor → ExchangeFault → Type 0
FailsHandingOver p q r s from fault =
    (t u : PassRecord) × (mid : Option Cursor) × ((count : ℕ) × HasLeftMore count p t r u from mid) × FailsExchanging t q u s mid fault

-- Whether the last exchange of the two passes left nothing more.
pub record IsHandedOver (q s : PassRecord) : Type 0 where
  pub asked : PassRecord
  pub given : PassRecord
  pub from : Option Cursor
  pub told : Exchanged
  pub exchanges : Exchanges asked q given s from told
  pub no_more : told.more ≡ false
