-- The effects of a refresh, from the pass p and the follower f to q and g.
use Rattle.std.specs.Prelude.{◌≡◌, ◌≢◌, ◌⊎◌, ℕ, ◌<◌, ◌≤◌, List, [], ◌∷◌, ◌++◌, length, take, Option, Some, None}
use Rattle.std.specs.List.{AllByRecursion}
use Rattle.history.specs.declared.entry.Entry.{Entry}
use Rattle.history.specs.History.{Path}
use Rattle.ds_entry.specs.declared.item.Item.{Item}
use Rattle.ds_pattern.specs.declared.query.Query.{Query}
use Rattle.ds_machine.specs.declared.command.Command.{Command}
use Rattle.ds_machine.specs.declared.reply.Reply.{Reply}
use Rattle.ds_machine.specs.declared.reply.Reply.TheVariants.{Subscribed, Checked, Refused}
use Rattle.ds_submap.specs.Map.{SubMapRecord, empty_map}
use Rattle.ds_submap.specs.Take.{JoinsUnder}
use Rattle.desk_store.specs.Following.{IsCurrent}
use Rattle.desk_store.specs.Called.{HadAccepted, Made}
use Rattle.desk_store.specs.Record.{AfterEach, HasLegalHistory, PassRecord, place_after}
use Rattle.desk_store.specs.Seat.{IsSameSeat, SeatRecord}
use Rattle.desk_store.specs.declared.refreshing.Fresh.{Fresh}
use Rattle.desk_store.specs.declared.refreshing.Fresh.TheVariants.{UpTo, More}
use Rattle.desk_store.specs.Follower.{FollowerRecord, IsSameFollower, mapped}
use Rattle.desk_store.specs.FollowerCalls.{AreOpenCalls, ChecksLast, IsOfFollower, IsOpenCall}
use Rattle.desk_store.specs.KeepsUp.{KeepsUpWith}

-- Whether all of these calls are the follower's.
abbrev pub AreOfFollower : ℕ → Query → List (Entry Command Reply) → Type 0
AreOfFollower sub query own = AllByRecursion (λ (e : Entry Command Reply). IsOfFollower sub query e.command) own

-- Whether at most `limit` calls were made, each of them the follower's.
pub record CallsOnly (p q : PassRecord) (f : FollowerRecord) (limit : ℕ) : Type 0 where
  pub own : List (Entry Command Reply)
  pub made : Made p q own
  pub few : length own ≤ limit
  pub theirs : AreOfFollower f.sub f.map.query own

-- Like `CallsOnly`, for a seat.
abbrev pub SeatCallsOnly : SeatRecord → SeatRecord → FollowerRecord → ℕ → Type 0
SeatCallsOnly s t f limit = IsSameSeat s t × CallsOnly s.pass t.pass f limit

-- Whether the place is the first one after the history that q has seen, and the map is what the store holds there under the query.
pub record IsUpTo (q : PassRecord) (g : FollowerRecord) (place : ℕ) : Type 0 where
  pub at : place ≡ place_after q
  pub current : AfterEach q q.history (λ t. IsCurrent t g.map.query (mapped g))

-- Whether the last call ended the refresh, and none before it did. Its place is above all that p had seen.
pub record EndsUpTo (p q : PassRecord) (f g : FollowerRecord) (limit place : ℕ) : Type 0 where
  pub own : List (Entry Command Reply)
  pub last : Entry Command Reply
  pub stamp : ℕ
  pub after : ℕ
  pub made : Made p q (own ++ last ∷ [])
  pub legal : HasLegalHistory q
  pub few : length own < limit
  pub open_calls : AreOpenCalls f.sub f.map.query f.stamp own (Some stamp)
  pub ends : ChecksLast f.sub last stamp after
  pub stamp_is : g.stamp ≡ Some after
  pub up_to : IsUpTo q g place
  pub above : place_after p < place

-- Whether exactly `limit` calls were made, and none of them ended the refresh.
pub record EndsMore (p q : PassRecord) (f g : FollowerRecord) (limit : ℕ) : Type 0 where
  pub own : List (Entry Command Reply)
  pub made : Made p q own
  pub legal : HasLegalHistory q
  pub all : length own ≡ limit
  pub open_calls : AreOpenCalls f.sub f.map.query f.stamp own g.stamp

abbrev pub Refreshes : PassRecord → PassRecord → FollowerRecord → FollowerRecord → ℕ → Fresh → Type 0
Refreshes p q f g limit (UpTo place) = EndsUpTo p q f g limit place
Refreshes p q f g limit More = EndsMore p q f g limit

-- Whether the map is unchanged, unless a call was accepted.
abbrev pub KeepsMap : PassRecord → PassRecord → FollowerRecord → FollowerRecord → Type 0
KeepsMap p q f g = (g.map ≡ f.map) ⊎ HadAccepted p q

-- ---- the map, call by call

-- Whether the map m takes the first of these items, as far as they are under its query, and is n then.
abbrev pub TakesFirst : SubMapRecord → List Item → SubMapRecord → Type 0
TakesFirst m items n = (count : ℕ) × JoinsUnder m.query m.held (take count items) n.held × (n.query ≡ m.query)

-- Whether a call with this reply leads the follower from f to g. An accepted Subscribe empties the map. A Check brings items if it returned
-- the follower's own stamp. If it returned another one, the follower is lost, and its map unchanged. A refused call changes nothing.
abbrev pub LeadsFollower : FollowerRecord → Reply → FollowerRecord → Type 0
LeadsFollower f (Subscribed stamp owed) g = (g.stamp ≡ Some stamp) × (g.map ≡ empty_map f.map.query)
LeadsFollower f (Checked items before after) g =
    ((f.stamp ≡ Some before) × (g.stamp ≡ Some after) × TakesFirst f.map items g.map)
    ⊎ ((f.stamp ≢ Some before) × (g.stamp ≡ None) × (g.map ≡ f.map))
LeadsFollower f (Refused refusal) g = g ≡ f
LeadsFollower f _ g = ⊥

-- Whether calls were made that lead the follower from f to g, in order.
pub record FollowerIsLed (p q : PassRecord) (f g : FollowerRecord) : Type 0 where
  pub own : List (Entry Command Reply)
  pub made : Made p q own
  pub leads : Path (λ (f : FollowerRecord) (e : Entry Command Reply) (g : FollowerRecord). LeadsFollower f e.reply g) f own g

-- Whether the map is that of a follower to which the calls lead, whatever stamp is kept after a fault.
pub record MapIsLed (p q : PassRecord) (f g : FollowerRecord) : Type 0 where
  pub last : FollowerRecord
  pub calls : FollowerIsLed p q f last
  pub map : g.map ≡ last.map

-- ---- call by call

-- Whether one call was made that didn't end the refresh.
pub record GoesOnBy (p q : PassRecord) (f g : FollowerRecord) : Type 0 where
  pub call : Entry Command Reply
  pub made : Made p q (call ∷ [])
  pub legal : HasLegalHistory q
  pub is_open : IsOpenCall f.sub f.map.query f.stamp call g.stamp

-- Whether one call was made that ended the refresh.
pub record EndsBy (p q : PassRecord) (f g : FollowerRecord) (place : ℕ) : Type 0 where
  pub call : Entry Command Reply
  pub stamp : ℕ
  pub after : ℕ
  pub made : Made p q (call ∷ [])
  pub legal : HasLegalHistory q
  pub stamped : f.stamp ≡ Some stamp
  pub ends : ChecksLast f.sub call stamp after
  pub stamp_is : g.stamp ≡ Some after
  pub up_to : IsUpTo q g place

-- The effect of one call, by whether it returned the place that ends the refresh.
abbrev pub TakesOneCall : PassRecord → PassRecord → FollowerRecord → FollowerRecord → Option ℕ → Type 0
TakesOneCall p q f g None = GoesOnBy p q f g
TakesOneCall p q f g (Some place) = EndsBy p q f g place

-- Whether `count` calls were made, and none of them ended the refresh.
pub record HasGone (p q : PassRecord) (f g : FollowerRecord) (count : ℕ) : Type 0 where
  pub own : List (Entry Command Reply)
  pub made : Made p q own
  pub legal : 0 < count → HasLegalHistory q
  pub all : length own ≡ count
  pub open_calls : AreOpenCalls f.sub f.map.query f.stamp own g.stamp
  pub keeps : KeepsUpWith q g
  pub same : IsSameFollower f g
