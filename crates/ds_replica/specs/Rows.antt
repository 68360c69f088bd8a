-- Worked rows: events of a new world that meet what the statements require, and some that miss one condition.
use Rattle.std.specs.Prelude.{◌≡◌, ◌≢◌, ℕ, ◌+◌, true, List, [], ◌∷◌, ◌++◌, Some, None, codes}
use Rattle.ds_names.specs.declared.key.Key.{Key}
use Rattle.ds_names.specs.declared.kind.Kind.TheVariants.{U32}
use Rattle.ds_names.specs.declared.version.Version.{Version}
use Rattle.ds_names.specs.Endpoint.{endpoint_of}
use Rattle.ds_entry.specs.Change.{change_of}
use Rattle.ds_entry.specs.Floor.{floor_of}
use Rattle.ds_entry.specs.ItemCovers.{AreSingleNumbered}
use Rattle.ds_entry.specs.declared.body.Value.TheVariants.{Label, U32 as Number}
use Rattle.ds_entry.specs.declared.body.Body.TheVariants.{Put}
use Rattle.ds_entry.specs.declared.item.Item.{Item}
use Rattle.ds_entry.specs.declared.item.Item.TheVariants.{Change as Changed, Floor as Floored}
use Rattle.ds_held.specs.Limits.{larger}
use Rattle.ds_pattern.specs.declared.query.Query.{Query}
use Rattle.ds_pattern.specs.Under.{is_under}
use Rattle.ds_replica.specs.Agreement.{KnowSame}
use Rattle.ds_replica.specs.Labels.{label_in, IsNewest}
use Rattle.ds_machine.specs.Reached.{AreExact}
use Rattle.ds_machine.specs.declared.command.Scope.TheVariants.{All}
use Rattle.ds_machine.specs.declared.command.Command.{Command}
use Rattle.ds_machine.specs.declared.command.Command.TheVariants.{Publish, Sweep, Snapshot, Merge, Since}
use Rattle.ds_machine.specs.declared.refusal.Refusal.TheVariants.{Clash}
use Rattle.ds_machine.specs.declared.reply.Reply.TheVariants.{Changed as Accepted, Swept, Merged as AllMerged}
use Rattle.ds_replica.specs.declared.seed.Seed.{Seed}
use Rattle.ds_replica.specs.declared.event.Side.{Side}
use Rattle.ds_replica.specs.declared.event.Side.TheVariants.{A, B}
use Rattle.ds_replica.specs.declared.event.Holder.TheVariants.{Store, Map}
use Rattle.ds_replica.specs.declared.event.Event.{Event}
use Rattle.ds_replica.specs.declared.event.Event.TheVariants.{Ask, NewMap, Deliver, RestartStore}
use Rattle.ds_replica.specs.declared.outcome.Outcome.{Outcome}
use Rattle.ds_replica.specs.declared.outcome.Outcome.TheVariants.{Replied, Made, MapMade, Merged, Stopped, Restarted}
use Rattle.ds_replica.specs.World.{World, held_by, new_world}
use Rattle.ds_replica.specs.Delivery.{counting}
use Rattle.ds_replica.specs.Happens.{pattern_fault, Happens, HappenAll}
use Rattle.ds_replica.specs.Known.{Account, MapAccount, store_of, known_at, new_account, extended_all}
use Rattle.ds_replica.specs.CaughtUp.{HasAll, HasNothingElse, AreItems}
use Rattle.ds_names.specs.Name.{rs_name}
use Rattle.ds_names.specs.Key.{label_key}
use Rattle.ds_entry.specs.Under.{under}
use Rattle.ds_feed.specs.Feed.{all_keys}

abbrev example_seed : ℕ → Seed
example_seed incarnation = record { incarnation = incarnation; first = 0; ring = 4 }

abbrev pub fresh_world : World
fresh_world = new_world (example_seed 1) (example_seed 2) larger

-- The account of a new world after these events.
abbrev pub account_of : List (Event × Outcome) → Account
account_of events = extended_all (new_account (example_seed 1) (example_seed 2) larger) events

abbrev first_version : Version
first_version = record { epoch = 3; seq = 0 }

-- The label of a driver, and a floor of what an earlier generation of it published.
abbrev pub driver_label : Item
driver_label = Changed (change_of (label_key (codes "eth0")) rs_name first_version (Put (Label (endpoint_of 3 17))))

abbrev pub floor : Item
floor = Floored (floor_of (codes "eth0") 2)

abbrev first_publish : Command
first_publish = Publish (endpoint_of 0 2) (label_key (codes "eth0")) first_version (Label (endpoint_of 3 17)) true

abbrev swept : Command
swept = Sweep (endpoint_of 0 2) (codes "eth0") 2

-- A snapshot of a store, which becomes message 0.
abbrev snapshot : Side → Event × Outcome
snapshot side = (Ask side (Snapshot All), Made 0)

-- A label is published at one store, and a snapshot goes to the other.
abbrev pub only_published : List (Event × Outcome)
only_published = (Ask A first_publish, Replied (Accepted 0)) ∷ []

abbrev pub exchanged : List (Event × Outcome)
exchanged = only_published ++ snapshot A ∷ (Deliver 0 (Store B) None, Merged (counting 1 1 0) 0) ∷ []

-- The row in which both stores then know the same, without contradictions, and hold the same.
pub record ReplicasConverge : Type 0 where
  pub world : World
  pub happen : HappenAll fresh_world exchanged world
  pub numbers : AreSingleNumbered (account_of exchanged).brought
  pub same : KnowSame all_keys (known_at (account_of exchanged) (Store A)) (known_at (account_of exchanged) (Store B))
  pub held : held_by world (Store B) ≡ driver_label ∷ []

-- The row in which, without the delivery, the stores neither know nor hold the same.
pub record ReplicasDiffer : Type 0 where
  pub world : World
  pub happen : HappenAll fresh_world only_published world
  pub numbers : AreSingleNumbered (account_of only_published).brought
  pub differ : under all_keys (held_by world (Store A)) ≢ under all_keys (held_by world (Store B))

-- The events in which a map is made, and a store gets a floor and a label.
abbrev pub only_told : Query → Side → List (Event × Outcome)
only_told query side =
    (NewMap query, MapMade 0) ∷ (Ask side swept, Replied (Swept 0 0)) ∷ (Ask side first_publish, Replied (Accepted 0)) ∷ []

-- The events in which a snapshot of that store goes to the map.
abbrev pub sent : Query → Side → List (Event × Outcome)
sent query side = only_told query side ++ snapshot side ∷ (Deliver 0 (Map 0) None, Merged (counting 2 2 0) 0) ∷ []

-- What the map was then given.
abbrev pub with_both : Query → MapAccount
with_both query = record {
  query = query;
  taken = record { item = floor; stands_for = floor ∷ [] } ∷ record { item = driver_label; stands_for = driver_label ∷ [] } ∷ [];
}

-- The row in which the map then has all of that store and nothing else, and holds it with the label.
pub record MapCatchesUp (query : Query) : Type 0 where
  pub world : World
  pub happen : HappenAll fresh_world (sent query A) world
  pub numbers : AreSingleNumbered (account_of (sent query A)).brought
  pub items : AreItems (account_of (sent query A)).brought
  pub all : HasAll (account_of (sent query A)) 0 (with_both query) A
  pub nothing_else : HasNothingElse (account_of (sent query A)) (with_both query) A
  pub held : held_by world (Map 0) ≡ floor ∷ driver_label ∷ []
  pub named : label_in (held_by world (Map 0)) (codes "eth0") ≡ Some (endpoint_of 3 17)

-- The row in which, without the snapshot, the map hasn't all. It neither holds what the store holds nor has the newest
-- endpoint that the store knows.
pub record MapLags (query : Query) : Type 0 where
  pub world : World
  pub happen : HappenAll fresh_world (only_told query A) world
  pub numbers : AreSingleNumbered (account_of (only_told query A)).brought
  pub items : AreItems (account_of (only_told query A)).brought
  pub nothing_else : HasNothingElse (account_of (only_told query A)) (record { query = query; taken = [] }) A
  pub differ : held_by world (Map 0) ≢ under (is_under query) (held_by world (Store A))
  pub older : ¬ IsNewest (store_of (account_of (only_told query A)) A).known (codes "eth0")
      (label_in (held_by world (Map 0)) (codes "eth0"))

-- The row in which the other store sends the snapshot. The map then has all of this store and more, and has an endpoint
-- that this store doesn't know.
pub record MapLeads (query : Query) : Type 0 where
  pub world : World
  pub happen : HappenAll fresh_world (sent query B) world
  pub numbers : AreSingleNumbered (account_of (sent query B)).brought
  pub items : AreItems (account_of (sent query B)).brought
  pub all : HasAll (account_of (sent query B)) 0 (with_both query) A
  pub differ : held_by world (Map 0) ≢ under (is_under query) (held_by world (Store A))
  pub older : ¬ IsNewest (store_of (account_of (sent query B)) A).known (codes "eth0") (label_in (held_by world (Map 0)) (codes "eth0"))

-- Whether the query is accepted, and the key is under it.
pub record AsksFor (query : Query) (key : Key) : Type 0 where
  pub read : pattern_fault query ≡ None
  pub asked : is_under query key ≡ true

-- A law: the row holds for every query that the label is under.
abbrev pub MapsCatchUp : Type 0
MapsCatchUp = (query : Query) → AsksFor query (label_key (codes "eth0")) → MapCatchesUp query

abbrev pub MapsLag : Type 0
MapsLag = (query : Query) → AsksFor query (label_key (codes "eth0")) → MapLags query

abbrev pub MapsLead : Type 0
MapsLead = (query : Query) → AsksFor query (label_key (codes "eth0")) → MapLeads query

-- ---- changes that contradict each other

abbrev pub irq : Key
irq = record { name = codes "irq"; kind = U32 }

-- An entry of the driver, with this sequence number.
abbrev entry : ℕ → ℕ → Item
entry seq n = Changed (change_of irq (codes "eth0") (record first_version { seq = seq }) (Put (Number n)))

-- The first of two entries with one version.
abbrev pub one : Item
one = entry 0 9

abbrev pub other : Item
other = entry 0 11

abbrev pub later : Item
later = entry 1 9

-- A store gets one of the two, the later one and the other. It gives the first as a message, and is restarted.
abbrev told_both : Side → ℕ → ℕ → Item → Item → List (Event × Outcome)
told_both side incarnation k first second =
    (Ask side (Merge (first ∷ later ∷ second ∷ [])), Replied (AllMerged 3 2 1 0)) ∷
    (Ask side (Since All (record { incarnation = incarnation; position = 0 }) 1), Made k) ∷
    (RestartStore side (incarnation + 2), Restarted) ∷ []

-- The events in which both stores do so, with the two entries in opposite orders, and then each gets its own message back.
abbrev pub contradicted : List (Event × Outcome)
contradicted =
    told_both A 1 0 one other ++ told_both B 2 1 other one ++
    (Deliver 0 (Store A) None, Merged (counting 1 1 0) 0) ∷ (Deliver 1 (Store B) None, Merged (counting 1 1 0) 0) ∷ []

-- The row in which both stores then know the same but don't hold the same, and the message of one stops at the other by a
-- clash.
pub record ReplicasClash : Type 0 where
  pub world : World
  pub happen : HappenAll fresh_world contradicted world
  pub same : KnowSame all_keys (known_at (account_of contradicted) (Store A)) (known_at (account_of contradicted) (Store B))
  pub differ : under all_keys (held_by world (Store A)) ≢ under all_keys (held_by world (Store B))
  pub stops : Happens world (Deliver 1 (Store A) None) (Stopped 0 (Clash first_version) 0) world

-- A map is made, and gets the message of the other store.
abbrev pub and_a_map : Query → List (Event × Outcome)
and_a_map query = contradicted ++ (NewMap query, MapMade 0) ∷ (Deliver 1 (Map 0) None, Merged (counting 1 1 0) 0) ∷ []

-- What the map was then given.
abbrev pub with_other : Query → MapAccount
with_other query = record { query = query; taken = record { item = other; stands_for = other ∷ one ∷ [] } ∷ [] }

-- The row in which the map then has all of the first store and nothing else, but doesn't hold what that store holds.
pub record MapClashes (query : Query) : Type 0 where
  pub world : World
  pub happen : HappenAll fresh_world (and_a_map query) world
  pub all : HasAll (account_of (and_a_map query)) 0 (with_other query) A
  pub nothing_else : HasNothingElse (account_of (and_a_map query)) (with_other query) A
  pub differ : held_by world (Map 0) ≢ under (is_under query) (held_by world (Store A))

-- The row, for every query that the key is under.
abbrev pub MapsClash : Type 0
MapsClash = (query : Query) → AsksFor query irq → MapClashes query

-- ---- a key that comes back with another owner

-- A floor of everything that the driver published, and an entry of another owner under the key.
abbrev pub ended : Item
ended = Floored (floor_of (codes "eth0") 3)

abbrev pub renewed : Item
renewed = Changed (change_of irq (codes "eth1") first_version (Put (Number 11)))

-- A store gets the driver's entry, the floor and the other owner's entry, and a snapshot of it goes to the other store.
abbrev pub renewal : List (Event × Outcome)
renewal =
    (Ask A (Merge (one ∷ ended ∷ renewed ∷ [])), Replied (AllMerged 3 3 0 0)) ∷ snapshot A ∷
    (Deliver 0 (Store B) None, Merged (counting 2 2 0) 0) ∷ []

-- The row in which everything brought is exact but not single-numbered, and both stores know and hold the same.
pub record OwnersChange : Type 0 where
  pub world : World
  pub happen : HappenAll fresh_world renewal world
  pub exact : AreExact (account_of renewal).brought
  pub owners : ¬ AreSingleNumbered (account_of renewal).brought
  pub same : KnowSame all_keys (known_at (account_of renewal) (Store A)) (known_at (account_of renewal) (Store B))
  pub held : held_by world (Store B) ≡ ended ∷ renewed ∷ []
