-- What each holder knows.
use Rattle.std.specs.Prelude.{ℕ, List, [], ◌∷◌, ◌++◌, take, fold, Option, Some, None, slice_set}
use Rattle.std.specs.List.{slice_get}
use Rattle.std.specs.Option.{option_map_or}
use Rattle.ds_entry.specs.declared.item.Item.{Item}
use Rattle.ds_held.specs.Limits.{LimitsRecord}
use Rattle.ds_pattern.specs.declared.query.Query.{Query}
use Rattle.ds_pattern.specs.Under.{is_under}
use Rattle.ds_replica.specs.Sent.{Sent, given, stood_for, learnt}
use Rattle.ds_replica.specs.Taking.{items_of}
use Rattle.ds_machine.specs.State.{State, takes_effect, opening}
use Rattle.ds_machine.specs.Standing.{cause_of}
use Rattle.ds_machine.specs.Machine.{outcome}
use Rattle.ds_machine.specs.Effect.{brought_by, learnt_by}
use Rattle.ds_machine.specs.declared.command.Command.{Command}
use Rattle.ds_machine.specs.declared.reply.Reply.{Reply}
use Rattle.ds_machine.specs.declared.reply.Reply.TheVariants.{Merged as AllMerged, MergeStopped, Refused as Refusing}
use Rattle.ds_replica.specs.declared.seed.Seed.{Seed}
use Rattle.ds_replica.specs.declared.event.Side.{Side}
use Rattle.ds_replica.specs.declared.event.Side.TheVariants.{A, B}
use Rattle.ds_replica.specs.declared.event.Holder.{Holder}
use Rattle.ds_replica.specs.declared.event.Holder.TheVariants.{Store, Map}
use Rattle.ds_replica.specs.declared.event.Event.{Event}
use Rattle.ds_replica.specs.declared.event.Event.TheVariants.{Ask, NewMap, Deliver, ClearMap, RestartStore}
use Rattle.ds_replica.specs.declared.outcome.Outcome.{Outcome}
use Rattle.ds_replica.specs.declared.outcome.Outcome.TheVariants.{Replied, Made, MapMade, Merged, Stopped, Cleared, Restarted}
use Rattle.ds_replica.specs.Happens.{items_given, reopened}

-- The account of a store: its state with the accepted list, and what it knows since it was opened or restarted.
pub record StoreAccount : Type 0 where
  pub state : State
  pub known : List Item

-- The account of a map: its query, and the items that it was given and that were done, since it was made or cleared.
pub record MapAccount : Type 0 where
  pub query : Query
  pub taken : List Sent

-- The account of a world: what each holder knows, what each item of each message stands for, and everything that Asks
-- brought into a store.
pub record Account : Type 0 where
  pub a : StoreAccount
  pub b : StoreAccount
  pub maps : List MapAccount
  pub messages : List (List Sent)
  pub brought : List Item

abbrev pub store_of : Account → Side → StoreAccount
store_of account A = account.a
store_of account B = account.b

-- What a map knows: what its items stand for, under its query.
abbrev pub known_by : MapAccount → List Item
known_by m = learnt (is_under m.query) m.taken

abbrev pub map_known : Option MapAccount → List Item
map_known None = []
map_known (Some m) = known_by m

-- What a holder knows.
abbrev pub known_at : Account → Holder → List Item
known_at account (Store side) = (store_of account side).known
known_at account (Map j) = map_known (slice_get account.maps j)

-- ---- a store

-- The state after one more item: it takes effect unless a cause applies to it.
abbrev pub took_one : State → Item → State
took_one s i = option_map_or (λ cause. s) (cause_of s i) (takes_effect s (i ∷ []))

abbrev pub took_all : State → List Item → State
took_all s items = fold took_one s items

-- The state that a step leaves, as its reply determines it.
abbrev pub state_left_by : State → Command → Reply → State
state_left_by s command (Refusing refusal) = s
state_left_by s command (AllMerged done taken stale owed) = took_all s (brought_by s command)
state_left_by s command (MergeStopped done fault owed) = took_all s (take done (brought_by s command))
state_left_by s command _ = (outcome s command).1

-- The store's account after a command: it knows what the command brought, too.
abbrev pub store_asked : StoreAccount → Command → Reply → StoreAccount
store_asked a command reply = record { state = state_left_by a.state command reply; known = a.known ++ learnt_by a.state command reply }

-- The store's account after a delivery: it knows everything that the items stand for, too.
abbrev pub took : StoreAccount → List Sent → StoreAccount
took a items = record { state = took_all a.state (items_of items); known = a.known ++ stood_for items }

-- The account of a store that was just opened or restarted: it knows nothing.
abbrev pub opened : State → StoreAccount
opened s = record { state = s; known = [] }

-- ---- an account

abbrev pub with_account : Account → Side → StoreAccount → Account
with_account account A a = record account { a = a }
with_account account B b = record account { b = b }

-- The messages after a reply: a reply with items becomes one more. Each item stands for everything that the store knew
-- and that the item covers.
abbrev pub with_sent : List (List Sent) → List Item → Option (List Item) → List (List Sent)
with_sent messages known None = messages
with_sent messages known (Some items) = messages ++ given known items ∷ []

-- The account after a store replied to a command.
abbrev pub with_reply : Account → Side → Command → Reply → Account
with_reply account side command reply = record (with_account account side (store_asked (store_of account side) command reply)) {
  messages = with_sent account.messages (store_of account side).known (items_given reply);
  brought = account.brought ++ learnt_by (store_of account side).state command reply;
}

-- The items of a message; none if there is no such message.
abbrev pub message_items : Option (List Sent) → List Sent
message_items None = []
message_items (Some items) = items

abbrev pub map_took : List MapAccount → ℕ → List Sent → Option MapAccount → List MapAccount
map_took maps j items None = maps
map_took maps j items (Some m) = slice_set maps j (record m { taken = m.taken ++ items })

abbrev pub map_cleared : List MapAccount → ℕ → Option MapAccount → List MapAccount
map_cleared maps j None = maps
map_cleared maps j (Some m) = slice_set maps j (record m { taken = [] })

-- The account after these items were delivered to a holder, and done.
abbrev pub delivered : Account → Holder → List Sent → Account
delivered account (Store side) items = with_account account side (took (store_of account side) items)
delivered account (Map j) items = record account { maps = map_took account.maps j items (slice_get account.maps j) }

-- The first items of a message, with what they stand for.
abbrev pub sent_first : Account → ℕ → ℕ → List Sent
sent_first account k done = take done (message_items (slice_get account.messages k))

-- The account after an event with this outcome. A reply that is kept as a message is the machine's own.
abbrev pub extended : Account → Event → Outcome → Account
extended account (Ask side command) (Replied reply) = with_reply account side command reply
extended account (Ask side command) (Made k) = with_reply account side command (outcome (store_of account side).state command).0
extended account (NewMap query) (MapMade j) = record account { maps = account.maps ++ record { query = query; taken = [] } ∷ [] }
extended account (Deliver k holder count) (Merged counted owed) = delivered account holder (sent_first account k counted.done)
extended account (Deliver k holder count) (Stopped done fault owed) = delivered account holder (sent_first account k done)
extended account (ClearMap j) Cleared = record account { maps = map_cleared account.maps j (slice_get account.maps j) }
extended account (RestartStore side incarnation) Restarted =
    with_account account side (opened (reopened (store_of account side).state incarnation))
extended account _ _ = account

abbrev pub extended_all : Account → List (Event × Outcome) → Account
extended_all account [] = account
extended_all account (e ∷ es) = extended_all (extended account e.0 e.1) es

-- The account in which nobody knows anything.
abbrev pub new_account : Seed → Seed → LimitsRecord → Account
new_account a b limits = record {
  a = opened (opening a.incarnation a.first a.ring limits);
  b = opened (opening b.incarnation b.first b.ring limits);
  maps = [];
  messages = [];
  brought = [];
}
