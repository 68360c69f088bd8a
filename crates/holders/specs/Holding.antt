-- Holders of items: stores and subscribers' maps. What a holder holds, and what it was brought since it was empty.
use Rattle.std.specs.Prelude.{◌≡◌, List, [], ◌∷◌, ◌++◌}
use Rattle.std.specs.List.{flat_map}
use Rattle.history.specs.declared.entry.Entry.{Entry}
use Rattle.history.specs.History.{Path, Run}
use Rattle.ds_entry.specs.declared.item.Item.{Item}
use Rattle.ds_entry.specs.Under.{under}
use Rattle.ds_held.specs.Held.{held_items}
use Rattle.ds_pattern.specs.declared.query.Query.{Query}
use Rattle.ds_pattern.specs.Under.{is_under}
use Rattle.ds_machine.specs.Reached.{IsReached}
use Rattle.ds_machine.specs.State.{State, held as held_in}
use Rattle.ds_machine.specs.Effect.{learnt_by}
use Rattle.ds_machine.specs.declared.command.Command.{Command}
use Rattle.ds_machine.specs.declared.reply.Reply.{Reply}
use Rattle.ds_replica.specs.Known.{state_left_by}
use Rattle.ds_content.specs.Content.{ContentRecord}
use Rattle.ds_content.specs.Stands.{ContentStands}
use Rattle.ds_store.specs.Turns.{Answered, Turn}
use Rattle.ds_submap.specs.Map.{SubMapRecord, empty_map}
use Rattle.ds_submap.specs.Take.{JoinsUnder}

-- ---- a store

-- The items that commands brought, in order: of each command those that its reply makes known.
abbrev pub learnt_over : State → List (Entry Command Reply) → List Item
learnt_over s [] = []
learnt_over s (e ∷ es) = learnt_by s e.command e.reply ++ learnt_over (state_left_by s e.command e.reply) es

-- Whether a store was brought just these items, by its turns since it was opened or restarted.
pub record StoreKnows (now : ContentRecord) (known : List Item) : Type 0 where
  pub opened : ContentRecord
  pub start : State
  pub content : ContentStands opened start
  pub empty : start.feed.accepted ≡ []
  pub turns : List (Entry Command Reply)
  pub run : Run Turn opened turns now
  pub known_is : known ≡ learnt_over start turns

-- Whether a store was brought just these items by a history, which leads to this state. So it is of a store at a desk, by any history that
-- a pass has seen.
pub record StateKnows (now : State) (known : List Item) : Type 0 where
  pub start : State
  pub reached : IsReached start
  pub empty : start.feed.accepted ≡ []
  pub turns : List (Entry Command Reply)
  pub run : Run Answered start turns now
  pub known_is : known ≡ learnt_over start turns

-- ---- a map

-- Whether a map merged the items under its query. These are the items that a take did.
pub record MergesUnder (old : SubMapRecord) (items : List Item) (new : SubMapRecord) : Type 0 where
  pub joined : JoinsUnder old.query old.held items new.held
  pub query : new.query ≡ old.query

-- The items under the query, of all takes in order.
abbrev pub taken_under : Query → List (List Item) → List Item
taken_under q takes = flat_map (under (is_under q)) takes

-- Whether a map was brought just these items, by its takes since it was made or cleared.
pub record MapKnows (now : SubMapRecord) (known : List Item) : Type 0 where
  pub takes : List (List Item)
  pub path : Path MergesUnder (empty_map now.query) takes now
  pub known_is : known ≡ taken_under now.query takes

-- ---- any of them

pub data HolderRecord : Type 0 where
  StoreOf : ContentRecord → HolderRecord
  StateOf : State → HolderRecord
  MapOf : SubMapRecord → HolderRecord

-- Everything that is held: floors and tombstones too.
abbrev pub all_held : HolderRecord → List Item
all_held (StoreOf store) = store.held
all_held (StateOf state) = held_in state
all_held (MapOf map) = held_items map.held

-- Whether a holder was brought just these items.
abbrev pub Knows : HolderRecord → List Item → Type 0
Knows (StoreOf store) known = StoreKnows store known
Knows (StateOf state) known = StateKnows state known
Knows (MapOf map) known = MapKnows map known
