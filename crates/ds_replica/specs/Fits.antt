-- When an account fits a world.
use Rattle.std.specs.Prelude.{◌≡◌, List, Contains}
use Rattle.std.specs.List.{AllZip}
use Rattle.ds_entry.specs.declared.item.Item.{Item}
use Rattle.ds_join.specs.ItemTop.{IsTop, IsPartOf}
use Rattle.ds_pattern.specs.Under.{is_under}
use Rattle.ds_replica.specs.Sent.{Sent, IsSent}
use Rattle.ds_replica.specs.Taking.{items_of}
use Rattle.ds_replica.specs.CatchUp.{MapHolds}
use Rattle.ds_machine.specs.State.{State, held}
use Rattle.ds_machine.specs.Reached.{IsReached}
use Rattle.ds_replica.specs.World.{MapState, World}
use Rattle.ds_replica.specs.Known.{StoreAccount, MapAccount, Account}

-- Whether everything that the items stand for was brought in.
abbrev pub AreWithin : List Item → List Sent → Type 0
AreWithin brought items = (s : Sent) → Contains items s → IsPartOf s.stands_for brought

-- The store's state is the account's, it holds the top of what it knows, it knows all that took effect, and all that it
-- knows was brought in.
pub record FitsStore (brought : List Item) (account : StoreAccount) (s : State) : Type 0 where
  pub state_is : account.state ≡ s
  pub reached : IsReached s
  pub top : IsTop (held s) account.known
  pub accepted : IsPartOf s.feed.accepted account.known
  pub within : IsPartOf account.known brought

-- The map has the account's query, and holds the top of what it knows.
pub record FitsMap (brought : List Item) (account : MapAccount) (m : MapState) : Type 0 where
  pub query_is : account.query ≡ m.query
  pub map : MapHolds (is_under account.query) account.taken m.held
  pub within : AreWithin brought account.taken

-- The message has the account's items. Each is the top of what it stands for.
pub record FitsMessage (brought : List Item) (account : List Sent) (items : List Item) : Type 0 where
  pub items_are : items_of account ≡ items
  pub sent : (s : Sent) → Contains account s → IsSent s
  pub within : AreWithin brought account

-- Whether each holder holds the top of what it knows, each message has the account's items, and everything was brought in.
pub record Fits (account : Account) (w : World) : Type 0 where
  pub a : FitsStore account.brought account.a w.a
  pub b : FitsStore account.brought account.b w.b
  pub maps : AllZip (FitsMap account.brought) account.maps w.maps
  pub messages : AllZip (FitsMessage account.brought) account.messages w.messages
