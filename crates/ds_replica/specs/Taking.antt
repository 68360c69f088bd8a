-- The knowledge of a holder after it takes items.
use Rattle.std.specs.Prelude.{Bool, List, [], ◌++◌, map, filter, Contains}
use Rattle.ds_names.specs.declared.key.Key.{Key}
use Rattle.ds_entry.specs.Item.{passes}
use Rattle.ds_entry.specs.declared.item.Item.{Item}
use Rattle.ds_join.specs.ItemTop.{IsTop}
use Rattle.ds_replica.specs.Sent.{Sent, IsSent, stood_for}
use Rattle.ds_replica.specs.CatchUp.{MapHolds}

-- The items alone, without what they stand for.
abbrev pub items_of : List Sent → List Item
items_of sent = map (λ s. s.item) sent

-- The items that are under a query.
abbrev pub sent_under : (Key → Bool) → List Sent → List Sent
sent_under query sent = filter (λ s. passes query s.item) sent

-- A law: a holder that merges items holds the top of everything that it knew and that the items stand for.
abbrev pub HolderTakes : Type 0
HolderTakes =
    (known held new : List Item) (more : List Sent) → ((s : Sent) → Contains more s → IsSent s) → IsTop held known →
    IsTop new (held ++ items_of more) → IsTop new (known ++ stood_for more)

-- A law: a new map has taken nothing.
abbrev pub NewMapIsMap : Type 0
NewMapIsMap = (query : Key → Bool) → MapHolds query [] []

-- A law: a map that merges the items under its query has taken all of the items.
abbrev pub MapsTake : Type 0
MapsTake =
    (query : Key → Bool) (items more : List Sent) (held new : List Item) → ((s : Sent) → Contains more s → IsSent s) →
    MapHolds query items held →
    IsTop new (held ++ items_of (sent_under query more)) → MapHolds query (items ++ more) new
