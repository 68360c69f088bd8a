-- The items of several replies, in order.
use Rattle.std.specs.Prelude.{List, [], ◌∷◌, ◌++◌}
use Rattle.ds_entry.specs.declared.item.Item.{Item}
use Rattle.ds_replica.specs.Checked.{CheckTurn}
use Rattle.ds_replica.specs.Journaled.{SinceTurn}
use Rattle.ds_replica.specs.Paged.{PageTurn}

abbrev pub checked : List CheckTurn → List Item
checked [] = []
checked (t ∷ ts) = t.items ++ checked ts

abbrev pub journaled : List SinceTurn → List Item
journaled [] = []
journaled (t ∷ ts) = t.since.items ++ journaled ts

abbrev pub paged : List PageTurn → List Item
paged [] = []
paged (t ∷ ts) = t.page.items ++ paged ts
