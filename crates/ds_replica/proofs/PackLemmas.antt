-- Packed replies.
use Rattle.std.proofs.Common.{◌≡◌, ◌≢◌, true, List, [], ◌∷◌, ◌++◌, is_some, refl}
use Rattle.ds_entry.specs.declared.item.Item.{Item}
use Rattle.ds_machine.specs.Copying.{ReplyCopyTakesMemory}
use Rattle.ds_replica.specs.Happens.{items_given}
use Rattle.ds_replica.specs.Head.{reply_with, IsHead}
use Rattle.ds_replica.specs.declared.head.Head.{Head}
use Rattle.ds_replica.specs.declared.head.Head.TheVariants.{Checked, Journaled, Snapped, Paged}

-- A packed reply has a list of items.
pub packed_has_items : (head : Head) (items : List Item) → is_some (items_given (reply_with head items)) ≡ true
packed_has_items (Checked before after) items = refl
packed_has_items (Journaled cursor) items = refl
packed_has_items (Snapped cursor) items = refl
packed_has_items (Paged last cursor) items = refl

-- Its head is the one that it was packed with.
pub head_of_packed : (head : Head) (items : List Item) → IsHead head (reply_with head items)
head_of_packed (Checked before after) items = refl
head_of_packed (Journaled cursor) items = refl
head_of_packed (Snapped cursor) items = refl
head_of_packed (Paged last cursor) items = refl

-- Its copy takes memory if it has an item.
pub packed_takes_memory : (head : Head) (items : List Item) → items ≢ [] → ReplyCopyTakesMemory (reply_with head items)
packed_takes_memory (Checked before after) items some = some
packed_takes_memory (Journaled cursor) items some = some
packed_takes_memory (Snapped cursor) items some = some
packed_takes_memory (Paged last cursor) items some = some

-- Items with one more are some.
pub one_is_some : (first all : List Item) (x : Item) (left : List Item) → first ++ x ∷ left ≡ all → all ≢ []
one_is_some [] all x left same = λ none. cc
one_is_some (y ∷ first) all x left same = λ none. cc
