-- A holder that follows a store holds what the store holds.
use Rattle.std.proofs.Common.{◌≡◌, ℕ, ◌≤◌, Bool, List, ◌∷◌, ◌++◌, arith}
use Rattle.ds_names.specs.declared.key.Key.{Key}
use Rattle.ds_entry.specs.Item.{passes}
use Rattle.ds_entry.specs.declared.item.Item.{Item}
use Rattle.ds_join.specs.ItemTop.{IsTop}
use Rattle.ds_feed.specs.declared.cursor.Cursor.{Cursor}
use Rattle.ds_feed.specs.Feed.{Feed, position}
use Rattle.ds_feed.specs.Page.{snapshot_of}
use Rattle.ds_replica.specs.Sent.{Sent, given}
use Rattle.ds_replica.specs.Front.{end_of}
use Rattle.ds_replica.specs.Whole.{IsWhole}
use Rattle.ds_replica.specs.Journaled.{since_items, cursor_after}
use Rattle.ds_replica.specs.Paged.{page_items, last_cursor}
use Rattle.ds_replica.specs.Following.{HasTaken, FollowsFromSnapshot, FollowsFromPages}
use Rattle.ds_replica.proofs.WholeLemmas.{snapshot_is_whole, more_is_whole, earlier_is_whole, whole_stays}
use Rattle.ds_replica.proofs.JournalLemmas.{sinces_extend}
use Rattle.ds_replica.proofs.HoldingLemmas.{holds_the_stores}
use Rattle.ds_replica.proofs.PageLemmas.{pages_are_whole, pages_end}
use Rattle.ds_entry.specs.Under.{under}

-- A map whose items are whole up to the store's position or further.
holds : (f : Feed) (query : Key → Bool) (stored held : List Item) (items taken : List Sent) (r : ℕ) → IsTop stored f.accepted →
    HasTaken query stored held items taken → position f ≤ r → IsWhole f query items r → held ≡ under query stored
holds f query stored held items taken r s t l w =
    (holds_the_stores f query taken stored held s t.map
    (earlier_is_whole f query taken (position f) r l (more_is_whole f query items taken r t.all w)) t.nothing_else t.numbers).0

pub follows_from_snapshot : FollowsFromSnapshot
follows_from_snapshot f early known top stored held scope other query turns taken keep keep_other front knows t s l st h =
    let items = given known (snapshot_of (passes scope) top (end_of early)).items in
    let then : IsWhole early query items (position early) = snapshot_is_whole early known top scope query t knows keep in
    let now : IsWhole f query items (position early) = whole_stays early f query items (position early) front (omega arith) then in
    holds f query stored held (items ++ since_items turns) taken (cursor_after (end_of early) turns).position st h l
    (sinces_extend f other query items (end_of early) turns keep_other s now)

pub follows_from_pages : FollowsFromPages
follows_from_pages f stored held scope other query first pages turns taken keep keep_other w s l st h =
    let from : Cursor = first.page.cursor in
    let last : (last_cursor from pages).position ≤ position f = pages_end f scope first pages w in
    holds f query stored held (page_items (first ∷ pages) ++ since_items turns) taken (cursor_after from turns).position st h l
    (pages_are_whole f scope other query first pages turns keep keep_other w s (omega arith))
