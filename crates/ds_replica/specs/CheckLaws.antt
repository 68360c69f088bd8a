-- The laws of checks.
use Rattle.std.specs.Prelude.{◌≡◌, ◌<◌, Bool, List, [], ◌∷◌, ◌++◌, length}
use Rattle.ds_names.specs.declared.key.Key.{Key}
use Rattle.ds_entry.specs.declared.item.Item.{Item}
use Rattle.ds_join.specs.ItemTop.{IsPartOf}
use Rattle.ds_feed.specs.Feed.{Feed, position}
use Rattle.ds_replica.specs.Sent.{Sent}
use Rattle.ds_replica.specs.Front.{IsFront}
use Rattle.ds_replica.specs.Whole.{IsWhole}
use Rattle.ds_replica.specs.Accepting.{AreNew}
use Rattle.ds_replica.specs.Checked.{CheckTurn, AreChecks, check_items}

-- A law: the items of all checks of a subscription are whole up to the last check. Nothing counted as shown at first, the
-- last check returned fewer items than it may, and the items that the store accepted meanwhile were new.
abbrev pub ChecksAreWhole : Type 0
ChecksAreWhole =
    (early f : Feed) (query : Key → Bool) (since : List Item) (turns : List CheckTurn) (last : CheckTurn) →
    f.accepted ≡ early.accepted ++ since → AreNew early.accepted since →
    AreChecks early f query [] (turns ++ last ∷ []) → length last.items < last.max →
    IsWhole f query (check_items (turns ++ last ∷ [])) (position last.feed)

-- A law: if some of the items that took effect before the first check counted as shown, the items of all checks are whole
-- together with items that were whole up to that time.
abbrev pub ChecksGoOn : Type 0
ChecksGoOn =
    (early begun f : Feed) (query : Key → Bool) (since shown : List Item) (items : List Sent) (turns : List CheckTurn) (last : CheckTurn) →
    f.accepted ≡ early.accepted ++ since → AreNew early.accepted since →
    IsFront early begun → IsFront begun f → IsPartOf shown begun.accepted → IsWhole f query items (position begun) →
    AreChecks early f query shown (turns ++ last ∷ []) → length last.items < last.max →
    IsWhole f query (items ++ check_items (turns ++ last ∷ [])) (position last.feed)
