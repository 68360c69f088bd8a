-- The premises of the law of checks. The law is false without any one of them.
use Rattle.std.specs.Prelude.{◌≡◌, ◌<◌, Bool, List, [], ◌∷◌, ◌++◌, length}
use Rattle.ds_names.specs.declared.key.Key.{Key}
use Rattle.ds_entry.specs.declared.item.Item.{Item}
use Rattle.ds_feed.specs.Feed.{Feed, position}
use Rattle.ds_replica.specs.Whole.{IsWhole}
use Rattle.ds_replica.specs.Accepting.{AreNew}
use Rattle.ds_replica.specs.Checked.{CheckTurn, AreChecks, check_items}

pub record ChecksNeed : Type 0 where
  -- The last check returned fewer items than it may.
  pub fewer : ¬ ((early f : Feed) (query : Key → Bool) (since : List Item) (turns : List CheckTurn) (last : CheckTurn) →
      f.accepted ≡ early.accepted ++ since → AreNew early.accepted since →
      AreChecks early f query [] (turns ++ last ∷ []) → IsWhole f query (check_items (turns ++ last ∷ [])) (position last.feed))
  -- Nothing counted as shown at first.
  pub initial : ¬ ((early f : Feed) (query : Key → Bool) (since shown : List Item) (turns : List CheckTurn) (last : CheckTurn) →
      f.accepted ≡ early.accepted ++ since → AreNew early.accepted since →
      AreChecks early f query shown (turns ++ last ∷ []) → length last.items < last.max →
      IsWhole f query (check_items (turns ++ last ∷ [])) (position last.feed))
  -- No item that took effect meanwhile was covered already.
  pub new : ¬ ((early f : Feed) (query : Key → Bool) (turns : List CheckTurn) (last : CheckTurn) →
      AreChecks early f query [] (turns ++ last ∷ []) → length last.items < last.max →
      IsWhole f query (check_items (turns ++ last ∷ [])) (position last.feed))
