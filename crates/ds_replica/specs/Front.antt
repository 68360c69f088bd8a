-- A store at an earlier time of the same incarnation.
use Rattle.std.specs.Prelude.{◌≡◌, List, ◌++◌}
use Rattle.ds_entry.specs.declared.item.Item.{Item}
use Rattle.ds_feed.specs.declared.cursor.Cursor.{Cursor}
use Rattle.ds_feed.specs.Feed.{Feed, position}

-- Whether the first feed is the other one now or at an earlier time: both have the same incarnation, and the other one's
-- accepted list begins with the first one's.
pub record IsFront (early late : Feed) : Type 0 where
  pub incarnation : late.incarnation ≡ early.incarnation
  pub first : late.first ≡ early.first
  pub grown : (since : List Item) × (late.accepted ≡ early.accepted ++ since)

-- The cursor after everything that took effect.
abbrev pub end_of : Feed → Cursor
end_of f = record { incarnation = f.incarnation; position = position f }
