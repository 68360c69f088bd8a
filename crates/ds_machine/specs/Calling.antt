-- The causes against the commands that have no change or floor of their own.
use Rattle.std.specs.Prelude.{ℕ, ◌+◌, Bool, false, not, ◌&&◌, ◌||◌, ◌==◌, nat_le, nat_lt, min, length}
use Rattle.ds_feed.specs.Feed.{Feed, position}
use Rattle.ds_feed.specs.declared.cursor.Cursor.{Cursor}
use Rattle.ds_pattern.specs.declared.query.Query.{Query}
use Rattle.ds_pattern.specs.Patterns.{is_pattern}
use Rattle.ds_machine.specs.declared.command.Scope.{Scope}
use Rattle.ds_machine.specs.declared.command.Scope.TheVariants.{All, Under}
use Rattle.ds_machine.specs.declared.refusal.Refusal.{Refusal}
use Rattle.ds_machine.specs.declared.refusal.Refusal.TheVariants.{BadSub, TooMany, TooLong, BadPattern, Exists}
use Rattle.ds_machine.specs.declared.refusal.Refusal.TheVariants.{NotFound, OldCursor, Ahead, Behind, Worn}
use Rattle.ds_names.specs.Limits.{most_items, longest_pattern, last_place}

-- Whether `max` is outside 1 to 256.
abbrev pub is_no_max : ℕ → Bool
is_no_max max = max == 0 || not (nat_le max most_items)

-- Whether the refusal applies to a query.
abbrev pub against_query : Query → Refusal → Bool
against_query query TooLong = not (nat_le (length query.text) longest_pattern)
against_query query BadPattern = not (is_pattern query.text)
against_query query _ = false

-- Whether the refusal applies to a scope.
abbrev pub against_scope : Scope → Refusal → Bool
against_scope All refusal = false
against_scope (Under query) refusal = against_query query refusal

-- A Subscribe and what it meets: the number of places, whether its place is taken, and the last stamp.
pub record SubscribeCase : Type 0 where
  pub places : ℕ
  pub taken : Bool
  pub stamp : ℕ
  pub sub : ℕ
  pub query : Query
  pub overwrite : Bool

-- Whether the refusal applies to a Subscribe.
abbrev pub against_subscribe : SubscribeCase → Refusal → Bool
against_subscribe x BadSub = nat_le x.places x.sub
against_subscribe x Exists = x.taken && not x.overwrite
against_subscribe x Worn = nat_le last_place x.stamp
against_subscribe x refusal = against_query x.query refusal

-- A Check and what it meets: the number of places, whether its place is taken, whether there is something to show, and
-- the last stamp.
pub record CheckCase : Type 0 where
  pub places : ℕ
  pub taken : Bool
  pub some : Bool
  pub stamp : ℕ
  pub sub : ℕ
  pub max : ℕ

-- Whether the refusal applies to a Check. Worn applies only if something is shown, since only then a stamp is taken.
abbrev pub against_check : CheckCase → Refusal → Bool
against_check x BadSub = nat_le x.places x.sub
against_check x TooMany = is_no_max x.max
against_check x NotFound = not x.taken
against_check x Worn = x.some && nat_le last_place x.stamp
against_check x _ = false

-- Whether the refusal applies to a Since: OldCursor for another incarnation, Ahead past the position, Behind if the
-- journal, which keeps the last `ring` items, doesn't reach back to the cursor.
abbrev pub against_since : Feed → Scope → Cursor → ℕ → Refusal → Bool
against_since f scope at max TooMany = is_no_max max
against_since f scope at max OldCursor = not (at.incarnation == f.incarnation)
against_since f scope at max Ahead = nat_lt (position f) at.position
against_since f scope at max Behind = nat_lt (at.position + min f.ring (length f.accepted)) (position f)
against_since f scope at max refusal = against_scope scope refusal

-- Whether the refusal applies to a Page.
abbrev pub against_page : Scope → ℕ → Refusal → Bool
against_page scope max TooMany = is_no_max max
against_page scope max refusal = against_scope scope refusal

-- Whether the refusal applies to a Merge of `count` items.
abbrev pub against_merge : ℕ → Refusal → Bool
against_merge count TooMany = not (nat_le count most_items)
against_merge count _ = false
