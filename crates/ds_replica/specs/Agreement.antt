-- Holders that hold equal entries.
use Rattle.std.specs.Prelude.{◌≡◌, Bool, List, ◌++◌}
use Rattle.ds_names.specs.declared.key.Key.{Key}
use Rattle.ds_entry.specs.ItemCovers.{AreSingleNumbered}
use Rattle.ds_entry.specs.declared.item.Item.{Item}
use Rattle.ds_join.specs.ItemTop.{IsTop, IsPartOf, CoversAll}
use Rattle.ds_join.specs.ItemJoin.{IsJoin}
use Rattle.ds_entry.specs.Under.{under, entries_of}

-- Whether both know the same items under the query.
pub record KnowSame (query : Key → Bool) (known other : List Item) : Type 0 where
  pub there : IsPartOf (under query known) (under query other)
  pub here : IsPartOf (under query other) (under query known)

-- A law: holders that know the same items under a query hold the same items under it, with tombstones, versions and
-- floors. So their entries are equal.
abbrev pub HoldersAgree : Type 0
HoldersAgree =
    (query : Key → Bool) (known other held too : List Item) → IsTop held known → IsTop too other → AreSingleNumbered (under query known) →
    KnowSame query known other →
    (under query held ≡ under query too) × (entries_of (under query held) ≡ entries_of (under query too))

-- A law: what is held under a query is the top of what is known under it.
abbrev pub TopUnderQuery : Type 0
TopUnderQuery = (query : Key → Bool) (known held : List Item) → IsTop held known → IsTop (under query held) (under query known)

-- A law: the join of two holdings is the top of everything that either holder knows.
abbrev pub JoinOfHolders : Type 0
JoinOfHolders =
    (known other held too joined : List Item) → IsTop held known → IsTop too other → IsJoin joined held too → IsTop joined (known ++ other)

-- A law: the join of two holdings, under a query, is the join of what each has under it.
abbrev pub JoinUnderQuery : Type 0
JoinUnderQuery =
    (query : Key → Bool) (held too joined : List Item) → IsJoin joined held too →
    IsJoin (under query joined) (under query held) (under query too)

-- A law: a holder that knows more holds at least as much.
abbrev pub MoreIsHeld : Type 0
MoreIsHeld = (known more held too : List Item) → IsTop held known → IsTop too more → IsPartOf known more → CoversAll too held
