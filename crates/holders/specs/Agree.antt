-- Agreement of holders.
use Rattle.std.specs.Prelude.{◌≡◌, Bool, List, ◌++◌, Contains}
use Rattle.std.specs.List.{flat_map}
use Rattle.ds_names.specs.declared.key.Key.{Key}
use Rattle.ds_entry.specs.declared.item.Item.{Item}
use Rattle.ds_entry.specs.Under.{under}
use Rattle.ds_join.specs.ItemTop.{CoversAll, IsTop}
use Rattle.ds_machine.specs.Reached.{AreExact}
use Rattle.holders.specs.Holding.{HolderRecord, all_held, Knows}

-- A law: a holder holds the top of what it was brought.
abbrev pub HeldIsTopOfKnown : Type 0
HeldIsTopOfKnown = (holder : HolderRecord) (known : List Item) → Knows holder known → IsTop (all_held holder) known

-- Whether under a query each list covers the other.
pub record CoverEachOther (query : Key → Bool) (known other : List Item) : Type 0 where
  pub there : CoversAll (under query other) (under query known)
  pub here : CoversAll (under query known) (under query other)

-- A law: two holders hold the same under a query if what they were brought is exact there and covers each other.
abbrev pub TwoAgree : Type 0
TwoAgree =
    (query : Key → Bool) (one two : HolderRecord) (known other : List Item) → Knows one known → Knows two other →
    AreExact (under query known ++ under query other) → CoverEachOther query known other →
    under query (all_held one) ≡ under query (all_held two)

-- A law: so they do if what both hold there in the end is exact.
abbrev pub TwoAgreeByHeld : Type 0
TwoAgreeByHeld =
    (query : Key → Bool) (one two : HolderRecord) (known other : List Item) → Knows one known → Knows two other →
    AreExact (under query (all_held one) ++ under query (all_held two)) → CoverEachOther query known other →
    under query (all_held one) ≡ under query (all_held two)

-- A law: what covers all that a holder holds under a query covers all that it was brought there. So a holder is brought enough of
-- another if it is brought a snapshot of it, or all its pages or checks.
abbrev pub HeldCoversKnown : Type 0
HeldCoversKnown =
    (query : Key → Bool) (two : HolderRecord) (known other : List Item) → Knows two other →
    CoversAll (under query known) (under query (all_held two)) → CoversAll (under query known) (under query other)

-- A holder with what it was brought.
pub record Brought : Type 0 where
  pub holder : HolderRecord
  pub known : List Item
  pub knows : Knows holder known

-- A law: of any number of holders, each two hold the same under a query, if all that they were brought is exact there, and what
-- each was brought covers what every other was.
abbrev pub AllAgree : Type 0
AllAgree =
    (query : Key → Bool) (holders : List Brought) → AreExact (under query (flat_map (λ (b : Brought). b.known) holders)) →
    ((b c : Brought) → Contains holders b → Contains holders c → CoversAll (under query c.known) (under query b.known)) →
    (b c : Brought) → Contains holders b → Contains holders c → under query (all_held b.holder) ≡ under query (all_held c.holder)
