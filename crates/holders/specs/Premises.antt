-- Rows: agreement is false without one of its premises, and both hold of two maps, or two stores, that take different items.
use Rattle.std.specs.Prelude.{◌≡◌, ℕ, codes, Bool, true, List, [], ◌∷◌, ◌++◌, Contains}
use Rattle.ds_names.specs.Key.{label_key}
use Rattle.ds_names.specs.declared.key.Key.{Key}
use Rattle.ds_entry.specs.Item.{IsItem}
use Rattle.ds_entry.specs.declared.item.Item.{Item}
use Rattle.ds_entry.specs.Under.{under}
use Rattle.ds_feed.specs.Feed.{all_keys}
use Rattle.ds_join.specs.ItemTop.{CoversAll}
use Rattle.ds_machine.specs.Reached.{AreExact}
use Rattle.ds_pattern.specs.declared.query.Query.{Query}
use Rattle.ds_pattern.specs.Under.{is_under}
use Rattle.ds_content.specs.Content.{ContentRecord}
use Rattle.ds_submap.specs.Map.{IsMap, SubMapRecord, endpoint_of_label}
use Rattle.ds_replica.specs.Rows.{ended, irq, one}
use Rattle.holders.specs.Holding.{HolderRecord, MapOf, all_held, Knows, MapKnows, StoreKnows}
use Rattle.holders.specs.Agree.{CoverEachOther}
use Rattle.holders.specs.NoOlder.{NamesNoOlder}

-- A law: two maps can take the two bodies of one version. So agreement is false if what was brought isn't exact.
abbrev pub ExactIsNeeded : Type 0
ExactIsNeeded = (own : Query) → is_under own irq ≡ true → ¬
    ((query : Key → Bool) (first second : HolderRecord) (known more : List Item) → Knows first known → Knows second more →
    CoverEachOther query known more → under query (all_held first) ≡ under query (all_held second))

-- A law: a map can take more than another. So agreement is false if only one of the two covers the other.
abbrev pub CoveringIsNeeded : Type 0
CoveringIsNeeded = (own : Query) → is_under own irq ≡ true → ¬
    ((query : Key → Bool) (first second : HolderRecord) (known more : List Item) → Knows first known → Knows second more →
    AreExact (under query known ++ under query more) → CoversAll (under query more) (under query known) →
    under query (all_held first) ≡ under query (all_held second))

-- A law: a map can take an older label alone. So its label names an older generation than a change that its takes don't cover.
abbrev pub LabelsNeedCovering : Type 0
LabelsNeedCovering = (own : Query) → is_under own (label_key (codes "eth0")) ≡ true → ¬
    ((map : SubMapRecord) (brought known : List Item) (name : List ℕ) → IsMap map → MapKnows map brought →
    ((i : Item) → Contains brought i → IsItem i) → ((i : Item) → Contains known i → IsItem i) →
    is_under map.query (label_key name) ≡ true → NamesNoOlder brought known name (endpoint_of_label map.held name))

-- The row in which a map takes an entry and a floor that voids this, and another map takes the floor alone.
pub record MapsAgree (own : Query) : Type 0 where
  pub first : SubMapRecord
  pub second : SubMapRecord
  pub queries : (first.query ≡ own) × (second.query ≡ own)
  pub first_knows : MapKnows first (one ∷ ended ∷ [])
  pub second_knows : MapKnows second (ended ∷ [])
  pub exact : AreExact (under all_keys (one ∷ ended ∷ []) ++ under all_keys (ended ∷ []))
  pub cover : CoverEachOther all_keys (one ∷ ended ∷ []) (ended ∷ [])
  pub held : Contains (all_held (MapOf first)) ended

-- A law: the row holds for every query that the entry's key is under.
abbrev pub PremisesHold : Type 0
PremisesHold = (own : Query) → is_under own irq ≡ true → MapsAgree own

-- ---- stores

-- A law: two stores can merge the two bodies of one version. So agreement of stores is false if what was brought isn't exact.
abbrev pub StoresNeedExact : Type 0
StoresNeedExact = ¬
    ((query : Key → Bool) (first second : ContentRecord) (known more : List Item) → StoreKnows first known → StoreKnows second more →
    CoverEachOther query known more → under query first.held ≡ under query second.held)

-- A law: a store can merge more than another. So agreement of stores is false if only one of the two covers the other.
abbrev pub StoresNeedCovering : Type 0
StoresNeedCovering = ¬
    ((query : Key → Bool) (first second : ContentRecord) (known more : List Item) → StoreKnows first known → StoreKnows second more →
    AreExact (under query known ++ under query more) → CoversAll (under query more) (under query known) →
    under query first.held ≡ under query second.held)

-- A law: a store can merge a newer label that a map doesn't take. So the map's label is older than a change that the store was brought.
abbrev pub StoreLabelsNeedCovering : Type 0
StoreLabelsNeedCovering = (own : Query) → is_under own (label_key (codes "eth0")) ≡ true → ¬
    ((map : SubMapRecord) (store : ContentRecord) (brought known : List Item) (name : List ℕ) → IsMap map → MapKnows map brought →
    StoreKnows store known → ((i : Item) → Contains brought i → IsItem i) → ((i : Item) → Contains known i → IsItem i) →
    is_under map.query (label_key name) ≡ true → NamesNoOlder brought known name (endpoint_of_label map.held name))

-- The row in which a store merges an entry and a floor that voids this, and another store merges the floor alone.
pub record StoresAgree : Type 0 where
  pub first : ContentRecord
  pub second : ContentRecord
  pub first_knows : StoreKnows first (one ∷ ended ∷ [])
  pub second_knows : StoreKnows second (ended ∷ [])
  pub exact : AreExact (under all_keys (one ∷ ended ∷ []) ++ under all_keys (ended ∷ []))
  pub cover : CoverEachOther all_keys (one ∷ ended ∷ []) (ended ∷ [])
  pub held : first.held ≡ ended ∷ []
