-- The generations that labels of a map name.
use Rattle.std.specs.Prelude.{◌≡◌, ℕ, ◌<◌, ◌≤◌, true, List, Option, None, Some, Contains}
use Rattle.ds_names.specs.Endpoint.{EndpointRecord}
use Rattle.ds_names.specs.Key.{label_key}
use Rattle.ds_entry.specs.Change.{ChangeRecord}
use Rattle.ds_entry.specs.Item.{IsItem}
use Rattle.ds_entry.specs.Under.{under}
use Rattle.ds_entry.specs.declared.body.Body.TheVariants.{Gone}
use Rattle.ds_entry.specs.declared.item.Item.{Item}
use Rattle.ds_entry.specs.declared.item.Item.TheVariants.{Change as Changed}
use Rattle.ds_join.specs.ItemTop.{CoversAll}
use Rattle.ds_pattern.specs.Under.{is_under}
use Rattle.ds_submap.specs.Map.{IsMap, SubMapRecord, endpoint_of_label}
use Rattle.holders.specs.Holding.{MapKnows}

-- Whether no change of the name's label has a greater generation than the endpoint, and none says that its generation is gone.
pub record NoneIsNewer (known : List Item) (name : List ℕ) (e : EndpointRecord) : Type 0 where
  pub newest : (c : ChangeRecord) → Contains known (Changed c) → c.key ≡ label_key name → c.version.epoch ≤ e.generation
  pub not_gone : (c : ChangeRecord) → Contains known (Changed c) → c.key ≡ label_key name → c.body ≡ Gone → c.version.epoch < e.generation

-- Whether for each generation of the name's label, the map was brought that this one or a later one is gone.
abbrev pub EachIsGone : List Item → List Item → List ℕ → Type 0
EachIsGone brought known name =
    (c : ChangeRecord) → Contains known (Changed c) → c.key ≡ label_key name →
    (d : ChangeRecord) × Contains brought (Changed d) × (d.key ≡ label_key name) × (d.body ≡ Gone) × (c.version.epoch ≤ d.version.epoch)

-- Whether no change among these is newer than a map's endpoint of the name's label. `None` if the map names none.
abbrev pub NamesNoOlder : List Item → List Item → List ℕ → Option EndpointRecord → Type 0
NamesNoOlder brought known name None = EachIsGone brought known name
NamesNoOlder brought known name (Some e) = NoneIsNewer known name e

-- A law: a map whose takes cover, under its query, what a store or any other holder was brought names no older generation of a
-- label under its query.
abbrev pub LabelsAreNoOlder : Type 0
LabelsAreNoOlder =
    (map : SubMapRecord) (brought known : List Item) (name : List ℕ) → IsMap map → MapKnows map brought →
    ((i : Item) → Contains brought i → IsItem i) → ((i : Item) → Contains known i → IsItem i) →
    CoversAll brought (under (is_under map.query) known) → is_under map.query (label_key name) ≡ true →
    NamesNoOlder brought known name (endpoint_of_label map.held name)
