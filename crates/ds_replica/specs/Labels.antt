-- What is held of a known change, and the endpoint that a label has.
use Rattle.std.specs.Prelude.{◌≡◌, ℕ, ◌<◌, ◌≤◌, if◌then◌else◌, Bool, true, false, List, [], ◌∷◌, Option, Some, None, Contains}
use Rattle.std.specs.Ordering.{eq_by_cmp}
use Rattle.ds_names.specs.Endpoint.{EndpointRecord}
use Rattle.ds_names.specs.Key.{key_cmp, label_key}
use Rattle.ds_names.specs.declared.key.Key.{Key}
use Rattle.ds_names.specs.declared.kind.Kind.TheVariants as kinds
use Rattle.ds_entry.specs.Change.{ChangeRecord}
use Rattle.ds_entry.specs.Covers.{is_at_most}
use Rattle.ds_entry.specs.Item.{IsItem}
use Rattle.ds_entry.specs.Void.{is_void}
use Rattle.ds_entry.specs.declared.body.Value.TheVariants as values
use Rattle.ds_entry.specs.declared.body.Body.TheVariants.{Put, Gone}
use Rattle.ds_entry.specs.declared.item.Item.{Item}
use Rattle.ds_entry.specs.declared.item.Item.TheVariants.{Change as Changed, Floor as Floored}
use Rattle.ds_join.specs.ItemTop.{IsTop}
use Rattle.ds_entry.specs.Under.{under}
use Rattle.ds_entry.specs.Left.{endpoint_in}

-- Whether a change of the key is held, and each such change has at least this change's version.
pub record HoldsNoOlder (held : List Item) (c : ChangeRecord) : Type 0 where
  pub some : (d : ChangeRecord) × Contains held (Changed d) × (d.key ≡ c.key)
  pub each : (d : ChangeRecord) → Contains held (Changed d) → d.key ≡ c.key → is_at_most c.version d.version ≡ true

-- A law: if no known floor voids a known change, no older change of its key is held.
abbrev pub NothingOlderIsHeld : Type 0
NothingOlderIsHeld =
    (known held : List Item) (c : ChangeRecord) → IsTop held known → Contains known (Changed c) → is_void known c ≡ false →
    HoldsNoOlder held c

-- A law: no older change of a known label is held, since no floor voids a label.
abbrev pub NoOlderLabelIsHeld : Type 0
NoOlderLabelIsHeld =
    (known held : List Item) (c : ChangeRecord) → IsTop held known → Contains known (Changed c) → c.key.kind ≡ kinds.Label →
    HoldsNoOlder held c

-- The endpoint of the name's label in a holding.
abbrev pub label_in : List Item → List ℕ → Option EndpointRecord
label_in [] name = None
label_in (Floored f ∷ items) name = label_in items name
label_in (Changed c ∷ items) name = if eq_by_cmp key_cmp c.key (label_key name) then endpoint_in c.body else label_in items name

-- Whether a put of the name's label with this endpoint is known, no greater generation is, and this one isn't gone.
pub record IsLive (known : List Item) (name : List ℕ) (e : EndpointRecord) : Type 0 where
  pub put : (c : ChangeRecord) × Contains known (Changed c) × (c.key ≡ label_key name) × (c.body ≡ Put (values.Label e))
  pub newest : (c : ChangeRecord) → Contains known (Changed c) → c.key ≡ label_key name → c.version.epoch ≤ e.generation
  pub not_gone : (c : ChangeRecord) → Contains known (Changed c) → c.key ≡ label_key name → c.body ≡ Gone → c.version.epoch < e.generation

-- Whether for each known generation of the name's label, that one or a greater one is gone.
abbrev pub IsGone : List Item → List ℕ → Type 0
IsGone known name =
    (c : ChangeRecord) → Contains known (Changed c) → c.key ≡ label_key name →
    (d : ChangeRecord) × Contains known (Changed d) × (d.key ≡ label_key name) × (d.body ≡ Gone) × (c.version.epoch ≤ d.version.epoch)

-- Whether this is the endpoint of the greatest known generation of the name's label. `None` means that this generation is
-- gone, or that none is known.
abbrev pub IsNewest : List Item → List ℕ → Option EndpointRecord → Type 0
IsNewest known name None = IsGone known name
IsNewest known name (Some e) = IsLive known name e

-- A law: what is held under a query with the label has the newest generation among all that is known.
abbrev pub LabelsAreNewest : Type 0
LabelsAreNewest =
    (query : Key → Bool) (known held : List Item) (name : List ℕ) → ((i : Item) → Contains known i → IsItem i) → IsTop held known →
    query (label_key name) ≡ true →
    IsNewest known name (label_in (under query held) name)
