-- Changes, and the conditions under which four parts are one.
use Rattle.std.specs.Prelude.{◌≡◌, ◌≢◌, ℕ, ◌<◌, ◌≤◌, ◌^◌, ◌==◌, Bool, true, false, ◌&&◌, List, []}
use Rattle.ds_names.specs.Name.{IsName, rs_name}
use Rattle.ds_names.specs.Endpoint.{IsEndpoint}
use Rattle.ds_names.specs.declared.kind.Kind.{Kind}
use Rattle.ds_names.specs.declared.kind.Kind.TheVariants.{Label, U32, Str, Mem}
use Rattle.ds_names.specs.declared.key.Key.{Key}
use Rattle.ds_names.specs.declared.version.Version.{Version}
use Rattle.ds_entry.specs.Value.{IsText, IsBlob}
use Rattle.ds_entry.specs.declared.body.Value.{Value}
use Rattle.ds_entry.specs.declared.body.Value.TheVariants as values
use Rattle.ds_entry.specs.declared.body.Body.{Body}
use Rattle.ds_entry.specs.declared.body.Body.TheVariants.{Put, Gone}
use Rattle.ds_names.specs.Kind.{kind_place}

-- The four parts of a change.
pub record ChangeRecord : Type 0 where
  pub key : Key
  pub owner : List ℕ
  pub version : Version
  pub body : Body

-- The change with these parts.
abbrev pub change_of : Key → List ℕ → Version → Body → ChangeRecord
change_of key owner version body = record { key = key; owner = owner; version = version; body = body }

-- The kind of the keys that a value may be under.
abbrev pub kind_of : Value → Kind
kind_of (values.Label e) = Label
kind_of (values.U32 n) = U32
kind_of (values.Str t) = Str
kind_of (values.Mem b) = Mem

-- Whether the value of a put is of the key's kind.
abbrev pub IsOfKind : Kind → Body → Type 0
IsOfKind kind (Put value) = kind_of value ≡ kind
IsOfKind kind Gone = Unit {0}

-- Like `IsOfKind`, as a test.
abbrev pub is_of_kind : Kind → Body → Bool
is_of_kind kind (Put value) = kind_place (kind_of value) == kind_place kind
is_of_kind kind Gone = true

-- Whether the value is in the range of its kind.
abbrev pub IsValue : Value → Type 0
IsValue (values.Label e) = IsEndpoint e
IsValue (values.U32 n) = n < 2 ^ 32
IsValue (values.Str t) = IsText t
IsValue (values.Mem b) = IsBlob b

-- Whether the value of a put is in the range of its kind.
abbrev pub IsBody : Body → Type 0
IsBody (Put value) = IsValue value
IsBody Gone = Unit {0}

-- Whether the value is kept in place, so that a copy takes no memory.
abbrev pub IsInPlace : Value → Type 0
IsInPlace (values.Label e) = Unit {0}
IsInPlace (values.U32 n) = Unit {0}
IsInPlace (values.Str t) = ⊥
IsInPlace (values.Mem b) = ⊥

-- Whether the value of a put, if any, is kept in place.
abbrev pub IsBodyInPlace : Body → Type 0
IsBodyInPlace (Put value) = IsInPlace value
IsBodyInPlace Gone = Unit {0}

-- A copy of the value takes memory: it is a text or a blob that isn't empty.
abbrev pub ValueCopyTakesMemory : Value → Type 0
ValueCopyTakesMemory (values.Label e) = ⊥
ValueCopyTakesMemory (values.U32 n) = ⊥
ValueCopyTakesMemory (values.Str t) = t ≢ []
ValueCopyTakesMemory (values.Mem b) = b ≢ []

-- A copy of the body takes memory: a copy of its value does.
abbrev pub BodyCopyTakesMemory : Body → Type 0
BodyCopyTakesMemory (Put value) = ValueCopyTakesMemory value
BodyCopyTakesMemory Gone = ⊥

-- The rule of a label's body: a put has number 0 and its endpoint's generation as its epoch, a tombstone has number 1.
abbrev pub IsLabelBody : Version → Body → Type 0
IsLabelBody version (Put (values.Label e)) = (version.seq ≡ 0) × (version.epoch ≡ e.generation)
IsLabelBody version (Put (values.U32 n)) = ⊥
IsLabelBody version (Put (values.Str t)) = ⊥
IsLabelBody version (Put (values.Mem b)) = ⊥
IsLabelBody version Gone = version.seq ≡ 1

-- Like `IsLabelBody`, as a test.
abbrev pub is_label_body : Version → Body → Bool
is_label_body version (Put (values.Label e)) = version.seq == 0 && version.epoch == e.generation
is_label_body version (Put _) = false
is_label_body version Gone = version.seq == 1

-- The rules of labels: RS is the owner, the label isn't RS's own, and the epoch is above 0.
pub record IsLabelChange (c : ChangeRecord) : Type 0 where
  pub owner : c.owner ≡ rs_name
  pub name : c.key.name ≢ rs_name
  pub epoch : 0 < c.version.epoch
  pub body : IsLabelBody c.version c.body

-- The rule of other kinds: no put has the greatest sequence number, which is for the tombstones of sweeps.
abbrev pub IsBelowSweeps : Version → Body → Type 0
IsBelowSweeps version (Put value) = version.seq < 4294967295
IsBelowSweeps version Gone = Unit {0}

-- Whether the change keeps the rules of its key's kind.
abbrev pub KeepsRule : Kind → ChangeRecord → Type 0
KeepsRule Label c = IsLabelChange c
KeepsRule U32 c = IsBelowSweeps c.version c.body
KeepsRule Str c = IsBelowSweeps c.version c.body
KeepsRule Mem c = IsBelowSweeps c.version c.body

-- Whether each part is in its range and the parts fit together.
pub record IsChange (c : ChangeRecord) : Type 0 where
  pub name : IsName c.key.name
  pub owner : IsName c.owner
  pub epoch : c.version.epoch ≤ 2097151
  pub seq : c.version.seq < 2 ^ 32
  pub body : IsBody c.body
  pub kind : IsOfKind c.key.kind c.body
  pub rule : KeepsRule c.key.kind c
