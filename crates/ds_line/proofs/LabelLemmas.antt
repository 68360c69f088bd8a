-- What labels and the other kinds require of a change's parts: which parts some change has.
use Rattle.std.proofs.Common.{◌≡◌, ◌≢◌, ℕ, ◌^◌, ◌<◌, ◌≤◌, ◌⊎◌, inl, inr, List, [], refl, sym, subst, ◌∙◌, arith}
use Rattle.std.proofs.lemmas.Bool.{cases_eq}
use Rattle.ds_names.specs.Name.{is_name_byte, IsName, rs_name}
use Rattle.ds_names.specs.declared.kind.Kind.{Kind}
use Rattle.ds_names.specs.declared.kind.Kind.TheVariants.{Label, U32, Str, Mem}
use Rattle.ds_names.specs.declared.key.Key.{Key}
use Rattle.ds_names.specs.declared.version.Version.{Version}
use Rattle.ds_entry.specs.declared.body.Value.{Value}
use Rattle.ds_entry.specs.declared.body.Value.TheVariants as values
use Rattle.ds_entry.specs.declared.body.Body.{Body}
use Rattle.ds_entry.specs.declared.body.Body.TheVariants.{Put, Gone}
use Rattle.ds_entry.specs.Change.{ChangeRecord, change_of, kind_of, IsValue, IsChange, IsLabelChange, IsLabelBody, IsBelowSweeps, KeepsRule}
use Rattle.ds_line.specs.Reading.{HasOwner, HasVersion, HasSeq, HasBody, HasValue}

pub rs_is_name : IsName rs_name
unfolding is_name_byte
rs_is_name = record { some = omega arith; limit = omega arith; allowed = refl }

-- the version of these numbers
abbrev pub version_of : ℕ → ℕ → Version
version_of epoch seq = record { epoch = epoch; seq = seq }

-- a label's put at slot 0, under this generation
abbrev pub put_of : ℕ → Body
put_of epoch = Put (values.Label (record { generation = epoch; slot = 0 }))

-- a label's change keeps the rule of labels
pub label_rule : (c : ChangeRecord) → IsChange c → c.key.kind ≡ Label → IsLabelChange c
label_rule c is kind = subst (λ (k : Kind). KeepsRule k c) kind is.rule

-- a tombstone at any version keeps the rule of the other kinds
gone_keeps : (k : Kind) (c : ChangeRecord) → k ≢ Label → c.body ≡ Gone → KeepsRule k c
gone_keeps Label c other gone = absurd (other refl)
gone_keeps U32 c other gone = subst (λ (b : Body). IsBelowSweeps c.version b) (sym gone) tt
gone_keeps Str c other gone = subst (λ (b : Body). IsBelowSweeps c.version b) (sym gone) tt
gone_keeps Mem c other gone = subst (λ (b : Body). IsBelowSweeps c.version b) (sym gone) tt

-- ---- changes there are

pub label_put : (key : Key) (owner : List ℕ) (version : Version) → key.kind ≡ Label → IsName key.name → key.name ≢ rs_name →
    owner ≡ rs_name → 0 < version.epoch → version.epoch ≤ 2097151 → version.seq ≡ 0
    → IsChange (change_of key owner version (put_of version.epoch))
label_put key owner version kind name not_rs is_rs some most none =
    let rule : IsLabelChange (change_of key owner version (put_of version.epoch)) =
    record { owner = is_rs; name = not_rs; epoch = some; body = (none, refl) } in
    record {
      name = name;
      owner = subst IsName (sym is_rs) rs_is_name;
      epoch = most;
      seq = omega (arith, none);
      body = record { generation = most; slot = omega arith };
      kind = sym kind;
      rule = subst (λ (k : Kind). KeepsRule k (change_of key owner version (put_of version.epoch))) (sym kind) rule;
    }

pub label_gone : (key : Key) (owner : List ℕ) (version : Version) → key.kind ≡ Label → IsName key.name → key.name ≢ rs_name →
    owner ≡ rs_name → 0 < version.epoch → version.epoch ≤ 2097151 → version.seq ≡ 1
    → IsChange (change_of key owner version Gone)
label_gone key owner version kind name not_rs is_rs some most one =
    let rule : IsLabelChange (change_of key owner version Gone) = record { owner = is_rs; name = not_rs; epoch = some; body = one } in
    record {
      name = name;
      owner = subst IsName (sym is_rs) rs_is_name;
      epoch = most;
      seq = omega (arith, one);
      body = tt;
      kind = tt;
      rule = subst (λ (k : Kind). KeepsRule k (change_of key owner version Gone)) (sym kind) rule;
    }

pub other_gone : (key : Key) (owner : List ℕ) (version : Version) → key.kind ≢ Label → IsName key.name → IsName owner →
    version.epoch ≤ 2097151 → version.seq < 2 ^ 32 → IsChange (change_of key owner version Gone)
other_gone key owner version other name owned most fits =
    record {
      name = name;
      owner = owned;
      epoch = most;
      seq = fits;
      body = tt;
      kind = tt;
      rule =
          gone_keeps key.kind (change_of key owner version Gone) other refl;
    }

-- some value of each kind
abbrev pub some_value : Kind → Value
some_value Label = values.Label (record { generation = 0; slot = 0 })
some_value U32 = values.U32 0
some_value Str = values.Str []
some_value Mem = values.Mem []

pub some_kind : (k : Kind) → kind_of (some_value k) ≡ k
some_kind Label = refl
some_kind U32 = refl
some_kind Str = refl
some_kind Mem = refl

pub some_is : (k : Kind) → IsValue (some_value k)
some_is Label = record { generation = omega arith; slot = omega arith }
some_is U32 = omega arith
some_is Str = record { limit = omega arith; printable = refl }
some_is Mem = record { limit = omega arith; each = λ i. omega arith }

put_keeps : (k : Kind) (key : Key) (owner : List ℕ) (version : Version) (value : Value) → k ≢ Label → version.seq < 4294967295 →
    KeepsRule k (change_of key owner version (Put value))
put_keeps Label key owner version value other fits = absurd (other refl)
put_keeps U32 key owner version value other fits = fits
put_keeps Str key owner version value other fits = fits
put_keeps Mem key owner version value other fits = fits

-- a put keeps the last number free
put_below : (k : Kind) (key : Key) (owner : List ℕ) (version : Version) (value : Value) → k ≢ Label →
    KeepsRule k (change_of key owner version (Put value)) → version.seq < 4294967295
put_below Label key owner version value other rule = absurd (other refl)
put_below U32 key owner version value other rule = rule
put_below Str key owner version value other rule = rule
put_below Mem key owner version value other rule = rule

-- a put of another value of the kind, at a version that some put has
pub other_put : (key : Key) (owner : List ℕ) (version : Version) (value : Value) → key.kind ≢ Label → HasValue key owner version →
    IsValue value → kind_of value ≡ key.kind → IsChange (change_of key owner version (Put value))
other_put key owner version value other has is kind =
    record {
      name = has.1.name;
      owner = has.1.owner;
      epoch = has.1.epoch;
      seq = has.1.seq;
      body = is;
      kind = kind;
      rule = put_keeps key.kind key owner version value other (put_below key.kind key owner version has.0 other has.1.rule);
    }

pub put_epoch : (v : Version) (value : Value) → IsLabelBody v (Put value) → (v.seq ≡ 0)
put_epoch v (values.Label e) rule = rule.0
put_epoch v (values.U32 n) rule = absurd rule
put_epoch v (values.Str t) rule = absurd rule
put_epoch v (values.Mem b) rule = absurd rule

label_at_most : (v : Version) (b : Body) → IsLabelBody v b → v.seq ≤ 1
label_at_most v (Put value) rule = omega (arith, put_epoch v value rule)
label_at_most v Gone rule = omega (arith, rule)

-- ---- what the parts so far allow

pub owner_of_label : (key : Key) → key.kind ≡ Label → IsName key.name → key.name ≢ rs_name → HasOwner key
owner_of_label key kind name not_rs =
    (rs_name, (version_of 1 0, (put_of 1, label_put key rs_name (version_of 1 0) kind name not_rs refl (omega arith) (omega arith) refl)))

pub owner_of_other : (key : Key) → key.kind ≢ Label → IsName key.name → HasOwner key
owner_of_other key other name =
    (rs_name, (version_of 0 0, (Gone, other_gone key rs_name (version_of 0 0) other name rs_is_name (omega arith) (omega arith))))

pub label_not_rs : (key : Key) → key.kind ≡ Label → HasOwner key → key.name ≢ rs_name
label_not_rs key kind has = (label_rule (change_of key has.0 has.1.0 has.1.1.0) has.1.1.1 kind).name

pub version_of_label : (key : Key) (owner : List ℕ) → key.kind ≡ Label → HasOwner key → owner ≡ rs_name → HasVersion key owner
version_of_label key owner kind has is_rs =
    let rule = label_rule (change_of key has.0 has.1.0 has.1.1.0) has.1.1.1 kind in
    subst (HasVersion key) (rule.owner ∙ sym is_rs) has.1

pub version_of_other : (key : Key) (owner : List ℕ) → key.kind ≢ Label → HasOwner key → IsName owner → HasVersion key owner
version_of_other key owner other has name =
    (version_of 0 0, (Gone, other_gone key owner (version_of 0 0) other has.1.1.1.name name (omega arith) (omega arith)))

pub label_owner_rs : (key : Key) (owner : List ℕ) → key.kind ≡ Label → HasVersion key owner → owner ≡ rs_name
label_owner_rs key owner kind has = (label_rule (change_of key owner has.0 has.1.0) has.1.1 kind).owner

pub seq_of_label : (key : Key) (owner : List ℕ) (epoch : ℕ) → key.kind ≡ Label → HasVersion key owner → 0 < epoch → epoch ≤ 2097151 →
    HasSeq key owner epoch
seq_of_label key owner epoch kind has some most =
    let rule = label_rule (change_of key owner has.0 has.1.0) has.1.1 kind in
    (0, (put_of epoch, label_put key owner (version_of epoch 0) kind has.1.1.name rule.name rule.owner some most refl))

pub seq_of_other : (key : Key) (owner : List ℕ) (epoch : ℕ) → key.kind ≢ Label → HasVersion key owner → epoch ≤ 2097151 →
    HasSeq key owner epoch
seq_of_other key owner epoch other has most =
    (0, (Gone, other_gone key owner (version_of epoch 0) other has.1.1.name has.1.1.owner most (omega arith)))

pub label_epoch : (key : Key) (owner : List ℕ) (epoch : ℕ) → key.kind ≡ Label → HasSeq key owner epoch → 0 < epoch
label_epoch key owner epoch kind has = (label_rule (change_of key owner (version_of epoch has.0) has.1.0) has.1.1 kind).epoch

pub body_of_put : (key : Key) (owner : List ℕ) (version : Version) → key.kind ≡ Label → HasSeq key owner version.epoch → version.seq ≡ 0 →
    HasValue key owner version
body_of_put key owner version kind has none =
    let rule = label_rule (change_of key owner (version_of version.epoch has.0) has.1.0) has.1.1 kind in (
      values.Label (record { generation = version.epoch; slot = 0 }),
      label_put key owner version kind has.1.1.name rule.name rule.owner
          rule.epoch has.1.1.epoch none,
    )

pub body_of_gone : (key : Key) (owner : List ℕ) (version : Version) → key.kind ≡ Label → HasSeq key owner version.epoch → version.seq ≡ 1 →
    IsChange (change_of key owner version Gone)
body_of_gone key owner version kind has one =
    let rule = label_rule (change_of key owner (version_of version.epoch has.0) has.1.0) has.1.1 kind in
    label_gone key owner version kind has.1.1.name rule.name rule.owner rule.epoch has.1.1.epoch one

seq_cases : (version : Version) → version.seq ≤ 1 → (version.seq ≡ 0) ⊎ (version.seq ≡ 1)
seq_cases version le =
    elim (cases_eq version.seq 0) [
      | inl none ↦ inl none
      | inr some ↦ inr (omega (arith, some))
    ]

pub body_of_label : (key : Key) (owner : List ℕ) (version : Version) → key.kind ≡ Label → HasSeq key owner version.epoch →
    version.seq ≤ 1 → HasBody key owner version
body_of_label key owner version kind has le =
    elim (seq_cases version le) [
      | inl none ↦ (let put = body_of_put key owner version kind has none in (Put put.0, put.1))
      | inr one ↦ (Gone, body_of_gone key owner version kind has one)
    ]

pub body_of_other : (key : Key) (owner : List ℕ) (version : Version) → key.kind ≢ Label → HasSeq key owner version.epoch →
    version.seq < 2 ^ 32 → IsChange (change_of key owner version Gone)
body_of_other key owner version other has fits = other_gone key owner version other has.1.1.name has.1.1.owner has.1.1.epoch fits

pub label_seq : (key : Key) (owner : List ℕ) (version : Version) → key.kind ≡ Label → HasBody key owner version → version.seq ≤ 1
label_seq key owner version kind has = label_at_most version has.0 (label_rule (change_of key owner version has.0) has.1 kind).body

pub seq_of_body : (key : Key) (owner : List ℕ) (version : Version) → HasBody key owner version → HasSeq key owner version.epoch
seq_of_body key owner version has = (version.seq, has)

pub label_put_seq : (key : Key) (owner : List ℕ) (version : Version) → key.kind ≡ Label → HasValue key owner version → version.seq ≡ 0
label_put_seq key owner version kind has = put_epoch version has.0 (label_rule (change_of key owner version (Put has.0)) has.1 kind).body

pub value_of_other : (key : Key) (owner : List ℕ) (version : Version) → key.kind ≢ Label → HasBody key owner version →
    version.seq < 4294967295 → HasValue key owner version
value_of_other key owner version other has fits = (
  some_value key.kind,
  record {
    name = has.1.name;
    owner = has.1.owner;
    epoch = has.1.epoch;
    seq = has.1.seq;
    body = some_is key.kind;
    kind = some_kind key.kind;
    rule = put_keeps key.kind key owner version (some_value key.kind) other fits;
  },
)

pub other_put_seq : (key : Key) (owner : List ℕ) (version : Version) → key.kind ≢ Label → HasValue key owner version →
    version.seq < 4294967295
other_put_seq key owner version other has = put_below key.kind key owner version has.0 other has.1.rule

pub label_gone_seq : (key : Key) (owner : List ℕ) (version : Version) → key.kind ≡ Label → IsChange (change_of key owner version Gone) →
    version.seq ≡ 1
label_gone_seq key owner version kind is = (label_rule (change_of key owner version Gone) is kind).body
