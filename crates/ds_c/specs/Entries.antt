-- What the calls that read the entries of a map return.
use Rattle.std.specs.Prelude.{◌≡◌, ℕ, ◌==◌, cond, List, [], length, filter, Option, None, Some}
use Rattle.std.specs.List.{find}
use Rattle.std.specs.Option.{option_and_then, option_map}
use Rattle.ds_names.specs.declared.key.Key.{Key}
use Rattle.ds_names.specs.declared.kind.Kind.{Kind}
use Rattle.ds_names.specs.declared.kind.Kind.TheVariants as kinds
use Rattle.ds_entry.specs.Left.{leaves_value, value_of}
use Rattle.ds_entry.specs.declared.body.Value.{Value}
use Rattle.ds_entry.specs.declared.body.Value.TheVariants.{Mem, Str}
use Rattle.ds_join.specs.Reading.{comes_after}
use Rattle.ds_held.specs.Held.{Holding, held_changes, held_for}
use Rattle.ds_machine.specs.declared.refusal.Refusal.TheVariants.{NotFound}
use Rattle.ds_machine.specs.declared.reply.Reply.{Reply}
use Rattle.ds_machine.specs.declared.reply.Reply.TheVariants.{Found, Refused}
use Rattle.ds_submap.specs.Map.{SubMapRecord}
use Rattle.c_values.specs.declared.answer.Answer.{Answer}
use Rattle.c_values.specs.declared.giving.Given.{Given}
use Rattle.c_values.specs.Answer.{answer_of, no_request}
use Rattle.c_values.specs.Request.{is_name, key_of_parts, kind_at, name_at}
use Rattle.c_store.specs.Text.{GivesPart}
use Rattle.c_rs.specs.Action.{label_block}
use Rattle.ds_c.specs.declared.entries.MapKey.{MapKey}
use Rattle.ds_c.specs.Calls.{done, is_closed}
use Rattle.ds_c.specs.Services.{ReadsPart}

-- ---- the value of an entry

-- The key of a kind and a name, if they are one.
abbrev pub key_with : ℕ → List ℕ → Option Key
key_with kind name = key_of_parts (cond (is_name name) (Some name) None) (kind_at kind)

-- The value of the entry under the key. A tombstone has none.
abbrev pub value_under : Holding → Key → Option Value
value_under held key = option_and_then value_of (held_for held key)

-- The reply of a Retrieve with this value, or NotFound without one.
abbrev pub reply_of_value : Option Value → Reply
reply_of_value (Some value) = Found value
reply_of_value None = Refused NotFound

-- The answer of a Retrieve of the key, or no request if it isn't one.
abbrev pub entry_answer : Holding → Option Key → Answer
entry_answer held (Some key) = answer_of (reply_of_value (value_under held key))
entry_answer held None = no_request

-- The bytes of a text or a blob.
abbrev pub value_bytes : Option Value → List ℕ
value_bytes (Some (Str text)) = text
value_bytes (Some (Mem bytes)) = bytes
value_bytes _ = []

-- The bytes of the value of the entry under the key, if it is one.
abbrev pub entry_bytes : Holding → Option Key → List ℕ
entry_bytes held (Some key) = value_bytes (value_under held key)
entry_bytes held None = []

-- Whether the answer is that of a Retrieve of the key, and the bytes of the value are copied, as many as fit.
pub record FindsEntry (held : Holding) (key : Option Key) (old : List ℕ) (answer : Answer) (room : List ℕ) (given : Given) : Type 0 where
  pub answer_is : answer ≡ entry_answer held key
  pub bytes : GivesPart (entry_bytes held key) 0 old given room

-- The effect of a call that finds a value. If the handle is closed, the places are unchanged.
abbrev pub FindsValue : Option SubMapRecord → ℕ → List ℕ → Answer → List ℕ → Given → ℕ → Answer → List ℕ → Given → Type 0
FindsValue None kind name before old was word answer room given = (word ≡ is_closed) × (answer ≡ before) × (room ≡ old) × (given ≡ was)
FindsValue (Some m) kind name before old was word answer room given =
    (word ≡ done) × FindsEntry m.held (key_with kind name) old answer room given

-- ---- the entries in order

-- The number of a kind.
abbrev pub number_of_kind : Kind → ℕ
number_of_kind kinds.Label = 1
number_of_kind kinds.U32 = 2
number_of_kind kinds.Str = 4
number_of_kind kinds.Mem = 8

-- The struct of a key.
abbrev pub key_struct : Key → MapKey
key_struct key = record { kind = number_of_kind key.kind; name_length = length key.name; name = label_block key.name }

-- The key in a struct after which a walk continues, with an inner `None` for kind 0, which comes before every entry. `None` if the struct
-- has no key.
abbrev pub key_before : MapKey → Option (Option Key)
key_before it = cond (it.kind == 0) (Some None) (option_map Some (key_of_parts (name_at it.name it.name_length) (kind_at it.kind)))

-- The key of the first entry past the key, in the order of keys.
abbrev pub next_key_of : Holding → Option Key → Option Key
next_key_of held after = option_map (λ c. c.key) (find leaves_value (filter (comes_after after) (held_changes held)))

-- Whether the struct gets the key of the next entry, or is unchanged, as the word says: past the last entry, or if it has no key.
abbrev pub StepsFrom : Holding → Option (Option Key) → MapKey → ℕ → MapKey → Type 0
StepsFrom held None before word key = (word ≡ 5) × (key ≡ before)
StepsFrom held (Some after) before word key = ReadsPart (option_map key_struct (next_key_of held after)) before word key

-- The effect of a call that goes to the next entry. If the handle is closed, the struct is unchanged.
abbrev pub StepsInMap : Option SubMapRecord → MapKey → ℕ → MapKey → Type 0
StepsInMap None before word key = (word ≡ is_closed) × (key ≡ before)
StepsInMap (Some m) before word key = StepsFrom m.held (key_before before) before word key
