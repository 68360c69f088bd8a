-- The causes against a Publish, a Delete and a Sweep.
use Rattle.std.specs.Prelude.{ℕ, Bool, true, false, not, ◌&&◌, ◌==◌, nat_le, List, Option, Some, None, is_some, is_none, cond}
use Rattle.std.specs.Option.{unwrap_or}
use Rattle.ds_names.specs.declared.key.Key.{Key}
use Rattle.ds_names.specs.Kind.{is_label}
use Rattle.ds_names.specs.declared.version.Version.{Version}
use Rattle.ds_names.specs.Endpoint.{EndpointRecord, is_rs}
use Rattle.ds_entry.specs.declared.body.Body.{Body}
use Rattle.ds_entry.specs.declared.floor.Floor.{Floor}
use Rattle.ds_entry.specs.declared.item.Item.{Item}
use Rattle.ds_entry.specs.Change.{ChangeRecord, change_of, is_of_kind, is_label_body}
use Rattle.ds_join.specs.Label.{first_name_of}
use Rattle.ds_machine.specs.Parts.{changes_in}
use Rattle.ds_machine.specs.State.{State, held}
use Rattle.ds_machine.specs.Order.{first_cause}
use Rattle.ds_machine.specs.Standing.{Standing, standing_of, on_held, against_change, FloorStanding, floor_standing_of, against_floor}
use Rattle.ds_machine.specs.declared.refusal.Cause.{Cause}
use Rattle.ds_machine.specs.declared.refusal.Cause.TheVariants.{Refused}
use Rattle.ds_machine.specs.declared.refusal.Refusal.TheVariants.{BadKind, BadLabel, BadVersion, NoCaller, NotAllowed, Exists, NotFound}
use Rattle.ds_names.specs.Limits.{last_seq}
use Rattle.ds_names.specs.Name.{is_same_name, rs_name}
use Rattle.ds_entry.specs.Left.{value_of}

-- ---- a Publish or a Delete

-- A Publish or a Delete without its body. `over_live` and `over_none`: whether it may find a live entry, and whether it
-- may find none.
pub record AskedChange : Type 0 where
  pub caller : EndpointRecord
  pub key : Key
  pub version : Version
  pub over_live : Bool
  pub over_none : Bool

-- The change that a Publish asks for: without `overwrite`, only if no entry is live.
abbrev pub published : EndpointRecord → Key → Version → Bool → AskedChange
published caller key version overwrite = record { caller = caller; key = key; version = version; over_live = overwrite; over_none = true }

-- The change that a Delete asks for, which needs a live entry.
abbrev pub deleted : EndpointRecord → Key → Version → AskedChange
deleted caller key version = record { caller = caller; key = key; version = version; over_live = true; over_none = false }

-- The name of an endpoint: `rs` for RS, otherwise the least name whose live label holds it.
abbrev pub name_of : List Item → EndpointRecord → Option (List ℕ)
name_of held e = cond (is_rs e) (Some rs_name) (first_name_of e (changes_in held))

-- Whether the change keeps the rules of labels: not named `rs`, an epoch other than 0, and a body that fits a label.
abbrev pub is_label_change : AskedChange → Body → Bool
is_label_change a body = not (is_same_name a.key.name rs_name) && (not (a.version.epoch == 0) && is_label_body a.version body)

-- Whether the version is one that a caller may use: its own generation, and below the last sequence number.
abbrev pub is_callers_version : AskedChange → Bool
is_callers_version a = a.version.epoch == a.caller.generation && not (nat_le last_seq a.version.seq)

-- The change asked for, owned by the caller.
abbrev pub change_asked : Option (List ℕ) → AskedChange → Body → ChangeRecord
change_asked caller a body = change_of a.key (unwrap_or caller rs_name) a.version body

-- Whether the held change leaves a value.
abbrev pub is_live : Option ChangeRecord → Bool
is_live held = on_held held (λ h. is_some (value_of h))

-- Whether the cause applies to a Publish or a Delete. `caller` is the caller's name.
abbrev pub against_asked : Standing → Option (List ℕ) → AskedChange → Body → Cause → Bool
against_asked t caller a body (Refused BadKind) = not (is_of_kind a.key.kind body)
against_asked t caller a body (Refused BadLabel) = is_label a.key.kind && not (is_label_change a body)
against_asked t caller a body (Refused BadVersion) = not (is_label a.key.kind) && not (is_callers_version a)
against_asked t caller a body (Refused NoCaller) = is_none caller
against_asked t caller a body (Refused NotAllowed) = is_label a.key.kind && not (is_rs a.caller)
against_asked t caller a body (Refused Exists) = is_live t.held && not a.over_live
against_asked t caller a body (Refused NotFound) = not (is_live t.held) && not a.over_none
against_asked t caller a body cause = against_change t (change_asked caller a body) cause

-- The change that the caller asks for in this state.
abbrev pub asked_in : State → AskedChange → Body → ChangeRecord
asked_in s a body = change_asked (name_of (held s) a.caller) a body

abbrev pub cause_against : State → AskedChange → Body → Option Cause
cause_against s a body = first_cause (Some a.version) (against_asked (standing_of s (asked_in s a body)) (name_of (held s) a.caller) a body)

-- ---- a Sweep

-- Whether the cause applies to a Sweep: NotAllowed unless the caller is RS, then the causes against the floor.
abbrev pub against_sweep : FloorStanding → EndpointRecord → Floor → Cause → Bool
against_sweep t caller f (Refused NotAllowed) = not (is_rs caller)
against_sweep t caller f cause = against_floor t f cause

abbrev pub sweep_cause : State → EndpointRecord → Floor → Option Cause
sweep_cause s caller f = first_cause None (against_sweep (floor_standing_of s f) caller f)
