-- What a caller asks for, in the machine's terms.
use Rattle.std.specs.Prelude.{◌≡◌, ℕ, Bool, true, false, not, ◌&&◌, cond, List, ◌++◌, map, Option, Some, None}
use Rattle.ds_names.specs.declared.version.Version.{Version}
use Rattle.ds_names.specs.Endpoint.{EndpointRecord, is_rs}
use Rattle.ds_entry.specs.Change.{ChangeRecord}
use Rattle.ds_entry.specs.Floor.{floor_of}
use Rattle.ds_entry.specs.Void.{voids}
use Rattle.ds_entry.specs.declared.body.Body.{Body}
use Rattle.ds_machine.specs.Order.{by_version, by_room}
use Rattle.ds_machine.specs.Asking.{AskedChange, against_asked}
use Rattle.ds_machine.specs.declared.refusal.Cause.{Cause}
use Rattle.ds_machine.specs.declared.refusal.Cause.TheVariants.{Refused}
use Rattle.ds_machine.specs.declared.refusal.Refusal.TheVariants.{Exists, NotFound}
use Rattle.ds_store.specs.Standing.{machine_standing}
use Rattle.ds_store.specs.declared.standing.Standing.{Standing}
use Rattle.ds_store.specs.declared.asked.Asked.{Asked}
use Rattle.ds_store.specs.declared.asked.Need.{Need}
use Rattle.ds_store.specs.declared.asked.Need.TheVariants.{NotLive, Any, Live}
use Rattle.ds_names.specs.Name.{rs_name}

-- Whether the change may find a live entry.
abbrev pub over_live : Need → Bool
over_live NotLive = false
over_live Any = true
over_live Live = true

-- Whether the change may find none.
abbrev pub over_none : Need → Bool
over_none NotLive = true
over_none Any = true
over_none Live = false

-- The machine's record of what is asked for.
abbrev pub request_of : Asked → AskedChange
request_of a = record { caller = a.caller; key = a.key; version = a.version; over_live = over_live a.need; over_none = over_none a.need }

-- The cause if an entry is live and may not be, or isn't and has to be.
abbrev pub cause_by_need : Need → Bool → Option Cause
cause_by_need need is_live =
    cond (is_live && not (over_live need)) (Some (Refused Exists))
    (cond (not is_live && not (over_none need)) (Some (Refused NotFound)) None)

-- Whether a cause applies to what a caller of this name asks for.
abbrev pub causes_against : Standing → Option (List ℕ) → Asked → Body → Cause → Bool
causes_against t caller a body = against_asked (machine_standing t) caller (request_of a) body

-- The causes against a change of this version that depend on what is held.
abbrev pub by_held : Version → List Cause
by_held v = by_version (Some v) ++ map Refused by_room

-- Whether a floor of the change's owner at this generation, if there is one, makes it void.
abbrev pub is_void_under : Option ℕ → ChangeRecord → Bool
is_void_under None c = false
is_void_under (Some generation) c = voids (floor_of c.owner generation) c

-- The caller's name is RS's if the caller is RS.
abbrev pub NamesRs : Option (List ℕ) → EndpointRecord → Type 0
NamesRs name caller = is_rs caller ≡ true → name ≡ Some rs_name
