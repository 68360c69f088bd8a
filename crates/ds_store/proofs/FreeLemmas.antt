-- What follows if no cause applies to a change or a floor.
use Rattle.std.proofs.Common.{◌≡◌, ℕ, List, Option, Some, None, IfNone}
use Rattle.ds_names.specs.Endpoint.{EndpointRecord}
use Rattle.ds_entry.specs.Change.{ChangeRecord}
use Rattle.ds_entry.specs.declared.body.Body.{Body}
use Rattle.ds_entry.specs.declared.floor.Floor.{Floor}
use Rattle.ds_machine.specs.Order.{first_cause}
use Rattle.ds_machine.specs.Standing.{Standing, FloorStanding, against_change, against_floor, IsFree, IsFloorFree}
use Rattle.ds_machine.specs.Asking.{AskedChange, against_asked, change_asked, against_sweep}
use Rattle.ds_machine.specs.declared.refusal.Cause.{Cause}
use Rattle.ds_machine.proofs.CauseLemmas.{change_free, asked_free, floor_is_free, sweep_is_free}

pub free_change : (r : Option Cause) (t : Standing) (c : ChangeRecord) → r ≡ first_cause (Some c.version) (against_change t c) →
    IfNone r (IsFree t c)
free_change None t c e = change_free t c (let back : first_cause (Some c.version) (against_change t c) ≡ None = cc in back)
free_change (Some cause) t c e = tt

pub free_asked : (r : Option Cause) (t : Standing) (caller : Option (List ℕ)) (a : AskedChange) (body : Body) →
    r ≡ first_cause (Some a.version) (against_asked t caller a body) → IfNone r (IsFree t (change_asked caller a body))
free_asked None t caller a body e = asked_free t caller a body
    (let back : first_cause (Some a.version) (against_asked t caller a body) ≡ None = cc in back)
free_asked (Some cause) t caller a body e = tt

pub free_floor : (r : Option Cause) (t : FloorStanding) (f : Floor) → r ≡ first_cause None (against_floor t f) → IfNone r (IsFloorFree t f)
free_floor None t f e = floor_is_free t f (let back : first_cause None (against_floor t f) ≡ None = cc in back)
free_floor (Some cause) t f e = tt

pub free_sweep : (r : Option Cause) (t : FloorStanding) (caller : EndpointRecord) (f : Floor) →
    r ≡ first_cause None (against_sweep t caller f) → IfNone r (IsFloorFree t f)
free_sweep None t caller f e = sweep_is_free t caller f (let back : first_cause None (against_sweep t caller f) ≡ None = cc in back)
free_sweep (Some cause) t caller f e = tt
