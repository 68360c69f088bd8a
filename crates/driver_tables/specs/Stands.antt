-- What the code keeps of a table, and the tables that this value stands for.
use Rattle.std.specs.Prelude.{◌≡◌, ℕ, nat_lt, Bool, true, List, map, Option, Some, None}
use Rattle.ds_names.specs.Endpoint.{EndpointRecord}
use Rattle.driver_tables.specs.declared.device.Device.{Device}
use Rattle.driver_tables.specs.declared.request.Pending.{Pending}
use Rattle.driver_tables.specs.Driver.{Driver}
use Rattle.driver_tables.specs.Label.{LabelState, endpoint_now, newest}
use Rattle.driver_tables.specs.DriverTable.{DriverTable, Request, last_sent, pending, is_above}
use Rattle.driver_tables.specs.Reached.{IsTableReached}

pub record TableRecord : Type 0 where
  -- the units, each with its driver and the state of the driver's label
  pub devices : List (ℕ × Device)
  -- the pending requests, each with the endpoint that it was last sent to
  pub pending : List Pending
  -- the last accepted id
  pub last : Option ℕ

abbrev pub device_of : List LabelState → Driver → Device
device_of states d = record { class = d.class; label = d.label; endpoint = endpoint_now states d.label; newest = newest states d.label }

abbrev pub unit_of : List LabelState → ℕ × Driver → ℕ × Device
unit_of states u = (u.0, device_of states u.1)

abbrev pub pending_of : List (ℕ × EndpointRecord) → Request → Pending
pending_of sends r = record { id = r.id; unit = r.unit; sent = last_sent sends r.id }

-- Whether the id is above the last one, if there is one.
abbrev pub is_above_last : Option ℕ → ℕ → Bool
is_above_last None id = true
is_above_last (Some last) id = nat_lt last id

-- The value is what the code keeps of the table, which began empty.
pub record TableStands (v : TableRecord) (t : DriverTable) : Type 0 where
  pub devices : v.devices ≡ map (unit_of t.states) t.units
  pub pending : v.pending ≡ map (pending_of t.sends) (pending t)
  pub last : (id : ℕ) → is_above t.requests id ≡ is_above_last v.last id
  pub reached : IsTableReached t
