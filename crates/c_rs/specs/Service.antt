-- What RS knows of a service, in numbers.
use Rattle.std.specs.Prelude.{ℕ, length, slice_get, Option, None, Some}
use Rattle.std.specs.Option.{option_map, option_and_then}
use Rattle.rs_settings.specs.declared.class.Class.{Class}
use Rattle.rs_settings.specs.declared.class.Class.TheVariants.{Block, Character, Network, Server}
use Rattle.rs_settings.specs.declared.service.Service.{Service}
use Rattle.rs_core.specs.State.{RsRecord}
use Rattle.rs_core.specs.declared.state.State.{State}
use Rattle.rs_core.specs.declared.state.State.TheVariants.{Down, Up, Waiting, GaveUp}
use Rattle.c_rs.specs.declared.service.RsService.{RsService}
use Rattle.c_rs.specs.Action.{label_block}

-- The number of a class.
abbrev pub class_number : Class → ℕ
class_number Block = 0
class_number Character = 1
class_number Network = 2
class_number Server = 3

-- Whether there is a unit, and the unit.
abbrev pub has_unit : Option ℕ → ℕ
has_unit None = 0
has_unit (Some unit) = 1

abbrev pub unit_or_0 : Option ℕ → ℕ
unit_or_0 None = 0
unit_or_0 (Some unit) = unit

-- The struct of a service: its settings, and zeros for its state.
abbrev pub with_settings : Service → RsService
with_settings service = record {
  until = 0;
  state = 0;
  generation = 0;
  failures = 0;
  period = service.period;
  limit = service.limit;
  slot = 0;
  service_class = class_number service.class;
  has_unit = has_unit service.unit;
  unit = unit_or_0 service.unit;
  label_length = length service.label;
  label = label_block service.label;
}

-- The struct of a service in a state.
abbrev pub told_service : Service → State → RsService
told_service service Down = with_settings service
told_service service (Up r) =
    record (with_settings service) { state = 1; generation = r.endpoint.generation; slot = r.endpoint.slot; failures = r.failures }
told_service service (Waiting p) = record (with_settings service) { state = 2; until = p.until; failures = p.failures }
told_service service GaveUp = record (with_settings service) { state = 3 }

-- The struct of the service with the index; none past the end, or if RS isn't open.
abbrev pub service_row : Option RsRecord → ℕ → Option RsService
service_row None index = None
service_row (Some rs) index =
    option_and_then (λ service. option_map (told_service service) (slice_get rs.states index)) (slice_get rs.settings.services index)
