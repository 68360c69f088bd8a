-- The units of a table and their drivers.
use Rattle.std.specs.Prelude.{ℕ, ◌==◌, Bool, List, Option}
use Rattle.std.specs.List.{list_any}
use Rattle.std.specs.Map.{lookup}
use Rattle.driver_tables.specs.declared.device.Class.{Class}
use Rattle.driver_tables.specs.declared.device.Class.TheVariants.{Network}
use Rattle.ds_names.specs.Name.{is_same_name}

-- The class of a driver, and the label under which RS starts it.
pub record Driver : Type 0 where
  pub class : Class
  pub label : List ℕ

-- The driver of a port.
abbrev pub net_driver : List ℕ → Driver
net_driver label = record { class = Network; label = label }

-- The driver of a unit, if the unit is assigned.
abbrev pub driver_of : List (ℕ × Driver) → ℕ → Option Driver
driver_of units unit = lookup (λ u. unit == u) units

abbrev pub has_label : List (ℕ × Driver) → List ℕ → Bool
has_label units label = list_any (λ (u : ℕ × Driver). is_same_name label u.1.label) units
