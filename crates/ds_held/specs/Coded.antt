-- The code of what is held, by which a proof distinguishes holdings.
use Rattle.std.specs.Prelude.{ℕ, refl}
use Rattle.std.specs.FinMap as map
use Rattle.std.specs.Coded.{Coded, code_by, coded×}
use Rattle.ds_names.specs.Key.{name_cmp, key_cmp}
use Rattle.ds_names.specs.contracts.key.Key.{the_row as key_row}
use Rattle.ds_names.specs.contracts.name.Name.{the_row as name_row}
use Rattle.ds_names.specs.contracts.endpoint.Generation.{the_row as generation_row}
use Rattle.ds_entry.specs.Change.{ChangeRecord}
use Rattle.ds_entry.specs.contracts.change.Change.{the_row as change_row}
use Rattle.ds_held.specs.contracts.limits.Limits.{the_row as limits_row}
use Rattle.ds_held.specs.Limits.{LimitsRecord}
use Rattle.ds_held.specs.Held.{Holding}

-- The code of a holding: its floors, its changes and its limits.
abbrev pub holding_code : Coded Holding
holding_code =
    code_by (map.FinMap name_cmp ℕ × (map.FinMap key_cmp ChangeRecord × LimitsRecord))
    (coded× (map.code name_row.coded generation_row.coded) (coded× (map.code key_row.coded change_row.coded) limits_row.coded))
    (λ h. (h.floors, (h.changes, h.limits))) (λ p. record { floors = p.0; changes = p.1.0; limits = p.1.1 }) (λ _. refl)
