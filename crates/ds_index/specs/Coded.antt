-- The code of what is held with marks, by which a proof distinguishes holdings.
use Rattle.std.specs.Prelude.{refl}
use Rattle.std.specs.FinMap as map
use Rattle.std.specs.Coded.{Coded, code_by, coded×}
use Rattle.ds_names.specs.Key.{name_cmp, key_cmp}
use Rattle.ds_names.specs.contracts.key.Key.{the_row as key_row}
use Rattle.ds_names.specs.contracts.name.Name.{the_row as name_row}
use Rattle.ds_held.specs.Held.{Holding}
use Rattle.ds_held.specs.Coded.{holding_code}
use Rattle.ds_index.specs.Marked.{MarkedHolding}

-- The code of a holding with marks: what is held, the marks of keys, and those of owners.
abbrev pub marked_code : {M : Type 0} → Coded M → Coded (MarkedHolding M)
marked_code {M} mark_code =
    code_by (Holding × (map.FinMap key_cmp M × map.FinMap name_cmp M))
    (coded× holding_code (coded× (map.code key_row.coded mark_code) (map.code name_row.coded mark_code)))
    (λ h. (h.held, (h.marks, h.floor_marks))) (λ p. record { held = p.0; marks = p.1.0; floor_marks = p.1.1 }) (λ _. refl)
