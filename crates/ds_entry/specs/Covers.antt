-- The changes that another change makes needless.
use Rattle.std.specs.Prelude.{Bool, ◌&&◌, List, filter}
use Rattle.std.specs.declared.cmp.Ordering.{Ordering}
use Rattle.std.specs.Ordering.{eq_by_cmp, is_le}
use Rattle.ds_names.specs.declared.version.Version.{Version}
use Rattle.ds_names.specs.Key.{name_cmp, key_cmp}
use Rattle.ds_names.specs.Version.{version_cmp}
use Rattle.ds_entry.specs.Change.{ChangeRecord}

-- Whether the first version is at most the second.
abbrev pub is_at_most : Version → Version → Bool
is_at_most v w = is_le (version_cmp v w)

-- Whether `d` has the key and the owner of `c`, and a version at least as great.
abbrev pub covers : ChangeRecord → ChangeRecord → Bool
covers d c = eq_by_cmp key_cmp c.key d.key && (eq_by_cmp name_cmp c.owner d.owner && is_at_most c.version d.version)

-- The changes that `c` covers.
abbrev pub covered_by : ChangeRecord → List ChangeRecord → List ChangeRecord
covered_by c changes = filter (covers c) changes

-- The order of changes, which is the order of their keys.
abbrev pub change_cmp : ChangeRecord → ChangeRecord → Ordering
change_cmp c d = key_cmp c.key d.key
