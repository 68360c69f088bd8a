-- Conditions on the keys of a holding.
use Rattle.std.specs.Prelude.{Bool, true, Option, Some, None}
use Rattle.std.specs.Ordering.{is_lt}
use Rattle.ds_names.specs.declared.key.Key.{Key}
use Rattle.ds_names.specs.Key.{key_cmp}
use Rattle.ds_entry.specs.Change.{ChangeRecord}

-- Whether the key comes after `low`. Every key comes after `None`.
abbrev pub is_after : Key → Option Key → Bool
is_after key None = true
is_after key (Some low) = is_lt (key_cmp low key)

-- Whether the change's key comes after `low`.
abbrev pub comes_after : Option Key → ChangeRecord → Bool
comes_after low c = is_after c.key low
