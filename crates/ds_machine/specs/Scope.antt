-- Which keys and items a scope has.
use Rattle.std.specs.Prelude.{Bool}
use Rattle.ds_names.specs.declared.key.Key.{Key}
use Rattle.ds_entry.specs.Item.{passes}
use Rattle.ds_entry.specs.declared.item.Item.{Item}
use Rattle.ds_feed.specs.Feed.{all_keys}
use Rattle.ds_pattern.specs.Under.{is_under}
use Rattle.ds_machine.specs.declared.command.Scope.{Scope}
use Rattle.ds_machine.specs.declared.command.Scope.TheVariants.{All, Under}

-- Whether the key is under the scope.
abbrev pub keeps : Scope → Key → Bool
keeps All key = all_keys key
keeps (Under query) key = is_under query key

-- Whether the item is under the scope. A floor always is.
abbrev pub is_kept : Scope → Item → Bool
is_kept scope i = passes (keeps scope) i
