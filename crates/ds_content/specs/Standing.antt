-- What a change and a floor meet, read from a store's content.
use Rattle.std.specs.Prelude.{Bool, length}
use Rattle.ds_names.specs.declared.key.Key.{Key}
use Rattle.ds_entry.specs.Change.{ChangeRecord}
use Rattle.ds_entry.specs.Void.{is_void}
use Rattle.ds_entry.specs.declared.floor.Floor.{Floor}
use Rattle.ds_machine.specs.Parts.{changes_in, floors_in, held_at, floor_at}
use Rattle.ds_machine.specs.Standing.{Standing, FloorStanding}
use Rattle.ds_content.specs.Content.{ContentRecord}

-- What a change of the key meets, given whether a floor makes it void.
abbrev pub standing_with : ContentRecord → Key → Bool → Standing
standing_with content key void = record {
  held = held_at content.held key;
  void = void;
  count = length (changes_in content.held);
  most = content.limits.keys;
  position = content.journal.position;
}

-- What a change meets.
abbrev pub standing_in : ContentRecord → ChangeRecord → Standing
standing_in content c = standing_with content c.key (is_void content.held c)

-- What a floor meets.
abbrev pub floor_standing_in : ContentRecord → Floor → FloorStanding
floor_standing_in content f = record {
  held = floor_at content.held f.owner;
  count = length (floors_in content.held);
  position = content.journal.position;
}
