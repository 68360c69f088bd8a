-- The sizes that a run may have.
use Rattle.std.specs.Prelude.{Bool, ◌&&◌, nat_le}
use Rattle.ds_live.specs.declared.sizes.Sizes.{Sizes}

-- Whether each size is in its range: 1 to 8 publishers, 1 to 8 subscribers, 1 to 1000 turns.
abbrev pub are_fit : Sizes → Bool
are_fit s =
    nat_le 1 s.publishers
    && (nat_le s.publishers 8 && (nat_le 1 s.subscribers && (nat_le s.subscribers 8 && (nat_le 1 s.changes && nat_le s.changes 1000))))
