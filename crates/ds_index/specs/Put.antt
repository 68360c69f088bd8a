-- What is held, with its marks, after a change or a floor was taken.
use Rattle.std.specs.Prelude.{◌≡◌, Ok}
use Rattle.std.specs.FinMap.{insert}
use Rattle.ds_entry.specs.Change.{ChangeRecord}
use Rattle.ds_entry.specs.declared.floor.Floor.{Floor}
use Rattle.ds_join.specs.declared.merge.Merge.TheVariants.{Taken}
use Rattle.ds_held.specs.Merge.{after_merge}
use Rattle.ds_held.specs.Raise.{after_raise, at_kept_keys}
use Rattle.ds_index.specs.Marked.{MarkedHolding}

module _ {M : Type 0} where
  -- The state after a put: the change is at its key, with the mark beside it, and all else is unchanged.
  pub record IsPutMarked (old : MarkedHolding M) (c : ChangeRecord) (mark : M) (new : MarkedHolding M) : Type 0 where
    pub held : new.held ≡ after_merge old.held c (Ok Taken)
    pub marks : new.marks ≡ insert old.marks c.key mark
    pub floor_marks : new.floor_marks ≡ old.floor_marks

  -- The state after a raised floor: the floor is its owner's, with the mark beside it; what it voids is dropped with
  -- its marks; and all else is unchanged.
  pub record IsRaisedMarked (old : MarkedHolding M) (f : Floor) (mark : M) (new : MarkedHolding M) : Type 0 where
    pub held : new.held ≡ after_raise old.held f (Ok Taken)
    pub marks : new.marks ≡ at_kept_keys f old.held.changes old.marks
    pub floor_marks : new.floor_marks ≡ insert old.floor_marks f.owner mark
