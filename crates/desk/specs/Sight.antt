-- The properties of a view that passes and notes use.
use Rattle.std.specs.Prelude.{ℕ, ◌==◌, Bool, not, ◌&&◌, length}
use Rattle.desk_rule.specs.declared.view.View.{View}
use Rattle.desk_rule.specs.Notices.{raised_by, taken_by}

module _ {M C R : Type 0} where
  -- Whether the view is a note's.
  abbrev pub listens_of : View M C R → Bool
  listens_of v = not v.holding && (length v.passes == 0)

  abbrev pub raised_of : View M C R → ℕ → ℕ → ℕ
  raised_of v = raised_by v.passes

  abbrev pub taken_of : View M C R → ℕ → ℕ → ℕ
  taken_of v = taken_by v.passes
