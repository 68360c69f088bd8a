-- The properties of a desk.
use Rattle.std.specs.Prelude.{ℕ}
use Rattle.atomic_table.specs.Seated.{TableId}
use Rattle.desk_rule.specs.declared.table.Opening.{Opening}
use Rattle.desk.specs.declared.desk.Made.{Ghosts}
use Rattle.desk.specs.declared.desk.DeskOf.{DeskOf}

-- The identity of the desk, which its passes and notes have too.
abbrev pub identity : {S V K Q : Type 0} {G : Ghosts K} → DeskOf S V K Q G → TableId
identity d = d.table.shared.table_id

module _ {S V M Q : Type 0} {G : Ghosts (Opening M)} where
  -- The machine with which the desk was opened.
  abbrev pub opened_with : DeskOf S V (Opening M) Q G → M
  opened_with d = d.table.shared.key.machine.value

  abbrev pub pass_count : DeskOf S V (Opening M) Q G → ℕ
  pass_count d = d.table.shared.key.passes

  -- The place of the desk's first call.
  abbrev pub first_call : DeskOf S V (Opening M) Q G → ℕ
  first_call d = d.table.shared.key.first
