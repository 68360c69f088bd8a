-- What a call does, for each table that the value stands for.
use Rattle.std.specs.Prelude.{Result, OnOk}
use Rattle.driver_tables.specs.declared.fault.TableFault.{TableFault}
use Rattle.driver_tables.specs.DriverTable.{DriverTable}
use Rattle.driver_tables.specs.Answer.{IsAnswer}
use Rattle.driver_tables.specs.Stands.{TableRecord, TableStands}

module _ {A : Type 0} (v : TableRecord) (outcome : DriverTable → Result A TableFault × DriverTable) (answer : Result A TableFault) where
  -- The answer is the outcome's, or NoRoom.
  abbrev pub AnswersAs : Type 0
  AnswersAs = (t : DriverTable) → TableStands v t → IsAnswer (outcome t).0 answer

  -- A call that isn't refused leaves a value that stands for the outcome's table.
  abbrev pub LeavesAs : TableRecord → Type 0
  LeavesAs w = (t : DriverTable) → TableStands v t → OnOk answer (TableStands w (outcome t).1)
