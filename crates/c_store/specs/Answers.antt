-- The answers of a driver table, in numbers.
use Rattle.std.specs.Prelude.{ℕ, ◌-◌, ◌^◌, min, List, length, Option, Some, None, Result, Ok, Err}
use Rattle.driver_tables.specs.declared.fault.TableFault.{TableFault}
use Rattle.driver_tables.specs.declared.fault.TableFault.TheVariants as faults
use Rattle.driver_tables.specs.declared.moves.Move.{Move}
use Rattle.c_values.specs.declared.answer.Answer.{Answer}
use Rattle.c_values.specs.declared.answer.Word.TheVariants as words
use Rattle.c_values.specs.Answer.{no_request, worded}

-- The number of a fault. Faults that a store or RS has too have the number that they have there.
abbrev pub table_fault_number : TableFault → ℕ
table_fault_number faults.Assigned = 40
table_fault_number faults.TwoIds = 41
table_fault_number faults.NoDevice = 42
table_fault_number faults.NotPending = 43
table_fault_number faults.OldEndpoint = 30
table_fault_number faults.NoRoom = 20

-- The number of a cause; 0 for none.
abbrev pub stop_number : Option TableFault → ℕ
stop_number None = 0
stop_number (Some fault) = table_fault_number fault

-- The word of an answer with moves, which comes after the words of other answers.
abbrev pub moved : ℕ
moved = 17

-- The answer with moves, which counts them, and says why the call ended early, if it did. The count always fits.
abbrev pub told_moves : List Move → Option TableFault → Answer
told_moves moves stop = record no_request { word = moved; count = min (length moves) (2 ^ 64 - 1); refusal = stop_number stop }

-- The answer to a call that the table refused.
abbrev pub told_fault : TableFault → Answer
told_fault fault = record (worded words.Refused) { refusal = table_fault_number fault }

-- The answer to an assignment or a reply.
abbrev pub told_call : Result (List Move) TableFault → Answer
told_call (Ok moves) = told_moves moves None
told_call (Err fault) = told_fault fault
