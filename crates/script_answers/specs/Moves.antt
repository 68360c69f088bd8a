-- The lines of driver tables' moves.
use Rattle.std.specs.Prelude.{ℕ, List, [], ◌∷◌, codes}
use Rattle.std.specs.Fmt.{decimal}
use Rattle.driver_tables.specs.declared.fault.TableFault.{TableFault}
use Rattle.driver_tables.specs.declared.fault.TableFault.TheVariants as faults
use Rattle.driver_tables.specs.declared.moves.Ending.{Ending}
use Rattle.driver_tables.specs.declared.moves.Ending.TheVariants.{Done, Fault}
use Rattle.driver_tables.specs.declared.moves.Move.{Move}
use Rattle.driver_tables.specs.declared.moves.Move.TheVariants.{Start, Send, Answer, Held}
use Rattle.ds_names.specs.Endpoint.{endpoint_text}
use Rattle.ds_line.specs.Part.{part, texts, Word, Number, Endpoint}
use Rattle.ds_line.specs.Spelling.{space, newline}
use Rattle.script_answers.specs.Refusal.{refusal_line}

-- The answer to `assign`.
abbrev pub assigned_line : List ℕ
assigned_line = texts (part Word (codes "assigned") ∷ newline ∷ [])

-- The word of a request's ending.
abbrev pub ending_word : Ending → List ℕ
ending_word Done = codes "done"
ending_word Fault = codes "fault"

-- The line of a move.
abbrev pub move_line : Move → List ℕ
move_line (Start unit endpoint) =
    texts (part Word (codes "start") ∷ space ∷ part Number (decimal unit) ∷ space ∷ part Endpoint (endpoint_text endpoint)
    ∷ newline ∷ [])
move_line (Send id endpoint) =
    texts (part Word (codes "send") ∷ space ∷ part Number (decimal id) ∷ space ∷ part Endpoint (endpoint_text endpoint)
    ∷ newline ∷ [])
move_line (Answer id ending) =
    texts (part Word (codes "answer") ∷ space ∷ part Number (decimal id) ∷ space ∷ part Word (ending_word ending)
    ∷ newline ∷ [])
move_line (Held id) = texts (part Word (codes "held") ∷ space ∷ part Number (decimal id) ∷ newline ∷ [])

-- The line with `moves` and their number.
abbrev pub move_count_line : ℕ → List ℕ
move_count_line count = texts (part Word (codes "moves") ∷ space ∷ part Number (decimal count) ∷ newline ∷ [])

-- The word of a driver table's refusal: its name in lower case.
abbrev pub table_fault_word : TableFault → List ℕ
table_fault_word faults.Assigned = codes "assigned"
table_fault_word faults.TwoIds = codes "twoids"
table_fault_word faults.NoDevice = codes "nodevice"
table_fault_word faults.NotPending = codes "notpending"
table_fault_word faults.OldEndpoint = codes "oldendpoint"
table_fault_word faults.NoRoom = codes "noroom"

-- A driver table's refusal.
abbrev pub table_fault_line : TableFault → List ℕ
table_fault_line fault = refusal_line (table_fault_word fault)
