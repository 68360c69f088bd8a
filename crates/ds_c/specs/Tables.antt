-- What the calls on the handle of a table return, and what they leave in it.
use Rattle.std.specs.Prelude.{◌≡◌, ◌⊎◌, ℕ, ◌<◌, ◌≤◌, List, drop, Option, None, Some}
use Rattle.ds_entry.specs.declared.item.Item.{Item}
use Rattle.ds_held.specs.Held.{held_items}
use Rattle.ds_submap.specs.Map.{SubMapRecord}
use Rattle.ds_machine.specs.declared.refusal.Refusal.TheVariants.{BadKind, NoRoom}
use Rattle.c_values.specs.declared.answer.Answer.{Answer}
use Rattle.c_values.specs.Answer.{refusal_number}
use Rattle.c_store.specs.declared.giving.TableMove.{TableMove}
use Rattle.c_store.specs.declared.server_table.ServerTable.{ServerTable}
use Rattle.c_store.specs.Calls.{IsEmptyTable}
use Rattle.c_store.specs.Giving.{GivesMoves}
use Rattle.ds_c.specs.Calls.{done, is_closed, is_open}

-- Whether an empty table is made; or none, if the number isn't a server's, or else if memory ran out.
abbrev pub OpenedTable : ℕ → ℕ → Option ServerTable → Type 0
OpenedTable server word None = ((1 < server) × (word ≡ refusal_number BadKind)) ⊎ ((server ≤ 1) × (word ≡ refusal_number NoRoom))
OpenedTable server word (Some t) = (word ≡ done) × IsEmptyTable server t

-- The effect of a call that makes a table. An open handle is unchanged.
abbrev pub OpensTable : ℕ → Option ServerTable → ℕ → Option ServerTable → Type 0
OpensTable server None word new = OpenedTable server word new
OpensTable server (Some old) word new = (word ≡ is_open) × (new ≡ Some old)

-- Whether the table of an open handle takes a call.
abbrev pub CallsTo : (ServerTable → Answer → ServerTable → Type 0) → ServerTable → ℕ → Answer → Option ServerTable → Type 0
CallsTo R old word answer None = ⊥
CallsTo R old word answer (Some new) = (word ≡ done) × R old answer new

-- The effect of a call on a table. If the handle is closed, it and the answer's place are unchanged.
abbrev pub CallsTable : (ServerTable → Answer → ServerTable → Type 0) → Option ServerTable → Answer → ℕ →
    Answer → Option ServerTable → Type 0
CallsTable R None before word answer new = (word ≡ is_closed) × (answer ≡ before) × (new ≡ None)
CallsTable R (Some old) before word answer new = CallsTo R old word answer new

-- The effect of a call on a table with the items that a map holds. Without a map, the table and the answer's place are unchanged.
abbrev pub CallsByMap : (List Item → ServerTable → Answer → ServerTable → Type 0) → Option SubMapRecord → ServerTable →
    Answer → ℕ → Answer → ServerTable → Type 0
CallsByMap R None old before word answer new = (word ≡ is_closed) × (answer ≡ before) × (new ≡ old)
CallsByMap R (Some map) old before word answer new = (word ≡ done) × R (held_items map.held) old answer new

-- Whether the table of an open handle takes such a call, as `CallsByMap` says.
abbrev pub CallsToByMap : (List Item → ServerTable → Answer → ServerTable → Type 0) → Option SubMapRecord → ServerTable → Answer → ℕ →
    Answer → Option ServerTable → Type 0
CallsToByMap R map old before word answer None = ⊥
CallsToByMap R map old before word answer (Some new) = CallsByMap R map old before word answer new

-- The effect of a call on the handles of a table and a map. If one is closed, both and the answer's place are unchanged.
abbrev pub CallsWithMap : (List Item → ServerTable → Answer → ServerTable → Type 0) → Option SubMapRecord → Option ServerTable → Answer →
    ℕ → Answer → Option ServerTable → Type 0
CallsWithMap R map None before word answer new = (word ≡ is_closed) × (answer ≡ before) × (new ≡ None)
CallsWithMap R map (Some old) before word answer new = CallsToByMap R map old before word answer new

-- The effect of a call that writes moves of the last answer. If the handle is closed, none is written.
abbrev pub FetchesMoves : Option ServerTable → ℕ → List TableMove → ℕ → ℕ → List TableMove → ℕ → Type 0
FetchesMoves None first place before word moves given = (word ≡ is_closed) × (moves ≡ place) × (given ≡ before)
FetchesMoves (Some t) first place before word moves given = (word ≡ done) × GivesMoves (drop first t.moves) place given moves
