use mir.Raw.{raw}
use base.Shift.{Keyless}
use denote.Memory.{lone}
use denote.Builtin.{RawPtr}
use denote.RawPtr.{Ptr}
use denote.Struct.Struct.{exits_of}
use denote.Struct.Owning.{shape, fields, to}
use denote.Param.Send.{IsSend, owning_send, struct_send, sendable}
use Rattle.std.specs.declared.option.Option.{Option}
use Rattle.std.specs.declared.option.Option.TheVariants.{None, Some}
use Rattle.std.proofs.Crossing.{frees}
use Rattle.std_alloc.proofs.SendSync.{lies, quiet}
use Rattle.c_desk.specs.contracts.board.Board as held
use Rattle.c_desk.proofs.CrossingLemmas.{board_send}
use Rattle.ds_c.specs.Held.{any_heap, holds_desk}
use Rattle.ds_c.specs.contracts.desk_handle.DeskHandle.{the_row, the_type}

held_keyless : (p : Ptr) (x : Option held.the_row.Denot) → Keyless (holds_desk p x)
held_keyless p None = tt
held_keyless p (Some x) = (lies held.the_row board_send p x, frees.frees any_heap (raw (lone held.the_row.mir)) p)

ps : IsSend RawPtr
ps = search sendable

pub send : IsSend the_row
send = owning_send the_type (ps, tt) (λ d. held_keyless d.at d.value) (λ k. quiet (to the_type) (exits_of k (fields the_type)) ((struct_send (shape the_type) (ps, tt)).leaving k))
