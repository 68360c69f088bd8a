-- The handle of a store, a map or a table may go to another thread, since what it points to may.
use mir.Raw.{raw}
use base.Shift.{Keyless}
use denote.Memory.{lone}
use denote.Builtin.{RawPtr}
use denote.RattleType.{RattleType}
use denote.RawPtr.{Ptr}
use denote.Struct.Struct.{exits_of}
use denote.Struct.Owning.{shape, fields, to}
use denote.Param.Send.{IsSend, owning_send, struct_send, sendable}
use Rattle.std.specs.declared.option.Option.{Option}
use Rattle.std.specs.declared.option.Option.TheVariants.{None, Some}
use Rattle.std.proofs.Crossing.{frees}
use Rattle.std_alloc.proofs.SendSync.{lies, quiet}
use Rattle.c_keeper.specs.contracts.session.KeeperSession as session
use Rattle.c_keeper.proofs.CrossingLemmas.{keeper_session_send}
use Rattle.c_store.specs.contracts.server_table.ServerTable as table
use Rattle.c_store.proofs.CrossingLemmas.{map_send, table_send}
use Rattle.ds_submap.specs.contracts.map.SubMap as map
use Rattle.ds_c.specs.Held.{any_heap, box_or_null}
use Rattle.ds_c.specs.contracts.handle.Handle as handle
use Rattle.ds_c.specs.contracts.map_handle.MapHandle as map_handle
use Rattle.ds_c.specs.contracts.table_handle.TableHandle as table_handle

ps : IsSend RawPtr
ps = search sendable

held_keyless : (R : RattleType) → IsSend R → (p : Ptr) (x : Option R.Denot) → Keyless (box_or_null R p x)
held_keyless R s p None = tt
held_keyless R s p (Some x) = (lies R s p x, frees.frees any_heap (raw (lone R.mir)) p)

pub handle_send : IsSend handle.the_row
handle_send = owning_send handle.the_type (ps, tt) (λ d. held_keyless session.the_row keeper_session_send d.at d.value)
    (λ k. quiet (to handle.the_type) (exits_of k (fields handle.the_type)) ((struct_send (shape handle.the_type) (ps, tt)).leaving k))

pub map_handle_send : IsSend map_handle.the_row
map_handle_send = owning_send map_handle.the_type (ps, tt) (λ d. held_keyless map.the_row map_send d.at d.value)
    (λ k. quiet (to map_handle.the_type) (exits_of k (fields map_handle.the_type))
    ((struct_send (shape map_handle.the_type) (ps, tt)).leaving k))

pub table_handle_send : IsSend table_handle.the_row
table_handle_send = owning_send table_handle.the_type (ps, tt) (λ d. held_keyless table.the_row table_send d.at d.value)
    (λ k. quiet (to table_handle.the_type) (exits_of k (fields table_handle.the_type))
    ((struct_send (shape table_handle.the_type) (ps, tt)).leaving k))
