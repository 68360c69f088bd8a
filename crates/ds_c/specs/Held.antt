-- What a handle owns.
use Rattle.core.specs.declared.option.Option.{Option}
use Rattle.core.specs.declared.option.Option.TheVariants.{None, Some}
use base.Fml.{Fml, feq}
use denote.RattleType.{RattleType}
use denote.RawPtr.{Ptr, null_ptr}
use Rattle.std_alloc.specs.Box.Ownership.{box_owns}
use mir.Syntax.{Ty}
use Rattle.std.specs.declared.alloc.Global.{Global}
use Rattle.std.specs.contracts.impls.GlobalAllocator.TheImpl.{ghosts}
use Rattle.c_keeper.specs.contracts.session.KeeperSession as session
use Rattle.ds_submap.specs.contracts.map.SubMap as map
use Rattle.c_store.specs.contracts.server_table.ServerTable as table
use Rattle.c_desk.specs.contracts.board.Board as board
use Rattle.c_desk.specs.contracts.seat.Seat as seat
use Rattle.c_bridge.specs.contracts.bridge.StoreBridge as bridge

-- The token by which the heap knows a block; it doesn't depend on the handle to the heap.
abbrev pub any_heap : Global
any_heap = record { memory = record { seal = tt } }

abbrev pub chunk : Ty → Ptr → Fml
chunk = ghosts.dealloc_token any_heap

-- The ownership of a handle: null if it is closed, else a box of the value.
abbrev pub box_or_null : (R : RattleType) → Ptr → Option R.Denot → Fml
box_or_null R at None = feq Ptr at null_ptr
box_or_null R at (Some x) = box_owns chunk R at x

-- The ownership of a handle of a store, of a map, of a table, of a desk, of a seat and of a bridge.
abbrev pub holds : Ptr → Option session.the_row.Denot → Fml
holds = box_or_null session.the_row

abbrev pub holds_map : Ptr → Option map.the_row.Denot → Fml
holds_map = box_or_null map.the_row

abbrev pub holds_table : Ptr → Option table.the_row.Denot → Fml
holds_table = box_or_null table.the_row

abbrev pub holds_desk : Ptr → Option board.the_row.Denot → Fml
holds_desk = box_or_null board.the_row

abbrev pub holds_seat : Ptr → Option seat.the_row.Denot → Fml
holds_seat = box_or_null seat.the_row

abbrev pub holds_bridge : Ptr → Option bridge.the_row.Denot → Fml
holds_bridge = box_or_null bridge.the_row
