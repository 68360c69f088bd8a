-- A subscriber's map and a server's table may go to another thread: they are plain data, lists and maps.
use denote.RattleType.{RattleType}
use denote.Param.Send.{IsSend, sendable}
use denote.Param.SendFields.{declared_send}
use Rattle.std.proofs.Crossing.{crosses, send, Vec-send}
use Rattle.std.specs.contracts.alloc.Global as Heap
use Rattle.std.specs.contracts.impls.GlobalAllocator.TheImpl.{ghosts}
use Rattle.std.specs.declared.cmp.PartialEq as eq
use Rattle.std.specs.declared.hash.Hash as hash
use Rattle.std.specs.declared.hash.Hasher as hasher
use Rattle.std.specs.declared.hash.BuildHasher as builder
use Rattle.indexmap.specs.contracts.columns.Columns as Columns
use Rattle.indexmap.specs.contracts.index_table.Bucket as Bucket
use Rattle.indexmap.specs.contracts.index_table.IndexTable as IndexTable
use Rattle.indexmap.specs.contracts.index_table.group.Group as Group
use Rattle.indexmap.specs.contracts.map.IndexMap as IndexMap
use Rattle.ds_pattern.proofs.CrossingLemmas.{filter_send}
use Rattle.ds_names.proofs.endpoint.Endpoint.TheSendSync as endpoint
use Rattle.ds_names.proofs.name.Name.TheSendSync as name
use Rattle.ds_entry.proofs.blob.Blob.TheSendSync as blob
use Rattle.ds_entry.proofs.items.Items.TheSendSync as items
use Rattle.ds_entry.proofs.text.Text.TheSendSync as text
use Rattle.ds_machine.specs.contracts.reply.Reply as Reply
use Rattle.ds_held.proofs.held.Held.TheSendSync as held
use Rattle.ds_submap.specs.contracts.map.SubMap as SubMap
use Rattle.ds_submap.specs.contracts.map.SubMap.TheInside as in_map
use Rattle.driver_tables.specs.contracts.table.Table as Table
use Rattle.driver_tables.specs.contracts.table.Table.TheInside as in_table
use Rattle.driver_tables.specs.contracts.device.Device as Device
use Rattle.driver_tables.specs.contracts.request.Pending as Pending
use Rattle.driver_tables.specs.contracts.file_table.FileTable as FileTable
use Rattle.driver_tables.specs.contracts.file_table.FileTable.TheInside as in_file
use Rattle.driver_tables.specs.contracts.net_table.NetTable as NetTable
use Rattle.driver_tables.specs.contracts.net_table.NetTable.TheInside as in_net
use Rattle.driver_tables.specs.contracts.moves.Moves as Moves
use Rattle.driver_tables.proofs.moves.Move.TheSendSync as move
use Rattle.c_store.specs.contracts.drivers.Tables as Tables
use Rattle.c_store.specs.contracts.moves.LastMoves as LastMoves
use Rattle.c_store.specs.contracts.moves.LastMoves.TheInside as in_moves
use Rattle.c_store.specs.contracts.server_table.ServerTable as ServerTable

-- ---- a subscriber's map
pub map_send : IsSend SubMap.the_row
map_send =
    let inside : IsSend in_map.the_row =
    declared_send in_map.the_type (search (filter_send, sendable) depth 40, (search (held.the_send, sendable) depth 40, tt)) in
    search (inside, sendable) depth 40

-- ---- a server's table
module _ (K V S T : RattleType) (e : eq.Ghosts K.Denot) (h : hash.Ghosts K.Denot) (b : builder.Ghosts S.Denot T.Denot)
    (w : hasher.Ghosts T.Denot) where
  columns_send : IsSend K → IsSend V → IsSend (Columns.the_field K V Heap.the_row ghosts).row
  columns_send sk sv = let a = Vec-send K sk in let b = Vec-send V sv in search sendable depth 20

  index_send : IsSend (IndexTable.the_field Heap.the_row ghosts).row
  index_send =
      let a = Vec-send Group.the_row (search sendable depth 20) in
      let b = Vec-send Bucket.the_row (search sendable depth 20) in
      search sendable depth 20

  IndexMap-send : IsSend K → IsSend V → IsSend S → IsSend (IndexMap.the_field K V S Heap.the_row T e h b w ghosts).row
  IndexMap-send sk sv ss = let a = columns_send sk sv in let t = index_send in search sendable depth 20

device_send : IsSend Device.the_row
device_send = search (name.the_send, endpoint.the_send, sendable) depth 40

pending_send : IsSend Pending.the_row
pending_send = search (endpoint.the_send, sendable) depth 40

units_send : IsSend Table.the_row
units_send =
    let inside : IsSend in_table.the_row = declared_send in_table.the_type (
      search (send, sendable) depth 40,
      (
        search (IndexMap-send, device_send, sendable) depth 40,
        (search (pending_send, crosses, sendable) depth 40, (search sendable depth 40, tt)),
      ),
    ) in
    search (inside, sendable) depth 40

file_field : IsSend FileTable.the_field.row
file_field =
    let inside : IsSend in_file.the_row = declared_send in_file.the_type (search (units_send, sendable) depth 40, tt) in
    search (inside, sendable) depth 40

net_field : IsSend NetTable.the_field.row
net_field =
    let inside : IsSend in_net.the_row = declared_send in_net.the_type (search (units_send, sendable) depth 40, tt) in
    search (inside, sendable) depth 40

tables_send : IsSend Tables.the_row
tables_send = search (file_field, net_field, sendable) depth 40

moves_send : IsSend Moves.the_row
moves_send = search (move.the_send, crosses, sendable) depth 40

last_moves_send : IsSend LastMoves.the_row
last_moves_send =
    let inside : IsSend in_moves.the_row = declared_send in_moves.the_type
    (search (moves_send, crosses, sendable) depth 40, (search (move.the_send, sendable) depth 40, tt)) in
    search (inside, sendable) depth 40

pub table_send : IsSend ServerTable.the_row
table_send = declared_send ServerTable.the_type
    (search (tables_send, sendable) depth 40, (search (last_moves_send, sendable) depth 40, tt))

-- ---- a reply
pub reply_field : IsSend Reply.the_field.row
reply_field = search (items.the_send, text.the_send, blob.the_send, name.the_send, endpoint.the_send, crosses, sendable) fits 20000 depth 80
