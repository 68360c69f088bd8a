use Rattle.ds_c.proofs.CrossingLemmas.{handle_send, map_handle_send, table_handle_send}
use Rattle.ds_c.proofs.desk_handle.DeskHandle.TheSendSync as desk_handle
use Rattle.ds_c.proofs.seat_handle.SeatHandle.TheSendSync as seat_handle
use Rattle.ds_c.proofs.law.handles_cross.Goals as goal

pub returns : goal.returns
returns c = record {
  store = handle_send;
  map = map_handle_send;
  table = table_handle_send;
  desk = desk_handle.the_send;
  seat = seat_handle.the_send;
}
