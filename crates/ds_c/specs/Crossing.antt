-- Which handles may go to another thread.
use denote.Param.Send.{IsSend}
use Rattle.ds_c.specs.contracts.desk_handle.DeskHandle as desk_handle
use Rattle.ds_c.specs.contracts.handle.Handle as handle
use Rattle.ds_c.specs.contracts.map_handle.MapHandle as map_handle
use Rattle.ds_c.specs.contracts.seat_handle.SeatHandle as seat_handle
use Rattle.ds_c.specs.contracts.table_handle.TableHandle as table_handle

-- Whether each handle may: of a store with its RS and keepers, a map, a table, a desk and a seat.
pub record HandlesCross : Type 0 where
  pub store : IsSend handle.the_row
  pub map : IsSend map_handle.the_row
  pub table : IsSend table_handle.the_row
  pub desk : IsSend desk_handle.the_row
  pub seat : IsSend seat_handle.the_row
