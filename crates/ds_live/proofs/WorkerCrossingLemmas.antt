-- Workers at desks of stores may go to another thread, and their desks may be shared.
use denote.RattleType.{RattleType}
use denote.Param.Send.{IsSend, IsSync, sendable}
use denote.Param.SendFields.{declared_send}
use Rattle.std.proofs.Crossing.{crosses}
use Rattle.ds_live.specs.contracts.turns.Turns as Turns

-- a worker's turns go there as each of their fields does
pub turns_send : (κ : _) (R G D W : RattleType) → IsSync R → IsSync G → IsSync D → IsSend W → IsSend (Turns.the_row κ R G D W)
turns_send κ R G D W r g d w = declared_send (Turns.the_type κ R G D W) (
  search (r, sendable) depth 40,
  (
    search sendable depth 40,
    (
      search (g, sendable) depth 40,
      (
        search (sendable, crosses) depth 40,
        (search (d, sendable) depth 40, (search (w, sendable) depth 40, tt)),
      ),
    ),
  ),
)
