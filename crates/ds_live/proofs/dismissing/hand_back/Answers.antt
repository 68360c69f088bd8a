use Rattle.std.proofs.Common.{◌≡◌, Option, subst, sym}
use Rattle.ds_live.specs.Faults.{IsFaultOr}
use Rattle.ds_live.specs.declared.live_fault.LiveFault.{LiveFault}
use Rattle.ds_live.specs.declared.live_fault.LiveFault.TheVariants.{NoRoom}
use Rattle.ds_live.proofs.FailLemmas.{room_or, same_fault}
use Rattle.ds_live.proofs.dismissing.hand_back.Goals as goal

pub returns-in-Ok-clause-cause : goal.returns-in-Ok-clause-cause
returns-in-Ok-clause-cause c = same_fault _ c.args.fault

pub returns-in-Err-clause-cause : goal.returns-in-Err-clause-cause
returns-in-Err-clause-cause c =
    subst (λ (o : Option LiveFault). IsFaultOr (λ told. told ≡ NoRoom) c.args.fault o) (sym c.or.ensures)
    (room_or c.args.fault c.in-Err.room c.in-Err.ensures.cause)
