use Rattle.std.proofs.Common.{sym, subst}
use Rattle.std.specs.Prelude.{Option}
use Rattle.ds_machine.specs.declared.refusal.Refusal.TheVariants.{NoRoom}
use Rattle.c_keeper.specs.declared.session.KeeperSession.{KeeperSession}
use Rattle.ds_c.specs.Calls.{Opened}
use Rattle.ds_c.proofs.open_in.Goals as goal

pub returns-in-Ok : goal.returns-in-Ok
returns-in-Ok c =
    subst (λ (o : Option KeeperSession). Opened c.args.incarnation c.args.first c.args.ring c.refusal_number.result o) (sym c.requires)
    (record { refusal = NoRoom; why = c.in-Ok.ensures.fits; word_is = c.refusal_number.ensures })
