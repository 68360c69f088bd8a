use Rattle.std.proofs.Common.{sym, subst}
use Rattle.std.specs.Prelude.{Option}
use Rattle.ds_machine.specs.declared.refusal.Refusal.TheVariants.{NoRoom}
use Rattle.c_desk.specs.declared.board.Board.{Board}
use Rattle.ds_c.specs.Desks.{OpenedDesk}
use Rattle.ds_c.proofs.desks.desk_in.Goals as goal

pub returns-in-Ok : goal.returns-in-Ok
returns-in-Ok c =
    subst (λ (o : Option Board). OpenedDesk c.args.incarnation c.args.first c.args.ring c.args.seats c.refusal_number.result o) (sym c.requires)
    (record { refusal = NoRoom; why = (c.in-Ok.ensures.fits.0, c.in-Ok.ensures.fits.1, (c.in-Ok.ensures.fits.2, c.in-Ok.ensures.fits.3)); word_is = c.refusal_number.ensures })
