use Rattle.std.proofs.Common.{sym, subst}
use Rattle.std.specs.Prelude.{Option}
use Rattle.ds_machine.specs.declared.refusal.Refusal.TheVariants.{NoRoom}
use Rattle.ds_submap.specs.Map.{SubMapRecord}
use Rattle.ds_c.specs.Maps.{OpenedMap}
use Rattle.ds_c.proofs.maps.new_in.Goals as goal

pub returns-in-Ok : goal.returns-in-Ok
returns-in-Ok c =
    subst (λ (o : Option SubMapRecord). OpenedMap c.args.kinds c.args.pattern.now c.refusal_number.result o) (sym c.requires)
    (record { refusal = NoRoom; why = (c.in-Ok.ensures.made.is_sum, c.in-Ok.ensures.made.pattern.limit); word_is = c.refusal_number.ensures })
