use Rattle.std.proofs.Common.{List, map, ap, sym, inr, refl}
use Rattle.ds_held.specs.Limits.{larger}
use Rattle.ds_submap.specs.Map.{SubMapRecord}
use Rattle.ds_machine.specs.declared.reply.Reply.{Reply}
use Rattle.ds_replica.specs.World.{new_world}
use Rattle.ds_replica.specs.Happens.{items_given}
use Rattle.ds_replica.proofs.StartLemmas.{account_fits_at_start}
use Rattle.ds_world.specs.World.{map_state}
use Rattle.ds_world.proofs.world.World.new.Goals as goal

pub returns-clause-account : goal.returns-clause-account
returns-clause-account c = (
  new_world c.args.a c.args.b larger,
  record {
    a = c.in_ok-first.ensures.opened;
    b = c.in_ok-second.ensures.opened;
    maps = ap (λ (l : List SubMapRecord). map map_state l) (sym c.new.ensures.items);
    messages = ap (λ (l : List Reply). map items_given l) c.new-2.ensures.items;
  },
  account_fits_at_start c.args.a c.args.b larger (inr refl),
)

pub returns-clause-made : goal.returns-clause-made
returns-clause-made c = record {
  a = c.in_ok-first.ensures.opened;
  b = c.in_ok-second.ensures.opened;
  maps = ap (λ (l : List SubMapRecord). map map_state l) (sym c.new.ensures.items);
  messages = ap (λ (l : List Reply). map items_given l) c.new-2.ensures.items;
}

pub returns-clause-fits : goal.returns-clause-fits
returns-clause-fits c = c.in_default.ensures.none

pub opened-requires : goal.opened-requires
opened-requires c = c.in_default.ensures.none.a_is
