use Rattle.std.proofs.Common.{Some, refl}
use Rattle.rs_settings.specs.declared.class.Class.TheVariants.{Network}
use Rattle.driver_tables.specs.Driver.{net_driver}
use Rattle.ds_system.specs.Start.{net_unit}
use Rattle.ds_system.proofs.BeginLemmas.{unit_added, net_is}
use Rattle.ds_system.proofs.beginning.add_net.Goals as goal

pub returns-in-Network : goal.returns-in-Network
returns-in-Network c units st =
    let s = c.args.service.now in
    let driver = net_driver s.label in
    unit_added c.args.table.now c.assign.new.self units (net_unit s) c.in-Some.unit driver c.assign.result c.assigned.result
    (net_is s c.in-Some.unit Network (Some driver) c.in-Some.is c.in-Network.is refl) c.assigned.ensures c.assign.ensures.answer
    c.assign.ensures.after c.assign.ensures.unchanged st
