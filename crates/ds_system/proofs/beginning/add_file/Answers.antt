use Rattle.std.proofs.Common.{Some, refl}
use Rattle.rs_settings.specs.declared.class.Class.TheVariants.{Block, Character}
use Rattle.driver_tables.specs.declared.file_table.FileClass.TheVariants as files
use Rattle.driver_tables.specs.FileDriver.{file_driver}
use Rattle.ds_system.specs.Start.{file_unit}
use Rattle.ds_system.proofs.BeginLemmas.{unit_added, file_is}
use Rattle.ds_system.proofs.beginning.add_file.Goals as goal

pub returns-in-Block : goal.returns-in-Block
returns-in-Block c units st =
    let s = c.args.service.now in
    let driver = file_driver files.Block s.label in
    unit_added c.args.table.now c.assign.new.self units (file_unit s) c.in-Some.unit driver c.assign.result c.assigned.result
    (file_is s c.in-Some.unit Block (Some driver) c.in-Some.is c.in-Block.is refl) c.assigned.ensures c.assign.ensures.answer
    c.assign.ensures.after c.assign.ensures.unchanged st

pub returns-in-Character : goal.returns-in-Character
returns-in-Character c units st =
    let s = c.args.service.now in
    let driver = file_driver files.Character s.label in
    unit_added c.args.table.now c.assign-in-Character.new.self units (file_unit s) c.in-Some.unit driver c.assign-in-Character.result
    c.assigned-in-Character.result
    (file_is s c.in-Some.unit Character (Some driver) c.in-Some.is c.in-Character.is refl) c.assigned-in-Character.ensures
    c.assign-in-Character.ensures.answer c.assign-in-Character.ensures.after c.assign-in-Character.ensures.unchanged st
