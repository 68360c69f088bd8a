use Rattle.std.proofs.Common.{Err, length, subst, arith}
use Rattle.ds_line.specs.FloorPiece.{ReadsFloor}
use Rattle.ds_line.specs.ItemSpelling.{floor_parts}
use Rattle.ds_line.specs.declared.part_fault.PartFault.{PartFault}
use Rattle.ds_line.proofs.FloorLemmas.{floor_taken, break_left}
use Rattle.ds_line.proofs.LineLemmas.{stand_length}
use Rattle.ds_line.proofs.ItemLemmas.{floor_faults}
use Rattle.ds_line.proofs.item_reading.floor_into.Goals as goal

pub overflow_sub-place : goal.overflow_sub-place
overflow_sub-place c =
    let k = subst (λ (s : PartFault). ReadsFloor c.args.bytes.now (Err s)) c.in-Err-BadPart.field-0-is c.in-Err-BadPart.ensures in
    omega (arith, break_left c.args.bytes.now k.0 k.1, k.2)

pub returns-in-Err-BadPart : goal.returns-in-Err-BadPart
returns-in-Err-BadPart c =
    let k = subst (λ (s : PartFault). ReadsFloor c.args.bytes.now (Err s)) c.in-Err-BadPart.field-0-is c.in-Err-BadPart.ensures in
    floor_faults c.args.bytes.now c.requires.0 k.0 _ c.requires.1 k.1 (omega (arith, break_left c.args.bytes.now k.0 k.1, k.2))

pub returns : goal.returns
returns c =
    let k = c.in-Ok.ensures in
    let taken = floor_taken c.in-Ok.read.0 c.args.bytes.now k.0 c.in-Ok.read.1 k.1 k.2 in
    (k.1.can, taken.0, taken.1)

pub overflow_sub-length : goal.overflow_sub-length
overflow_sub-length c =
    let k = c.in-Ok.ensures in
    let parts = floor_parts c.in-Ok.read.0 in
    omega (arith, stand_length (length parts) parts c.args.bytes.now k.0 k.1.front, k.2)
