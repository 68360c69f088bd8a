use Rattle.std.proofs.Common.{subst}
use Rattle.ds_line.specs.ItemFault.{IsItemFaultIn}
use Rattle.ds_line.specs.declared.fault.LineFault.{LineFault}
use Rattle.script_commands.proofs.OfferLemmas.{place_fits, offer_no_space, offer_no_item, offer_no_room, item_placed}
use Rattle.script_commands.proofs.lines.item_at.Goals as goal

pub returns-in_default : goal.returns-in_default
returns-in_default c = offer_no_space c.stop_at.result c.args.rest.now.bytes.now c.stop_at.ensures c.in_default.ensures.none

pub returns-in-Ok : goal.returns-in-Ok
returns-in-Ok c =
    item_placed c.args.rest.now.bytes.now c.in-Some.text.now c.in-Ok.field-0 c.read_item_into.new.slot c.in-Some.ensures.found
    c.in-Ok.ensures

pub overflow_sub-left : goal.overflow_sub-left
overflow_sub-left c =
    place_fits c.in-Some.text.now c.in-Err-BadLine.place
    (subst (λ (f : LineFault). IsItemFaultIn f c.in-Some.text.now) c.in-Err-BadLine.field-0-is c.in-Err-BadLine.ensures)

pub returns-in-Err-BadLine : goal.returns-in-Err-BadLine
returns-in-Err-BadLine c =
    offer_no_item c.args.rest.now.bytes.now c.in-Some.text.now c.in-Err-BadLine.place c.in-Some.ensures.found
    (subst (λ (f : LineFault). IsItemFaultIn f c.in-Some.text.now) c.in-Err-BadLine.field-0-is c.in-Err-BadLine.ensures)

pub returns-in-Err-NoRoom : goal.returns-in-Err-NoRoom
returns-in-Err-NoRoom c =
    offer_no_room c.args.rest.now.bytes.now c.in-Some.text.now c.in-Some.ensures.found
    (subst (λ (f : LineFault). IsItemFaultIn f c.in-Some.text.now) c.in-Err-NoRoom.field-0-is c.in-Err-NoRoom.ensures)
