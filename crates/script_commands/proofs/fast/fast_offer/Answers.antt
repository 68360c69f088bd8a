use Rattle.std.proofs.Common.{Err, Ok}
use Rattle.script_commands.specs.declared.word.Word.TheVariants as words
use Rattle.script_commands.proofs.FrontLemmas.{begins}
use Rattle.script_commands.proofs.OfferLineLemmas.{offer_line, offer_later}
use Rattle.script_commands.proofs.fast.fast_offer.Goals as goal

pub fault_after_word-requires-clause-stop : goal.fault_after_word-requires-clause-stop
fault_after_word-requires-clause-stop c =
    let front = begins words.Offer c.args.line.now c.split_at.result.1.now c.requires.offer c.split_at.ensures.back in
    (words.Offer, c.split_at.result.1.now, front, c.in-Err.ensures)

pub returns-in-Ok-clause-first : goal.returns-in-Ok-clause-first
returns-in-Ok-clause-first c =
    let front = begins words.Offer c.args.line.now c.split_at.result.1.now c.requires.offer c.split_at.ensures.back in
    offer_line c.args.line.now c.split_at.result.1.now c.item_at.new.slot c.requires.line front c.in-Ok.ensures

pub returns-in-Ok-clause-later : goal.returns-in-Ok-clause-later
returns-in-Ok-clause-later c =
    let front = begins words.Offer c.args.line.now c.split_at.result.1.now c.requires.offer c.split_at.ensures.back in
    offer_later c.args.line.now c.split_at.result.1.now (Ok tt) c.item_at.new.slot front
    (offer_line c.args.line.now c.split_at.result.1.now c.item_at.new.slot c.requires.line front c.in-Ok.ensures)

pub returns-in-Err-clause-later : goal.returns-in-Err-clause-later
returns-in-Err-clause-later c =
    let front = begins words.Offer c.args.line.now c.split_at.result.1.now c.requires.offer c.split_at.ensures.back in
    offer_later c.args.line.now c.split_at.result.1.now (Err c.fault_after_word.result) c.item_at.new.slot front
    c.fault_after_word.ensures
