-- Lines of offers, whose item is written to a place.
use Rattle.std.proofs.Common.{ℕ, List, Option, None, Some, Result, Ok, Err}
use Rattle.std.specs.Char.{is_ascii_alphanumeric}
use Rattle.ds_names.specs.Run.{Begins}
use Rattle.ds_entry.specs.declared.item.Item.{Item}
use Rattle.ds_line.specs.declared.part_fault.PartFault.{PartFault}
use Rattle.line_io.specs.Lines.{EndsLine}
use Rattle.script_commands.specs.Command.{ReadsCommand}
use Rattle.script_commands.specs.Later.{ReadsLater}
use Rattle.script_commands.specs.Fast.{OfPlaced}
use Rattle.script_commands.specs.Row.{TakesRow}
use Rattle.script_commands.specs.Words.{text_of}
use Rattle.script_commands.specs.declared.command.ScriptCommand.TheVariants.{Offer}
use Rattle.script_commands.specs.declared.fault.CommandFault.{CommandFault}
use Rattle.script_commands.specs.declared.word.Word.TheVariants as words
use Rattle.script_commands.proofs.FrontLemmas.{front_later, reads_front}

pub offer_line : (line bytes : List ℕ) (placed : Option Item) → EndsLine line →
    Begins is_ascii_alphanumeric line (text_of words.Offer) bytes
    → OfPlaced PartFault (TakesRow words.Offer bytes) (Ok tt) placed → OfPlaced CommandFault (ReadsCommand line) (Ok tt) placed
offer_line line bytes (Some i) ends front h = reads_front words.Offer line bytes (Offer i) ends front h
offer_line line bytes None ends front h = absurd h

-- what is read of an offer on the first line is read of it on a later one
pub offer_later : (line bytes : List ℕ) (result : Result (Unit {0}) CommandFault) (placed : Option Item)
    → Begins is_ascii_alphanumeric line (text_of words.Offer) bytes
    → OfPlaced CommandFault (ReadsCommand line) result placed → OfPlaced CommandFault (ReadsLater line) result placed
offer_later line bytes (Ok done) (Some i) front h = front_later words.Offer line bytes (Ok (Offer i)) (λ same. absurd (cc)) front h
offer_later line bytes (Ok done) None front h = absurd h
offer_later line bytes (Err fault) placed front h = front_later words.Offer line bytes (Err fault) (λ same. absurd (cc)) front h
