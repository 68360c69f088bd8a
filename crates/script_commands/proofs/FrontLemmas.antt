-- Lines that are read by their word, with a space after it.
use Rattle.std.proofs.Common.{◌≡◌, ◌≢◌, ℕ, ◌-◌, ◌≤◌, List, ◌∷◌, length, drop, Result, Ok, Err, refl, sym, ap, subst, ◌∙◌, arith}
use Rattle.std.proofs.Math.Seq.{drop-append_seam}
use Rattle.std.specs.Char.{is_ascii_alphanumeric}
use Rattle.ds_names.specs.Run.{Begins}
use Rattle.ds_line.specs.Part.{Word}
use Rattle.ds_line.specs.declared.part_fault.PartFault.TheVariants.{BadPart, NoRoom}
use Rattle.ds_line.proofs.PartLemmas.{part_one}
use Rattle.line_io.specs.Lines.{EndsLine}
use Rattle.script_commands.specs.Command.{IsCommandFault, ReadsCommand}
use Rattle.script_commands.specs.Front.{HasWord, StopsAfterWord}
use Rattle.script_commands.specs.Later.{ReadsLater}
use Rattle.script_commands.specs.Row.{TakesRow}
use Rattle.script_commands.specs.Words.{text_of}
use Rattle.script_commands.specs.declared.command.ScriptCommand.{ScriptCommand}
use Rattle.script_commands.specs.declared.fault.CommandFault.{CommandFault}
use Rattle.script_commands.specs.declared.fault.CommandFault.TheVariants as faults
use Rattle.script_commands.specs.declared.word.Word.{Word as CommandWord}
use Rattle.script_commands.specs.declared.word.Word.TheVariants as words
use Rattle.script_commands.proofs.CommandLemmas.{left_fits, same_word, stops_place, text_is, whole_line}
use Rattle.script_commands.proofs.LaterLemmas.{reads_later}
use Rattle.script_commands.proofs.RowLemmas.{takes_row}

-- ---- the word ends before the space

pub begins : (w : CommandWord) (line bytes : List ℕ) → HasWord w line → bytes ≡ drop (length (text_of w)) line
    → Begins is_ascii_alphanumeric line (text_of w) bytes
begins w line bytes (rest, is) past =
    let same : bytes ≡ 32 ∷ rest = past ∙ ap (λ (l : List ℕ). drop (length (text_of w)) l) is ∙ drop-append_seam (text_of w) (32 ∷ rest) in
    subst (λ (b : List ℕ). Begins is_ascii_alphanumeric line (text_of w) b) (sym same) (record { parts = is; ends = refl })

-- ---- what follows it is read

-- the line is the command's
pub reads_front : (w : CommandWord) (line bytes : List ℕ) (command : ScriptCommand) → EndsLine line
    → Begins is_ascii_alphanumeric line (text_of w) bytes → TakesRow w bytes (Ok command) → ReadsCommand line (Ok command)
reads_front w line bytes command ends front takes =
    whole_line line bytes _ w command ends front (takes_row w bytes (Ok command) takes).1

-- what is read of such a line as the first one is read of it as a later one
pub front_later : (w : CommandWord) (line bytes : List ℕ) (result : Result ScriptCommand CommandFault) → w ≢ words.Ring
    → Begins is_ascii_alphanumeric line (text_of w) bytes → ReadsCommand line result → ReadsLater line result
front_later w line bytes result other front reads =
    reads_later line result
    (λ after ring. other (same_word w words.Ring
    (part_one Word line (text_of w) (text_of words.Ring) bytes after (text_is w) refl front ring).0))
    reads

-- ---- or it can't be read

pub stop_fits : (line : List ℕ) (left : ℕ) → StopsAfterWord line (BadPart left) → left ≤ length line
stop_fits line left (w, bytes, front, takes) =
    let k = takes_row w bytes (Err (BadPart left)) takes in
    omega (arith, k.2, left_fits line bytes k.0 w front k.1)

pub stop_place : (line : List ℕ) (left : ℕ) → StopsAfterWord line (BadPart left) → IsCommandFault line (length line - left)
stop_place line left (w, bytes, front, takes) = stops_place line bytes w left front (takes_row w bytes (Err (BadPart left)) takes)

pub stop_room : (line : List ℕ) → EndsLine line → StopsAfterWord line NoRoom → ReadsCommand line (Err faults.NoRoom)
stop_room line ends (w, bytes, front, takes) =
    let k = takes_row w bytes (Err NoRoom) takes in
    let whole = whole_line line bytes k.1 w k.0 ends front k.2 in
    (k.0, whole.0, whole.1, k.3)
