-- A line is that of one command only.
use Rattle.std.proofs.Common.{◌≡◌, ℕ, List, [], length, refl, subst, append-nil}
use Rattle.ds_line.specs.Part.{texts}
use Rattle.ds_line.specs.FaultPlace.{Stand}
use Rattle.ds_line.specs.Piece.{Found}
use Rattle.script_commands.specs.declared.command.ScriptCommand.{ScriptCommand}
use Rattle.line_io.specs.Lines.{with_newline}
use Rattle.script_commands.specs.Command.{command_word, after_word, IsLineOf}
use Rattle.script_commands.specs.Words.{text_of}
use Rattle.script_commands.proofs.TableLemmas.{taken_by, word_one}
use Rattle.script_commands.proofs.StandLemmas.{command_stands}
use Rattle.script_commands.proofs.CommandLemmas.{same_word, one_word, word_begins, text_is}

pub one_command : (c d : ScriptCommand) (line : List ℕ) → IsLineOf c line → IsLineOf d line → c ≡ d
one_command c d line of_c of_d =
    let w = command_word c in
    let begins_c = word_begins c (with_newline line) of_c.text in
    let one = one_word d (with_newline line) (text_of w) (texts (after_word d)) (texts (after_word c)) (text_is w)
    (word_begins d (with_newline line) of_d.text) begins_c in
    let stands_c : Stand (length (after_word c)) (after_word c) (texts (after_word c)) [] =
    subst (λ (t : List ℕ). Stand (length (after_word c)) (after_word c) t []) (append-nil (texts (after_word c))) (command_stands c) in
    let stands_d : Stand (length (after_word d)) (after_word d) (texts (after_word d)) [] =
    subst (λ (t : List ℕ). Stand (length (after_word d)) (after_word d) t []) (append-nil (texts (after_word d))) (command_stands d) in
    let found_c : Found (taken_by w) c (texts (after_word c)) [] = record { can = (of_c.written, refl); front = stands_c } in
    let found_d : Found (taken_by w) d (texts (after_word c)) [] =
    record {
      can = (of_d.written, same_word (command_word d) w one.0);
      front =
          subst (λ (t : List ℕ). Stand (length (after_word d)) (after_word d) t []) one.1 stands_d;
    } in
    (word_one w d c (texts (after_word c)) [] [] found_d found_c).0
