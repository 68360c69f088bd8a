-- Later lines of a script.
use Rattle.std.proofs.Common.{◌≡◌, ◌≢◌, ℕ, zero, suc, List, Result, Ok, Err, refl, subst, arith}
use Rattle.std.specs.Char.{is_ascii_alphanumeric}
use Rattle.ds_names.specs.Run.{Begins}
use Rattle.ds_line.specs.Part.{texts}
use Rattle.ds_line.specs.FaultPlace.{CanRead}
use Rattle.script_commands.specs.declared.command.ScriptCommand.{ScriptCommand}
use Rattle.script_commands.specs.declared.command.ScriptCommand.TheVariants.{Show}
use Rattle.script_commands.specs.declared.fault.CommandFault.{CommandFault}
use Rattle.script_commands.specs.declared.fault.CommandFault.TheVariants.{BadLine, NoRoom}
use Rattle.script_commands.specs.Command.{command_word, word_of, after_word, command_parts, IsCommand, IsFaultAmong, IsCommandFault}
use Rattle.script_commands.specs.Command.{ReadsCommand}
use Rattle.script_commands.specs.Later.{IsLater, ReadsLater}
use Rattle.script_commands.specs.Words.{text_of}
use Rattle.script_commands.specs.declared.word.Word.{Word as CommandWord}
use Rattle.script_commands.specs.declared.word.Word.TheVariants as words
use Rattle.script_commands.proofs.CommandLemmas.{same_word, one_word, word_begins}

show_is_later : IsLater Show
show_is_later = (tt, λ same. absurd (cc))

-- ---- the line's word is `ring`

pub ring_is_bad : (line rest : List ℕ) → Begins is_ascii_alphanumeric line (text_of words.Ring) rest → IsFaultAmong IsLater line 0
ring_is_bad line rest begins =
    record {
      none = λ command can text.
          can.1 (same_word (command_word command) words.Ring
          (one_word command line (text_of words.Ring) (texts (after_word command)) rest refl (word_begins command line text) begins).0);
      first = record {
        rest = line;
        stops = record {
          count = 0;
          read = record { member = Show; is = show_is_later; front = refl };
          most = λ after r. r.is.1 (same_word (command_word r.member) words.Ring
              (one_word r.member line (text_of words.Ring) r.front.0 rest refl r.front.1 begins).0);
        };
        begins = omega arith;
      };
    }

-- ---- the line's word is another

other_word : (command : ScriptCommand) (line rest : List ℕ) →
    ((after : List ℕ) → ¬ Begins is_ascii_alphanumeric line (text_of words.Ring) after) →
    Begins is_ascii_alphanumeric line (word_of command) rest → command_word command ≢ words.Ring
other_word command line rest other begins same =
    other rest (subst (λ (w : CommandWord). Begins is_ascii_alphanumeric line (text_of w) rest) same begins)

can_later : (line rest : List ℕ) (n : ℕ) → ((after : List ℕ) → ¬ Begins is_ascii_alphanumeric line (text_of words.Ring) after) →
    CanRead IsCommand command_parts n line rest → CanRead IsLater command_parts n line rest
can_later line rest zero other r = record { member = Show; is = show_is_later; front = r.front }
can_later line rest (suc n) other r = record
    { member = r.member; is = (r.is, other_word r.member line r.front.0 other r.front.1); front = r.front }

fault_later : (line : List ℕ) (place : ℕ) → ((after : List ℕ) → ¬ Begins is_ascii_alphanumeric line (text_of words.Ring) after) →
    IsCommandFault line place → IsFaultAmong IsLater line place
fault_later line place other fault =
    record {
      none = λ command can text. fault.none command can.0 text;
      first = record {
        rest = fault.first.rest;
        stops = record {
          count = fault.first.stops.count;
          read = can_later line fault.first.rest fault.first.stops.count other fault.first.stops.read;
          most = λ after r. fault.first.stops.most after (record { member = r.member; is = r.is.0; front = r.front });
        };
        begins = fault.first.begins;
      };
    }

may_stand : (line : List ℕ) (command : ScriptCommand) →
    ((after : List ℕ) → ¬ Begins is_ascii_alphanumeric line (text_of words.Ring) after) → IsCommand command →
    line ≡ texts (command_parts command) → IsLater command
may_stand line command other can text = (can, other_word command line (texts (after_word command)) other (word_begins command line text))

pub reads_later : (line : List ℕ) (result : Result ScriptCommand CommandFault) →
    ((after : List ℕ) → ¬ Begins is_ascii_alphanumeric line (text_of words.Ring) after) → ReadsCommand line result → ReadsLater line result
reads_later line (Ok command) other h = (may_stand line command other h.0 h.1, h.1)
reads_later line (Err (BadLine place expected)) other h = fault_later line place other h
reads_later line (Err NoRoom) other h = (h.0, may_stand line h.0 other h.1 h.2, h.2, h.3)
