-- A command's line: its word, and what follows it.
use Rattle.std.specs.Prelude.{◌==◌, ◌&&◌, if◌then◌else◌}
use Rattle.std.proofs.Common.{◌≡◌, ◌≢◌, ℕ, suc, ◌+◌, ◌-◌, ◌≤◌, Bool, true, false, List, [], ◌∷◌, ◌++◌, length, refl, sym, ap, subst, ◌∙◌}
use Rattle.std.proofs.Common.{arith, append_assoc, append-nil, length-append}
use Rattle.std.specs.List.{All, list_all}
use Rattle.std.specs.Char.{is_ascii_alphanumeric}
use Rattle.std.proofs.lemmas.List.Elements.{All-head, All-tail}
use Rattle.ds_names.specs.Run.{Begins}
use Rattle.ds_line.specs.Part.{part, texts, Word}
use Rattle.line_io.specs.Lines.{EndsLine}
use Rattle.ds_line.specs.FaultPlace.{Stand}
use Rattle.ds_line.specs.Piece.{Found, Breaks, StopsIn}
use Rattle.ds_line.specs.declared.part_fault.PartFault.TheVariants.{BadPart}
use Rattle.ds_line.proofs.PartLemmas.{part_one}
use Rattle.ds_line.proofs.LineLemmas.{stand_length}
use Rattle.ds_line.proofs.PieceLemmas.{stand_texts}
use Rattle.script_commands.specs.declared.command.ScriptCommand.{ScriptCommand}
use Rattle.script_commands.specs.declared.command.ScriptCommand.TheVariants.{Show}
use Rattle.script_commands.specs.declared.word.Word.TheVariants as words
use Rattle.script_commands.specs.declared.word.Word.{Word as CommandWord}
use Rattle.script_commands.specs.Command.{command_word, word_of, after_word, command_parts, IsCommand, IsCommandFault}
use Rattle.script_commands.specs.Words.{all_words, text_of}
use Rattle.ds_line.proofs.NewlineLemmas.{ends_then}
use Rattle.script_commands.proofs.EndLemmas.{after_ends, unbroken_word}
use Rattle.script_commands.proofs.StandLemmas.{command_stands, command_parted}
use Rattle.script_commands.proofs.TableLemmas.{taken_by}

-- ---- words

abbrev alike : List ℕ → List ℕ → Bool
alike [] [] = true
alike [] (y ∷ ys) = false
alike (x ∷ xs) [] = false
alike (x ∷ xs) (y ∷ ys) = (x == y) && alike xs ys

-- the first of the words that is spelled so
abbrev picked : List ℕ → List CommandWord → CommandWord
picked text [] = words.Show
picked text (w ∷ ws) = if alike (text_of w) text then w else picked text ws

picks : (w : CommandWord) → picked (text_of w) all_words ≡ w
picks words.Offer = refl
picks w = refl

-- words that are spelled alike are the same
pub same_word : (v w : CommandWord) → text_of v ≡ text_of w → v ≡ w
same_word v w same = sym (picks v) ∙ ap (λ (t : List ℕ). picked t all_words) same ∙ picks w

pub text_is : (word : CommandWord) → list_all is_ascii_alphanumeric (text_of word) ≡ true
text_is words.Offer = refl
text_is word = refl

word_is : (command : ScriptCommand) → list_all is_ascii_alphanumeric (word_of command) ≡ true
word_is command = text_is (command_word command)

-- a text that isn't a command's word isn't at the front of any command's line
pub other_word_only : (line text rest : List ℕ) → list_all is_ascii_alphanumeric text ≡ true → Begins is_ascii_alphanumeric line text rest
    → ((w : CommandWord) → text ≢ text_of w) → (w : CommandWord) (more : List ℕ) → ¬ Begins is_ascii_alphanumeric line (text_of w) more
other_word_only line text rest is begins other w more h = other w (part_one Word line text (text_of w) rest more is (text_is w) begins h).0

-- two words at one front are the same
pub one_word : (command : ScriptCommand) (line word r s : List ℕ) → list_all is_ascii_alphanumeric word ≡ true
    → Begins is_ascii_alphanumeric line (word_of command) r → Begins is_ascii_alphanumeric line word s → (word_of command ≡ word) × (r ≡ s)
one_word command line word r s is first second = part_one Word line (word_of command) word r s (word_is command) is first second

-- ---- the line's word is at its front

pub word_begins : (command : ScriptCommand) (line : List ℕ) → line ≡ texts (command_parts command)
    → Begins is_ascii_alphanumeric line (word_of command) (texts (after_word command))
word_begins command line is = record { parts = is; ends = command_parted command }

-- the line ends with its one newline
pub command_ends : (command : ScriptCommand) → IsCommand command → EndsLine (texts (command_parts command))
command_ends command is =
    ends_then (part Word (word_of command)) (after_word command) (unbroken_word (word_of command) (word_is command)) (after_ends command is)

-- ---- the line can't be read

-- no command's word is at the front
pub unknown_word : (line : List ℕ) → ((w : CommandWord) (rest : List ℕ) → ¬ Begins is_ascii_alphanumeric line (text_of w) rest) →
    IsCommandFault line 0
unknown_word line other =
    record {
      none = λ command can text. other (command_word command) (texts (after_word command)) (word_begins command line text);
      first = record {
        rest = line;
        stops = record {
          count = 0;
          read = record { member = Show; is = tt; front = refl };
          most = λ after r. other (command_word r.member) r.front.0 r.front.1;
        };
        begins = omega arith;
      };
    }

-- the readable part ends after the word
line_breaks : (line rest at : List ℕ) (w : CommandWord) → Begins is_ascii_alphanumeric line (text_of w) rest → Breaks (taken_by w) rest at
    → IsCommandFault line (length line - length at)
line_breaks line rest at w begins s =
    record {
      none = λ command can text.
          let one = one_word command line (text_of w) (texts (after_word command)) rest (text_is w)
          (word_begins command line text) begins in
          let front = texts (after_word command) in
          let stands : Stand (length (after_word command)) (after_word command) front [] =
          subst (λ (t : List ℕ). Stand (length (after_word command)) (after_word command) t []) (append-nil front)
          (command_stands command) in
          s.none command [] (can, same_word (command_word command) w one.0)
          (subst (λ (t : List ℕ). Stand (length (after_word command)) (after_word command) t []) one.1 stands);
      first = record {
        rest = at;
        stops = record {
          count = suc s.count;
          read = record {
            member = s.thing;
            is = s.can.0;
            front = (rest, subst (λ (v : CommandWord). Begins is_ascii_alphanumeric line (text_of v) rest) (sym s.can.1) begins, s.front);
          };
          most = λ after r.
              let one = one_word r.member line (text_of w) r.front.0 rest (text_is w) r.front.1 begins in
              s.most r.member after (r.is, same_word (command_word r.member) w one.0)
              (subst (λ (t : List ℕ). Stand (suc s.count) (after_word r.member) t after) one.1 r.front.2);
        };
        begins = omega (
          arith,
          ap length begins.parts,
          length-append (text_of w) rest,
          stand_length s.count
              (after_word s.thing) rest at s.front,
        );
      };
    }

pub left_fits : (line rest at : List ℕ) (w : CommandWord) → Begins is_ascii_alphanumeric line (text_of w) rest → Breaks (taken_by w) rest at
    → length at ≤ length line
left_fits line rest at w begins s =
    omega (arith, ap length begins.parts, length-append (text_of w) rest, stand_length s.count (after_word s.thing) rest at s.front)

pub stops_place : (line rest : List ℕ) (w : CommandWord) (left : ℕ) → Begins is_ascii_alphanumeric line (text_of w) rest
    → StopsIn (taken_by w) (BadPart left) rest → IsCommandFault line (length line - left)
stops_place line rest w left begins s = subst (λ (n : ℕ). IsCommandFault line (length line - n)) s.2
    (line_breaks line rest s.0 w begins s.1)

-- ---- the line is read

-- the first newline is the last byte
one_newline : (before past front : List ℕ) → All (λ (b : ℕ). b ≢ 10) front → front ++ 10 ∷ [] ≡ before ++ 10 ∷ past → past ≡ []
one_newline [] past [] none same = cc
one_newline [] past (f ∷ front) none same = let first : f ≡ 10 = cc in absurd (All-head (λ (b : ℕ). b ≢ 10) f front none first)
one_newline (a ∷ before) past [] none same = let len : length before + suc (length past) ≡ 0 = omega
    (arith, ap length same, length-append before (10 ∷ past)) in absurd (omega (arith, len))
one_newline (a ∷ before) past (f ∷ front) none same =
    let rest : front ++ 10 ∷ [] ≡ before ++ 10 ∷ past = cc in
    one_newline before past front (All-tail (λ (b : ℕ). b ≢ 10) f front none) rest

-- the command is the whole line
pub whole_line : (line rest after : List ℕ) (w : CommandWord) (command : ScriptCommand) → EndsLine line
    → Begins is_ascii_alphanumeric line (text_of w) rest → Found (taken_by w) command rest after
    → IsCommand command × (line ≡ texts (command_parts command))
whole_line line rest after w command ends begins found =
    let word = text_of w in
    let is = stand_texts (after_word command) rest after found.front in
    let last = after_ends command found.can.0 in
    let spread : line ≡ (word ++ last.front) ++ 10 ∷ after =
    begins.parts ∙ ap (λ (t : List ℕ). word ++ t)
    (is ∙ ap (λ (t : List ℕ). t ++ after) last.parts ∙ append_assoc last.front (10 ∷ []) after)
    ∙ sym (append_assoc word last.front (10 ∷ after)) in
    let none : after ≡ [] = one_newline (word ++ last.front) after ends.front ends.none (sym ends.parts ∙ spread) in
    let all = texts (after_word command) in (
      found.can.0,
      begins.parts ∙ ap (λ (t : List ℕ). word ++ t) (is ∙ ap (λ (t : List ℕ). all ++ t) none ∙ append-nil all)
          ∙ ap (λ (v : CommandWord). text_of v ++ all) (sym found.can.1),
    )
