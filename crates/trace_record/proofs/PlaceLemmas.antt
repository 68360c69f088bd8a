-- Where a command's line is bad.
use Rattle.std.proofs.Common.{◌≡◌, ◌≢◌, ℕ, zero, suc, ◌+◌, ◌-◌, ◌<◌, ◌≤◌, ◌^◌, min, Result, Ok, Err, List, ◌∷◌, ◌++◌, length, inl, inr}
use Rattle.std.proofs.Common.{refl, sym, ap, subst, arith, length-append}
use Rattle.std.specs.Result.{IfErr, IfOk}
use Rattle.std.specs.Fmt.{decimal}
use Rattle.std.proofs.lemmas.Fmt.{length-decimal-le}
use Rattle.script_commands.specs.Command.{IsFaultAmong, ReadsAs, ReadsCommand}
use Rattle.script_commands.specs.Later.{ReadsLater}
use Rattle.script_commands.specs.declared.command.ScriptCommand.{ScriptCommand}
use Rattle.script_commands.specs.declared.command.ScriptCommand.TheVariants.{Offer}
use Rattle.script_commands.specs.declared.fault.CommandFault.{CommandFault}
use Rattle.script_commands.specs.declared.fault.CommandFault.TheVariants.{BadLine, NoRoom}
use Rattle.trace_record.specs.Asking.{IsBadAfterPass, IsTextBadAt, IsUncarried, MayBe}
use Rattle.trace_record.specs.Places.{IsPlaceOfFault}

first_byte : (command : ScriptCommand) (place : ℕ) → place ≡ 0 → IsUncarried command place
first_byte (Offer i) place e = inr e
first_byte _ place e = e

-- the commands that may be on the line
pub reads_by : (before : ℕ) (text : List ℕ) (r : Result ScriptCommand CommandFault) → (before ≡ 0 → ReadsCommand text r) →
    (before ≢ 0 → ReadsLater text r) → ReadsAs (MayBe before) text r
reads_by zero text r first later = first refl
reads_by (suc before) text r first later = later (λ none. omega (arith, none))

pub read_bad : (before : ℕ) (text : List ℕ) (r : Result ScriptCommand CommandFault) (place : ℕ)
    → ReadsAs (MayBe before) text r → IfErr r (λ fault. IsPlaceOfFault fault place) → IfOk r (λ command. IsUncarried command place)
    → IsTextBadAt before text place
read_bad before text (Ok command) place reads bad good = inr (inr (command, reads.0, reads.1, good))
read_bad before text (Err (BadLine at expected)) place reads bad good = inr (inl (subst (IsFaultAmong (MayBe before) text) (sym bad) reads))
read_bad before text (Err NoRoom) place reads bad good = inr (inr (reads.0, reads.1, reads.2, first_byte reads.0 place bad))

-- a place in a text is no farther than its end, or near its beginning
few_by : (command : ScriptCommand) (at : ℕ) → IsUncarried command at → at ≤ 6
few_by (Offer i) at (inl e) = omega (arith, e)
few_by (Offer i) at (inr e) = omega (arith, e)
few_by _ at e = omega (arith, e)

-- after a pass
pub after_pass : (line text : List ℕ) (pass at place : ℕ)
    → pass ≤ 63 → line ≡ decimal pass ++ 32 ∷ text → length line < 2 ^ 64 → IsTextBadAt 1 text at
    → place ≡ min ((length line - length text) + at) (2 ^ 64 - 1)
    → IsBadAfterPass line place
after_pass line text pass at place few is short (inl merge) e =
    let front : length line ≡ length (decimal pass) + (1 + length text) =
    omega (arith, ap length is, length-append (decimal pass) (32 ∷ text)) in
    let digits : length (decimal pass) ≤ 20 = length-decimal-le 20 pass (omega arith) (omega (arith, few)) (omega (arith, few)) in
    record {
      pass = pass;
      text = text;
      at = place - (length (decimal pass) + 1);
      few = few;
      line_is = is;
      place_is =
          omega (arith, front, digits, e);
      bad = inl merge;
    }
after_pass line text pass at place few is short (inr (inl fault)) e =
    let front : length line ≡ length (decimal pass) + (1 + length text) =
    omega (arith, ap length is, length-append (decimal pass) (32 ∷ text)) in
    record {
      pass = pass;
      text = text;
      at = at;
      few = few;
      line_is = is;
      place_is =
          omega (arith, front, e, short, fault.first.begins);
      bad = inr (inl fault);
    }
after_pass line text pass at place few is short (inr (inr other)) e =
    let front : length line ≡ length (decimal pass) + (1 + length text) =
    omega (arith, ap length is, length-append (decimal pass) (32 ∷ text)) in
    let digits : length (decimal pass) ≤ 20 = length-decimal-le 20 pass (omega arith) (omega (arith, few)) (omega (arith, few)) in
    record {
      pass = pass;
      text = text;
      at = at;
      few = few;
      line_is = is;
      place_is =
          omega (arith, front, digits, e, few_by other.0 at other.3);
      bad = inr (inr other);
    }
