-- A first line `ring N`, which sets how many items the journal keeps.
use Rattle.std.proofs.Common.{◌≡◌, ℕ, ◌≤◌, ◌<◌, true, List, [], ◌∷◌, length, Option, None, Some, Result, Ok, Err, refl, ap, subst, arith}
use Rattle.std.proofs.Common.{length-append}
use Rattle.std.specs.Prelude.{◌↔◌}
use Rattle.std.specs.Fmt.{decimal}
use Rattle.std.proofs.lemmas.Fmt.{length-decimal-le}
use Rattle.ds_feed.specs.Kept.{IsRing}
use Rattle.line_io.specs.Lines.{EndsLine, with_newline}
use Rattle.script_commands.specs.Command.{CommandTakesMemory, ReadsCommand}
use Rattle.script_commands.specs.declared.command.ScriptCommand.{ScriptCommand}
use Rattle.script_commands.specs.declared.command.ScriptCommand.TheVariants.{Ring}
use Rattle.script_commands.specs.declared.fault.CommandFault.{CommandFault}
use Rattle.script_commands.specs.declared.fault.CommandFault.TheVariants.{BadLine, NoRoom}
use Rattle.trace_walk.proofs.AskedLemmas.{same_command}
use Rattle.trace_record.specs.Asking.{IsRingLine, ring_text}
use Rattle.trace_record.specs.Reading.{SaysRing}

-- ---- how long it is

ring_short : (ring : ℕ) → ring ≤ 4096 → length (ring_text ring) ≤ 11
ring_short ring few =
    omega (arith, length-append (decimal ring) (10 ∷ []), length-decimal-le 4 ring (omega arith) (omega (arith, few)) (omega (arith, few)))

pub ring_some : (ring : ℕ) → ring_text ring ≡ [] → ⊥
ring_some ring none = omega (arith, ap length none)

-- a line that is too long isn't one
pub long_no_ring : (line : List ℕ) → 4096 < length line → ¬ IsRingLine (with_newline line)
long_no_ring line long is = omega (arith, long, ap length is.2, ring_short is.0 is.1.limit, length-append line (10 ∷ []))

-- ---- how it is parsed

-- as itself
reads_ring : (line : List ℕ) (ring : ℕ) (read : Result ScriptCommand CommandFault) → EndsLine line → IsRing ring → line ≡ ring_text ring →
    ReadsCommand line read → read ≡ Ok (Ring ring)
reads_ring line ring (Ok command) ends is at reads =
    ap (λ (c : ScriptCommand). Ok c) (same_command command (Ring ring) line ends (omega (arith, ap length at, ring_short ring is.limit))
    reads.0 ((is.some, is.limit), tt) reads.1 at)
reads_ring line ring (Err (BadLine place expected)) ends is at reads = absurd (reads.none (Ring ring) ((is.some, is.limit), tt) at)
reads_ring line ring (Err NoRoom) ends is at reads =
    let same = same_command reads.0 (Ring ring) line ends (omega (arith, ap length at, ring_short ring is.limit)) reads.1
    ((is.some, is.limit), tt) reads.2 at in
    absurd (subst CommandTakesMemory same reads.3)

-- the N of the line is the one that is returned
pub says_ring : (line : List ℕ) (read : Result ScriptCommand CommandFault) (told : Option ℕ) → EndsLine line → ReadsCommand line read →
    ((n : ℕ) → (told ≡ Some n) ↔ (read ≡ Ok (Ring n))) → SaysRing (Ok true) line told
says_ring line read (Some ring) ends reads is = (refl, (subst (ReadsCommand line) ((is ring).0 refl) reads).1)
says_ring line read None ends reads is = λ _ there.
    none_told there.0 ((is there.0).1 (reads_ring line there.0 read ends there.1 there.2 reads))
  where
    none_told : (n : ℕ) → None ≡ Some n → ⊥
    none_told n e = absurd (cc)
