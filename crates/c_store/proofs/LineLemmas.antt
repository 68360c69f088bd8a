-- What is read of bytes, by what is read of their line.
use Rattle.std.proofs.Common.{◌≡◌, ◌≤◌, ℕ, List, Result, Ok, Err, IfOk, IfErr, inl, inr, refl, sym, subst, length, ◌∙◌}
use Rattle.line_io.specs.Lines.{IsUnbroken, with_newline}
use Rattle.script_commands.specs.declared.command.ScriptCommand.{ScriptCommand}
use Rattle.script_commands.specs.declared.fault.CommandFault.{CommandFault}
use Rattle.script_commands.specs.declared.fault.CommandFault.TheVariants.{BadLine, NoRoom}
use Rattle.script_commands.specs.Command.{IsCommand, IsLineOf, IsCommandLineFault, IsFaultAmong, ReadsCommand}
use Rattle.c_store.specs.Line.{ReadsBytes}

-- a line without its newline
pub of_line : (bytes : List ℕ) → IsUnbroken bytes → (result : Result ScriptCommand CommandFault)
    → IfOk result (λ command. IsLineOf command bytes) → IfErr result (λ fault. IsCommandLineFault fault bytes) → ReadsBytes bytes result
of_line bytes unbroken (Ok command) found fault =
    record { line = bytes; is = record { unbroken = unbroken; text = inl refl }; stands = found }
of_line bytes unbroken (Err (BadLine place expected)) found fault = inr (bytes, record { unbroken = unbroken; text = inl refl }, fault)
of_line bytes unbroken (Err NoRoom) found fault =
    (fault.0, record { line = bytes; is = record { unbroken = unbroken; text = inl refl }; stands = fault.1 }, fault.2)

-- a line with its newline
pub of_ended : (bytes line : List ℕ) → IsUnbroken line → bytes ≡ with_newline line → length line ≤ 4096 →
    (result : Result ScriptCommand CommandFault)
    → ReadsCommand bytes result → ReadsBytes bytes result
of_ended bytes line unbroken is short (Ok command) reads =
    record {
      line = line;
      is = record { unbroken = unbroken; text = inr is };
      stands =
          record { written = reads.0; text = sym is ∙ reads.1; short = short };
    }
of_ended bytes line unbroken is short (Err (BadLine place expected)) reads =
    inr (line, record { unbroken = unbroken; text = inr is }, inr (short, subst (λ (b : List ℕ). IsFaultAmong IsCommand b place) is reads))
of_ended bytes line unbroken is short (Err NoRoom) reads = (
  reads.0,
  record {
    line = line;
    is = record { unbroken = unbroken; text = inr is };
    stands =
        record { written = reads.1; text = sym is ∙ reads.2; short = short };
  },
  reads.3,
)
