use Rattle.driver_tables.specs.declared.file_table.FileClass.{FileClass}
use Rattle.driver_tables.specs.declared.file_table.FileClass.TheVariants.{Block}
use Rattle.script_commands.specs.Service.{class_word}
use Rattle.script_commands.proofs.ServicePieceLemmas.{a_word, no_word, class_is_word}
use Rattle.script_commands.proofs.ReadsLemmas.{exits_byte, misses_at}
use Rattle.script_commands.proofs.pieces.Rest.class.Goals as goal

pub returns-in_err-byte : goal.returns-in_err-byte
returns-in_err-byte c = exits_byte 32 (a_word FileClass class_word) Block tt _ _ c.from_residual.ensures.1 c.in_err-byte.ensures.stop
    c.in_err-byte.ensures.none

pub returns-in_default : goal.returns-in_default
returns-in_default c =
    misses_at _ _ _ c.stop_at.ensures
    (no_word FileClass class_word Block c.stop_at.result c.args.self.now.bytes.now _ c.word_at.result.0.now c.word_at.result.1.now
    class_is_word c.in_ok-byte.ensures.found
    c.stop_at.ensures c.word_at.ensures.valid c.word_at.ensures.found c.in_default.ensures.none)
