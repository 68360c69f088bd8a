use Rattle.script_commands.specs.declared.service.Server.{Server}
use Rattle.script_commands.specs.declared.service.Server.TheVariants.{File}
use Rattle.script_commands.specs.Service.{server_word}
use Rattle.script_commands.proofs.ServicePieceLemmas.{a_word, no_word, server_is_word}
use Rattle.script_commands.proofs.ReadsLemmas.{exits_byte, misses_at}
use Rattle.script_commands.proofs.pieces.Rest.server.Goals as goal

pub returns-in_err-byte : goal.returns-in_err-byte
returns-in_err-byte c = exits_byte 32 (a_word Server server_word) File tt _ _ c.from_residual.ensures.1 c.in_err-byte.ensures.stop
    c.in_err-byte.ensures.none

pub returns-in_default : goal.returns-in_default
returns-in_default c =
    misses_at _ _ _ c.stop_at.ensures
    (no_word Server server_word File c.stop_at.result c.args.self.now.bytes.now _ c.word_at.result.0.now c.word_at.result.1.now
    server_is_word c.in_ok-byte.ensures.found
    c.stop_at.ensures c.word_at.ensures.valid c.word_at.ensures.found c.in_default.ensures.none)
