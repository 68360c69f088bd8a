use Rattle.std.proofs.Common.{List, ℕ}
use Rattle.ds_names.specs.Name.{IsName, rs_name}
use Rattle.ds_line.proofs.LabelLemmas.{rs_is_name}
use Rattle.script_commands.proofs.PieceLemmas.{one_part, name_part, no_name}
use Rattle.script_commands.proofs.ReadsLemmas.{exits_byte, misses_at}
use Rattle.script_commands.proofs.pieces.Rest.name.Goals as goal

pub returns-in_err-byte : goal.returns-in_err-byte
returns-in_err-byte c = exits_byte 32 (one_part (List ℕ) IsName name_part) rs_name rs_is_name _ _ c.from_residual.ensures.1
    c.in_err-byte.ensures.stop c.in_err-byte.ensures.none

pub returns-in_default : goal.returns-in_default
returns-in_default c = misses_at _ _ _ c.stop_at.ensures
    (no_name c.stop_at.result c.args.self.now.bytes.now _ c.in_ok-byte.ensures.found c.stop_at.ensures c.in_default.ensures.none)
