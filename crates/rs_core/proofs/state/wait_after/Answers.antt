use Rattle.std.proofs.Common.{sym, arith}
use Rattle.rs_core.proofs.KeptLemmas.{pause_long}
use Rattle.rs_core.proofs.state.wait_after.Goals as goal

pub returns-in_default-clause-value : goal.returns-in_default-clause-value
returns-in_default-clause-value c = sym (pause_long c.args.k (omega arith))
