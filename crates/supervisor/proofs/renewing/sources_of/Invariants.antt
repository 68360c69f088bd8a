use Rattle.std.proofs.Common.{◌≡◌, take}
use Rattle.arrayvec.specs.ArrayVec.{array_vec_len}
use Rattle.supervisor.specs.Renewal.{sources_of}
use Rattle.supervisor.proofs.renewing.sources_of.Given as goal

-- the numbers of the services before the index
abbrev pub invariant-loop-i : goal.invariant-loop-i
invariant-loop-i l = (l.sources.items ≡ sources_of l.rs (take l.i l.services)) × (array_vec_len l.sources ≡ l.i)
