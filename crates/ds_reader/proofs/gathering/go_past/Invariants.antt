use Rattle.std.proofs.Common.{◌≡◌, take}
use Rattle.ds_replica.specs.Paged.{last_key}
use Rattle.ds_reader.proofs.gathering.go_past.Given as goal

-- it is the last key of the first ones
abbrev pub invariant-loop-index : goal.invariant-loop-index
invariant-loop-index l = l.key ≡ last_key l.fn.key (take l.index l.items)
