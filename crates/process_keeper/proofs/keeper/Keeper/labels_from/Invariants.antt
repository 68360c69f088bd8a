use Rattle.std.proofs.Common.{◌≡◌, map, take}
use Rattle.process_keeper.specs.Renewal.{lifecycle_from}
use Rattle.process_keeper.proofs.keeper.Keeper.labels_from.Given as goal

-- the lifecycles of the sources before the index
abbrev pub invariant-loop-source : goal.invariant-loop-source
invariant-loop-source l = l.labels.items ≡ map (lifecycle_from l.self.labels.items) (take l.source-index l.sources)
