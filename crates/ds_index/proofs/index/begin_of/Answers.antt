use Rattle.std.proofs.Common.{rules}
use Rattle.std.proofs.lemmas.List.Sorted.{IsPartitionPoint-from_clause}
use Rattle.ds_index.specs.Named.{begins_after}
use Rattle.ds_index.proofs.NamedLemmas.{begins_partitioned}
use Rattle.ds_index.proofs.index.begin_of.Goals as goal

pub returns : goal.returns
returns c =
    IsPartitionPoint-from_clause (begins_after c.args.endpoint) c.args.names.now c.partition_point.result
    c.partition_point.ensures.partitioned (begins_partitioned c.args.endpoint c.args.names.now c.requires) (λ a r f' t. search rules)
