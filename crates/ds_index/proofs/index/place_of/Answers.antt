use Rattle.std.proofs.Common.{rules}
use Rattle.std.proofs.lemmas.List.Sorted.{IsPartitionPoint-from_clause}
use Rattle.ds_index.specs.Named.{is_label_after}
use Rattle.ds_index.proofs.NamedLemmas.{after_partitioned}
use Rattle.ds_index.proofs.index.place_of.Goals as goal

pub returns-clause-place : goal.returns-clause-place
returns-clause-place c =
    IsPartitionPoint-from_clause (is_label_after c.args.named.now) c.args.names.now c.partition_point.result
    c.partition_point.ensures.partitioned (after_partitioned c.args.named.now c.args.names.now c.requires) (λ a r f' t. search rules)
