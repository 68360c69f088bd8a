use Rattle.std.proofs.Common.{map}
use Rattle.ds_held.specs.Held.{change_item}
use Rattle.ds_held.specs.Kept.{floored}
use Rattle.ds_held.proofs.JoinLemmas.{merged_then, stopped_after, stops_first, length_items}
use Rattle.ds_held.proofs.join.join_into.Goals as goal

pub returns-in-Ok-clause-merged : goal.returns-in-Ok-clause-merged
returns-in-Ok-clause-merged c =
    merged_then c.merge_all.result c.args.held.now (map floored c.args.floors.now) (map change_item c.args.changes.now)
    c.raise_all.new.held c.merge_all.new.held c.in-Ok.ensures.merged c.merge_all.ensures.merged

pub returns-in-Ok-clause-stopped : goal.returns-in-Ok-clause-stopped
returns-in-Ok-clause-stopped c =
    stopped_after c.merge_all.result (map change_item c.args.changes.now) c.raise_all.new.held c.merge_all.new.held _
    c.merge_all.ensures.stopped c.args.held.now
    (map floored c.args.floors.now) c.in-Ok.ensures.merged (length_items floored c.args.floors.now)

pub returns-in-Err-clause-stopped : goal.returns-in-Err-clause-stopped
returns-in-Err-clause-stopped c = stops_first c.args.held.now (map floored c.args.floors.now) (map change_item c.args.changes.now)
    c.raise_all.new.held c.in-Err.stop c.in-Err.ensures.stopped
