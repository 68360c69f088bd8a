use Rattle.std.proofs.Common.{rules}
use Rattle.ds_feed.specs.Feed.{opening_feed}
use Rattle.ds_feed.proofs.journal.Journal.new.Goals as goal

pub invariant_of-result : goal.invariant_of-result
invariant_of-result c = record {
  feed = (opening_feed c.args.incarnation c.args.first c.args.ring, search rules);
  ring = search rules;
  limit = search rules;
}
