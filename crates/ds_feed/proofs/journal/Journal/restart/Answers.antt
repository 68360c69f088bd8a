use Rattle.std.proofs.Common.{rules, arith}
use Rattle.ds_feed.specs.Feed.{opening_feed}
use Rattle.ds_feed.specs.Sound.{kept_of}
use Rattle.ds_feed.proofs.FeedLemmas.{first_is_first}
use Rattle.ds_feed.proofs.journal.Journal.restart.Goals as goal

pub invariant_of-self : goal.invariant_of-self
invariant_of-self c =
    let before = c.self.invariant.feed in
    let first = first_is_first (kept_of c.self.inside) before.0 before.1 in
    let limit = c.self.invariant.limit in
    record {
      feed = (opening_feed c.args.incarnation c.self.inside.first c.self.inside.items.capacity, search rules);
      ring = search rules;
      limit = omega arith;
    }
