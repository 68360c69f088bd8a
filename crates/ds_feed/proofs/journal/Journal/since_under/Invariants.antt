use Rattle.std.proofs.Common.{◌≡◌, ◌≤◌, ◌+◌, ◌-◌, ◌++◌, length, drop, filter}
use Rattle.ds_entry.specs.Item.{passes}
use Rattle.ds_feed.specs.Since.{prefix}
use Rattle.ds_feed.proofs.journal.Journal.since_under.Given as goal

abbrev pub invariant-loop-left : goal.invariant-loop-left
invariant-loop-left g l =
    let test = passes (g.S.KeyScope.keeps l.fn.scope) in
    let kept = l.self-inside.items.items in
    record {
      items : l.items ++ filter test (prefix test l.left (drop l.next kept)) ≡ filter test (prefix test l.max (drop l.start kept));
      reach : l.next + length (prefix test l.left (drop l.next kept)) ≡ l.start + length (prefix test l.max (drop l.start kept));
      forward : l.start ≤ l.next;
      within : l.next ≤ length kept;
      same : g.S.KeyScope.keeps l.scope ≡ g.S.KeyScope.keeps l.fn.scope;
    }

abbrev pub decreases-loop-left : goal.decreases-loop-left
decreases-loop-left g l = length l.self-inside.items.items - l.next
