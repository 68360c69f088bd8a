use Rattle.std.proofs.Common.{◌≡◌, All, take}
use Rattle.ds_entry.specs.Item.{IsItem}
use Rattle.ds_held.specs.Held.{held_changes}
use Rattle.ds_submap.proofs.EntryLemmas.{puts_of}
use Rattle.ds_submap.proofs.map.SubMap.entries.Given as goal

abbrev pub invariant-loop-index : goal.invariant-loop-index
invariant-loop-index l = record {
  kept : l.puts ≡ puts_of (take l.index (held_changes l.self.held));
  items : All IsItem l.puts;
}
