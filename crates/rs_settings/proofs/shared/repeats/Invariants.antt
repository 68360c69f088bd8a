use Rattle.std.proofs.Common.{◌≡◌, ◌≤◌, ◌+◌, ◌++◌, ℕ, List, length, take, drop, map}
use Rattle.rs_settings.specs.Shared.{has_name, repeats}
use Rattle.rs_settings.specs.Draft.{text_in_value}
use Rattle.rs_settings.proofs.shared.repeats.Given as goal

abbrev pub invariant-loop-name : goal.invariant-loop-name
invariant-loop-name l = record {
  value : repeats (l.initial.seen ++ map text_in_value (take l.name-index l.names)) (map text_in_value (drop l.name-index l.names)) ≡
      repeats l.initial.seen (map text_in_value l.names);
  same : (n : List ℕ) → has_name l.seen n ≡ has_name (l.initial.seen ++ map text_in_value (take l.name-index l.names)) n;
  count : length l.seen ≤ length l.initial.seen + l.name-index;
}
