use Rattle.std.proofs.Common.{◌≡◌, drop}
use Rattle.std.specs.List.{list_any}
use Rattle.rs_settings.specs.Values.{is_same}
use Rattle.rs_settings.proofs.names.Names.has.Given as goal

-- the name is among all of them where it is among those from the index on
abbrev pub invariant-loop-own : goal.invariant-loop-own
invariant-loop-own l = list_any (is_same l.name) (drop l.own-index l.self) ≡ list_any (is_same l.name) l.self
