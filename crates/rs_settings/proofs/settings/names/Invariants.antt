use Rattle.std.proofs.Common.{◌≡◌, take, map}
use Rattle.rs_settings.specs.Draft.{text_in_value}
use Rattle.rs_settings.proofs.settings.names.Given as goal

abbrev pub invariant-loop-item : goal.invariant-loop-item
invariant-loop-item l = l.names ≡ map text_in_value (take l.item-index l.items)
