use Rattle.std.proofs.Common.{◌≡◌, ◌++◌, map, take}
use Rattle.std.specs.List.{flat_map}
use Rattle.script_commands.specs.declared.command.ScriptCommand.TheVariants.{Offer}
use Rattle.ds_script.specs.Saved.{command_line}
use Rattle.ds_script.proofs.saved.append_offers.Given as goal

abbrev pub invariant-loop-item : goal.invariant-loop-item
invariant-loop-item l = record {
  lines : l.output.items ≡ l.initial.output.items ++ flat_map command_line (map Offer (take l.item-index l.items));
}
