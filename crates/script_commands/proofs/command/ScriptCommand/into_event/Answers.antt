use Rattle.std.proofs.Common.{ap, ◌∙◌}
use Rattle.script_commands.specs.Event.{asked_of}
use Rattle.script_commands.proofs.AskingLemmas.{IsAsking, asking}
use Rattle.script_commands.proofs.command.ScriptCommand.into_event.Goals as goal

pub returns-in_ok-into_store_command-in_default : goal.returns-in_ok-into_store_command-in_default
returns-in_ok-into_store_command-in_default c =
    let other : IsAsking c.args.self = record {
      map = c.in_default.not-Map;
      clear = c.in_default.not-Clear;
      restart = c.in_default.not-Restart;
      deliver =
          c.in_default.not-Deliver;
    } in
    record {
      event = c.asked.ensures ∙ ap (asked_of c.args.side) c.in_ok-into_store_command-in_default.ensures.command ∙
          asking c.args.side c.args.self other;
      room = tt;
    }
