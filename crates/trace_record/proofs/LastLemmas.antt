-- Where a reply may report lack of memory.
use Rattle.std.proofs.Common.{◌≡◌, ℕ, List, Some, None, sym, subst}
use Rattle.ds_names.specs.Endpoint.{EndpointRecord}
use Rattle.ds_machine.specs.State.{State}
use Rattle.ds_machine.specs.declared.command.Command.{Command}
use Rattle.ds_machine.specs.declared.command.Command.TheVariants as commands
use Rattle.ds_machine.specs.declared.reply.Reply.{Reply}
use Rattle.ds_store.specs.Last.{IsLast}
use Rattle.script_commands.specs.Command.{store_command}
use Rattle.script_commands.specs.declared.command.ScriptCommand.{ScriptCommand}
use Rattle.trace_walk.specs.declared.header.Format.{Format}
use Rattle.trace_walk.specs.declared.header.Format.TheVariants.{One, Two}
use Rattle.trace_walk.specs.Sweep.{older_sweep}
use Rattle.trace_walk.specs.Sweeping.{older_of}
use Rattle.trace_walk.proofs.ToldLemmas.{sweep_line}
use Rattle.trace_record.specs.Stepping.{IsLastOf}

-- a sweep of format 1
pub sweep_last : (format : Format) (s : State) (caller : EndpointRecord) (owner : List ℕ) (generation : ℕ) (reply : Reply)
    → format ≡ One → reply ≡ (older_sweep s caller owner generation).0 → IsLastOf format s (commands.Sweep caller owner generation) reply
sweep_last format s caller owner generation reply e is =
    subst (λ (f : Format). IsLastOf f s (commands.Sweep caller owner generation) reply) (sym e) is

-- any other command
pub plain_last : (format : Format) (c : ScriptCommand) (command : Command) → older_of format c ≡ None → store_command c ≡ Some command →
    (s : State) (reply : Reply) → IsLast s command reply → IsLastOf format s command reply
plain_last Two c command e asks s reply x = x
plain_last One c (commands.Sweep caller owner generation) e asks s reply x = absurd (sweep_line c caller owner generation e asks)
plain_last One c _ e asks s reply x = x
