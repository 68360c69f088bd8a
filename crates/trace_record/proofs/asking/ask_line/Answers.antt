use Rattle.std.proofs.Common.{sym, ap, subst, ◌∙◌}
use Rattle.std.proofs.lemmas.Result.{IfOk-weaker}
use Rattle.ds_machine.specs.declared.command.Command.TheVariants.{Sweep}
use Rattle.script_commands.specs.Command.{store_command}
use Rattle.trace_walk.specs.declared.header.Format.{Format}
use Rattle.trace_walk.specs.OneReply.{IsTraced}
use Rattle.trace_walk.specs.Sweep.{older_sweep}
use Rattle.trace_walk.proofs.ToldLemmas.{older_is, plain_steps, sweep_step}
use Rattle.trace_record.proofs.LastLemmas.{plain_last, sweep_last}
use Rattle.trace_record.proofs.asking.ask_line.Goals as goal

pub returns-in-Some-clause-step : goal.returns-in-Some-clause-step
returns-in-Some-clause-step c =
    let format = c.args.format in
    let swept = c.in-Some.sweep in
    let is = older_is format c.args.command swept (sym c.older.ensures ∙ c.in-Some.is) in
    IfOk-weaker c.ask_older.result _ _
    (λ answer sweeps s stands traced.
    let r = sweeps s stands (subst (λ (f : Format). IsTraced f s) is.0 traced) in (
      Sweep swept.caller swept.owner swept.generation,
      (older_sweep s swept.caller swept.owner swept.generation).1,
      ap store_command is.1,
      sweep_step format s swept.caller swept.owner swept.generation answer.reply is.0 r.0,
      sweep_last format s swept.caller swept.owner swept.generation answer.reply is.0 r.0,
      r.1,
    ))
    c.ask_older.ensures.step

pub returns-clause-step : goal.returns-clause-step
returns-clause-step c =
    IfOk-weaker c.ask_plain.result _ _
    (λ answer steps s stands traced.
    let p = steps s stands in
    let plain = sym c.older.ensures ∙ c.in_default.is in (
      p.0,
      p.1,
      p.2,
      plain_steps c.args.format c.args.command p.0 plain p.2 s p.1 answer.reply p.3,
      plain_last c.args.format c.args.command
          p.0 plain p.2 s answer.reply p.4,
      p.5,
    ))
    c.ask_plain.ensures.step
