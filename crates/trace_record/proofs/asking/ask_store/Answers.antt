use Rattle.std.proofs.Common.{◌∙◌, List, sym, ap, subst}
use Rattle.std.proofs.lemmas.Result.{IfOk-weaker}
use Rattle.ds_entry.specs.declared.item.Item.{Item}
use Rattle.ds_machine.specs.Machine.{Step}
use Rattle.ds_machine.specs.State.{State}
use Rattle.ds_machine.specs.declared.command.Command.TheVariants.{Merge}
use Rattle.ds_machine.specs.declared.reply.Reply.{Reply}
use Rattle.trace_walk.specs.declared.asked.Asked.{Asked}
use Rattle.trace_walk.specs.declared.header.Format.{Format}
use Rattle.trace_walk.specs.declared.header.Format.TheVariants.{One, Two}
use Rattle.trace_walk.specs.Legal.{StepOf}
use Rattle.trace_walk.specs.Text.{command_asked, worded_as}
use Rattle.ds_store.specs.Last.{IsLast}
use Rattle.trace_record.specs.Stepping.{IsLastOf, StepsBy}
use Rattle.trace_record.proofs.asking.ask_store.Goals as goal

pub returns-in-Line-clause-step : goal.returns-in-Line-clause-step
returns-in-Line-clause-step c =
    IfOk-weaker c.ask_line.result _ _ (λ answer step.
    subst (λ (a : Asked). StepsBy c.args.store.now c.args.format a answer.reply c.ask_line.new.store) (sym c.in-Line.is) step)
    c.ask_line.ensures.step

pub returns-in-Line-clause-wording : goal.returns-in-Line-clause-wording
returns-in-Line-clause-wording c = IfOk-weaker c.ask_line.result _ _ (λ answer is. is ∙ ap worded_as (sym c.in-Line.is))
    c.ask_line.ensures.wording

-- a Merge is the same in either format
merge_step : (format : Format) (s t : State) (items : List Item) (reply : Reply) → Step s (Merge items) reply t →
    StepOf format s (Merge items) reply t
merge_step One s t items reply step = step
merge_step Two s t items reply step = step

merge_last : (format : Format) (s : State) (items : List Item) (reply : Reply) → IsLast s (Merge items) reply →
    IsLastOf format s (Merge items) reply
merge_last One s items reply last = last
merge_last Two s items reply last = last

pub returns-in-Merge-clause-step : goal.returns-in-Merge-clause-step
returns-in-Merge-clause-step c s stands traced =
    let step = c.apply.ensures.step s stands in
    let last = merge_last c.args.format s c.in-Merge.items c.apply.result (c.apply.ensures.last s stands) in (
      Merge c.in-Merge.items,
      step.0,
      ap command_asked c.in-Merge.is,
      merge_step c.args.format s step.0 c.in-Merge.items c.apply.result
          step.1,
      last,
      step.2,
    )

pub returns-in-Merge-clause-wording : goal.returns-in-Merge-clause-wording
returns-in-Merge-clause-wording c = ap worded_as (sym c.in-Merge.is)
