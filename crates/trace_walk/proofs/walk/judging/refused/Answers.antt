use Rattle.std.proofs.Common.{◌∙◌, sym, subst}
use Rattle.trace_walk.specs.declared.asked.Asked.{Asked}
use Rattle.trace_walk.specs.declared.passed.Passed.TheVariants.{AsItStands, Swept}
use Rattle.trace_walk.specs.Passing.{IsRefusedAs}
use Rattle.trace_walk.proofs.ToldLemmas.{line_refused, merge_refused, sweep_refused}
use Rattle.trace_walk.proofs.walk.judging.refused.Goals as goal

pub returns-in-Some : goal.returns-in-Some
returns-in-Some c =
    let merges = c.new.result in
    subst (λ (a : Asked). IsRefusedAs c.args.format a (Swept merges)) (sym c.in-Line.is)
    (sweep_refused c.args.format c.in-Line.command c.in-Some.field-0 merges (sym c.older.ensures ∙ c.in-Some.is) c.new.ensures)

pub returns-in-None : goal.returns-in-None
returns-in-None c = subst (λ (a : Asked). IsRefusedAs c.args.format a AsItStands) (sym c.in-Line.is)
    (line_refused c.args.format c.in-Line.command (sym c.older.ensures ∙ c.in-None.is))

pub returns-in-Merge : goal.returns-in-Merge
returns-in-Merge c = subst (λ (a : Asked). IsRefusedAs c.args.format a AsItStands) (sym c.in-Merge.is)
    (merge_refused c.args.format c.in-Merge.field-0)
