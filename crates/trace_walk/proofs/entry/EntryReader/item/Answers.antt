use Rattle.std.proofs.Common.{◌≡◌, ◌∙◌, List, ◌++◌, ℕ, ap, append-nil, sym, subst, arith}
use Rattle.trace_walk.specs.declared.entry.EntryFault.TheVariants.{NoRoom}
use Rattle.trace_walk.specs.Reads.{Continues}
use Rattle.trace_walk.specs.Text.{plus_text}
use Rattle.trace_walk.specs.Walking.{IsAt}
use Rattle.trace_walk.proofs.FaultLemmas.{carried}
use Rattle.trace_walk.proofs.ItemLemmas.{lacks_all, lacks_line, lacks_long}
use Rattle.trace_walk.proofs.ReadLemmas.{carried_as}
use Rattle.trace_walk.proofs.entry.EntryReader.item.Goals as goal

pub returns-in_err-next_line-clause-fails : goal.returns-in_err-next_line-clause-fails
returns-in_err-next_line-clause-fails g c =
    carried c.from_residual.result c.in_err-next_line.field-0.0 _ c.from_residual.ensures.1
    (λ bytes front at. lacks_long c.args.format bytes front c.in_err-next_line.field-0.0 (c.in_err-next_line.ensures.long bytes front at))

pub returns-then-not-branch-clause-fails : goal.returns-then-not-branch-clause-fails
returns-then-not-branch-clause-fails g c bytes front at =
    lacks_all c.args.format bytes front c.next_line.new.lines.count _ (c.in_ok-next_line.ensures.none c.if-not-branch.true bytes front at)
    (omega (arith, c.count.ensures.value))

pub returns-in-Err-BadLine-clause-fails : goal.returns-in-Err-BadLine-clause-fails
returns-in-Err-BadLine-clause-fails g c bytes front at =
    let a = c.in_ok-next_line.ensures.there c.if-not-branch.false bytes front at in
    lacks_line c.args.format bytes front a.0 c.next_line.new.lines (g.R.Source.remaining c.next_line.new.reader)
    c.count-in-Err-BadLine.result a.2
    (λ i may short is. c.in-Err-BadLine.ensures.none c.in-Err-BadLine.field-0-is i may (c.line-line.ensures ∙ a.1 ∙ is))
    c.count-in-Err-BadLine.ensures.value

pub returns-in_ok-push-in-Ok-clause-goes : goal.returns-in_ok-push-in-Ok-clause-goes
returns-in_ok-push-in-Ok-clause-goes g c =
    let old = c.args.self.now in
    let new = c.next_line.new.lines in
    let to = g.R.Source.remaining c.next_line.new.reader in
    let is : new.line ≡ plus_text c.in-Ok.item = sym c.line-line.ensures ∙ c.in-Ok.ensures.found.1 in
    record {
      item = c.in-Ok.item;
      after_is = c.in_ok-push-in-Ok.ensures;
      may = c.in-Ok.ensures.found.0;
      text = c.in_ok-append_all-in-Ok.ensures.written ∙
          ap (λ (l : List ℕ). old.text.items ++ l) (append-nil c.line-line.result.now ∙ c.in-Ok.ensures.found.1);
      over = λ bytes front at.
          let a = c.in_ok-next_line.ensures.there c.if-not-branch.false bytes front at in
          subst (λ (l : List ℕ). IsAt bytes (front ++ l) new to) (sym a.1 ∙ is) a.2.then;
    }

pub returns-in_err-next_line-clause-reads : goal.returns-in_err-next_line-clause-reads
returns-in_err-next_line-clause-reads g c =
    carried_as c.from_residual.result c.in_err-next_line.field-0.0
    (λ r. Continues g.R.Source r c.args.self.now.lines c.args.reader.now c.next_line.new.lines c.next_line.new.reader)
    c.from_residual.ensures.1
    (λ first led. c.in_err-next_line.ensures.reads first led)

pub returns-in_ok-push-in-Ok-clause-reads : goal.returns-in_ok-push-in-Ok-clause-reads
returns-in_ok-push-in-Ok-clause-reads g c = c.in_ok-next_line.ensures.reads

pub returns-then-not-branch-clause-reads : goal.returns-then-not-branch-clause-reads
returns-then-not-branch-clause-reads g c = λ first led. tt

pub returns-in-Err-BadLine-clause-reads : goal.returns-in-Err-BadLine-clause-reads
returns-in-Err-BadLine-clause-reads g c = λ first led. tt

pub returns-in-Err-NoRoom-clause-reads : goal.returns-in-Err-NoRoom-clause-reads
returns-in-Err-NoRoom-clause-reads g c = λ first led. tt

pub returns-in_err-append_all-in-Ok-clause-reads : goal.returns-in_err-append_all-in-Ok-clause-reads
returns-in_err-append_all-in-Ok-clause-reads g c =
    carried_as c.from_residual-in_err-append_all-in-Ok.result NoRoom
    (λ r. Continues g.R.Source r c.args.self.now.lines c.args.reader.now c.next_line.new.lines c.next_line.new.reader)
    c.from_residual-in_err-append_all-in-Ok.ensures.1 (λ first led. tt)

pub returns-in_err-push-in-Ok-clause-reads : goal.returns-in_err-push-in-Ok-clause-reads
returns-in_err-push-in-Ok-clause-reads g c =
    carried_as c.from_residual-in_err-push-in-Ok.result NoRoom
    (λ r. Continues g.R.Source r c.args.self.now.lines c.args.reader.now c.next_line.new.lines c.next_line.new.reader)
    c.from_residual-in_err-push-in-Ok.ensures.1 (λ first led. tt)
