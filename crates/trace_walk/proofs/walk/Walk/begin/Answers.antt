use Rattle.std.proofs.Common.{◌≡◌, List, [], ℕ, refl, sym, subst, ◌∙◌}
use Rattle.line_io.specs.Lines.{with_newline}
use Rattle.trace_walk.specs.Text.{HasNoHeader, header_text}
use Rattle.trace_walk.proofs.WalkLemmas.{header_after}
use Rattle.trace_walk.specs.Reads.{BeginsReading}
use Rattle.trace_walk.specs.Walking.{IsAt, of_entry}
use Rattle.trace_walk.proofs.BeginLemmas.{first_fails, input_empty, line_wrong, at_start, by_known}
use Rattle.trace_walk.proofs.FaultLemmas.{carried}
use Rattle.trace_walk.proofs.ReadLemmas.{blames_walk, carried_as, none_read}
use Rattle.trace_walk.proofs.walk.Walk.begin.Goals as goal

pub returns-then-not-branch-clause-fails : goal.returns-then-not-branch-clause-fails
returns-then-not-branch-clause-fails g c =
    by_known (g.R.Source.remaining c.args.reader.now) _
    (λ bytes known. (input_empty bytes _ (c.in_ok-next_line.ensures.none c.if-not-branch.true bytes []
    (at_start bytes c.in_ok-lines.lines (g.R.Source.remaining c.args.reader.now) c.in_ok-lines.ensures known))).0)

pub returns-in_err-next_line-clause-fails : goal.returns-in_err-next_line-clause-fails
returns-in_err-next_line-clause-fails g c =
    carried c.from_residual-in_err-next_line.result (of_entry c.in_err-next_line.field-0.0) _ c.from_residual-in_err-next_line.ensures.1
    (by_known (g.R.Source.remaining c.args.reader.now) _
    (λ bytes known. (first_fails bytes c.in_err-next_line.field-0.0
    (c.in_err-next_line.ensures.long bytes []
    (at_start bytes c.in_ok-lines.lines (g.R.Source.remaining c.args.reader.now) c.in_ok-lines.ensures known))).0))

pub returns-in_default-clause-fails : goal.returns-in_default-clause-fails
returns-in_default-clause-fails g c =
    by_known (g.R.Source.remaining c.args.reader.now) _
    (λ bytes known.
    let l = c.in_ok-next_line.ensures.there c.if-not-branch.false bytes []
    (at_start bytes c.in_ok-lines.lines (g.R.Source.remaining c.args.reader.now) c.in_ok-lines.ensures known) in
    (line_wrong bytes l.0 1 c.next_line.new.lines (g.R.Source.remaining c.next_line.new.reader) l.2 refl
    (subst HasNoHeader (c.line.ensures ∙ l.1) c.in_default.ensures.none)).0)

pub returns-clause-begins : goal.returns-clause-begins
returns-clause-begins g c =
    by_known (g.R.Source.remaining c.args.reader.now) _
    (λ bytes known.
    let l = c.in_ok-next_line.ensures.there c.if-not-branch.false bytes []
    (at_start bytes c.in_ok-lines.lines (g.R.Source.remaining c.args.reader.now) c.in_ok-lines.ensures known) in
    let h = c.in-Some.header in
    let text : header_text h ≡ with_newline l.0 = sym c.in-Some.ensures.found.1 ∙ c.line.ensures ∙ l.1 in
    record {
      at = subst (λ (f : List ℕ). IsAt bytes f c.next_line.new.lines (g.R.Source.remaining c.next_line.new.reader)) (sym text) l.2.then;
      stands = c.in-Ok.ensures.opened;
      past = header_after h c.in-Some.ensures.found.0;
    })

-- ---- the line that must be there

pub returns-then-not-branch-clause-wanted : goal.returns-then-not-branch-clause-wanted
returns-then-not-branch-clause-wanted g c =
    by_known (g.R.Source.remaining c.args.reader.now) _
    (λ bytes known. (input_empty bytes _ (c.in_ok-next_line.ensures.none c.if-not-branch.true bytes []
    (at_start bytes c.in_ok-lines.lines (g.R.Source.remaining c.args.reader.now) c.in_ok-lines.ensures known))).1)

pub returns-in_err-next_line-clause-wanted : goal.returns-in_err-next_line-clause-wanted
returns-in_err-next_line-clause-wanted g c =
    carried c.from_residual-in_err-next_line.result (of_entry c.in_err-next_line.field-0.0) _ c.from_residual-in_err-next_line.ensures.1
    (by_known (g.R.Source.remaining c.args.reader.now) _
    (λ bytes known. (first_fails bytes c.in_err-next_line.field-0.0
    (c.in_err-next_line.ensures.long bytes []
    (at_start bytes c.in_ok-lines.lines (g.R.Source.remaining c.args.reader.now) c.in_ok-lines.ensures known))).1))

pub returns-in_default-clause-wanted : goal.returns-in_default-clause-wanted
returns-in_default-clause-wanted g c =
    by_known (g.R.Source.remaining c.args.reader.now) _
    (λ bytes known.
    let l = c.in_ok-next_line.ensures.there c.if-not-branch.false bytes []
    (at_start bytes c.in_ok-lines.lines (g.R.Source.remaining c.args.reader.now) c.in_ok-lines.ensures known) in
    (line_wrong bytes l.0 1 c.next_line.new.lines (g.R.Source.remaining c.next_line.new.reader) l.2 refl
    (subst HasNoHeader (c.line.ensures ∙ l.1) c.in_default.ensures.none)).1)

-- ---- reads

pub returns-in_err-next_line-clause-reads : goal.returns-in_err-next_line-clause-reads
returns-in_err-next_line-clause-reads g c =
    carried_as c.from_residual-in_err-next_line.result (of_entry c.in_err-next_line.field-0.0)
    (λ r. BeginsReading g.R.Source r c.args.reader.now c.next_line.new.reader) c.from_residual-in_err-next_line.ensures.1
    (blames_walk g.R.Source c.in_err-next_line.field-0.0 c.args.reader.now c.next_line.new.reader
    (c.in_err-next_line.ensures.reads c.args.reader.now (none_read g.R.Source c.in_ok-lines.lines c.args.reader.now c.in_ok-lines.ensures)))

pub returns-clause-reads : goal.returns-clause-reads
returns-clause-reads g c = c.in_ok-next_line.ensures.reads.0 c.args.reader.now
    (none_read g.R.Source c.in_ok-lines.lines c.args.reader.now c.in_ok-lines.ensures)
