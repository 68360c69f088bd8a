use Rattle.std.proofs.Common.{◌++◌, [], List, ℕ, length, sym, ap, refl, ◌∙◌, arith}
use Rattle.std.proofs.lemmas.Result.{IfOk-weaker, IfErr-weaker}
use Rattle.trace_walk.proofs.FaultLemmas.{carried, first_said}
use Rattle.trace_walk.specs.Reads.{Advances}
use Rattle.trace_walk.proofs.ReadLemmas.{carried_as, no_cause, stays}
use Rattle.trace_walk.proofs.expected.expect.Goals as goal

pub returns-in_default-clause-goes : goal.returns-in_default-clause-goes
returns-in_default-clause-goes g c bytes base here h line_is all some =
    absurd (omega (arith, some, ap length (all [] c.args.text.now refl c.in_default.ensures)))

pub returns-in_err-said-clause-fails : goal.returns-in_err-said-clause-fails
returns-in_err-said-clause-fails g c =
    carried c.from_residual.result c.in_err-said.field-0.0 _ c.from_residual.ensures.1
    (λ start bytes base here h line_is given.
    c.in_err-said.ensures.fails start bytes base here (g.R.Source.remaining c.args.reader.now) h line_is
    (given.first c.in-Some.line.now c.in-Some.rest.now c.in-Some.ensures.1 c.in-Some.ensures.0))

pub returns-clause-goes : goal.returns-clause-goes
returns-clause-goes g c =
    IfOk-weaker c.further.result _ _
    (λ u goes bytes base here h line_is all some.
    let ends = c.in-Some.ensures.0 in
    let whole = c.in-Some.ensures.1 ∙ ap (λ (l : List ℕ). l ++ c.in-Some.rest.now) ends.parts in
    goes bytes base c.args.text.now ends.front whole all
    (first_said bytes base here c.in-Some.line.now c.args.lines.now (g.R.Source.remaining c.args.reader.now) ends h
    (sym line_is ∙ c.in_ok-said.ensures.same)))
    c.further.ensures.goes

pub returns-clause-fails : goal.returns-clause-fails
returns-clause-fails g c =
    IfErr-weaker c.further.result _ _
    (λ fault fails start bytes base here h line_is given.
    let ends = c.in-Some.ensures.0 in
    let whole = c.in-Some.ensures.1 ∙ ap (λ (l : List ℕ). l ++ c.in-Some.rest.now) ends.parts in
    fails start bytes base c.args.text.now ends.front whole given.further
    (first_said bytes base here c.in-Some.line.now c.args.lines.now (g.R.Source.remaining c.args.reader.now) ends h
    (sym line_is ∙ c.in_ok-said.ensures.same)))
    c.further.ensures.fails

pub returns-in_default-clause-reads : goal.returns-in_default-clause-reads
returns-in_default-clause-reads g c = stays g.R.Source c.args.lines.now c.args.reader.now

pub returns-in_err-said-clause-reads : goal.returns-in_err-said-clause-reads
returns-in_err-said-clause-reads g c =
    carried_as c.from_residual.result c.in_err-said.field-0.0
    (λ r. Advances g.R.Source r c.args.lines.now c.args.reader.now c.args.lines.now c.args.reader.now) c.from_residual.ensures.1
    (λ first led. no_cause g.R.Source c.in_err-said.field-0.0 first c.args.reader.now c.in_err-said.ensures.blames)

pub returns-in_err-said-clause-kind : goal.returns-in_err-said-clause-kind
returns-in_err-said-clause-kind g c = carried c.from_residual.result c.in_err-said.field-0.0 _ c.from_residual.ensures.1
    c.in_err-said.ensures.kind
