use Rattle.std.proofs.Common.{◌++◌, ◌∷◌, [], List, ℕ, length, length-append, sym, ap, arith, ◌∙◌}
use Rattle.trace_walk.specs.Text.{marked}
use Rattle.trace_walk.proofs.FaultLemmas.{carried, split_on, one_more, all_said, further_short, further_there}
use Rattle.trace_walk.specs.Reads.{Advances}
use Rattle.trace_walk.proofs.ReadLemmas.{carried_as, no_cause, on_and_on, stays}
use Rattle.trace_walk.proofs.expected.further.Goals as goal

pub loop-line-init : goal.loop-line-init
loop-line-init g c =
    record {
      said = λ bytes base whole given is at. record { given = given; whole_is = is; at = at };
      reads =
          stays g.R.Source c.args.lines.now c.args.reader.now;
    }

pub returns-in_err-reply_line-clause-fails : goal.returns-in_err-reply_line-clause-fails
returns-in_err-reply_line-clause-fails g c =
    carried c.from_residual.result c.in_err-reply_line.field-0.0 _ c.from_residual.ensures.1
    (λ start bytes base whole given is on at.
    let line = c.in-Some.line.now in
    let x = split_on bytes base whole c.loop-line.rest.now (line ++ c.in-Some.more.now) c.loop-line.lines
    (g.R.Source.remaining c.loop-line.reader) (c.loop-line.invariant.said bytes base whole given is at) c.in-Some.ensures.1 in
    let here : List ℕ = base ++ marked (x.given ++ 10 ∷ []) in
    c.in_err-reply_line.ensures.fails start bytes here x.at
    (further_short start here line (on x.given line c.in-Some.more.now x.whole_is c.in-Some.ensures.0)))

pub returns-in_err-said-clause-fails : goal.returns-in_err-said-clause-fails
returns-in_err-said-clause-fails g c =
    carried c.from_residual-in_err-said.result c.in_err-said.field-0.0 _ c.from_residual-in_err-said.ensures.1
    (λ start bytes base whole given is on at.
    let line = c.in-Some.line.now in
    let x = split_on bytes base whole c.loop-line.rest.now (line ++ c.in-Some.more.now) c.loop-line.lines
    (g.R.Source.remaining c.loop-line.reader) (c.loop-line.invariant.said bytes base whole given is at) c.in-Some.ensures.1 in
    let here : List ℕ = base ++ marked (x.given ++ 10 ∷ []) in
    let w = c.in_ok-reply_line.ensures.there bytes here x.at in
    c.in_err-said.ensures.fails start bytes here w.0 (g.R.Source.remaining c.reply_line.new.reader) w.2 w.1
    (further_there start here line w.0 (on x.given line c.in-Some.more.now x.whole_is c.in-Some.ensures.0).0))

pub loop-line-preserved : goal.loop-line-preserved
loop-line-preserved g c =
    let line = c.in-Some.line.now in
    let more = c.in-Some.more.now in
    let l = c.loop-line in
    record {
      said = λ bytes base whole given is at.
          let x = split_on bytes base whole l.rest.now (line ++ more) l.lines (g.R.Source.remaining l.reader)
          (l.invariant.said bytes base whole given is at) c.in-Some.ensures.1 in
          let w = c.in_ok-reply_line.ensures.there bytes (base ++ marked (x.given ++ 10 ∷ [])) x.at in
          one_more bytes base whole line more w.0 l.lines c.reply_line.new.lines (g.R.Source.remaining l.reader)
          (g.R.Source.remaining c.reply_line.new.reader) x c.in-Some.ensures.0 w.2 (sym w.1 ∙ c.in_ok-said.ensures.same);
      reads = on_and_on g.R.Source c.args.lines.now l.lines c.reply_line.new.lines c.args.reader.now l.reader c.reply_line.new.reader
          l.invariant.reads c.in_ok-reply_line.ensures.reads;
    }

pub returns-clause-goes : goal.returns-clause-goes
returns-clause-goes g c bytes base whole given is all at =
    all_said bytes base whole c.loop-line.rest.now c.loop-line.lines (g.R.Source.remaining c.loop-line.reader)
    (c.loop-line.invariant.said bytes base whole given is at) all c.in_default.ensures

pub loop-line-smaller : goal.loop-line-smaller
loop-line-smaller g c =
    let line = c.in-Some.line.now in
    let ends = c.in-Some.ensures.0 in
    omega
    (arith, ap length c.in-Some.ensures.1, length-append line c.in-Some.more.now, ap length ends.parts, length-append ends.front (10 ∷ []))

pub returns-in_err-reply_line-clause-reads : goal.returns-in_err-reply_line-clause-reads
returns-in_err-reply_line-clause-reads g c =
    let l = c.loop-line in
    carried_as c.from_residual.result c.in_err-reply_line.field-0.0
    (λ r. Advances g.R.Source r c.args.lines.now c.args.reader.now c.reply_line.new.lines c.reply_line.new.reader) c.from_residual.ensures.1
    (λ first led. c.in_err-reply_line.ensures.reads first (l.invariant.reads.0 first led))

pub returns-in_err-said-clause-reads : goal.returns-in_err-said-clause-reads
returns-in_err-said-clause-reads g c =
    carried_as c.from_residual-in_err-said.result c.in_err-said.field-0.0
    (λ r. Advances g.R.Source r c.args.lines.now c.args.reader.now c.reply_line.new.lines c.reply_line.new.reader)
    c.from_residual-in_err-said.ensures.1
    (λ first led. no_cause g.R.Source c.in_err-said.field-0.0 first c.reply_line.new.reader c.in_err-said.ensures.blames)

pub returns-clause-reads : goal.returns-clause-reads
returns-clause-reads g c = c.loop-line.invariant.reads

-- ---- the kind of fault

pub returns-in_err-reply_line-clause-kind : goal.returns-in_err-reply_line-clause-kind
returns-in_err-reply_line-clause-kind g c =
    carried c.from_residual.result c.in_err-reply_line.field-0.0 _ c.from_residual.ensures.1 c.in_err-reply_line.ensures.kind

pub returns-in_err-said-clause-kind : goal.returns-in_err-said-clause-kind
returns-in_err-said-clause-kind g c = carried c.from_residual-in_err-said.result c.in_err-said.field-0.0 _
    c.from_residual-in_err-said.ensures.1 c.in_err-said.ensures.kind
