use Rattle.std.proofs.Common.{◌≡◌, ◌+◌, ℕ, refl, subst, arith}
use Rattle.trace_walk.specs.Entry.{AddsItems}
use Rattle.trace_walk.specs.Reads.{Continues}
use Rattle.trace_walk.proofs.FaultLemmas.{carried}
use Rattle.trace_walk.proofs.ItemLemmas.{items_none, items_more, items_fail}
use Rattle.trace_walk.proofs.ReadLemmas.{carried_as, on_and_on, stays}
use Rattle.trace_walk.proofs.entry.EntryReader.items.Goals as goal

pub loop-index-init : goal.loop-index-init
loop-index-init g c = (
  items_none c.args.format c.args.self.now (g.R.Source.remaining c.args.reader.now) _ c.new-items.ensures,
  stays g.R.Source
      c.args.self.now.lines c.args.reader.now,
)

pub loop-index-preserved : goal.loop-index-preserved
loop-index-preserved g c =
    let l = c.loop-index in (
      items_more c.args.format c.args.self.now l.self c.item.new.self (g.R.Source.remaining c.args.reader.now)
          (g.R.Source.remaining l.reader)
          (g.R.Source.remaining c.item.new.reader) l._index l.items l.invariant.0 _ (l._index + 1) refl c.in_ok-item.ensures.goes,
      on_and_on g.R.Source c.args.self.now.lines l.self.lines c.item.new.self.lines c.args.reader.now l.reader c.item.new.reader
          l.invariant.1 c.in_ok-item.ensures.reads,
    )

pub returns-in_err-item-clause-fails : goal.returns-in_err-item-clause-fails
returns-in_err-item-clause-fails g c =
    let l = c.loop-index in
    carried c.from_residual.result c.in_err-item.field-0.0 _ c.from_residual.ensures.1
    (items_fail c.args.format c.args.self.now l.self c.item.new.self (g.R.Source.remaining c.args.reader.now)
    (g.R.Source.remaining l.reader)
    (g.R.Source.remaining c.item.new.reader) l._index l.items l.invariant.0 c.args.count c.in_err-item.field-0.0 c.loop-index-test.true
    c.in_err-item.ensures.fails)

pub returns-clause-goes : goal.returns-clause-goes
returns-clause-goes g c =
    let l = c.loop-index in
    let all : l._index ≡ c.args.count = omega (arith, c.loop-index-test.false, l.auto._index-end) in
    subst (λ (n : ℕ). AddsItems c.args.format c.args.self.now (g.R.Source.remaining c.args.reader.now) n l.self
    (g.R.Source.remaining l.reader) l.items) all l.invariant.0

pub returns-in_err-item-clause-reads : goal.returns-in_err-item-clause-reads
returns-in_err-item-clause-reads g c =
    carried_as c.from_residual.result c.in_err-item.field-0.0
    (λ r. Continues g.R.Source r c.args.self.now.lines c.args.reader.now c.item.new.self.lines c.item.new.reader) c.from_residual.ensures.1
    (λ first led. c.in_err-item.ensures.reads first (c.loop-index.invariant.1.0 first led))

pub returns-clause-reads : goal.returns-clause-reads
returns-clause-reads g c = c.loop-index.invariant.1
