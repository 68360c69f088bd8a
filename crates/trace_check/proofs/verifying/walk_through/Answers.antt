use Rattle.std.proofs.Common.{List, ℕ, Option, IfNone, refl, sym, subst, arith}
use Rattle.trace_walk.specs.declared.header.Header.{Header}
use Rattle.trace_walk.specs.declared.verdict.Verdict.TheVariants.{Legal}
use Rattle.trace_walk.specs.Verdict.{IsVerdict}
use Rattle.trace_walk.specs.declared.passed.Passed.{Passed}
use Rattle.trace_walk.specs.Steps.{EndsThere, GoesPast}
use Rattle.trace_walk.specs.Walking.{Spot, Walks, spot_after}
use Rattle.trace_walk.proofs.BeginLemmas.{legal_at_end, said_for}
use Rattle.trace_walk.proofs.FaultLemmas.{some_at}
use Rattle.trace_walk.proofs.ReadLemmas.{on_and_on, stays}
use Rattle.trace_walk.specs.Reads.{CountsOn}
use Rattle.trace_walk.specs.declared.verdict.Verdict.{Verdict}
use Rattle.trace_check.specs.Verifying.{IsVerdictCause}
use Rattle.trace_check.proofs.CauseLemmas.{cause_told}
use Rattle.trace_check.proofs.TellingLemmas.{wanted_for}
use Rattle.trace_check.specs.Telling.{WantsSort}
use Rattle.trace_walk.specs.Wanting.{wanted_in}
use Rattle.trace_check.proofs.verifying.walk_through.Goals as goal

pub loop-length-init : goal.loop-length-init
loop-length-init g c =
    record {
      walks = λ b w none. (b, refl, none, w);
      reads = stays g.R.Source c.args.walk.now.entry.lines c.args.reader.now;
      counted =
          omega arith;
      few = omega arith;
    }

pub loop-length-preserved : goal.loop-length-preserved
loop-length-preserved g c =
    let l = c.loop-length in
    let old = l.walk in
    let new = c.next.new.self in
    let from = g.R.Source.remaining l.reader in
    let to = g.R.Source.remaining c.next.new.reader in
    let more = some_at c.in-Ok-Some.field-0 _ (λ p. CountsOn old.entry.lines new.entry.lines) c.in-Ok-Some.field-0-is
    c.in-Ok-Some.ensures.counts in
    record {
      walks = λ b w none.
          let k = l.invariant.walks b w none in
          let p = some_at c.in-Ok-Some.field-0 _ (GoesPast old from new to) c.in-Ok-Some.field-0-is c.in-Ok-Some.ensures.goes k.0 k.3 in
          let next : Spot = spot_after k.0 old.header.limits p.entry p.state in
          (next, k.1, omega (arith, k.2), subst (λ (h : Header). Walks next new.entry.lines new.store h to) (sym p.header) p.walks);
      reads = on_and_on g.R.Source c.args.walk.now.entry.lines old.entry.lines new.entry.lines c.args.reader.now l.reader c.next.new.reader
          l.invariant.reads c.in-Ok-Some.ensures.reads;
      counted = omega (arith, l.invariant.counted, more.1);
      few = omega (arith, l.invariant.counted, more.0);
    }

pub returns-in-Ok-None-clause-ends : goal.returns-in-Ok-None-clause-ends
returns-in-Ok-None-clause-ends g c b w none =
    let l = c.loop-length in
    let from = g.R.Source.remaining l.reader in
    let k = l.invariant.walks b w none in
    let ends = subst (λ (o : Option Passed). IfNone o (EndsThere l.walk from)) c.in-Ok-None.field-0-is c.in-Ok-None.ensures.ends in
    subst (λ (bytes : List ℕ). IsVerdict bytes (Legal l.length)) k.1
    (legal_at_end k.0 l.walk.entry.lines l.walk.store l.walk.header from k.3 l.length k.2 (ends k.0 k.3))

pub returns-in-Err-clause-ends : goal.returns-in-Err-clause-ends
returns-in-Err-clause-ends g c b w none =
    let l = c.loop-length in
    let k = l.invariant.walks b w none in
    subst (λ (bytes : List ℕ). IsVerdict bytes c.verdict.result) k.1
    (subst (IsVerdict k.0.bytes) (sym c.verdict.ensures) (said_for k.0.front k.0.bytes c.in-Err.fault (c.in-Err.ensures.fails k.0 k.3)))

pub returns-in-Err-clause-cause : goal.returns-in-Err-clause-cause
returns-in-Err-clause-cause g c first led =
    subst (λ (v : Verdict). IsVerdictCause g.R.Source v first c.next.new.reader) (sym c.verdict.ensures)
    (cause_told g.R.Source c.in-Err.fault first c.next.new.reader
    (c.in-Err.ensures.reads first (c.loop-length.invariant.reads.0 first led)))

pub returns-clause-cause : goal.returns-clause-cause
returns-clause-cause g c = absurd (omega (arith, c.loop-length-test.false, c.loop-length.invariant.few))

pub returns-in-Err-clause-wanted : goal.returns-in-Err-clause-wanted
returns-in-Err-clause-wanted g c b w none =
    let k = c.loop-length.invariant.walks b w none in
    let sort = wanted_in c.next.new.self.in_items in
    subst (λ (bytes : List ℕ). WantsSort bytes sort c.verdict.result) k.1
    (subst (WantsSort k.0.bytes sort) (sym c.verdict.ensures)
    (wanted_for k.0.front k.0.bytes sort c.in-Err.fault (c.in-Err.ensures.fails k.0 k.3) (c.in-Err.ensures.wanted k.0 k.3)))
