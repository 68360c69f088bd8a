use Rattle.std.proofs.Common.{◌∙◌, [], ℕ, List, Bool, Result, inl, inr, refl, sym, subst}
use Rattle.line_io.specs.Lines.{EndsLine, with_newline}
use Rattle.trace_record.specs.declared.fault.RecordFault.{RecordFault}
use Rattle.trace_record.specs.Asking.{IsRingLine}
use Rattle.trace_record.specs.Causes.{ReadsLead}
use Rattle.trace_record.specs.Reading.{ComesToNext, IsReady, SaysRing}
use Rattle.trace_record.proofs.RingLemmas.{ring_some}
use Rattle.trace_record.proofs.begin.begin.Goals as goal

pub ring_of-requires : goal.ring_of-requires
ring_of-requires g c = λ there. let ready = subst (IsReady c.next_command-next.new.lines) there c.next_command-next.ensures.ready in
    subst EndsLine (sym c.line.ensures) ready.0

pub returns-in_default-clause-begins : goal.returns-in_default-clause-begins
returns-in_default-clause-begins g c =
    let none = subst (SaysRing c.next_command-next.result c.line.result.now) c.in_default.is c.in_ok-ring.ensures in (
      [],
      inr (refl, refl),
      λ _ there is. none there (subst IsRingLine (sym c.line.ensures) is),
      λ bytes at.
          c.next_command-next.ensures.comes bytes [] at,
    )

pub returns-clause-begins : goal.returns-clause-begins
returns-clause-begins g c =
    let line = c.next_command-next.new.lines.line in
    let ring = subst (SaysRing c.next_command-next.result c.line.result.now) c.in-Some.is c.in_ok-ring.ensures in
    let opens = sym c.line.ensures ∙ ring.1 in (
      line,
      inl opens,
      λ none. absurd (ring_some c.in-Some.ring (sym opens ∙ none)),
      λ bytes at.
          let mid = g.R.Source.remaining c.next_command-next.new.reader in
          let a = subst (λ (r : Result Bool RecordFault). ComesToNext bytes [] c.next_command-next.new.lines mid r) ring.0
          (c.next_command-next.ensures.comes bytes [] at) in
          subst
          (λ (f : List ℕ).
          ComesToNext bytes f c.next_command-next-2.new.lines (g.R.Source.remaining c.next_command-next-2.new.reader)
          c.next_command-next-2.result)
          (sym a.1) (c.next_command-next-2.ensures.comes bytes (with_newline a.0) a.2.then),
    )

pub returns-in_default-clause-reads : goal.returns-in_default-clause-reads
returns-in_default-clause-reads g c = λ first led. c.next_command-next.ensures.reads first led

pub returns-clause-reads : goal.returns-clause-reads
returns-clause-reads g c =
    let ring = subst (SaysRing c.next_command-next.result c.line.result.now) c.in-Some.is c.in_ok-ring.ensures in
    λ first led.
    c.next_command-next-2.ensures.reads first
    (subst (λ (r : Result Bool RecordFault). ReadsLead g.R.Source r first c.next_command-next.new.reader
    c.next_command-next.new.lines.reads) ring.0 (c.next_command-next.ensures.reads first led))
