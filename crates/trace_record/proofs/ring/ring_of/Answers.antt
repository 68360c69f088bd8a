use Rattle.std.proofs.Common.{◌≡◌, ◌∙◌, Bool, true, Result, Ok, ap, subst, sym}
use Rattle.std.proofs.lemmas.Result.{IfOk-weaker}
use Rattle.trace_record.specs.declared.fault.RecordFault.{RecordFault}
use Rattle.trace_record.specs.Reading.{SaysRing}
use Rattle.trace_record.proofs.RingLemmas.{says_ring}
use Rattle.trace_record.proofs.ring.ring_of.Goals as goal

pub returns : goal.returns
returns c =
    let line = c.args.line.now in
    let there : c.args.next ≡ Ok true = c.in-Ok-true.is ∙ ap (λ (b : Bool). Ok b) c.in-Ok-true.field-0-test in
    IfOk-weaker c.ring_asked.result _ _
    (λ told is. subst (λ (next : Result Bool RecordFault). SaysRing next line told) (sym there)
    (says_ring line c.read_line.result told (c.requires there) c.read_line.ensures is))
    c.ring_asked.ensures
