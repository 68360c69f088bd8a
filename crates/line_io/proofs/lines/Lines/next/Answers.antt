use Rattle.std.proofs.Common.{◌+◌, length, subst}
use Rattle.line_io.specs.Reading.{LinesContent, lines_of, GoesToNext}
use Rattle.line_io.proofs.LinesLemmas.{goes_on, sliced, few_more}
use Rattle.line_io.proofs.lines.Lines.next.Goals as goal

pub returns-clause-found : goal.returns-clause-found
returns-clause-found c = λ _.
    let l = c.self.inside in
    let bytes = l.bytes.items in
    let line = c.in-Some.line.now in
    let more = c.in-Some.field-0-1.now in
    let there = sliced c.deref.result.now bytes line more l.end c.deref.ensures.value c.in-Some.ensures.1 in
    subst (λ (old : LinesContent). GoesToNext old (lines_of bytes l.end (l.end + length line) (l.count + 1) l.reads)) c.self.view_is
    (goes_on bytes line more _ _ l.start l.end l.count l.reads c.self.invariant l.bytes.ok.0 there c.in-Some.ensures.0)

pub returns-clause-few : goal.returns-clause-few
returns-clause-few c =
    let l = c.self.inside in
    let bytes = l.bytes.items in
    let line = c.in-Some.line.now in
    let more = c.in-Some.field-0-1.now in
    let there = sliced c.deref.result.now bytes line more l.end c.deref.ensures.value c.in-Some.ensures.1 in
    few_more bytes line more _ _ l.start l.end l.count l.reads c.self.invariant l.bytes.ok.0 there c.in-Some.ensures.0
