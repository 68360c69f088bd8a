use Rattle.std.proofs.Common.{◌+◌, ◌∙◌, sym, subst}
use Rattle.line_io.specs.Lines.{IsUnbroken}
use Rattle.line_io.specs.Reading.{LinesContent, lines_of, GoesToLast}
use Rattle.line_io.proofs.LinesLemmas.{goes_last}
use Rattle.line_io.proofs.lines.Lines.last.Goals as goal

pub returns-clause-found : goal.returns-clause-found
returns-clause-found c = λ _.
    let l = c.self.inside in
    let end = c.len-self-inside.result in
    let more = c.push.new.self.items in
    let whole = subst (λ (it : LinesContent). IsUnbroken it.rest) (sym c.self.view_is) c.requires in
    subst (λ (old : LinesContent). GoesToLast old (lines_of more l.end end (l.count + 1) l.reads)) c.self.view_is
    (goes_last l.bytes.items more _ _ l.start l.end end l.count l.reads c.self.invariant l.bytes.ok.0
    (λ e. c.if-self-len.false (e ∙ sym c.len.ensures)) (c.in_ok-push.ensures).items (c.len-self-inside.ensures ∙ c.push.new.self.ok.0)
    whole)
