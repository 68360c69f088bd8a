use Rattle.std.proofs.Common.{◌≡◌, ◌++◌, ◌∷◌, ◌∙◌, [], List, ℕ, sym, ap, append_assoc, append-nil}
use Rattle.trace_walk.specs.Text.{marked}
use Rattle.trace_walk.proofs.MarkLemmas.{marked_more, none_more, open_more}
use Rattle.trace_walk.proofs.writing.append_marked.Goals as goal

pub loop-line-preserved : goal.loop-line-preserved
loop-line-preserved c =
    let line = c.in-Some.line.now in
    let more = c.in-Some.more.now in
    let old = c.loop-line.text.items in
    let split : c.loop-line.rest.now ≡ line ++ more = c.in-Some.ensures.1 in
    ap (λ (l : List ℕ). l ++ marked more) c.in_ok-append_all.ensures.written
    ∙ append_assoc old (60 ∷ 32 ∷ (line ++ [])) (marked more)
    ∙ ap (λ (l : List ℕ). old ++ 60 ∷ 32 ∷ (l ++ marked more)) (append-nil line)
    ∙ ap (λ (l : List ℕ). old ++ l) (sym (marked_more line more c.in-Some.ensures.0) ∙ ap (λ (l : List ℕ). marked l) (sym split))
    ∙ c.loop-line.invariant

pub returns-then-is_empty : goal.returns-then-is_empty
returns-then-is_empty c = none_more c.loop-line.text.items c.loop-line.rest.now _ (sym c.if-is_empty.ensures) c.loop-line.invariant

pub returns : goal.returns
returns c = open_more c.loop-line.text.items _ c.loop-line.rest.now _ c.in_default.ensures (sym c.if-is_empty.ensures)
    c.in_ok-append_all-2.ensures.written c.loop-line.invariant
