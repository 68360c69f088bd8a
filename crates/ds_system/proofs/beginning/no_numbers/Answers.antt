use Rattle.std.proofs.Common.{◌≡◌, ℕ, ◌≤◌, List, [], ◌∷◌, ◌++◌, replicate, sym, ap, ◌∙◌, arith}
use Rattle.rs_core.specs.Numbering.{NumbererRecord, numberer}
use Rattle.ds_system.proofs.BeginLemmas.{replicate_more}
use Rattle.ds_system.proofs.beginning.no_numbers.Goals as goal

pub loop-index-init : goal.loop-index-init
loop-index-init c = c.new-numberers.ensures.items

pub loop-index-preserved : goal.loop-index-preserved
loop-index-preserved c =
    let n = c.loop-index.index in
    let zeroed : c.of-in-loop-index.result ≡ numberer 0 0 = c.of-in-loop-index.ensures ∙ ap (λ (g : ℕ). numberer g 0) c.in-Some.ensures.1 in
    c.in_ok-push.ensures.items ∙ (ap (λ (l : List NumbererRecord). l ++ c.of-in-loop-index.result ∷ []) c.loop-index.invariant
    ∙ (ap (λ (x : NumbererRecord). replicate n (numberer 0 0) ++ x ∷ []) zeroed ∙ sym (replicate_more n (numberer 0 0))))

pub returns : goal.returns
returns c =
    let end : c.args.count ≤ c.loop-index.index = c.loop-index-test.false in
    let far : c.loop-index.index ≤ c.args.count = c.loop-index.auto.index-end in
    let same : c.loop-index.index ≡ c.args.count = omega (arith, end, far) in
    c.loop-index.invariant ∙ ap (λ (n : ℕ). replicate n (numberer 0 0)) same
