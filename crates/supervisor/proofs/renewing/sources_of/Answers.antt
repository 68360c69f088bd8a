use Rattle.std.proofs.Common.{◌≡◌, ◌∙◌, ◌+◌, ◌++◌, ◌∷◌, [], ℕ, List, Option, Some, take, sym, subst, ap, arith}
use Rattle.std.specs.List.{slice_get}
use Rattle.std.specs.Option.{option_copied}
use Rattle.supervisor.specs.Renewal.{sources_of}
use Rattle.supervisor.proofs.RenewalLemmas.{sources_step}
use Rattle.supervisor.proofs.renewing.sources_of.Goals as goal

pub loop-i-preserved : goal.loop-i-preserved
loop-i-preserved c =
    let ns = c.args.services.now in
    let i = c.loop-i.i in
    let at : slice_get ns i ≡ Some c.in-Some.service.now =
    sym (subst (λ o. option_copied o ≡ slice_get ns i) c.in-Some.is c.get.ensures) in (
      c.push.ensures.items ∙ ap (λ (l : List (Option ℕ)). l ++ c.place_of.result ∷ []) c.loop-i.invariant.0
          ∙ ap (λ (z : Option ℕ). sources_of c.args.rs.now (take i ns) ++ z ∷ []) c.place_of.ensures.value
          ∙ sym (sources_step c.args.rs.now ns i c.in-Some.service.now at (omega arith)),
      c.push.ensures.len ∙ ap (λ (n : ℕ). n + 1) c.loop-i.invariant.1,
    )
