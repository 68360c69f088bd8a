use Rattle.std.proofs.Common.{◌≡◌, ◌∙◌, ◌++◌, ◌∷◌, [], List, Some, map, take, sym, subst, ap, arith}
use Rattle.std.specs.List.{slice_get}
use Rattle.std.specs.Option.{option_copied}
use Rattle.rs_settings.specs.declared.service.Service.{Service}
use Rattle.rs_core.specs.declared.state.State.{State}
use Rattle.rs_core.specs.Renewal.{state_of_label}
use Rattle.rs_core.proofs.RenewalLemmas.{states-step}
use Rattle.rs_core.proofs.rs.Rs.states_for.Goals as goal

pub loop-i-preserved : goal.loop-i-preserved
loop-i-preserved c =
    let ns = c.args.new.now in
    let i = c.loop-i.i in
    let at : slice_get ns i ≡ Some c.in-Some.service.now = sym (subst (λ o. option_copied o ≡ slice_get ns i) c.in-Some.is c.get.ensures) in
    c.in_ok-push.ensures.items ∙ ap (λ (l : List State). l ++ c.state_or_down.result ∷ []) c.loop-i.invariant
    ∙ ap (λ (z : State). map (λ (n : Service). state_of_label c.args.self.now n.label) (take i ns) ++ z ∷ []) c.state_or_down.ensures
    ∙ sym (states-step c.args.self.now ns i c.in-Some.service.now at (omega arith))
