use Rattle.std.proofs.Common.{◌≡◌, ◌∙◌, map, None, List, sym, subst, ap}
use Rattle.rs_settings.specs.declared.service.Service.{Service}
use Rattle.rs_core.specs.declared.state.State.{State}
use Rattle.rs_core.specs.State.{RsRecord, rs_of}
use Rattle.rs_core.specs.Kept.{IsRs}
use Rattle.rs_core.specs.Renewal.{state_of_label, renewal_fault}
use Rattle.rs_core.proofs.RenewalLemmas.{kept_by_renewal}
use Rattle.rs_core.proofs.rs.Rs.renew.Goals as goal

pub invariant_of-self : goal.invariant_of-self
invariant_of-self c =
    let s = c.self.inside in
    let new = c.args.settings in
    let free : renewal_fault c.args.self.now new ≡ None = sym c.renewal_fault.ensures.value ∙ c.in_default.is in
    let states : c.in-Ok.states.items ≡ map (λ (n : Service). state_of_label c.args.self.now n.label) new.services =
    c.in-Ok.ensures.states ∙ ap (λ (l : List Service). map (λ (n : Service). state_of_label c.args.self.now n.label) l)
    c.services.ensures.value in
    let same : c.in-Ok.states.items ≡ map (λ (n : Service). state_of_label (rs_of s.settings s.states.items s.tick s.next s.slots) n.label)
    new.services =
    states ∙ ap (λ (z : RsRecord). map (λ (n : Service). state_of_label z n.label) new.services) (sym c.self.view_is) in
    subst (λ (l : List State). IsRs new l s.tick s.next s.slots) (sym same)
    (kept_by_renewal s.settings new s.states.items s.tick s.next s.slots c.self.invariant c.services.ensures.settings
    (subst (λ (z : RsRecord). renewal_fault z new ≡ None) (sym c.self.view_is) free))
