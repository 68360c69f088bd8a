use Rattle.std.proofs.Common.{◌≡◌, ◌<◌, ◌∙◌, List, Some, sym, subst, ap, arith, length}
use Rattle.std.specs.List.{slice_get}
use Rattle.std.specs.Option.{option_copied}
use Rattle.std.proofs.lemmas.Option.{get_or_from_slice_get}
use Rattle.rs_settings.specs.declared.service.Service.{Service}
use Rattle.rs_settings.specs.Settings.{IsService}
use Rattle.rs_core.specs.State.{RsRecord, service_at, no_service}
use Rattle.rs_core.proofs.rs.Rs.service_at.Goals as goal

pub returns-clause-value : goal.returns-clause-value
returns-clause-value c =
    let s = c.self.inside in
    let at : slice_get s.settings.services c.args.place ≡ Some c.in-Some.service.now =
    ap (λ (l : List Service). slice_get l c.args.place) (sym c.services.ensures.value) ∙
    (sym c.get.ensures ∙ ap option_copied c.in-Some.is) in
    subst (λ (z : RsRecord). c.in-Some.service.now ≡ service_at z c.args.place) c.self.view_is
    (sym (get_or_from_slice_get s.settings.services c.args.place c.in-Some.service.now no_service at))

pub returns-clause-service : goal.returns-clause-service
returns-clause-service c =
    let s = c.self.inside in
    let at : slice_get s.settings.services c.args.place ≡ Some c.in-Some.service.now =
    ap (λ (l : List Service). slice_get l c.args.place) (sym c.services.ensures.value) ∙
    (sym c.get.ensures ∙ ap option_copied c.in-Some.is) in
    let within : c.args.place < length s.states.items =
    subst (λ (z : RsRecord). c.args.place < length z.states) (sym c.self.view_is) c.requires in
    subst IsService (get_or_from_slice_get s.settings.services c.args.place c.in-Some.service.now no_service at)
    (c.self.invariant.checked.each c.args.place no_service (omega (arith, within, c.self.invariant.count)))
