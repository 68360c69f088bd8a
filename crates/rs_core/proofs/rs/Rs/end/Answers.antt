use Rattle.std.proofs.Common.{◌≡◌, ◌<◌, ◌-◌, ◌∙◌, sym, subst, ap, length, get_or}
use Rattle.std.specs.Prelude.{slice_set}
use Rattle.rs_core.specs.declared.state.State.TheVariants.{Down, Up}
use Rattle.rs_core.specs.Slots.{SlotsRecord, with_freed}
use Rattle.rs_core.specs.State.{RsRecord, state_at, is_up}
use Rattle.rs_core.specs.Kept.{IsRs}
use Rattle.rs_core.proofs.KeptLemmas.{kept_by_stop, stop_has_room}
use Rattle.rs_core.proofs.rs.Rs.end.Goals as goal

pub free-requires : goal.free-requires
free-requires c =
    let s = c.self.inside in
    let r = c.args.running in
    let within : c.args.place < length s.states.items =
    subst (λ (z : RsRecord). c.args.place < length z.states) (sym c.self.view_is) c.requires.within in
    let up : get_or s.states.items c.args.place Down ≡ Up r =
    subst (λ (z : RsRecord). state_at z c.args.place ≡ Up r) (sym c.self.view_is) c.requires.up in
    stop_has_room s.settings s.states.items s.tick s.next s.slots c.args.place c.self.invariant within (ap is_up up)

pub invariant_of-self : goal.invariant_of-self
invariant_of-self c =
    let s = c.self.inside in
    let r = c.args.running in
    let within : c.args.place < length s.states.items =
    subst (λ (z : RsRecord). c.args.place < length z.states) (sym c.self.view_is) c.requires.within in
    let up : get_or s.states.items c.args.place Down ≡ Up r =
    subst (λ (z : RsRecord). state_at z c.args.place ≡ Up r) (sym c.self.view_is) c.requires.up in
    subst (λ (z : SlotsRecord). IsRs s.settings (slice_set s.states.items c.args.place c.args.after) c.args.tick s.next z)
    (sym (c.free.ensures ∙ ap (λ k. with_freed s.slots (k - c.first.result)) c.slot.ensures.value ∙
    ap (λ k. with_freed s.slots (r.endpoint.slot - k)) c.first.ensures))
    (kept_by_stop s.settings s.states.items s.tick c.args.tick s.next s.slots c.args.place r c.args.after c.self.invariant within
    c.requires.tick up c.requires.rest)
