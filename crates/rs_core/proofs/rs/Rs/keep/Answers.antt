use Rattle.std.proofs.Common.{◌≡◌, ◌<◌, refl, sym, subst, arith, length, get_or}
use Rattle.rs_core.specs.declared.state.State.TheVariants.{Down, Up}
use Rattle.rs_core.specs.declared.state.Running.{Running}
use Rattle.rs_core.specs.State.{RsRecord, state_at}
use Rattle.rs_core.specs.Kept.{IsRunning}
use Rattle.rs_core.proofs.KeptLemmas.{kept_by_change, up_keeps}
use Rattle.rs_core.proofs.rs.Rs.keep.Goals as goal

pub invariant_of-self : goal.invariant_of-self
invariant_of-self c =
    let s = c.self.inside in
    let r = c.args.running in
    let q : Running = record { endpoint = r.endpoint; since = r.since; beat = c.args.beat; ping = c.args.ping; failures = r.failures } in
    let within : c.args.place < length s.states.items =
    subst (λ (z : RsRecord). c.args.place < length z.states) (sym c.self.view_is) c.requires.within in
    let up : get_or s.states.items c.args.place Down ≡ Up r =
    subst (λ (z : RsRecord). state_at z c.args.place ≡ Up r) (sym c.self.view_is) c.requires.up in
    let was : IsRunning s.slots.first s.next r =
    up_keeps s.settings s.states.items s.tick s.next s.slots c.args.place r c.self.invariant within up in
    let here : IsRunning s.slots.first s.next q =
    record { valid = was.valid; given = was.given; below = was.below; slot = was.slot; failures = was.failures } in
    kept_by_change s.settings s.states.items s.tick c.args.tick s.next s.next s.slots c.args.place r q c.self.invariant within
    c.requires.tick (omega arith) c.self.invariant.spent up here refl
