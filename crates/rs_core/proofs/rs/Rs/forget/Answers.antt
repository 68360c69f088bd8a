use Rattle.std.proofs.Common.{◌≡◌, ◌<◌, false, sym, subst, ap, length, get_or}
use Rattle.rs_core.specs.declared.state.State.TheVariants.{Down, Waiting}
use Rattle.rs_core.specs.State.{RsRecord, state_at, is_up}
use Rattle.rs_core.proofs.KeptLemmas.{kept_at_rest}
use Rattle.rs_core.proofs.rs.Rs.forget.Goals as goal

pub invariant_of-self : goal.invariant_of-self
invariant_of-self c =
    let s = c.self.inside in
    let within : c.args.place < length s.states.items =
    subst (λ (z : RsRecord). c.args.place < length z.states) (sym c.self.view_is) c.requires.within in
    let was : is_up (get_or s.states.items c.args.place Down) ≡ false =
    ap is_up (subst (λ (z : RsRecord). state_at z c.args.place ≡ Waiting c.args.pause) (sym c.self.view_is) c.requires.waiting) in
    kept_at_rest s.settings s.states.items s.tick c.args.tick s.next s.slots c.args.place Down c.self.invariant within c.requires.tick was
    tt
