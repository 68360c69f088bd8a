use Rattle.std.proofs.Common.{◌≡◌, ◌<◌, ◌≤◌, ◌+◌, sym, subst, ap, arith, length, get_or}
use Rattle.ds_names.specs.Endpoint.{EndpointRecord}
use Rattle.rs_core.specs.declared.state.State.TheVariants.{Down, Up}
use Rattle.rs_core.specs.declared.state.Running.{Running}
use Rattle.rs_core.specs.State.{RsRecord, state_at}
use Rattle.rs_core.specs.Kept.{IsRunning}
use Rattle.rs_core.proofs.KeptLemmas.{kept_by_change, up_keeps}
use Rattle.rs_core.proofs.rs.Rs.replace.Goals as goal

pub invariant_of-self : goal.invariant_of-self
invariant_of-self c =
    let s = c.self.inside in
    let r = c.args.running in
    let e = c.endpoint_at-endpoint in
    let q : Running =
    record {
      endpoint = e.result;
      since = c.args.tick;
      beat = c.first_beat-beat.result;
      ping = c.args.tick;
      failures =
          c.forgetting-failures.result;
    } in
    let within : c.args.place < length s.states.items =
    subst (λ (z : RsRecord). c.args.place < length z.states) (sym c.self.view_is) c.requires.within in
    let next : s.next ≤ 2097151 = subst (λ (z : RsRecord). z.next ≤ 2097151) (sym c.self.view_is) c.requires.next in
    let up : get_or s.states.items c.args.place Down ≡ Up r =
    subst (λ (z : RsRecord). state_at z c.args.place ≡ Up r) (sym c.self.view_is) c.requires.up in
    let was : IsRunning s.slots.first s.next r =
    up_keeps s.settings s.states.items s.tick s.next s.slots c.args.place r c.self.invariant within up in
    let generation : e.result.generation ≡ s.next = ap (λ (x : EndpointRecord). x.generation) e.ensures in
    let slot : r.endpoint.slot ≡ e.result.slot = omega (arith, ap (λ (x : EndpointRecord). x.slot) e.ensures, c.slot.ensures, was.slot) in
    let here : IsRunning s.slots.first (s.next + 1) q = record {
      valid = record { generation = omega (arith, generation, next); slot = omega (arith, slot, was.valid.slot) };
      given = omega (arith, generation, c.self.invariant.some);
      below = omega (arith, generation);
      slot = omega (arith, slot, was.slot);
      failures = omega (arith, c.forgetting-failures.ensures.few, was.failures);
    } in
    kept_by_change s.settings s.states.items s.tick c.args.tick s.next (s.next + 1) s.slots c.args.place r q c.self.invariant within
    c.requires.tick (omega arith) (omega (arith, next)) up here slot
