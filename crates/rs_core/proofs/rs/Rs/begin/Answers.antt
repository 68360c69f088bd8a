use Rattle.std.proofs.Common.{◌≡◌, ◌<◌, ◌≤◌, ◌+◌, ◌∙◌, false, sym, subst, ap, arith, length, get_or}
use Rattle.std.specs.Prelude.{slice_set}
use Rattle.ds_names.specs.Endpoint.{EndpointRecord, endpoint_of}
use Rattle.rs_core.specs.declared.state.State.TheVariants.{Down, Up}
use Rattle.rs_core.specs.declared.state.Running.{Running}
use Rattle.rs_core.specs.Slots.{SlotsRecord, next_key}
use Rattle.rs_core.specs.State.{RsRecord, state_at, is_up, up_count}
use Rattle.rs_core.specs.Kept.{IsRunning, IsRs}
use Rattle.rs_core.proofs.KeptLemmas.{kept_by_start, next_key_within}
use Rattle.rs_core.proofs.rs.Rs.begin.Goals as goal

pub invariant_of-self : goal.invariant_of-self
invariant_of-self c =
    let s = c.self.inside in
    let r : Running =
    record {
      endpoint = c.endpoint_at-endpoint.result;
      since = c.args.tick;
      beat = c.first_beat-beat.result;
      ping = c.args.tick;
      failures =
          c.args.failures;
    } in
    let within : c.args.place < length s.states.items =
    subst (λ (z : RsRecord). c.args.place < length z.states) (sym c.self.view_is) c.requires.within in
    let next : s.next ≤ 2097151 = subst (λ (z : RsRecord). z.next ≤ 2097151) (sym c.self.view_is) c.requires.next in
    let free : up_count s.states.items < s.settings.slots =
    subst (λ (z : RsRecord). up_count z.states < z.settings.slots) (sym c.self.view_is) c.requires.slot in
    let rest : is_up (get_or s.states.items c.args.place Down) ≡ false =
    subst (λ (z : RsRecord). is_up (state_at z c.args.place) ≡ false) (sym c.self.view_is) c.requires.rest in
    let where_is : c.next_slot.result ≡ s.slots.first + next_key s.slots =
    c.next_slot.ensures.value ∙ ap (λ (z : RsRecord). z.slots.first + next_key z.slots) (sym c.self.view_is) in
    let same : c.endpoint_at-endpoint.result ≡ endpoint_of s.next (s.slots.first + next_key s.slots) =
    c.endpoint_at-endpoint.ensures ∙ ap (λ k. endpoint_of s.next k) where_is in
    let generation : c.endpoint_at-endpoint.result.generation ≡ s.next = ap (λ (e : EndpointRecord). e.generation) same in
    let slot : c.endpoint_at-endpoint.result.slot ≡ s.slots.first + next_key s.slots = ap (λ (e : EndpointRecord). e.slot) same in
    let small : next_key s.slots < s.settings.slots =
    (next_key_within s.settings s.states.items s.tick s.next s.slots c.self.invariant).1 free in
    let here : IsRunning s.slots.first (s.next + 1) r = record {
      valid = record { generation = omega (arith, generation, next); slot = omega (arith, slot, small, c.self.invariant.high) };
      given = omega (arith, generation, c.self.invariant.some);
      below = omega (arith, generation);
      slot = omega (arith, slot);
      failures = c.requires.failures;
    } in
    subst (λ (z : SlotsRecord). IsRs s.settings (slice_set s.states.items c.args.place (Up r)) c.args.tick (s.next + 1) z)
    (sym c.take_next.ensures)
    (kept_by_start s.settings s.states.items s.tick c.args.tick s.next s.slots c.args.place r c.self.invariant within c.requires.tick next
    free rest here slot)
