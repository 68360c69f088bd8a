use Rattle.std.proofs.Common.{ℕ, ◌<◌, length, subst}
use Rattle.std.specs.Prelude.{◌↔◌}
use Rattle.rs_core.specs.Slots.{next_key}
use Rattle.rs_core.specs.State.{RsRecord, state_at, up_count}
use Rattle.rs_core.specs.Kept.{IsNotAt, HaveTwoSlots}
use Rattle.rs_core.proofs.KeptLemmas.{next_key_within, next_key_free, two_slots}
use Rattle.rs_core.proofs.rs.Rs.next_key.Goals as goal

pub returns-clause-within : goal.returns-clause-within
returns-clause-within c =
    let s = c.self.inside in
    rw c.next_key.ensures (subst (λ (r : RsRecord). (next_key s.slots < r.settings.slots) ↔ (up_count r.states < r.settings.slots))
    c.self.view_is
    (next_key_within s.settings s.states.items s.tick s.next s.slots c.self.invariant))

pub returns-clause-free : goal.returns-clause-free
returns-clause-free c =
    let s = c.self.inside in
    rw c.next_key.ensures (subst (λ (r : RsRecord). (i : ℕ) → i < length r.states →
    IsNotAt r.slots.first (next_key s.slots) (state_at r i)) c.self.view_is
    (next_key_free s.slots s.states.items c.self.invariant.fit))

pub returns-clause-own : goal.returns-clause-own
returns-clause-own c =
    let s = c.self.inside in
    subst (λ (r : RsRecord). (i j : ℕ) → i < j → j < length r.states → HaveTwoSlots (state_at r i) (state_at r j)) c.self.view_is
    (two_slots s.next s.slots s.states.items c.self.invariant.fit c.self.invariant.each)
