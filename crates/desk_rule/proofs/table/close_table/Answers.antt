use Rattle.std.proofs.Common.{◌≡◌, ◌+◌, ◌<◌, Bool, false, List, length, get_or, set, get_or-set_same, ap, sym, ◌∙◌, subst, arith}
use Rattle.std.specs.Prelude.{slice_index}
use Rattle.std.specs.Int.{bit_at}
use Rattle.std.specs.Mem.Slots.{IsFull, slots_counts, slots_filled, slots_items, slots_len}
use Rattle.desk_rule.specs.Notices.{taken_by}
use Rattle.desk_rule.proofs.TableLemmas.{closed_machine, final_machine, final_notices, some_is}
use Rattle.desk_rule.proofs.table.close_table.Goals as goal

pub close_with-closed-requires : goal.close_with-closed-requires
close_with-closed-requires g c = c.requires.at.0

pub take-slot-requires : goal.take-slot-requires
take-slot-requires g c =
    let some : 0 < slots_len c.close_with-closed.result.slots = omega (arith, c.close_with-closed.ensures.counts.1 ∙ c.requires.at.2) in
    (some, c.close_with-closed.ensures.values.1 0 (omega arith) some)

pub pending_words-pending-requires : goal.pending_words-pending-requires
pending_words-pending-requires g c =
    subst (λ w. IsFull w × (slots_len w ≡ 17)) (sym c.take-slot.ensures.others.3)
    (c.close_with-closed.ensures.values.0, c.close_with-closed.ensures.counts.0 ∙ c.requires.at.1)

pub machine_of-requires : goal.machine_of-requires
machine_of-requires g c = let e = final_machine _ _ _ _ _ _ _ _ _ _ _ c.close_with-closed.ensures.values.2 c.requires.resting
    c.requires.all c.take-slot.ensures.value
    (λ t small. c.pending_words-pending.ensures t small ∙ ap (λ w. slice_index (slots_items w) (t + 1)) c.take-slot.ensures.others.3) in
    some_is _ _ e.1

pub returns-clause-closed : goal.returns-clause-closed
returns-clause-closed g c =
    closed_machine _ _ _ _ _ _ _ _ (final_machine _ _ _ _ _ _ _ _ _ _ _ c.close_with-closed.ensures.values.2 c.requires.resting
    c.requires.all c.take-slot.ensures.value
    (λ t small. c.pending_words-pending.ensures t small ∙ ap (λ w. slice_index (slots_items w) (t + 1)) c.take-slot.ensures.others.3))
    c.machine_of.ensures

pub returns-clause-bits : goal.returns-clause-bits
returns-clause-bits g c = record {
  balanced = λ server bit small. (final_notices _ _ _ _ _ _ _ _ _ c.close_with-closed.ensures.values.2 c.requires.all server bit small).0
      ∙ ap (λ n. taken_by c.args.seat.me.0.passes server bit + bit_at n bit)
      (sym (c.pending_words-pending.ensures server small ∙
      ap (λ w. slice_index (slots_items w) (server + 1)) c.take-slot.ensures.others.3));
  few = λ server bit small. (final_notices _ _ _ _ _ _ _ _ _ c.close_with-closed.ensures.values.2 c.requires.all server bit small).1;
}

-- the one slot is empty
pub free-requires : goal.free-requires
free-requires g c k below =
    let was = c.close_with-closed.result in
    let now = c.take-slot.new.self in
    let t = c.take-slot.ensures.others in
    let one : slots_len was.slots ≡ 1 = c.close_with-closed.ensures.counts.1 ∙ c.requires.at.2 in
    let few : slots_len now.slots ≡ 1 = t.2 ∙ one in
    let none : k ≡ 0 = omega (arith, below, few) in
    let within : 0 < length (slots_filled was.slots) = omega (arith, one, (slots_counts was.slots).1) in
    ap (λ (l : List Bool). get_or l k false) t.1 ∙
    (ap (λ j. get_or (set (slots_filled was.slots) 0 false) j false) none ∙ get_or-set_same (slots_filled was.slots) 0 false false within)
