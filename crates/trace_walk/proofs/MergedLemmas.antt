-- The reply to the first items of a Merge that is stopped after them.
use Rattle.std.proofs.Common.{◌≡◌, ◌≢◌, ℕ, ◌<◌, ◌≤◌, false, List, length, take, Option, Some, None, is_some, inl, refl, sym, ap, subst, ◌∙◌}
use Rattle.std.specs.Option.{option_map_or}
use Rattle.ds_entry.specs.declared.item.Item.{Item}
use Rattle.ds_names.specs.Limits.{most_items}
use Rattle.ds_machine.specs.Machine.{Step, StopsForRoom, outcome}
use Rattle.ds_machine.specs.Merging.{Course, course, merging, merge_reply}
use Rattle.ds_machine.specs.State.{State, owed}
use Rattle.ds_machine.specs.declared.command.Command.TheVariants as commands
use Rattle.ds_machine.specs.declared.refusal.Refusal.{Refusal}
use Rattle.ds_machine.specs.declared.refusal.Refusal.TheVariants as refusals
use Rattle.ds_machine.specs.declared.reply.Reply.{Reply}
use Rattle.ds_machine.specs.declared.reply.Reply.TheVariants.{Merged, MergeStopped}
use Rattle.ds_machine.specs.OneStep.{room_wanted}
use Rattle.trace_walk.proofs.OneReplyLemmas.{none_of}
use Rattle.ds_machine.proofs.BatchLemmas.{none_stands}
use Rattle.ds_machine.proofs.OneStepLemmas.{steps_one, outcomes_take_none}

-- a step of few items for which memory lasted took its course
pub by_course : (s t : State) (items : List Item) (reply : Reply)
    → length items ≤ most_items → is_some (room_wanted reply) ≡ false → Step s (commands.Merge items) reply t
    → (reply ≡ merge_reply s (course s items)) × (t ≡ (course s items).state)
by_course s t items reply few room step =
    let one =
    steps_one s t (outcome s (commands.Merge items)).1 (commands.Merge items) reply (outcome s (commands.Merge items)).0 step
    (inl (inl (record { reply_is = refl; state_is = refl })))
    (none_of (room_wanted reply) room ∙ sym (outcomes_take_none s (commands.Merge items))) in
    let out : outcome s (commands.Merge items) ≡ (merge_reply s (course s items), (course s items).state) =
    ap (λ (o : Option Refusal). merging s items o) (none_stands (length items) few) in
    (one.0 ∙ ap (λ (o : Reply × State). o.0) out, one.1 ∙ ap (λ (o : Reply × State). o.1) out)

stop_none : (done taken stale mask : ℕ) (k : Course) (s : State) (o : Option Refusal)
    → Merged done taken stale mask
    ≡ option_map_or
    (λ fault. MergeStopped k.done fault (owed s k.taken))
    o
    (Merged k.done (length k.taken) k.stale (owed s k.taken))
    → (o ≡ None) × (mask ≡ owed s k.taken)
stop_none done taken stale mask k s None e = (refl, cc)
stop_none done taken stale mask k s (Some fault) e = absurd (cc)

pub merged_stop : (s t : State) (items : List Item) (first : List Item) (done count taken stale mask : ℕ)
    → length items ≤ most_items → done < length items → first ≡ take done items → length first ≤ most_items
    → is_some (room_wanted (Merged count taken stale mask)) ≡ false → Step s (commands.Merge first) (Merged count taken stale mask) t
    → StopsForRoom s items (MergeStopped done refusals.NoRoom mask) t done
merged_stop s t items first done count taken stale mask few less is few_first room step =
    let c = by_course s t first (Merged count taken stale mask) few_first room step in
    let n = stop_none count taken stale mask (course s first) s (course s first).stop c.0 in
    record {
      few = few;
      some_left = less;
      not_refused = subst (λ (l : List Item). (course s l).stop ≡ None) is n.0;
      reply_is = ap (λ (m : ℕ). MergeStopped done refusals.NoRoom m) (n.1 ∙ ap (λ (l : List Item). owed s (course s l).taken) is);
      state_is = c.1 ∙ ap (λ (l : List Item). (course s l).state) is;
    }

-- any other reply is a refusal
pub other_stop : (s t : State) (first : List Item) (reply : Reply)
    → length first ≤ most_items → is_some (room_wanted reply) ≡ false → Step s (commands.Merge first) reply t
    → ((count taken stale mask : ℕ) → reply ≢ Merged count taken stale mask)
    → (course s first).stop ≢ None
other_stop s t first reply few room step none e =
    let k = course s first in
    none k.done (length k.taken) k.stale (owed s k.taken)
    ((by_course s t first reply few room step).0
    ∙ ap
    (λ (o : Option Refusal).
    option_map_or (λ fault. MergeStopped k.done fault (owed s k.taken)) o
    (Merged k.done (length k.taken) k.stale (owed s k.taken)))
    e)
