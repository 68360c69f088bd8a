-- The state that a step leaves is the one that its reply determines.
use Rattle.std.proofs.Common.{◌≡◌, ℕ, suc, ◌+◌, List, [], ◌∷◌, length, take, fold, Option, Some, None, refl, ap, sym, ◌∙◌, subst, inl, inr}
use Rattle.std.proofs.Common.{◌⊎◌, arith, Contains}
use Rattle.std.specs.Option.{option_map_or}
use Rattle.ds_entry.specs.declared.item.Item.{Item}
use Rattle.ds_entry.proofs.Members.{Contains-head, Contains-tail}
use Rattle.ds_machine.specs.State.{State, takes_effect, owed}
use Rattle.ds_machine.specs.Standing.{cause_of}
use Rattle.ds_machine.specs.Merging.{Course, begun, item_merged, item_judged, course, merging}
use Rattle.ds_machine.specs.Machine.{outcome, IsOutcome, Step, MergeWantsRoom}
use Rattle.ds_machine.specs.Order.{first_refusal}
use Rattle.ds_machine.specs.Calling.{against_merge}
use Rattle.ds_machine.specs.Reached.{IsReached}
use Rattle.ds_machine.specs.Says.{IsReplyTo}
use Rattle.ds_machine.specs.declared.refusal.Cause.{Cause}
use Rattle.ds_machine.specs.declared.refusal.Cause.TheVariants as causes
use Rattle.ds_machine.specs.declared.refusal.Refusal.{Refusal}
use Rattle.ds_machine.specs.declared.refusal.Refusal.TheVariants as refusals
use Rattle.ds_machine.specs.declared.command.Command.{Command}
use Rattle.ds_machine.specs.declared.command.Command.TheVariants.{Publish, Delete, Sweep, Retrieve, NameOf, Subscribe, Check, Since}
use Rattle.ds_machine.specs.declared.command.Command.TheVariants.{Snapshot, Page, Merge}
use Rattle.ds_machine.specs.declared.reply.Reply.{Reply}
use Rattle.ds_machine.specs.declared.reply.Reply.TheVariants.{Merged, MergeStopped, Refused}
use Rattle.ds_machine.proofs.PartLemmas.{take_whole}
use Rattle.ds_machine.proofs.EffectLemmas.{begun_went}
use Rattle.ds_machine.proofs.FitLemmas.{replies_fit}
use Rattle.ds_machine.proofs.SaysLemmas.{refused_says}
use Rattle.ds_replica.specs.Known.{took_one, took_all, state_left_by}
use Rattle.ds_machine.proofs.CourseLemmas.{fold_stopped}

-- ---- a merge takes one item at a time
-- from one point of a merge to a later one: `count` items were done, and the refusal that stopped it applies to some
-- item
pub record Took (k : Course) (items : List Item) (end : Course) : Type 0 where
  pub count : ℕ
  pub done : end.done ≡ k.done + count
  pub state_is : end.state ≡ took_all k.state (take count items)
  pub stopped : (fault : Refusal) → end.stop ≡ Some fault →
      (next : Item) × Contains items next × (cause_of end.state next ≡ Some (causes.Refused fault))

-- after an item that was done the others follow
took_more : (i : Item) (items : List Item) (k x end : Course) → x.done ≡ k.done + 1 → x.state ≡ took_one k.state i → Took x items end →
    Took k (i ∷ items) end
took_more i items k x end d s w =
    record {
      count = suc w.count;
      done = omega (arith, d, w.done);
      state_is = w.state_is ∙ ap (λ (z : State). took_all z (take w.count items)) s;
      stopped = λ fault e. let n = w.stopped fault e in (n.0, Contains-tail i items n.0 n.1, n.2);
    }

took_stopped : (i : Item) (items : List Item) (k : Course) (fault : Refusal) → cause_of k.state i ≡ Some (causes.Refused fault) →
    Took k (i ∷ items) (record k { stop = Some fault })
took_stopped i items k fault q =
    record {
      count = 0;
      done = omega arith;
      state_is = refl;
      stopped = λ f e. let same : fault ≡ f = cc in (i, Contains-head i items, q ∙ ap (λ (z : Refusal). Some (causes.Refused z)) same);
    }

pub took : (items : List Item) (k : Course) → k.stop ≡ None → Took k items (fold item_merged k items)
took [] k e =
    record { count = 0; done = omega arith; state_is = refl; stopped = λ fault q. absurd (let n : None ≡ Some fault = sym e ∙ q in cc) }
took (i ∷ items) k e = subst (λ (x : Course). Took k (i ∷ items) (fold item_merged x items)) (sym same)
    (by_cause (λ x f. took items x f) (cause_of k.state i) refl)
  where
    same : item_merged k i ≡ item_judged k i (cause_of k.state i)
    same = ap (λ o. option_map_or {U = Course} (λ stop. k) o (item_judged k i (cause_of k.state i))) e

    one : (o : Option Cause) → cause_of k.state i ≡ o →
        option_map_or {U = State} (λ (x : Cause). k.state) o (takes_effect k.state (i ∷ [])) ≡ took_one k.state i
    one o q = ap (λ (p : Option Cause). option_map_or {U = State} (λ (x : Cause). k.state) p (takes_effect k.state (i ∷ []))) (sym q)

    by_cause : ((x : Course) → x.stop ≡ None → Took x items (fold item_merged x items)) → (o : Option Cause) → cause_of k.state i ≡ o →
        Took k (i ∷ items) (fold item_merged (item_judged k i o) items)
    by_cause more None q = let x : Course = item_judged k i None in
        took_more i items k x (fold item_merged x items) refl (one None q) (more x e)
    by_cause more (Some causes.Known) q =
        let x : Course = record k { done = k.done + 1 } in
        took_more i items k x (fold item_merged x items) refl (one (Some causes.Known) q) (more x e)
    by_cause more (Some (causes.Refused refusals.Stale)) q =
        let x : Course = record k { done = k.done + 1; stale = k.stale + 1 } in
        took_more i items k x (fold item_merged x items) refl (one (Some (causes.Refused refusals.Stale)) q) (more x e)
    by_cause more (Some (causes.Refused fault)) q =
        subst (Took k (i ∷ items)) (sym (fold_stopped items (record k { stop = Some fault }) fault refl)) (took_stopped i items k fault q)

-- ---- the state after a merge
-- as many were done as the count says
course_left : (s : State) (items : List Item) (n : ℕ) → (course s items).done ≡ n → (course s items).state ≡ took_all s (take n items)
course_left s items n e =
    let w = took items (begun s) refl in
    let same : w.count ≡ n = omega (arith, w.done, e) in
    w.state_is ∙ ap (λ k. took_all s (take k items)) same

course_all : (s : State) (items : List Item) → IsReached s → (course s items).stop ≡ None → (course s items).state ≡ took_all s items
course_all s items r e =
    let w = begun_went s items r in
    let all : (course s items).done ≡ length items = omega (arith, w.done, w.whole e) in
    course_left s items (length items) all ∙ ap (took_all s) (take_whole items)

module _ (s t : State) (items : List Item) (r : IsReached s) where
  merge_left : (reply : Reply) (o : Option Refusal) → reply ≡ (merging s items o).0 → t ≡ (merging s items o).1 →
      t ≡ state_left_by s (Merge items) reply
  merge_left reply (Some refusal) e f = f ∙ ap (state_left_by s (Merge items)) (sym e)
  merge_left reply None e f = by_stop (course s items).stop refl e
    where
      k : Course
      k = course s items

      by_stop : (o : Option Refusal) → k.stop ≡ o →
          reply ≡ option_map_or {U = Reply} (λ fault. MergeStopped k.done fault (owed s k.taken)) o
          (Merged k.done (length k.taken) k.stale (owed s k.taken)) →
          t ≡ state_left_by s (Merge items) reply
      by_stop (Some fault) q g = f ∙ course_left s items k.done refl ∙ ap (state_left_by s (Merge items)) (sym g)
      by_stop None q g = f ∙ course_all s items r q ∙ ap (state_left_by s (Merge items)) (sym g)

  room_left : (reply : Reply) → MergeWantsRoom s (Merge items) reply t → t ≡ state_left_by s (Merge items) reply
  room_left reply w = w.1.state_is ∙ course_all s (take w.0 items) r w.1.not_refused ∙ ap (state_left_by s (Merge items)) (sym w.1.reply_is)

-- ---- every step
-- the command isn't a Merge: it gets none of a Merge's replies, and doesn't stop for lack of memory
pub record IsPlain (command : Command) : Type 0 where
  pub merged : (done taken stale owed : ℕ) → IsReplyTo command (Merged done taken stale owed) → ⊥
  pub stopped : (done : ℕ) (fault : Refusal) (owed : ℕ) → IsReplyTo command (MergeStopped done fault owed) → ⊥
  pub room : (s t : State) (reply : Reply) → MergeWantsRoom s command reply t → ⊥

pub plain_or_merge : (command : Command) → IsPlain command ⊎ ((items : List Item) × (command ≡ Merge items))
plain_or_merge (Publish caller key version value overwrite) = inl
    (record { merged = λ d n m o h. h; stopped = λ d f o h. h; room = λ s t reply w. w })
plain_or_merge (Delete caller key version) = inl (record { merged = λ d n m o h. h; stopped = λ d f o h. h; room = λ s t reply w. w })
plain_or_merge (Sweep caller owner generation) = inl (record { merged = λ d n m o h. h; stopped = λ d f o h. h; room = λ s t reply w. w })
plain_or_merge (Retrieve key) = inl (record { merged = λ d n m o h. h; stopped = λ d f o h. h; room = λ s t reply w. w })
plain_or_merge (NameOf endpoint) = inl (record { merged = λ d n m o h. h; stopped = λ d f o h. h; room = λ s t reply w. w })
plain_or_merge (Subscribe sub query initial overwrite) = inl
    (record { merged = λ d n m o h. h; stopped = λ d f o h. h; room = λ s t reply w. w })
plain_or_merge (Check sub max) = inl (record { merged = λ d n m o h. h; stopped = λ d f o h. h; room = λ s t reply w. w })
plain_or_merge (Since scope at max) = inl (record { merged = λ d n m o h. h; stopped = λ d f o h. h; room = λ s t reply w. w })
plain_or_merge (Snapshot scope) = inl (record { merged = λ d n m o h. h; stopped = λ d f o h. h; room = λ s t reply w. w })
plain_or_merge (Page scope after max) = inl (record { merged = λ d n m o h. h; stopped = λ d f o h. h; room = λ s t reply w. w })
plain_or_merge (Merge items) = inr (items, refl)

module _ (s t : State) where
  by_reply : (command : Command) (reply : Reply) → IsPlain command → Step s command reply t → IsOutcome (outcome s command) reply t →
      t ≡ state_left_by s command reply
  by_reply command (Refused refusal) p step is = refused_says s t command refusal step
  by_reply command (Merged done taken stale owed) p step is =
      absurd (p.merged done taken stale owed (replies_fit s t command (Merged done taken stale owed) step))
  by_reply command (MergeStopped done fault owed) p step is =
      absurd (p.stopped done fault owed (replies_fit s t command (MergeStopped done fault owed) step))
  by_reply command _ p step is = is.state_is

  plain_left : (command : Command) (reply : Reply) → IsPlain command → Step s command reply t → t ≡ state_left_by s command reply
  plain_left command reply p (inl (inl is)) = by_reply command reply p (inl (inl is)) is
  plain_left command reply p (inl (inr w)) = w.state_is ∙ ap (state_left_by s command) (sym w.reply_is)
  plain_left command reply p (inr w) = absurd (p.room s t reply w)

  merge_step_left : (items : List Item) (reply : Reply) → IsReached s → Step s (Merge items) reply t →
      t ≡ state_left_by s (Merge items) reply
  merge_step_left items reply r (inl (inl is)) =
      merge_left s t items r reply (first_refusal (against_merge (length items))) is.reply_is is.state_is
  merge_step_left items reply r (inl (inr w)) = w.state_is ∙ ap (state_left_by s (Merge items)) (sym w.reply_is)
  merge_step_left items reply r (inr w) = room_left s t items r reply w

pub step_left : (s t : State) (command : Command) (reply : Reply) → IsReached s → Step s command reply t → t ≡ state_left_by s command reply
step_left s t command reply r step =
    elim (plain_or_merge command) [
      | inl p ↦ plain_left s t command reply p step
      | inr m ↦ subst (λ (c : Command). t ≡ state_left_by s c reply) (sym m.1)
          (merge_step_left s t m.0 reply r (subst (λ (c : Command). Step s c reply t) m.1 step))
    ]
