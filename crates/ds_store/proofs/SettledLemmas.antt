-- A reply settles the state after it.
use Rattle.std.proofs.Common.{◌≡◌, ◌≢◌, ℕ, List, [], ◌∷◌, length, take, Option, Some, None, sym, ap, ◌∙◌, subst, inl, inr}
use Rattle.std.specs.Option.{option_map_or}
use Rattle.history.specs.History.{Run}
use Rattle.ds_entry.specs.declared.item.Item.{Item}
use Rattle.ds_machine.specs.State.{State, owed}
use Rattle.ds_machine.specs.Order.{first_refusal}
use Rattle.ds_machine.specs.Calling.{against_merge}
use Rattle.ds_machine.specs.Merging.{Course, course, merging}
use Rattle.ds_machine.specs.Machine.{Step, IsOutcome, MergeWantsRoom, StopsForRoom, outcome}
use Rattle.ds_machine.specs.declared.refusal.Refusal.{Refusal}
use Rattle.ds_machine.specs.declared.refusal.Refusal.TheVariants.{NoRoom}
use Rattle.ds_machine.specs.declared.command.Command.{Command}
use Rattle.ds_machine.specs.declared.command.Command.TheVariants.{Publish, Delete, Sweep, Retrieve, NameOf, Subscribe, Check}
use Rattle.ds_machine.specs.declared.command.Command.TheVariants.{Since, Snapshot, Page, Merge}
use Rattle.ds_machine.specs.declared.reply.Reply.{Reply}
use Rattle.ds_machine.specs.declared.reply.Reply.TheVariants.{Merged, MergeStopped, Refused}
use Rattle.ds_machine.proofs.SaysLemmas.{refused_says}
use Rattle.ds_store.proofs.RoomLemmas.{no_course}
use Rattle.ds_store.specs.Turns.{Answered, RepliesSettle, HistoriesSettle}

-- the machine's own answer to a merge is never that it stopped for lack of memory
never_stopped : (s : State) (items : List Item) (done owes : ℕ) → (outcome s (Merge items)).0 ≢ MergeStopped done NoRoom owes
never_stopped s items done owes = by_refusal (first_refusal (against_merge (length items)))
  where
    by_stop : (k : Course) (o : Option Refusal) → o ≢ Some NoRoom → (other : ℕ)
        → option_map_or {U = Reply} (λ (fault : Refusal). MergeStopped k.done fault other) o (Merged k.done (length k.taken) k.stale other)
        ≢ MergeStopped done NoRoom owes
    by_stop k None n other e = absurd (cc)
    by_stop k (Some fault) n other e = n (cc)

    by_refusal : (o : Option Refusal) → (merging s items o).0 ≢ MergeStopped done NoRoom owes
    by_refusal (Some r) e = absurd (cc)
    by_refusal None e = by_stop (course s items) (course s items).stop (no_course s items) (owed s (course s items).taken) e

-- two merges that stopped for it after the same number of items, which the reply has, led to one state
stopped_settles : (s t u : State) (items : List Item) (reply : Reply) (done more : ℕ)
    → StopsForRoom s items reply t done → StopsForRoom s items reply u more → t ≡ u
stopped_settles s t u items reply done more a b = a.state_is ∙ ap (λ (n : ℕ). (course s (take n items)).state) same ∙ sym b.state_is
  where
    said : MergeStopped done NoRoom (owed s (course s (take done items)).taken)
        ≡ MergeStopped more NoRoom (owed s (course s (take more items)).taken)
    said = sym a.reply_is ∙ b.reply_is

    same : done ≡ more
    same = cc

-- the machine's own answer, and that of such a merge, aren't one reply
outcome_settles : (s t u : State) (command : Command) (reply : Reply)
    → IsOutcome (outcome s command) reply t → MergeWantsRoom s command reply u → t ≡ u
outcome_settles s t u (Merge items) reply a b = absurd (never_stopped s items b.0 _ (sym a.reply_is ∙ b.1.reply_is))
outcome_settles s t u (Publish caller key version value overwrite) reply a b = absurd b
outcome_settles s t u (Delete caller key version) reply a b = absurd b
outcome_settles s t u (Sweep caller owner generation) reply a b = absurd b
outcome_settles s t u (Retrieve key) reply a b = absurd b
outcome_settles s t u (NameOf endpoint) reply a b = absurd b
outcome_settles s t u (Subscribe sub query initial overwrite) reply a b = absurd b
outcome_settles s t u (Check sub max) reply a b = absurd b
outcome_settles s t u (Since scope at max) reply a b = absurd b
outcome_settles s t u (Snapshot scope) reply a b = absurd b
outcome_settles s t u (Page scope after max) reply a b = absurd b

-- two merges that stopped so, for any command
wants_settle : (s t u : State) (command : Command) (reply : Reply)
    → MergeWantsRoom s command reply t → MergeWantsRoom s command reply u → t ≡ u
wants_settle s t u (Merge items) reply a b = stopped_settles s t u items reply a.0 b.0 a.1 b.1
wants_settle s t u (Publish caller key version value overwrite) reply a b = absurd b
wants_settle s t u (Delete caller key version) reply a b = absurd b
wants_settle s t u (Sweep caller owner generation) reply a b = absurd b
wants_settle s t u (Retrieve key) reply a b = absurd b
wants_settle s t u (NameOf endpoint) reply a b = absurd b
wants_settle s t u (Subscribe sub query initial overwrite) reply a b = absurd b
wants_settle s t u (Check sub max) reply a b = absurd b
wants_settle s t u (Since scope at max) reply a b = absurd b
wants_settle s t u (Snapshot scope) reply a b = absurd b
wants_settle s t u (Page scope after max) reply a b = absurd b

-- a command refused for lack of memory left the state unchanged, by any step
refused_settles : (s t u : State) (command : Command) (reply : Reply) → reply ≡ Refused NoRoom → t ≡ s → Step s command reply u → t ≡ u
refused_settles s t u command reply refused stays other =
    stays ∙ sym (refused_says s u command NoRoom (subst (λ (r : Reply). Step s command r u) refused other))

pub replies_settle : RepliesSettle
replies_settle s t u command reply (inl (inl a)) (inl (inl b)) = a.state_is ∙ sym b.state_is
replies_settle s t u command reply (inl (inr a)) other = refused_settles s t u command reply a.reply_is a.state_is other
replies_settle s t u command reply (inl (inl a)) (inl (inr b)) =
    sym (refused_settles s u t command reply b.reply_is b.state_is (inl (inl a)))
replies_settle s t u command reply (inl (inl a)) (inr b) = outcome_settles s t u command reply a b
replies_settle s t u command reply (inr a) (inl (inl b)) = sym (outcome_settles s u t command reply b a)
replies_settle s t u command reply (inr a) (inl (inr b)) = sym (refused_settles s u t command reply b.reply_is b.state_is (inr a))
replies_settle s t u command reply (inr a) (inr b) = wants_settle s t u command reply a b

pub histories_settle : HistoriesSettle
histories_settle [] s t u a b = sym a ∙ b
histories_settle (e ∷ es) s t u a b =
    let same = replies_settle s a.0 b.0 e.command e.reply a.1.step b.1.step in
    histories_settle es b.0 t u (subst (λ (x : State). Run Answered x es t) same a.2) b.2
