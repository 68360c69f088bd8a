-- Which replies each command can get.
use Rattle.std.proofs.Common.{ℕ, List, [], ◌∷◌, length, take, Option, Some, None, sym, subst, inl, inr}
use Rattle.std.specs.Option.{option_map, option_map_or}
use Rattle.ds_entry.specs.declared.body.Value.{Value}
use Rattle.ds_entry.specs.declared.item.Item.{Item}
use Rattle.ds_machine.specs.Subscription.{Subscription}
use Rattle.ds_machine.specs.State.{State, held, owed, unseen, subscription_at}
use Rattle.ds_machine.specs.Order.{first_refusal}
use Rattle.ds_machine.specs.Asking.{published, deleted, name_of, cause_against, sweep_cause}
use Rattle.ds_entry.specs.declared.body.Body.TheVariants.{Put, Gone}
use Rattle.ds_entry.specs.Floor.{floor_of}
use Rattle.ds_machine.specs.Calling.{against_check, against_merge, against_subscribe, against_scope, against_since, against_page}
use Rattle.ds_machine.specs.Merging.{course, merging}
use Rattle.ds_machine.specs.Watching.{shows, check_case, checking_at, subscribe_case}
use Rattle.ds_machine.specs.Machine.{MergeWantsRoom, outcome, answer_for, sweep_answer, found_or, live_at}
use Rattle.ds_machine.specs.Says.{IsReplyTo, RepliesFit, IsAskedReply, IsSweepReply, IsRetrieveReply, IsNameReply, IsCheckReply}
use Rattle.ds_machine.specs.Says.{IsMergeReply}
use Rattle.ds_machine.specs.declared.refusal.Cause.{Cause}
use Rattle.ds_machine.specs.declared.refusal.Cause.TheVariants as causes
use Rattle.ds_machine.specs.declared.refusal.Refusal.{Refusal}
use Rattle.ds_machine.specs.declared.refusal.Refusal.TheVariants as refusals
use Rattle.ds_machine.specs.declared.command.Command.{Command}
use Rattle.ds_machine.specs.declared.command.Command.TheVariants.{Publish, Delete, Sweep, Retrieve, NameOf, Subscribe, Check, Since}
use Rattle.ds_machine.specs.declared.command.Command.TheVariants.{Snapshot, Page, Merge}
use Rattle.ds_machine.specs.declared.reply.Reply.{Reply}
use Rattle.ds_machine.specs.declared.reply.Reply.TheVariants.{Found, Named, Merged, MergeStopped, Refused}

module _ (s : State) where
  -- a reply of its own, or the answer to what applies to it
  fits_or : (P : Reply → Type 0) {X : Type 0} (o : Option X) (f : X → Reply) (reply : Reply) (new : State) → ((x : X) → P (f x)) →
      P reply → P (option_map_or {U = Reply × State} (λ x. (f x, s)) o (reply, new)).0
  fits_or P (Some x) f reply new each own = each x
  fits_or P None f reply new each own = own

  asked_fits : (cause : Cause) → IsAskedReply (answer_for cause)
  asked_fits causes.Known = tt
  asked_fits (causes.Refused refusal) = tt

  sweep_fits : (cause : Cause) → IsSweepReply (sweep_answer cause)
  sweep_fits causes.Known = tt
  sweep_fits (causes.Refused refusals.Stale) = tt
  sweep_fits (causes.Refused refusal) = tt

  found_fits : (o : Option Value) → IsRetrieveReply (found_or (option_map Found o))
  found_fits (Some value) = tt
  found_fits None = tt

  named_fits : (o : Option (List ℕ)) → IsNameReply (found_or (option_map Named o))
  named_fits (Some name) = tt
  named_fits None = tt

  check_fits : (sub max : ℕ) (o : Option Subscription) → IsCheckReply (checking_at s sub max o).0
  check_fits sub max o = by_cause o (first_refusal (against_check (check_case s sub max o)))
    where
      by_items : (seer : Subscription) (items : List Item) → IsCheckReply (shows s sub seer items).0
      by_items seer [] = tt
      by_items seer (i ∷ items) = tt

      by_cause : (o : Option Subscription) (p : Option Refusal) →
          IsCheckReply (option_map_or {U = Reply × State} (λ r. (Refused r, s)) p
          (option_map_or {U = Reply × State} (λ f. shows s sub f (take max (unseen s f))) o (Refused refusals.NotFound, s))).0
      by_cause o (Some r) = tt
      by_cause None None = tt
      by_cause (Some seer) None = by_items seer (take max (unseen s seer))

  merge_fits : (items : List Item) (o : Option Refusal) → IsMergeReply (merging s items o).0
  merge_fits items (Some r) = tt
  merge_fits items None = by_stop (course s items).stop
    where
      by_stop : (o : Option Refusal) → IsMergeReply
          (option_map_or {U = Reply} (λ fault. MergeStopped (course s items).done fault (owed s (course s items).taken)) o
          (Merged (course s items).done (length (course s items).taken) (course s items).stale (owed s (course s items).taken)))
      by_stop (Some fault) = tt
      by_stop None = tt

  fits_outcome : (command : Command) → IsReplyTo command (outcome s command).0
  fits_outcome (Publish caller key version value overwrite) =
      fits_or IsAskedReply (cause_against s (published caller key version overwrite) (Put value)) answer_for _ _ asked_fits tt
  fits_outcome (Delete caller key version) =
      fits_or IsAskedReply (cause_against s (deleted caller key version) Gone) answer_for _ _ asked_fits tt
  fits_outcome (Sweep caller owner generation) =
      fits_or IsSweepReply (sweep_cause s caller (floor_of owner generation)) sweep_answer _ _ sweep_fits tt
  fits_outcome (Retrieve key) = found_fits (live_at s key)
  fits_outcome (NameOf endpoint) = named_fits (name_of (held s) endpoint)
  fits_outcome (Subscribe sub query initial overwrite) =
      fits_or (IsReplyTo (Subscribe sub query initial overwrite))
      (first_refusal (against_subscribe (subscribe_case s sub query overwrite))) Refused _ _ (λ r. tt) tt
  fits_outcome (Check sub max) = check_fits sub max (subscription_at s sub)
  fits_outcome (Since scope at max) = fits_or (IsReplyTo (Since scope at max)) (first_refusal (against_since s.feed scope at max)) Refused
      _ _ (λ r. tt) tt
  fits_outcome (Snapshot scope) = fits_or (IsReplyTo (Snapshot scope)) (first_refusal (against_scope scope)) Refused _ _ (λ r. tt) tt
  fits_outcome (Page scope after max) = fits_or (IsReplyTo (Page scope after max)) (first_refusal (against_page scope max)) Refused _ _
      (λ r. tt) tt
  fits_outcome (Merge items) = merge_fits items (first_refusal (against_merge (length items)))

fits_refused : (command : Command) (refusal : Refusal) → IsReplyTo command (Refused refusal)
fits_refused (Publish caller key version value overwrite) refusal = tt
fits_refused (Delete caller key version) refusal = tt
fits_refused (Sweep caller owner generation) refusal = tt
fits_refused (Retrieve key) refusal = tt
fits_refused (NameOf endpoint) refusal = tt
fits_refused (Subscribe sub query initial overwrite) refusal = tt
fits_refused (Check sub max) refusal = tt
fits_refused (Since scope at max) refusal = tt
fits_refused (Snapshot scope) refusal = tt
fits_refused (Page scope after max) refusal = tt
fits_refused (Merge items) refusal = tt

fits_wanting : (s t : State) (command : Command) (reply : Reply) → MergeWantsRoom s command reply t → IsReplyTo command reply
fits_wanting s t (Merge items) reply w = subst (IsReplyTo (Merge items)) (sym w.1.reply_is) tt
fits_wanting s t (Publish caller key version value overwrite) reply w = absurd w
fits_wanting s t (Delete caller key version) reply w = absurd w
fits_wanting s t (Sweep caller owner generation) reply w = absurd w
fits_wanting s t (Retrieve key) reply w = absurd w
fits_wanting s t (NameOf endpoint) reply w = absurd w
fits_wanting s t (Subscribe sub query initial overwrite) reply w = absurd w
fits_wanting s t (Check sub max) reply w = absurd w
fits_wanting s t (Since scope at max) reply w = absurd w
fits_wanting s t (Snapshot scope) reply w = absurd w
fits_wanting s t (Page scope after max) reply w = absurd w

pub replies_fit : RepliesFit
replies_fit s t command reply (inl (inl is)) = subst (IsReplyTo command) (sym is.reply_is) (fits_outcome s command)
replies_fit s t command reply (inl (inr w)) = subst (IsReplyTo command) (sym w.reply_is) (fits_refused command refusals.NoRoom)
replies_fit s t command reply (inr w) = fits_wanting s t command reply w
