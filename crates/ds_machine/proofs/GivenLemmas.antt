-- What a reply shows was accepted.
use Rattle.std.proofs.Common.{◌≡◌, ℕ, zero, suc, ◌≤◌, ◌-◌, Bool, cond, List, [], ◌∷◌, length, take, filter, Option, Some, None, ap, sym}
use Rattle.std.proofs.Common.{subst, inl, inr, arith, Contains}
use Rattle.std.specs.Option.{option_map, option_map_or}
use Rattle.std.proofs.lemmas.List.Elements.{Contains-append_cases}
use Rattle.ds_names.specs.declared.key.Key.{Key}
use Rattle.ds_entry.specs.declared.body.Value.{Value}
use Rattle.ds_entry.specs.declared.body.Body.TheVariants.{Put, Gone}
use Rattle.ds_entry.specs.declared.item.Item.{Item}
use Rattle.ds_entry.specs.Floor.{floor_of}
use Rattle.ds_entry.proofs.Members.{Contains-nil, Contains-head, Contains-tail, Contains-cons, Contains-from_filter, Contains-from_take}
use Rattle.ds_entry.proofs.Members.{Contains-from_drop}
use Rattle.ds_join.specs.ItemTop.{IsPartOf}
use Rattle.ds_feed.specs.declared.cursor.Cursor.{Cursor}
use Rattle.ds_feed.specs.Feed.{Feed, from}
use Rattle.ds_feed.specs.Since.{prefix, piece, since_of}
use Rattle.ds_feed.specs.Page.{page_of, still_to_come, floors_of, changes_of, is_after_key, is_floor}
use Rattle.ds_names.specs.Limits.{most_items}
use Rattle.ds_machine.specs.Scope.{is_kept}
use Rattle.ds_machine.specs.Subscription.{Subscription, is_unseen}
use Rattle.ds_machine.specs.State.{State, held, cursor, owed, unseen, subscription_at}
use Rattle.ds_machine.specs.Order.{first_refusal}
use Rattle.ds_machine.specs.Asking.{published, deleted, name_of, cause_against, sweep_cause}
use Rattle.ds_machine.specs.Calling.{against_check, against_merge, against_subscribe, against_scope, against_since, against_page}
use Rattle.ds_machine.specs.Merging.{course, merging}
use Rattle.ds_machine.specs.Watching.{shows, check_case, checking_at, subscribe_case}
use Rattle.ds_machine.specs.Machine.{Step, MergeWantsRoom, outcome, answer_for, sweep_answer, found_or, live_at}
use Rattle.ds_machine.specs.Reached.{IsReached}
use Rattle.ds_machine.specs.Says.{IsReplyTo}
use Rattle.ds_machine.specs.declared.refusal.Cause.{Cause}
use Rattle.ds_machine.specs.declared.refusal.Cause.TheVariants as causes
use Rattle.ds_machine.specs.declared.refusal.Refusal.{Refusal}
use Rattle.ds_machine.specs.declared.refusal.Refusal.TheVariants as refusals
use Rattle.ds_machine.specs.declared.command.Command.{Command}
use Rattle.ds_machine.specs.declared.command.Command.TheVariants.{Publish, Delete, Sweep, Retrieve, NameOf, Subscribe, Check, Since}
use Rattle.ds_machine.specs.declared.command.Command.TheVariants.{Snapshot, Page, Merge}
use Rattle.ds_machine.specs.declared.reply.Reply.{Reply}
use Rattle.ds_machine.specs.declared.reply.Reply.TheVariants.{Changed, Known, Swept, Found, Named, Subscribed, Checked, Journaled, Snapped}
use Rattle.ds_machine.specs.declared.reply.Reply.TheVariants.{Paged, Merged, MergeStopped, Refused}
use Rattle.ds_machine.proofs.ReachedLemmas.{held_is_top}
use Rattle.ds_machine.proofs.SaysLemmas.{merge_stopped_says}
use Rattle.ds_machine.proofs.FitLemmas.{replies_fit}
use Rattle.ds_machine.specs.Given.{shown_by, GivenWasAccepted, done_by, IsSmall, FewAreDone}

-- ---- pieces of a feed

prefix_part : (test : Item → Bool) (max : ℕ) (items : List Item) → IsPartOf (prefix test max items) items
prefix_part test zero items i h = absurd (Contains-nil i h)
prefix_part test (suc max) [] i h = absurd (Contains-nil i h)
prefix_part test (suc max) (x ∷ items) i h = elim (Contains-cons x (prefix test (cond (test x) max (suc max)) items) i h) [
  | inl e ↦ subst (Contains (x ∷ items)) (sym e) (Contains-head x items)
  | inr k ↦ Contains-tail x items i (prefix_part test (cond (test x) max (suc max)) items i k)
]

since_part : (f : Feed) (test : Item → Bool) (at : Cursor) (max : ℕ) → IsPartOf (since_of f test at max).items f.accepted
since_part f test at max i h =
    Contains-from_drop (at.position - f.first) f.accepted i
    (prefix_part test max (from f at.position) i (Contains-from_filter test (piece f test at max) i h).0)

-- ---- replies

module _ (s : State) (r : IsReached s) where
  abbrev Gives : Reply → Type 0
  Gives reply = IsPartOf (shown_by reply) s.feed.accepted

  nothing : IsPartOf [] s.feed.accepted
  nothing i h = absurd (Contains-nil i h)

  of_held : (items : List Item) → IsPartOf items (held s) → IsPartOf items s.feed.accepted
  of_held items part i h = (held_is_top s r).among i (part i h)

  gives_or : {X : Type 0} (o : Option X) (f : X → Reply) (reply : Reply) (new : State) → ((x : X) → Gives (f x)) → Gives reply →
      Gives (option_map_or {U = Reply × State} (λ x. (f x, s)) o (reply, new)).0
  gives_or (Some x) f reply new each own = each x
  gives_or None f reply new each own = own

  asked_gives : (cause : Cause) → Gives (answer_for cause)
  asked_gives causes.Known = nothing
  asked_gives (causes.Refused refusal) = nothing

  sweep_gives : (cause : Cause) → Gives (sweep_answer cause)
  sweep_gives causes.Known = nothing
  sweep_gives (causes.Refused refusals.Stale) = nothing
  sweep_gives (causes.Refused refusal) = nothing

  found_gives : (o : Option Value) → Gives (found_or (option_map Found o))
  found_gives (Some value) = nothing
  found_gives None = nothing

  named_gives : (o : Option (List ℕ)) → Gives (found_or (option_map Named o))
  named_gives (Some name) = nothing
  named_gives None = nothing

  check_gives : (sub max : ℕ) (o : Option Subscription) → Gives (checking_at s sub max o).0
  check_gives sub max o = by_cause o (first_refusal (against_check (check_case s sub max o)))
    where
      by_items : (seer : Subscription) (items : List Item) → IsPartOf items s.feed.accepted → Gives (shows s sub seer items).0
      by_items seer [] part = nothing
      by_items seer (i ∷ items) part = part

      by_cause : (o : Option Subscription) (p : Option Refusal) →
          Gives (option_map_or {U = Reply × State} (λ r. (Refused r, s)) p
          (option_map_or {U = Reply × State} (λ f. shows s sub f (take max (unseen s f))) o (Refused refusals.NotFound, s))).0
      by_cause o (Some r) = nothing
      by_cause None None = nothing
      by_cause (Some seer) None = by_items seer (take max (unseen s seer))
          (of_held (take max (unseen s seer)) (λ i h.
          (Contains-from_filter (is_unseen seer.query seer.shown) (held s) i (Contains-from_take max (unseen s seer) i h)).0))

  page_gives : (test : Item → Bool) (after : Option Key) (max : ℕ) → IsPartOf (page_of test after max (held s) (cursor s)).items (held s)
  page_gives test after max i h =
      let come : List Item = still_to_come test after (held s) in
      let still : IsPartOf come (held s) = λ j k.
      (Contains-from_filter test (held s) j (Contains-from_filter (is_after_key after) (filter test (held s)) j k).0).0 in
      elim (Contains-append_cases (floors_of come) (take max (changes_of come)) i h) [
        | inl k ↦ still i (Contains-from_filter is_floor come i k).0
        | inr k ↦ still i (Contains-from_filter _ come i (Contains-from_take max (changes_of come) i k)).0
      ]

  merge_gives : (items : List Item) (o : Option Refusal) → Gives (merging s items o).0
  merge_gives items (Some r) = nothing
  merge_gives items None = by_stop (course s items).stop
    where
      by_stop : (o : Option Refusal) → Gives (option_map_or {U = Reply}
          (λ fault. MergeStopped (course s items).done fault (owed s (course s items).taken)) o
          (Merged (course s items).done (length (course s items).taken) (course s items).stale (owed s (course s items).taken)))
      by_stop (Some fault) = nothing
      by_stop None = nothing

  outcome_gives : (command : Command) → Gives (outcome s command).0
  outcome_gives (Publish caller key version value overwrite) =
      gives_or (cause_against s (published caller key version overwrite) (Put value)) answer_for _ _ asked_gives nothing
  outcome_gives (Delete caller key version) =
      gives_or (cause_against s (deleted caller key version) Gone) answer_for _ _ asked_gives nothing
  outcome_gives (Sweep caller owner generation) =
      gives_or (sweep_cause s caller (floor_of owner generation)) sweep_answer _ _ sweep_gives nothing
  outcome_gives (Retrieve key) = found_gives (live_at s key)
  outcome_gives (NameOf endpoint) = named_gives (name_of (held s) endpoint)
  outcome_gives (Subscribe sub query initial overwrite) =
      gives_or (first_refusal (against_subscribe (subscribe_case s sub query overwrite))) Refused _ _ (λ x. nothing) nothing
  outcome_gives (Check sub max) = check_gives sub max (subscription_at s sub)
  outcome_gives (Since scope at max) = gives_or (first_refusal (against_since s.feed scope at max)) Refused _ _ (λ x. nothing)
      (since_part s.feed (is_kept scope) at max)
  outcome_gives (Snapshot scope) = gives_or (first_refusal (against_scope scope)) Refused _ _ (λ x. nothing)
      (of_held _ (λ i h. (Contains-from_filter (is_kept scope) (held s) i h).0))
  outcome_gives (Page scope after max) = gives_or (first_refusal (against_page scope max)) Refused _ _ (λ x. nothing)
      (of_held _ (page_gives (is_kept scope) after max))
  outcome_gives (Merge items) = merge_gives items (first_refusal (against_merge (length items)))

gives_nothing : (s t : State) (command : Command) (reply : Reply) → MergeWantsRoom s command reply t → shown_by reply ≡ []
gives_nothing s t (Merge items) reply w = ap shown_by w.1.reply_is
gives_nothing s t (Publish caller key version value overwrite) reply w = absurd w
gives_nothing s t (Delete caller key version) reply w = absurd w
gives_nothing s t (Sweep caller owner generation) reply w = absurd w
gives_nothing s t (Retrieve key) reply w = absurd w
gives_nothing s t (NameOf endpoint) reply w = absurd w
gives_nothing s t (Subscribe sub query initial overwrite) reply w = absurd w
gives_nothing s t (Check sub max) reply w = absurd w
gives_nothing s t (Since scope at max) reply w = absurd w
gives_nothing s t (Snapshot scope) reply w = absurd w
gives_nothing s t (Page scope after max) reply w = absurd w

part_of_none : (items whole : List Item) → items ≡ [] → IsPartOf items whole
part_of_none items whole e i h = absurd (Contains-nil i (subst (λ (l : List Item). Contains l i) e h))

pub given_was_accepted : GivenWasAccepted
given_was_accepted s t command reply r (inl (inl is)) =
    subst (λ (x : Reply). IsPartOf (shown_by x) s.feed.accepted) (sym is.reply_is) (outcome_gives s r command)
given_was_accepted s t command reply r (inl (inr w)) = part_of_none (shown_by reply) s.feed.accepted (ap shown_by w.reply_is)
given_was_accepted s t command reply r (inr w) = part_of_none (shown_by reply) s.feed.accepted (gives_nothing s t command reply w)

-- ---- what is done

stopped_few : (s t : State) (command : Command) (done : ℕ) (fault : Refusal) (mask : ℕ) → IsReached s → IsSmall command →
    Step s command (MergeStopped done fault mask) t → IsReplyTo command (MergeStopped done fault mask) → done ≤ most_items
stopped_few s t (Merge items) done fault mask r small step fits =
    omega (arith, small, (merge_stopped_says s t items done fault mask r step).some_left)
stopped_few s t (Publish caller key version value overwrite) done fault mask r small step fits = absurd fits
stopped_few s t (Delete caller key version) done fault mask r small step fits = absurd fits
stopped_few s t (Sweep caller owner generation) done fault mask r small step fits = absurd fits
stopped_few s t (Retrieve key) done fault mask r small step fits = absurd fits
stopped_few s t (NameOf endpoint) done fault mask r small step fits = absurd fits
stopped_few s t (Subscribe sub query initial overwrite) done fault mask r small step fits = absurd fits
stopped_few s t (Check sub max) done fault mask r small step fits = absurd fits
stopped_few s t (Since scope at max) done fault mask r small step fits = absurd fits
stopped_few s t (Snapshot scope) done fault mask r small step fits = absurd fits
stopped_few s t (Page scope after max) done fault mask r small step fits = absurd fits

few_by : (s t : State) (command : Command) (reply : Reply) → IsReached s → IsSmall command → Step s command reply t →
    done_by reply ≤ most_items
few_by s t command (MergeStopped done fault mask) r small step =
    stopped_few s t command done fault mask r small step (replies_fit s t command (MergeStopped done fault mask) step)
few_by s t command (Changed owed) r small step = omega arith
few_by s t command Known r small step = omega arith
few_by s t command (Swept count owed) r small step = omega arith
few_by s t command (Found value) r small step = omega arith
few_by s t command (Named name) r small step = omega arith
few_by s t command (Subscribed stamp owed) r small step = omega arith
few_by s t command (Checked items before after) r small step = omega arith
few_by s t command (Journaled since) r small step = omega arith
few_by s t command (Snapped snapshot) r small step = omega arith
few_by s t command (Paged page) r small step = omega arith
few_by s t command (Merged done taken stale owed) r small step = omega arith
few_by s t command (Refused fault) r small step = omega arith

pub few_are_done : FewAreDone
few_are_done = few_by
