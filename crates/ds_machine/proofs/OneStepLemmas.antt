-- The state, the command and the point where memory ran out determine the step.
use Rattle.std.proofs.Common.{◌≡◌, ℕ, Bool, false, cond, List, [], ◌∷◌, ◌++◌, length, map, take, fold, Option, Some, None, is_some, refl}
use Rattle.std.proofs.Common.{ap, sym, ◌∙◌, inl, inr, arith}
use Rattle.std.specs.Option.{option_map, option_map_or}
use Rattle.std.proofs.lemmas.Bool.{false≢true}
use Rattle.ds_names.specs.declared.version.Version.{Version}
use Rattle.ds_entry.specs.declared.body.Value.{Value}
use Rattle.ds_entry.specs.declared.body.Body.TheVariants.{Put, Gone}
use Rattle.ds_entry.specs.declared.item.Item.{Item}
use Rattle.ds_entry.specs.declared.item.Item.TheVariants.{Change as Changed, Floor as Floored}
use Rattle.ds_entry.specs.Floor.{floor_of}
use Rattle.ds_entry.proofs.Members.{none_pass}
use Rattle.ds_watch.specs.Mask.{mask}
use Rattle.ds_machine.specs.Subscription.{Subscription, is_owed}
use Rattle.ds_machine.specs.State.{State, held, owed, unseen, subscription_at}
use Rattle.ds_machine.specs.Order.{first_cause, first_refusal, by_command, by_version, by_room}
use Rattle.ds_machine.specs.Owed.{owed_by}
use Rattle.ds_machine.specs.Standing.{cause_of, standing_of, floor_standing_of, against_change, against_floor}
use Rattle.ds_machine.specs.Asking.{AskedChange, published, deleted, name_of, asked_in, against_asked, against_sweep, cause_against}
use Rattle.ds_machine.specs.Asking.{sweep_cause}
use Rattle.ds_machine.specs.Calling.{against_check, against_merge, against_subscribe, against_scope, against_since, against_page}
use Rattle.ds_machine.specs.Merging.{Course, begun, course, item_merged, item_judged, merging}
use Rattle.ds_machine.specs.Watching.{shows, check_case, checking_at, subscribe_case}
use Rattle.ds_machine.specs.Machine.{StopsForRoom, MergeWantsRoom, answer_for, sweep_answer, found_or, live_at}
use Rattle.ds_machine.specs.declared.refusal.Cause.{Cause}
use Rattle.ds_machine.specs.declared.refusal.Cause.TheVariants as causes
use Rattle.ds_machine.specs.declared.refusal.Refusal.{Refusal}
use Rattle.ds_machine.specs.declared.refusal.Refusal.TheVariants as refusals
use Rattle.ds_machine.specs.declared.command.Command.{Command}
use Rattle.ds_machine.specs.declared.command.Command.TheVariants.{Publish, Delete, Sweep, Retrieve, NameOf, Subscribe, Check, Since}
use Rattle.ds_machine.specs.declared.command.Command.TheVariants.{Snapshot, Page, Merge}
use Rattle.ds_machine.specs.declared.reply.Reply.{Reply}
use Rattle.ds_machine.specs.declared.reply.Reply.TheVariants.{Found, Named, Merged, MergeStopped, Refused}
use Rattle.ds_machine.proofs.PartLemmas.{found}
use Rattle.ds_machine.specs.OneStep.{is_noroom, room_wanted, OutcomesTakeNone, StepsAreOne, OneItemWantsAlike}

-- ---- no cause is lack of memory

wants : Cause → Bool
wants causes.Known = false
wants (causes.Refused r) = is_noroom r

abbrev WantsNone : Reply → Type 0
WantsNone reply = room_wanted reply ≡ None

change_cause : (v : Version) (stands : Cause → Bool) (c : Cause) → first_cause (Some v) stands ≡ Some c → wants c ≡ false
unfolding wants
change_cause v stands c e = let order : List Cause = map causes.Refused by_command ++ by_version (Some v) ++ map causes.Refused by_room in
    none_pass wants order c refl (found stands order c e).0

floor_cause : (stands : Cause → Bool) (c : Cause) → first_cause None stands ≡ Some c → wants c ≡ false
unfolding wants
floor_cause stands c e = let order : List Cause = map causes.Refused by_command ++ by_version None ++ map causes.Refused by_room in
    none_pass wants order c refl (found stands order c e).0

other_cause : (stands : Refusal → Bool) (r : Refusal) → first_refusal stands ≡ Some r → is_noroom r ≡ false
other_cause stands r e = let order : List Refusal = by_command ++ by_room in none_pass is_noroom order r refl (found stands order r e).0

refused_none : (r : Refusal) → is_noroom r ≡ false → WantsNone (Refused r)
refused_none r e = let whole : Option ℕ = None in ap (λ (b : Bool). cond b (Some whole) None) e

module _ (s : State) where
  asked_none : (cause : Cause) → wants cause ≡ false → WantsNone (answer_for cause)
  unfolding wants
  asked_none causes.Known e = refl
  asked_none (causes.Refused r) e = refused_none r e

  swept_none : (cause : Cause) → wants cause ≡ false → WantsNone (sweep_answer cause)
  unfolding wants
  swept_none causes.Known e = refl
  swept_none (causes.Refused refusals.Stale) e = refl
  swept_none (causes.Refused refusals.NoRoom) e = absurd (false≢true (sym e))
  swept_none (causes.Refused _) e = refl

  -- its own reply, or the answer to what applies to it
  none_or : {X : Type 0} (o : Option X) (f : X → Reply) (reply : Reply) (new : State) → ((x : X) → o ≡ Some x → WantsNone (f x)) →
      WantsNone reply → WantsNone (option_map_or {U = Reply × State} (λ x. (f x, s)) o (reply, new)).0
  none_or (Some x) f reply new each own = each x refl
  none_or None f reply new each own = own

  refusal_or : (stands : Refusal → Bool) (reply : Reply) (new : State) → WantsNone reply →
      WantsNone (option_map_or {U = Reply × State} (λ r. (Refused r, s)) (first_refusal stands) (reply, new)).0
  refusal_or stands reply new own = none_or (first_refusal stands) Refused reply new (λ r e. refused_none r (other_cause stands r e)) own

  found_none : (o : Option Value) → WantsNone (found_or (option_map Found o))
  found_none (Some value) = refl
  found_none None = refl

  named_none : (o : Option (List ℕ)) → WantsNone (found_or (option_map Named o))
  named_none (Some name) = refl
  named_none None = refl

  check_none : (sub max : ℕ) (o : Option Subscription) → WantsNone (checking_at s sub max o).0
  check_none sub max o = by_cause o (first_refusal (against_check (check_case s sub max o)))
      (λ r e. other_cause (against_check (check_case s sub max o)) r e)
    where
      by_items : (seer : Subscription) (items : List Item) → WantsNone (shows s sub seer items).0
      by_items seer [] = refl
      by_items seer (i ∷ items) = refl

      by_cause : (o : Option Subscription) (p : Option Refusal) → ((r : Refusal) → p ≡ Some r → is_noroom r ≡ false) →
          WantsNone (option_map_or {U = Reply × State} (λ r. (Refused r, s)) p
          (option_map_or {U = Reply × State} (λ f. shows s sub f (take max (unseen s f))) o (Refused refusals.NotFound, s))).0
      by_cause o (Some r) none = refused_none r (none r refl)
      by_cause None None none = refl
      by_cause (Some seer) None none = by_items seer (take max (unseen s seer))

-- ---- a merge

item_cause : (s : State) (i : Item) (c : Cause) → cause_of s i ≡ Some c → wants c ≡ false
item_cause s (Changed d) c e = change_cause d.version (against_change (standing_of s d) d) c e
item_cause s (Floored f) c e = floor_cause (against_floor (floor_standing_of s f) f) c e

-- what stopped it, if anything did, isn't lack of memory
abbrev StopsWell : Option Refusal → Type 0
StopsWell stop = option_map_or is_noroom stop false ≡ false

judged_well : (k : Course) (i : Item) (o : Option Cause) → StopsWell k.stop → ((c : Cause) → o ≡ Some c → wants c ≡ false) →
    StopsWell (item_judged k i o).stop
unfolding wants
judged_well k i None well none = well
judged_well k i (Some causes.Known) well none = well
judged_well k i (Some (causes.Refused refusals.Stale)) well none = well
judged_well k i (Some (causes.Refused refusals.NoRoom)) well none = none (causes.Refused refusals.NoRoom) refl
judged_well k i (Some (causes.Refused _)) well none = refl

merged_well : (k : Course) (i : Item) (stop : Option Refusal) → StopsWell k.stop →
    StopsWell (option_map_or {U = Course} (λ (x : Refusal). k) stop (item_judged k i (cause_of k.state i))).stop
merged_well k i (Some r) well = well
merged_well k i None well = judged_well k i (cause_of k.state i) well (item_cause k.state i)

course_well : (items : List Item) (k : Course) → StopsWell k.stop → StopsWell (fold item_merged k items).stop
course_well [] k well = well
course_well (i ∷ items) k well = course_well items (item_merged k i) (merged_well k i k.stop well)

merge_none : (s : State) (items : List Item) (o : Option Refusal) → ((r : Refusal) → o ≡ Some r → is_noroom r ≡ false) →
    WantsNone (merging s items o).0
merge_none s items (Some r) none = refused_none r (none r refl)
merge_none s items None none = by_stop (course s items).stop (course_well items (begun s) refl)
  where
    by_stop : (o : Option Refusal) → StopsWell o →
        WantsNone (option_map_or {U = Reply} (λ fault. MergeStopped (course s items).done fault (owed s (course s items).taken)) o
        (Merged (course s items).done (length (course s items).taken) (course s items).stale (owed s (course s items).taken)))
    by_stop (Some fault) well = ap (λ (b : Bool). cond b (Some (Some (course s items).done)) None) well
    by_stop None well = refl

-- ---- all commands

pub outcomes_take_none : OutcomesTakeNone
outcomes_take_none s (Publish caller key version value overwrite) =
    let a : AskedChange = published caller key version overwrite in
    none_or s (cause_against s a (Put value)) answer_for _ _
    (λ c e. asked_none s c (change_cause a.version
    (against_asked (standing_of s (asked_in s a (Put value))) (name_of (held s) a.caller) a (Put value)) c e)) refl
outcomes_take_none s (Delete caller key version) =
    let a : AskedChange = deleted caller key version in
    none_or s (cause_against s a Gone) answer_for _ _
    (λ c e. asked_none s c (change_cause a.version (against_asked (standing_of s (asked_in s a Gone)) (name_of (held s) a.caller) a Gone) c
    e)) refl
outcomes_take_none s (Sweep caller owner generation) =
    none_or s (sweep_cause s caller (floor_of owner generation)) sweep_answer _ _
    (λ c e. swept_none s c (floor_cause (against_sweep (floor_standing_of s (floor_of owner generation)) caller
    (floor_of owner generation)) c e)) refl
outcomes_take_none s (Retrieve key) = found_none s (live_at s key)
outcomes_take_none s (NameOf endpoint) = named_none s (name_of (held s) endpoint)
outcomes_take_none s (Subscribe sub query initial overwrite) =
    refusal_or s (against_subscribe (subscribe_case s sub query overwrite)) _ _ refl
outcomes_take_none s (Check sub max) = check_none s sub max (subscription_at s sub)
outcomes_take_none s (Since scope at max) = refusal_or s (against_since s.feed scope at max) _ _ refl
outcomes_take_none s (Snapshot scope) = refusal_or s (against_scope scope) _ _ refl
outcomes_take_none s (Page scope after max) = refusal_or s (against_page scope max) _ _ refl
outcomes_take_none s (Merge items) = merge_none s items (first_refusal (against_merge (length items)))
    (λ r e. other_cause (against_merge (length items)) r e)

-- ---- one step

pub none_some : {X : Type 0} (x : X) → None ≡ Some x → ⊥
none_some x e = false≢true (ap (λ o. is_some o) e)

-- a merge that ran out of memory after some items
stops_at : (s t : State) (items : List Item) (reply : Reply) (w : MergeWantsRoom s (Merge items) reply t) →
    room_wanted reply ≡ Some (Some w.0)
stops_at s t items reply w = ap room_wanted w.1.reply_is

pub done_same : (m n : ℕ) → Some (Some m) ≡ Some (Some n) → m ≡ n
done_same m n e = ap (λ (o : Option (Option ℕ)). option_map_or (λ (p : Option ℕ). option_map_or (λ (k : ℕ). k) p 0) o 0) e

two_merges : (s t u : State) (items : List Item) (reply other : Reply) → MergeWantsRoom s (Merge items) reply t →
    MergeWantsRoom s (Merge items) other u → room_wanted reply ≡ room_wanted other → (reply ≡ other) × (t ≡ u)
two_merges s t u items reply other v w e =
    let same : v.0 ≡ w.0 = done_same v.0 w.0 (sym (stops_at s t items reply v) ∙ e ∙ stops_at s u items other w) in (
      v.1.reply_is ∙ ap (λ (n : ℕ). MergeStopped n refusals.NoRoom (owed s (course s (take n items)).taken)) same ∙ sym w.1.reply_is,
      v.1.state_is ∙ ap (λ (n : ℕ). (course s (take n items)).state) same ∙ sym w.1.state_is,
    )

both_merges : (s t u : State) (command : Command) (reply other : Reply) → MergeWantsRoom s command reply t →
    MergeWantsRoom s command other u → room_wanted reply ≡ room_wanted other → (reply ≡ other) × (t ≡ u)
both_merges s t u (Merge items) reply other v w e = two_merges s t u items reply other v w e
both_merges s t u (Publish caller key version value overwrite) reply other v w e = absurd v
both_merges s t u (Delete caller key version) reply other v w e = absurd v
both_merges s t u (Sweep caller owner generation) reply other v w e = absurd v
both_merges s t u (Retrieve key) reply other v w e = absurd v
both_merges s t u (NameOf endpoint) reply other v w e = absurd v
both_merges s t u (Subscribe sub query initial overwrite) reply other v w e = absurd v
both_merges s t u (Check sub max) reply other v w e = absurd v
both_merges s t u (Since scope at max) reply other v w e = absurd v
both_merges s t u (Snapshot scope) reply other v w e = absurd v
both_merges s t u (Page scope after max) reply other v w e = absurd v

-- it ran out of memory after some number of items
some_done : (s t : State) (command : Command) (reply : Reply) → MergeWantsRoom s command reply t →
    (done : ℕ) × (room_wanted reply ≡ Some (Some done))
some_done s t (Merge items) reply v = (v.0, stops_at s t items reply v)
some_done s t (Publish caller key version value overwrite) reply v = absurd v
some_done s t (Delete caller key version) reply v = absurd v
some_done s t (Sweep caller owner generation) reply v = absurd v
some_done s t (Retrieve key) reply v = absurd v
some_done s t (NameOf endpoint) reply v = absurd v
some_done s t (Subscribe sub query initial overwrite) reply v = absurd v
some_done s t (Check sub max) reply v = absurd v
some_done s t (Since scope at max) reply v = absurd v
some_done s t (Snapshot scope) reply v = absurd v
some_done s t (Page scope after max) reply v = absurd v

abbrev pub whole_command : Option ℕ
whole_command = None

pub none_done : (n : ℕ) → Some whole_command ≡ Some (Some n) → ⊥
none_done n e = false≢true (ap (λ (o : Option (Option ℕ)). option_map_or (λ (p : Option ℕ). is_some p) o false) e)

pub steps_one : StepsAreOne
steps_one s t u command reply other (inl (inl a)) (inl (inl b)) e = (a.reply_is ∙ sym b.reply_is, a.state_is ∙ sym b.state_is)
steps_one s t u command reply other (inl (inl a)) (inl (inr w)) e =
    absurd (none_some None (sym (ap room_wanted a.reply_is ∙ outcomes_take_none s command) ∙ e ∙ ap room_wanted w.reply_is))
steps_one s t u command reply other (inl (inl a)) (inr w) e =
    let d = some_done s u command other w in
    absurd (none_some (Some d.0) (sym (ap room_wanted a.reply_is ∙ outcomes_take_none s command) ∙ e ∙ d.1))
steps_one s t u command reply other (inl (inr v)) (inl (inl b)) e =
    absurd (none_some None (sym (ap room_wanted b.reply_is ∙ outcomes_take_none s command) ∙ sym e ∙ ap room_wanted v.reply_is))
steps_one s t u command reply other (inl (inr v)) (inl (inr w)) e = (v.reply_is ∙ sym w.reply_is, v.state_is ∙ sym w.state_is)
steps_one s t u command reply other (inl (inr v)) (inr w) e =
    let d = some_done s u command other w in
    absurd (none_done d.0 (sym (ap room_wanted v.reply_is) ∙ e ∙ d.1))
steps_one s t u command reply other (inr v) (inl (inl b)) e =
    let d = some_done s t command reply v in
    absurd (none_some (Some d.0) (sym (ap room_wanted b.reply_is ∙ outcomes_take_none s command) ∙ sym e ∙ d.1))
steps_one s t u command reply other (inr v) (inl (inr w)) e =
    let d = some_done s t command reply v in
    absurd (none_done d.0 (sym (ap room_wanted w.reply_is) ∙ sym e ∙ d.1))
steps_one s t u command reply other (inr v) (inr w) e = both_merges s t u command reply other v w e

-- ---- a merge of one item

owed_none : (subs : List (Option Subscription)) → mask (map (is_owed []) subs) ≡ 0
owed_none [] = refl
owed_none (None ∷ subs) = omega (arith, owed_none subs)
owed_none (Some sub ∷ subs) = omega (arith, owed_none subs)

-- nothing is owed for no items
pub nothing_owed : (s : State) → owed s [] ≡ 0
nothing_owed s = owed_none s.subscriptions

none_done_yet : (s t : State) (i : Item) (reply : Reply) (done : ℕ) → done ≡ 0 → StopsForRoom s (i ∷ []) reply t done →
    (t ≡ s) × (owed_by reply ≡ 0)
none_done_yet s t i reply done z w = (
  w.state_is ∙ ap (λ (n : ℕ). (course s (take n (i ∷ []))).state) z,
  ap owed_by w.reply_is ∙ ap (λ (n : ℕ). owed s (course s (take n (i ∷ []))).taken) z ∙ nothing_owed s,
)

pub one_item : OneItemWantsAlike
one_item s t i reply (inl (inl a)) e = absurd
    (false≢true (sym (ap is_some (ap room_wanted a.reply_is ∙ outcomes_take_none s (Merge (i ∷ [])))) ∙ e))
one_item s t i reply (inl (inr w)) e = (w.state_is, ap owed_by w.reply_is)
one_item s t i reply (inr w) e = none_done_yet s t i reply w.0 (omega (arith, w.1.some_left)) w.1
