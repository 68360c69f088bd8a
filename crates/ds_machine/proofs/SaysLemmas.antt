-- What answers say, and which answers there are.
use Rattle.std.proofs.Common.{◌≡◌, ℕ, ◌+◌, ◌<◌, ◌^◌, ◌==◌, zero, suc, Bool, true, false, cond, get_or, List, [], ◌∷◌, length, take, map}
use Rattle.std.proofs.Common.{Option, Some, None, refl, ap, sym, ◌∙◌, subst, inl, inr, arith}
use Rattle.std.specs.Option.{option_map, option_map_or}
use Rattle.ds_entry.specs.declared.body.Value.{Value}
use Rattle.ds_entry.specs.declared.body.Body.{Body}
use Rattle.ds_entry.specs.declared.body.Body.TheVariants.{Put, Gone}
use Rattle.ds_entry.specs.declared.item.Item.{Item}
use Rattle.ds_entry.specs.declared.item.Item.TheVariants.{Change as Changed, Floor as Floored}
use Rattle.ds_entry.specs.declared.floor.Floor.{Floor}
use Rattle.ds_entry.specs.Floor.{floor_of}
use Rattle.ds_feed.specs.Since.{since_of}
use Rattle.ds_feed.specs.Page.{snapshot_of, page_of}
use Rattle.ds_machine.specs.Scope.{is_kept}
use Rattle.ds_watch.specs.Mask.{mask}
use Rattle.ds_watch.specs.MaskBits.{mask_small, mask_bit}
use Rattle.ds_machine.specs.Subscription.{Subscription, is_owed}
use Rattle.ds_machine.specs.State.{State, held, cursor, takes_effect, subscribes, owed, unseen, subscription_at}
use Rattle.ds_machine.specs.Order.{first_refusal}
use Rattle.ds_machine.specs.Asking.{AskedChange, published, deleted, asked_in, name_of, cause_against, sweep_cause}
use Rattle.ds_machine.specs.Calling.{against_subscribe, against_check, against_since, against_scope, against_page, against_merge}
use Rattle.ds_machine.specs.Merging.{Course, course, begun, merging}
use Rattle.ds_machine.specs.Watching.{shows, subscribe_case, owed_at_first, shown_at_first, check_case, checking_at}
use Rattle.ds_held.specs.Kept.{puts_void_by}
use Rattle.ds_machine.specs.Parts.{changes_in}
use Rattle.ds_machine.specs.Machine.{Step, IsOutcome, MergeWantsRoom, outcome, asking, answer_for, sweep_answer, found_or, live_at}
use Rattle.ds_machine.specs.Reached.{IsReached}
use Rattle.ds_machine.specs.Effect.{brought_by}
use Rattle.ds_machine.specs.Says.{RefusedSays, IsTaken, ChangedSays, FoundSays, NamedSays, IsMerged, MergedSays, MergeStoppedSays, OwedFits}
use Rattle.ds_machine.specs.Says.{OwedTells, IsReplyTo}
use Rattle.ds_machine.specs.declared.refusal.Cause.{Cause}
use Rattle.ds_machine.specs.declared.refusal.Cause.TheVariants as causes
use Rattle.ds_machine.specs.declared.refusal.Refusal.{Refusal}
use Rattle.ds_machine.specs.declared.refusal.Refusal.TheVariants as refusals
use Rattle.ds_machine.specs.declared.command.Command.{Command}
use Rattle.ds_machine.specs.declared.command.Command.TheVariants.{Publish, Delete, Sweep, Retrieve, NameOf, Subscribe, Check, Since}
use Rattle.ds_machine.specs.declared.command.Command.TheVariants.{Snapshot, Page, Merge}
use Rattle.ds_machine.specs.declared.reply.Reply.{Reply}
use Rattle.ds_machine.specs.declared.reply.Reply.TheVariants.{Changed as Accepted, Swept, Found, Named, Subscribed, Journaled, Snapped}
use Rattle.ds_machine.specs.declared.reply.Reply.TheVariants.{Paged, Merged, MergeStopped, Refused}
use Rattle.ds_machine.proofs.CourseLemmas.{Went}
use Rattle.ds_machine.proofs.EffectLemmas.{begun_went}
use Rattle.ds_machine.proofs.KnownLemmas.{learnt_is_held}
use Rattle.ds_machine.proofs.FitLemmas.{replies_fit}

-- ---- a refused command
is_refused : Reply → Bool
is_refused (Refused refusal) = true
is_refused _ = false

refused_not : (refusal : Refusal) (reply : Reply) → is_refused reply ≡ false → Refused refusal ≡ reply → ⊥
unfolding is_refused
refused_not refusal reply f e = let t : true ≡ false = ap is_refused e ∙ f in absurd (cc)

module _ (s t : State) (refusal : Refusal) where
  -- a command with a reply of its own, unless something applies to it
  stays_unless : {X : Type 0} (o : Option X) (f : X → Reply) (reply : Reply) (new : State)
      → Refused refusal ≡ (option_map_or {U = Reply × State} (λ x. (f x, s)) o (reply, new)).0 →
      t ≡ (option_map_or {U = Reply × State} (λ x. (f x, s)) o (reply, new)).1 → is_refused reply ≡ false → t ≡ s
  stays_unless (Some x) f reply new e q differs = q
  stays_unless None f reply new e q differs = absurd (refused_not refusal reply differs e)

  merge_unless : (items : List Item) (o : Option Refusal) → Refused refusal ≡ (merging s items o).0 → t ≡ (merging s items o).1 → t ≡ s
  merge_unless items (Some r) e q = q
  merge_unless items None e q = absurd (by_stop (course s items).stop e)
    where
      by_stop : (o : Option Refusal) → Refused refusal ≡ option_map_or {U = Reply}
          (λ fault. MergeStopped (course s items).done fault (owed s (course s items).taken)) o
          (Merged (course s items).done (length (course s items).taken) (course s items).stale (owed s (course s items).taken)) → ⊥
      by_stop (Some fault) h = cc
      by_stop None h = cc

  check_unless : (sub max : ℕ) (o : Option Subscription) → Refused refusal ≡ (checking_at s sub max o).0 →
      t ≡ (checking_at s sub max o).1 → t ≡ s
  check_unless sub max o e q = by_cause o (first_refusal (against_check (check_case s sub max o))) e q
    where
      by_items : (seer : Subscription) (items : List Item) → Refused refusal ≡ (shows s sub seer items).0 →
          t ≡ (shows s sub seer items).1 → t ≡ s
      by_items seer [] e q = q
      by_items seer (i ∷ items) e q = absurd (cc)

      out : Option Subscription → Option Refusal → Reply × State
      out o p = option_map_or {U = Reply × State} (λ r. (Refused r, s)) p
          (option_map_or {U = Reply × State} (λ f. shows s sub f (take max (unseen s f))) o (Refused refusals.NotFound, s))

      by_cause : (o : Option Subscription) (p : Option Refusal) → Refused refusal ≡ (out o p).0 → t ≡ (out o p).1 → t ≡ s
      by_cause o (Some r) e q = q
      by_cause None None e q = q
      by_cause (Some seer) None e q = by_items seer (take max (unseen s seer)) e q

  by_outcome : (command : Command) → IsOutcome (outcome s command) (Refused refusal) t → t ≡ s
  unfolding is_refused
  by_outcome (Publish caller key version value overwrite) is =
      let a : AskedChange = published caller key version overwrite in
      let i : Item = Changed (asked_in s a (Put value)) in
      stays_unless (cause_against s a (Put value)) answer_for (Accepted (owed s (i ∷ []))) (takes_effect s (i ∷ [])) is.reply_is
      is.state_is refl
  by_outcome (Delete caller key version) is =
      let a : AskedChange = deleted caller key version in
      let i : Item = Changed (asked_in s a Gone) in
      stays_unless (cause_against s a Gone) answer_for (Accepted (owed s (i ∷ []))) (takes_effect s (i ∷ [])) is.reply_is is.state_is refl
  by_outcome (Sweep caller owner generation) is =
      let f : Floor = floor_of owner generation in
      stays_unless (sweep_cause s caller f) sweep_answer (Swept (length (puts_void_by f (changes_in (held s)))) (owed s (Floored f ∷ [])))
      (takes_effect s (Floored f ∷ [])) is.reply_is is.state_is refl
  by_outcome (Retrieve key) is = is.state_is
  by_outcome (NameOf endpoint) is = is.state_is
  by_outcome (Subscribe sub query initial overwrite) is =
      stays_unless (first_refusal (against_subscribe (subscribe_case s sub query overwrite))) Refused
      (Subscribed (s.stamp + 1) (owed_at_first (held s) sub query initial)) (subscribes s sub query (shown_at_first (held s) initial))
      is.reply_is is.state_is refl
  by_outcome (Check sub max) is = check_unless sub max (subscription_at s sub) is.reply_is is.state_is
  by_outcome (Since scope at max) is = stays_unless (first_refusal (against_since s.feed scope at max)) Refused
      (Journaled (since_of s.feed (is_kept scope) at max)) s is.reply_is is.state_is refl
  by_outcome (Snapshot scope) is = stays_unless (first_refusal (against_scope scope)) Refused
      (Snapped (snapshot_of (is_kept scope) (held s) (cursor s))) s is.reply_is is.state_is refl
  by_outcome (Page scope after max) is = stays_unless (first_refusal (against_page scope max)) Refused
      (Paged (page_of (is_kept scope) after max (held s) (cursor s))) s is.reply_is is.state_is refl
  by_outcome (Merge items) is = merge_unless items (first_refusal (against_merge (length items))) is.reply_is is.state_is

  wants_not : (command : Command) → MergeWantsRoom s command (Refused refusal) t → ⊥
  wants_not (Merge items) w = let e : Refused refusal ≡ MergeStopped _ _ _ = w.1.reply_is in cc
  wants_not (Publish caller key version value overwrite) w = w
  wants_not (Delete caller key version) w = w
  wants_not (Sweep caller owner generation) w = w
  wants_not (Retrieve key) w = w
  wants_not (NameOf endpoint) w = w
  wants_not (Subscribe sub query initial overwrite) w = w
  wants_not (Check sub max) w = w
  wants_not (Since scope at max) w = w
  wants_not (Snapshot scope) w = w
  wants_not (Page scope after max) w = w

pub refused_says : RefusedSays
refused_says s t command refusal (inl (inl is)) = by_outcome s t refusal command is
refused_says s t command refusal (inl (inr wants)) = wants.state_is
refused_says s t command refusal (inr w) = absurd (wants_not s t refusal command w)

-- ---- a merge
pub merged_says : MergedSays
merged_says s t items done taken stale owes r (inl (inl is)) =
    by_cause (first_refusal (against_merge (length items))) is.reply_is is.state_is
  where
    k : Course
    k = course s items

    w : Went (begun s) items k
    w = begun_went s items r

    by_stop : (o : Option Refusal) → k.stop ≡ o →
        Merged done taken stale owes ≡ option_map_or {U = Reply} (λ fault. MergeStopped k.done fault (owed s k.taken)) o
        (Merged k.done (length k.taken) k.stale (owed s k.taken)) →
        t ≡ k.state → IsMerged items done taken stale t
    by_stop (Some fault) q e f = absurd (cc)
    by_stop None q e f =
        let d : done ≡ k.done = cc in
        let n : taken ≡ length k.taken = cc in
        let m : stale ≡ k.stale = cc in
        record {
          holds = learnt_is_held s t (Merge items) (Merged done taken stale owes) r (inl (inl is));
          all = omega (arith, d, w.done, w.whole q);
          within = omega (arith, d, n, m, w.done, w.counted);
        }

    by_cause : (o : Option Refusal) → Merged done taken stale owes ≡ (merging s items o).0 → t ≡ (merging s items o).1 →
        IsMerged items done taken stale t
    by_cause (Some cause) e f = absurd (cc)
    by_cause None e f = by_stop k.stop refl e f
merged_says s t items done taken stale owes r (inl (inr w)) = absurd (let e : Merged done taken stale owes ≡ Refused _ = w.reply_is in cc)
merged_says s t items done taken stale owes r (inr w) =
    absurd (let e : Merged done taken stale owes ≡ MergeStopped _ _ _ = w.1.reply_is in cc)

-- the step itself says what is held, its reply how much was done
stopped_within : (s t : State) (items : List Item) (done : ℕ) (fault : Refusal) (owes : ℕ) → IsReached s →
    Step s (Merge items) (MergeStopped done fault owes) t → done < length items
stopped_within s t items done fault owes r (inl (inl is)) = by_cause (first_refusal (against_merge (length items))) is.reply_is
  where
    k : Course
    k = course s items

    w : Went (begun s) items k
    w = begun_went s items r

    by_stop : (o : Option Refusal) → k.stop ≡ o →
        MergeStopped done fault owes ≡ option_map_or {U = Reply} (λ f. MergeStopped k.done f (owed s k.taken)) o
        (Merged k.done (length k.taken) k.stale (owed s k.taken)) → done < length items
    by_stop None q e = absurd (cc)
    by_stop (Some f) q e = let d : done ≡ k.done = cc in omega (arith, d, w.done, w.some_left f q)

    by_cause : (o : Option Refusal) → MergeStopped done fault owes ≡ (merging s items o).0 → done < length items
    by_cause (Some cause) e = absurd (cc)
    by_cause None e = by_stop k.stop refl e
stopped_within s t items done fault owes r (inl (inr w)) = absurd (let e : MergeStopped done fault owes ≡ Refused _ = w.reply_is in cc)
stopped_within s t items done fault owes r (inr w) =
    let e : MergeStopped done fault owes ≡ MergeStopped w.0 refusals.NoRoom _ = w.1.reply_is in
    let d : done ≡ w.0 = cc in
    let l : w.0 < length items = w.1.some_left in
    omega (arith, d, l)

pub merge_stopped_says : MergeStoppedSays
merge_stopped_says s t items done fault owes r step =
    record {
      holds = learnt_is_held s t (Merge items) (MergeStopped done fault owes) r step;
      some_left =
          stopped_within s t items done fault owes r step;
    }

-- ---- masks
flags_long : (items : List Item) (subs : List (Option Subscription)) → length (map (is_owed items) subs) ≡ length subs
flags_long items [] = refl
flags_long items (x ∷ subs) = ap suc (flags_long items subs)

pub owed_fits : OwedFits
owed_fits s items r =
    let long : length (map (is_owed items) s.subscriptions) ≡ s.limits.subs = flags_long items s.subscriptions ∙ r.places in
    subst (λ n. owed s items < 2 ^ n) long (mask_small (map (is_owed items) s.subscriptions))

flag_of : (b : Bool) → (cond b 1 0 == 1) ≡ b
flag_of true = refl
flag_of false = refl

owed_at : (items : List Item) (subs : List (Option Subscription)) (k : ℕ) →
    get_or (map (is_owed items) subs) k false ≡ is_owed items (get_or subs k None)
owed_at items [] zero = refl
owed_at items [] (suc k) = refl
owed_at items (x ∷ subs) zero = refl
owed_at items (x ∷ subs) (suc k) = owed_at items subs k

pub owed_tells : OwedTells
owed_tells s items k =
    let flags : List Bool = map (is_owed items) s.subscriptions in
    ap (λ n. n == 1) (mask_bit flags k) ∙ flag_of (get_or flags k false) ∙ owed_at items s.subscriptions k

-- ---- what took effect, what is live, and whose name it is
asked_says : (s t : State) (a : AskedChange) (body : Body) (mask : ℕ) → Accepted mask ≡ (asking s a body).0 → t ≡ (asking s a body).1 →
    IsTaken s (Changed (asked_in s a body) ∷ []) mask t
asked_says s t a body mask e f = by_cause (cause_against s a body) e f
  where
    items : List Item
    items = Changed (asked_in s a body) ∷ []

    out : Option Cause → Reply × State
    out o = option_map_or {U = Reply × State} (λ cause. (answer_for cause, s)) o (Accepted (owed s items), takes_effect s items)

    by_cause : (o : Option Cause) → Accepted mask ≡ (out o).0 → t ≡ (out o).1 → IsTaken s items mask t
    by_cause (Some causes.Known) g h = absurd (cc)
    by_cause (Some (causes.Refused refusal)) g h = absurd (cc)
    by_cause None g h = record { owed_is = cc; state_is = h }

changed_step : (s t : State) (command : Command) (mask : ℕ) → Step s command (Accepted mask) t → IsReplyTo command (Accepted mask) →
    IsOutcome (outcome s command) (Accepted mask) t → IsTaken s (brought_by s command) mask t
changed_step s t (Publish caller key version value overwrite) mask step fits is =
    asked_says s t (published caller key version overwrite) (Put value) mask is.reply_is is.state_is
changed_step s t (Delete caller key version) mask step fits is =
    asked_says s t (deleted caller key version) Gone mask is.reply_is is.state_is
changed_step s t _ mask step fits is = absurd fits

pub changed_says : ChangedSays
changed_says s t command mask (inl (inl is)) =
    changed_step s t command mask (inl (inl is)) (replies_fit s t command (Accepted mask) (inl (inl is))) is
changed_says s t command mask (inl (inr w)) = absurd (let e : Accepted mask ≡ Refused _ = w.reply_is in cc)
changed_says s t command mask (inr w) = absurd (no_merge command w)
  where
    no_merge : (c : Command) → MergeWantsRoom s c (Accepted mask) t → ⊥
    no_merge (Merge items) v = let e : Accepted mask ≡ MergeStopped _ _ _ = v.1.reply_is in cc
    no_merge _ v = v

pub found_says : FoundSays
found_says s t key value (inl (inl is)) = (by_live (live_at s key) is.reply_is, is.state_is)
  where
    by_live : (o : Option Value) → Found value ≡ found_or (option_map Found o) → o ≡ Some value
    by_live (Some v) e = let same : value ≡ v = cc in ap Some (sym same)
    by_live None e = absurd (cc)
found_says s t key value (inl (inr w)) = absurd (let e : Found value ≡ Refused _ = w.reply_is in cc)
found_says s t key value (inr w) = absurd w

pub named_says : NamedSays
named_says s t endpoint name (inl (inl is)) = (by_name (name_of (held s) endpoint) is.reply_is, is.state_is)
  where
    by_name : (o : Option (List ℕ)) → Named name ≡ found_or (option_map Named o) → o ≡ Some name
    by_name (Some n) e = let same : name ≡ n = cc in ap Some (sym same)
    by_name None e = absurd (cc)
named_says s t endpoint name (inl (inr w)) = absurd (let e : Named name ≡ Refused _ = w.reply_is in cc)
named_says s t endpoint name (inr w) = absurd w
