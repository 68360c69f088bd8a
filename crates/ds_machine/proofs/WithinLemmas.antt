-- Every state stays within the limits.
use Rattle.std.proofs.Common.{◌≡◌, ℕ, ◌+◌, ◌<◌, ◌≤◌, Bool, true, false, not, ◌&&◌, nat_le, List, [], ◌∷◌, ◌++◌, length, take, fold, filter}
use Rattle.std.proofs.Common.{Option, Some, None, refl, ap, sym, subst, inl, inr, arith, Contains, length-append}
use Rattle.std.proofs.lemmas.Bool.{leb-false, not_from_true}
use Rattle.std.specs.Ordering.{is_le}
use Rattle.std.specs.Option.{option_map_or}
use Rattle.ds_names.specs.Endpoint.{EndpointRecord}
use Rattle.ds_entry.specs.declared.body.Body.{Body}
use Rattle.ds_entry.specs.declared.body.Body.TheVariants.{Put, Gone}
use Rattle.ds_entry.specs.declared.floor.Floor.{Floor}
use Rattle.ds_entry.specs.declared.item.Item.{Item}
use Rattle.ds_entry.specs.declared.item.Item.TheVariants.{Change as Changed, Floor as Floored}
use Rattle.ds_entry.specs.Change.{ChangeRecord}
use Rattle.ds_entry.specs.Floor.{floor_of}
use Rattle.ds_entry.specs.ItemCovers.{covers}
use Rattle.ds_entry.proofs.Members.{Contains-head, Contains-from_filter, Contains-from_take, list_any-from_Contains}
use Rattle.ds_entry.proofs.CoversLemmas.{covers-make}
use Rattle.ds_entry.proofs.ItemLemmas.{below-make}
use Rattle.ds_join.specs.ItemTop.{held_after}
use Rattle.ds_pattern.specs.declared.query.Query.{Query}
use Rattle.ds_held.specs.Kept.{puts_void_by}
use Rattle.ds_machine.specs.Parts.{changes_in, floors_in, held_at, floor_at}
use Rattle.ds_machine.specs.Subscription.{Subscription, is_unseen}
use Rattle.ds_machine.specs.State.{State, held, next_position, takes_effect, owed, unseen, subscribes, subscription_at}
use Rattle.ds_machine.specs.Order.{first_refusal, by_command, by_room}
use Rattle.ds_machine.specs.Standing.{standing_of, floor_standing_of, HasRoom, cause_of, IsFree, IsFloorFree, HasFloorRoom}
use Rattle.ds_machine.specs.Asking.{AskedChange, published, deleted, name_of, asked_in, cause_against, sweep_cause}
use Rattle.ds_machine.specs.Calling.{SubscribeCase, against_subscribe, against_check, against_merge}
use Rattle.ds_machine.specs.Merging.{Course, begun, item_merged, item_judged, merging}
use Rattle.ds_machine.specs.Watching.{subscribing, subscribe_case, owed_at_first, shown_at_first, shows, has_unseen, check_case, checking}
use Rattle.ds_machine.specs.Watching.{checking_at}
use Rattle.ds_machine.specs.Machine.{MergeWantsRoom, outcome, asking, answer_for, sweeping, sweep_answer}
use Rattle.ds_machine.specs.Within.{IsWithin, OpeningIsWithin, StepsStayWithin, RunsStayWithin}
use Rattle.ds_machine.specs.declared.refusal.Cause.{Cause}
use Rattle.ds_machine.specs.declared.refusal.Cause.TheVariants as causes
use Rattle.ds_machine.specs.declared.refusal.Refusal.{Refusal}
use Rattle.ds_machine.specs.declared.refusal.Refusal.TheVariants as refusals
use Rattle.ds_machine.specs.declared.command.Command.{Command}
use Rattle.ds_machine.specs.declared.command.Command.TheVariants.{Publish, Delete, Sweep, Retrieve, NameOf, Subscribe, Check, Since}
use Rattle.ds_machine.specs.declared.command.Command.TheVariants.{Snapshot, Page, Merge}
use Rattle.ds_machine.specs.declared.reply.Reply.{Reply}
use Rattle.ds_machine.specs.declared.reply.Reply.TheVariants.{Changed as Accepted, Swept, Subscribed, Refused}
use Rattle.ds_machine.proofs.PartLemmas.{missing, key_found, owner_found}
use Rattle.ds_machine.proofs.CauseLemmas.{change_free, asked_free, floor_is_free, sweep_is_free}
use Rattle.ds_machine.proofs.CountLemmas.{total, change_weight, floor_weight, changes_total, floors_total, total_filter, total_dropped}
use Rattle.ds_machine.proofs.CountLemmas.{most_after, fold_push}
use Rattle.ds_names.specs.Limits.{most_floors, last_place}

-- ---- one more item takes effect
-- no cause applies to the item
abbrev pub HasPlace : State → Item → Type 0
HasPlace s (Changed c) = IsFree (standing_of s c) c
HasPlace s (Floored f) = IsFloorFree (floor_standing_of s f) f

module _ (s : State) (w : IsWithin s) where
  few_changes : total change_weight (held s) ≤ s.limits.keys
  few_changes = let n = changes_total (held s) in let l : length (changes_in (held s)) ≤ s.limits.keys = w.keys in omega (arith, n, l)

  few_floors : total floor_weight (held s) ≤ most_floors
  few_floors = let n = floors_total (held s) in let l : length (floors_in (held s)) ≤ most_floors = w.floors in omega (arith, n, l)

  -- room for the change is there, or made
  change_room : (c : ChangeRecord) (o : Option ChangeRecord) → held_at (held s) c.key ≡ o →
      HasRoom o (length (changes_in (held s))) s.limits.keys c
      → 1 + total change_weight (filter (λ j. not (covers (Changed c) j)) (held s)) ≤ s.limits.keys
  unfolding change_weight
  change_room c None e room =
      let less = total_filter change_weight (λ j. not (covers (Changed c) j)) (held s) in
      let n = changes_total (held s) in
      let l : length (changes_in (held s)) < s.limits.keys = room in
      omega (arith, less, n, l)
  change_room c (Some h) e room =
      let at = key_found (held s) c.key h e in
      let over : covers (Changed c) (Changed h) ≡ true = covers-make c h (sym at.1) room.0 (ap is_le room.1) in
      let less : total change_weight (filter (λ j. not (covers (Changed c) j)) (held s)) + 1 ≤ total change_weight (held s) =
      total_dropped change_weight
      (λ j. not (covers (Changed c) j)) (held s) (Changed h) at.0 (not_from_true (covers (Changed c) (Changed h)) over) in
      omega (arith, less, few_changes)

  floor_room : (f : Floor) (o : Option Floor) → floor_at (held s) f.owner ≡ o → HasFloorRoom o (length (floors_in (held s))) f
      → 1 + total floor_weight (filter (λ j. not (covers (Floored f) j)) (held s)) ≤ most_floors
  unfolding floor_weight
  floor_room f None e room =
      let less = total_filter floor_weight (λ j. not (covers (Floored f) j)) (held s) in
      let n = floors_total (held s) in
      let l : length (floors_in (held s)) < most_floors = room in
      omega (arith, less, n, l)
  floor_room f (Some g) e room =
      let at = owner_found (held s) f.owner g e in
      let low : g.generation < f.generation = room in
      let over : covers (Floored f) (Floored g) ≡ true =
      below-make g.owner f.owner g.generation f.generation (sym at.1) (omega (arith, low)) in
      let less : total floor_weight (filter (λ j. not (covers (Floored f) j)) (held s)) + 1 ≤ total floor_weight (held s) =
      total_dropped floor_weight
      (λ j. not (covers (Floored f) j)) (held s) (Floored g) at.0 (not_from_true (covers (Floored f) (Floored g)) over) in
      omega (arith, less, few_floors)

  -- the position after one more
  position_more : (i : Item) → next_position s < last_place → next_position (takes_effect s (i ∷ [])) ≤ last_place
  position_more i l =
      let n = length-append s.feed.accepted (i ∷ []) in
      omega (arith, l, n)

  within_by : (i : Item) → total change_weight (held_after (held s) i) ≤ s.limits.keys →
      total floor_weight (held_after (held s) i) ≤ most_floors → next_position s < last_place → IsWithin (takes_effect s (i ∷ []))
  within_by i few low left =
      let now : held (takes_effect s (i ∷ [])) ≡ held_after (held s) i = fold_push held_after [] s.feed.accepted i in
      let n = changes_total (held_after (held s) i) in
      let m = floors_total (held_after (held s) i) in
      record {
        keys = subst (λ l. length (changes_in l) ≤ s.limits.keys) (sym now) (omega (arith, n, few));
        floors = subst (λ l. length (floors_in l) ≤ most_floors) (sym now) (omega (arith, m, low));
        position = position_more i left;
        stamp = w.stamp;
      }

  pub within_more : (i : Item) → HasPlace s i → IsWithin (takes_effect s (i ∷ []))
  unfolding change_weight floor_weight
  within_more (Changed c) free =
      let less = total_filter floor_weight (λ j. not (covers (Changed c) j)) (held s) in
      within_by (Changed c)
      (most_after change_weight (held s) (Changed c) s.limits.keys few_changes (change_room c (held_at (held s) c.key) refl free.room))
      (most_after floor_weight (held s) (Changed c) most_floors few_floors (omega (arith, less, few_floors))) free.left
  within_more (Floored f) free =
      let less = total_filter change_weight (λ j. not (covers (Floored f) j)) (held s) in
      within_by (Floored f)
      (most_after change_weight (held s) (Floored f) s.limits.keys few_changes (omega (arith, less, few_changes)))
      (most_after floor_weight (held s) (Floored f) most_floors few_floors (floor_room f (floor_at (held s) f.owner) refl free.room))
      free.left

  -- ---- a subscription was written
  within_served : (sub : ℕ) (query : Query) (shown : List Item) → nat_le last_place s.stamp ≡ false →
      IsWithin (subscribes s sub query shown)
  within_served sub query shown e = let l : s.stamp < last_place = leb-false last_place s.stamp e in
      record { keys = w.keys; floors = w.floors; position = w.position; stamp = omega (arith, l) }

item_place : (s : State) (i : Item) → cause_of s i ≡ None → HasPlace s i
item_place s (Changed c) e = change_free (standing_of s c) c e
item_place s (Floored f) e = floor_is_free (floor_standing_of s f) f e

asked_place : (s : State) (a : AskedChange) (body : Body) → cause_against s a body ≡ None → HasPlace s (Changed (asked_in s a body))
asked_place s a body q = asked_free (standing_of s (asked_in s a body)) (name_of (held s) a.caller) a body q

swept_place : (s : State) (caller : EndpointRecord) (f : Floor) → sweep_cause s caller f ≡ None → HasPlace s (Floored f)
swept_place s caller f q = sweep_is_free (floor_standing_of s f) caller f q

-- ---- a merge
within_course : (items : List Item) (k : Course) → IsWithin k.state → IsWithin (fold item_merged k items).state
within_course [] k w = w
within_course (i ∷ items) k w = by_stop (λ x v. within_course items x v) k.stop refl
  where
    at : Option Refusal → Course
    at o = option_map_or {U = Course} (λ stop. k) o (item_judged k i (cause_of k.state i))

    by_cause : ((x : Course) → IsWithin x.state → IsWithin (fold item_merged x items).state) → (o : Option Cause) →
        cause_of k.state i ≡ o → IsWithin (fold item_merged (item_judged k i o) items).state
    by_cause more None q = more (item_judged k i None) (within_more k.state w i (item_place k.state i q))
    by_cause more (Some causes.Known) q = more (item_judged k i (Some causes.Known)) w
    by_cause more (Some (causes.Refused refusals.Stale)) q = more (item_judged k i (Some (causes.Refused refusals.Stale))) w
    by_cause more (Some (causes.Refused fault)) q = more (record k { stop = Some fault }) w

    by_stop : ((x : Course) → IsWithin x.state → IsWithin (fold item_merged x items).state) → (o : Option Refusal) → k.stop ≡ o →
        IsWithin (fold item_merged (item_merged k i) items).state
    by_stop more (Some stop) q = subst (λ (x : Course). IsWithin (fold item_merged x items).state) (sym (ap at q)) (more k w)
    by_stop more None q = subst (λ (x : Course). IsWithin (fold item_merged x items).state) (sym (ap at q))
        (by_cause more (cause_of k.state i) refl)

-- ---- all commands
module _ (s t : State) (w : IsWithin s) where
  same : t ≡ s → IsWithin t
  same e = subst IsWithin (sym e) w

  asked_within : (a : AskedChange) (body : Body) → t ≡ (asking s a body).1 → IsWithin t
  asked_within a body e = by_cause (cause_against s a body) refl e
    where
      i : Item
      i = Changed (asked_in s a body)

      by_cause : (o : Option Cause) → cause_against s a body ≡ o →
          t ≡ (option_map_or {U = Reply × State} (λ cause. (answer_for cause, s)) o
          (Accepted (owed s (i ∷ [])), takes_effect s (i ∷ []))).1 → IsWithin t
      by_cause (Some cause) q f = same f
      by_cause None q f = subst IsWithin (sym f) (within_more s w i (asked_place s a body q))

  swept_within : (caller : EndpointRecord) (f : Floor) → t ≡ (sweeping s caller f).1 → IsWithin t
  swept_within caller f e = by_cause (sweep_cause s caller f) refl e
    where
      by_cause : (o : Option Cause) → sweep_cause s caller f ≡ o →
          t ≡ (option_map_or {U = Reply × State} (λ cause. (sweep_answer cause, s)) o
          (Swept (length (puts_void_by f (changes_in (held s)))) (owed s (Floored f ∷ [])), takes_effect s (Floored f ∷ []))).1 → IsWithin t
      by_cause (Some cause) q g = same g
      by_cause None q g = subst IsWithin (sym g) (within_more s w (Floored f) (swept_place s caller f q))

  merged_within : (items : List Item) (o : Option Refusal) → t ≡ (merging s items o).1 → IsWithin t
  merged_within items (Some refusal) e = same e
  merged_within items None e = subst IsWithin (sym e) (within_course items (begun s) w)

  subscribed_within : (sub : ℕ) (query : Query) (initial overwrite : Bool) → t ≡ (subscribing s sub query initial overwrite).1 → IsWithin t
  subscribed_within sub query initial overwrite e = by_cause (first_refusal (against_subscribe x)) refl e
    where
      x : SubscribeCase
      x = subscribe_case s sub query overwrite

      by_cause : (o : Option Refusal) → first_refusal (against_subscribe x) ≡ o
          → t ≡ (option_map_or {U = Reply × State} (λ refusal. (Refused refusal, s)) o (
            Subscribed (s.stamp + 1) (owed_at_first (held s) sub query initial),
            subscribes s sub query
                (shown_at_first (held s) initial),
          )).1 → IsWithin t
      by_cause (Some refusal) q f = same f
      by_cause None q f =
          subst IsWithin (sym f) (within_served s w sub query (shown_at_first (held s) initial)
          (missing (against_subscribe x) (by_command ++ by_room) refusals.Worn q (15, omega arith, refl)))

  checked_within : (sub max : ℕ) → t ≡ (checking s sub max).1 → IsWithin t
  checked_within sub max e = by_seer (subscription_at s sub) e
    where
      and_right : (a b : Bool) → a && b ≡ false → a ≡ true → b ≡ false
      and_right true b f g = f
      and_right false b f g = absurd (cc)

      -- something is to be shown, so a stamp is left
      stamp_left : (seer : Subscription) (i : Item) → Contains (take max (unseen s seer)) i →
          first_refusal (against_check (check_case s sub max (Some seer))) ≡ None → nat_le last_place s.stamp ≡ false
      stamp_left seer i h q =
          let from = Contains-from_filter (is_unseen seer.query seer.shown) (held s) i (Contains-from_take max (unseen s seer) i h) in
          let some : has_unseen s seer ≡ true = list_any-from_Contains (is_unseen seer.query seer.shown) (held s) i from.0 from.1 in
          and_right (has_unseen s seer) (nat_le last_place s.stamp)
          (missing (against_check (check_case s sub max (Some seer))) (by_command ++ by_room) refusals.Worn q (15, omega arith, refl)) some

      by_items : (seer : Subscription) (items : List Item) → ((i : Item) → Contains items i → nat_le last_place s.stamp ≡ false) →
          t ≡ (shows s sub seer items).1 → IsWithin t
      by_items seer [] left f = same f
      by_items seer (i ∷ items) left f = subst IsWithin (sym f)
          (within_served s w sub seer.query (seer.shown ++ i ∷ items) (left i (Contains-head i items)))

      by_cause : (o : Option Subscription) (p : Option Refusal) → first_refusal (against_check (check_case s sub max o)) ≡ p
          → t ≡ (option_map_or {U = Reply × State} (λ refusal. (Refused refusal, s)) p
          (option_map_or {U = Reply × State} (λ f. shows s sub f (take max (unseen s f))) o (Refused refusals.NotFound, s))).1 → IsWithin t
      by_cause o (Some refusal) q f = same f
      by_cause None None q f = same f
      by_cause (Some seer) None q f = by_items seer (take max (unseen s seer)) (λ i h. stamp_left seer i h q) f

      by_seer : (o : Option Subscription) → t ≡ (checking_at s sub max o).1 → IsWithin t
      by_seer o f = by_cause o (first_refusal (against_check (check_case s sub max o))) refl f

  unread : {X : Type 0} (o : Option X) (f : X → Reply) (reply : Reply) →
      t ≡ (option_map_or {U = Reply × State} (λ x. (f x, s)) o (reply, s)).1 → IsWithin t
  unread (Some x) f reply e = same e
  unread None f reply e = same e

  outcome_within : (command : Command) → t ≡ (outcome s command).1 → IsWithin t
  outcome_within (Publish caller key version value overwrite) e = asked_within (published caller key version overwrite) (Put value) e
  outcome_within (Delete caller key version) e = asked_within (deleted caller key version) Gone e
  outcome_within (Sweep caller owner generation) e = swept_within caller (floor_of owner generation) e
  outcome_within (Retrieve key) e = same e
  outcome_within (NameOf endpoint) e = same e
  outcome_within (Subscribe sub query initial overwrite) e = subscribed_within sub query initial overwrite e
  outcome_within (Check sub max) e = checked_within sub max e
  outcome_within (Since scope at max) e = unread _ _ _ e
  outcome_within (Snapshot scope) e = unread _ _ _ e
  outcome_within (Page scope after max) e = unread _ _ _ e
  outcome_within (Merge items) e = merged_within items (first_refusal (against_merge (length items))) e

  wanting_within : (command : Command) (reply : Reply) → MergeWantsRoom s command reply t → IsWithin t
  wanting_within (Merge items) reply v = subst IsWithin (sym v.1.state_is) (within_course (take v.0 items) (begun s) w)
  wanting_within (Publish caller key version value overwrite) reply v = absurd v
  wanting_within (Delete caller key version) reply v = absurd v
  wanting_within (Sweep caller owner generation) reply v = absurd v
  wanting_within (Retrieve key) reply v = absurd v
  wanting_within (NameOf endpoint) reply v = absurd v
  wanting_within (Subscribe sub query initial overwrite) reply v = absurd v
  wanting_within (Check sub max) reply v = absurd v
  wanting_within (Since scope at max) reply v = absurd v
  wanting_within (Snapshot scope) reply v = absurd v
  wanting_within (Page scope after max) reply v = absurd v

pub steps_stay_within : StepsStayWithin
steps_stay_within s t command reply w (inl (inl is)) = outcome_within s t w command is.state_is
steps_stay_within s t command reply w (inl (inr wants)) = subst IsWithin (sym wants.state_is) w
steps_stay_within s t command reply w (inr wants) = wanting_within s t w command reply wants

pub runs_stay_within : RunsStayWithin
runs_stay_within s t [] [] w run = subst IsWithin (sym run) w
runs_stay_within s t (command ∷ commands) (reply ∷ replies) w run =
    runs_stay_within run.0 t commands replies (steps_stay_within s run.0 command reply w run.1) run.2
runs_stay_within s t [] (reply ∷ replies) w run = absurd run
runs_stay_within s t (command ∷ commands) [] w run = absurd run

at_least_none : (n : ℕ) → 0 ≤ n
at_least_none n = omega arith

none_more : (m n : ℕ) → m ≤ n → m + 0 ≤ n
none_more m n l = omega (arith, l)

pub opening_is_within : OpeningIsWithin
opening_is_within incarnation first ring limits l =
    record { keys = at_least_none limits.keys; floors = at_least_none most_floors; position = none_more first last_place l; stamp = l }
