-- The numbers in a reply have 64 bits.
use Rattle.std.proofs.Common.{◌≡◌, ℕ, suc, zero, ◌+◌, ◌-◌, ◌<◌, ◌≤◌, ◌^◌, ◌==◌, ◌&&◌, ◌||◌, Bool, true, false, not, cond, nat_le, nat_lt}
use Rattle.std.proofs.Common.{List, [], ◌∷◌, ◌++◌, length, map, take, filter, fold, Option, Some, None, is_some, inl, inr}
use Rattle.std.proofs.Common.{refl, sym, ap, subst, arith, length-append, length-take, length-drop}
use Rattle.std.specs.List.{find}
use Rattle.std.specs.Option.{option_map, option_map_or, option_and_then}
use Rattle.std.proofs.lemmas.Bool.{false≢true, leb-true, ltb-true, ltb-false, eqb-true}
use Rattle.std.proofs.lemmas.Bool.Decides.{nat_tests}
use Rattle.std.proofs.lemmas.List.Filters.{length-filter_both}
use Rattle.std.proofs.lemmas.Option.{same_Some}
use Rattle.ds_names.specs.Endpoint.{EndpointRecord, is_rs}
use Rattle.ds_names.specs.declared.key.Key.{Key}
use Rattle.ds_names.specs.declared.version.Version.{Version}
use Rattle.ds_entry.specs.Change.{ChangeRecord, IsBody, IsChange, IsValue}
use Rattle.ds_names.specs.Name.{rs_name}
use Rattle.ds_entry.specs.Floor.{floor_of}
use Rattle.ds_entry.specs.Item.{IsItem}
use Rattle.ds_entry.specs.Void.{voids}
use Rattle.ds_entry.specs.declared.body.Value.{Value}
use Rattle.ds_entry.specs.declared.body.Body.{Body}
use Rattle.ds_entry.specs.declared.body.Body.TheVariants.{Put, Gone}
use Rattle.ds_entry.specs.declared.floor.Floor.{Floor}
use Rattle.ds_entry.specs.declared.item.Item.{Item}
use Rattle.ds_entry.specs.declared.item.Item.TheVariants.{Change as Changed, Floor as Floored}
use Rattle.ds_entry.proofs.Members.{Contains-head, Contains-tail, none_pass}
use Rattle.ds_join.specs.Label.{names_endpoint}
use Rattle.ds_entry.specs.Left.{value_in, value_of}
use Rattle.ds_feed.specs.Feed.{from}
use Rattle.ds_feed.specs.Page.{is_floor, is_after_key, still_to_come, floors_of, changes_of, page_of}
use Rattle.ds_feed.specs.Since.{prefix, piece, since_of}
use Rattle.ds_feed.specs.declared.cursor.Cursor.{Cursor}
use Rattle.ds_machine.specs.Asking.{AskedChange, published, deleted, name_of, asked_in, against_asked, against_sweep, cause_against}
use Rattle.ds_machine.specs.Asking.{sweep_cause}
use Rattle.ds_machine.specs.Calling.{against_check, against_merge, against_subscribe, against_scope, against_since, against_page}
use Rattle.ds_names.specs.Limits.{last_place}
use Rattle.ds_machine.specs.Machine.{Step, outcome, answer_for, sweep_answer, found_or, live_at}
use Rattle.ds_machine.specs.Merging.{Course, begun, course, item_merged, item_judged, merging}
use Rattle.ds_machine.specs.Order.{first_cause, first_refusal, by_command, by_version, by_room}
use Rattle.ds_machine.specs.Parts.{changes_in, floors_in, held_at}
use Rattle.ds_machine.specs.Reached.{IsReached}
use Rattle.ds_machine.specs.Scope.{is_kept}
use Rattle.ds_machine.specs.Standing.{cause_of, standing_of, floor_standing_of, against_change, against_floor}
use Rattle.ds_machine.specs.State.{State, held, next_position, cursor, takes_effect, owed, unseen, subscription_at}
use Rattle.ds_machine.specs.Subscription.{Subscription, is_unseen}
use Rattle.ds_machine.specs.Watching.{shows, check_case, checking_at, subscribe_case}
use Rattle.ds_machine.specs.Within.{IsWithin}
use Rattle.ds_machine.specs.declared.command.Command.{Command}
use Rattle.ds_machine.specs.declared.command.Command.TheVariants.{Publish, Delete, Sweep, Retrieve, NameOf, Subscribe, Check, Since}
use Rattle.ds_machine.specs.declared.command.Command.TheVariants.{Snapshot, Page, Merge}
use Rattle.ds_machine.specs.declared.command.Scope.{Scope}
use Rattle.ds_machine.specs.declared.refusal.Cause.{Cause}
use Rattle.ds_machine.specs.declared.refusal.Cause.TheVariants as causes
use Rattle.ds_machine.specs.declared.refusal.Refusal.{Refusal}
use Rattle.ds_machine.specs.declared.refusal.Refusal.TheVariants as refusals
use Rattle.ds_machine.specs.declared.reply.Reply.{Reply}
use Rattle.ds_machine.specs.declared.reply.Reply.TheVariants.{Swept, Found, Named, Subscribed, Checked, Journaled, Snapped, Paged, Merged}
use Rattle.ds_machine.specs.declared.reply.Reply.TheVariants.{MergeStopped, Refused}
use Rattle.ds_machine.proofs.OneStepLemmas.{none_some}
use Rattle.ds_machine.proofs.PartLemmas.{found, missing, changes_in-from}
use Rattle.ds_machine.proofs.ReachedLemmas.{held_is_top}
use Rattle.ds_replica.specs.Bringing.{IsProper}
use Rattle.ds_replica.specs.CaughtUp.{AreItems}
use Rattle.ds_machine.specs.Given.{IsSmall}
use Rattle.trace_walk.specs.declared.asked.Asked.{Asked}
use Rattle.trace_walk.specs.declared.header.Format.{Format}
use Rattle.trace_walk.specs.declared.header.Format.TheVariants.{One, Two}
use Rattle.trace_walk.specs.Legal.{StepOf}
use Rattle.trace_walk.specs.OneReply.{IsTraced}
use Rattle.trace_walk.specs.Sweep.{older_sweep, tombstones}
use Rattle.trace_walk.specs.Text.{MayAsk, command_asked}
use Rattle.trace_walk.proofs.HeaderLemmas.{few_limits}
use Rattle.trace_walk.proofs.OneReplyLemmas.{asked_small}
use Rattle.trace_walk.proofs.TracedLemmas.{asked_proper}

abbrev pub IsFew : ℕ → Type 0
IsFew n = n < 2 ^ 64

abbrev pub IsFewFault : Refusal → Type 0
IsFewFault (refusals.Clash v) = IsFew v.epoch × IsFew v.seq
IsFewFault _ = Unit {0}

abbrev pub IsFewCursor : Cursor → Type 0
IsFewCursor c = IsFew c.incarnation × IsFew c.position

abbrev pub IsFewReply : Reply → Type 0
IsFewReply (Swept count owed) = IsFew count
IsFewReply (Found value) = IsValue value
IsFewReply (Named name) = length name ≤ 64
IsFewReply (Subscribed stamp owed) = IsFew stamp
IsFewReply (Checked items before after) = IsFew (length items) × IsFew before × IsFew after
IsFewReply (Journaled since) = IsFew (length since.items) × IsFewCursor since.cursor
IsFewReply (Snapped snapshot) = IsFew (length snapshot.items) × IsFewCursor snapshot.cursor
IsFewReply (Paged page) = IsFew (length page.items) × IsFewCursor page.cursor
IsFewReply (Merged done taken stale owed) = IsFew done × IsFew taken × IsFew stale
IsFewReply (MergeStopped done fault owed) = IsFew done × IsFewFault fault
IsFewReply (Refused fault) = IsFewFault fault
IsFewReply _ = Unit {0}

-- ---- bounds

filter_few : {X : Type 0} (p : X → Bool) (xs : List X) → length (filter p xs) ≤ length xs
filter_few p xs = omega (arith, length-filter_both p (λ x. not (p x)) (λ x. refl) xs)

parts_are : (items : List Item) → length items ≡ length (changes_in items) + length (floors_in items)
parts_are [] = refl
parts_are (Changed c ∷ items) = omega (arith, parts_are items)
parts_are (Floored f ∷ items) = omega (arith, parts_are items)

prefix_few : (test : Item → Bool) (max : ℕ) (items : List Item) → length (prefix test max items) ≤ length items
prefix_few test zero items = omega arith
prefix_few test (suc max) [] = omega arith
prefix_few test (suc max) (i ∷ items) = omega (arith, prefix_few test (cond (test i) max (suc max)) items)

-- ---- causes

-- a clash whose version is above those of changes
abbrev is_wide_version : Version → Bool
is_wide_version v = not (nat_le v.epoch 2097151 && nat_lt v.seq 4294967296)

abbrev is_wide : Refusal → Bool
is_wide (refusals.Clash v) = is_wide_version v
is_wide _ = false

abbrev is_wide_cause : Cause → Bool
is_wide_cause causes.Known = false
is_wide_cause (causes.Refused r) = is_wide r

abbrev IsNarrow : Version → Type 0
IsNarrow v = (v.epoch ≤ 2097151) × (v.seq < 2 ^ 32)

narrow_test : (v : Version) → IsNarrow v → is_wide_version v ≡ false
narrow_test v is = grind (arith, nat_tests)

narrow_few : (v : Version) → is_wide_version v ≡ false → IsFew v.epoch × IsFew v.seq
narrow_few v e = by_tests (nat_le v.epoch 2097151) (nat_lt v.seq 4294967296) refl refl e
  where
    by_tests : (a b : Bool) → nat_le v.epoch 2097151 ≡ a → nat_lt v.seq 4294967296 ≡ b → not (a && b) ≡ false → IsFew v.epoch × IsFew v.seq
    by_tests true true p q r = (omega (arith, leb-true v.epoch 2097151 p), omega (arith, ltb-true v.seq 4294967296 q))
    by_tests true false p q r = absurd (false≢true (sym r))
    by_tests false b p q r = absurd (false≢true (sym r))

fault_few : (r : Refusal) → is_wide r ≡ false → IsFewFault r
fault_few (refusals.Clash v) e = narrow_few v e
fault_few _ e = tt

change_cause : (v : Version) (stands : Cause → Bool) (c : Cause) → IsNarrow v → first_cause (Some v) stands ≡ Some c →
    is_wide_cause c ≡ false
change_cause v stands c is e =
    let order : List Cause = map causes.Refused by_command ++ by_version (Some v) ++ map causes.Refused by_room in
    none_pass is_wide_cause order c (ap (λ (b : Bool). b || false) (narrow_test v is)) (found stands order c e).0

floor_cause : (stands : Cause → Bool) (c : Cause) → first_cause None stands ≡ Some c → is_wide_cause c ≡ false
floor_cause stands c e = let order : List Cause = map causes.Refused by_command ++ by_version None ++ map causes.Refused by_room in
    none_pass is_wide_cause order c refl (found stands order c e).0

other_cause : (stands : Refusal → Bool) (r : Refusal) → first_refusal stands ≡ Some r → is_wide r ≡ false
other_cause stands r e = let order : List Refusal = by_command ++ by_room in none_pass is_wide order r refl (found stands order r e).0

answer_few : (c : Cause) → is_wide_cause c ≡ false → IsFewReply (answer_for c)
answer_few causes.Known e = tt
answer_few (causes.Refused r) e = fault_few r e

sweep_few : (c : Cause) → is_wide_cause c ≡ false → IsFewReply (sweep_answer c)
sweep_few causes.Known e = omega arith
sweep_few (causes.Refused refusals.Stale) e = omega arith
sweep_few (causes.Refused (refusals.Clash v)) e = narrow_few v e
sweep_few (causes.Refused _) e = tt

-- ---- what is found

body_value : (b : Body) (v : Value) → IsBody b → value_in b ≡ Some v → IsValue v
body_value (Put x) v is e = subst IsValue (same_Some x v e) is
body_value Gone v is e = absurd (none_some v e)

found_value : (o : Option ChangeRecord) (v : Value) → ((c : ChangeRecord) → o ≡ Some c → IsChange c) →
    option_and_then value_of o ≡ Some v → IsValue v
found_value (Some c) v all e = body_value c.body v (all c refl).body e
found_value None v all e = absurd (none_some v e)

found_few : (o : Option Value) → ((v : Value) → o ≡ Some v → IsValue v) → IsFewReply (found_or (option_map Found o))
found_few (Some v) all = all v refl
found_few None all = tt

named_few : (o : Option (List ℕ)) → ((n : List ℕ) → o ≡ Some n → length n ≤ 64) → IsFewReply (found_or (option_map Named o))
named_few (Some n) all = all n refl
named_few None all = tt

name_few : (b : Bool) (o : Option ChangeRecord) (n : List ℕ) → ((c : ChangeRecord) → o ≡ Some c → IsChange c) →
    cond b (Some rs_name) (option_map (λ (c : ChangeRecord). c.key.name) o) ≡ Some n → length n ≤ 64
name_few true o n all e = omega (arith, ap length (same_Some rs_name n e))
name_few false (Some c) n all e = subst (λ (l : List ℕ). length l ≤ 64) (same_Some c.key.name n e) (all c refl).name.limit
name_few false None n all e = absurd (none_some n e)

-- ---- a merge

abbrev IsFewStop : Option Refusal → Type 0
IsFewStop stop = option_map_or is_wide stop false ≡ false

-- how many items were looked at
record Counts (k : Course) (n : ℕ) : Type 0 where
  done : k.done ≤ n
  taken : length k.taken ≤ n
  stale : k.stale ≤ n
  stop : IsFewStop k.stop

item_cause : (s : State) (i : Item) (c : Cause) → IsItem i → cause_of s i ≡ Some c → is_wide_cause c ≡ false
item_cause s (Changed d) c is e = change_cause d.version (against_change (standing_of s d) d) c (is.epoch, is.seq) e
item_cause s (Floored f) c is e = floor_cause (against_floor (floor_standing_of s f) f) c e

stopped_counts : (k : Course) (n : ℕ) (r : Refusal) → Counts k n → is_wide r ≡ false → Counts (record k { stop = Some r }) (n + 1)
stopped_counts k n r x e = record { done = omega (arith, x.done); taken = omega (arith, x.taken); stale = omega (arith, x.stale); stop = e }

judged_counts : (k : Course) (n : ℕ) (i : Item) (o : Option Cause) → Counts k n → ((c : Cause) → o ≡ Some c → is_wide_cause c ≡ false) →
    Counts (item_judged k i o) (n + 1)
judged_counts k n i None x all =
    record {
      done = omega (arith, x.done);
      taken = omega (arith, x.taken, length-append k.taken (i ∷ []));
      stale = omega (arith, x.stale);
      stop =
          x.stop;
    }
judged_counts k n i (Some causes.Known) x all =
    record { done = omega (arith, x.done); taken = omega (arith, x.taken); stale = omega (arith, x.stale); stop = x.stop }
judged_counts k n i (Some (causes.Refused refusals.Stale)) x all =
    record { done = omega (arith, x.done); taken = omega (arith, x.taken); stale = omega (arith, x.stale); stop = x.stop }
judged_counts k n i (Some (causes.Refused r)) x all = stopped_counts k n r x (all (causes.Refused r) refl)

merged_counts : (k : Course) (n : ℕ) (i : Item) (stop : Option Refusal) → IsItem i → Counts k n →
    Counts (option_map_or {U = Course} (λ (r : Refusal). k) stop (item_judged k i (cause_of k.state i))) (n + 1)
merged_counts k n i (Some r) is x = record
    { done = omega (arith, x.done); taken = omega (arith, x.taken); stale = omega (arith, x.stale); stop = x.stop }
merged_counts k n i None is x = judged_counts k n i (cause_of k.state i) x (λ c e. item_cause k.state i c is e)

course_counts : (items : List Item) (k : Course) (n : ℕ) → AreItems items → Counts k n →
    Counts (fold item_merged k items) (n + length items)
course_counts [] k n are x =
    record { done = omega (arith, x.done); taken = omega (arith, x.taken); stale = omega (arith, x.stale); stop = x.stop }
course_counts (i ∷ items) k n are x =
    let one = merged_counts k n i k.stop (are i (Contains-head i items)) x in
    let all = course_counts items (item_merged k i) (n + 1) (λ j m. are j (Contains-tail i items j m)) one in
    record { done = omega (arith, all.done); taken = omega (arith, all.taken); stale = omega (arith, all.stale); stop = all.stop }

merge_few : (s : State) (k : Course) (o : Option Refusal)
    → k.done ≤ 256 → length k.taken ≤ 256 → k.stale ≤ 256 → IsFewStop o
    → IsFewReply
    (option_map_or {U = Reply}
    (λ fault. MergeStopped k.done fault (owed s k.taken))
    o
    (Merged k.done (length k.taken) k.stale (owed s k.taken)))
merge_few s k (Some r) a b c e = (omega (arith, a), fault_few r e)
merge_few s k None a b c e = (omega (arith, a), omega (arith, b), omega (arith, c))

-- ---- all commands

few_or : {X : Type 0} (s : State) (o : Option X) (f : X → Reply) (reply : Reply) (new : State)
    → ((x : X) → o ≡ Some x → IsFewReply (f x)) → (o ≡ None → IsFewReply reply)
    → IsFewReply (option_map_or {U = Reply × State} (λ x. (f x, s)) o (reply, new)).0
few_or s (Some x) f reply new each own = each x refl
few_or s None f reply new each own = own refl

refusal_or : (s : State) (stands : Refusal → Bool) (reply : Reply) (new : State) → (first_refusal stands ≡ None → IsFewReply reply) →
    IsFewReply (option_map_or {U = Reply × State} (λ r. (Refused r, s)) (first_refusal stands) (reply, new)).0
refusal_or s stands reply new own = few_or s (first_refusal stands) Refused reply new (λ r e. fault_few r (other_cause stands r e)) own

module _ (s : State) (reached : IsReached s) (within : IsWithin s) (are : AreItems s.feed.accepted)
    (incarnation : IsFew s.feed.incarnation) where
  held_few : length (held s) ≤ 5000
  held_few = omega (arith, parts_are (held s), within.keys, within.floors, (few_limits s.limits reached.limits).1)

  held_change : (test : ChangeRecord → Bool) (c : ChangeRecord) → find test (changes_in (held s)) ≡ Some c → IsChange c
  held_change test c e = are (Changed c) ((held_is_top s reached).among (Changed c)
      (changes_in-from (held s) c (found test (changes_in (held s)) c e).0))

  cursor_few : IsFewCursor (cursor s)
  cursor_few = (incarnation, omega (arith, within.position))

  shows_few : (sub : ℕ) (seer : Subscription) (items : List Item) → seer.stamp ≤ s.stamp → length items ≤ 5000 →
      IsFewReply (shows s sub seer items).0
  shows_few sub seer [] stamp few = (omega arith, omega (arith, stamp, within.stamp), omega (arith, stamp, within.stamp))
  shows_few sub seer (i ∷ items) stamp few = (omega (arith, few), omega (arith, stamp, within.stamp), omega (arith, within.stamp))

  unseen_few : (max : ℕ) (seer : Subscription) → length (take max (unseen s seer)) ≤ 5000
  unseen_few max seer = omega (arith, length-take max (unseen s seer), filter_few (is_unseen seer.query seer.shown) (held s), held_few)

  check_few : (sub max : ℕ) (o : Option Subscription) → ((seer : Subscription) → o ≡ Some seer → seer.stamp ≤ s.stamp) →
      IsFewReply (checking_at s sub max o).0
  check_few sub max o stamps = by_cause o (first_refusal (against_check (check_case s sub max o))) stamps
      (λ r e. other_cause (against_check (check_case s sub max o)) r e)
    where
      by_cause : (o : Option Subscription) (p : Option Refusal) → ((seer : Subscription) → o ≡ Some seer → seer.stamp ≤ s.stamp) →
          ((r : Refusal) → p ≡ Some r → is_wide r ≡ false) →
          IsFewReply (option_map_or {U = Reply × State} (λ r. (Refused r, s)) p
          (option_map_or {U = Reply × State} (λ f. shows s sub f (take max (unseen s f))) o (Refused refusals.NotFound, s))).0
      by_cause o (Some r) stamps all = fault_few r (all r refl)
      by_cause None None stamps all = tt
      by_cause (Some seer) None stamps all = shows_few sub seer (take max (unseen s seer)) (stamps seer refl) (unseen_few max seer)

  piece_few : (test : Item → Bool) (at : Cursor) (max : ℕ) → length (piece s.feed test at max) ≤ last_place
  piece_few test at max =
      let all : next_position s ≤ last_place = within.position in
      omega (arith, prefix_few test max (from s.feed at.position), length-drop (at.position - s.feed.first) s.feed.accepted, all)

  since_few : (scope : Scope) (at : Cursor) (max : ℕ) → first_refusal (against_since s.feed scope at max) ≡ None →
      IsFewReply (Journaled (since_of s.feed (is_kept scope) at max))
  since_few scope at max e =
      let order : List Refusal = by_command ++ by_room in
      let stands : Refusal → Bool = against_since s.feed scope at max in
      let old : not (at.incarnation == s.feed.incarnation) ≡ false = missing stands order refusals.OldCursor e (11, omega arith, refl) in
      let ahead : nat_lt (next_position s) at.position ≡ false = missing stands order refusals.Ahead e (12, omega arith, refl) in
      let here : at.incarnation ≡ s.feed.incarnation = same_by (at.incarnation == s.feed.incarnation) old refl in
      let below : at.position ≤ next_position s = ltb-false (next_position s) at.position ahead in
      let few = piece_few (is_kept scope) at max in (
        omega (arith, filter_few (is_kept scope) (piece s.feed (is_kept scope) at max), few),
        (subst IsFew (sym here) incarnation, omega (arith, few, below, within.position)),
      )
    where
      same_by : (b : Bool) → not b ≡ false → (at.incarnation == s.feed.incarnation) ≡ b → at.incarnation ≡ s.feed.incarnation
      same_by true n q = eqb-true at.incarnation s.feed.incarnation q
      same_by false n q = absurd (false≢true (sym n))

  page_few : (test : Item → Bool) (after : Option Key) (max : ℕ) → IsFewReply (Paged (page_of test after max (held s) (cursor s)))
  page_few test after max =
      let coming : List Item = still_to_come test after (held s) in
      let some = filter_few (is_after_key after) (filter test (held s)) in (
        omega (
          arith,
          some,
          filter_few test (held s),
          held_few,
          length-append (floors_of coming) (take max (changes_of coming)),
          filter_few is_floor coming,
          length-take max (changes_of coming),
          filter_few (λ (i : Item). not (is_floor i)) coming,
        ),
        cursor_few,
      )

  pub few_outcome : (command : Command) → IsProper command → IsSmall command → IsFewReply (outcome s command).0
  few_outcome (Publish caller key version value overwrite) proper small =
      let a : AskedChange = published caller key version overwrite in
      few_or s (cause_against s a (Put value)) answer_for _ _
      (λ c e.
      answer_few c
      (change_cause version
      (against_asked (standing_of s (asked_in s a (Put value))) (name_of (held s) a.caller) a (Put value)) c
      (proper.epoch, proper.seq) e))
      (λ e. tt)
  few_outcome (Delete caller key version) proper small =
      let a : AskedChange = deleted caller key version in
      few_or s (cause_against s a Gone) answer_for _ _
      (λ c e. answer_few c (change_cause version (against_asked (standing_of s (asked_in s a Gone)) (name_of (held s) a.caller) a Gone) c
      (proper.epoch, proper.seq) e)) (λ e. tt)
  few_outcome (Sweep caller owner generation) proper small =
      let f : Floor = floor_of owner generation in
      few_or s (sweep_cause s caller f) sweep_answer _ _
      (λ c e. sweep_few c (floor_cause (against_sweep (floor_standing_of s f) caller f) c e))
      (λ e.
      omega (
        arith,
        filter_few (λ (c : ChangeRecord). voids f c && is_some (value_of c)) (changes_in (held s)),
        within.keys,
        (few_limits s.limits reached.limits).1,
      ))
  few_outcome (Retrieve key) proper small = found_few (live_at s key)
      (λ v e. found_value (held_at (held s) key) v (λ c q. held_change _ c q) e)
  few_outcome (NameOf endpoint) proper small =
      named_few (name_of (held s) endpoint) (λ n e.
      name_few (is_rs endpoint) (find (names_endpoint endpoint) (changes_in (held s))) n (λ c q. held_change (names_endpoint endpoint) c q)
      e)
  few_outcome (Subscribe sub query initial overwrite) proper small =
      refusal_or s (against_subscribe (subscribe_case s sub query overwrite)) _ _ (λ e. omega (arith, within.stamp))
  few_outcome (Check sub max) proper small = check_few sub max (subscription_at s sub) (λ seer e. (reached.served sub seer e).stamp)
  few_outcome (Since scope at max) proper small = refusal_or s (against_since s.feed scope at max) _ _ (λ e. since_few scope at max e)
  few_outcome (Snapshot scope) proper small =
      refusal_or s (against_scope scope) _ _ (λ e. (omega (arith, filter_few (is_kept scope) (held s), held_few), cursor_few))
  few_outcome (Page scope after max) proper small = refusal_or s (against_page scope max) _ _ (λ e. page_few (is_kept scope) after max)
  few_outcome (Merge items) proper small = by_cause (first_refusal (against_merge (length items)))
      (λ r e. other_cause (against_merge (length items)) r e)
    where
      by_cause : (o : Option Refusal) → ((r : Refusal) → o ≡ Some r → is_wide r ≡ false) → IsFewReply (merging s items o).0
      by_cause (Some r) all = fault_few r (all r refl)
      by_cause None all =
          let x = course_counts items (begun s) 0 proper
          (record { done = omega arith; taken = omega arith; stale = omega arith; stop = refl }) in
          merge_few s (course s items) (course s items).stop (omega (arith, x.done, small)) (omega (arith, x.taken, small))
          (omega (arith, x.stale, small)) x.stop

-- ---- steps

few_step : (s t : State) (command : Command) (reply : Reply) → IsReached s → IsWithin s → AreItems s.feed.accepted →
    IsFew s.feed.incarnation → IsProper command → IsSmall command → Step s command reply t → IsFewReply reply
few_step s t command reply r w are i proper small (inl (inl a)) =
    subst IsFewReply (sym a.reply_is) (few_outcome s r w are i command proper small)
few_step s t command reply r w are i proper small (inl (inr a)) = subst IsFewReply (sym a.reply_is) tt
few_step s t (Merge items) reply r w are i proper small (inr m) =
    subst IsFewReply (sym m.1.reply_is) (omega (arith, m.1.few, m.1.some_left), tt)
few_step s t _ reply r w are i proper small (inr m) = absurd m

module _ (s : State) (owner : List ℕ) (generation : ℕ) where
  abbrev gone : List Item
  gone = tombstones (held s) owner generation

  few_older : (caller : EndpointRecord) → IsFewReply (older_sweep s caller owner generation).0
  few_older caller = by_tests (is_rs caller) (nat_le (next_position s + length gone) last_place) refl
    where
      by_tests : (a b : Bool)
          → nat_le (next_position s + length gone) last_place ≡ b
          → IsFewReply
          (cond {A = Reply × State} a
          (cond b (Swept (length gone) (owed s gone), takes_effect s gone) (Refused refusals.Worn, s))
          (Refused refusals.NotAllowed, s)).0
      by_tests true true e = omega (arith, leb-true (next_position s + length gone) last_place e)
      by_tests true false e = tt
      by_tests false b e = tt

few_traced : (format : Format) (s t : State) (command : Command) (reply : Reply) → IsTraced format s → IsProper command → IsSmall command →
    Step s command reply t → IsFewReply reply
few_traced format s t command reply traced proper small step =
    few_step s t command reply traced.reached traced.within traced.items traced.incarnation proper small step

by_format : (format : Format) (s t : State) (command : Command) (reply : Reply) → IsTraced format s → IsProper command → IsSmall command →
    StepOf format s command reply t → IsFewReply reply
by_format Two s t command reply traced proper small x = few_traced Two s t command reply traced proper small x
by_format One s t (Sweep caller owner generation) reply traced proper small (inl a) =
    subst IsFewReply (sym a.reply_is) (few_older s owner generation caller)
by_format One s t (Sweep caller owner generation) reply traced proper small (inr a) = subst IsFewReply (sym a.reply_is) tt
by_format One s t (Publish caller key version value overwrite) reply traced proper small x =
    few_traced One s t (Publish caller key version value overwrite) reply traced proper small x
by_format One s t (Delete caller key version) reply traced proper small x =
    few_traced One s t (Delete caller key version) reply traced proper small x
by_format One s t (Retrieve key) reply traced proper small x = few_traced One s t (Retrieve key) reply traced proper small x
by_format One s t (NameOf endpoint) reply traced proper small x = few_traced One s t (NameOf endpoint) reply traced proper small x
by_format One s t (Subscribe sub query initial overwrite) reply traced proper small x =
    few_traced One s t (Subscribe sub query initial overwrite) reply traced proper small x
by_format One s t (Check sub max) reply traced proper small x = few_traced One s t (Check sub max) reply traced proper small x
by_format One s t (Since scope at max) reply traced proper small x = few_traced One s t (Since scope at max) reply traced proper small x
by_format One s t (Snapshot scope) reply traced proper small x = few_traced One s t (Snapshot scope) reply traced proper small x
by_format One s t (Page scope after max) reply traced proper small x = few_traced One s t (Page scope after max) reply traced proper small x
by_format One s t (Merge items) reply traced proper small x = few_traced One s t (Merge items) reply traced proper small x

pub few_reply : (format : Format) (pass : ℕ) (s t : State) (asked : Asked) (command : Command) (reply : Reply)
    → IsTraced format s → MayAsk format pass asked → command_asked asked ≡ Some command → StepOf format s command reply t → IsFewReply reply
few_reply format pass s t asked command reply traced may asks step =
    by_format format s t command reply traced (asked_proper format pass asked command may asks)
    (asked_small format pass asked command may asks) step
