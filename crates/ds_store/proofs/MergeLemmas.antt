-- How a merge continues.
use Rattle.std.proofs.Common.{◌≡◌, ℕ, zero, suc, ◌+◌, ◌-◌, ◌<◌, ◌≤◌, Bool, false, List, [], ◌∷◌, ◌++◌, map, length, take, drop, get_or}
use Rattle.std.proofs.Common.{fold, replicate, Option, Some, None, Ok, Err}
use Rattle.std.proofs.Common.{refl, ap, ap₂, sym, ◌∙◌, subst, inl, inr, arith, length-append, ◌⊎◌, ◌||◌}
use Rattle.std.proofs.lemmas.List.Sums.{fold_more, fold-append}
use Rattle.std.proofs.lemmas.List.{take-append-drop, take_all, length-map}
use Rattle.std.proofs.lemmas.List.Folds.{list_any-append}
use Rattle.std.proofs.lemmas.Option.{slice_get_within, slice_get_read, get_or_from_slice_get, slice_get_cases}
use Rattle.std.specs.Prelude.{slice_get}
use Rattle.std.specs.Option.{option_map_or}
use Rattle.ds_entry.specs.Change.{ChangeRecord, BodyCopyTakesMemory}
use Rattle.ds_entry.specs.declared.item.Item.{Item}
use Rattle.ds_entry.specs.declared.item.Item.TheVariants.{Change as Changed}
use Rattle.ds_join.specs.Count.{counted, none_counted, CanCountOne}
use Rattle.ds_join.specs.declared.count.Count.{Count}
use Rattle.ds_join.specs.declared.merge.Merge.{Merge}
use Rattle.ds_join.specs.declared.merge.Merge.TheVariants.{Taken, Known, Stale}
use Rattle.ds_watch.specs.Mask.{mask, either, padded}
use Rattle.ds_watch.proofs.PaddedLemmas.{padded_number}
use Rattle.ds_machine.specs.Subscription.{Subscription, is_owed}
use Rattle.ds_machine.specs.Parts.{held_at}
use Rattle.ds_machine.specs.State.{State, owed}
use Rattle.ds_machine.specs.Order.{first_refusal}
use Rattle.ds_machine.specs.Calling.{against_merge}
use Rattle.ds_machine.specs.Standing.{cause_of}
use Rattle.ds_machine.specs.Merging.{Course, begun, course, item_merged, item_judged, merging, merge_reply}
use Rattle.ds_machine.specs.Machine.{Step}
use Rattle.ds_machine.specs.declared.command.Command.TheVariants.{Merge as Merges}
use Rattle.ds_machine.specs.declared.reply.Reply.TheVariants.{Merged, MergeStopped}
use Rattle.ds_machine.specs.declared.refusal.Cause.{Cause}
use Rattle.ds_machine.specs.declared.refusal.Cause.TheVariants as causes
use Rattle.ds_machine.specs.declared.refusal.Refusal.{Refusal}
use Rattle.ds_machine.specs.declared.refusal.Refusal.TheVariants as refusals
use Rattle.ds_machine.proofs.BatchLemmas.{none_stands}
use Rattle.ds_store.specs.Passed.{passed_as}
use Rattle.ds_store.specs.Last.{IsLast, MayLackItem}
use Rattle.ds_content.specs.Content.{ContentRecord}
use Rattle.ds_content.specs.Stands.{ContentStands}
use Rattle.ds_content.proofs.EnterLemmas.{few_places}
use Rattle.ds_store.specs.Merging.{MergesItem, StopsMerge, owed_after}
use Rattle.ds_names.specs.Limits.{most_items}
use Rattle.ds_pattern.specs.Under.{is_under}
use Rattle.ds_entry.specs.Item.{passes}

-- how the items of a merge are counted, and of one that wasn't stopped
abbrev counted_in : Course → Count
counted_in k = record { done = k.done; taken = length k.taken; stale = k.stale }

pub record Reached (k : Course) (n : Count) : Type 0 where
  pub stop : k.stop ≡ None
  pub count : counted_in k ≡ n

pub not_begun : (s : State) → Reached (begun s) none_counted
not_begun s = record { stop = refl; count = refl }

pub judged : (k : Course) (c : Item) (o : Option Cause) → k.stop ≡ None → cause_of k.state c ≡ o → item_merged k c ≡ item_judged k c o
judged k c o e f = ap₂ (λ stop x. option_map_or (λ (r : Refusal). k) stop (item_judged k c x)) e f

pub item_done : (k : Course) (c : Item) (join : Merge) (t : State) (n : Count) → Reached k n → MergesItem k.state c (Ok join) t →
    Reached (item_merged k c) (counted n (Some join)) × ((item_merged k c).state ≡ t)
item_done k c Taken t n r is =
    let more : counted_in (item_judged k c None) ≡ counted n (Some Taken) =
    ap (λ l. record { done = k.done + 1; taken = l; stale = k.stale }) (length-append k.taken (c ∷ [])) ∙
    ap (λ m. counted m (Some Taken)) r.count in
    subst (λ (x : Course). Reached x (counted n (Some Taken)) × (x.state ≡ t)) (sym (judged k c None r.stop is.0))
    (record { stop = r.stop; count = more }, sym is.1)
item_done k c Known t n r is =
    subst (λ (x : Course). Reached x (counted n (Some Known)) × (x.state ≡ t)) (sym (judged k c (Some causes.Known) r.stop is.0))
    (record { stop = r.stop; count = ap (λ m. counted m (Some Known)) r.count }, sym is.1)
item_done k c Stale t n r is =
    subst (λ (x : Course). Reached x (counted n (Some Stale)) × (x.state ≡ t))
    (sym (judged k c (Some (causes.Refused refusals.Stale)) r.stop is.0))
    (record { stop = r.stop; count = ap (λ m. counted m (Some Stale)) r.count }, sym is.1)

-- an item that a cause applies to is passed over, or stops the merge, and no subscription is owed it
pub passed_merges : (s : State) (i : Item) (cause : Cause) → cause_of s i ≡ Some cause → MergesItem s i (passed_as cause) s
passed_merges s i causes.Known e = (e, refl)
passed_merges s i (causes.Refused r) e = by_refusal r e
  where
    by_refusal : (r : Refusal) → cause_of s i ≡ Some (causes.Refused r) → MergesItem s i (passed_as (causes.Refused r)) s
    by_refusal refusals.Stale e = (e, refl)
    by_refusal _ e = (refl, inr (record { stands = e; refuses = refl }))

pub passed_owed : (cause : Cause) (total more : List Bool) → total ≡ owed_after (passed_as cause) total more
passed_owed causes.Known total more = refl
passed_owed (causes.Refused r) total more = by_refusal r
  where
    by_refusal : (r : Refusal) → total ≡ owed_after (passed_as (causes.Refused r)) total more
    by_refusal refusals.Stale = refl
    by_refusal _ = refl

pub course_more : (s : State) (items : List Item) (i : ℕ) (d : Item) → i < length items →
    course s (take (i + 1) items) ≡ item_merged (course s (take i items)) (get_or items i d)
course_more s items i d l = fold_more item_merged (begun s) items i d l

-- ---- a merge that is stopped
stopped_by : (k : Course) (c : Item) (fault : Refusal) → passed_as (causes.Refused fault) ≡ Err fault →
    item_judged k c (Some (causes.Refused fault)) ≡ record k { stop = Some fault }
stopped_by k c refusals.Stale e = absurd (cc)
stopped_by k c _ e = refl

stays : (k : Course) (r : Refusal) (items : List Item) → k.stop ≡ Some r → fold item_merged k items ≡ k
stays k r [] e = refl
stays k r (c ∷ items) e =
    let same : item_merged k c ≡ k = ap (λ stop. option_map_or (λ (x : Refusal). k) stop (item_judged k c (cause_of k.state c))) e in
    ap (λ (x : Course). fold item_merged x items) same ∙ stays k r items e

pub course_stopped : (s : State) (items : List Item) (i : ℕ) (d : Item) (fault : Refusal) → i < length items →
    (course s (take i items)).stop ≡ None → StopsMerge (course s (take i items)).state (get_or items i d) fault
    → course s items ≡ record (course s (take i items)) { stop = Some fault }
course_stopped s items i d fault l e is =
    let k = course s (take i items) in
    let c = get_or items i d in
    let there : item_merged k c ≡ record k { stop = Some fault } =
    judged k c (Some (causes.Refused fault)) e is.stands ∙ stopped_by k c fault is.refuses in
    ap (course s) (sym (take-append-drop (i + 1) items)) ∙ fold-append item_merged (begun s) (take (i + 1) items) (drop (i + 1) items)
    ∙ ap (λ (x : Course). fold item_merged x (drop (i + 1) items)) (course_more s items i d l ∙ there) ∙
    stays (record k { stop = Some fault }) fault (drop (i + 1) items) refl

-- ---- the next item
pub item_next : (items : List Item) (i n : ℕ) (x : Item) → i < length items → x ≡ get_or items i x → i ≡ n → slice_get items n ≡ Some x
item_next items i n x l is e = subst (λ k. slice_get items k ≡ Some x) e (slice_get_read items (length items) i x refl l is)

pub next_course : (s : State) (items : List Item) (i : ℕ) (c : Item) → slice_get items i ≡ Some c →
    course s (take (i + 1) items) ≡ item_merged (course s (take i items)) c
next_course s items i c at =
    course_more s items i c (slice_get_within items i c at) ∙
    ap (item_merged (course s (take i items))) (get_or_from_slice_get items i c c at)

-- one more is done, and still one more can be counted
pub one_more : (n m : Count) (join : Merge) → m ≡ counted n (Some join) → m.done ≡ n.done + 1
one_more n m Taken e = ap (λ (x : Count). x.done) e
one_more n m Known e = ap (λ (x : Count). x.done) e
one_more n m Stale e = ap (λ (x : Count). x.done) e

pub can_go_on : (n m : Count) (join : Merge) → m ≡ counted n (Some join) → n.done < most_items → CanCountOne n → CanCountOne m
can_go_on n m Taken e few can = rw e (record
    { taken = omega (arith, can.taken); stale = omega (arith, can.stale); done = omega (arith, few) })
can_go_on n m Known e few can = rw e (record
    { taken = omega (arith, can.taken); stale = omega (arith, can.stale); done = omega (arith, few) })
can_go_on n m Stale e few can = rw e (record
    { taken = omega (arith, can.taken); stale = omega (arith, can.stale); done = omega (arith, few) })

pub next_reached : (s : State) (items : List Item) (c : Item) (join : Merge) (t : State) (n m : Count) → slice_get items n.done ≡ Some c →
    Reached (course s (take n.done items)) n
    → MergesItem (course s (take n.done items)).state c (Ok join) t → m ≡ counted n (Some join) →
    Reached (course s (take m.done items)) m × (t ≡ (course s (take m.done items)).state)
next_reached s items c join t n m at r is e =
    let same : course s (take m.done items) ≡ item_merged (course s (take n.done items)) c =
    ap (λ k. course s (take k items)) (one_more n m join e) ∙ next_course s items n.done c at in
    let done = item_done (course s (take n.done items)) c join t n r is in (
      subst (λ (x : Count). Reached (course s (take m.done items)) x) (sym e)
          (subst (λ (k : Course). Reached k (counted n (Some join))) (sym same) done.0),
      sym done.1 ∙ ap (λ (k : Course). k.state) (sym same),
    )

-- ---- the answers
pub merge_stopped : (s : State) (items : List Item) (c : Item) (fault : Refusal) (t : State) (n : Count) (o : ℕ) →
    o ≡ owed s (course s (take n.done items)).taken → length items ≤ most_items → slice_get items n.done ≡ Some c
    → Reached (course s (take n.done items)) n → MergesItem (course s (take n.done items)).state c (Err fault) t →
    Step s (Merges items) (MergeStopped n.done fault o) t
merge_stopped s items c fault t n o owes few at r is = by_fault is.1
  where
    i : ℕ
    i = n.done

    k : Course
    k = course s (take i items)

    nothing : o ≡ owed s k.taken
    nothing = owes

    by_fault : (fault ≡ refusals.NoRoom) ⊎ StopsMerge k.state c fault → Step s (Merges items) (MergeStopped i fault o) t
    by_fault (inl e) = inr (
      i,
      record {
        few = few;
        some_left = slice_get_within items i c at;
        not_refused = r.stop;
        reply_is = ap₂ (λ f b. MergeStopped i f b) e nothing;
        state_is = is.0;
      },
    )
    by_fault (inr stop) =
        let this : get_or items i c ≡ c = get_or_from_slice_get items i c c at in
        let there : course s items ≡ record k { stop = Some fault } =
        course_stopped s items i c fault (slice_get_within items i c at) r.stop
        (subst (λ (x : Item). StopsMerge k.state x fault) (sym this) stop) in
        let reply : (merging s items (first_refusal (against_merge (length items)))).0 ≡ MergeStopped i fault o =
        ap (λ x. (merging s items x).0) (none_stands (length items) few) ∙ ap (merge_reply s) there ∙
        ap₂ (λ (m : Count) b. MergeStopped m.done fault b) r.count (sym nothing) in
        let state : (merging s items (first_refusal (against_merge (length items)))).1 ≡ k.state =
        ap (λ x. (merging s items x).1) (none_stands (length items) few) ∙ ap (λ (x : Course). x.state) there in
        inl (inl (record { reply_is = sym reply; state_is = is.0 ∙ sym state }))

pub merge_done : (s : State) (items : List Item) (n : Count) (o : ℕ) → o ≡ owed s (course s (take n.done items)).taken →
    length items ≤ most_items → slice_get items n.done ≡ None
    → Reached (course s (take n.done items)) n →
    Step s (Merges items) (Merged n.done n.taken n.stale o) (course s (take n.done items)).state
merge_done s items n o owes few gone r =
    let k = course s (take n.done items) in
    let end : length items ≤ n.done = past items n.done gone in
    let whole : course s items ≡ k = ap (course s) (sym (take_all n.done items end)) in
    let nothing : owed s k.taken ≡ o = sym owes in
    let counts : merge_reply s k ≡ Merged n.done n.taken n.stale o =
    ap (λ stop. option_map_or (λ (fault : Refusal). MergeStopped k.done fault (owed s k.taken)) stop
    (Merged k.done (length k.taken) k.stale (owed s k.taken))) r.stop
    ∙ ap₂ (λ (m : Count) b. Merged m.done m.taken m.stale b) r.count nothing in
    let reply : (merging s items (first_refusal (against_merge (length items)))).0 ≡ Merged n.done n.taken n.stale o =
    ap (λ x. (merging s items x).0) (none_stands (length items) few) ∙ ap (merge_reply s) whole ∙ counts in
    let state : (merging s items (first_refusal (against_merge (length items)))).1 ≡ k.state =
    ap (λ x. (merging s items x).1) (none_stands (length items) few) ∙ ap (λ (x : Course). x.state) whole in
    inl (inl (record { reply_is = sym reply; state_is = sym state }))
  where
    past : (xs : List Item) (j : ℕ) → slice_get xs j ≡ None → length xs ≤ j
    past xs j e = elim ((slice_get_cases xs j).1) [ inl h ↦ absurd (let no : None ≡ Some h.0 = sym e ∙ h.2 in cc) | inr h ↦ h.0 ]

-- ---- the subscriptions that are owed the taken items
either_owed : (xs ys : List Item) (subs : List (Option Subscription)) →
    map (is_owed (xs ++ ys)) subs ≡ either (map (is_owed xs) subs) (map (is_owed ys) subs)
either_owed xs ys [] = refl
either_owed xs ys (None ∷ subs) = ap (λ l. false ∷ l) (either_owed xs ys subs)
either_owed xs ys (Some sub ∷ subs) = ap₂ ◌∷◌ (list_any-append (passes (is_under sub.query)) xs ys) (either_owed xs ys subs)

neither : (n : ℕ) → either (replicate n false) (replicate n false) ≡ replicate n false
neither zero = refl
neither (suc n) = ap (λ l. false ∷ l) (neither n)

either_after : (f g : Option Subscription → Bool) (subs : List (Option Subscription)) (n : ℕ) →
    either (map f subs ++ replicate n false) (map g subs ++ replicate n false) ≡ either (map f subs) (map g subs) ++ replicate n false
either_after f g [] n = neither n
either_after f g (sub ∷ subs) n = ap (λ l. (f sub || g sub) ∷ l) (either_after f g subs n)

-- the padded flags of both
pub padded_either : (xs ys : List Item) (subs : List (Option Subscription)) →
    either (padded (map (is_owed xs) subs)) (padded (map (is_owed ys) subs)) ≡ padded (map (is_owed (xs ++ ys)) subs)
padded_either xs ys subs =
    let n : 128 - length (map (is_owed xs) subs) ≡ 128 - length subs = ap (λ m. 128 - m) (length-map subs (is_owed xs)) in
    let m : 128 - length (map (is_owed ys) subs) ≡ 128 - length subs = ap (λ m. 128 - m) (length-map subs (is_owed ys)) in
    let both : 128 - length (map (is_owed (xs ++ ys)) subs) ≡ 128 - length subs =
    ap (λ m. 128 - m) (length-map subs (is_owed (xs ++ ys))) in
    ap₂ (λ a b. either (map (is_owed xs) subs ++ replicate a false) (map (is_owed ys) subs ++ replicate b false)) n m ∙
    either_after (is_owed xs) (is_owed ys) subs (128 - length subs)
    ∙ ap₂ (λ l a. l ++ replicate a false) (sym (either_owed xs ys subs)) (sym both)

none_of : (subs : List (Option Subscription)) (n : ℕ) → replicate (length subs + n) false ≡ map (is_owed []) subs ++ replicate n false
none_of [] n = let e : 0 + n ≡ n = omega arith in ap (λ m. replicate m false) e
none_of (None ∷ subs) n = let e : length (None ∷ subs) + n ≡ suc (length subs + n) = omega arith in
    ap (λ m. replicate m false) e ∙ ap (λ l. false ∷ l) (none_of subs n)
none_of (Some sub ∷ subs) n = let e : length (Some sub ∷ subs) + n ≡ suc (length subs + n) = omega arith in
    ap (λ m. replicate m false) e ∙ ap (λ l. false ∷ l) (none_of subs n)

-- nothing is owed to none
pub nothing_owed : (v : ContentRecord) (s : State) → ContentStands v s → replicate 128 false ≡ padded (map (is_owed []) s.subscriptions)
nothing_owed v s stands =
    let places : length s.subscriptions ≡ v.limits.subs = stands.reached.places ∙ sym (ap (λ l. l.subs) stands.limits) in
    let few = few_places v s (length s.subscriptions) stands places in
    let n = length-map s.subscriptions (is_owed []) in
    let long : 128 ≡ length s.subscriptions + (128 - length (map (is_owed []) s.subscriptions)) = omega (arith, few, n) in
    ap (λ m. replicate m false) long ∙ none_of s.subscriptions (128 - length (map (is_owed []) s.subscriptions))

-- ---- the places stay through a merge
judged_places : (k : Course) (i : Item) (o : Option Cause) → (item_judged k i o).state.subscriptions ≡ k.state.subscriptions
judged_places k i None = refl
judged_places k i (Some causes.Known) = refl
judged_places k i (Some (causes.Refused r)) = by_refusal r
  where
    by_refusal : (r : Refusal) → (item_judged k i (Some (causes.Refused r))).state.subscriptions ≡ k.state.subscriptions
    by_refusal refusals.Stale = refl
    by_refusal _ = refl

merged_places : (k : Course) (i : Item) → (item_merged k i).state.subscriptions ≡ k.state.subscriptions
merged_places k i = by_stop k.stop
  where
    by_stop : (o : Option Refusal) → (option_map_or {U = Course} (λ stop. k) o (item_judged k i (cause_of k.state i))).state.subscriptions
        ≡ k.state.subscriptions
    by_stop None = judged_places k i (cause_of k.state i)
    by_stop (Some r) = refl

fold_places : (k : Course) (items : List Item) → (fold item_merged k items).state.subscriptions ≡ k.state.subscriptions
fold_places k [] = refl
fold_places k (i ∷ items) = fold_places (item_merged k i) items ∙ merged_places k i

pub course_places : (s : State) (items : List Item) → (course s items).state.subscriptions ≡ s.subscriptions
course_places s items = fold_places (begun s) items

-- those to which an item is owed are added where it is taken
pub item_owed : (k : Course) (i : Item) (join : Merge) (t : State) (subs : List (Option Subscription)) (flags more : List Bool) →
    k.stop ≡ None → MergesItem k.state i (Ok join) t
    → flags ≡ padded (map (is_owed k.taken) subs) → more ≡ padded (map (is_owed (i ∷ [])) subs) →
    owed_after (Ok join) flags more ≡ padded (map (is_owed (item_merged k i).taken) subs)
item_owed k i Taken t subs flags more stop is e f =
    ap₂ either e f ∙ padded_either k.taken (i ∷ []) subs ∙
    ap (λ (x : Course). padded (map (is_owed x.taken) subs)) (sym (judged k i None stop is.0))
item_owed k i Known t subs flags more stop is e f =
    e ∙ ap (λ (x : Course). padded (map (is_owed x.taken) subs)) (sym (judged k i (Some causes.Known) stop is.0))
item_owed k i Stale t subs flags more stop is e f =
    e ∙ ap (λ (x : Course). padded (map (is_owed x.taken) subs)) (sym (judged k i (Some (causes.Refused refusals.Stale)) stop is.0))

pub course_number : (s : State) (k : Course) (n : ℕ) (flags : List Bool) → n ≡ mask flags →
    flags ≡ padded (map (is_owed k.taken) s.subscriptions) → n ≡ owed s k.taken
course_number s k n flags e f = e ∙ ap mask f ∙ padded_number (map (is_owed k.taken) s.subscriptions)

-- ---- where it stops for lack of memory
pub stopped_last : (s : State) (items : List Item) (i : ℕ) (item : Item) (fault : Refusal) (o : ℕ) → slice_get items i ≡ Some item →
    (fault ≡ refusals.NoRoom → MayLackItem (course s (take i items)).state item) → IsLast s (Merges items) (MergeStopped i fault o)
stopped_last s items i item refusals.NoRoom o at lacks = record { item = item; is_next = at; lacks = lacks refl }
stopped_last s items i item refusals.BadSub o at lacks = tt
stopped_last s items i item refusals.TooMany o at lacks = tt
stopped_last s items i item refusals.TooLong o at lacks = tt
stopped_last s items i item refusals.BadPattern o at lacks = tt
stopped_last s items i item refusals.BadKind o at lacks = tt
stopped_last s items i item refusals.BadLabel o at lacks = tt
stopped_last s items i item refusals.BadVersion o at lacks = tt
stopped_last s items i item refusals.NoCaller o at lacks = tt
stopped_last s items i item refusals.NotAllowed o at lacks = tt
stopped_last s items i item refusals.NotOwner o at lacks = tt
stopped_last s items i item (refusals.Clash v) o at lacks = tt
stopped_last s items i item refusals.Stale o at lacks = tt
stopped_last s items i item refusals.Exists o at lacks = tt
stopped_last s items i item refusals.NotFound o at lacks = tt
stopped_last s items i item refusals.OldCursor o at lacks = tt
stopped_last s items i item refusals.Ahead o at lacks = tt
stopped_last s items i item refusals.Behind o at lacks = tt
stopped_last s items i item refusals.Full o at lacks = tt
stopped_last s items i item refusals.Worn o at lacks = tt
stopped_last s items i item refusals.BadRing o at lacks = tt
stopped_last s items i item refusals.BadFirst o at lacks = tt

-- memory may run out for a change that would take effect, if its key isn't held or its copy takes memory
pub change_lacks : (v : ContentRecord) (s : State) (c : ChangeRecord) → ContentStands v s → cause_of s (Changed c) ≡ None →
    (held_at v.held c.key ≡ None) ⊎ BodyCopyTakesMemory c.body → MayLackItem s (Changed c)
change_lacks v s c stands e takes =
    (e, elim takes [ inl none ↦ inl (sym (ap (λ (hs : List Item). held_at hs c.key) stands.held) ∙ none) | inr copies ↦ inr copies ])
