-- Merges in order are what the definitions of deliveries say.
use Rattle.std.proofs.Common.{◌≡◌, ◌≢◌, Bool, true, false, not, is_some, ℕ, zero, suc, max, ◌+◌, ◌<◌, ◌≤◌, ◌^◌, List, [], ◌∷◌, ◌++◌, length}
use Rattle.std.proofs.Common.{map, take, Option, Some, None}
use Rattle.std.proofs.Common.{refl, ap, ap₂, sym, ◌∙◌, subst, inl, inr, arith, append-nil, length-append, Contains}
use Rattle.std.specs.List.{flat_map}
use Rattle.std.specs.List.{slice_get}
use Rattle.std.specs.Option.{option_map_or}
use Rattle.std.proofs.lemmas.List.{append_assoc}
use Rattle.std.proofs.lemmas.List.Concat.{flat_map-cons}
use Rattle.std.proofs.lemmas.Grind.{flat_map-append}
use Rattle.std.proofs.lemmas.List.Elements.{Contains-append_cases}
use Rattle.std.proofs.lemmas.Nat.Bits.{bit_at_or, same_from_bits}
use Rattle.std.specs.Int.{bit_at}
use Rattle.std.specs.Int.Bits.{bit_or, or_zero_l, or_zero_r}
use Rattle.ds_join.specs.declared.count.Count.{Count}
use Rattle.ds_entry.specs.declared.item.Item.{Item}
use Rattle.ds_entry.proofs.Members.{Contains-from_map, Contains-nil, Contains-single}
use Rattle.ds_machine.specs.State.{State, owed}
use Rattle.ds_machine.specs.Order.{first_refusal}
use Rattle.ds_machine.specs.Calling.{against_merge}
use Rattle.ds_machine.specs.Merging.{course, merging}
use Rattle.ds_machine.specs.Machine.{Step}
use Rattle.ds_machine.specs.declared.command.Command.TheVariants.{Merge}
use Rattle.ds_machine.specs.declared.refusal.Refusal.{Refusal}
use Rattle.ds_machine.specs.declared.refusal.Refusal.TheVariants.{NoRoom}
use Rattle.ds_machine.specs.Reached.{IsReached}
use Rattle.ds_machine.specs.Says.{IsMergeReply}
use Rattle.ds_machine.specs.declared.reply.Reply.{Reply}
use Rattle.ds_machine.specs.declared.reply.Reply.TheVariants.{Merged, MergeStopped, Refused}
use Rattle.ds_machine.proofs.SaysLemmas.{merged_says, merge_stopped_says}
use Rattle.ds_store.specs.Last.{IsLast, MayLackItem}
use Rattle.ds_store.proofs.RoomLemmas.{no_course}
use Rattle.ds_content.specs.Content.{ContentRecord}
use Rattle.ds_content.specs.Stands.{ContentStands}
use Rattle.ds_replica.specs.Delivery.{Tally, counting, ended, added, OthersFollow, GroupsAreMerged, StoreTakes}
use Rattle.ds_world.specs.Steps.{ItemsAreTaken}
use Rattle.ds_world.specs.Tally.{both_tallied, CanJoin, CountsOf, IsCounted}
use Rattle.ds_world.specs.Told.{IsNoRoomLast}
use Rattle.ds_names.specs.Limits.{most_items}

-- each item as a group of its own
abbrev singles : List Item → List (List Item)
singles items = map (λ i. i ∷ []) items

singles_all : (items : List Item) → flat_map (λ (g : List Item). g) (singles items) ≡ items
singles_all [] = refl
singles_all (i ∷ items) = flat_map-cons (λ (g : List Item). g) (i ∷ []) (singles items) ∙ ap (λ (l : List Item). i ∷ l) (singles_all items)

abbrev AreFew : List (List Item) → Type 0
AreFew groups = (group : List Item) → Contains groups group → length group ≤ most_items

singles_few : (items : List Item) → AreFew (singles items)
singles_few items group h = let m = Contains-from_map (λ (i : Item). i ∷ []) items group h in
    subst (λ (x : List Item). length x ≤ most_items) m.2 (omega arith)

-- ---- Merges and those after them
masks_joined : (a b c : ℕ) → bit_or (bit_or a b) c ≡ bit_or a (bit_or b c)
masks_joined a b c =
    same_from_bits (bit_or (bit_or a b) c) (bit_or a (bit_or b c))
    (λ i. bit_at_or (bit_or a b) c i ∙ ap (λ x. max x (bit_at c i)) (bit_at_or a b i) ∙
    (let e : max (max (bit_at a i) (bit_at b i)) (bit_at c i) ≡ max (bit_at a i) (max (bit_at b i) (bit_at c i)) = omega arith in e)
    ∙ sym (bit_at_or a (bit_or b c) i ∙ ap (max (bit_at a i)) (bit_at_or b c i)))

abbrev tallied : ℕ → ℕ → ℕ → ℕ → Option Refusal → Tally
tallied done taken stale owes stop = record { count = counting done taken stale; owed = owes; stop = stop }

counts_same : {d e t u s v o p : ℕ} {stop : Option Refusal} → d ≡ e → t ≡ u → s ≡ v → o ≡ p → tallied d t s o stop ≡ tallied e u v p stop
counts_same {stop = stop} d t s o =
    ap₂ (λ (c : Count) m. let k : Tally = record { count = c; owed = m; stop = stop } in k)
    (ap₂ (λ (f : ℕ × ℕ) c. counting f.0 f.1 c) (ap₂ (λ a b. (a, b)) d t) s) o

-- none before
none_before : (u : Tally) → both_tallied (ended 0 0 None) u ≡ u
none_before u = counts_same (omega arith) (omega arith) (omega arith) (or_zero_l u.owed)

-- none after it
none_after : (done taken stale owed : ℕ) → added done taken stale owed (ended 0 0 None) ≡ tallied done taken stale owed None
none_after done taken stale owed = counts_same (omega arith) (omega arith) (omega arith) (or_zero_r owed)

tallied_between : (done taken stale owed : ℕ) (later u : Tally) →
    both_tallied (added done taken stale owed later) u ≡ added done taken stale owed (both_tallied later u)
tallied_between done taken stale owed later u = counts_same (omega arith) (omega arith) (omega arith) (masks_joined owed later.owed u.owed)

stopped_not : {fault : Refusal} {t : Tally} {done owed : ℕ} → t ≡ ended done owed (Some fault) → t.stop ≡ None → ⊥
stopped_not e none = let f = ap (λ (t : Tally). t.stop) e in cc

groups_append : (s mid new : State) (gs hs : List (List Item)) (t u : Tally) → GroupsAreMerged s gs t mid → t.stop ≡ None →
    GroupsAreMerged mid hs u new → GroupsAreMerged s (gs ++ hs) (both_tallied t u) new
groups_append s mid new [] hs t u m none rest =
    subst (λ (k : Tally). GroupsAreMerged s hs k new) (sym (ap (λ (k : Tally). both_tallied k u) m.0 ∙ none_before u))
    (subst (λ (x : State). GroupsAreMerged x hs u new) m.1 rest)
groups_append s mid new (g ∷ gs) hs t u (reply, at, step, follow) none rest =
    (reply, at, step, by_reply reply (λ later more f. groups_append at mid new gs hs later u more f rest) follow)
  where
    by_reply : (r : Reply) → ((later : Tally) → GroupsAreMerged at gs later mid → later.stop ≡ None →
        GroupsAreMerged at (gs ++ hs) (both_tallied later u) new) → OthersFollow r at (λ k n. GroupsAreMerged at gs k n) t mid
        → OthersFollow r at (λ k n. GroupsAreMerged at (gs ++ hs) k n) (both_tallied t u) new
    by_reply (Merged done taken stale owes) again (later, more, e) = (
      both_tallied later u,
      again later more (sym (ap (λ (k : Tally). k.stop) e) ∙ none),
      ap (λ (k : Tally). both_tallied k u) e ∙
          tallied_between done taken stale owes later u,
    )
    by_reply (MergeStopped done fault owes) again (e, f) = absurd (stopped_not e none)
    by_reply (Refused fault) again (e, f) = absurd (stopped_not e none)
    by_reply _ again f = absurd f

-- after a Merge that stopped, nothing more is merged
groups_stopped : (s new : State) (gs hs : List (List Item)) (t : Tally) (fault : Refusal) → GroupsAreMerged s gs t new →
    t.stop ≡ Some fault → GroupsAreMerged s (gs ++ hs) t new
groups_stopped s new [] hs t fault m some = absurd (let e = ap (λ (k : Tally). k.stop) m.0 in cc)
groups_stopped s new (g ∷ gs) hs t fault (reply, at, step, follow) some =
    (reply, at, step, by_reply reply (λ later more e. groups_stopped at new gs hs later fault more e) follow)
  where
    by_reply : (r : Reply) → ((later : Tally) → GroupsAreMerged at gs later new → later.stop ≡ Some fault →
        GroupsAreMerged at (gs ++ hs) later new) → OthersFollow r at (λ k n. GroupsAreMerged at gs k n) t new
        → OthersFollow r at (λ k n. GroupsAreMerged at (gs ++ hs) k n) t new
    by_reply (Merged done taken stale owes) again (later, more, e) =
        (later, again later more (sym (ap (λ (k : Tally). k.stop) e) ∙ some), e)
    by_reply (MergeStopped done f owes) again m = m
    by_reply (Refused f) again m = m
    by_reply _ again f = absurd f

few_append : (gs hs : List (List Item)) → AreFew gs → AreFew hs → AreFew (gs ++ hs)
few_append gs hs f h group k = elim (Contains-append_cases gs hs group k) [ inl i ↦ f group i | inr i ↦ h group i ]

all_append : (gs hs : List (List Item)) (xs ys : List Item) → flat_map (λ (g : List Item). g) gs ≡ xs →
    flat_map (λ (g : List Item). g) hs ≡ ys → flat_map (λ (g : List Item). g) (gs ++ hs) ≡ xs ++ ys
all_append gs hs xs ys e f = flat_map-append (λ (g : List Item). g) gs hs ∙ ap₂ ◌++◌ e f

takes_append : (s mid new : State) (xs ys : List Item) (t u : Tally) → StoreTakes s xs t mid → t.stop ≡ None → StoreTakes mid ys u new →
    StoreTakes s (xs ++ ys) (both_tallied t u) new
takes_append s mid new xs ys t u a none b =
    record {
      groups = a.groups ++ b.groups;
      all = all_append a.groups b.groups xs ys a.all b.all;
      few = few_append a.groups b.groups a.few b.few;
      merged = groups_append s mid new a.groups b.groups t u a.merged none b.merged;
    }

takes_front : (s new : State) (xs ys : List Item) (t : Tally) (fault : Refusal) → StoreTakes s xs t new → t.stop ≡ Some fault →
    StoreTakes s (xs ++ ys) t new
takes_front s new xs ys t fault a some =
    record {
      groups = a.groups ++ singles ys;
      all = all_append a.groups (singles ys) xs ys a.all (singles_all ys);
      few = few_append a.groups (singles ys) a.few (singles_few ys);
      merged = groups_stopped s new a.groups (singles ys) t fault a.merged some;
    }

-- ---- one Merge
-- how it is counted, by its reply
abbrev pub merge_tally : Reply → Tally
merge_tally (Merged done taken stale owed) = record { count = counting done taken stale; owed = owed; stop = None }
merge_tally (MergeStopped done fault owed) = ended done owed (Some fault)
merge_tally (Refused fault) = ended 0 0 (Some fault)
merge_tally _ = ended 0 0 None

one_group : (group : List Item) → length group ≤ most_items → AreFew (group ∷ [])
one_group group few g k = subst (λ (x : List Item). length x ≤ most_items) (sym (Contains-single group g k)) few

takes_one : (s mid : State) (group : List Item) (reply : Reply) → length group ≤ most_items → IsCounted (length group) reply →
    Step s (Merge group) reply mid → StoreTakes s group (merge_tally reply) mid
takes_one s mid group reply few counted step =
    record {
      groups = group ∷ [];
      all = flat_map-cons (λ (g : List Item). g) group [] ∙ append-nil group;
      few = one_group group few;
      merged = (reply, mid, step, by_reply reply counted);
    }
  where
    by_reply : (r : Reply) → IsCounted (length group) r → OthersFollow r mid (λ k n. GroupsAreMerged mid [] k n) (merge_tally r) mid
    by_reply (Merged done taken stale owed) c = (ended 0 0 None, (refl, refl), sym (none_after done taken stale owed))
    by_reply (MergeStopped done fault owed) c = (refl, refl)
    by_reply (Refused fault) c = (refl, refl)
    by_reply _ c = absurd c

pub counts_one : (n : ℕ) (reply : Reply) → IsCounted n reply → CountsOf n (merge_tally reply)
counts_one n (Merged done taken stale owed) c = record { all = λ _. c.0; few = omega (arith, c.0); within = c.1 }
counts_one n (MergeStopped done fault owed) c =
    record { all = λ none. absurd (let e : Some fault ≡ None = none in cc); few = omega (arith, c); within = omega arith }
counts_one n (Refused fault) c =
    record { all = λ none. absurd (let e : Some fault ≡ None = none in cc); few = omega arith; within = omega arith }
counts_one n _ c = absurd c

-- ---- where lack of memory is reported
-- an index among the first items, and one after them
in_front : (xs ys : List Item) (k : ℕ) (x : Item) → slice_get xs k ≡ Some x → slice_get (xs ++ ys) k ≡ Some x
in_front [] ys k x e = absurd (cc)
in_front (y ∷ xs) ys zero x e = e
in_front (y ∷ xs) ys (suc k) x e = in_front xs ys k x e

past : (xs ys : List Item) (k : ℕ) → slice_get (xs ++ ys) (length xs + k) ≡ slice_get ys k
past [] ys k = ap (slice_get ys) (let e : 0 + k ≡ k = omega arith in e)
past (x ∷ xs) ys k = ap (slice_get (x ∷ xs ++ ys)) (let e : length (x ∷ xs) + k ≡ suc (length xs + k) = omega arith in e) ∙ past xs ys k

-- a Merge that runs out of memory leaves what its first items made
module _ (s t : State) (items : List Item) (done owes : ℕ) where
  -- what a Merge answers that a fault stopped, or none
  abbrev answered : Option Refusal → Reply
  answered stop = option_map_or {U = Reply} (λ fault. MergeStopped (course s items).done fault (owed s (course s items).taken)) stop
      (Merged (course s items).done (length (course s items).taken) (course s items).stale (owed s (course s items).taken))

  by_refusal : (o : Option Refusal) → MergeStopped done NoRoom owes ≡ (merging s items o).0 → ⊥
  by_refusal (Some r) e = cc
  by_refusal None e = by_stop (course s items).stop (no_course s items) e
    where
      by_stop : (o : Option Refusal) → o ≢ Some NoRoom → MergeStopped done NoRoom owes ≡ answered o → ⊥
      by_stop (Some fault) n h = let same : fault ≡ NoRoom = cc in n (ap (λ r. Some r) same)
      by_stop None n h = cc

  stopped_for_room : Step s (Merge items) (MergeStopped done NoRoom owes) t → t ≡ (course s (take done items)).state
  stopped_for_room (inl (inl is)) = absurd (by_refusal (first_refusal (against_merge (length items))) is.reply_is)
  stopped_for_room (inl (inr wants)) = absurd (let e : MergeStopped done NoRoom owes ≡ Refused NoRoom = wants.reply_is in cc)
  stopped_for_room (inr w) =
      let e : MergeStopped done NoRoom owes ≡ MergeStopped w.0 NoRoom _ = w.1.reply_is in
      let same : w.0 ≡ done = cc in
      w.1.state_is ∙ ap (λ d. (course s (take d items)).state) same

-- of a Merge
one_want : (s t : State) (group : List Item) (reply : Reply) → IsCounted (length group) reply → Step s (Merge group) reply t →
    IsLast s (Merge group) reply → IsNoRoomLast group (merge_tally reply).count.done (merge_tally reply).stop t
one_want s t group (Merged done taken stale owed) c step last = tt
one_want s t group (MergeStopped done NoRoom owes) c step last =
    record {
      item = last.item;
      is_next = last.is_next;
      lacks =
          subst (λ (x : State). MayLackItem x last.item) (sym (stopped_for_room s t group done owes step)) last.lacks;
    }
one_want s t group (MergeStopped done _ owes) c step last = tt
one_want s t group (Refused NoRoom) c step last = absurd last
one_want s t group (Refused _) c step last = tt
one_want s t group _ c step last = absurd c

-- of the items in front
front_want : (xs ys : List Item) (done : ℕ) (stop : Option Refusal) (t : State) → IsNoRoomLast xs done stop t →
    IsNoRoomLast (xs ++ ys) done stop t
front_want xs ys done None t w = tt
front_want xs ys done (Some NoRoom) t w = record { item = w.item; is_next = in_front xs ys done w.item w.is_next; lacks = w.lacks }
front_want xs ys done (Some _) t w = tt

-- of the others after a group
later_want : (group rest : List Item) (done : ℕ) (stop : Option Refusal) (t : State) → IsNoRoomLast rest done stop t →
    IsNoRoomLast (group ++ rest) (length group + done) stop t
later_want group rest done None t w = tt
later_want group rest done (Some NoRoom) t w = record { item = w.item; is_next = past group rest done ∙ w.is_next; lacks = w.lacks }
later_want group rest done (Some _) t w = tt

-- ---- what the reply to a Merge counts
counted : (s t : State) (items : List Item) (n : ℕ) (reply : Reply) → length items ≡ n → IsReached s → Step s (Merge items) reply t →
    IsMergeReply reply → IsCounted n reply
counted s t items n (Merged done taken stale owed) e r step f = let m = merged_says s t items done taken stale owed r step in
    (m.all ∙ e, m.within)
counted s t items n (MergeStopped done fault owed) e r step f = let m = merge_stopped_says s t items done fault owed r step in
    omega (arith, m.some_left, e)
counted s t items n (Refused fault) e r step f = tt
counted s t items n _ e r step f = absurd f

pub group_counted : (old new : ContentRecord) (group : List Item) (reply : Reply) → (s : State) × ContentStands old s
    → ((s : State) → ContentStands old s → (t : State) × Step s (Merge group) reply t × ContentStands new t) → IsMergeReply reply →
    IsCounted (length group) reply
group_counted old new group reply stood step fits = let went = step stood.0 stood.1 in
    counted stood.0 went.0 group (length group) reply refl stood.1.reached went.1 fits

-- ---- a delivery on its way
pub one_taken : (old new : ContentRecord) (group : List Item) (reply : Reply) → length group ≤ most_items → IsCounted (length group) reply
    → ((s : State) → ContentStands old s → (t : State) × Step s (Merge group) reply t × ContentStands new t) →
    ((s : State) → ContentStands old s → IsLast s (Merge group) reply) → ItemsAreTaken old group (merge_tally reply) new
one_taken old new group reply few c step last s stands =
    let at = step s stands in
    (at.0, takes_one s at.0 group reply few c at.1, at.2, one_want s at.0 group reply c at.1 (last s stands))

-- the items in front of those that are left were taken, unless they were stopped
pub record Delivering (old : ContentRecord) (items left : List Item) (t : Tally) (new : ContentRecord) : Type 0 where
  pub front : List Item
  pub all : front ++ left ≡ items
  pub taken : ItemsAreTaken old front t new
  pub counts : CountsOf (length front) t

pub delivering_begins : (old : ContentRecord) (items : List Item) (t : Tally) → t ≡ ended 0 0 None → Delivering old items items t old
delivering_begins old items t e =
    subst (λ (k : Tally). Delivering old items items k old) (sym e)
    (record {
      front = [];
      all = refl;
      taken = λ s stands.
          (s, record { groups = []; all = refl; few = λ g k. absurd (Contains-nil g k); merged = (refl, refl) }, stands, tt);
      counts = record { all = λ _. refl; few = omega arith; within = omega arith };
    })

module _ (old mid new : ContentRecord) (items left group others : List Item) (t u k : Tally) (d : Delivering old items left t mid)
    (is : left ≡ group ++ others) (none : t.stop ≡ None)
    (taken : ItemsAreTaken mid group u new) (counts : CountsOf (length group) u) where
  pub delivering_goes_on : k ≡ both_tallied t u → Delivering old items others k new
  delivering_goes_on e =
      subst (λ (x : Tally). Delivering old items others x new) (sym e)
      (record {
        front = d.front ++ group;
        all = append_assoc d.front group others ∙ ap (λ (l : List Item). d.front ++ l) (sym is) ∙ d.all;
        taken =
            λ s stands.
            (let a = d.taken s stands in
            let b = taken a.0 a.2 in (
              b.0,
              takes_append s a.0 b.0 d.front group t u a.1 none b.1,
              b.2,
              subst (λ n. IsNoRoomLast (d.front ++ group) n u.stop b.0) (omega (arith, d.counts.all none))
                  (later_want d.front group u.count.done u.stop b.0 b.3),
            ));
        counts = record {
          all = λ n. omega (arith, d.counts.all none, counts.all n, length-append d.front group);
          few = omega (arith, d.counts.few, counts.few, length-append d.front group);
          within = omega (arith, d.counts.within, counts.within);
        };
      })

  pub can_join : length items < 2 ^ 64 → CanJoin t u
  can_join most =
      let long = ap length d.all ∙ refl in
      let whole : length d.front + (length group + length others) ≡ length items =
      omega (arith, length-append d.front left, length-append group others, ap length is, ap length d.all) in
      record {
        done = omega (arith, most, whole, d.counts.few, counts.few);
        taken = omega (arith, most, whole, d.counts.few, counts.few, d.counts.within, counts.within);
        stale = omega (arith, most, whole, d.counts.few, counts.few, d.counts.within, counts.within);
      }

pub delivering_ends : (old new : ContentRecord) (items left : List Item) (t : Tally) → Delivering old items left t new →
    (t.stop ≡ None → left ≡ []) → ItemsAreTaken old items t new
delivering_ends old new items left t d ends = by_stop t.stop refl
  where
    by_stop : (o : Option Refusal) → t.stop ≡ o → ItemsAreTaken old items t new
    by_stop None e = subst (λ (l : List Item). ItemsAreTaken old l t new)
        (sym (append-nil d.front) ∙ ap (λ (l : List Item). d.front ++ l) (sym (ends e)) ∙ d.all) d.taken
    by_stop (Some fault) e =
        subst (λ (l : List Item). ItemsAreTaken old l t new) d.all
        (λ s stands.
        (let a = d.taken s stands in
        (a.0, takes_front s a.0 d.front left t fault a.1 e, a.2, front_want d.front left t.count.done t.stop a.0 a.3)))

-- ---- whether it was stopped
pub none_stopped : (stop : Option Refusal) (none : Bool) → is_some stop ≡ not none → none ≡ true → stop ≡ None
none_stopped None none e f = refl
none_stopped (Some fault) none e f = cc

pub still_stopped : (stop : Option Refusal) (none : Bool) → is_some stop ≡ not none → none ≡ false → stop ≡ None → ⊥
still_stopped None none e f g = cc
still_stopped (Some fault) none e f g = cc

pub was_stopped : (stop : Option Refusal) → is_some stop ≡ true → stop ≡ None → ⊥
was_stopped None e f = cc
was_stopped (Some fault) e f = cc

pub not_stopped : (stop : Option Refusal) → is_some stop ≡ false → stop ≡ None
not_stopped None e = refl
not_stopped (Some fault) e = cc
