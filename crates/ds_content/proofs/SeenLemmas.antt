-- What subscriptions are to be shown when they are made, and after they were shown something.
use Rattle.std.proofs.Common.{◌≡◌, ℕ, zero, suc, ◌+◌, ◌<◌, ◌≤◌, ◌⊎◌, Bool, true, false, not, ◌&&◌, ◌||◌, List, [], ◌∷◌, ◌++◌, map, filter}
use Rattle.std.proofs.Common.{length, take, get_or, set, Option, Some, None}
use Rattle.std.proofs.Common.{refl, ap, ap₂, sym, ◌∙◌, subst, inl, inr, arith, Contains}
use Rattle.std.proofs.lemmas.List.{map-set}
use Rattle.std.proofs.lemmas.List.Folds.{list_any-append}
use Rattle.std.specs.Prelude.{slice_get}
use Rattle.std.specs.List.{list_any}
use Rattle.std.specs.Option.{option_map}
use Rattle.ds_entry.specs.ItemCovers.{covers}
use Rattle.ds_entry.specs.declared.item.Item.{Item}
use Rattle.ds_entry.proofs.Members.{Contains-nil, Contains-filter, Contains-from_filter, Contains-from_take, list_any-from_Contains}
use Rattle.ds_entry.proofs.Members.{Contains-from_list_any}
use Rattle.ds_entry.proofs.ItemLemmas.{covers-refl}
use Rattle.std.proofs.lemmas.List.Elements.{Contains-append_cases}
use Rattle.ds_join.specs.ItemTop.{IsTop, IsPartOf}
use Rattle.ds_join.proofs.ItemTopLemmas.{held_apart}
use Rattle.ds_pattern.specs.declared.query.Query.{Query}
use Rattle.ds_watch.specs.Followed.{Followed}
use Rattle.ds_watch.specs.Watching.{Watching, watching}
use Rattle.ds_machine.specs.Subscription.{Subscription, is_unseen}
use Rattle.ds_machine.specs.State.{State, held, subscription_at, subscribes}
use Rattle.ds_machine.specs.Watching.{shown_at_first}
use Rattle.ds_machine.proofs.ReachedLemmas.{held_is_top, reached_served}
use Rattle.ds_content.specs.Content.{ContentRecord}
use Rattle.ds_content.specs.Followed.{followed_of, followed_by, followed_from}
use Rattle.ds_content.specs.Stands.{ContentStands}
use Rattle.ds_content.proofs.FlagLemmas.{tests_at, flags_same, filter_same, index_of, index_among, index_in_take, among_take, apart, at_map}
use Rattle.ds_content.proofs.FlagLemmas.{below_or_not}
use Rattle.ds_content.proofs.MarkLemmas.{followed_same, and_true, none_more}
use Rattle.ds_names.specs.Limits.{last_place}
use Rattle.ds_pattern.specs.Under.{is_under}
use Rattle.ds_entry.specs.Item.{passes}

and_false : (b : Bool) → b && false ≡ false
and_false true = refl
and_false false = refl

-- ---- a place in what is shown of the subscriptions
pub at_from : (hs : List Item) (u : Item → List Bool) (place : ℕ) (ws : List (Option Watching)) (k target : ℕ) → place + k ≡ target →
    get_or (followed_from hs u place ws) k None ≡ option_map (followed_by hs u target) (get_or ws k None)
at_from hs u place [] zero target e = refl
at_from hs u place [] (suc k) target e = refl
at_from hs u place (w ∷ ws) zero target e = let same : place ≡ target = omega (arith, e) in ap (λ n. option_map (followed_by hs u n) w) same
at_from hs u place (w ∷ ws) (suc k) target e = at_from hs u (suc place) ws k target (omega (arith, e))

pub length_from : (hs : List Item) (u : Item → List Bool) (place : ℕ) (ws : List (Option Watching)) →
    length (followed_from hs u place ws) ≡ length ws
length_from hs u place [] = refl
length_from hs u place (w ∷ ws) = ap suc (length_from hs u (suc place) ws)

-- the flags of one place became others
module _ (hs : List Item) (u v : Item → List Bool) (target : ℕ)
    (others : (x : Item) → Contains hs x → (k : ℕ) → (k ≡ target → ⊥) → get_or (v x) k false ≡ get_or (u x) k false) where
  by_same : (place : ℕ) (w : Option Watching) → (place ≡ target → ⊥) →
      option_map (followed_by hs v place) w ≡ option_map (followed_by hs u place) w
  by_same place None n = refl
  by_same place (Some w) n = ap (λ f. Some f)
      (followed_same refl refl (flags_same (λ (x : Item). get_or (v x) place false) (λ (x : Item). get_or (u x) place false) hs
      (λ x h. others x h place n)))

  follow_same : (place : ℕ) (ws : List (Option Watching)) → target < place → followed_from hs v place ws ≡ followed_from hs u place ws
  follow_same place [] l = refl
  follow_same place (w ∷ ws) l = ap₂ ◌∷◌ (by_same place w (λ e. omega (arith, e, l))) (follow_same (suc place) ws (omega arith))

  pub follow_set : (place sub : ℕ) (ws : List (Option Watching)) (w : Watching) → place + sub ≡ target →
      followed_from hs v place (set ws sub (Some w)) ≡ set (followed_from hs u place ws) sub (Some (followed_by hs v target w))
  follow_set place zero [] w e = refl
  follow_set place (suc sub) [] w e = refl
  follow_set place zero (x ∷ ws) w e =
      let same : place ≡ target = omega (arith, e) in
      ap₂ (λ n l. Some (followed_by hs v n w) ∷ l) same (follow_same (suc place) ws (omega (arith, same)))
  follow_set place (suc sub) (x ∷ ws) w e =
      ap₂ ◌∷◌ (by_same place x (λ q. omega (arith, q, e))) (follow_set (suc place) sub ws w (omega (arith, e)))

-- ---- a subscription that is made
-- all that is held under the query is to be shown at first, and nothing where all that is held was shown
first_flag : (q : Query) (initial : Bool) (hs : List Item) (x : Item) → Contains hs x →
    passes (is_under q) x && initial ≡ is_unseen q (shown_at_first hs initial) x
first_flag q true hs x h = refl
first_flag q false hs x h =
    let shown_it = list_any-from_Contains (λ (j : Item). covers j x) hs x h (covers-refl x) in
    sym (ap (λ b. passes (is_under q) x && not b) shown_it)

pub made_so : (q : Query) (stamp : ℕ) (initial : Bool) (hs : List Item) (v : Item → List Bool) (sub : ℕ) →
    ((x : Item) → Contains hs x → get_or (v x) sub false ≡ passes (is_under q) x && initial)
    → followed_by hs v sub (watching q stamp) ≡ followed_of hs (record { query = q; stamp = stamp; shown = shown_at_first hs initial })
made_so q stamp initial hs v sub here =
    followed_same refl refl (flags_same (λ (x : Item). get_or (v x) sub false) (is_unseen q (shown_at_first hs initial)) hs
    (λ x h. here x h ∙ first_flag q initial hs x h))

-- ---- what is shown
not_either : (u a b : Bool) → u && not (a || b) ≡ (u && not a) && not b
not_either true true b = refl
not_either true false b = refl
not_either false a b = refl

module _ (hs set_of : List Item) (top : IsTop hs set_of) (u : Item → List Bool) (place : ℕ) (w : Watching) (sub : Subscription)
    (same : followed_by hs u place w ≡ followed_of hs sub) where
  flags : map (λ (x : Item). get_or (u x) place false) hs ≡ map (is_unseen sub.query sub.shown) hs
  flags = ap (λ (f : Followed). f.unseen) same

  at_flag : (x : Item) → Contains hs x → get_or (u x) place false ≡ is_unseen sub.query sub.shown x
  at_flag x h = tests_at (λ (y : Item). get_or (u y) place false) (is_unseen sub.query sub.shown) hs flags x h

  -- what the flags say is to be shown
  pub to_show_is : filter (λ (x : Item). get_or (u x) place false) hs ≡ filter (is_unseen sub.query sub.shown) hs
  to_show_is = filter_same (λ (x : Item). get_or (u x) place false) (is_unseen sub.query sub.shown) hs at_flag

  -- those of the first n were shown, and their flags are cleared
  module _ (n stamp : ℕ) (v : Item → List Bool)
      (first : (k : ℕ) (x : Item) → slice_get hs k ≡ Some x → k < n → get_or (v x) place false ≡ false)
      (rest : (k : ℕ) (x : Item) → slice_get hs k ≡ Some x → n ≤ k → get_or (v x) place false ≡ get_or (u x) place false) where
    abbrev pub items : List Item
    items = filter (λ (x : Item). get_or (u x) place false) (take n hs)

    -- of the first ones, what is to be shown is among the items
    shown_first : (k : ℕ) (x : Item) → slice_get hs k ≡ Some x → k < n →
        is_unseen sub.query sub.shown x && not (list_any (λ j. covers j x) items) ≡ false
    shown_first k x at l = by_flag (is_unseen sub.query sub.shown x) refl
      where
        by_flag : (b : Bool) → is_unseen sub.query sub.shown x ≡ b →
            is_unseen sub.query sub.shown x && not (list_any (λ j. covers j x) items) ≡ false
        by_flag false e = ap (λ b. b && not (list_any (λ j. covers j x) items)) e
        by_flag true e =
            let passes : get_or (u x) place false ≡ true = at_flag x (index_among hs k x at) ∙ e in
            let among = Contains-filter (λ (y : Item). get_or (u y) place false) (take n hs) x (among_take n hs k x at l) passes in
            let shown_it = list_any-from_Contains (λ (j : Item). covers j x) items x among (covers-refl x) in
            ap (λ b. is_unseen sub.query sub.shown x && not b) shown_it ∙ and_false (is_unseen sub.query sub.shown x)

    -- and none of the items covers a later one
    shown_rest : (k : ℕ) (x : Item) → slice_get hs k ≡ Some x → n ≤ k → list_any (λ j. covers j x) items ≡ false
    shown_rest k x at l = by_test (list_any (λ j. covers j x) items) refl
      where
        by_test : (b : Bool) → list_any (λ j. covers j x) items ≡ b → list_any (λ j. covers j x) items ≡ false
        by_test false e = e
        by_test true e =
            let r = Contains-from_list_any (λ (j : Item). covers j x) items e in
            let from = Contains-from_filter (λ (y : Item). get_or (u y) place false) (take n hs) r.0 r.1 in
            let j = index_in_take n hs r.0 from.0 in
            let one : r.0 ≡ x = held_apart hs set_of top x r.0 (index_among hs k x at) (Contains-from_take n hs r.0 from.0) r.2 in
            let here : slice_get hs j.0 ≡ Some x = j.2 ∙ ap (λ (y : Item). Some y) one in
            let two : k ≡ j.0 = apart hs top.in_order j.0 k x here at in
            let below : j.0 < n = j.1 in
            absurd (omega (arith, two, below, l))

    shown_flag : (x : Item) → Contains hs x → get_or (v x) place false ≡ is_unseen sub.query (sub.shown ++ items) x
    shown_flag x h =
        let at = index_of hs x h in
        by_place at.0 at.1 (below_or_not at.0 n) ∙ sym split
      where
        split : is_unseen sub.query (sub.shown ++ items) x ≡ is_unseen sub.query sub.shown x && not (list_any (λ j. covers j x) items)
        split =
            ap (λ b. passes (is_under sub.query) x && not b) (list_any-append (λ (j : Item). covers j x) sub.shown items)
            ∙ not_either (passes (is_under sub.query) x) (list_any (λ j. covers j x) sub.shown) (list_any (λ j. covers j x) items)

        by_place : (k : ℕ) → slice_get hs k ≡ Some x → (k < n) ⊎ (n ≤ k) →
            get_or (v x) place false ≡ is_unseen sub.query sub.shown x && not (list_any (λ j. covers j x) items)
        by_place k at (inl l) = first k x at l ∙ sym (shown_first k x at l)
        by_place k at (inr m) =
            rest k x at m ∙ at_flag x h ∙ sym (ap (λ b. is_unseen sub.query sub.shown x && not b) (shown_rest k x at m) ∙
            and_true (is_unseen sub.query sub.shown x))

    pub shown_so : followed_by hs v place (watching w.query stamp) ≡ followed_of hs
        (record { query = sub.query; stamp = stamp; shown = sub.shown ++ items })
    shown_so =
        followed_same (ap (λ (f : Followed). f.query) same) refl
        (flags_same (λ (x : Item). get_or (v x) place false) (is_unseen sub.query (sub.shown ++ items)) hs shown_flag)

-- ---- the state with a subscription made or shown something, where only the flags of its place became others
pub stands_subscribed : (x : ContentRecord) (s : State) (sub : ℕ) (query : Query) (seen : List Item) (u v : Item → List Bool)
    (ws : List (Option Watching)) (w : Watching) → ContentStands x s → x.subscriptions ≡ followed_from x.held u 0 ws
    → ((i : Item) → Contains x.held i → (k : ℕ) → (k ≡ sub → ⊥) → get_or (v i) k false ≡ get_or (u i) k false)
    → followed_by x.held v sub w ≡ followed_of x.held (record { query = query; stamp = x.stamp + 1; shown = seen }) →
    IsPartOf seen s.feed.accepted → sub < x.limits.subs → x.stamp < last_place
    → ContentStands (record x { stamp = x.stamp + 1; subscriptions = followed_from x.held v 0 (set ws sub (Some w)) })
    (subscribes s sub query seen)
stands_subscribed x s sub query seen u v ws w stands is others same part place room =
    let made : Subscription = record { query = query; stamp = s.stamp + 1; shown = seen } in
    let after : followed_by x.held v sub w ≡ followed_of (held s) made =
    same ∙ ap₂ (λ hs n. followed_of hs (record { query = query; stamp = n + 1; shown = seen })) stands.held stands.stamp in
    let within : sub < s.limits.subs = subst (λ l. sub < l.subs) stands.limits place in
    let left : s.stamp < last_place = subst (λ n. n < last_place) stands.stamp room in
    record {
      held = stands.held;
      journal = stands.journal;
      limits = stands.limits;
      stamp = ap (λ n. n + 1) stands.stamp;
      subscriptions =
          follow_set x.held u v sub others 0 sub ws w (none_more sub)
          ∙ ap₂ (λ l f. set l sub (Some f)) (sym is ∙ stands.subscriptions) after
          ∙ sym (map-set (option_map (followed_of (held s))) s.subscriptions sub (Some made));
      reached = reached_served s sub query seen stands.reached within part;
      within =
          record
          { keys = stands.within.keys; floors = stands.within.floors; position = stands.within.position; stamp = omega (arith, left) };
    }

-- what a new subscription begins with had been accepted
pub first_part : (x : ContentRecord) (s : State) → ContentStands x s → (initial : Bool) →
    IsPartOf (shown_at_first x.held initial) s.feed.accepted
first_part x s stands true i h = absurd (Contains-nil i h)
first_part x s stands false i h = (held_is_top s stands.reached).among i (subst (λ (hs : List Item). Contains hs i) stands.held h)

-- ---- the state's subscription that is seen as the content's
pub record Twin (v : ContentRecord) (s : State) (sub : ℕ) (u : Item → List Bool) (w : Watching) : Type 0 where
  pub seer : Subscription
  pub here : subscription_at s sub ≡ Some seer
  pub same : followed_by v.held u sub w ≡ followed_of v.held seer

pub place_of : (v : ContentRecord) (s : State) → ContentStands v s → (sub : ℕ) →
    get_or v.subscriptions sub None ≡ option_map (followed_of (held s)) (subscription_at s sub)
place_of v s stands sub = ap (λ (l : List (Option Followed)). get_or l sub None) stands.subscriptions ∙
    at_map (followed_of (held s)) s.subscriptions sub

pub twin : (v : ContentRecord) (s : State) (sub : ℕ) (u : Item → List Bool) (ws : List (Option Watching)) (w : Watching) →
    ContentStands v s → v.subscriptions ≡ followed_from v.held u 0 ws → get_or ws sub None ≡ Some w → Twin v s sub u w
twin v s sub u ws w stands is at = by_place (subscription_at s sub) refl
  where
    there : Some (followed_by v.held u sub w) ≡ option_map (followed_of (held s)) (subscription_at s sub)
    there =
        ap (option_map (followed_by v.held u sub)) (sym at) ∙ sym (at_from v.held u 0 ws sub sub (none_more sub)) ∙
        ap (λ (l : List (Option Followed)). get_or l sub None) (sym is) ∙ place_of v s stands sub

    by_place : (o : Option Subscription) → subscription_at s sub ≡ o → Twin v s sub u w
    by_place None e = absurd (let no : Some (followed_by v.held u sub w) ≡ None = there ∙ ap (option_map (followed_of (held s))) e in cc)
    by_place (Some seer) e =
        let found : Some (followed_by v.held u sub w) ≡ Some (followed_of (held s) seer) =
        there ∙ ap (option_map (followed_of (held s))) e in
        let one : followed_by v.held u sub w ≡ followed_of (held s) seer = cc in
        record { seer = seer; here = e; same = one ∙ ap (λ hs. followed_of hs seer) (sym stands.held) }

-- what it was shown, with more of what is held, had been accepted
pub shown_part : (v : ContentRecord) (s : State) (sub : ℕ) (seer : Subscription) (items : List Item) → ContentStands v s →
    subscription_at s sub ≡ Some seer → IsPartOf items v.held → IsPartOf (seer.shown ++ items) s.feed.accepted
shown_part v s sub seer items stands at part i h = elim (Contains-append_cases seer.shown items i h) [
  | inl k ↦ (stands.reached.served sub seer at).shown i k
  | inr k ↦ (held_is_top s stands.reached).among i (subst (λ (hs : List Item). Contains hs i) stands.held (part i k))
]
