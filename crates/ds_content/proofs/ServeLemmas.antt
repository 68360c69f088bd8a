-- A subscription that was made or shown something: what the content stands for then.
use Rattle.std.proofs.Common.{◌≡◌, ℕ, zero, suc, ◌+◌, ◌<◌, ◌≤◌, ◌⊎◌, Bool, true, false, cond, ◌||◌, List, [], ◌∷◌, ◌++◌, map, filter}
use Rattle.std.proofs.Common.{length, take, get_or, set, Option, Some, None, is_some}
use Rattle.std.proofs.Common.{refl, ap, ap₂, sym, ◌∙◌, subst, inl, inr, arith, Contains}
use Rattle.std.specs.List.{list_any}
use Rattle.std.specs.Option.{option_map}
use Rattle.std.proofs.lemmas.List.{get_or-map}
use Rattle.std.proofs.lemmas.Option.{same_Some, slice_get_within, get_or_from_slice_get}
use Rattle.ds_entry.specs.declared.item.Item.{Item}
use Rattle.ds_entry.proofs.Members.{Contains-from_filter, Contains-from_take}
use Rattle.ds_feed.specs.Kept.{Kept}
use Rattle.ds_held.specs.Held.{Holding, held_items, IsSound}
use Rattle.ds_index.specs.Marked.{MarkedHolding}
use Rattle.ds_join.specs.ItemTop.{IsPartOf}
use Rattle.ds_pattern.specs.declared.query.Query.{Query}
use Rattle.ds_watch.specs.Followed.{Followed}
use Rattle.ds_watch.specs.Masks.{shown_to, made_at}
use Rattle.ds_watch.specs.Watching.{Watching, watching}
use Rattle.ds_watch.specs.declared.masks.Masks.{Masks}
use Rattle.ds_machine.specs.Subscription.{Subscription, is_unseen}
use Rattle.ds_machine.specs.State.{State, held, unseen, subscription_at, subscribes}
use Rattle.ds_machine.specs.Watching.{shown_at_first, has_unseen}
use Rattle.ds_content.specs.Content.{ContentRecord}
use Rattle.ds_content.specs.Followed.{followed_of, followed_by, followed_from}
use Rattle.ds_content.specs.Kept.{AreMarked, unseen_at}
use Rattle.ds_content.specs.Marking.{AreRemarked}
use Rattle.ds_content.specs.Shown.{flagged, AreUnseen, AreFirst, IsRest, IsRestOf, is_to_show}
use Rattle.ds_content.specs.Stands.{ContentStands}
use Rattle.ds_content.proofs.EnterLemmas.{value_of, few_places}
use Rattle.ds_content.proofs.FlagLemmas.{taken_first, few_taken}
use Rattle.ds_content.proofs.HoldingLemmas.{top_itself}
use Rattle.ds_content.proofs.MarkLemmas.{none_more}
use Rattle.ds_content.proofs.PendingLemmas.{none_at}
use Rattle.ds_content.proofs.RemarkLemmas.{check_others, check_first, check_rest, made_flag, made_other}
use Rattle.ds_content.proofs.SeenLemmas.{at_from, made_so, to_show_is, shown_so, stands_subscribed, first_part, place_of, twin, shown_part}
use Rattle.ds_names.specs.Limits.{last_place}
use Rattle.ds_pattern.specs.Under.{is_under}
use Rattle.ds_entry.specs.Item.{passes}

-- ---- flags
flagged_none : (fs : List Bool) → flagged fs [] ≡ []
flagged_none [] = refl
flagged_none (f ∷ fs) = refl

pub flagged_are : (p : Item → Bool) (n : ℕ) (hs : List Item) → flagged (map p hs) (take n hs) ≡ filter p (take n hs)
flagged_are p zero hs = flagged_none (map p hs)
flagged_are p (suc n) [] = refl
flagged_are p (suc n) (x ∷ hs) = by_test (p x) (flagged_are p n hs)
  where
    by_test : (b : Bool) → flagged (map p hs) (take n hs) ≡ filter p (take n hs) →
        flagged (b ∷ map p hs) (x ∷ take n hs) ≡ cond b (x ∷ filter p (take n hs)) (filter p (take n hs))
    by_test true e = ap (λ (l : List Item). x ∷ l) e
    by_test false e = e

any_same : (f g : Item → Bool) (hs : List Item) → map f hs ≡ map g hs → list_any f hs ≡ list_any g hs
any_same f g [] e = refl
any_same f g (x ∷ hs) e =
    let first : f x ≡ g x = cc in
    let rest : map f hs ≡ map g hs = cc in
    ap₂ (λ a b. a || b) first (any_same f g hs rest)

-- ---- what is shown first
pub first_are : (h : MarkedHolding Masks) (sub max : ℕ) (items : List Item) (passed : ℕ) → AreFirst h sub max items passed →
    items ≡ take max (filter (is_to_show h sub) (held_items h.held))
first_are h sub max items passed first = by_end first.enough
  where
    by_end : (length items ≡ max) ⊎ (items ≡ filter (is_to_show h sub) (held_items h.held)) →
        items ≡ take max (filter (is_to_show h sub) (held_items h.held))
    by_end (inl full) =
        let long : length (filter (is_to_show h sub) (take passed (held_items h.held))) ≡ max =
        ap (λ (l : List Item). length l) (sym first.shown) ∙ full in
        first.shown ∙ sym (taken_first (is_to_show h sub) passed (held_items h.held)) ∙
        ap (λ n. take n (filter (is_to_show h sub) (held_items h.held))) long
    by_end (inr whole) =
        whole ∙ sym (few_taken max (filter (is_to_show h sub) (held_items h.held))
        (subst (λ (l : List Item). length l ≤ max) whole first.few))

-- ---- the place of a subscription
pub within_places : (ws : List (Option Watching)) (sub : ℕ) (w : Watching) → get_or ws sub None ≡ Some w → sub < length ws
within_places [] zero w e = absurd (cc)
within_places [] (suc sub) w e = absurd (cc)
within_places (x ∷ ws) zero w e = omega arith
within_places (x ∷ ws) (suc sub) w e = let rest = within_places ws sub w e in omega (arith, rest)

module _ (h : MarkedHolding Masks) (ws : List (Option Watching)) (sub : ℕ) where
  shown_place : get_or (followed_from (held_items h.held) (unseen_at h) 0 ws) sub None ≡ option_map
      (followed_by (held_items h.held) (unseen_at h) sub) (get_or ws sub None)
  shown_place = at_from (held_items h.held) (unseen_at h) 0 ws sub sub (none_more sub)

  pub made_place : is_some (get_or (followed_from (held_items h.held) (unseen_at h) 0 ws) sub None) ≡ true →
      (w : Watching) × (get_or ws sub None ≡ Some w)
  made_place e = by_place (get_or ws sub None) refl
    where
      by_place : (o : Option Watching) → get_or ws sub None ≡ o → (w : Watching) × (get_or ws sub None ≡ Some w)
      by_place None q = absurd (let no : true ≡ false =
          sym e ∙ ap is_some (shown_place ∙ ap (option_map (followed_by (held_items h.held) (unseen_at h) sub)) q) in cc)
      by_place (Some w) q = (w, q)

  -- what the flags that are seen say is what the masks say
  pub unseen_items : (w : Watching) → get_or ws sub None ≡ Some w → (journal : Kept) (stamp : ℕ) (items : List Item) (passed : ℕ) →
      AreUnseen (value_of h journal stamp ws) sub items passed → items ≡ filter (is_to_show h sub) (take passed (held_items h.held))
  unseen_items w e journal stamp items passed are =
      are (followed_by (held_items h.held) (unseen_at h) sub w)
      (shown_place ∙ ap (option_map (followed_by (held_items h.held) (unseen_at h) sub)) e)
      ∙ flagged_are (is_to_show h sub) passed (held_items h.held)

  pub are_unseen : (journal : Kept) (stamp : ℕ) (items : List Item) (passed : ℕ) →
      items ≡ filter (is_to_show h sub) (take passed (held_items h.held)) → AreUnseen (value_of h journal stamp ws) sub items passed
  are_unseen journal stamp items passed is f e = by_place (get_or ws sub None) refl
    where
      by_place : (o : Option Watching) → get_or ws sub None ≡ o → items ≡ flagged f.unseen (take passed (held_items h.held))
      by_place None q = absurd (let no : None ≡ Some f =
          sym (shown_place ∙ ap (option_map (followed_by (held_items h.held) (unseen_at h) sub)) q) ∙ e in cc)
      by_place (Some w) q =
          let same : followed_by (held_items h.held) (unseen_at h) sub w ≡ f =
          same_Some (followed_by (held_items h.held) (unseen_at h) sub w) f
          (sym (shown_place ∙ ap (option_map (followed_by (held_items h.held) (unseen_at h) sub)) q) ∙ e) in
          is ∙ sym (flagged_are (is_to_show h sub) passed (held_items h.held)) ∙
          ap (λ (x : Followed). flagged x.unseen (take passed (held_items h.held))) same

  -- and so what they say of the items after those
  pub rest_items : (w : Watching) → get_or ws sub None ≡ Some w → (journal : Kept) (stamp passed : ℕ) (more : Bool) →
      IsRest (value_of h journal stamp ws) sub passed more → IsRestOf h sub passed more
  rest_items w e journal stamp passed more rest none k i at l =
      let within = slice_get_within (held_items h.held) k i at in
      sym (get_or-map (is_to_show h sub) (held_items h.held) k i false within ∙
      ap (is_to_show h sub) (get_or_from_slice_get (held_items h.held) k i i at))
      ∙ rest (followed_by (held_items h.held) (unseen_at h) sub w)
      (shown_place ∙ ap (option_map (followed_by (held_items h.held) (unseen_at h) sub)) e) none k l

  pub is_rest : (journal : Kept) (stamp passed : ℕ) (more : Bool) → IsRestOf h sub passed more →
      IsRest (value_of h journal stamp ws) sub passed more
  is_rest journal stamp passed more rest f e none k l = by_place (get_or ws sub None) refl
    where
      by_place : (o : Option Watching) → get_or ws sub None ≡ o → get_or f.unseen k false ≡ false
      by_place None q = absurd (let no : None ≡ Some f =
          sym (shown_place ∙ ap (option_map (followed_by (held_items h.held) (unseen_at h) sub)) q) ∙ e in cc)
      by_place (Some w) q =
          let same : followed_by (held_items h.held) (unseen_at h) sub w ≡ f =
          same_Some (followed_by (held_items h.held) (unseen_at h) sub w) f
          (sym (shown_place ∙ ap (option_map (followed_by (held_items h.held) (unseen_at h) sub)) q) ∙ e) in
          ap (λ (x : Followed). get_or x.unseen k false) (sym same) ∙
          none_at (is_to_show h sub) (held_items h.held) k (λ i at. rest none k i at l)

  -- ---- what the masks say is what the state says
  module _ (sound : IsSound h.held) (journal : Kept) (stamp : ℕ) (s : State) (stands : ContentStands (value_of h journal stamp ws) s)
      (seer : Subscription) (here : subscription_at s sub ≡ Some seer) where
    kept_place : (o : Option Watching) → get_or ws sub None ≡ o → (w : Watching) × (get_or ws sub None ≡ Some w)
    kept_place (Some w) q = (w, q)
    kept_place None q =
        absurd (let no : None ≡ Some (followed_of (held s) seer) =
        sym (shown_place ∙ ap (option_map (followed_by (held_items h.held) (unseen_at h) sub)) q) ∙ place_is ∙
        ap (option_map (followed_of (held s))) here in cc)
      where
        place_is : get_or (followed_from (held_items h.held) (unseen_at h) 0 ws) sub None ≡ option_map (followed_of (held s))
            (subscription_at s sub)
        place_is = place_of (value_of h journal stamp ws) s stands sub

    pub twin_here : (w : Watching) × (get_or ws sub None ≡ Some w) ×
        (followed_by (held_items h.held) (unseen_at h) sub w ≡ followed_of (held_items h.held) seer)
    twin_here =
        let k = kept_place (get_or ws sub None) refl in
        let t = twin (value_of h journal stamp ws) s sub (unseen_at h) ws k.0 stands refl k.1 in
        let one : t.seer ≡ seer = same_Some t.seer seer (sym t.here ∙ here) in
        (k.0, k.1, t.same ∙ ap (followed_of (held_items h.held)) one)

    pub to_show : filter (is_to_show h sub) (held_items h.held) ≡ unseen s seer
    to_show =
        to_show_is (held_items h.held) (held_items h.held) (top_itself h.held sound) (unseen_at h) sub twin_here.0 seer twin_here.2
        ∙ ap (λ (hs : List Item). filter (is_unseen seer.query seer.shown) hs) stands.held

    pub some_to_show : list_any (is_to_show h sub) (held_items h.held) ≡ true → has_unseen s seer ≡ true
    some_to_show e =
        ap (list_any (is_unseen seer.query seer.shown)) (sym stands.held) ∙
        sym (any_same (is_to_show h sub) (is_unseen seer.query seer.shown) (held_items h.held)
        (ap (λ (f : Followed). f.unseen) twin_here.2)) ∙ e

-- ---- the content after its place was written
module _ (old new : MarkedHolding Masks) (journal : Kept) (stamp : ℕ) (ws : List (Option Watching)) (sub : ℕ)
    (places : length ws ≡ old.held.limits.subs) (within : sub < length ws) (room : stamp < last_place) where
  seat : sub < old.held.limits.subs
  seat = omega (arith, within, places)

  moved : (s : State) (t : State) (w : Watching) → new.held ≡ old.held
      → ContentStands (record {
        held = held_items old.held;
        journal = journal;
        limits = old.held.limits;
        stamp = stamp + 1;
        subscriptions = followed_from (held_items old.held)
            (unseen_at new) 0 (set ws sub (Some w));
      }) t → ContentStands (value_of new journal (stamp + 1) (set ws sub (Some w))) t
  moved s t w e stood =
      subst (λ (h : Holding). ContentStands (record {
        held = held_items h;
        journal = journal;
        limits = h.limits;
        stamp = stamp + 1;
        subscriptions =
            followed_from (held_items h) (unseen_at new) 0 (set ws sub (Some w));
      }) t) (sym e) stood

  -- made anew
  module _ (q : Query) (initial : Bool) (flags : List Bool) (is : flags ≡ map (passes (is_under q)) (held_items old.held))
      (place : sub < 128)
      (all : AreRemarked old new (length flags) (λ k. made_at sub (get_or flags k false) initial)) (are : AreMarked old ws) where
    pub made_stands : (s : State) → ContentStands (value_of old journal stamp ws) s →
        ContentStands (value_of new journal (stamp + 1) (set ws sub (Some (watching q (stamp + 1)))))
        (subscribes s sub q (shown_at_first (held_items old.held) initial))
    made_stands s stands =
        moved s (subscribes s sub q (shown_at_first (held_items old.held) initial)) (watching q (stamp + 1)) all.held
        (stands_subscribed (value_of old journal stamp ws) s sub q (shown_at_first (held_items old.held) initial) (unseen_at old)
        (unseen_at new) ws (watching q (stamp + 1)) stands refl
        (made_other old new sub place q initial flags is all)
        (made_so q (stamp + 1) initial (held_items old.held) (unseen_at new) sub
        (λ i h. made_flag old new sub place q initial flags is all i h (are.long i h)))
        (first_part (value_of old journal stamp ws) s stands initial) seat room)

  -- shown something
  module _ (sound : IsSound old.held) (passed : ℕ) (all : AreRemarked old new passed (λ k. shown_to sub)) where
    pub shown_stands : (s : State) (seer : Subscription) (w : Watching) (items : List Item) →
        ContentStands (value_of old journal stamp ws) s → subscription_at s sub ≡ Some seer →
        get_or ws sub None ≡ Some w → items ≡ filter (is_to_show old sub) (take passed (held_items old.held))
        → ContentStands (value_of new journal (stamp + 1) (set ws sub (Some (watching w.query (stamp + 1)))))
        (subscribes s sub seer.query (seer.shown ++ items))
    shown_stands s seer w items stands here at is =
        let t = twin (value_of old journal stamp ws) s sub (unseen_at old) ws w stands refl at in
        let one : t.seer ≡ seer = same_Some t.seer seer (sym t.here ∙ here) in
        let same = t.same ∙ ap (followed_of (held_items old.held)) one in
        let part : IsPartOf items (held_items old.held) = λ i h. Contains-from_take passed (held_items old.held) i
        (Contains-from_filter (is_to_show old sub) (take passed (held_items old.held)) i
        (subst (λ (l : List Item). Contains l i) is h)).0 in
        moved s (subscribes s sub seer.query (seer.shown ++ items)) (watching w.query (stamp + 1)) all.held
        (stands_subscribed (value_of old journal stamp ws) s sub seer.query (seer.shown ++ items) (unseen_at old) (unseen_at new) ws
        (watching w.query (stamp + 1)) stands refl
        (check_others old new passed sub all)
        (shown_so (held_items old.held) (held_items old.held) (top_itself old.held sound) (unseen_at old) sub w seer same passed
        (stamp + 1) (unseen_at new) (check_first old new passed sub all) (check_rest old new passed sub all)
        ∙ ap (λ (l : List Item). followed_of (held_items old.held)
        (record { query = seer.query; stamp = stamp + 1; shown = seer.shown ++ l })) (sym is))
        (shown_part (value_of old journal stamp ws) s sub seer items stands here part) seat room)

-- ---- a place that is below the limit
pub seat_here : (h : MarkedHolding Masks) (journal : Kept) (stamp : ℕ) (ws : List (Option Watching)) (v : ContentRecord) →
    value_of h journal stamp ws ≡ v → (s : State) →
    ContentStands (value_of h journal stamp ws) s → length ws ≡ h.held.limits.subs → (sub : ℕ) → sub < v.limits.subs →
    (sub < length ws) × (sub < 128)
seat_here h journal stamp ws v is s stands places sub below =
    let same : h.held.limits.subs ≡ v.limits.subs = ap (λ (x : ContentRecord). x.limits.subs) is in
    let few = few_places (value_of h journal stamp ws) s (length ws) stands places in
    (omega (arith, same, places, below), omega (arith, same, places, below, few))

-- the first flags that are set
pub any_flags : (f : Item → Bool) (hs : List Item) → list_any (λ b. b) (map f hs) ≡ list_any f hs
any_flags f [] = refl
any_flags f (x ∷ hs) = ap (λ b. f x || b) (any_flags f hs)

-- a place that has a subscription
pub few_seats : (h : MarkedHolding Masks) (journal : Kept) (stamp : ℕ) (ws : List (Option Watching)) (s : State) →
    ContentStands (value_of h journal stamp ws) s →
    length ws ≡ h.held.limits.subs → (sub : ℕ) (w : Watching) → get_or ws sub None ≡ Some w → sub < 128
few_seats h journal stamp ws s stands places sub w at =
    let few = few_places (value_of h journal stamp ws) s (length ws) stands places in
    let within = within_places ws sub w at in
    omega (arith, few, within)

-- the state has a subscription where the content has one
pub twin_of : (h : MarkedHolding Masks) (ws : List (Option Watching)) (sub : ℕ) (journal : Kept) (stamp : ℕ) (s : State) →
    ContentStands (value_of h journal stamp ws) s →
    (w : Watching) → get_or ws sub None ≡ Some w → (seer : Subscription) × (subscription_at s sub ≡ Some seer)
twin_of h ws sub journal stamp s stands w at = let t = twin (value_of h journal stamp ws) s sub (unseen_at h) ws w stands refl at in
    (t.seer, t.here)
