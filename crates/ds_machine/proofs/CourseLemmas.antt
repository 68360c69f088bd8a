-- How a merge goes: what took effect is news, and what was done is held, or what covers it.
use Rattle.std.proofs.Common.{◌≡◌, ℕ, suc, ◌+◌, ◌<◌, ◌≤◌, true, List, [], ◌∷◌, length, take, fold, Option, Some, None, refl, ap, sym, ◌∙◌}
use Rattle.std.proofs.Common.{subst, inl, inr, arith, Contains, append_assoc, length-append}
use Rattle.std.proofs.lemmas.List.{append-nil}
use Rattle.std.proofs.lemmas.List.Elements.{Contains-push, Contains-append_left}
use Rattle.std.specs.Option.{option_map_or}
use Rattle.ds_entry.specs.ItemCovers.{covers}
use Rattle.ds_entry.specs.declared.item.Item.{Item}
use Rattle.ds_entry.specs.declared.item.Item.TheVariants.{Change as Changed, Floor as Floored}
use Rattle.ds_entry.proofs.Members.{Contains-nil, Contains-head, Contains-tail, Contains-cons}
use Rattle.ds_entry.proofs.ItemLemmas.{covers-trans}
use Rattle.ds_join.specs.ItemTop.{IsPartOf, CoversAll}
use Rattle.ds_machine.specs.Parts.{changes_in, floor_at, floors_in}
use Rattle.ds_machine.specs.State.{State, held, takes_effect}
use Rattle.ds_machine.specs.Standing.{cause_of, standing_of, floor_standing_of}
use Rattle.ds_machine.specs.Merging.{Course, item_merged, item_judged}
use Rattle.ds_machine.specs.Reached.{IsReached}
use Rattle.ds_machine.specs.Effect.{IsNews, Grows}
use Rattle.ds_machine.specs.declared.refusal.Cause.{Cause}
use Rattle.ds_machine.specs.declared.refusal.Cause.TheVariants as causes
use Rattle.ds_machine.specs.declared.refusal.Refusal.{Refusal}
use Rattle.ds_machine.specs.declared.refusal.Refusal.TheVariants as refusals
use Rattle.ds_machine.proofs.NewsLemmas.{news_change, news_floor}
use Rattle.ds_machine.proofs.CauseLemmas.{IsCoveredIn, change_free, floor_is_free, item_covered, room_above}
use Rattle.ds_machine.proofs.ReachedLemmas.{held_is_top, reached_more, reached_all, with_accepted}

-- ---- what grows
pub grows_none : (s t : State) (learnt : List Item) → t ≡ s → Grows s learnt t
grows_none s t learnt e =
    record {
      items = [];
      news = tt;
      part = λ i h. absurd (Contains-nil i h);
      state_is =
          e ∙ ap (with_accepted s) (sym (append-nil s.feed.accepted));
    }

pub grows_one : (s t : State) (i : Item) (learnt : List Item) → IsNews s.feed.accepted i → Contains learnt i →
    Grows (takes_effect s (i ∷ [])) learnt t → Grows s learnt t
grows_one s t i learnt n h g =
    record {
      items = i ∷ g.items;
      news = (n, g.news);
      part = λ x k. elim (Contains-cons i g.items x k) [ inl e ↦ subst (Contains learnt) (sym e) h | inr l ↦ g.part x l ];
      state_is = g.state_is ∙ ap (with_accepted s) (append_assoc s.feed.accepted (i ∷ []) g.items);
    }

pub grows_wider : (s t : State) (learnt more : List Item) → IsPartOf learnt more → Grows s learnt t → Grows s more t
grows_wider s t learnt more f g = record { items = g.items; news = g.news; part = λ i h. f i (g.part i h); state_is = g.state_is }

pub reached_grown : (s t : State) (learnt : List Item) → IsReached s → Grows s learnt t → IsReached t
reached_grown s t learnt r g = subst IsReached (sym g.state_is) (reached_all s g.items r g.news)

pub grown_part : (s t : State) (learnt : List Item) → Grows s learnt t → IsPartOf s.feed.accepted t.feed.accepted
grown_part s t learnt g i h = subst (λ (x : State). Contains x.feed.accepted i) (sym g.state_is)
    (Contains-append_left s.feed.accepted g.items i h)

-- ---- what is held later
pub covered_accepted : (t : State) → IsReached t → (i : Item) → Contains t.feed.accepted i → IsCoveredIn (held t) i
covered_accepted t r i h = (held_is_top t r).greatest i h

pub covered_later : (s t : State) → IsReached s → IsReached t → IsPartOf s.feed.accepted t.feed.accepted → (i : Item) →
    IsCoveredIn (held s) i → IsCoveredIn (held t) i
covered_later s t r q part i over =
    let then = covered_accepted t q over.0 (part over.0 ((held_is_top s r).among over.0 over.1)) in
    (then.0, then.1, covers-trans then.0 over.0 i then.2 over.2)

pub covers_first : (i : Item) (items held : List Item) → IsCoveredIn held i → CoversAll held items → CoversAll held (i ∷ items)
covers_first i items held over all x h = elim (Contains-cons i items x h) [
  | inl e ↦ (over.0, over.1, subst (λ (y : Item). covers over.0 y ≡ true) (sym e) over.2)
  | inr k ↦ all x k
]

pub covers_nothing : (held : List Item) → CoversAll held []
covers_nothing held x h = absurd (Contains-nil x h)

-- ---- an item that takes effect
pub item_news : (s : State) (i : Item) → IsReached s → cause_of s i ≡ None → IsNews s.feed.accepted i
item_news s (Changed c) r e =
    let free = change_free (standing_of s c) c e in
    news_change s.feed.accepted r.owners c free.valid (length (changes_in (held s))) s.limits.keys free.room
item_news s (Floored f) r e = news_floor s.feed.accepted r.owners f
    (room_above (floor_at (held s) f.owner) (length (floors_in (held s))) f (floor_is_free (floor_standing_of s f) f e).room)

-- ---- a merge
-- from one point of a merge to a later one: `count` items were done, all of them if nothing stopped it
pub record Went (k : Course) (items : List Item) (end : Course) : Type 0 where
  pub count : ℕ
  pub done : end.done ≡ k.done + count
  pub within : count ≤ length items
  pub whole : end.stop ≡ None → count ≡ length items
  pub some_left : (r : Refusal) → end.stop ≡ Some r → count < length items
  pub counted : length end.taken + end.stale ≤ length k.taken + k.stale + count
  pub grows : Grows k.state (take count items) end.state
  pub holds : CoversAll (held end.state) (take count items)

pub fold_stopped : (items : List Item) (k : Course) (r : Refusal) → k.stop ≡ Some r → fold item_merged k items ≡ k
fold_stopped [] k r e = refl
fold_stopped (i ∷ items) k r e =
    let same : item_merged k i ≡ k = ap (λ o. option_map_or {U = Course} (λ (x : Refusal). k) o (item_judged k i (cause_of k.state i))) e in
    ap (λ (x : Course). fold item_merged x items) same ∙ fold_stopped items k r e

stands_still : (k : Course) → k.stop ≡ None → Went k [] k
stands_still k e =
    record {
      count = 0;
      done = omega arith;
      within = omega arith;
      whole = λ q. refl;
      some_left = λ r q. absurd (let n : None ≡ Some r = sym e ∙ q in cc);
      counted = omega arith;
      grows = grows_none k.state k.state [] refl;
      holds = covers_nothing (held k.state);
    }

module _ (i : Item) (items : List Item) (k : Course) (r : IsReached k.state) (e : k.stop ≡ None) where
  -- the item took effect
  went_taken : cause_of k.state i ≡ None → (end : Course) → Went (item_judged k i None) items end → Went k (i ∷ items) end
  went_taken q end w =
      let fresh = item_news k.state i r q in
      let then : IsReached (takes_effect k.state (i ∷ [])) = reached_more k.state i r fresh in
      let last : IsReached end.state = reached_grown (takes_effect k.state (i ∷ [])) end.state (take w.count items) then w.grows in
      let here : Contains end.state.feed.accepted i =
      grown_part (takes_effect k.state (i ∷ [])) end.state (take w.count items) w.grows i (Contains-push k.state.feed.accepted i) in
      record {
        count = suc w.count;
        done = omega (arith, w.done);
        within = omega (arith, w.within);
        whole = λ z. ap suc (w.whole z);
        some_left = λ x z. omega (arith, w.some_left x z);
        counted = omega (arith, w.counted, length-append k.taken (i ∷ []));
        grows = grows_one k.state end.state i (i ∷ take w.count items) fresh (Contains-head i (take w.count items))
            (grows_wider (takes_effect k.state (i ∷ [])) end.state (take w.count items) (i ∷ take w.count items)
            (λ x h. Contains-tail i (take w.count items) x h) w.grows);
        holds = covers_first i (take w.count items) (held end.state) (covered_accepted end.state last i here) w.holds;
      }

  -- it was passed over
  went_passed : IsCoveredIn (held k.state) i → (stale : ℕ) → stale ≤ k.stale + 1 → (end : Course) →
      Went (record k { done = k.done + 1; stale = stale }) items end → Went k (i ∷ items) end
  went_passed over stale l end w =
      let last : IsReached end.state = reached_grown k.state end.state (take w.count items) r w.grows in
      record {
        count = suc w.count;
        done = omega (arith, w.done);
        within = omega (arith, w.within);
        whole = λ z. ap suc (w.whole z);
        some_left = λ x z. omega (arith, w.some_left x z);
        counted = omega (arith, w.counted, l);
        grows = grows_wider k.state end.state (take w.count items) (i ∷ take w.count items)
            (λ x h. Contains-tail i (take w.count items) x h) w.grows;
        holds = covers_first i (take w.count items) (held end.state)
            (covered_later k.state end.state r last (grown_part k.state end.state (take w.count items) w.grows) i over) w.holds;
      }

  -- it stopped the merge
  went_stopped : (fault : Refusal) → Went k (i ∷ items) (fold item_merged (record k { stop = Some fault }) items)
  went_stopped fault =
      subst (λ (x : Course). Went k (i ∷ items) x) (sym (fold_stopped items (record k { stop = Some fault }) fault refl))
      (record {
        count = 0;
        done = omega arith;
        within = omega arith;
        whole = λ q. absurd (let n : Some fault ≡ None = q in cc);
        some_left = λ x q. omega arith;
        counted = omega arith;
        grows = grows_none k.state k.state [] refl;
        holds = covers_nothing (held k.state);
      })

pub went : (items : List Item) (k : Course) → IsReached k.state → k.stop ≡ None → Went k items (fold item_merged k items)
went [] k r e = stands_still k e
went (i ∷ items) k r e = subst (λ (x : Course). Went k (i ∷ items) (fold item_merged x items)) (sym same)
    (by_cause (λ x m f. went items x m f) (cause_of k.state i) refl)
  where
    same : item_merged k i ≡ item_judged k i (cause_of k.state i)
    same = ap (λ o. option_map_or {U = Course} (λ stop. k) o (item_judged k i (cause_of k.state i))) e

    by_cause : ((x : Course) → IsReached x.state → x.stop ≡ None → Went x items (fold item_merged x items)) → (o : Option Cause) →
        cause_of k.state i ≡ o → Went k (i ∷ items) (fold item_merged (item_judged k i o) items)
    by_cause more None q = went_taken i items k r e q (fold item_merged (item_judged k i None) items)
        (more (item_judged k i None) (reached_more k.state i r (item_news k.state i r q)) e)
    by_cause more (Some causes.Known) q =
        let x : Course = record k { done = k.done + 1; stale = k.stale } in
        went_passed i items k r e (item_covered k.state i causes.Known q (inl refl)) k.stale (omega arith) (fold item_merged x items)
        (more x r e)
    by_cause more (Some (causes.Refused refusals.Stale)) q =
        let x : Course = record k { done = k.done + 1; stale = k.stale + 1 } in
        went_passed i items k r e (item_covered k.state i (causes.Refused refusals.Stale) q (inr refl)) (k.stale + 1) (omega arith)
        (fold item_merged x items) (more x r e)
    by_cause more (Some (causes.Refused fault)) q = went_stopped i items k r e fault
