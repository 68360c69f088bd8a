-- The items of all pages, with the journal, are whole.
use Rattle.std.proofs.Common.{◌≡◌, ℕ, zero, suc, ◌+◌, ◌≤◌, not, Bool, true, false, List, [], ◌∷◌, ◌++◌, take, drop, length, filter, Option}
use Rattle.std.proofs.Common.{Some, None, refl, sym, ap, ◌∙◌, subst, inl, inr, ◌⊎◌, arith}
use Rattle.std.specs.declared.cmp.Ordering.TheVariants.{Less}
use Rattle.std.specs.Prelude.{nat_le}
use Rattle.std.specs.Ordering.{is_lt}
use Rattle.std.specs.Bool.{MatchBool}
use Rattle.std.specs.List.{Contains, AllByRecursion}
use Rattle.std.specs.List.Sorted.{IsStrictlySortedBy}
use Rattle.std.proofs.lemmas.Bool.{leb-true}
use Rattle.std.proofs.lemmas.List.{take_all, take-append-drop, length-append}
use Rattle.std.proofs.lemmas.List.Kept.{IsStrictlySortedBy-filter}
use Rattle.std.proofs.lemmas.List.Elements.{Contains-append_left, Contains-append_right, Contains-append_cases}
use Rattle.ds_names.specs.declared.key.Key.{Key}
use Rattle.ds_names.specs.Key.{key_cmp}
use Rattle.ds_entry.specs.Change.{ChangeRecord}
use Rattle.ds_entry.specs.Item.{passes, item_cmp}
use Rattle.ds_entry.specs.ItemCovers.{covers}
use Rattle.ds_entry.specs.declared.floor.Floor.{Floor}
use Rattle.ds_entry.specs.declared.item.Item.{Item}
use Rattle.ds_entry.specs.declared.item.Item.TheVariants.{Change as Changed, Floor as Floored}
use Rattle.ds_entry.proofs.Members.{In, In-from_Contains, Contains-from_In, Contains-filter, Contains-from_filter, Contains-from_drop}
use Rattle.ds_entry.proofs.CoversLemmas.{covers-key}
use Rattle.ds_entry.proofs.ItemLemmas.{covers-refl, covers-trans, covers-query}
use Rattle.ds_feed.specs.declared.cursor.Cursor.{Cursor}
use Rattle.ds_feed.specs.declared.reading.Page.{Page}
use Rattle.ds_feed.specs.Feed.{Feed, position}
use Rattle.ds_feed.specs.Page.{is_floor, is_after_key, still_to_come, floors_of, changes_of}
use Rattle.ds_replica.specs.Sent.{given, stood_for}
use Rattle.ds_replica.specs.Front.{IsFront}
use Rattle.ds_replica.specs.Whole.{before}
use Rattle.ds_replica.specs.Journaled.{since_items, cursor_after}
use Rattle.ds_replica.specs.Paged.{PageTurn, IsPageTurn, last_key, ArePages, page_items, last_cursor}
use Rattle.ds_replica.specs.PageLaws.{PagesAreWhole}
use Rattle.ds_replica.proofs.SentLemmas.{Contains-from_under, kept, given_stands, stood_left, stood_right}
use Rattle.ds_replica.proofs.WholeLemmas.{before_part}
use Rattle.ds_replica.proofs.JournalLemmas.{front_is, front_part, journal_covers, journal_stands}

-- ---- after a key

-- What comes after the first n changes of an ordered list comes after the last key of these.
drop_after : (after : Option Key) (xs : List Item) (n : ℕ) (d : ChangeRecord) → IsStrictlySortedBy item_cmp xs →
    ((i : Item) → In i xs → is_after_key after i ≡ true) →
    In (Changed d) (drop n xs) → is_after_key (last_key after (take n xs)) (Changed d) ≡ true
unfolding IsStrictlySortedBy
drop_after after [] zero d s f h = absurd h
drop_after after [] (suc n) d s f h = absurd h
drop_after after (x ∷ xs) zero d s f h = f (Changed d) h
drop_after after (Changed x ∷ xs) (suc n) d s f h = drop_after (Some x.key) xs n d s.1 (λ i k. below xs i s.0 k) h
  where
    here : (i : Item) → item_cmp (Changed x) i ≡ Less → is_after_key (Some x.key) i ≡ true
    here (Changed c) e = ap is_lt e
    here (Floored g) e = cc

    below : (ys : List Item) (i : Item) → AllByRecursion (λ y. item_cmp (Changed x) y ≡ Less) ys → In i ys →
        is_after_key (Some x.key) i ≡ true
    below [] i a k = absurd k
    below (y ∷ ys) i a (inl e) = here i (subst (λ (z : Item). item_cmp (Changed x) z ≡ Less) (sym e) a.0)
    below (y ∷ ys) i a (inr k) = below ys i a.1 k
drop_after after (Floored x ∷ xs) (suc n) d s f h = drop_after after xs n d s.1 (λ i k. f i (inr k)) h

-- Floors have no key.
floors_give_none : (after : Option Key) (xs ys : List Item) → last_key after (floors_of xs ++ ys) ≡ last_key after ys
floors_give_none after [] ys = refl
floors_give_none after (Changed c ∷ xs) ys = floors_give_none after xs ys
floors_give_none after (Floored f ∷ xs) ys = floors_give_none after xs ys

-- The other change of the key is after the same keys.
same_after : (after : Option Key) (c d : ChangeRecord) → d.key ≡ c.key → is_after_key after (Changed c) ≡ true →
    is_after_key after (Changed d) ≡ true
same_after None c d e h = refl
same_after (Some a) c d e h = subst (λ (k : Key). is_lt (key_cmp a k) ≡ true) (sym e) h

-- ---- one page

module _ (f : Feed) (scope : Key → Bool) (after : Option Key) (t : PageTurn) (s : IsPageTurn f scope after t) where
  abbrev rest : List Item
  rest = still_to_come (passes scope) after t.held

  abbrev changes : List Item
  changes = changes_of (still_to_come (passes scope) after t.held)

  items_are : t.page.items ≡ floors_of rest ++ take t.max changes
  items_are = ap (λ (p : Page). p.items) s.given

  last_is : t.page.last ≡ nat_le (length changes) t.max
  last_is = ap (λ (p : Page). p.last) s.given

  -- a page's cursor is the position of its time
  pub place_is : t.page.cursor.position ≡ position t.feed
  place_is = ap (λ (p : Page). p.cursor.position) s.given

  -- what had taken effect by then is what took effect before its cursor
  pub page_front : before f t.page.cursor.position ≡ t.feed.accepted
  page_front = ap (before f) place_is ∙ front_is t.feed f s.front

  in_order : IsStrictlySortedBy item_cmp changes
  in_order =
      IsStrictlySortedBy-filter item_cmp (λ i. not (is_floor i)) rest
      (IsStrictlySortedBy-filter item_cmp (is_after_key after) (filter (passes scope) t.held)
      (IsStrictlySortedBy-filter item_cmp (passes scope) t.held s.top.in_order))

  all_after : (i : Item) → In i changes → is_after_key after i ≡ true
  all_after i h =
      let k = Contains-from_filter (λ (j : Item). not (is_floor j)) rest i (Contains-from_In i changes h) in
      (Contains-from_filter (is_after_key after) (filter (passes scope) t.held) i k.0).1

  to_come : (i : Item) → Contains t.held i → passes scope i ≡ true → is_after_key after i ≡ true → Contains rest i
  to_come i h p b = Contains-filter (is_after_key after) (filter (passes scope) t.held) i (Contains-filter (passes scope) t.held i h p) b

  taken : (i : Item) → Contains (take t.max changes) i → Contains t.page.items i
  taken i h = subst (λ (l : List Item). Contains l i) (sym items_are) (Contains-append_right (floors_of rest) (take t.max changes) i h)

  -- A held change is on the page, or after its last key if more pages follow.
  pub on_page : (d : ChangeRecord) → Contains t.held (Changed d) → passes scope (Changed d) ≡ true → is_after_key after (Changed d) ≡ true →
      Contains t.page.items (Changed d) ⊎ ((t.page.last ≡ false) × (is_after_key (last_key after t.page.items) (Changed d) ≡ true))
  on_page d h p b =
      by_place (Contains-append_cases (take t.max changes) (drop t.max changes) (Changed d)
      (subst (λ (l : List Item). Contains l (Changed d)) (sym (take-append-drop t.max changes))
      (Contains-filter (λ (j : Item). not (is_floor j)) rest (Changed d) (to_come (Changed d) h p b) refl)))
    where
      past : Contains (drop t.max changes) (Changed d) → is_after_key (last_key after t.page.items) (Changed d) ≡ true
      past k =
          let key : last_key after t.page.items ≡ last_key after (take t.max changes) =
          ap (last_key after) items_are ∙ floors_give_none after rest (take t.max changes) in
          ap (λ (o : Option Key). is_after_key o (Changed d)) key ∙
          drop_after after changes t.max d in_order all_after (In-from_Contains (Changed d) (drop t.max changes) k)

      at_end : (b : Bool) → t.page.last ≡ b → Contains (drop t.max changes) (Changed d) →
          Contains t.page.items (Changed d) ⊎ ((t.page.last ≡ false) × (is_after_key (last_key after t.page.items) (Changed d) ≡ true))
      at_end false e k = inr (e, past k)
      at_end true e k =
          let few : length changes ≤ t.max = leb-true (length changes) t.max (sym last_is ∙ e) in
          inl (taken (Changed d) (subst (λ (l : List Item). Contains l (Changed d)) (sym (take_all t.max changes few))
          (Contains-from_drop t.max changes (Changed d) k)))

      by_place : Contains (take t.max changes) (Changed d) ⊎ Contains (drop t.max changes) (Changed d) →
          Contains t.page.items (Changed d) ⊎ ((t.page.last ≡ false) × (is_after_key (last_key after t.page.items) (Changed d) ≡ true))
      by_place (inl k) = inl (taken (Changed d) k)
      by_place (inr k) = at_end t.page.last refl k

  floor_to_come : (g : Floor) → is_after_key after (Floored g) ≡ true → Contains t.held (Floored g) → Contains t.page.items (Floored g)
  floor_to_come g b h =
      subst (λ (l : List Item). Contains l (Floored g)) (sym items_are)
      (Contains-append_left (floors_of rest) (take t.max changes) (Floored g)
      (Contains-filter is_floor rest (Floored g) (to_come (Floored g) h refl b) refl))

-- the first page stands for all that a floor of that time covers
first_page : (f : Feed) (scope : Key → Bool) (t : PageTurn) → IsPageTurn f scope None t → (g : Floor) (i : Item) →
    Contains t.feed.accepted (Floored g) →
    Contains t.feed.accepted i → covers (Floored g) i ≡ true → Contains (stood_for (given t.known t.page.items)) i
first_page f scope t s g i h k e = let d = s.top.greatest (Floored g) h in over d.0 d.1 d.2
  where
    over : (d : Item) → Contains t.held d → covers d (Floored g) ≡ true → Contains (stood_for (given t.known t.page.items)) i
    over (Changed d) l q = cc
    over (Floored d) l q = given_stands t.known t.page.items i (Floored d) (floor_to_come f scope None t s d refl l) (s.knows i k)
        (covers-trans (Floored d) (Floored g) i q e)

-- ---- all pages

-- a floor that took effect before the position covers the item
abbrev IsFloored : Feed → ℕ → Item → Type 0
IsFloored f p i = (g : Floor) × Contains (before f p) (Floored g) × (covers (Floored g) i ≡ true)

module _ (f : Feed) (scope : Key → Bool) where
  -- What comes after a page, by its last key, if it isn't the last one.
  abbrev Follow : PageTurn → Option Key → List PageTurn → Type 0
  Follow t after ts = MatchBool t.page.last (ts ≡ []) (ArePages f scope after t.page.cursor.position ts)

  -- No page's cursor is past the last one's.
  rises : (t : PageTurn) (after : Option Key) (ts : List PageTurn) → Follow t after ts →
      t.page.cursor.position ≤ (last_cursor t.page.cursor ts).position
  rises t after [] w = omega arith
  rises t after (u ∷ us) w = by_last t.page.last w (rises u (last_key after u.page.items) us)
    where
      by_last : (b : Bool) → MatchBool b ((u ∷ us) ≡ []) (ArePages f scope after t.page.cursor.position (u ∷ us)) →
          (Follow u (last_key after u.page.items) us → u.page.cursor.position ≤ (last_cursor u.page.cursor us).position) →
          t.page.cursor.position ≤ (last_cursor u.page.cursor us).position
      by_last true e more = cc
      by_last false w more =
          let on : t.page.cursor.position ≤ u.page.cursor.position = w.1 in
          let rest : u.page.cursor.position ≤ (last_cursor u.page.cursor us).position = more w.2 in
          omega arith

  -- The pages after a key stand for each change after it that took effect before them, unless a floor covers it by then.
  pages_stand : (after : Option Key) (p : ℕ) (at : Cursor) (ts : List PageTurn) → ArePages f scope after p ts →
      (b : Feed) (c : ChangeRecord) → IsFront b f → position b ≤ p → Contains b.accepted (Changed c) →
      passes scope (Changed c) ≡ true → is_after_key after (Changed c) ≡ true →
      Contains (stood_for (page_items ts)) (Changed c) ⊎ IsFloored f (last_cursor at ts).position (Changed c)
  pages_stand after p at [] w b c front early h q r = absurd w
  pages_stand after p at (t ∷ ts) w b c front early h q r =
      let d = w.0.top.greatest (Changed c) accepted in
      over d.0 d.1 d.2 (λ v k. pages_stand (last_key after t.page.items) t.page.cursor.position t.page.cursor ts v b c front on h q k)
    where
      place : t.page.cursor.position ≡ position t.feed
      place = place_is f scope after t w.0

      on : position b ≤ t.page.cursor.position
      on = let low : p ≤ t.page.cursor.position = w.1 in omega arith

      accepted : Contains t.feed.accepted (Changed c)
      accepted = front_part b t.feed f front w.0.front
          (let l : position b ≤ t.page.cursor.position = on in let e : t.page.cursor.position ≡ position t.feed = place in omega arith)
          (Changed c) h

      here : (d : Item) → covers d (Changed c) ≡ true → Contains t.page.items d → Contains (stood_for (page_items (t ∷ ts))) (Changed c)
      here d e k = stood_left (given t.known t.page.items) (page_items ts) (Changed c)
          (given_stands t.known t.page.items (Changed c) d k (w.0.knows (Changed c) accepted) e)

      next : (b : Bool) → t.page.last ≡ b → b ≡ false → Follow t (last_key after t.page.items) ts →
          ArePages f scope (last_key after t.page.items) t.page.cursor.position ts
      next true e n v = cc
      next false e n v = subst (λ (b : Bool). MatchBool b (ts ≡ [])
          (ArePages f scope (last_key after t.page.items) t.page.cursor.position ts)) e v

      on_or_after : (d : ChangeRecord) → covers (Changed d) (Changed c) ≡ true →
          Contains t.page.items (Changed d) ⊎ ((t.page.last ≡ false) × (is_after_key (last_key after t.page.items) (Changed d) ≡ true)) →
          (ArePages f scope (last_key after t.page.items) t.page.cursor.position ts →
          is_after_key (last_key after t.page.items) (Changed c) ≡ true →
          Contains (stood_for (page_items ts)) (Changed c) ⊎ IsFloored f (last_cursor t.page.cursor ts).position (Changed c)) →
          Contains (stood_for (page_items (t ∷ ts))) (Changed c) ⊎ IsFloored f (last_cursor t.page.cursor ts).position (Changed c)
      on_or_after d e (inl k) more = inl (here (Changed d) e k)
      on_or_after d e (inr k) more =
          elim (more (next t.page.last refl k.0 w.2) (same_after (last_key after t.page.items) d c (covers-key d c e) k.1)) [
            | inl l ↦ inl (stood_right (given t.known t.page.items) (page_items ts) (Changed c) l)
            | inr l ↦ inr l
          ]

      over : (d : Item) → Contains t.held d → covers d (Changed c) ≡ true →
          (ArePages f scope (last_key after t.page.items) t.page.cursor.position ts →
          is_after_key (last_key after t.page.items) (Changed c) ≡ true →
          Contains (stood_for (page_items ts)) (Changed c) ⊎ IsFloored f (last_cursor t.page.cursor ts).position (Changed c)) →
          Contains (stood_for (page_items (t ∷ ts))) (Changed c) ⊎ IsFloored f (last_cursor t.page.cursor ts).position (Changed c)
      over (Floored g) k e more =
          let there : Contains (before f t.page.cursor.position) (Floored g) =
          subst (λ (l : List Item). Contains l (Floored g)) (sym (page_front f scope after t w.0)) (w.0.top.among (Floored g) k) in
          inr (
            g,
            before_part f t.page.cursor.position (last_cursor t.page.cursor ts).position
                (rises t (last_key after t.page.items) ts w.2) (Floored g) there,
            e,
          )
      over (Changed d) k e more =
          on_or_after d e (on_page f scope after t w.0 d k (covers-query scope (Changed d) (Changed c) e q)
          (same_after after c d (sym (covers-key d c e)) r)) more

-- No page's cursor is past the store's position.
front_within : (f late : Feed) → IsFront f late → position f ≤ position late
front_within f late g =
    let e : length late.accepted ≡ length f.accepted + length g.grown.0 = ap length g.grown.1 ∙ length-append f.accepted g.grown.0 in
    let first : late.first ≡ f.first = g.first in
    omega arith

pub pages_end : (f : Feed) (scope : Key → Bool) (first : PageTurn) (pages : List PageTurn) → ArePages f scope None 0 (first ∷ pages) →
    (last_cursor first.page.cursor pages).position ≤ position f
pages_end f scope first pages w = at first None 0 pages w
  where
    end_at : (after : Option Key) (t : PageTurn) → IsPageTurn f scope after t → t.page.cursor.position ≤ position f
    end_at after t s =
        let place : t.page.cursor.position ≡ position t.feed = place_is f scope after t s in
        let within : position t.feed ≤ position f = front_within t.feed f s.front in
        omega arith

    at : (t : PageTurn) (after : Option Key) (p : ℕ) (ts : List PageTurn) → ArePages f scope after p (t ∷ ts) →
        (last_cursor t.page.cursor ts).position ≤ position f
    at t after p [] w = end_at after t w.0
    at t after p (u ∷ us) w = by_last t.page.last w.2 (at u (last_key after t.page.items) t.page.cursor.position us)
      where
        by_last : (b : Bool) → MatchBool b ((u ∷ us) ≡ []) (ArePages f scope (last_key after t.page.items) t.page.cursor.position (u ∷ us))
            →
            (ArePages f scope (last_key after t.page.items) t.page.cursor.position (u ∷ us) →
            (last_cursor u.page.cursor us).position ≤ position f) →
            (last_cursor u.page.cursor us).position ≤ position f
        by_last true e rest = cc
        by_last false v rest = rest v

pub pages_are_whole : PagesAreWhole
pages_are_whole f scope other query first pages turns keep keep_other w s bound i h =
    let k = Contains-from_under query (before f to.position) i h in
    elim (journal_stands f other from turns i s (kept other query keep_other i k.1) k.0) [
      | inl l ↦ early i (kept scope query keep i k.1) (subst (λ (xs : List Item). Contains xs i) (page_front f scope None first w.0) l)
      | inr l ↦ stood_right (page_items (first ∷ pages)) (since_items turns) i l
    ]
  where
    from : Cursor
    from = first.page.cursor

    to : Cursor
    to = cursor_after first.page.cursor turns

    first_stands : (j : Item) → Contains (stood_for (given first.known first.page.items)) j →
        Contains (stood_for (page_items (first ∷ pages) ++ since_items turns)) j
    first_stands j l = stood_left (page_items (first ∷ pages)) (since_items turns) j
        (stood_left (given first.known first.page.items) (page_items pages) j l)

    -- A floor that took effect by the last page is on the first page or in the journal.
    floored : (c : ChangeRecord) → Contains first.feed.accepted (Changed c) →
        IsFloored f (last_cursor first.page.cursor pages).position (Changed c) →
        Contains (stood_for (page_items (first ∷ pages) ++ since_items turns)) (Changed c)
    floored c l g =
        let in_time : Contains (before f to.position) (Floored g.0) =
        before_part f (last_cursor from pages).position to.position bound (Floored g.0) g.1 in
        let place : from.position ≡ position first.feed = place_is f scope None first w.0 in
        elim
        (journal_covers f other from turns (Floored g.0) (Changed c) s refl g.2 (inl (first.feed, w.0.front, omega arith, l)) in_time) [
          | inl m ↦ first_stands (Changed c) (first_page f scope first w.0 g.0 (Changed c)
              (subst (λ (xs : List Item). Contains xs (Floored g.0)) (page_front f scope None first w.0) m) l g.2)
          | inr m ↦ stood_right (page_items (first ∷ pages)) (since_items turns) (Changed c) m
        ]

    early : (j : Item) → passes scope j ≡ true → Contains first.feed.accepted j →
        Contains (stood_for (page_items (first ∷ pages) ++ since_items turns)) j
    early (Floored g) q l = first_stands (Floored g) (first_page f scope first w.0 g (Floored g) l l (covers-refl (Floored g)))
    early (Changed c) q l =
        let place : from.position ≡ position first.feed = place_is f scope None first w.0 in
        let same : from.position ≤ from.position = omega arith in
        elim (pages_stand f scope None from.position from (first ∷ pages) (w.0, same, w.2) first.feed c w.0.front (omega arith) l q refl) [
          | inl m ↦ stood_left (page_items (first ∷ pages)) (since_items turns) (Changed c) m
          | inr m ↦ floored c l m
        ]
