-- How pages grow, one by one, up to the last one.
use Rattle.std.proofs.Common.{◌≡◌, ℕ, ◌≤◌, Bool, true, false, List, [], ◌∷◌, ◌++◌, map, take, Option, Some, None, refl, ap, sym, ◌∙◌, subst}
use Rattle.std.proofs.Common.{append_assoc, append-nil}
use Rattle.std.specs.Prelude.{MatchBool}
use Rattle.std.specs.Option.{unwrap_or}
use Rattle.ds_names.specs.declared.key.Key.{Key}
use Rattle.ds_entry.specs.Item.{passes}
use Rattle.ds_entry.specs.declared.item.Item.{Item}
use Rattle.ds_entry.proofs.Members.{Contains-from_filter, Contains-from_take}
use Rattle.ds_join.specs.ItemTop.{IsPartOf}
use Rattle.ds_feed.specs.declared.cursor.Cursor.{Cursor}
use Rattle.ds_feed.specs.declared.reading.Page.{Page}
use Rattle.ds_feed.specs.Feed.{Feed}
use Rattle.ds_feed.specs.Page.{still_to_come, floors_of, changes_of}
use Rattle.ds_replica.specs.Under.{KeepsQuery}
use Rattle.ds_replica.specs.Sent.{Sent, given}
use Rattle.ds_replica.specs.Front.{IsFront}
use Rattle.ds_replica.specs.Whole.{IsWhole}
use Rattle.ds_replica.specs.Journaled.{SinceTurn, AreSince, since_items, cursor_after}
use Rattle.ds_replica.specs.Paged.{PageTurn, IsPageTurn, last_key, ArePages, page_items, last_cursor}
use Rattle.ds_replica.specs.OpenPages.{AreOpenPages, key_after, position_after, first_cursor}
use Rattle.ds_replica.specs.Gathered.{journaled, paged}
use Rattle.ds_replica.specs.TurnLaws.{since_knowing, page_knowing, PagesGrow, PagedIsWhole}
use Rattle.ds_replica.proofs.WholeLemmas.{feeds_grow}
use Rattle.ds_replica.proofs.PageLemmas.{pages_are_whole}
use Rattle.ds_replica.proofs.TakenLemmas.{part_of_later, part_of_nothing, given_both, sinces_knowing, sinces_known, cursor_known}
use Rattle.ds_join.proofs.ItemTopLemmas.{part_union}

-- ---- pages none of which is the last
pages_later : (f late : Feed) (scope : Key → Bool) (after : Option Key) (p : ℕ) (turns : List PageTurn) → IsFront f late →
    AreOpenPages f scope after p turns → AreOpenPages late scope after p turns
pages_later f late scope after p [] front h = tt
pages_later f late scope after p (t ∷ ts) front h = (
  record { front = feeds_grow.later t.feed f late h.0.front front; knows = h.0.knows; top = h.0.top; given = h.0.given },
  h.1,
  h.2,
  pages_later f late scope (last_key after t.page.items) t.page.cursor.position ts front h.3,
)

one_page_more : (f : Feed) (scope : Key → Bool) (after : Option Key) (p : ℕ) (turns : List PageTurn) (t : PageTurn) →
    AreOpenPages f scope after p turns → IsPageTurn f scope (key_after after turns) t
    → position_after p turns ≤ t.page.cursor.position → t.page.last ≡ false → AreOpenPages f scope after p (turns ++ t ∷ [])
one_page_more f scope after p [] t h k l e = (k, l, e, tt)
one_page_more f scope after p (u ∷ us) t h k l e =
    (h.0, h.1, h.2, one_page_more f scope (last_key after u.page.items) u.page.cursor.position us t h.3 k l e)

key_more : (after : Option Key) (turns : List PageTurn) (t : PageTurn) →
    key_after after (turns ++ t ∷ []) ≡ last_key (key_after after turns) t.page.items
key_more after [] t = refl
key_more after (u ∷ us) t = key_more (last_key after u.page.items) us t

position_more : (p : ℕ) (turns : List PageTurn) (t : PageTurn) → position_after p (turns ++ t ∷ []) ≡ t.page.cursor.position
position_more p [] t = refl
position_more p (u ∷ us) t = position_more u.page.cursor.position us t

first_more : (turns : List PageTurn) (t : PageTurn) → first_cursor (turns ++ t ∷ []) ≡ Some (unwrap_or (first_cursor turns) t.page.cursor)
first_more [] t = refl
first_more (u ∷ us) t = refl

paged_more : (turns : List PageTurn) (t : PageTurn) → paged (turns ++ t ∷ []) ≡ paged turns ++ t.page.items
paged_more [] t = append-nil t.page.items
paged_more (u ∷ us) t = ap (λ (l : List Item). u.page.items ++ l) (paged_more us t) ∙
    sym (append_assoc u.page.items (paged us) t.page.items)

-- ---- and the last one
last_page : (f : Feed) (scope : Key → Bool) (after : Option Key) (p : ℕ) (turns : List PageTurn) (t : PageTurn) →
    AreOpenPages f scope after p turns → IsPageTurn f scope (key_after after turns) t
    → position_after p turns ≤ t.page.cursor.position → t.page.last ≡ true → ArePages f scope after p (turns ++ t ∷ [])
last_page f scope after p [] t h k l e =
    let none : List PageTurn = [] in (
      k,
      l,
      subst (λ (b : Bool). MatchBool b (none ≡ []) (ArePages f scope (last_key after t.page.items) t.page.cursor.position none))
          (sym e) refl,
    )
last_page f scope after p (u ∷ us) t h k l e = (
  h.0,
  h.1,
  subst (λ (b : Bool). MatchBool b (us ++ t ∷ [] ≡ [])
      (ArePages f scope (last_key after u.page.items) u.page.cursor.position (us ++ t ∷ []))) (sym h.2)
      (last_page f scope (last_key after u.page.items) u.page.cursor.position us t h.3 k l e),
)

-- ---- what they returned was accepted
page_among : (f : Feed) (scope : Key → Bool) (after : Option Key) (t : PageTurn) → IsPageTurn f scope after t →
    IsPartOf t.page.items f.accepted
page_among f scope after t h =
    let left = still_to_come (passes scope) after t.held in
    let part : IsPartOf left t.feed.accepted = λ i k.
    h.top.among i (Contains-from_filter (passes scope) t.held i (Contains-from_filter _ _ i k).0).0 in
    part_of_later t.page.items t.feed f h.front
    (subst (λ (x : Page). IsPartOf x.items t.feed.accepted) (sym h.given)
    (part_union (floors_of left) (take t.max (changes_of left)) t.feed.accepted (λ i k. part i (Contains-from_filter _ left i k).0)
    (λ i k. part i (Contains-from_filter _ left i (Contains-from_take t.max (changes_of left) i k)).0)))

pages_among : (f : Feed) (scope : Key → Bool) (after : Option Key) (p : ℕ) (turns : List PageTurn) → AreOpenPages f scope after p turns →
    IsPartOf (paged turns) f.accepted
pages_among f scope after p [] h = part_of_nothing f.accepted
pages_among f scope after p (t ∷ ts) h = part_union t.page.items (paged ts) f.accepted (page_among f scope after t h.0)
    (pages_among f scope (last_key after t.page.items) t.page.cursor.position ts h.3)

-- ---- knowing more
either_way : (b : Bool) (P Q R S : Type 0) → (P → R) → (Q → S) → MatchBool b P Q → MatchBool b R S
either_way true P Q R S f g h = f h
either_way false P Q R S f g h = g h

pages_knowing : (f : Feed) (scope : Key → Bool) (after : Option Key) (p : ℕ) (known : List Item) (turns : List PageTurn) →
    IsPartOf f.accepted known →
    ArePages f scope after p turns → ArePages f scope after p (map (page_knowing known) turns)
pages_knowing f scope after p known [] part h = absurd h
pages_knowing f scope after p known (t ∷ ts) part h = (
  record {
    front = h.0.front;
    knows = λ i k. part i (part_of_later t.feed.accepted t.feed f h.0.front (λ j l. l) i k);
    top = h.0.top;
    given =
        h.0.given;
  },
  h.1,
  either_way t.page.last (ts ≡ []) (ArePages f scope (last_key after t.page.items) t.page.cursor.position ts)
      (map (page_knowing known) ts ≡ [])
      (ArePages f scope (last_key after t.page.items) t.page.cursor.position (map (page_knowing known) ts))
      (λ e. ap (λ (l : List PageTurn). map (page_knowing known) l) e)
      (λ k. pages_knowing f scope (last_key after t.page.items) t.page.cursor.position known ts part k) h.2,
)

pages_known : (known : List Item) (turns : List PageTurn) → page_items (map (page_knowing known) turns) ≡ given known (paged turns)
pages_known known [] = refl
pages_known known (t ∷ ts) = ap (λ (l : List Sent). given known t.page.items ++ l) (pages_known known ts) ∙
    sym (given_both known t.page.items (paged ts))

last_known : (known : List Item) (at : Cursor) (turns : List PageTurn) →
    last_cursor at (map (page_knowing known) turns) ≡ last_cursor at turns
last_known known at [] = refl
last_known known at (t ∷ ts) = last_known known t.page.cursor ts

pub pages_grow : PagesGrow
pages_grow =
    record {
      later = pages_later;
      one_more = one_page_more;
      last = last_page;
      items_more = paged_more;
      key_more = key_more;
      position_more = position_more;
      first_more = first_more;
      among = pages_among;
      turn_among = page_among;
      knowing = pages_knowing;
      items_known = pages_known;
    }

-- ---- whole
last_more : (turns : List PageTurn) (at : Cursor) (t : PageTurn) → last_cursor at (turns ++ t ∷ []) ≡ t.page.cursor
last_more [] at t = refl
last_more (u ∷ us) at t = last_more us u.page.cursor t

-- The first page of all, and those after it.
record FirstOf (turns : List PageTurn) (t : PageTurn) : Type 0 where
  first : PageTurn
  pages : List PageTurn
  all : turns ++ t ∷ [] ≡ first ∷ pages
  from_is : unwrap_or (first_cursor turns) t.page.cursor ≡ first.page.cursor
  last_is : last_cursor first.page.cursor pages ≡ t.page.cursor

first_of_all : (turns : List PageTurn) (t : PageTurn) → FirstOf turns t
first_of_all [] t = record { first = t; pages = []; all = refl; from_is = refl; last_is = refl }
first_of_all (u ∷ us) t = record { first = u; pages = us ++ t ∷ []; all = refl; from_is = refl; last_is = last_more us u.page.cursor t }

module _ (f : Feed) (scope other query : Key → Bool) (keep : KeepsQuery scope query) (keeps : KeepsQuery other query) where
  by_law : (first : PageTurn) (pages : List PageTurn) (turns : List SinceTurn) → ArePages f scope None 0 (first ∷ pages) →
      AreSince f other first.page.cursor turns
      → (last_cursor first.page.cursor pages).position ≤ (cursor_after first.page.cursor turns).position →
      IsWhole f query (given f.accepted (paged (first ∷ pages) ++ journaled turns)) (cursor_after first.page.cursor turns).position
  by_law first pages turns are since l =
      let known = f.accepted in
      let at = first.page.cursor in
      let ends = ap (λ (c : Cursor). c.position) (cursor_known at known turns) in
      let law =
      pages_are_whole f scope other query (page_knowing known first) (map (page_knowing known) pages) (map (since_knowing known) turns)
      keep keeps
      (pages_knowing f scope None 0 known (first ∷ pages) (λ i h. h) are) (sinces_knowing f other at known turns (λ i h. h) since)
      (subst (λ (r : ℕ). (last_cursor at (map (page_knowing known) pages)).position ≤ r) (sym ends)
      (subst (λ (c : Cursor). c.position ≤ (cursor_after at turns).position) (sym (last_known known at pages)) l)) in
      let same : page_items (map (page_knowing known) (first ∷ pages)) ++ since_items (map (since_knowing known) turns) ≡ given known
      (paged (first ∷ pages) ++ journaled turns) =
      ap (λ (x : List Sent). x ++ since_items (map (since_knowing known) turns)) (pages_known known (first ∷ pages))
      ∙ ap (λ (x : List Sent). given known (paged (first ∷ pages)) ++ x) (sinces_known known turns)
      ∙ sym (given_both known (paged (first ∷ pages)) (journaled turns)) in
      subst (λ (r : ℕ). IsWhole f query (given known (paged (first ∷ pages) ++ journaled turns)) r) ends
      (subst (λ (x : List Sent). IsWhole f query x (cursor_after at (map (since_knowing known) turns)).position) same law)

pub paged_is_whole : PagedIsWhole
paged_is_whole f scope other query pages last turns keep keeps before is l end since to =
    let o = first_of_all pages last in
    let are = last_page f scope None 0 pages last before is l end in
    let all : paged (pages ++ last ∷ []) ++ journaled turns ≡ paged pages ++ (last.page.items ++ journaled turns) =
    ap (λ (x : List Item). x ++ journaled turns)
    (paged_more pages last) ∙ append_assoc (paged pages) last.page.items (journaled turns) in
    let law =
    by_law f scope other query keep keeps o.first o.pages turns (subst (ArePages f scope None 0) o.all are)
    (subst (λ (c : Cursor). AreSince f other c turns) o.from_is since)
    (subst (λ (c : Cursor). c.position ≤ (cursor_after o.first.page.cursor turns).position) (sym o.last_is)
    (subst (λ (c : Cursor). last.page.cursor.position ≤ (cursor_after c turns).position) o.from_is to)) in
    subst (λ (x : List Item). IsWhole f query (given f.accepted x)
    (cursor_after (unwrap_or (first_cursor pages) last.page.cursor) turns).position) all
    (subst (λ (c : Cursor). IsWhole f query (given f.accepted (paged (pages ++ last ∷ []) ++ journaled turns))
    (cursor_after c turns).position) (sym o.from_is)
    (subst (λ (x : List PageTurn). IsWhole f query (given f.accepted (paged x ++ journaled turns))
    (cursor_after o.first.page.cursor turns).position) (sym o.all) law))
