-- What a reader gets is under its query.
use Rattle.std.proofs.Common.{◌≡◌, ℕ, Bool, true, List, [], ◌∷◌, ◌++◌, Option, take, ap, sym, subst, inl, inr}
use Rattle.std.specs.List.{Contains}
use Rattle.std.proofs.lemmas.Bool.{and_parts}
use Rattle.std.proofs.lemmas.List.Elements.{Contains-append_cases}
use Rattle.ds_names.specs.declared.key.Key.{Key}
use Rattle.ds_entry.specs.declared.item.Item.{Item}
use Rattle.ds_entry.specs.Item.{passes}
use Rattle.ds_entry.specs.Under.{under}
use Rattle.ds_entry.proofs.Members.{Contains-from_filter, Contains-from_take, Contains-nil}
use Rattle.ds_join.specs.ItemTop.{IsPartOf}
use Rattle.ds_feed.specs.declared.cursor.Cursor.{Cursor}
use Rattle.ds_feed.specs.declared.reading.Page.{Page}
use Rattle.ds_feed.specs.declared.reading.Since.{Since}
use Rattle.ds_feed.specs.Feed.{Feed}
use Rattle.ds_feed.specs.Page.{changes_of, floors_of, still_to_come}
use Rattle.ds_feed.specs.Since.{piece}
use Rattle.ds_replica.specs.Checked.{CheckTurn, IsCheckTurn, AreChecks, unseen_by}
use Rattle.ds_replica.specs.Gathered.{checked, journaled, paged}
use Rattle.ds_replica.specs.Journaled.{SinceTurn, IsSinceTurn, AreSince}
use Rattle.ds_replica.specs.OpenPages.{AreOpenPages}
use Rattle.ds_replica.specs.Paged.{PageTurn, IsPageTurn, last_key}
use Rattle.ds_replica.proofs.SentLemmas.{Contains-under}

-- each of the items is under the query
abbrev pub ArePassed : (Key → Bool) → List Item → Type 0
ArePassed query items = (i : Item) → Contains items i → passes query i ≡ true

none_passed : (query : Key → Bool) → ArePassed query []
none_passed query i h = absurd (Contains-nil i h)

pub both_passed : (query : Key → Bool) (xs ys : List Item) → ArePassed query xs → ArePassed query ys → ArePassed query (xs ++ ys)
both_passed query xs ys f g i h = elim (Contains-append_cases xs ys i h) [ inl k ↦ f i k | inr k ↦ g i k ]

-- of what was accepted it is then a part that is under the query
pub part_under : (query : Key → Bool) (items all : List Item) → IsPartOf items all → ArePassed query items →
    IsPartOf items (under query all)
part_under query items all part passed i h = Contains-under query all i (part i h) (passed i h)

-- ---- the items of Checks
check_passed : (early f : Feed) (query : Key → Bool) (shown : List Item) (t : CheckTurn) → IsCheckTurn early f query shown t →
    ArePassed query t.items
check_passed early f query shown t h i k =
    let u : Contains (take t.max (unseen_by query shown t.held)) i = subst (λ (l : List Item). Contains l i) h.given k in
    (and_parts _ _ (Contains-from_filter _ t.held i (Contains-from_take t.max (unseen_by query shown t.held) i u)).1).0

pub checks_passed : (early f : Feed) (query : Key → Bool) (shown : List Item) (turns : List CheckTurn) →
    AreChecks early f query shown turns →
    ArePassed query (checked turns)
checks_passed early f query shown [] h = none_passed query
checks_passed early f query shown (t ∷ ts) h =
    both_passed query t.items (checked ts) (check_passed early f query shown t h.0) (checks_passed early f query (shown ++ t.items) ts h.1)

-- ---- the items of the journal
since_passed : (f : Feed) (query : Key → Bool) (at : Cursor) (t : SinceTurn) → IsSinceTurn f query at t → ArePassed query t.since.items
since_passed f query at t h i k =
    (Contains-from_filter (passes query) (piece t.feed (passes query) at t.max) i
    (subst (λ (l : List Item). Contains l i) (ap (λ (s : Since). s.items) h.given.given) k)).1

pub sinces_passed : (f : Feed) (query : Key → Bool) (at : Cursor) (turns : List SinceTurn) → AreSince f query at turns →
    ArePassed query (journaled turns)
sinces_passed f query at [] h = none_passed query
sinces_passed f query at (t ∷ ts) h =
    both_passed query t.since.items (journaled ts) (since_passed f query at t h.0) (sinces_passed f query t.since.cursor ts h.1)

-- ---- the items of pages
pub page_passed : (f : Feed) (query : Key → Bool) (after : Option Key) (t : PageTurn) → IsPageTurn f query after t →
    ArePassed query t.page.items
page_passed f query after t h =
    let left = still_to_come (passes query) after t.held in
    let part : ArePassed query left = λ i k. (Contains-from_filter (passes query) t.held i (Contains-from_filter _ _ i k).0).1 in
    subst (λ (x : Page). ArePassed query x.items) (sym h.given)
    (both_passed query (floors_of left) (take t.max (changes_of left)) (λ i k. part i (Contains-from_filter _ left i k).0)
    (λ i k. part i (Contains-from_filter _ left i (Contains-from_take t.max (changes_of left) i k)).0))

pub pages_passed : (f : Feed) (query : Key → Bool) (after : Option Key) (p : ℕ) (turns : List PageTurn) →
    AreOpenPages f query after p turns →
    ArePassed query (paged turns)
pages_passed f query after p [] h = none_passed query
pages_passed f query after p (t ∷ ts) h =
    both_passed query t.page.items (paged ts) (page_passed f query after t h.0)
    (pages_passed f query (last_key after t.page.items) t.page.cursor.position ts h.3)
