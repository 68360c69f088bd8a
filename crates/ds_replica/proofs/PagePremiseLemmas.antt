-- Examples in which one premise of the law of pages fails.
use Rattle.std.proofs.Common.{ℕ, Bool, List, [], ◌∷◌, ◌++◌, Option, Some, None, refl, arith}
use Rattle.ds_names.specs.declared.key.Key.{Key}
use Rattle.ds_names.specs.declared.kind.Kind.TheVariants.{Label, U32}
use Rattle.ds_entry.specs.Item.{passes}
use Rattle.ds_entry.specs.ItemCovers.{covers}
use Rattle.ds_entry.specs.declared.item.Item.{Item}
use Rattle.ds_entry.proofs.Members.{Contains-nil, Contains-head, Contains-tail}
use Rattle.ds_join.specs.ItemTop.{IsTop, tops}
use Rattle.ds_feed.specs.Since.{since_of}
use Rattle.ds_feed.specs.Page.{page_of}
use Rattle.ds_replica.specs.Front.{end_of}
use Rattle.ds_replica.specs.Journaled.{SinceTurn}
use Rattle.ds_replica.specs.Paged.{PageTurn, IsPageTurn}
use Rattle.ds_replica.specs.PagePremises.{PagesNeed}
use Rattle.ds_replica.proofs.Samples.{a1, b1, c1, l1, floor1, feed_of, all, none, key_of, not_among, top_by}

-- a page of a store that accepted these, holds their tops and knows them
abbrev page_by : (Key → Bool) → Option Key → ℕ → List Item → PageTurn
page_by scope after max accepted =
    record {
      feed = feed_of accepted;
      known = accepted;
      held = tops accepted;
      max = max;
      page =
          page_of (passes scope) after max (tops accepted) (end_of (feed_of accepted));
    }

page_is : (accepted more : List Item) (scope : Key → Bool) (after : Option Key) (max : ℕ) → IsTop (tops accepted) accepted →
    IsPageTurn (feed_of (accepted ++ more)) scope after (page_by scope after max accepted)
page_is accepted more scope after max t = record
    { front = record { incarnation = refl; first = refl; grown = (more, refl) }; knows = λ i h. h; top = t; given = refl }

-- the one page of a store that accepted `a1`
one_page : (scope : Key → Bool) (after : Option Key) (max : ℕ) →
    IsPageTurn (feed_of (a1 ∷ [])) scope after (page_by scope after max (a1 ∷ []))
one_page scope after max = page_is (a1 ∷ []) [] scope after max (top_by (a1 ∷ []) (refl, tt))

pub pages_need : PagesNeed
pages_need = record {
  scope = λ law. Contains-nil a1 (law (feed_of (a1 ∷ [])) none all all (page_by none None 1 (a1 ∷ [])) [] [] (λ key e. e)
      (one_page none None 1, omega arith, refl) tt (omega arith) a1 (Contains-head a1 []));
  other = λ law.
      let turn : SinceTurn =
      record
      { feed = feed_of (a1 ∷ []); known = a1 ∷ []; max = 1; since = since_of (feed_of (a1 ∷ [])) (passes none) (end_of (feed_of [])) 1 } in
      Contains-nil a1
      (law (feed_of (a1 ∷ [])) all none all (page_by all None 1 []) [] (turn ∷ []) (λ key e. e)
      (page_is [] (a1 ∷ []) all None 1 (top_by [] tt), omega arith, refl) (
        record {
          front = record { incarnation = refl; first = refl; grown = ([], refl) };
          knows = λ i h. h;
          given =
              record { reached = refl; given = refl };
        },
        tt,
      ) (omega arith) a1 (Contains-head a1 []));
  from_first = λ law.
      let early : List Item = b1 ∷ c1 ∷ [] in
      let late : List Item = b1 ∷ c1 ∷ a1 ∷ [] in
      let after : Option Key = Some (key_of U32 98) in
      not_among (covers a1) (b1 ∷ c1 ∷ []) a1 refl refl
      (law (feed_of late) all all all (page_by all None 1 early) (page_by all after 1 late ∷ []) [] (λ key e. e) (λ key e. e) (
        page_is early (a1 ∷ []) all None 1 (top_by early (refl, (refl, tt))),
        omega arith,
        (page_is late [] all after 1 (top_by late (refl, (refl, (refl, tt)))), omega arith, refl),
      ) tt a1
      (Contains-tail b1 (c1 ∷ a1 ∷ []) a1 (Contains-tail c1 (a1 ∷ []) a1 (Contains-head a1 []))));
  to_last = λ law.
      let early : List Item = l1 ∷ c1 ∷ [] in
      let late : List Item = l1 ∷ c1 ∷ floor1 ∷ [] in
      let after : Option Key = Some (key_of Label 97) in
      not_among (covers c1) (l1 ∷ []) c1 refl refl
      (law (feed_of late) all all all (page_by all None 1 early) (page_by all after 1 late ∷ []) [] (λ key e. e) (λ key e. e) (
        page_is early (floor1 ∷ []) all None 1 (top_by early (refl, (refl, tt))),
        omega arith,
        (page_is late [] all after 1 (top_by late (refl, (refl, (tt, tt)))), omega arith, refl),
      ) tt c1
      (Contains-tail l1 (c1 ∷ []) c1 (Contains-head c1 [])));
  none_before = λ law. let after : Option Key = Some (key_of U32 97) in
      Contains-nil a1 (law (feed_of (a1 ∷ [])) all all all after (page_by all after 1 (a1 ∷ [])) [] [] (λ key e. e) (λ key e. e)
      (one_page all after 1, omega arith, refl) tt
      (omega arith) a1 (Contains-head a1 []));
  until_last = λ law. Contains-nil a1 (law (feed_of (a1 ∷ [])) all all (page_by all None 0 (a1 ∷ [])) (λ key e. e) (one_page all None 0) a1
      (Contains-head a1 []));
  in_turn = λ law.
      let whole : List Item = b1 ∷ c1 ∷ [] in
      let after : Option Key = Some (key_of U32 98) in
      not_among (covers c1) (b1 ∷ []) c1 refl refl
      (law (feed_of whole) all all (page_by all None 1 whole) (page_by all after 1 (b1 ∷ [])) (λ key e. e)
      (page_is whole [] all None 1 (top_by whole (refl, (refl, tt)))) refl
      (page_is (b1 ∷ []) (c1 ∷ []) all after 1 (top_by (b1 ∷ []) (refl, tt))) refl (omega arith) c1
      (Contains-tail b1 (c1 ∷ []) c1 (Contains-head c1 [])));
  front = λ law.
      let whole : List Item = b1 ∷ c1 ∷ [] in
      let other : List Item = b1 ∷ a1 ∷ [] in
      let after : Option Key = Some (key_of U32 98) in
      not_among (covers c1) (b1 ∷ []) c1 refl refl
      (law (feed_of whole) all all (page_by all None 1 whole) (page_by all after 1 other) (λ key e. e)
      (page_is whole [] all None 1 (top_by whole (refl, (refl, tt)))) refl
      (page_is other [] all after 1 (top_by other (refl, (refl, tt)))) refl (omega arith) (omega arith) c1
      (Contains-tail b1 (c1 ∷ []) c1 (Contains-head c1 [])));
}
