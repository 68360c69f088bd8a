-- Examples in which one premise of a law of wholeness fails.
use Rattle.std.proofs.Common.{[], ◌∷◌, refl, arith}
use Rattle.ds_entry.specs.Item.{passes}
use Rattle.ds_entry.specs.ItemCovers.{covers}
use Rattle.ds_entry.proofs.Members.{Contains-nil, Contains-head}
use Rattle.ds_join.specs.ItemTop.{IsTop}
use Rattle.ds_feed.specs.declared.cursor.Cursor.{Cursor}
use Rattle.ds_feed.specs.Feed.{Feed}
use Rattle.ds_feed.specs.Since.{since_of}
use Rattle.ds_replica.specs.Sent.{given}
use Rattle.ds_replica.specs.Whole.{IsWhole}
use Rattle.ds_replica.specs.WholePremises.{SnapshotNeeds, SinceNeeds, WholeNeeds}
use Rattle.ds_replica.proofs.Samples.{a1, b1, feed_of, all, none, not_among, top_by}

abbrev store : Feed
store = feed_of (a1 ∷ [])

abbrev start : Cursor
start = record { incarnation = 0; position = 0 }

one_top : IsTop (a1 ∷ []) (a1 ∷ [])
one_top = top_by (a1 ∷ []) (refl, tt)

-- Nothing can't stand for the one item that was accepted.
not_whole : IsWhole store all [] 1 → ⊥
not_whole w = Contains-nil a1 (w a1 (Contains-head a1 []))

pub snapshot_needs : SnapshotNeeds
snapshot_needs = record {
  top = λ law. not_whole (law store (a1 ∷ []) [] all all (λ i h. h) (λ key e. e));
  knows = λ law. Contains-nil a1 (law store [] (a1 ∷ []) all all one_top (λ key e. e) a1 (Contains-head a1 []));
  scope = λ law. not_whole (law store (a1 ∷ []) (a1 ∷ []) none all one_top (λ i h. h));
}

pub since_needs : SinceNeeds
since_needs = record {
  knows = λ law.
      Contains-nil a1
      (law store [] all all [] start 1 (since_of store (passes all) start 1) (λ key e. e) (record { reached = refl; given = refl })
      (λ i h. absurd (Contains-nil i h)) a1 (Contains-head a1 []));
  scope = λ law. not_whole (law store (a1 ∷ []) none all [] start 1 (since_of store (passes none) start 1) (λ i h. h)
      (record { reached = refl; given = refl }) (λ i h. absurd (Contains-nil i h)));
  whole = λ law. let late : Cursor = record { incarnation = 0; position = 1 } in
      not_whole (law store (a1 ∷ []) all all [] late 1 (since_of store (passes all) late 1) (λ i h. h) (λ key e. e)
      (record { reached = refl; given = refl }));
}

pub whole_needs : WholeNeeds
whole_needs = record {
  first = λ law. not_whole (law store all [] 1);
  more = λ law. not_whole (law store all (given (a1 ∷ []) (a1 ∷ [])) [] 1 (λ i h. h));
  earlier = λ law. not_whole (law store all [] 1 0 (λ i h. h));
  narrower = λ law. not_whole (law store none all [] 1 (λ i h. h));
  front = λ law. not_among (covers a1) (b1 ∷ []) a1 refl refl
      (law (feed_of (b1 ∷ [])) store all (given (b1 ∷ []) (b1 ∷ [])) 1 (omega arith) (λ i h. h) a1 (Contains-head a1 []));
  reached = λ law. not_whole (law (feed_of []) store all [] 1 (record { incarnation = refl; first = refl; grown = (a1 ∷ [], refl) })
      (λ i h. h));
}
