-- Stores that join, one after another and beside others.
use Rattle.std.proofs.Common.{◌≡◌, Bool, true, List, [], ◌++◌, inl, inr}
use Rattle.std.proofs.lemmas.List.Elements.{Contains-append_left, Contains-append_right, Contains-append_cases}
use Rattle.fleet_rule.specs.Covered.{ArePart, Covers, Joins, JoinsPart}
use Rattle.fleet_rule.proofs.CoverLemmas.{part_left, part_right, by_part, through, both, in_more, none, joined_old, joined_items}

module _ {I : Type 0} where
  in_first : (a xs ys : List I) → ArePart (a ++ xs) (a ++ (xs ++ ys))
  in_first a xs ys i h = elim (Contains-append_cases a xs i h) [
    | inl k ↦ Contains-append_left a (xs ++ ys) i k
    | inr k ↦ Contains-append_right a (xs ++ ys) i (Contains-append_left xs ys i k)
  ]

  among_on : (a b c xs ys : List I) → ArePart b (a ++ xs) → ArePart c (b ++ ys) → ArePart c (a ++ (xs ++ ys))
  among_on a b c xs ys f g i h = elim (Contains-append_cases b ys i (g i h)) [
    | inl k ↦ in_first a xs ys i (f i k)
    | inr k ↦ Contains-append_right a (xs ++ ys) i (Contains-append_right xs ys i k)
  ]

  among_beside : (a b d e xs : List I) → ArePart b (a ++ xs) → ArePart e (d ++ xs) → ArePart (b ++ e) ((a ++ d) ++ xs)
  among_beside a b d e xs f g i h = elim (Contains-append_cases b e i h) [
    | inl k ↦ elim (Contains-append_cases a xs i (f i k)) [
      | inl m ↦ Contains-append_left (a ++ d) xs i (Contains-append_left a d i m)
      | inr m ↦ Contains-append_right (a ++ d) xs i m
    ]
    | inr k ↦ elim (Contains-append_cases d xs i (g i k)) [
      | inl m ↦ Contains-append_left (a ++ d) xs i (Contains-append_right a d i m)
      | inr m ↦ Contains-append_right (a ++ d) xs i m
    ]
  ]

module _ {I : Type 0} (covers : I → I → Bool) (reflexive : (i : I) → covers i i ≡ true)
    (transitive : (i j k : I) → covers i j ≡ true → covers j k ≡ true → covers i k ≡ true) where
  same_covers : (xs : List I) → Covers covers xs xs
  same_covers xs = by_part covers reflexive transitive xs xs (λ i h. h)

  pub joins_nothing : (held : List I) → Joins covers held held []
  joins_nothing held = record {
    among = part_left held [];
    covered = both covers reflexive transitive held [] held (same_covers held) (none covers reflexive transitive held);
  }

  pub joins_are_part : (new old items : List I) → Joins covers new old items → JoinsPart covers new old items
  joins_are_part new old items j = record { among = j.among; covered = joined_old covers reflexive transitive new old items j }

  pub joins_on : (a b c xs ys : List I) → Joins covers b a xs → Joins covers c b ys → Joins covers c a (xs ++ ys)
  joins_on a b c xs ys f g =
      let old : Covers covers c b = joined_old covers reflexive transitive c b ys g in
      record {
        among = among_on a b c xs ys f.among g.among;
        covered = both covers reflexive transitive a (xs ++ ys) c
            (through covers reflexive transitive a b c (joined_old covers reflexive transitive b a xs f) old)
            (both covers reflexive transitive xs ys c
            (through covers reflexive transitive xs b c (joined_items covers reflexive transitive b a xs f) old)
            (joined_items covers reflexive transitive c b ys g));
      }

  pub parts_on : (a b c xs ys : List I) → JoinsPart covers b a xs → JoinsPart covers c b ys → JoinsPart covers c a (xs ++ ys)
  parts_on a b c xs ys f g = record {
    among = among_on a b c xs ys f.among g.among;
    covered = through covers reflexive transitive a b c f.covered g.covered;
  }

  -- What two stores hold side by side still covers what they held.
  covers_beside : (a b d e : List I) → Covers covers b a → Covers covers e d → Covers covers (b ++ e) (a ++ d)
  covers_beside a b d e f g = both covers reflexive transitive a d (b ++ e)
      (in_more covers reflexive transitive b (b ++ e) a (part_left b e) f)
      (in_more covers reflexive transitive e (b ++ e) d (part_right b e) g)

  pub parts_beside : (a b d e xs : List I) → JoinsPart covers b a xs → JoinsPart covers e d xs → JoinsPart covers (b ++ e) (a ++ d) xs
  parts_beside a b d e xs f g =
      record { among = among_beside a b d e xs f.among g.among; covered = covers_beside a b d e f.covered g.covered }

  -- One of two stores got all items.
  pub left_joins : (a b d e xs : List I) → Joins covers b a xs → JoinsPart covers e d xs → Joins covers (b ++ e) (a ++ d) xs
  left_joins a b d e xs f g =
      record {
        among = among_beside a b d e xs f.among g.among;
        covered = both covers reflexive transitive (a ++ d) xs (b ++ e)
            (covers_beside a b d e (joined_old covers reflexive transitive b a xs f) g.covered)
            (in_more covers reflexive transitive b (b ++ e) xs (part_left b e) (joined_items covers reflexive transitive b a xs f));
      }

  pub right_joins : (a b d e xs : List I) → JoinsPart covers b a xs → Joins covers e d xs → Joins covers (b ++ e) (a ++ d) xs
  right_joins a b d e xs f g =
      record {
        among = among_beside a b d e xs f.among g.among;
        covered = both covers reflexive transitive (a ++ d) xs (b ++ e)
            (covers_beside a b d e f.covered (joined_old covers reflexive transitive e d xs g))
            (in_more covers reflexive transitive e (b ++ e) xs (part_right b e) (joined_items covers reflexive transitive e d xs g));
      }

  -- A store that got some of the items.
  pub fewer_part : (new old some items : List I) → ArePart some items → Joins covers new old some → JoinsPart covers new old items
  fewer_part new old some items p j = record {
    among = λ i h. elim (Contains-append_cases old some i (j.among i h))
        [ inl k ↦ Contains-append_left old items i k | inr k ↦ Contains-append_right old items i (p i k) ];
    covered = joined_old covers reflexive transitive new old some j;
  }
