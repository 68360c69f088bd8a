-- Which items cover which: lists in which only membership counts, and a store that only joins.
use Rattle.std.specs.Prelude.{◌≡◌, Bool, true, List, ◌++◌, not, filter, Contains}
use Rattle.std.specs.List.{list_any}

module _ {I : Type 0} where
  -- Whether each item of the first list is in the second.
  abbrev pub ArePart : List I → List I → Type 0
  ArePart part whole = (i : I) → Contains part i → Contains whole i

module _ {I : Type 0} (covers : I → I → Bool) where
  -- Whether each item of the second list is covered by an item of the first.
  pub record Covers (held items : List I) : Type 0 where
    pub each : (i : I) → Contains items i → (j : I) × Contains held j × (covers j i ≡ true)

  -- Whether a store that held `old` may hold `new` once it got the items: nothing else, and all of them are covered.
  pub record Joins (new old items : List I) : Type 0 where
    pub among : ArePart new (old ++ items)
    pub covered : Covers new (old ++ items)

  -- Whether a store that held `old` may hold `new` once it got the items and refused some of them.
  pub record JoinsPart (new old items : List I) : Type 0 where
    pub among : ArePart new (old ++ items)
    pub covered : Covers new old

  -- The items of the list that the others don't cover.
  abbrev pub uncovered : List I → List I → List I
  uncovered others items = filter (λ i. not (list_any (λ j. covers j i) others)) items
