-- Wrong rules of reading, and the laws that fail under them.
use Rattle.std.specs.Prelude.{◌≡◌, ◌+◌, ◌≤◌, Bool, List, [], ◌∷◌, length}
use Rattle.fleet_rule.specs.Covered.{Joins}
use Rattle.fleet_rule.specs.Bridge.{consuming}
use Rattle.fleet_rule.specs.Fleet.{Fleet}
use Rattle.fleet_rule.specs.Fleet.Consumer.{Read}
use Rattle.fleet_rule.specs.Happens.{Event, after, May, bridge_at, with_reading}
use Rattle.fleet_rule.specs.Happens.Event.{Consumes, ConsumesPart}
use Rattle.fleet_rule.specs.Laws.{HasRead}
use Rattle.fleet_rule.specs.Example.{CanEnd}

module _ {I : Type 0} (covers : I → I → Bool) where
  -- An answer of another history than the one met last is consumed.
  abbrev pub consumes_old : Fleet I → Event I → Type 0
  consumes_old w (Consumes k m p end items held) =
      ((w.hosts k).consumer ≡ Read m p end items) × ((bridge_at w k).position ≡ p) × (end ≤ p) ×
      Joins covers held (bridge_at w k).held items
  consumes_old w e = May covers w e

  -- An answer that begins elsewhere is consumed.
  abbrev pub consumes_elsewhere : Fleet I → Event I → Type 0
  consumes_elsewhere w (Consumes k m p end items held) =
      ((w.hosts k).consumer ≡ Read m p end items) × ((bridge_at w k).met ≡ m) × (end ≤ p) ×
      Joins covers held (bridge_at w k).held items
  consumes_elsewhere w e = May covers w e

  -- An answer that begins before the snapshot's end is consumed, though entries may be trimmed there.
  abbrev pub consumes_past_gap : Fleet I → Event I → Type 0
  consumes_past_gap w (Consumes k m p end items held) =
      ((w.hosts k).consumer ≡ Read m p end items) × ((bridge_at w k).met ≡ m) × ((bridge_at w k).position ≡ p) ×
      Joins covers held (bridge_at w k).held items
  consumes_past_gap w e = May covers w e

  -- A bridge forgets that it dropped items.
  abbrev pub forgets_dropping : Fleet I → Event I → Fleet I
  forgets_dropping w (ConsumesPart k m p end items held) = with_reading w k (consuming (bridge_at w k) items (p + length items) held)
  forgets_dropping w e = after covers w e

  -- Whether bridge 1 counts as one that read the log, and holds other items.
  pub record HoldsOther (answered held : List I) (x : Fleet I) : Type 0 where
    pub read : HasRead x 1
    pub answered_is : x.answered ≡ answered
    pub held_is : (bridge_at x 1).held ≡ held

  -- A law: then a bridge takes the old server's item for the new one's.
  abbrev pub SameHistoryIsNeeded : Type 0
  SameHistoryIsNeeded = (i j : I) → CanEnd consumes_old (after covers) (HoldsOther (j ∷ []) (i ∷ []))

  -- A law: then an answer that was under way while the bridge began to read anew makes it pass over the log.
  abbrev pub SamePositionIsNeeded : Type 0
  SamePositionIsNeeded = (i : I) → CanEnd consumes_elsewhere (after covers) (HoldsOther (i ∷ []) [])

  -- A law: then a trimmed change never reaches a bridge.
  abbrev pub GapIsNeeded : Type 0
  GapIsNeeded = (i j : I) → CanEnd consumes_past_gap (after covers) (HoldsOther (i ∷ []) (j ∷ []))

  -- A law: then a bridge counts as one that holds all.
  abbrev pub NotingIsNeeded : Type 0
  NotingIsNeeded = (i : I) → CanEnd (May covers) forgets_dropping (HoldsOther (i ∷ []) [])
