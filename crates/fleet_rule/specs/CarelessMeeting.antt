-- Wrong rules of meetings, and the laws that fail under them.
use Rattle.std.specs.Prelude.{◌≡◌, Bool, false, List, [], ◌∷◌}
use Rattle.std.specs.List.{list_any}
use Rattle.fleet_rule.specs.Bridge.{meeting}
use Rattle.fleet_rule.specs.Fleet.{Fleet}
use Rattle.fleet_rule.specs.Fleet.Producer.{Met}
use Rattle.fleet_rule.specs.Happens.{Event, after, May, Follow, bridge_at, with_answer}
use Rattle.fleet_rule.specs.Happens.Event.{Meets, Refills}
use Rattle.fleet_rule.specs.Laws.{HasRead, HasSent, breaks, changes_of}
use Rattle.fleet_rule.specs.Example.{CanEnd}

module _ {I : Type 0} (covers : I → I → Bool) where
  -- A bridge keeps its position at another server.
  abbrev pub keeps_position : Fleet I → Event I → Fleet I
  keeps_position w (Meets k h) = with_answer w k (record (meeting (bridge_at w k) h) { position = (bridge_at w k).position })
  keeps_position w e = after covers w e

  -- A bridge takes what it read of an old server for what the new one has.
  abbrev pub keeps_consumed : Fleet I → Event I → Fleet I
  keeps_consumed w (Meets k h) = with_answer w k (record (meeting (bridge_at w k) h) { consumed = (bridge_at w k).consumed })
  keeps_consumed w e = after covers w e

  -- A bridge resends nothing to another server.
  abbrev pub resends_nothing : Fleet I → Event I → Fleet I
  resends_nothing w (Meets k h) = with_answer w k (record (meeting (bridge_at w k) h) { must_resend = false })
  resends_nothing w e = after covers w e

  -- A bridge meets the same history once more.
  abbrev pub meets_again : Fleet I → Event I → Type 0
  meets_again w (Meets k h) = (w.hosts k).producer ≡ Met h
  meets_again w e = May covers w e

  -- A bridge refills its outbox at any time.
  abbrev pub refills_again : Fleet I → Event I → Type 0
  refills_again w (Refills k) = Unit {0}
  refills_again w e = May covers w e

  -- A law: then a bridge counts as one that read the new server's log, and holds the old one's item alone.
  abbrev pub PositionIsNeeded : Type 0
  PositionIsNeeded =
      (i j : I) → CanEnd (May covers) keeps_position
      (λ x. HasRead x 0 × ((bridge_at x 0).held ≡ i ∷ []) × (x.server.log ≡ j ∷ []))

  -- Whether bridge 0 counts as one that sent everything, and holds an item that the server lost.
  pub record KeepsBack (i : I) (x : Fleet I) : Type 0 where
    pub sent : HasSent x 0
    pub held : (bridge_at x 0).held ≡ i ∷ []
    pub log : x.server.log ≡ []

  -- A law: then what the server lost is never sent again.
  abbrev pub ConsumedIsNeeded : Type 0
  ConsumedIsNeeded = (i : I) → CanEnd (May covers) keeps_consumed (KeepsBack i)

  -- A law: likewise.
  abbrev pub SendingAgainIsNeeded : Type 0
  SendingAgainIsNeeded = (i : I) → CanEnd (May covers) resends_nothing (KeepsBack i)

  -- Whether bridge 0 can get an item into its outbox that the server has, with no change, loss or beginning anew.
  pub record Echoes (may : Fleet I → Event I → Type 0) (i : I) (x : Fleet I) : Type 0 where
    pub sent : HasSent x 0
    pub answered : x.answered ≡ i ∷ []
    pub y : Fleet I
    pub later : List (Event I)
    pub path : Follow may (after covers) x later y
    pub unbroken : list_any (breaks 0) later ≡ false
    pub unchanged : changes_of 0 later ≡ []
    pub outbox : (bridge_at y 0).outbox ≡ i ∷ []

  -- A law: then a bridge sends what the server has.
  abbrev pub NewsIsNeeded : Type 0
  NewsIsNeeded = (i : I) → CanEnd meets_again (after covers) (Echoes meets_again i)

  -- A law: likewise.
  abbrev pub NeedIsNeeded : Type 0
  NeedIsNeeded = (i : I) → CanEnd refills_again (after covers) (Echoes refills_again i)
