-- Wrong rules of the outbox, and the laws that fail under them.
use Rattle.std.specs.Prelude.{◌≡◌, Bool, [], ◌∷◌}
use Rattle.fleet_rule.specs.Fleet.{Fleet}
use Rattle.fleet_rule.specs.Fleet.Producer.{Idle, Replicating}
use Rattle.fleet_rule.specs.Happens.{Event, after, May, bridge_at, with_answer, answered_with}
use Rattle.fleet_rule.specs.Happens.Event.{AsksToAdd, IsReplicated, GetsAcknowledged}
use Rattle.fleet_rule.specs.Laws.{HasSent}
use Rattle.fleet_rule.specs.Example.{CanEnd}

module _ {I : Type 0} (covers : I → I → Bool) where
  -- Items count as replicated before the replicas have them.
  abbrev pub ignores_replicas : Fleet I → Event I → Type 0
  ignores_replicas w (IsReplicated k h p) = (w.hosts k).producer ≡ Replicating h p
  ignores_replicas w e = May covers w e

  -- More items count as in flight than the outbox has, so later ones do, too.
  abbrev pub counts_later : Fleet I → Event I → Type 0
  counts_later w (AsksToAdd k n) = (w.hosts k).producer ≡ Idle
  counts_later w e = May covers w e

  -- An acknowledgement empties the outbox.
  abbrev pub empties_outbox : Fleet I → Event I → Fleet I
  empties_outbox w (GetsAcknowledged k h) =
      record (with_answer w k (record (bridge_at w k) { outbox = []; in_flight = 0 })) { answered = answered_with w k h }
  empties_outbox w e = after covers w e

  -- A law: then a failover loses an answered change.
  abbrev pub ReplicasAreNeeded : Type 0
  ReplicasAreNeeded = (i : I) → CanEnd ignores_replicas (after covers) (λ x. (x.answered ≡ i ∷ []) × (x.server.log ≡ []))

  -- A law: then a change is answered that was never added.
  abbrev pub CountIsNeeded : Type 0
  CountIsNeeded = (i : I) → CanEnd counts_later (after covers) (λ x. (x.answered ≡ i ∷ []) × (x.server.log ≡ []))

  -- A law: then a change is never sent.
  abbrev pub RestIsNeeded : Type 0
  RestIsNeeded =
      (i : I) → CanEnd (May covers) empties_outbox (λ x. HasSent x 0 × ((bridge_at x 0).held ≡ i ∷ []) × (x.server.log ≡ []))
