-- Premises on servers: the laws that fail without each.
use Rattle.std.specs.Prelude.{◌≡◌, ℕ, ◌<◌, Bool, [], ◌∷◌, take}
use Rattle.fleet_rule.specs.Server.{IsServer}
use Rattle.fleet_rule.specs.Fleet.{Fleet}
use Rattle.fleet_rule.specs.Happens.{Event, after, May, bridge_at}
use Rattle.fleet_rule.specs.Happens.Event.{FailsOver, Loses}
use Rattle.fleet_rule.specs.Laws.{HasSent}
use Rattle.fleet_rule.specs.Example.{CanEnd}

module _ {I : Type 0} (covers : I → I → Bool) where
  -- A server loses what it had, and no bridge can see it.
  abbrev pub loses_unseen : Fleet I → Event I → Type 0
  loses_unseen w (Loses s) = IsServer covers s
  loses_unseen w e = May covers w e

  -- A replica that lacks what was waited for replaces the server.
  abbrev pub fails_over_to_any : Fleet I → Event I → Type 0
  fails_over_to_any w (FailsOver s) = (w.server.history < s.history) × IsServer covers s × ((n : ℕ) × (s.log ≡ take n w.server.log))
  fails_over_to_any w e = May covers w e

  -- A law: then a bridge that counts as one that sent everything holds an item that the server lost.
  abbrev pub SeeingIsNeeded : Type 0
  SeeingIsNeeded =
      (i : I) → CanEnd loses_unseen (after covers) (λ x. HasSent x 0 × ((bridge_at x 0).held ≡ i ∷ []) × (x.server.log ≡ []))

  -- A law: then an answered change is lost.
  abbrev pub ChoiceIsNeeded : Type 0
  ChoiceIsNeeded = (i : I) → CanEnd fails_over_to_any (after covers) (λ x. (x.answered ≡ i ∷ []) × (x.server.log ≡ []))
