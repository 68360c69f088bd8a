-- Examples, so that the laws aren't about nothing: what can happen.
use Rattle.std.specs.Prelude.{◌≡◌, ℕ, Bool, List, [], ◌∷◌}
use Rattle.fleet_rule.specs.Server.{Server}
use Rattle.fleet_rule.specs.Fleet.{Fleet, new_host}
use Rattle.fleet_rule.specs.Happens.{Event, after, May, Follow, IsNew, bridge_at}
use Rattle.fleet_rule.specs.Laws.{HasRead, HasSent}

module _ {I : Type 0} where
  -- A server of this history, with these items; n of them are replicated.
  abbrev pub server_of : ℕ → List I → ℕ → Server I
  server_of h items n = record { history = h; log = items; trimmed = 0; end = 0; snapshot = []; replicated = n }

  abbrev pub new_fleet : Fleet I
  new_fleet = record { server = server_of 1 [] 0; hosts = λ k. new_host; answered = [] }

  -- Whether some events lead a new fleet to one of which P holds, each as it may and with its effect.
  abbrev pub CanEnd : (Fleet I → Event I → Type 0) → (Fleet I → Event I → Fleet I) → (Fleet I → Type 0) → Type 0
  CanEnd may leads P = (x : Fleet I) × (es : List (Event I)) × Follow may leads new_fleet es x × P x

module _ {I : Type 0} (covers : I → I → Bool) where
  -- A law: a fleet can begin, and there each change can be answered and reach another bridge.
  abbrev pub ChangesCome : Type 0
  ChangesCome =
      IsNew covers (new_fleet {I = I}) ×
      ((i : I) → CanEnd (May covers) (after covers)
      (λ x. HasSent x 0 × HasRead x 1 × HasSent x 1 × (x.answered ≡ i ∷ []) × ((bridge_at x 1).held ≡ i ∷ [])))

  -- A law: a change can reach a bridge by a snapshot, after its entry was trimmed.
  abbrev pub SnapshotsCome : Type 0
  SnapshotsCome =
      (i : I) → CanEnd (May covers) (after covers)
      (λ x. HasRead x 1 × HasSent x 1 × (x.server.trimmed ≡ 1) × ((bridge_at x 1).held ≡ i ∷ []))

  -- A law: an emptied server can have again what it lost, sent by a bridge that held it.
  abbrev pub LostIsSentAgain : Type 0
  LostIsSentAgain =
      (i : I) → CanEnd (May covers) (after covers)
      (λ x. HasSent x 0 × (x.server.history ≡ 2) × (x.server.log ≡ i ∷ []) × (x.answered ≡ i ∷ []))
