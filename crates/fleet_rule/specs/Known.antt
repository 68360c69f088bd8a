-- When a bridge may answer a change that it held already.
use Rattle.std.specs.Prelude.{◌≡◌, ℕ, ◌≤◌, Bool, false, List, [], ◌∷◌, length, take, Some}
use Rattle.std.specs.List.{list_any}
use Rattle.fleet_rule.specs.Covered.{Covers}
use Rattle.fleet_rule.specs.Fleet.{Fleet}
use Rattle.fleet_rule.specs.Happens.{Event, HappenAll, IsNew, after, May, bridge_at}
use Rattle.fleet_rule.specs.Laws.{breaks, changes_of}
use Rattle.fleet_rule.specs.Example.{CanEnd}

module _ {I : Type 0} (covers : I → I → Bool) where
  -- A law: a bridge that has nothing to resend asks its server for its history, at x. The server handles that at y, and names the history
  -- that the bridge met. At z all that waited in the outbox when it asked is acknowledged, since no more waits than the changes since; and
  -- the replicas have what the log had then. So they have all that the bridge held when it asked.
  abbrev pub KnownIsKept : Type 0
  KnownIsKept =
      (w x y z : Fleet I) (es look later : List (Event I)) (k : ℕ) → IsNew covers w → HappenAll covers w es x →
      (bridge_at x k).must_resend ≡ false → HappenAll covers x look y → (bridge_at x k).met ≡ Some y.server.history →
      HappenAll covers x later z → list_any (breaks k) later ≡ false → length (bridge_at z k).outbox ≤ length (changes_of k later) →
      length x.server.log ≤ z.server.replicated → Covers covers (take z.server.replicated z.server.log) (bridge_at x k).held

  -- Whether bridge 0 holds the item, and the replicas of its server have nothing.
  pub record HoldsAlone (i : I) (x : Fleet I) : Type 0 where
    pub held : (bridge_at x 0).held ≡ i ∷ []
    pub replicated : take x.server.replicated x.server.log ≡ []

  -- A law: it isn't enough that the server named that history before.
  abbrev pub LookIsNeeded : Type 0
  LookIsNeeded =
      (i : I) → CanEnd (May covers) (after covers)
      (λ x. HoldsAlone i x × ((bridge_at x 0).met ≡ Some 1) × ((bridge_at x 0).must_resend ≡ false) × ((bridge_at x 0).outbox ≡ []))

  -- A law: nor that it names it now, while something waits in the outbox,
  abbrev pub ToldIsNeeded : Type 0
  ToldIsNeeded =
      (i : I) → CanEnd (May covers) (after covers)
      (λ x. HoldsAlone i x × ((bridge_at x 0).met ≡ Some x.server.history) × ((bridge_at x 0).must_resend ≡ false))

  -- while all has yet to be resent,
  abbrev pub OwedIsNeeded : Type 0
  OwedIsNeeded =
      (i : I) → CanEnd (May covers) (after covers)
      (λ x. HoldsAlone i x × ((bridge_at x 0).met ≡ Some x.server.history) × ((bridge_at x 0).outbox ≡ []))

  -- or while the replicas lack what the log has.
  abbrev pub WaitIsNeeded : Type 0
  WaitIsNeeded =
      (i : I) → CanEnd (May covers) (after covers)
      (λ x. HoldsAlone i x × ((bridge_at x 0).met ≡ Some x.server.history) × ((bridge_at x 0).must_resend ≡ false) ×
      ((bridge_at x 0).outbox ≡ []))
