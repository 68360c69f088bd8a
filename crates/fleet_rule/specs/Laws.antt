-- What holds of each fleet, whatever happened since it was new.
use Rattle.std.specs.Prelude.{◌≡◌, ◌⊎◌, ℕ, ◌≤◌, ◌==◌, Bool, true, false, ◌||◌, if◌then◌else◌}
use Rattle.std.specs.Prelude.{List, [], ◌∷◌, ◌++◌, length, take, drop, Some, Contains}
use Rattle.std.specs.List.{list_any}
use Rattle.fleet_rule.specs.Covered.{Covers}
use Rattle.fleet_rule.specs.Server.{Server}
use Rattle.fleet_rule.specs.Fleet.{Fleet}
use Rattle.fleet_rule.specs.Happens.{Event, HappenAll, IsNew, bridge_at}
use Rattle.fleet_rule.specs.Happens.Event.{Changes, Crashes, Folds, Doubts, FailsOver, Loses}

module _ {I : Type 0} where
  -- Whether the bridge met this server, read the whole log, and dropped nothing.
  pub record HasRead (w : Fleet I) (k : ℕ) : Type 0 where
    pub met : (bridge_at w k).met ≡ Some w.server.history
    pub position : (bridge_at w k).position ≡ length w.server.log
    pub whole : (bridge_at w k).has_dropped ≡ false

  -- Whether the bridge met this server, and has nothing left to send.
  pub record HasSent (w : Fleet I) (k : ℕ) : Type 0 where
    pub met : (bridge_at w k).met ≡ Some w.server.history
    pub must_resend : (bridge_at w k).must_resend ≡ false
    pub outbox : (bridge_at w k).outbox ≡ []

  -- The items that a new bridge reads: the snapshot, and the log from its end on.
  abbrev pub readable : Server I → List I
  readable s = s.snapshot ++ drop s.end s.log

  -- Whether the bridge crashes by this event.
  abbrev pub is_crash_of : ℕ → Event I → Bool
  is_crash_of k (Crashes j) = j == k
  is_crash_of k _ = false

  -- Whether the server is another one, or has less, by this event.
  abbrev pub is_loss : Event I → Bool
  is_loss (FailsOver s) = true
  is_loss (Loses s) = true
  is_loss _ = false

  -- Whether the bridge crashes, or of itself sends all held items once more.
  abbrev pub begins_anew : ℕ → Event I → Bool
  begins_anew k (Crashes j) = j == k
  begins_anew k (Folds j) = j == k
  begins_anew k (Doubts j) = j == k
  begins_anew k _ = false

  abbrev pub breaks : ℕ → Event I → Bool
  breaks k e = begins_anew k e || is_loss e

  -- The change that takes effect at the bridge by this event, if one does.
  abbrev pub change_at : ℕ → Event I → List I
  change_at k (Changes j i held) = if j == k then i ∷ [] else []
  change_at k _ = []

  abbrev pub changes_of : ℕ → List (Event I) → List I
  changes_of k [] = []
  changes_of k (e ∷ es) = change_at k e ++ changes_of k es

module _ {I : Type 0} (covers : I → I → Bool) where
  -- A law: the replicas have each answered change, or an item that covers it, until the server loses something.
  abbrev pub AnsweredIsKept : Type 0
  AnsweredIsKept =
      (w x : Fleet I) (es : List (Event I)) → IsNew covers w → HappenAll covers w es x →
      Covers covers (take x.server.replicated x.server.log) x.answered

  -- A law: a bridge that has read the log holds, or covers, all items ever added, and each answered change.
  abbrev pub ReadersHoldAll : Type 0
  ReadersHoldAll =
      (w x : Fleet I) (es : List (Event I)) (k : ℕ) → IsNew covers w → HappenAll covers w es x → HasRead x k →
      Covers covers (bridge_at x k).held x.server.log × Covers covers (bridge_at x k).held x.answered

  -- A law: of two such bridges, one that has sent everything holds nothing that the other one doesn't cover.
  abbrev pub BridgesAgree : Type 0
  BridgesAgree =
      (w x : Fleet I) (es : List (Event I)) (j k : ℕ) → IsNew covers w → HappenAll covers w es x →
      HasRead x j → HasRead x k → HasSent x j →
      Covers covers (bridge_at x k).held (bridge_at x j).held

  -- A law: the readable items are readable, and represent all items ever added and nothing else.
  abbrev pub SnapshotsAreWhole : Type 0
  SnapshotsAreWhole =
      (w x : Fleet I) (es : List (Event I)) → IsNew covers w → HappenAll covers w es x →
      (x.server.trimmed ≤ x.server.end) × Covers covers (readable x.server) x.server.log × Covers covers x.server.log (readable x.server)

  -- A law: whatever a server lost, it has all that a bridge held before, once that bridge has lived on, met the server that
  -- is there now, and sent everything.
  abbrev pub NothingHeldIsLost : Type 0
  NothingHeldIsLost =
      (w x y : Fleet I) (es later : List (Event I)) (k : ℕ) → IsNew covers w → HappenAll covers w es x → HappenAll covers x later y →
      list_any (is_crash_of k) later ≡ false → HasSent y k → Covers covers y.server.log (bridge_at x k).held

  -- A law: while the server loses nothing, and the bridge doesn't begin anew, only its own changes are put into the outbox of a
  -- bridge that need not resend.
  abbrev pub NothingIsEchoed : Type 0
  NothingIsEchoed =
      (w x y : Fleet I) (es later : List (Event I)) (k : ℕ) → IsNew covers w → HappenAll covers w es x → HappenAll covers x later y →
      list_any (breaks k) later ≡ false → (bridge_at x k).met ≡ Some x.server.history → (bridge_at x k).must_resend ≡ false →
      (i : I) → Contains (bridge_at y k).outbox i → Contains (bridge_at x k).outbox i ⊎ Contains (changes_of k later) i
