-- Items that take effect in a store, as events of its bridge.
use Rattle.std.specs.Prelude.{◌≡◌, ℕ, List, [], ◌∷◌, ◌++◌}
use Rattle.ds_entry.specs.ItemCovers.{covers}
use Rattle.ds_entry.specs.declared.item.Item.{Item}
use Rattle.ds_join.specs.ItemTop.{tops}
use Rattle.fleet_rule.specs.Fleet.{Fleet}
use Rattle.fleet_rule.specs.Happens.{Event, HappenAll, bridge_at}

-- The events of items that take effect in order, after those that were accepted, beside dead letters.
abbrev pub changes : ℕ → List Item → List Item → List Item → List (Event Item)
changes k dead accepted [] = []
changes k dead accepted (i ∷ items) = Event.Changes k i (tops (accepted ++ i ∷ []) ++ dead) ∷ changes k dead (accepted ++ i ∷ []) items

-- Whether only what the bridge holds and its outbox changed.
pub record IsChangedTo (w : Fleet Item) (k : ℕ) (held outbox : List Item) (x : Fleet Item) : Type 0 where
  pub bridge : bridge_at x k ≡ record (bridge_at w k) { held = held; outbox = outbox }
  pub producer : (x.hosts k).producer ≡ (w.hosts k).producer
  pub consumer : (x.hosts k).consumer ≡ (w.hosts k).consumer
  pub server : x.server ≡ w.server
  pub answered : x.answered ≡ w.answered

-- A law: items that take effect in a store are changes at its bridge, in this order, and wait in its outbox.
abbrev pub NewsAreChanges : Type 0
NewsAreChanges =
    (w : Fleet Item) (k : ℕ) (dead accepted items : List Item) → (bridge_at w k).held ≡ tops accepted ++ dead →
    (x : Fleet Item) × HappenAll covers w (changes k dead accepted items) x ×
    IsChangedTo w k (tops (accepted ++ items) ++ dead) ((bridge_at w k).outbox ++ items) x
