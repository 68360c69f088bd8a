-- Events that happen in order, joined and split.
use Rattle.std.proofs.Common.{List, [], ◌∷◌, ◌++◌, refl, subst}
use Rattle.ds_replica.specs.declared.event.Event.{Event}
use Rattle.ds_replica.specs.declared.outcome.Outcome.{Outcome}
use Rattle.ds_replica.specs.World.{World}
use Rattle.ds_replica.specs.Happens.{HappenAll}

-- and then these events happen
pub happen_then : (xs ys : List (Event × Outcome)) (w mid new : World) → HappenAll w xs mid → HappenAll mid ys new →
    HappenAll w (xs ++ ys) new
happen_then [] ys w mid new h k = subst (λ (v : World). HappenAll v ys new) h k
happen_then (e ∷ es) ys w mid new h k = (h.0, h.1, happen_then es ys h.0 mid new h.2 k)

-- events that happened, in two parts
pub happen_split : (xs ys : List (Event × Outcome)) (w new : World) → HappenAll w (xs ++ ys) new →
    (mid : World) × HappenAll w xs mid × HappenAll mid ys new
happen_split [] ys w new h = (w, refl, h)
happen_split (x ∷ xs) ys w new h = let t = happen_split xs ys h.0 new h.2 in (t.0, (h.0, h.1, t.1), t.2)
