-- The fault of the lowest worker.
use Rattle.std.proofs.Common.{◌≡◌, ◌<◌, ◌+◌, ℕ, List, [], ◌∷◌, ◌++◌, Option, Some, None, length, map, take, refl, ap, sym, ◌∙◌}
use Rattle.std.proofs.Math.ListN.{get_or}
use Rattle.std.proofs.lemmas.List.{map_push, take_more}
use Rattle.ds_live.specs.declared.live_fault.LiveFault.{LiveFault}
use Rattle.ds_live.specs.Faults.{fault_or, lowest_fault, own_fault}
use Rattle.ds_live.specs.declared.worker_fault.WorkerFault.{WorkerFault}

pub or_again : (f g h : Option LiveFault) → fault_or (fault_or f g) h ≡ fault_or f (fault_or g h)
or_again (Some f) g h = refl
or_again None g h = refl

-- of one worker more, which is lower than those before it
pub lowest_pushed : (fs : List (Option WorkerFault)) (f : Option WorkerFault) →
    lowest_fault (fs ++ f ∷ []) ≡ fault_or (own_fault f) (lowest_fault fs)
lowest_pushed [] f = sym_or (own_fault f) where
  sym_or : (f : Option LiveFault) → fault_or None f ≡ fault_or f None
  sym_or (Some f) = refl
  sym_or None = refl
lowest_pushed (g ∷ fs) f =
    ap (λ (h : Option LiveFault). fault_or h (own_fault g)) (lowest_pushed fs f)
    ∙ or_again (own_fault f) (lowest_fault fs) (own_fault g)

-- of one job more
pub lowest_more : {J : Type 0} (f : J → Option WorkerFault) (js : List J) (i : ℕ) (j : J) → i < length js → j ≡ get_or js i j
    → lowest_fault (map f (take (i + 1) js)) ≡ fault_or (own_fault (f j)) (lowest_fault (map f (take i js)))
lowest_more f js i j below at =
    ap (λ l. lowest_fault (map f l)) (take_more js i j below) ∙ ap lowest_fault (map_push f (take i js) (get_or js i j))
    ∙ lowest_pushed (map f (take i js)) (f (get_or js i j)) ∙
    ap (λ k. fault_or (own_fault (f k)) (lowest_fault (map f (take i js)))) (sym at)
