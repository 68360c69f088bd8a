-- How a run continues.
use Rattle.std.proofs.Common.{◌≡◌, ◌<◌, List, [], ◌∷◌, ◌++◌, length, length-append, append-nil, refl, sym, ◌∙◌, subst, arith}
use Rattle.ds_replica.specs.declared.event.Event.{Event}
use Rattle.ds_replica.specs.declared.outcome.Outcome.{Outcome}
use Rattle.ds_replica.specs.World.{World}
use Rattle.ds_replica.specs.Happens.{Happens, HappenAll}
use Rattle.ds_world.specs.World.{WorldRecord}
use Rattle.ds_world.specs.Run.{paired, EventLeads, RunLeads}
use Rattle.ds_world.specs.Told.{IsTold, AreTold}

-- events with their outcomes, and one more at the end
pub happen_more : (events : List Event) (outcomes : List Outcome) (w mid new : World) (event : Event) (outcome : Outcome) →
    length outcomes ≡ length events → HappenAll w (paired events outcomes) mid → Happens mid event outcome new
    → HappenAll w (paired (events ++ event ∷ []) (outcomes ++ outcome ∷ [])) new
happen_more [] [] w mid new event outcome e run one = (new, subst (λ (x : World). Happens x event outcome new) run one, refl)
happen_more [] (o ∷ outcomes) w mid new event outcome e run one = absurd (omega (arith, e))
happen_more (x ∷ events) [] w mid new event outcome e run one = absurd (omega (arith, e))
happen_more (x ∷ events) (o ∷ outcomes) w mid new event outcome e run one =
    (run.0, run.1, happen_more events outcomes run.0 mid new event outcome (omega (arith, e)) run.2 one)

-- so a run that led somewhere leads on by one more event
pub run_more : (events : List Event) (outcomes : List Outcome) (old mid new : WorldRecord) (event : Event) (outcome : Outcome) →
    length outcomes ≡ length events → RunLeads events outcomes old mid → EventLeads event outcome mid new
    → RunLeads (events ++ event ∷ []) (outcomes ++ outcome ∷ []) old new
run_more events outcomes old mid new event outcome e run one w s =
    let went = run w s in
    let next = one went.0 went.2 in
    (next.0, happen_more events outcomes w went.0 next.0 event outcome e went.1 next.1, next.2)

-- and so do the values, in order
pub told_more : (events : List Event) (outcomes : List Outcome) (old mid new : WorldRecord) (event : Event) (outcome : Outcome) →
    length outcomes ≡ length events → AreTold old (paired events outcomes) mid → EventLeads event outcome mid new
    → IsTold event outcome mid new → AreTold old (paired (events ++ event ∷ []) (outcomes ++ outcome ∷ [])) new
told_more [] [] old mid new event outcome e run leads told = (
  new,
  subst (λ (x : WorldRecord). EventLeads event outcome x new) run leads,
  subst (λ (x : WorldRecord). IsTold event outcome x new)
      run told,
  refl,
)
told_more [] (o ∷ outcomes) old mid new event outcome e run leads told = absurd (omega (arith, e))
told_more (x ∷ events) [] old mid new event outcome e run leads told = absurd (omega (arith, e))
told_more (x ∷ events) (o ∷ outcomes) old mid new event outcome e run leads told =
    (run.0, run.1, run.2, told_more events outcomes run.0 mid new event outcome (omega (arith, e)) run.3 leads told)

-- where none is left all have happened
pub all_happened : (before left events : List Event) → before ++ left ≡ events → length left ≡ 0 → before ≡ events
all_happened before [] events e l = sym (append-nil before) ∙ e
all_happened before (event ∷ left) events e l = absurd (omega (arith, l))

-- where one is left they aren't all
pub one_left : (before left after events : List Event) (event : Event) → before ++ left ≡ events → left ≡ event ∷ after →
    length before < length events
one_left before left after events event e is =
    subst (λ (es : List Event). length before < length es) e
    (subst (λ (l : List Event). length before < length (before ++ l)) (sym is) (omega (arith, length-append before (event ∷ after))))
