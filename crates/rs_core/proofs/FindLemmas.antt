-- One step of the search for a service, and the service at an index.
use Rattle.std.proofs.Common.{◌≡◌, ℕ, ◌<◌, ◌+◌, cond, List, get_or, length, drop, Some, ◌∙◌}
use Rattle.std.specs.List.{slice_get}
use Rattle.std.proofs.Common.{Bool, true, false}
use Rattle.std.proofs.lemmas.Option.{get_or_from_slice_get}
use Rattle.std.proofs.lemmas.List.{drop_more}
use Rattle.rs_settings.specs.declared.service.Service.{Service}
use Rattle.rs_core.specs.declared.state.State.{State}
use Rattle.rs_core.specs.declared.finding.Sought.{Sought}
use Rattle.rs_core.specs.Finding.{is_sought, first_sought}

pub first_sought-step : (what : Sought) (i : ℕ) (ss : List Service) (ts : List State) (d : Service) (e : State) → i < length ss →
    i < length ts →
    first_sought what i (drop i ss) (drop i ts) ≡ cond (is_sought what (get_or ss i d) (get_or ts i e)) (Some i)
    (first_sought what (i + 1) (drop (i + 1) ss) (drop (i + 1) ts))
first_sought-step what i ss ts d e h k = rw (drop_more ss i d h, drop_more ts i e k)

found : (what : Sought) (i : ℕ) (ss : List Service) (ts : List State) (service : Service) (state : State) (b : Bool) → i < length ss →
    i < length ts →
    slice_get ss i ≡ Some service → state ≡ get_or ts i state → is_sought what service state ≡ b →
    first_sought what i (drop i ss) (drop i ts) ≡ cond b (Some i) (first_sought what (i + 1) (drop (i + 1) ss) (drop (i + 1) ts))
found what i ss ts service state b h k at here e =
    let s : get_or ss i service ≡ service = get_or_from_slice_get ss i service service at in
    let f : is_sought what (get_or ss i service) (get_or ts i state) ≡ b = rw (s, ← here) e in
    first_sought-step what i ss ts service state h k ∙ rw f

pub first_found : (what : Sought) (i : ℕ) (ss : List Service) (ts : List State) (service : Service) (state : State) → i < length ss →
    i < length ts →
    slice_get ss i ≡ Some service → state ≡ get_or ts i state → is_sought what service state ≡ true →
    first_sought what i (drop i ss) (drop i ts) ≡ Some i
first_found what i ss ts service state h k at here e = found what i ss ts service state true h k at here e

pub first_passed : (what : Sought) (i : ℕ) (ss : List Service) (ts : List State) (service : Service) (state : State) → i < length ss →
    i < length ts →
    slice_get ss i ≡ Some service → state ≡ get_or ts i state → is_sought what service state ≡ false →
    first_sought what i (drop i ss) (drop i ts) ≡ first_sought what (i + 1) (drop (i + 1) ss) (drop (i + 1) ts)
first_passed what i ss ts service state h k at here e = found what i ss ts service state false h k at here e
