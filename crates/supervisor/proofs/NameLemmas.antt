-- Leaders stay by their services' names.
use Rattle.std.proofs.Common.{◌≡◌, ◌+◌, ◌||◌, ℕ, suc, Bool, true, false, List, [], ◌∷◌, Option}
use Rattle.std.proofs.Common.{Some, None, refl, sym, ap, ◌∙◌, subst, ◌==◌, arith}
use Rattle.std.specs.List.{list_any, slice_get}
use Rattle.std.proofs.lemmas.Bool.{eqb-true, false≢true}
use Rattle.std.proofs.lemmas.Option.{get_or_from_slice_get}
use Rattle.process_keeper.specs.Renewal.{is_forgotten, is_source, lifecycle_from, new_lifecycle}
use Rattle.process_keeper.specs.declared.input.Input.{Input}
use Rattle.process_keeper.specs.declared.input.Input.TheVariants.{Started, Cancelled, Stopped, Shortened, Begun, Failed, Exited, Changed}
use Rattle.process_keeper.specs.declared.input.Input.TheVariants.{Asked, Killed, Scanned, Reported, Reaped, Cleared}
use Rattle.process_keeper.specs.declared.instance.Instance.{Instance}
use Rattle.process_keeper.specs.declared.lifecycle.Lifecycle.{Lifecycle}
use Rattle.process_keeper.proofs.RenewalLemmas.{busy_is_source, none_forgotten}
use Rattle.rs_core.specs.declared.action.Action.{Action}
use Rattle.rs_core.specs.declared.event.Event.{Event}
use Rattle.rs_core.specs.declared.event.Event.TheVariants.{Beat, Death}
use Rattle.rs_core.specs.Renewal.{renewed}
use Rattle.rs_core.specs.Says.{place_of_label}
use Rattle.rs_core.specs.State.{RsRecord, no_service}
use Rattle.rs_core.specs.Step.{RsStep}
use Rattle.rs_core.proofs.RenewalLemmas.{renewed_name, same_names}
use Rattle.rs_core.proofs.SaysLemmas.{labels_found, steps_say}
use Rattle.rs_settings.specs.Settings.{SettingsRecord}
use Rattle.rs_settings.specs.declared.service.Service.{Service}
use Rattle.supervisor.specs.Laws.{HasLeader, NamedLeadersStay, SparesLeader}
use Rattle.supervisor.specs.Moves.{Move, IsMove, lifecycles, reaps}
use Rattle.supervisor.specs.Moves.Move.{Tell, Report, Vouch, Renew, Note, Write}
use Rattle.supervisor.specs.Renewal.{IsRenewed, sources_of}
use Rattle.supervisor.specs.declared.supervisor.Supervisor.{Supervisor}
use Rattle.supervisor.proofs.AgreeLemmas.{Keeps, move_keeps}
use Rattle.supervisor.proofs.FollowLemmas.{is_within}
use Rattle.supervisor.proofs.RenewalLemmas.{map_here}

-- ---- steps
step_names : (rs after : RsRecord) (name : List ℕ) (event : Event) (tick : ℕ) (actions : List Action) → RsStep rs event tick actions after →
    place_of_label after name ≡ place_of_label rs name
step_names rs after name event tick actions step =
    let says = steps_say rs after event tick actions step in
    same_names rs after name says.settings says.count

-- ---- other settings
source_is : (k : ℕ) (o : Option ℕ) → is_source k o ≡ true → o ≡ Some k
source_is k None e = absurd (false≢true e)
source_is k (Some j) e = ap (λ (n : ℕ). Some n) (eqb-true j k e)

found_source : (rs : RsRecord) (ns : List Service) (k : ℕ) → list_any (is_source k) (sources_of rs ns) ≡ true →
    (m : ℕ) × (n : Service) × (slice_get ns m ≡ Some n) × (place_of_label rs n.label ≡ Some k)
found_source rs [] k e = absurd (false≢true e)
found_source rs (n ∷ ns) k e = by_test (is_source k (place_of_label rs n.label)) refl e (λ f. found_source rs ns k f)
  where
    by_test : (b : Bool) → is_source k (place_of_label rs n.label) ≡ b → b || list_any (is_source k) (sources_of rs ns) ≡ true →
        (list_any (is_source k) (sources_of rs ns) ≡ true →
        (m : ℕ) × (x : Service) × (slice_get ns m ≡ Some x) × (place_of_label rs x.label ≡ Some k)) →
        (m : ℕ) × (x : Service) × (slice_get (n ∷ ns) m ≡ Some x) × (place_of_label rs x.label ≡ Some k)
    by_test true f g rest = (0, n, refl, source_is k (place_of_label rs n.label) f)
    by_test false f g rest = let r = rest g in (suc r.0, r.1, r.2, r.3)

-- The processes of a named service that isn't idle, after other settings.
renewed_keeps : (rs : RsRecord) (labels : List Lifecycle) (settings : SettingsRecord) (after : RsRecord) (new : List Lifecycle)
    (name : List ℕ) (j : ℕ)
    (p : Lifecycle) (i : Instance) → IsRenewed rs labels settings after new → place_of_label rs name ≡ Some j →
    slice_get labels j ≡ Some p →
    p.instance ≡ Some i → (k : ℕ) × (place_of_label after name ≡ Some k) × (slice_get new k ≡ Some p)
renewed_keeps rs labels settings after new name j p i r named at is =
    (k, ap (λ (x : RsRecord). place_of_label x name) r.takes ∙ found.1, there)
  where
    sources : List (Option ℕ)
    sources = sources_of rs settings.services

    any : list_any (is_source j) sources ≡ true
    any =
        let same : 0 + j ≡ j = omega arith in
        busy_is_source sources j p i (subst (λ (x : ℕ). is_forgotten sources x p ≡ false) same
        (none_forgotten sources 0 labels j p r.kept at)) is

    source : (m : ℕ) × (n : Service) × (slice_get settings.services m ≡ Some n) × (place_of_label rs n.label ≡ Some j)
    source = found_source rs settings.services j any

    found : (k : ℕ) × (place_of_label (renewed rs settings) name ≡ Some k)
    found =
        renewed_name rs settings name source.0 source.1 source.2
        (sym (labels_found rs source.1.label j source.3).1 ∙ (labels_found rs name j named).1)

    k : ℕ
    k = found.0

    here : (n : Service) × (slice_get settings.services k ≡ Some n)
    here = is_within settings.services k (labels_found (renewed rs settings) name k found.1).0

    label : here.0.label ≡ name
    label =
        sym (ap (λ (s : Service). s.label) (get_or_from_slice_get settings.services k here.0 no_service here.1)) ∙
        (labels_found (renewed rs settings) name k found.1).1

    place : place_of_label rs here.0.label ≡ Some j
    place = ap (λ (a : List ℕ). place_of_label rs a) label ∙ named

    taken : lifecycle_from labels (place_of_label rs here.0.label) ≡ p
    taken = ap (λ (o : Option ℕ). lifecycle_from labels o) place ∙ get_or_from_slice_get labels j p new_lifecycle at

    there : slice_get new k ≡ Some p
    there =
        ap (λ (xs : List Lifecycle). slice_get xs k) r.follows ∙
        map_here (lifecycle_from labels) sources k (place_of_label rs here.0.label)
        (map_here (λ (n : Service). place_of_label rs n.label) settings.services k here.0 here.1) ∙
        ap (λ (x : Lifecycle). Some x) taken

-- ---- moves
spared : (k j : ℕ) (input : Input) → (Note j input ≡ Note k Reaped → ⊥) → reaps k (Note j input) ≡ false
spared k j Reaped n = by_test (j == k) refl
  where
    by_test : (b : Bool) → (j == k) ≡ b → b ≡ false
    by_test true e = absurd (n (ap (λ (x : ℕ). Note x Reaped) (eqb-true j k e)))
    by_test false e = refl
spared k j (Started g) n = refl
spared k j Cancelled n = refl
spared k j (Stopped at) n = refl
spared k j (Shortened at) n = refl
spared k j (Begun m) n = refl
spared k j (Failed now) n = refl
spared k j Exited n = refl
spared k j Changed n = refl
spared k j Asked n = refl
spared k j Killed n = refl
spared k j (Scanned found) n = refl
spared k j (Reported now) n = refl
spared k j Cleared n = refl

stays : (s t : Supervisor) (m : Move) (name : List ℕ) (leader generation : ℕ) (h : HasLeader s name leader generation) → IsMove s m t →
    place_of_label t.rs name ≡ place_of_label s.rs name → reaps h.place m ≡ false → HasLeader t name leader generation
stays s t m name leader generation h moved same n =
    from (move_keeps s t m h.place h.instance moved n (h.label, h.instance, h.there, h.runs, refl, refl))
  where
    from : Keeps (lifecycles t) h.place h.instance → HasLeader t name leader generation
    from (q, j, at, is, l, g) =
        record {
          place = h.place;
          named = same ∙ h.named;
          label = q;
          there = at;
          instance = j;
          runs = is;
          leads = l ∙ h.leads;
          given =
              g ∙ h.given;
        }

same_rs : (s t : Supervisor) (name : List ℕ) → t.rs ≡ s.rs → place_of_label t.rs name ≡ place_of_label s.rs name
same_rs s t name e = ap (λ (x : RsRecord). place_of_label x name) e

named_step : (s t : Supervisor) (m : Move) (name : List ℕ) (leader generation : ℕ) → SparesLeader name s m t →
    HasLeader s name leader generation →
    HasLeader t name leader generation
named_step s t (Tell event tick deadline) name leader generation (moved, spares) h =
    stays s t (Tell event tick deadline) name leader generation h moved (step_names s.rs t.rs name event tick moved.0.0 moved.0.1.step) refl
named_step s t (Report k cause tick now) name leader generation (moved, spares) h =
    stays s t (Report k cause tick now) name leader generation h moved
    (step_names s.rs t.rs name (Death moved.0.1.0 cause) tick moved.0.0 moved.0.1.2.step) refl
named_step s t (Vouch k tick) name leader generation (moved, spares) h =
    stays s t (Vouch k tick) name leader generation h moved
    (step_names s.rs t.rs name (Beat moved.0.1.0) tick moved.0.1.2.0 moved.0.1.2.1) refl
named_step s t (Renew settings) name leader generation (moved, spares) h =
    let x = renewed_keeps s.rs (lifecycles s) settings t.rs (lifecycles t) name h.place h.label h.instance moved.0 h.named h.there h.runs in
    record
    { place = x.0; named = x.1; label = h.label; there = x.2; instance = h.instance; runs = h.runs; leads = h.leads; given = h.given }
named_step s t (Note k input) name leader generation (moved, spares) h =
    stays s t (Note k input) name leader generation h moved (same_rs s t name moved.2) (spared h.place k input (spares h.place h.named))
named_step s t (Write file) name leader generation (moved, spares) h =
    stays s t (Write file) name leader generation h moved (same_rs s t name moved.1) refl

pub named_leaders_stay : NamedLeadersStay
named_leaders_stay s t [] name leader generation path h = subst (λ (x : Supervisor). HasLeader x name leader generation) path h
named_leaders_stay s t (m ∷ moves) name leader generation (u, l, path) h =
    named_leaders_stay u t moves name leader generation path (named_step s u m name leader generation l h)
