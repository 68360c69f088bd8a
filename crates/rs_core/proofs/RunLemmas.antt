-- What holds over each run of the restart machine, and over the calls of a numberer.
use Rattle.std.proofs.Common.{◌≡◌, ℕ, ◌+◌, ◌≤◌, Bool, true, false, List, [], ◌∷◌, ◌++◌, Option, Some, None, refl, sym, ap, ◌∙◌, subst}
use Rattle.std.proofs.Common.{arith, inl, inr, ◌⊎◌}
use Rattle.std.specs.List.{flat_map, Contains}
use Rattle.ds_names.specs.Endpoint.{EndpointRecord}
use Rattle.ds_names.specs.declared.key.Key.{Key}
use Rattle.ds_names.specs.declared.version.Version.{Version}
use Rattle.ds_entry.specs.Change.{ChangeRecord}
use Rattle.ds_entry.specs.SingleNumbered.{IsSingleNumbered}
use Rattle.ds_entry.proofs.Members.{In, In-from_Contains}
use Rattle.rs_settings.specs.declared.service.Service.{Service}
use Rattle.rs_core.specs.declared.action.Action.{Action}
use Rattle.rs_core.specs.declared.state.State.{State}
use Rattle.rs_core.specs.declared.state.State.TheVariants.{Down, Up, Waiting, GaveUp}
use Rattle.rs_core.specs.declared.deed.Deed.{Deed}
use Rattle.rs_core.specs.declared.deed.Deed.TheVariants.{Begin, Resume, Halt, Replace, Lose, Ping}
use Rattle.rs_core.specs.declared.deed.Task.{Task}
use Rattle.rs_core.specs.Action.{label_put, label_gone, start_actions, stop_actions}
use Rattle.rs_core.specs.State.{RsRecord, state_at, service_at}
use Rattle.rs_core.specs.Machine.{actions_of, next_after, new_endpoint, same_slot}
use Rattle.rs_core.specs.Step.{IsCarriedOut}
use Rattle.rs_core.specs.Run.{RsRun, starts, offers, AreRising, StartsRise, LabelsAreSingleNumbered}
use Rattle.rs_core.specs.Renewal.{IsRenewal, RsLife, StartsRiseThroughRenewals, LabelsStaySingleNumbered}
use Rattle.rs_core.specs.Numbering.{NumbererRecord, AreNumbered, NumbersRise}
use Rattle.ds_names.specs.Name.{rs_name}

-- ---- starts

-- a deed starts the next generation, or none
deed_rises : (s : RsRecord) (service : Service) (state : State) (deed : Deed) →
    AreRising s.next (starts (actions_of s service state deed)) (next_after s state deed)
deed_rises s service Down Begin = (omega arith, omega arith)
deed_rises s service GaveUp Begin = (omega arith, omega arith)
deed_rises s service (Waiting p) Resume = (omega arith, omega arith)
deed_rises s service (Up r) Replace = (omega arith, omega arith)
deed_rises s service (Up r) (Lose true) = omega arith
deed_rises s service (Up r) (Lose false) = omega arith
deed_rises s service Down deed = omega arith
deed_rises s service (Up r) deed = omega arith
deed_rises s service (Waiting p) deed = omega arith
deed_rises s service GaveUp deed = omega arith

follow_rises : (s : RsRecord) (tick : ℕ) (p : Option Task) (actions : List Action) (t : RsRecord) → IsCarriedOut s tick p actions t →
    AreRising s.next (starts actions) t.next
follow_rises s tick None actions t h =
    let n : s.next ≡ t.next = sym (ap (λ (r : RsRecord). r.next) h.after) in
    subst (λ (z : List Action). AreRising s.next (starts z) t.next) (sym h.done) (omega arith)
follow_rises s tick (Some p) actions t h =
    let n : next_after s (state_at s p.place) p.deed ≡ t.next = sym (ap (λ (r : RsRecord). r.next) h.after) in
    subst (λ (z : List Action). AreRising s.next (starts z) t.next) (sym h.done)
    (subst (λ k. AreRising s.next (starts (actions_of s (service_at s p.place) (state_at s p.place) p.deed)) k) n
    (deed_rises s (service_at s p.place) (state_at s p.place) p.deed))

rises_from : (low mid high : ℕ) (es : List EndpointRecord) → low ≤ mid → AreRising mid es high → AreRising low es high
rises_from low mid high [] le h = omega arith
rises_from low mid high (e ∷ es) le h = (omega (arith, h.0), h.1)

rises_on : (low mid high : ℕ) (ds es : List EndpointRecord) → AreRising low ds mid → AreRising mid es high → AreRising low (ds ++ es) high
rises_on low mid high [] es h k = rises_from low mid high es h k
rises_on low mid high (d ∷ ds) es h k = (h.0, rises_on (d.generation + 1) mid high ds es h.1 k)

pub starts_rise : StartsRise
starts_rise s t [] run = let n : s.next ≡ t.next = ap (λ (r : RsRecord). r.next) run in omega arith
starts_rise s t (actions ∷ rest) (m, (event, tick, step), run) =
    rises_on s.next m.next t.next (starts actions) (flat_map starts rest) (follow_rises s tick step.0 actions m step.3)
    (starts_rise m t rest run)

-- ---- labels

not_below : (low high : ℕ) (es : List EndpointRecord) (e : EndpointRecord) → AreRising low es high → In e es → low ≤ e.generation
not_below low high [] e h i = absurd i
not_below low high (f ∷ es) e h (inl same) = subst (λ (z : EndpointRecord). low ≤ z.generation) (sym same) h.0
not_below low high (f ∷ es) e h (inr i) = let k = not_below (f.generation + 1) high es e h.1 i in omega (arith, h.0, k)

-- two starts of one generation are one
one_start : (low high : ℕ) (es : List EndpointRecord) (e f : EndpointRecord) → AreRising low es high → In e es → In f es →
    e.generation ≡ f.generation → e ≡ f
one_start low high [] e f h i j g = absurd i
one_start low high (d ∷ es) e f h (inl p) (inl q) g = p ∙ sym q
one_start low high (d ∷ es) e f h (inl p) (inr j) g =
    let k : d.generation + 1 ≤ f.generation = not_below (d.generation + 1) high es f h.1 j in
    let q : e.generation ≡ d.generation = ap (λ (z : EndpointRecord). z.generation) p in
    absurd (omega arith)
one_start low high (d ∷ es) e f h (inr i) (inl q) g =
    let k : d.generation + 1 ≤ e.generation = not_below (d.generation + 1) high es e h.1 i in
    let p : f.generation ≡ d.generation = ap (λ (z : EndpointRecord). z.generation) q in
    absurd (omega arith)
one_start low high (d ∷ es) e f h (inr i) (inr j) g = one_start (d.generation + 1) high es e f h.1 i j g

-- the change publishes the label of one of these starts, or takes a label back
abbrev IsLabelOf : List EndpointRecord → ChangeRecord → Type 0
IsLabelOf es c = ((label : List ℕ) × (e : EndpointRecord) × In e es × (c ≡ label_put label e)) ⊎
    ((label : List ℕ) × (g : ℕ) × (c ≡ label_gone label g))

In-left : {X : Type 0} (x : X) (xs ys : List X) → In x xs → In x (xs ++ ys)
In-left x [] ys h = absurd h
In-left x (z ∷ xs) ys (inl e) = inl e
In-left x (z ∷ xs) ys (inr h) = inr (In-left x xs ys h)

In-right : {X : Type 0} (x : X) (xs ys : List X) → In x ys → In x (xs ++ ys)
In-right x [] ys h = h
In-right x (z ∷ xs) ys h = inr (In-right x xs ys h)

In-cases : {X : Type 0} (x : X) (xs ys : List X) → In x (xs ++ ys) → In x xs ⊎ In x ys
In-cases x [] ys h = inr h
In-cases x (z ∷ xs) ys (inl e) = inl (inl e)
In-cases x (z ∷ xs) ys (inr h) = elim (In-cases x xs ys h) [ inl i ↦ inl (inr i) | inr i ↦ inr i ]

label_left : (es fs : List EndpointRecord) (c : ChangeRecord) → IsLabelOf es c → IsLabelOf (es ++ fs) c
label_left es fs c (inl (label, e, i, same)) = inl (label, e, In-left e es fs i, same)
label_left es fs c (inr h) = inr h

label_right : (es fs : List EndpointRecord) (c : ChangeRecord) → IsLabelOf fs c → IsLabelOf (es ++ fs) c
label_right es fs c (inl (label, e, i, same)) = inl (label, e, In-right e es fs i, same)
label_right es fs c (inr h) = inr h

started_label : (label : List ℕ) (e : EndpointRecord) (c : ChangeRecord) → In c (offers (start_actions label e)) →
    IsLabelOf (starts (start_actions label e)) c
started_label label e c (inl same) = inl (label, e, inl refl, same)
started_label label e c (inr h) = absurd h

stopped_label : (kill : Bool) (label : List ℕ) (e : EndpointRecord) (c : ChangeRecord) → In c (offers (stop_actions kill label e)) →
    IsLabelOf (starts (stop_actions kill label e)) c
stopped_label true label e c (inl same) = inr (label, e.generation, same)
stopped_label true label e c (inr h) = absurd h
stopped_label false label e c (inl same) = inr (label, e.generation, same)
stopped_label false label e c (inr h) = absurd h

replaced_label : (label : List ℕ) (e f : EndpointRecord) (c : ChangeRecord) →
    In c (offers (stop_actions true label e ++ start_actions label f)) →
    IsLabelOf (starts (stop_actions true label e ++ start_actions label f)) c
replaced_label label e f c (inl same) = inr (label, e.generation, same)
replaced_label label e f c (inr (inl same)) = inl (label, f, inl refl, same)
replaced_label label e f c (inr (inr h)) = absurd h

deed_labels : (s : RsRecord) (service : Service) (state : State) (deed : Deed) (c : ChangeRecord) →
    In c (offers (actions_of s service state deed)) → IsLabelOf (starts (actions_of s service state deed)) c
deed_labels s service Down Begin c h = started_label service.label (new_endpoint s) c h
deed_labels s service GaveUp Begin c h = started_label service.label (new_endpoint s) c h
deed_labels s service (Waiting p) Resume c h = started_label service.label (new_endpoint s) c h
deed_labels s service (Up r) Replace c h = replaced_label service.label r.endpoint (same_slot s r) c h
deed_labels s service (Up r) (Lose kill) c h = stopped_label kill service.label r.endpoint c h
deed_labels s service (Up r) Halt c h = stopped_label true service.label r.endpoint c h
deed_labels s service (Up r) Ping c h = absurd h
deed_labels s service Down deed c h = absurd h
deed_labels s service (Up r) deed c h = absurd h
deed_labels s service (Waiting p) deed c h = absurd h
deed_labels s service GaveUp deed c h = absurd h

follow_labels : (s : RsRecord) (tick : ℕ) (p : Option Task) (actions : List Action) (t : RsRecord) (c : ChangeRecord) →
    IsCarriedOut s tick p actions t → In c (offers actions) → IsLabelOf (starts actions) c
follow_labels s tick None actions t c h i = absurd (subst (λ (z : List Action). In c (offers z)) h.done i)
follow_labels s tick (Some p) actions t c h i =
    subst (λ (z : List Action). IsLabelOf (starts z) c) (sym h.done)
    (deed_labels s (service_at s p.place) (state_at s p.place) p.deed c (subst (λ (z : List Action). In c (offers z)) h.done i))

run_labels : (s t : RsRecord) (steps : List (List Action)) (c : ChangeRecord) → RsRun s steps t → In c (flat_map offers steps) →
    IsLabelOf (flat_map starts steps) c
run_labels s t [] c run i = absurd i
run_labels s t (actions ∷ rest) c (m, (event, tick, step), run) i = elim (In-cases c (offers actions) (flat_map offers rest) i) [
  | inl here ↦ label_left (starts actions) (flat_map starts rest) c (follow_labels s tick step.0 actions m c step.3 here)
  | inr later ↦ label_right (starts actions) (flat_map starts rest) c (run_labels m t rest c run later)
]

owner_of_label : (es : List EndpointRecord) (c : ChangeRecord) → IsLabelOf es c → c.owner ≡ rs_name
owner_of_label es c (inl (label, e, i, same)) = ap (λ (z : ChangeRecord). z.owner) same
owner_of_label es c (inr (label, g, same)) = ap (λ (z : ChangeRecord). z.owner) same

two_numbers : (n : ℕ) → n ≡ 0 → n ≡ 1 → ⊥
two_numbers n e f = omega arith

-- two of them with one key and one version are one
one_label : (low high : ℕ) (es : List EndpointRecord) (c d : ChangeRecord) → AreRising low es high → IsLabelOf es c → IsLabelOf es d →
    c.key ≡ d.key → c.version ≡ d.version → c ≡ d
one_label low high es c d rise (inl (l, e, i, p)) (inl (m, f, j, q)) k v =
    let name : l ≡ m = sym (ap (λ (z : ChangeRecord). z.key.name) p) ∙ ap (λ (z : Key). z.name) k ∙
    ap (λ (z : ChangeRecord). z.key.name) q in
    let epoch : e.generation ≡ f.generation =
    sym (ap (λ (z : ChangeRecord). z.version.epoch) p) ∙ ap (λ (z : Version). z.epoch) v ∙ ap (λ (z : ChangeRecord). z.version.epoch) q in
    let same : e ≡ f = one_start low high es e f rise i j epoch in
    p ∙ ap (λ (n : List ℕ). label_put n e) name ∙ ap (λ (z : EndpointRecord). label_put m z) same ∙ sym q
one_label low high es c d rise (inl (l, e, i, p)) (inr (m, g, q)) k v =
    absurd (two_numbers c.version.seq (ap (λ (z : ChangeRecord). z.version.seq) p)
    (ap (λ (z : Version). z.seq) v ∙ ap (λ (z : ChangeRecord). z.version.seq) q))
one_label low high es c d rise (inr (l, g, p)) (inl (m, f, j, q)) k v =
    absurd (two_numbers c.version.seq (ap (λ (z : Version). z.seq) v ∙ ap (λ (z : ChangeRecord). z.version.seq) q)
    (ap (λ (z : ChangeRecord). z.version.seq) p))
one_label low high es c d rise (inr (l, g, p)) (inr (m, h, q)) k v =
    let name : l ≡ m = sym (ap (λ (z : ChangeRecord). z.key.name) p) ∙ ap (λ (z : Key). z.name) k ∙
    ap (λ (z : ChangeRecord). z.key.name) q in
    let epoch : g ≡ h = sym (ap (λ (z : ChangeRecord). z.version.epoch) p) ∙ ap (λ (z : Version). z.epoch) v ∙
    ap (λ (z : ChangeRecord). z.version.epoch) q in
    p ∙ ap (λ (n : List ℕ). label_gone n g) name ∙ ap (λ (n : ℕ). label_gone m n) epoch ∙ sym q

-- rising starts have single-numbered labels
single_numbered : (low high : ℕ) (steps : List (List Action)) → AreRising low (flat_map starts steps) high
    → ((c : ChangeRecord) → In c (flat_map offers steps) → IsLabelOf (flat_map starts steps) c) → IsSingleNumbered (flat_map offers steps)
single_numbered low high steps rise label = record {
  one_change = λ c d i j k v. one_label low high (flat_map starts steps) c d rise (of c i) (of d j) k v;
  one_owner = λ c d i j k. owner_of_label (flat_map starts steps) c (of c i) ∙ sym (owner_of_label (flat_map starts steps) d (of d j));
}
  where
    of : (c : ChangeRecord) → Contains (flat_map offers steps) c → IsLabelOf (flat_map starts steps) c
    of c i = label c (In-from_Contains c (flat_map offers steps) i)

pub labels_single_numbered : LabelsAreSingleNumbered
labels_single_numbered s t steps run = single_numbered s.next t.next steps (starts_rise s t steps run) (λ c i. run_labels s t steps c run i)

-- ---- renewals

-- a renewal starts none, and keeps the next generation
renewal_rises : (s t : RsRecord) (actions : List Action) → IsRenewal s actions t → AreRising s.next (starts actions) t.next
renewal_rises s t actions (settings, free, none, after) =
    let n : t.next ≡ s.next = ap (λ (r : RsRecord). r.next) after in
    subst (λ (z : List Action). AreRising s.next (starts z) t.next) (sym none) (omega (arith, n))

pub lives_rise : StartsRiseThroughRenewals
lives_rise s t [] run = let n : s.next ≡ t.next = ap (λ (r : RsRecord). r.next) run in omega arith
lives_rise s t (actions ∷ rest) (m, inl (event, tick, step), run) =
    rises_on s.next m.next t.next (starts actions) (flat_map starts rest) (follow_rises s tick step.0 actions m step.3)
    (lives_rise m t rest run)
lives_rise s t (actions ∷ rest) (m, inr renewal, run) =
    rises_on s.next m.next t.next (starts actions) (flat_map starts rest) (renewal_rises s m actions renewal) (lives_rise m t rest run)

life_labels : (s t : RsRecord) (steps : List (List Action)) (c : ChangeRecord) → RsLife s steps t → In c (flat_map offers steps) →
    IsLabelOf (flat_map starts steps) c
life_labels s t [] c run i = absurd i
life_labels s t (actions ∷ rest) c (m, inl (event, tick, step), run) i = elim (In-cases c (offers actions) (flat_map offers rest) i) [
  | inl here ↦ label_left (starts actions) (flat_map starts rest) c (follow_labels s tick step.0 actions m c step.3 here)
  | inr later ↦ label_right (starts actions) (flat_map starts rest) c (life_labels m t rest c run later)
]
life_labels s t (actions ∷ rest) c (m, inr (settings, free, none, after), run) i =
    elim (In-cases c (offers actions) (flat_map offers rest) i) [
      | inl here ↦ absurd (subst (λ (z : List Action). In c (offers z)) none here)
      | inr later ↦ label_right (starts actions) (flat_map starts rest) c (life_labels m t rest c run later)
    ]

pub labels_stay_single_numbered : LabelsStaySingleNumbered
labels_stay_single_numbered s t steps life =
    single_numbered s.next t.next steps (lives_rise s t steps life) (λ c i. life_labels s t steps c life i)

-- ---- numbers

pub numbers_rise : NumbersRise
numbers_rise old new [] h = tt
numbers_rise old new (v ∷ vs) (between, g, rest) =
    let epoch : v.epoch ≡ old.generation = ap (λ (z : Version). z.epoch) g.value in
    let seq : v.seq ≡ old.next = ap (λ (z : Version). z.seq) g.value in
    let left : old.next ≤ 4294967294 = g.left in
    let later : AreNumbered between.generation between.next vs = numbers_rise between new vs rest in
    let after : AreNumbered old.generation (old.next + 1) vs =
    subst (λ (z : NumbererRecord). AreNumbered z.generation z.next vs) g.after later in
    (epoch, omega arith, omega arith, subst (λ (n : ℕ). AreNumbered old.generation (n + 1) vs) (sym seq) after)
