-- RS and the processes of its services agree after any moves.
use Rattle.std.proofs.Common.{◌≡◌, ◌⊎◌, ◌+◌, ◌<◌, nat_lt, ℕ, Bool, true, false, not, is_some, cond, List, [], ◌∷◌, length, Option, Some}
use Rattle.std.proofs.Common.{None, refl, sym, ap, ◌∙◌, subst, inl, inr, arith, option_map}
use Rattle.std.specs.List.{list_any, slice_get}
use Rattle.std.proofs.Math.ListN.{set, length-set}
use Rattle.std.proofs.lemmas.Bool.{and_cases, cases_eq, eq-eqb, le-ltb, lt-ltb, not-false, or_parts, true≢false, false≢true}
use Rattle.std.proofs.lemmas.List.Elements.{All-get_or}
use Rattle.std.proofs.lemmas.Option.{same_Some, none-some, slice_get_within, get_or_from_slice_get}
use Rattle.ds_names.specs.Endpoint.{EndpointRecord}
use Rattle.history.specs.History.{Path}
use Rattle.process_rule.specs.Supervisor.{ServiceState, new_service}
use Rattle.process_rule.proofs.LawLemmas.{kept, one_instance_at_a_time}
use Rattle.process_keeper.specs.Following.{pending_or_up, up_generation, wanted}
use Rattle.process_keeper.specs.Inputs.{after_input, is_running}
use Rattle.process_keeper.specs.Order.{TakesAt, next_given}
use Rattle.process_keeper.specs.Sight.{instance_state, service, some_instance}
use Rattle.process_keeper.specs.declared.input.Input.{Input}
use Rattle.process_keeper.specs.declared.input.Input.TheVariants.{Reaped, Reported}
use Rattle.process_keeper.specs.declared.instance.Instance.{Instance}
use Rattle.process_keeper.specs.declared.lifecycle.Lifecycle.{Lifecycle}
use Rattle.process_keeper.specs.declared.keeper.Keeper.{Keeper}
use Rattle.process_keeper.proofs.FollowLemmas.{following_is_inputs}
use Rattle.rs_core.specs.declared.action.Action.{Action}
use Rattle.rs_core.specs.declared.event.Event.{Event}
use Rattle.rs_core.specs.declared.event.Event.TheVariants.{Beat, Death}
use Rattle.rs_core.specs.Step.{RsStep}
use Rattle.rs_core.specs.Late.{in_force, AreSingle}
use Rattle.rs_core.specs.Renewal.{renewed}
use Rattle.rs_settings.specs.Settings.{SettingsRecord}
use Rattle.rs_core.specs.Planning.{starts_instance}
use Rattle.rs_core.specs.Says.{StepSays}
use Rattle.rs_core.specs.State.{RsRecord, state_at}
use Rattle.rs_core.proofs.LateLemmas.{beats_are_noted, counted_within, dead_are_uncounted, next_is, other_plans_keep_next, step_single}
use Rattle.rs_core.proofs.SaysLemmas.{steps_say}
use Rattle.supervisor.specs.Following.{LabelsFollow, is_note}
use Rattle.supervisor.specs.Telling.{Told, next_after_start}
use Rattle.supervisor.specs.Moves.{Move, IsMove, IsNewSupervisor, IsReachableSupervisor, lifecycles, reaps}
use Rattle.supervisor.specs.Moves.Move.{Tell, Report, Vouch, Renew, Note, Write}
use Rattle.supervisor.specs.Laws.{DeathsAreFinal, LeadersStay, OneIsCounted, SupervisorsAgree, VouchedAreHeard}
use Rattle.supervisor.specs.declared.supervisor.Supervisor.{Supervisor}
use Rattle.supervisor.proofs.FollowLemmas.{IsAlone, followed_alone, followed_keeps, is_within, set_cases, set_here, set_there}
use Rattle.supervisor.specs.Renewal.{IsRenewed, renewed_labels}
use Rattle.supervisor.proofs.RenewalLemmas.{renewed_alone, renewed_count, renewed_single, renewed_wants}
use Rattle.supervisor.proofs.NoteLemmas.{input_keeps, note_alone, note_wants, report_alone}

-- ---- the invariant
pub record Stands (rs : RsRecord) (next : ℕ) (labels : List Lifecycle) : Type 0 where
  pub count : length labels ≡ length rs.states
  pub generations : next ≡ rs.next
  pub single : AreSingle rs
  pub wants : (k : ℕ) (p : Lifecycle) → slice_get labels k ≡ Some p → wanted p ≡ in_force (state_at rs k)
  pub alone : (k : ℕ) (p : Lifecycle) → slice_get labels k ≡ Some p → IsAlone p

abbrev StandsFor : Supervisor → Type 0
StandsFor s = Stands s.rs s.keeper.next (lifecycles s)

idle_wants : (o : Option ℕ) (i : Option Instance) → o ≡ None → some_instance i ≡ None → pending_or_up o i ≡ None
idle_wants None None e f = refl
idle_wants None (Some b) e f = absurd (none-some (instance_state b) (sym f))
idle_wants (Some g) i e f = absurd (none-some g (sym e))

idle_alone : (o : Option ℕ) (i : Option Instance) → o ≡ None → is_some o ≡ true → is_running i ≡ false
idle_alone None i e f = absurd (false≢true f)
idle_alone (Some g) i e f = absurd (none-some g (sym e))

new_stands : (s : Supervisor) → IsNewSupervisor s → StandsFor s
new_stands s h =
    record {
      count = h.count;
      generations = h.generations;
      single =
          record
          { below = λ k g c. absurd (none-some g (sym (h.down k) ∙ c)); single = λ j k g c d. absurd (none-some g (sym (h.down j) ∙ c)) };
      wants = λ k p at. idle_wants p.pending p.instance (pending_of k p at) (instance_of k p at) ∙ sym (h.down k);
      alone = λ k p at. idle_alone p.pending p.instance (pending_of k p at);
    }
  where
    idle : (k : ℕ) (p : Lifecycle) → slice_get (lifecycles s) k ≡ Some p → service p ≡ new_service
    idle k p at =
        subst (λ (x : Lifecycle). service x ≡ new_service) (get_or_from_slice_get (lifecycles s) k p p at)
        (All-get_or (λ x. service x ≡ new_service) (lifecycles s) k p (slice_get_within (lifecycles s) k p at) h.idle)

    pending_of : (k : ℕ) (p : Lifecycle) → slice_get (lifecycles s) k ≡ Some p → p.pending ≡ None
    pending_of k p at = ap (λ (x : ServiceState). x.pending) (idle k p at)

    instance_of : (k : ℕ) (p : Lifecycle) → slice_get (lifecycles s) k ≡ Some p → some_instance p.instance ≡ None
    instance_of k p at = ap (λ (x : ServiceState). x.instance) (idle k p at)

-- ---- what RS is told
told_next : (rs after : RsRecord) (next file given tick : ℕ) (event : Event) (actions : List Action) →
    Told rs next file event tick actions after given →
    next ≡ rs.next → given ≡ after.next
told_next rs after next file given tick event actions h same = h.counts ∙ by (next_is rs.next after.next says.begun says.next)
  where
    says : StepSays rs actions after
    says = steps_say rs after event tick actions h.step

    starts : after.next ≡ rs.next + 1 → starts_instance h.planned ≡ true
    starts more = by_test (starts_instance h.planned) refl
      where
        no_more : after.next ≡ rs.next → ⊥
        no_more e = omega (arith, e, more)

        by_test : (b : Bool) → starts_instance h.planned ≡ b → starts_instance h.planned ≡ true
        by_test true e = e
        by_test false e = absurd (no_more (other_plans_keep_next rs after event tick actions h.planned h.step h.of_event e))

    ahead : after.next ≡ rs.next + 1 → nat_lt next file ≡ true
    ahead more = by_part (and_cases (starts_instance h.planned) (not (nat_lt next file)) h.written)
      where
        by_part : (starts_instance h.planned ≡ false) ⊎ (not (nat_lt next file) ≡ false) → nat_lt next file ≡ true
        by_part (inl e) = absurd (true≢false (sym (starts more) ∙ e))
        by_part (inr e) = not-false (nat_lt next file) e

    by : (after.next ≡ rs.next) ⊎ (after.next ≡ rs.next + 1) → next_after_start rs.next after.next next file ≡ after.next
    by (inl e) =
        ap (λ (b : Bool). cond b (next_given next file) next) (le-ltb rs.next after.next (omega (arith, e))) ∙ same ∙ sym e
    by (inr e) =
        ap (λ (b : Bool). cond b (next_given next file) next) (lt-ltb rs.next after.next (omega (arith, e))) ∙
        ap (λ (b : Bool). cond b (next + 1) next) (ahead e) ∙
        ap (λ (n : ℕ). n + 1) same ∙ sym e

follow_stands : (rs after : RsRecord) (next file given tick deadline : ℕ) (event : Event) (actions : List Action)
    (old mid new : List Lifecycle) →
    Told rs next file event tick actions after given → LabelsFollow after deadline mid new → Stands rs next old → length mid ≡ length old →
    ((k : ℕ) (p : Lifecycle) → slice_get mid k ≡ Some p → IsAlone p) → Stands after given new
follow_stands rs after next file given tick deadline event actions old mid new told f h many alone =
    record {
      count = f.count ∙ many ∙ h.count ∙ sym says.count;
      generations = told_next rs after next file given tick event actions told h.generations;
      single = step_single rs after actions says h.single;
      wants = λ k q at. let e = f.each k q at in
          ap (λ (x : Lifecycle). wanted x) e.2 ∙ (following_is_inputs e.0 (in_force (state_at after k)) deadline).wants;
      alone = λ k q at. let e = f.each k q at in
          subst IsAlone (sym e.2) (followed_alone e.0 (in_force (state_at after k)) deadline (alone k e.0 e.1));
    }
  where
    says : StepSays rs actions after
    says = steps_say rs after event tick actions told.step

-- ---- the moves
report_alone_at : (labels mid : List Lifecycle) (k now : ℕ) → TakesAt labels k (Reported now) true mid →
    ((j : ℕ) (p : Lifecycle) → slice_get labels j ≡ Some p → IsAlone p) → (j : ℕ) (q : Lifecycle) → slice_get mid j ≡ Some q → IsAlone q
report_alone_at labels mid k now (p, at, a, m) h j q e =
    by_place (set_cases labels k j (after_input p (Reported now)) q (sym (ap (λ (xs : List Lifecycle). slice_get xs j) m) ∙ e))
  where
    by_place : ((j ≡ k) × (q ≡ after_input p (Reported now))) ⊎ ((j ≡ k → ⊥) × (slice_get labels j ≡ Some q)) → IsAlone q
    by_place (inl x) = subst IsAlone (sym x.1) (report_alone p now)
    by_place (inr x) = h j q x.1

note_stands : (rs : RsRecord) (next k : ℕ) (input : Input) (labels new : List Lifecycle) → is_note input ≡ true →
    TakesAt labels k input true new →
    Stands rs next labels → Stands rs next new
note_stands rs next k input labels new n (p, at, a, m) h =
    record {
      count = ap length m ∙ length-set labels k (after_input p input) ∙ h.count;
      generations = h.generations;
      single = h.single;
      wants = λ j q e. wants_at j q (cases j q e);
      alone = λ j q e. alone_at j q (cases j q e);
    }
  where
    wants_at : (j : ℕ) (q : Lifecycle) → ((j ≡ k) × (q ≡ after_input p input)) ⊎ ((j ≡ k → ⊥) × (slice_get labels j ≡ Some q)) →
        wanted q ≡ in_force (state_at rs j)
    wants_at j q (inl x) = ap (λ (y : Lifecycle). wanted y) x.1 ∙ note_wants p input n a ∙ h.wants k p at ∙
        ap (λ (y : ℕ). in_force (state_at rs y)) (sym x.0)
    wants_at j q (inr x) = h.wants j q x.1

    alone_at : (j : ℕ) (q : Lifecycle) → ((j ≡ k) × (q ≡ after_input p input)) ⊎ ((j ≡ k → ⊥) × (slice_get labels j ≡ Some q)) → IsAlone q
    alone_at j q (inl x) = subst IsAlone (sym x.1) (note_alone p input n (h.alone k p at))
    alone_at j q (inr x) = h.alone j q x.1

    cases : (j : ℕ) (q : Lifecycle) → slice_get new j ≡ Some q →
        ((j ≡ k) × (q ≡ after_input p input)) ⊎ ((j ≡ k → ⊥) × (slice_get labels j ≡ Some q))
    cases j q e = set_cases labels k j (after_input p input) q (sym (ap (λ (xs : List Lifecycle). slice_get xs j) m) ∙ e)

same_stands : (rs after : RsRecord) (next given : ℕ) (labels : List Lifecycle) → after ≡ rs → given ≡ next → Stands rs next labels →
    Stands after given labels
same_stands rs after next given labels e f h =
    subst (λ (z : RsRecord). Stands z given labels) (sym e) (subst (λ (n : ℕ). Stands rs n labels) (sym f) h)

renew_stands : (rs after : RsRecord) (next given : ℕ) (settings : SettingsRecord) (labels new : List Lifecycle) →
    IsRenewed rs labels settings after new → given ≡ next → Stands rs next labels → Stands after given new
renew_stands rs after next given settings labels new r e h =
    same_stands (renewed rs settings) after next given new r.takes e (subst (Stands (renewed rs settings) next) (sym r.follows) stands)
  where
    stands : Stands (renewed rs settings) next (renewed_labels rs labels settings.services)
    stands = record {
      count = renewed_count rs labels settings.services;
      generations = h.generations;
      single = renewed_single rs settings r.checked h.single;
      wants = renewed_wants rs labels settings.services h.count h.wants;
      alone = renewed_alone rs labels settings.services h.alone;
    }

move_stands : (s t : Supervisor) (m : Move) → IsMove s m t → StandsFor s → StandsFor t
move_stands s t (Tell event tick deadline) ((actions, told), f) h =
    follow_stands s.rs t.rs s.keeper.next s.keeper.file t.keeper.next tick deadline event actions (lifecycles s) (lifecycles s)
    (lifecycles t) told f h refl h.alone
move_stands s t (Report k cause tick now) ((actions, (e, up, told)), (mid, (o, at, a, m), f)) h =
    follow_stands s.rs t.rs s.keeper.next s.keeper.file t.keeper.next tick now (Death e cause) actions (lifecycles s) mid (lifecycles t)
    told f h
    (ap length m ∙ length-set (lifecycles s) k (after_input o (Reported now)))
    (report_alone_at (lifecycles s) mid k now (o, at, a, m) h.alone)
move_stands s t (Vouch k tick) ((pending, (e, up, (actions, step))), same) h =
    let n = beats_are_noted s.rs t.rs k tick actions e h.single up step in
    let says : StepSays s.rs actions t.rs = steps_say s.rs t.rs (Beat e) tick actions step in
    let stands : Stands t.rs s.keeper.next (lifecycles s) =
    record {
      count = h.count ∙ sym says.count;
      generations = h.generations ∙ sym n.next;
      single = step_single s.rs t.rs actions says h.single;
      wants = λ j p at. h.wants j p at ∙ ap (λ (o : Option EndpointRecord). option_map (λ (e : EndpointRecord). e.generation) o)
          (sym (n.same j));
      alone = h.alone;
    } in
    subst (λ (x : Keeper). Stands t.rs x.next x.labels.items) (sym same) stands
move_stands s t (Renew settings) (r, e) h =
    renew_stands s.rs t.rs s.keeper.next t.keeper.next settings (lifecycles s) (lifecycles t) r e h
move_stands s t (Note k input) (n, takes, e, f) h =
    same_stands s.rs t.rs s.keeper.next t.keeper.next (lifecycles t) e f
    (note_stands s.rs s.keeper.next k input (lifecycles s) (lifecycles t) n takes h)
move_stands s t (Write file) (l, e, f) h =
    same_stands s.rs t.rs s.keeper.next t.keeper.next (lifecycles t) e f (subst (Stands s.rs s.keeper.next) (sym l) h)

all_stand : (s t : Supervisor) (moves : List Move) → Path IsMove s moves t → StandsFor s → StandsFor t
all_stand s t [] path h = subst StandsFor path h
all_stand s t (m ∷ moves) (u, l, path) h = all_stand u t moves path (move_stands s u m l h)

pub reached_stands : (s : Supervisor) → IsReachableSupervisor s → StandsFor s
reached_stands s r = all_stand r.first s r.moves r.led (new_stands r.first r.new)

-- ---- agreement
runs_wanted : (o : Option ℕ) (x : Option Instance) (i : Instance) → x ≡ Some i → i.deadline ≡ None →
    (is_some o ≡ true → is_running x ≡ false) →
    pending_or_up o x ≡ Some i.generation
runs_wanted None x i e d a = ap up_generation e ∙ ap (λ (t : Option ℕ). cond (is_some t) None (Some i.generation)) d
runs_wanted (Some g) x i e d a =
    absurd (false≢true (sym (a refl) ∙ ap is_running e ∙ ap (λ (t : Option ℕ). not (is_some t)) d))

pub supervisors_agree : SupervisorsAgree
supervisors_agree s r =
    record {
      forks = λ k g now p at may. sym (h.wants k p at) ∙ ap (λ (o : Option ℕ). pending_or_up o p.instance) may.0;
      runs = λ k p i at is up. sym (h.wants k p at) ∙ runs_wanted p.pending p.instance i is up (h.alone k p at);
      serves = λ k g c. let x = is_within (lifecycles s) k (subst (λ (n : ℕ). k < n) (sym h.count) (counted_within s.rs.states k g c)) in
          (x.0, x.1, h.wants k x.0 x.1 ∙ c);
      written = λ k g c. let b = h.single.below k g c in omega (arith, b, h.generations, s.keeper.given_is_written);
      single = h.single.single;
    }
  where
    h : StandsFor s
    h = reached_stands s r

pub one_is_counted : OneIsCounted
one_is_counted s h k n p i reached path at true_of is up q r there found label =
    let runs : (h.services n).instance ≡ Some (instance_state i) =
    ap (λ (x : ServiceState). x.instance) true_of.same ∙ ap some_instance is in
    let l = ((kept h path).services n).leader (instance_state i) runs in
    let g : r.generation ≡ l.it.generation = one_instance_at_a_time h path q (instance_state i).leader r l.it there l.there found l.sees
    (label ∙ sym l.label) in
    (supervisors_agree s reached).runs k p i at is up ∙ ap (λ (x : ℕ). Some x) (sym (g ∙ l.generation))

pub deaths_are_final : DeathsAreFinal
deaths_are_final s t k cause tick now endpoint reached up ((actions, (e, is, told)), follows) =
    dead_are_uncounted s.rs t.rs k cause tick actions endpoint (reached_stands s reached).single up
    (subst (λ (x : EndpointRecord). RsStep s.rs (Death x cause) tick actions t.rs) (same_Some e endpoint (sym is ∙ up)) told.step)

pub vouched_are_heard : VouchedAreHeard
vouched_are_heard s t k tick reached ((pending, (e, up, (actions, step))), same) =
    let n = beats_are_noted s.rs t.rs k tick actions e (reached_stands s reached).single up step in
    (n.heard.0, n.heard.1, n.heard.3)

-- ---- leaders
-- Whether the label has an instance with this one's leader and generation.
abbrev pub Keeps : List Lifecycle → ℕ → Instance → Type 0
Keeps labels k i =
    (q : Lifecycle) × (j : Instance) × (slice_get labels k ≡ Some q) × (q.instance ≡ Some j) × (j.leader ≡ i.leader) ×
    (j.generation ≡ i.generation)

take_keeps : (labels new : List Lifecycle) (j k : ℕ) (input : Input) (p : Lifecycle) (i : Instance) → TakesAt labels j input true new →
    (input ≡ Reaped → k ≡ j → ⊥) → slice_get labels k ≡ Some p → p.instance ≡ Some i → Keeps new k i
take_keeps labels new j k input p i (o, at, a, m) n here is = by_place (cases_eq k j)
  where
    taken : k ≡ j → Keeps new k i
    taken same =
        let one : o ≡ p = same_Some o p (sym at ∙ ap (λ (x : ℕ). slice_get labels x) (sym same) ∙ here) in
        let x = input_keeps o input a (λ e. n e same) i (ap (λ (y : Lifecycle). y.instance) one ∙ is) in (
          after_input o input,
          x.0,
          ap (λ (xs : List Lifecycle). slice_get xs k) m ∙
              subst (λ (y : ℕ). slice_get (set labels j (after_input o input)) y ≡ Some (after_input o input)) (sym same)
              (set_here labels j o (after_input o input) at),
          x.1,
          x.2,
          x.3,
        )

    by_place : (k ≡ j) ⊎ (k ≡ j → ⊥) → Keeps new k i
    by_place (inl same) = taken same
    by_place (inr other) =
        (p, i, ap (λ (xs : List Lifecycle). slice_get xs k) m ∙ set_there labels j k (after_input o input) other ∙ here, is, refl, refl)

follow_keeps : (rs : RsRecord) (deadline : ℕ) (old new : List Lifecycle) (k : ℕ) (i : Instance) → LabelsFollow rs deadline old new →
    Keeps old k i →
    Keeps new k i
follow_keeps rs deadline old new k i f (p, j, at, is, l, g) =
    let x = is_within new k (subst (λ (n : ℕ). k < n) (sym f.count) (slice_get_within old k p at)) in
    let e = f.each k x.0 x.1 in
    let one : p ≡ e.0 = same_Some p e.0 (sym at ∙ e.1) in
    let y = followed_keeps e.0 (in_force (state_at rs k)) deadline j (ap (λ (z : Lifecycle). z.instance) (sym one) ∙ is) in
    (x.0, y.0, x.1, ap (λ (z : Lifecycle). z.instance) e.2 ∙ y.1, y.2 ∙ l, y.3 ∙ g)

not_reaped : (k j : ℕ) (input : Input) → reaps k (Note j input) ≡ false → input ≡ Reaped → k ≡ j → ⊥
not_reaped k j input n e same =
    true≢false (sym (eq-eqb j k (sym same)) ∙ subst (λ (x : Input). reaps k (Note j x) ≡ false) e n)

not_reported : (now : ℕ) → Reported now ≡ Reaped → ⊥
not_reported now e = cc

pub move_keeps : (s t : Supervisor) (m : Move) (k : ℕ) (i : Instance) → IsMove s m t → reaps k m ≡ false → Keeps (lifecycles s) k i →
    Keeps (lifecycles t) k i
move_keeps s t (Tell event tick deadline) k i (told, f) n h = follow_keeps t.rs deadline (lifecycles s) (lifecycles t) k i f h
move_keeps s t (Report j cause tick now) k i (told, (mid, takes, f)) n (p, b, at, is, l, g) =
    follow_keeps t.rs now mid (lifecycles t) k i f
    (again (take_keeps (lifecycles s) mid j k (Reported now) p b takes (λ e. absurd (not_reported now e)) at is))
  where
    again : Keeps mid k b → Keeps mid k i
    again (q, c, x, y, z, w) = (q, c, x, y, z ∙ l, w ∙ g)
move_keeps s t (Vouch j tick) k i (told, same) n h = subst (λ (x : Keeper). Keeps x.labels.items k i) (sym same) h
move_keeps s t (Renew settings) k i moved n h = absurd (true≢false n)
move_keeps s t (Note j input) k i (note, takes, e, f) n (p, b, at, is, l, g) =
    again (take_keeps (lifecycles s) (lifecycles t) j k input p b takes (not_reaped k j input n) at is)
  where
    again : Keeps (lifecycles t) k b → Keeps (lifecycles t) k i
    again (q, c, x, y, z, w) = (q, c, x, y, z ∙ l, w ∙ g)
move_keeps s t (Write file) k i (same, e, f) n h = subst (λ (xs : List Lifecycle). Keeps xs k i) (sym same) h

all_keep : (s t : Supervisor) (moves : List Move) (k : ℕ) (i : Instance) → Path IsMove s moves t → list_any (reaps k) moves ≡ false →
    Keeps (lifecycles s) k i → Keeps (lifecycles t) k i
all_keep s t [] k i path n h = subst (λ (x : Supervisor). Keeps (lifecycles x) k i) path h
all_keep s t (m ∷ moves) k i (u, l, path) n h =
    let parts = or_parts (reaps k m) (list_any (reaps k) moves) n in
    all_keep u t moves k i path parts.1 (move_keeps s u m k i l parts.0 h)

pub leaders_stay : LeadersStay
leaders_stay s t moves k p i path n at is = all_keep s t moves k i path n (p, i, at, is, refl, refl)
