-- What the table of inputs makes of an instance, and how long what was seen of it is true.
use Rattle.std.proofs.Common.{◌≡◌, ◌⊎◌, ℕ, true, false, not, is_some, Option, Some, None, refl, sym, ap, ◌∙◌, subst, inl, inr, ◌≤◌}
use Rattle.std.proofs.lemmas.Bool.{leb-true, false≢true}
use Rattle.std.proofs.lemmas.Option.{same_Some, none-some}
use Rattle.process_rule.specs.Kernel.{Process}
use Rattle.process_rule.specs.Supervisor.{InstanceState, ServiceState, Host}
use Rattle.process_rule.specs.Events.{Event, after_event, May, IsReachable, stopping}
use Rattle.process_rule.specs.Progress.{OnlyLeader}
use Rattle.process_rule.proofs.LawLemmas.{signals_are_aimed}
use Rattle.process_rule.proofs.ProgressLemmas.{dead_stays, empty_stays}
use Rattle.process_keeper.specs.Inputs.{is_running, is_stopping, is_due_by, is_by, with_deadline, with_leader}
use Rattle.process_keeper.specs.Sight.{service, instance_state, some_instance, IsTrueOf}
use Rattle.process_keeper.specs.Happening.{TruthStays}
use Rattle.process_keeper.specs.declared.instance.Instance.{Instance}
use Rattle.process_keeper.specs.declared.lifecycle.Lifecycle.{Lifecycle}

-- ---- tests of options
pub no_test : (o : Option ℕ) → not (is_some o) ≡ true → o ≡ None
no_test None e = refl
no_test (Some t) e = absurd (false≢true e)

pub some_test : (o : Option ℕ) → is_some o ≡ true → (t : ℕ) × (o ≡ Some t)
some_test None e = absurd (false≢true e)
some_test (Some t) e = (t, refl)

by_test : (at : ℕ) (o : Option ℕ) → is_by at o ≡ true → (t : ℕ) × (o ≡ Some t) × (at ≤ t)
by_test at None e = absurd (false≢true e)
by_test at (Some t) e = (t, refl, leb-true at t e)

pub up_instance : (o : Option Instance) → is_running o ≡ true → (i : InstanceState) × (some_instance o ≡ Some i) × (i.deadline ≡ None)
up_instance None e = absurd (false≢true e)
up_instance (Some b) e = (instance_state b, refl, no_test b.deadline e)

pub not_up_instance : (o : Option Instance) → not (is_running o) ≡ true → (i : InstanceState) → some_instance o ≡ Some i →
    i.deadline ≡ None → ⊥
not_up_instance None e i u d = none-some i u
not_up_instance (Some b) e i u d = by_deadline b.deadline e (ap (λ (y : InstanceState). y.deadline) (same_Some (instance_state b) i u) ∙ d)
  where
    by_deadline : (o : Option ℕ) → not (not (is_some o)) ≡ true → o ≡ None → ⊥
    by_deadline None e d = absurd (false≢true e)
    by_deadline (Some t) e d = none-some t (sym d)

pub stopping_instance : (o : Option Instance) → is_stopping o ≡ true →
    (i : InstanceState) × (some_instance o ≡ Some i) × ((t : ℕ) × (i.deadline ≡ Some t))
stopping_instance None e = absurd (false≢true e)
stopping_instance (Some b) e = (instance_state b, refl, some_test b.deadline e)

pub due_instance : (at : ℕ) (o : Option Instance) → is_due_by at o ≡ true →
    (i : InstanceState) × (some_instance o ≡ Some i) × ((t : ℕ) × (i.deadline ≡ Some t) × (at ≤ t))
due_instance at None e = absurd (false≢true e)
due_instance at (Some b) e = (instance_state b, refl, by_test at b.deadline e)

pub no_instance_test : (o : Option Instance) → not (is_some o) ≡ true → some_instance o ≡ None
no_instance_test None e = refl
no_instance_test (Some b) e = absurd (false≢true e)

-- ---- other deadlines, and a leader
pub stopped_is : (o : Option Instance) (i : InstanceState) (at : ℕ) → some_instance o ≡ Some i →
    some_instance (with_deadline o at) ≡ Some (stopping i at)
stopped_is None i at e = absurd (none-some i e)
stopped_is (Some b) i at e = ap (λ (y : InstanceState). Some (stopping y at)) (same_Some (instance_state b) i e)

pub stopped_leader : (o : Option Instance) (at : ℕ) (i : InstanceState) → some_instance (with_deadline o at) ≡ Some i →
    (j : InstanceState) × (some_instance o ≡ Some j) × (j.leader ≡ i.leader)
stopped_leader None at i e = absurd (none-some i e)
stopped_leader (Some b) at i e =
    (instance_state b, refl, ap (λ (y : InstanceState). y.leader) (same_Some (stopping (instance_state b) at) i e))

pub begun_is : (o : Option ℕ) (g n : ℕ) → o ≡ Some g →
    some_instance (with_leader o n) ≡ Some (record { generation = g; leader = n; deadline = None })
begun_is o g n e = ap (λ (y : Option ℕ). some_instance (with_leader y n)) e

-- ---- truth
pub truth_stays : TruthStays
truth_stays h e k p path m t same =
    record {
      same = same ∙ t.same;
      exited = λ d i u s f.
          (let r = (signals_are_aimed h path k i (ap (λ (y : ServiceState). y.instance) t.same ∙ u)).leader in
          dead_stays h e i.leader r.0 r.1 (t.exited d i u r.0 r.1) m s f);
      empty = λ d z i u.
          (let runs = ap (λ (y : ServiceState). y.instance) t.same ∙ u in
          let r = (signals_are_aimed h path k i runs).leader in
          empty_stays h e k i r.0 runs r.1 (t.exited d i u r.0 r.1) (t.empty d z i u) m);
    }

-- Whether the label saw of its processes what it had seen, or nothing.
abbrev pub SeesSame : Lifecycle → Lifecycle → Type 0
SeesSame p q =
    (q.has_exited ≡ false) ⊎
    ((q.has_exited ≡ p.has_exited) × (q.is_empty ≡ p.is_empty) ×
    ((i : InstanceState) → (service q).instance ≡ Some i → (j : InstanceState) × ((service p).instance ≡ Some j) × (j.leader ≡ i.leader)))

pub own_truth : (h : Host) (e : Event) (k : ℕ) (p q : Lifecycle) → IsReachable h → May h e → IsTrueOf h k p →
    (after_event h e).services k ≡ service q →
    SeesSame p q → IsTrueOf (after_event h e) k q
own_truth h e k p q path m t same c =
    record {
      same = same;
      exited = λ d i u s f. exited_by c d i u s f;
      empty = λ d z i u. empty_by c d z i u;
    }
  where
    exited_by : SeesSame p q → q.has_exited ≡ true → (i : InstanceState) → (service q).instance ≡ Some i → (s : Process) →
        (after_event h e).processes i.leader ≡ Some s → s.alive ≡ false
    exited_by (inl a) d i u s f = absurd (false≢true (sym a ∙ d))
    exited_by (inr a) d i u s f =
        let j = a.2 i u in
        let r = (signals_are_aimed h path k j.0 (ap (λ (y : ServiceState). y.instance) t.same ∙ j.1)).leader in
        dead_stays h e j.0.leader r.0 r.1 (t.exited (sym a.0 ∙ d) j.0 j.1 r.0 r.1) m s
        (ap (λ (y : ℕ). (after_event h e).processes y) j.2 ∙ f)

    empty_by : SeesSame p q → q.has_exited ≡ true → q.is_empty ≡ true → (i : InstanceState) → (service q).instance ≡ Some i →
        OnlyLeader (after_event h e) k i.leader
    empty_by (inl a) d z i u = absurd (false≢true (sym a ∙ d))
    empty_by (inr a) d z i u =
        let j = a.2 i u in
        let runs = ap (λ (y : ServiceState). y.instance) t.same ∙ j.1 in
        let r = (signals_are_aimed h path k j.0 runs).leader in
        subst (λ (y : ℕ). OnlyLeader (after_event h e) k y) j.2
        (empty_stays h e k j.0 r.0 runs r.1 (t.exited (sym a.0 ∙ d) j.0 j.1 r.0 r.1) (t.empty (sym a.0 ∙ d) (sym a.1 ∙ z) j.0 j.1) m)
