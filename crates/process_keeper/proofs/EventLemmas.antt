-- Inputs and tasks are events of the rule.
use Rattle.std.proofs.Common.{◌≡◌, ◌+◌, ◌<◌, ◌≤◌, ◌&&◌, ℕ, true, false, not, is_some, Option, Some, None, refl, sym, ap, ◌∙◌, subst, inl}
use Rattle.std.proofs.Common.{inr}
use Rattle.std.proofs.lemmas.Bool.{and_parts}
use Rattle.process_rule.specs.Supervisor.{InstanceState, ServiceState, Host, replaced}
use Rattle.process_rule.specs.Events.{Event, after_event, May, IsReachable, stopping}
use Rattle.process_rule.specs.Events.Event.{Start, Cancel, Stop, Shorten, Begin, Fail, Report, Reap, Clear, Forget}
use Rattle.process_rule.proofs.LawLemmas.{forgets_none, signals_are_aimed, groups_may_be_killed}
use Rattle.process_rule.proofs.PutLemmas.{at_service, replaced_same}
use Rattle.process_keeper.specs.Inputs.{is_accepted, after_input, after_scan, is_running, is_stopping}
use Rattle.process_keeper.specs.Renewal.{new_lifecycle}
use Rattle.process_keeper.specs.Sight.{service, some_instance, IsTrueOf}
use Rattle.process_keeper.specs.Happening.{IsSeen, IsEventOf, IdleMayBeLeftOut, InputsAreEvents, TasksMayBeDone}
use Rattle.process_keeper.specs.declared.input.Input.TheVariants.{Started, Cancelled, Stopped, Shortened, Begun, Failed, Exited, Changed}
use Rattle.process_keeper.specs.declared.input.Input.TheVariants.{Asked, Killed, Scanned, Reported, Reaped, Cleared}
use Rattle.process_keeper.specs.declared.lifecycle.Lifecycle.{Lifecycle}
use Rattle.process_keeper.specs.declared.scan.Scan.{Scan}
use Rattle.process_keeper.specs.declared.scan.Scan.TheVariants.{Nothing, Dying, Living}
use Rattle.process_keeper.proofs.SightLemmas.{no_test, some_test, up_instance, not_up_instance, stopping_instance, due_instance}
use Rattle.process_keeper.proofs.SightLemmas.{no_instance_test, stopped_is, stopped_leader, begun_is, SeesSame, own_truth, truth_stays}

-- An event that replaces one service.
event_of : (h : Host) (k : ℕ) (p q : Lifecycle) (e : Event) (s : ServiceState) → IsReachable h → IsTrueOf h k p → May h e →
    ((j : ℕ) → (after_event h e).services j ≡ replaced k s h.services j) → s ≡ service q → SeesSame p q → IsEventOf h k q
event_of h k p q e s path t m f g same =
    record {
      event = e;
      may = m;
      true_of = own_truth h e k p q path m t (f k ∙ replaced_same k s h.services ∙ g) same;
      others = λ j d. f j ∙ at_service (λ (x : ServiceState). x ≡ h.services j) k j s h.services (λ o. absurd (d o)) (λ o. refl);
    }

-- What changes nothing.
quiet : (h : Host) (k : ℕ) (q : Lifecycle) → IsTrueOf h k q → IsEventOf h k q
quiet h k q t = record { event = Fail k; may = tt; true_of = t; others = λ j d. refl }

same_leader : (p q : Lifecycle) → some_instance q.instance ≡ some_instance p.instance → (i : InstanceState) →
    (service q).instance ≡ Some i →
    (j : InstanceState) × ((service p).instance ≡ Some j) × (j.leader ≡ i.leader)
same_leader p q e i u = (i, sym e ∙ u, refl)

start_event : (h : Host) (k : ℕ) (p : Lifecycle) (g : ℕ) → IsReachable h → IsTrueOf h k p → is_accepted p (Started g) ≡ true →
    IsSeen h k p (Started g) →
    IsEventOf h k (after_input p (Started g))
start_event h k p g path t a seen =
    let q = after_input p (Started g) in
    let tests = and_parts (not (is_some p.pending)) (not (is_running p.instance)) a in
    event_of h k p q (Start k) (record (h.services k) { pending = Some h.next }) path t (
      ap (λ (y : ServiceState). y.pending) t.same ∙ no_test p.pending tests.0,
      λ i u. not_up_instance p.instance tests.1 i (sym (ap (λ (y : ServiceState). y.instance) t.same) ∙ u),
      subst (λ (y : ℕ). y < h.file) seen.0 seen.1,
    )
    (λ j. refl)
    (ap (λ (y : ServiceState). record y { pending = Some h.next }) t.same ∙
    ap (λ (y : ℕ). record (service p) { pending = Some y }) (sym seen.0))
    (inr (refl, refl, same_leader p q refl))

stop_event : (h : Host) (k : ℕ) (p : Lifecycle) (at : ℕ) → IsReachable h → IsTrueOf h k p → is_running p.instance ≡ true →
    IsSeen h k p (Stopped at) →
    IsEventOf h k (after_input p (Stopped at))
stop_event h k p at path t a seen =
    let q = after_input p (Stopped at) in
    let up = up_instance p.instance a in
    let n = seen.0 in
    event_of h k p q (Stop k up.0 n) (record (h.services k) { instance = Some (stopping up.0 (h.now + n)) }) path t
    (ap (λ (y : ServiceState). y.instance) t.same ∙ up.1, up.2)
    (λ j. refl)
    (ap (λ (y : ServiceState). record y { instance = Some (stopping up.0 (h.now + n)) }) t.same ∙
    ap (λ (y : Option InstanceState). record (service p) { instance = y })
    (ap (λ (y : ℕ). Some (stopping up.0 y)) (sym seen.1) ∙ sym (stopped_is p.instance up.0 at up.1)))
    (inr (refl, refl, λ i u. stopped_leader p.instance at i u))

shorten_event : (h : Host) (k : ℕ) (p : Lifecycle) (at : ℕ) → IsReachable h → IsTrueOf h k p → is_accepted p (Shortened at) ≡ true →
    IsSeen h k p (Shortened at) → IsEventOf h k (after_input p (Shortened at))
shorten_event h k p at path t a seen =
    let q = after_input p (Shortened at) in
    let due = due_instance at p.instance a in
    let n = seen.0 in
    event_of h k p q (Shorten k due.0 n) (record (h.services k) { instance = Some (stopping due.0 (h.now + n)) }) path t
    (ap (λ (y : ServiceState). y.instance) t.same ∙ due.1, (due.2.0, due.2.1, subst (λ (y : ℕ). y ≤ due.2.0) seen.1 due.2.2))
    (λ j. refl)
    (ap (λ (y : ServiceState). record y { instance = Some (stopping due.0 (h.now + n)) }) t.same ∙
    ap (λ (y : Option InstanceState). record (service p) { instance = y })
    (ap (λ (y : ℕ). Some (stopping due.0 y)) (sym seen.1) ∙ sym (stopped_is p.instance due.0 at due.1)))
    (inr (refl, refl, λ i u. stopped_leader p.instance at i u))

begin_event : (h : Host) (k : ℕ) (p : Lifecycle) (n : ℕ) → IsReachable h → IsTrueOf h k p → is_accepted p (Begun n) ≡ true →
    IsSeen h k p (Begun n) →
    IsEventOf h k (after_input p (Begun n))
begin_event h k p n path t a free =
    let q = after_input p (Begun n) in
    let tests = and_parts (is_some p.pending) (not (is_some p.instance) && p.is_clean) a in
    let rest = and_parts (not (is_some p.instance)) p.is_clean tests.1 in
    let g = some_test p.pending tests.0 in
    event_of h k p q (Begin k g.0 n) (record (h.services k)
    { instance = Some (record { generation = g.0; leader = n; deadline = None }); pending = None }) path t (
      ap (λ (y : ServiceState). y.pending) t.same ∙ g.1,
      ap (λ (y : ServiceState). y.instance) t.same ∙ no_instance_test p.instance rest.0,
      ap (λ (y : ServiceState). y.clean) t.same ∙ rest.1,
      free,
    )
    (λ j. refl)
    (ap (λ (y : ServiceState). record y { instance = Some (record { generation = g.0; leader = n; deadline = None }); pending = None })
    t.same ∙
    ap (λ (y : Option InstanceState). record (service p) { instance = y; pending = None }) (sym (begun_is p.pending g.0 n g.1)))
    (inl refl)

report_event : (h : Host) (k : ℕ) (p : Lifecycle) (at : ℕ) → IsReachable h → IsTrueOf h k p → is_accepted p (Reported at) ≡ true →
    IsSeen h k p (Reported at) → IsEventOf h k (after_input p (Reported at))
report_event h k p at path t a seen =
    let q = after_input p (Reported at) in
    let tests = and_parts (is_running p.instance) p.has_exited a in
    let up = up_instance p.instance tests.0 in
    let runs = ap (λ (y : ServiceState). y.instance) t.same ∙ up.1 in
    let r = (signals_are_aimed h path k up.0 runs).leader in
    event_of h k p q (Report k up.0 r.0) (record (h.services k) { instance = Some (stopping up.0 h.now) }) path t
    (runs, up.2, r.1, t.exited tests.1 up.0 up.1 r.0 r.1)
    (λ j. refl)
    (ap (λ (y : ServiceState). record y { instance = Some (stopping up.0 h.now) }) t.same ∙
    ap (λ (y : Option InstanceState). record (service p) { instance = y })
    (ap (λ (y : ℕ). Some (stopping up.0 y)) (sym seen) ∙ sym (stopped_is p.instance up.0 at up.1)))
    (inr (refl, refl, λ i u. stopped_leader p.instance at i u))

reap_event : (h : Host) (k : ℕ) (p : Lifecycle) → IsReachable h → IsTrueOf h k p → is_accepted p Reaped ≡ true →
    IsEventOf h k (after_input p Reaped)
reap_event h k p path t a =
    let q = after_input p Reaped in
    let tests = and_parts (is_stopping p.instance) (p.has_exited && (p.is_scanned && p.is_empty)) a in
    let rest = and_parts p.has_exited (p.is_scanned && p.is_empty) tests.1 in
    let seen = and_parts p.is_scanned p.is_empty rest.1 in
    let it = stopping_instance p.instance tests.0 in
    let runs = ap (λ (y : ServiceState). y.instance) t.same ∙ it.1 in
    let r = (signals_are_aimed h path k it.0 runs).leader in
    event_of h k p q (Reap k it.0 r.0) (record (h.services k) { instance = None }) path t
    (runs, it.2, r.1, t.exited rest.0 it.0 it.1 r.0 r.1, t.empty rest.0 seen.1 it.0 it.1)
    (λ j. refl)
    (ap (λ (y : ServiceState). record y { instance = None }) t.same)
    (inl refl)

scan_event : (h : Host) (k : ℕ) (p : Lifecycle) (found : Scan) → IsTrueOf h k p → IsSeen h k p (Scanned found) →
    IsEventOf h k (after_scan p found)
scan_event h k p Nothing t seen =
    quiet h k (after_scan p Nothing) (record { same = t.same; exited = t.exited; empty = λ d z i u. seen i u })
scan_event h k p Dying t seen =
    quiet h k (after_scan p Dying) (record { same = t.same; exited = t.exited; empty = λ d z. absurd (no_empty z) })
  where
    no_empty : false ≡ true → ⊥
    no_empty e = cc
scan_event h k p Living t seen =
    quiet h k (after_scan p Living) (record { same = t.same; exited = t.exited; empty = λ d z. absurd (no_empty z) })
  where
    no_empty : false ≡ true → ⊥
    no_empty e = cc

exit_event : (h : Host) (k : ℕ) (p : Lifecycle) → IsTrueOf h k p → IsSeen h k p Exited → IsEventOf h k (after_input p Exited)
exit_event h k p t seen =
    quiet h k (after_input p Exited) (record { same = t.same; exited = λ d i u. seen i u; empty = λ d z. absurd (no_empty z) })
  where
    no_empty : false ≡ true → ⊥
    no_empty e = cc

pub inputs_are_events : InputsAreEvents
inputs_are_events h k p (Started g) path t a seen = start_event h k p g path t a seen
inputs_are_events h k p Cancelled path t a seen =
    event_of h k p (after_input p Cancelled) (Cancel k) (record (h.services k) { pending = None }) path t tt (λ j. refl)
    (ap (λ (y : ServiceState). record y { pending = None }) t.same)
    (inr (refl, refl, same_leader p (after_input p Cancelled) refl))
inputs_are_events h k p (Stopped at) path t a seen = stop_event h k p at path t a seen
inputs_are_events h k p (Shortened at) path t a seen = shorten_event h k p at path t a seen
inputs_are_events h k p (Begun n) path t a seen = begin_event h k p n path t a seen
inputs_are_events h k p (Failed now) path t a seen =
    quiet h k (after_input p (Failed now)) (record { same = t.same; exited = t.exited; empty = t.empty })
inputs_are_events h k p Exited path t a seen = exit_event h k p t seen
inputs_are_events h k p Changed path t a seen =
    quiet h k (after_input p Changed) (record { same = t.same; exited = t.exited; empty = t.empty })
inputs_are_events h k p Asked path t a seen =
    quiet h k (after_input p Asked) (record { same = t.same; exited = t.exited; empty = t.empty })
inputs_are_events h k p Killed path t a seen =
    quiet h k (after_input p Killed) (record { same = t.same; exited = t.exited; empty = t.empty })
inputs_are_events h k p (Scanned found) path t a seen = scan_event h k p found t seen
inputs_are_events h k p (Reported at) path t a seen = report_event h k p at path t a seen
inputs_are_events h k p Reaped path t a seen = reap_event h k p path t a
inputs_are_events h k p Cleared path t a seen =
    event_of h k p (after_input p Cleared) (Clear k) (record (h.services k) { clean = true }) path t seen (λ j. refl)
    (ap (λ (y : ServiceState). record y { clean = true }) t.same)
    (inr (refl, refl, same_leader p (after_input p Cleared) refl))

pub tasks_may_be_done : TasksMayBeDone
tasks_may_be_done h k p path t =
    record {
      fork = λ g n m f. (
        ap (λ (s : ServiceState). s.pending) t.same ∙ m.0,
        ap (λ (s : ServiceState). s.instance) t.same ∙ m.1,
        ap (λ (s : ServiceState). s.clean) t.same ∙ m.2,
        f,
      );
      report = λ g m r e. (ap (λ (s : ServiceState). s.instance) t.same ∙ m.1, m.3, e, t.exited m.4 m.0 m.1 r e);
      ask = λ n m q r e g.
          ((signals_are_aimed h path k m.0 (ap (λ (s : ServiceState). s.instance) t.same ∙ m.1.0)).group q r e (g ∙ sym m.1.1)).0;
      kill = λ n m q r e g.
          groups_may_be_killed h path k m.0 (ap (λ (s : ServiceState). s.instance) t.same ∙ m.1) m.3 q r e (g ∙ sym m.2);
      reap = λ n m r e.
          (ap (λ (s : ServiceState). s.instance) t.same ∙ m.1.0, m.1.2, e, t.exited m.2 m.0 m.1.0 r e, t.empty m.2 m.4 m.0 m.1.0);
    }

-- ---- a label that is left out
pub idle_may_be_left_out : IdleMayBeLeftOut
idle_may_be_left_out h k p path t idle =
    let tests = and_parts p.is_clean (not (is_some p.instance) && not (is_some p.pending)) idle in
    let rest = and_parts (not (is_some p.instance)) (not (is_some p.pending)) tests.1 in
    let s = record (h.services k) { pending = None; clean = false } in
    let none : (h.services k).instance ≡ None = ap (λ (y : ServiceState). y.instance) t.same ∙ no_instance_test p.instance rest.0 in
    let m : May h (Forget k) = (none, ap (λ (y : ServiceState). y.clean) t.same ∙ tests.0) in
    record {
      may = m;
      none = forgets_none h path k m;
      new = own_truth h (Forget k) k p new_lifecycle path m t
          (replaced_same k s h.services ∙ ap (λ (y : Option InstanceState). record s { instance = y }) none) (inl refl);
      others = λ j q d u. truth_stays h (Forget k) j q path m u
          (at_service (λ (x : ServiceState). x ≡ h.services j) k j s h.services (λ o. absurd (d o)) (λ o. refl));
    }
