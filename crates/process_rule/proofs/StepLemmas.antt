-- Each event keeps what holds of a world.
use Rattle.std.proofs.Common.{◌≡◌, ◌<◌, ◌≤◌, ◌+◌, ◌⊎◌, ℕ, Bool, true, false, List, [], ◌∷◌, Option, Some, None, refl, sym, ap, ◌∙◌, subst}
use Rattle.std.proofs.Common.{inl, inr, arith}
use Rattle.std.specs.List.{Contains}
use Rattle.std.proofs.lemmas.Option.{same_Some}
use Rattle.process_rule.specs.Kernel.{Process, Processes, IsOnce, put_process}
use Rattle.process_rule.specs.Supervisor.{InstanceState, ServiceState, Host, new_service, replaced}
use Rattle.process_rule.specs.Events.{Event, after_event, May, OccurAll, IsNewHost, IsDue, leader_of, with_service, with_process, stopping}
use Rattle.process_rule.specs.Events.Event.{Start, Cancel, Stop, Shorten, Write, Begin, Fail, Report, Kill, Reap, Clear, Forget, Fork, Exit}
use Rattle.process_rule.specs.Events.Event.{Vanish, Leave, Join, Pass, Restart}
use Rattle.process_rule.proofs.Standing.{IsKeptProcess, IsKeptLeader, IsKeptService, IsKept}
use Rattle.process_rule.proofs.Members.{none_member, head_member, tail_member, member_cases}
use Rattle.process_rule.proofs.PutLemmas.{replaced_same, put_same, set, set_same, set_other, true_is_false, is_one, is_none, at_put, Like}
use Rattle.process_rule.proofs.PutLemmas.{put_leader, at_service, Beside, service_process, beside_same}

once_none : IsOnce []
once_none = tt

once_cons : (g : ℕ) (gs : List ℕ) → (Contains gs g → ⊥) → IsOnce gs → IsOnce (g ∷ gs)
once_cons g gs d o = (d, o)

-- ---- one process changes
process_kept : (w : Host) (n : ℕ) (o : Option Process) (h : IsKept w) →
    ((s : Process) → o ≡ Some s → IsKeptProcess w.services w.begun w.reported w.now h.current h.leaders n s) →
    ((r : Process) → w.processes n ≡ Some r → r.leads ≡ true → r.run ≡ w.run → Like o r) → IsKept (with_process w n o)
process_kept w n o h f g =
    record {
      current = h.current;
      leaders = h.leaders;
      processes = at_put (λ q r. IsKeptProcess w.services w.begun w.reported w.now h.current h.leaders q r) n o w.processes f
          (λ q r d. h.processes q r);
      services = λ k. (let s = h.services k in
          record {
            leader = λ i e. put_leader n o w.processes w.run k i (s.leader i e) (λ r a b c d. g r a b c);
            clean = s.clean;
            pending = s.pending;
            unreported = s.unreported;
            waits = s.waits;
          });
      single = h.single;
      below = h.below;
      begun = h.begun;
      reported = h.reported;
      given_once = h.given_once;
      begun_once = h.begun_once;
      reported_once = h.reported_once;
    }

-- A process that was r is s, the same as far as a supervisor minds.
changed_kept : (w : Host) (q : ℕ) (r s : Process) (h : IsKept w) → w.processes q ≡ Some r →
    IsKeptProcess w.services w.begun w.reported w.now h.current h.leaders q s → s.leads ≡ r.leads → s.run ≡ r.run → s.label ≡ r.label →
    s.generation ≡ r.generation → (r.leads ≡ true → s.found ≡ r.found) → IsKept (with_process w q (Some s))
changed_kept w q r s h m p a b c d f =
    process_kept w q (Some s) h
    (λ t e. subst (λ (z : Process). IsKeptProcess w.services w.begun w.reported w.now h.current h.leaders q z) (same_Some s t e) p)
    (λ t e l v.
    let z = is_one (w.processes q) r t m e in
    record {
      it = s;
      is = refl;
      leads = a ∙ ap (λ (y : Process). y.leads) z;
      run = b ∙ ap (λ (y : Process). y.run) z;
      label = c ∙ ap (λ (y : Process). y.label) z;
      generation = d ∙ ap (λ (y : Process). y.generation) z;
      found = f (ap (λ (y : Process). y.leads) z ∙ l) ∙ ap (λ (y : Process). y.found) z;
    })

exit_kept : (w : Host) (q : ℕ) (r : Process) → May w (Exit q r) → IsKept w → IsKept (after_event w (Exit q r))
exit_kept w q r m h =
    let p = h.processes q r m in
    changed_kept w q r (record r { alive = false }) h m
    (record {
      generation = p.generation;
      leader = p.leader;
      begins = p.begins;
      dead = λ l t. refl;
      held = p.held;
      group = p.group;
      spared =
          p.spared;
    })
    refl refl refl refl (λ l. refl)

kill_kept : (w : Host) (q : ℕ) (r : Process) → May w (Kill q r) → IsKept w → IsKept (after_event w (Kill q r))
kill_kept w q r m h =
    let p = h.processes q r m.0 in
    changed_kept w q r (record r { killed = true }) h m.0
    (record {
      generation = p.generation;
      leader = p.leader;
      begins = p.begins;
      dead = p.dead;
      held = p.held;
      group = p.group;
      spared = λ s d i e. due i e m.1.1;
    })
    refl refl refl refl (λ l. refl)
  where
    due : (i : InstanceState) → (w.services r.label).instance ≡ Some i →
        ((w.services r.label).clean ≡ false) ⊎ ((j : InstanceState) × ((w.services r.label).instance ≡ Some j) ×
        (r.generation ≡ j.generation) × IsDue j w.now) → IsDue i w.now
    due i e (inl c) = true_is_false (sym ((h.services r.label).clean i e) ∙ c)
    due i e (inr d) = subst (λ (z : InstanceState). IsDue z w.now) (is_one (w.services r.label).instance d.0 i d.1 e) d.3

vanish_kept : (w : Host) (q : ℕ) (r : Process) → May w (Vanish q r) → IsKept w → IsKept (after_event w (Vanish q r))
vanish_kept w q r m h =
    process_kept w q None h (λ s e. is_none None s refl e)
    (λ t e l v.
    let z = is_one (w.processes q) r t m.0 e in
    absurd (m.2 (ap (λ (y : Process). y.leads) z ∙ l) (ap (λ (y : Process). y.run) z ∙ v)))

-- A leader process stays in its group.
own_group : (w : Host) (q : ℕ) (r : Process) (h : IsKept w) → w.processes q ≡ Some r → r.leads ≡ false → (k : ℕ) (i : InstanceState) →
    (w.services k).instance ≡ Some i → q ≡ i.leader → ⊥
own_group w q r h m n k i e f =
    let l = (h.services k).leader i e in
    let z = is_one (w.processes q) r l.it m (ap (λ (y : ℕ). w.processes y) f ∙ l.there) in
    true_is_false (sym l.leads ∙ ap (λ (y : Process). y.leads) (sym z) ∙ n)

leave_kept : (w : Host) (q : ℕ) (r : Process) (b : Bool) → May w (Leave q r b) → IsKept w → IsKept (after_event w (Leave q r b))
leave_kept w q r b m h =
    let p = h.processes q r m.0 in
    changed_kept w q r (record r { group = q; found = b }) h m.0
    (record {
      generation = λ s. p.generation (m.3 s);
      leader = p.leader;
      begins = p.begins;
      dead = p.dead;
      held = λ s. p.held (m.3 s);
      group = λ k i e g. absurd (own_group w q r h m.0 m.2 k i e g);
      spared = λ s. p.spared (m.3 s);
    })
    refl refl refl refl (λ l. true_is_false (sym l ∙ m.2))

join_kept : (w : Host) (q : ℕ) (r : Process) (n : ℕ) (s : Process) → May w (Join q r n s) → IsKept w → IsKept (after_event w (Join q r n s))
join_kept w q r n s m h =
    let p = h.processes q r m.0 in
    changed_kept w q r (record r { group = s.group }) h m.0
    (record {
      generation = p.generation;
      leader = p.leader;
      begins = p.begins;
      dead = p.dead;
      held = p.held;
      group = λ k i e g. (sym m.5 ∙ ((h.processes n s m.1).group k i e g).0, m.4);
      spared = p.spared;
    })
    refl refl refl refl (λ l. refl)

fork_kept : (w : Host) (q : ℕ) (r : Process) (n : ℕ) → May w (Fork q r n) → IsKept w → IsKept (after_event w (Fork q r n))
fork_kept w q r n m h =
    let p = h.processes q r m.0 in
    process_kept w n (Some (record r { leads = false })) h
    (λ t e.
    subst (λ (z : Process). IsKeptProcess w.services w.begun w.reported w.now h.current h.leaders n z)
    (same_Some (record r { leads = false }) t e)
    (record {
      generation = p.generation;
      leader = λ l. true_is_false (sym l);
      begins = λ l. true_is_false (sym l);
      dead = λ l. true_is_false (sym l);
      held = p.held;
      group = p.group;
      spared = p.spared;
    }))
    (λ t e l v. is_none (w.processes n) t m.3.process e)

-- ---- one service changes, with the same instance
service_kept : (w : Host) (k : ℕ) (pending : Option ℕ) (clean : Bool) (next file : ℕ) (given : List ℕ) (h : IsKept w) →
    ((i : InstanceState) → (w.services k).instance ≡ Some i → clean ≡ true) →
    ((q : ℕ) (r : Process) → w.processes q ≡ Some r → Beside k (record (w.services k) { pending = pending; clean = clean }) w.now r) →
    ((j g : ℕ) → Contains w.given g → Contains given g) →
    ((g : ℕ) → pending ≡ Some g → Contains given g × (Contains w.begun g → ⊥)) →
    ((j g : ℕ) → (j ≡ k → ⊥) → (w.services j).pending ≡ Some g → pending ≡ Some g → ⊥) →
    ((g : ℕ) → Contains given g → (g < next) × (g < file)) → IsOnce given →
    ((g : ℕ) (i : InstanceState) → pending ≡ Some g → (w.services k).instance ≡ Some i → i.deadline ≡ None → ⊥) →
    IsKept
    (record w {
      services = replaced k (record (w.services k) { pending = pending; clean = clean }) w.services;
      next = next;
      file = file;
      given =
          given;
    })
service_kept w k pending clean next file given h c b more f u below once ws =
    let service = record (w.services k) { pending = pending; clean = clean } in
    record {
      current = h.current;
      leaders = h.leaders;
      processes = λ q r e. service_process w.services w.begun w.reported w.now h.current h.leaders q r k service (h.processes q r e)
          (b q r e);
      services = λ j. at_service (λ (x : ServiceState). IsKeptService w.processes given w.begun w.reported w.run j x) k j service w.services
          (λ e. subst (λ (z : ℕ). IsKeptService w.processes given w.begun w.reported w.run z service) (sym e)
          (let s = h.services k in record { leader = s.leader; clean = c; pending = f; unreported = s.unreported; waits = ws }))
          (λ d.
          let s = h.services j in
          record {
            leader = s.leader;
            clean = s.clean;
            pending = λ g e. (more j g (s.pending g e).0, (s.pending g e).1);
            unreported =
                s.unreported;
            waits = s.waits;
          });
      single = λ j l g.
          at_service (λ (x : ServiceState). x.pending ≡ Some g → (replaced k service w.services l).pending ≡ Some g → j ≡ l) k j service
          w.services
          (λ e a. at_service (λ (x : ServiceState). x.pending ≡ Some g → j ≡ l) k l service w.services (λ d v. e ∙ sym d)
          (λ d v. absurd (u l g d v a)))
          (λ e a. at_service (λ (x : ServiceState). x.pending ≡ Some g → j ≡ l) k l service w.services (λ d v. absurd (u j g e a v))
          (λ d v. h.single j l g a v));
      below = below;
      begun = λ g e. more k g (h.begun g e);
      reported = h.reported;
      given_once = once;
      begun_once = h.begun_once;
      reported_once = h.reported_once;
    }

start_kept : (w : Host) (k : ℕ) → May w (Start k) → IsKept w → IsKept (after_event w (Start k))
start_kept w k m h =
    let service = record (w.services k) { pending = Some w.next } in
    service_kept w k (Some w.next) (w.services k).clean (w.next + 1) w.file (w.next ∷ w.given) h (h.services k).clean
    (λ q r e. beside_same w.services w.begun w.reported w.now h.current h.leaders q r k service (h.processes q r e) refl refl)
    (λ j g c. tail_member w.next w.given g c)
    (λ g e.
    let z = same_Some w.next g e in (
      subst (λ (y : ℕ). Contains (w.next ∷ w.given) y) z (head_member w.next w.given),
      λ c. (let l = (h.below g (h.begun g c)).0 in omega arith),
    ))
    (λ j g d v e.
    let z = same_Some w.next g e in
    let l = (h.below g ((h.services j).pending g v).0).0 in
    omega arith)
    (λ g c. below g (member_cases w.next w.given g c))
    (once_cons w.next w.given (λ c. (let l = (h.below w.next c).0 in omega arith)) h.given_once)
    (λ g i u. m.1 i)
  where
    below : (g : ℕ) → (g ≡ w.next) ⊎ Contains w.given g → (g < w.next + 1) × (g < w.file)
    below g (inl e) = let l = m.2 in (omega arith, omega arith)
    below g (inr c) = let l = h.below g c in (let a = l.0 in omega arith, l.1)

cancel_kept : (w : Host) (k : ℕ) → IsKept w → IsKept (after_event w (Cancel k))
cancel_kept w k h =
    let service = record (w.services k) { pending = None } in
    service_kept w k None (w.services k).clean w.next w.file w.given h (h.services k).clean
    (λ q r e. beside_same w.services w.begun w.reported w.now h.current h.leaders q r k service (h.processes q r e) refl refl)
    (λ j g c. c)
    (λ g e. is_none None g refl e)
    (λ j g d v e. is_none None g refl e)
    h.below h.given_once (λ g i u. is_none None g refl u)

clear_kept : (w : Host) (k : ℕ) → May w (Clear k) → IsKept w → IsKept (after_event w (Clear k))
clear_kept w k m h =
    service_kept w k (w.services k).pending true w.next w.file w.given h (λ i e. refl)
    (λ q r e.
    let p = h.processes q r e in
    record {
      held = λ a s c. absurd (m q r e s a);
      group = p.group k;
      spared = λ a s d i u. p.spared s d i (ap (λ (z : ℕ). (w.services z).instance) a ∙ u);
    })
    (λ j g c. c)
    (h.services k).pending
    (λ j g d v e. d (h.single j k g v e))
    h.below h.given_once (h.services k).waits

forget_kept : (w : Host) (k : ℕ) → May w (Forget k) → IsKept w → IsKept (after_event w (Forget k))
forget_kept w k m h =
    service_kept w k None false w.next w.file w.given h (λ i e. is_none (w.services k).instance i m.0 e)
    (λ q r e.
    let p = h.processes q r e in
    record {
      held = λ a s c. true_is_false (sym c);
      group = p.group k;
      spared = λ a s d i u. p.spared s d i (ap (λ (z : ℕ). (w.services z).instance) a ∙ u);
    })
    (λ j g c. c)
    (λ g e. is_none None g refl e)
    (λ j g d v e. is_none None g refl e)
    h.below h.given_once (λ g i u. is_none None g refl u)

write_kept : (w : Host) (n : ℕ) → May w (Write n) → IsKept w → IsKept (after_event w (Write n))
write_kept w n m h =
    record {
      current = h.current;
      leaders = h.leaders;
      processes = h.processes;
      services = h.services;
      single = h.single;
      below = λ g c. (let l = (h.below g c).0 in (l, omega arith));
      begun = h.begun;
      reported = h.reported;
      given_once = h.given_once;
      begun_once = h.begun_once;
      reported_once = h.reported_once;
    }

-- ---- an instance is to end
pending_same : (k j : ℕ) (o : Option InstanceState) (services : ℕ → ServiceState) →
    (replaced k (record (services k) { instance = o }) services j).pending ≡ (services j).pending
pending_same k j o services =
    at_service (λ (x : ServiceState). x.pending ≡ (services j).pending) k j (record (services k) { instance = o }) services
    (λ e. ap (λ (z : ℕ). (services z).pending) (sym e))
    (λ e. refl)

stopping_kept : (w : Host) (k : ℕ) (i : InstanceState) (t : ℕ) (reported : List ℕ) (h : IsKept w) → (w.services k).instance ≡ Some i →
    ((q : ℕ) (r : Process) → IsDue i w.now → t ≤ w.now) →
    ((g : ℕ) → Contains reported g → Contains w.begun g) →
    ((j : ℕ) (n : InstanceState) → (j ≡ k → ⊥) → (w.services j).instance ≡ Some n → Contains reported n.generation →
    Contains w.reported n.generation) →
    ((q : ℕ) (r : Process) → w.processes q ≡ Some r → r.leads ≡ true → Contains reported r.generation → r.alive ≡ false) → IsOnce reported →
    IsKept (record (with_service w k (record (w.services k) { instance = Some (stopping i t) })) { reported = reported })
stopping_kept w k i t reported h m due begun others dead once =
    let service = record (w.services k) { instance = Some (stopping i t) } in
    record {
      current = h.current;
      leaders = h.leaders;
      processes = λ q r e.
          (let p = h.processes q r e in
          service_process w.services w.begun reported w.now h.current h.leaders q r k service
          (record {
            generation = p.generation;
            leader = p.leader;
            begins = p.begins;
            dead = dead q r e;
            held = p.held;
            group = p.group;
            spared = p.spared;
          })
          (record {
            held = λ a s c.
                (let old = p.held s (ap (λ (z : ℕ). (w.services z).clean) a ∙ c) in
                let z = is_one (w.services k).instance i old.0 m (ap (λ (y : ℕ). (w.services y).instance) (sym a) ∙ old.1) in
                (stopping i t, refl, ap (λ (y : InstanceState). y.generation) z ∙ old.2));
            group = λ n u v. p.group k i m (v ∙ ap (λ (y : InstanceState). y.leader) (sym (same_Some (stopping i t) n u)));
            spared = λ a s d n u.
                subst (λ (y : InstanceState). IsDue y w.now) (same_Some (stopping i t) n u)
                (record { at = t; set = refl; passed = due q r (p.spared s d i (ap (λ (y : ℕ). (w.services y).instance) a ∙ m)) });
          }));
      services = λ j. at_service (λ (x : ServiceState). IsKeptService w.processes w.given w.begun reported w.run j x) k j service w.services
          (λ e. subst (λ (z : ℕ). IsKeptService w.processes w.given w.begun reported w.run z service) (sym e)
          (let s = h.services k in
          let l = s.leader i m in
          record {
            leader = λ n u. subst (λ (y : InstanceState). IsKeptLeader w.processes w.run k y) (same_Some (stopping i t) n u)
                (record {
                  it = l.it;
                  there = l.there;
                  leads = l.leads;
                  of_run = l.of_run;
                  label = l.label;
                  generation = l.generation;
                  sees =
                      l.sees;
                });
            clean = λ n u. s.clean i m;
            pending = s.pending;
            unreported = λ n u v. is_none n.deadline t v (ap (λ (y : InstanceState). y.deadline) (sym (same_Some (stopping i t) n u)));
            waits = λ g n u v o. is_none n.deadline t o (ap (λ (y : InstanceState). y.deadline) (sym (same_Some (stopping i t) n v)));
          }))
          (λ d.
          let s = h.services j in
          record {
            leader = s.leader;
            clean = s.clean;
            pending = s.pending;
            unreported = λ n u v c. s.unreported n u v (others j n d u c);
            waits =
                s.waits;
          });
      single = λ j l g a v. h.single j l g (sym (pending_same k j (Some (stopping i t)) w.services) ∙ a)
          (sym (pending_same k l (Some (stopping i t)) w.services) ∙ v);
      below = h.below;
      begun = h.begun;
      reported = begun;
      given_once = h.given_once;
      begun_once = h.begun_once;
      reported_once = once;
    }

dead_stay : (w : Host) → IsKept w → (q : ℕ) (r : Process) → w.processes q ≡ Some r → r.leads ≡ true → Contains w.reported r.generation →
    r.alive ≡ false
dead_stay w h q r e = (h.processes q r e).dead

stop_kept : (w : Host) (k : ℕ) (i : InstanceState) (n : ℕ) → May w (Stop k i n) → IsKept w → IsKept (after_event w (Stop k i n))
stop_kept w k i n m h =
    stopping_kept w k i (w.now + n) w.reported h m.0 (λ q r d. is_none i.deadline d.at m.1 d.set) h.reported (λ j x d u c. c)
    (dead_stay w h) h.reported_once

shorten_kept : (w : Host) (k : ℕ) (i : InstanceState) (n : ℕ) → May w (Shorten k i n) → IsKept w → IsKept (after_event w (Shorten k i n))
shorten_kept w k i n m h =
    stopping_kept w k i (w.now + n) w.reported h m.0
    (λ q r d. let z = is_one i.deadline d.at m.1.0 d.set m.1.1 in let l = d.passed in let o = m.1.2 in omega arith)
    h.reported (λ j x d u c. c) (dead_stay w h) h.reported_once

-- Two instances of one generation are of one label.
same_label : (w : Host) (h : IsKept w) (j k : ℕ) (a b : InstanceState) → (w.services j).instance ≡ Some a →
    (w.services k).instance ≡ Some b → a.generation ≡ b.generation → j ≡ k
same_label w h j k a b u v e =
    let l = (h.services j).leader a u in
    let m = (h.services k).leader b v in
    let p = (h.processes a.leader l.it l.there).leader l.leads in
    let q = (h.processes b.leader m.it m.there).leader m.leads in
    let numbers : a.leader ≡ b.leader = sym p ∙ ap (λ (y : ℕ). h.leaders y) (l.generation ∙ e ∙ sym m.generation) ∙ q in
    let one = is_one (w.processes a.leader) l.it m.it l.there (ap (λ (y : ℕ). w.processes y) numbers ∙ m.there) in
    sym l.label ∙ ap (λ (y : Process). y.label) one ∙ m.label

report_kept : (w : Host) (k : ℕ) (i : InstanceState) (r : Process) → May w (Report k i r) → IsKept w → IsKept (after_event w (Report k i r))
report_kept w k i r m h =
    let l = (h.services k).leader i m.0 in
    let one = is_one (w.processes i.leader) r l.it m.2 l.there in
    let begins : Contains w.begun i.generation =
    subst (λ (y : ℕ). Contains w.begun y) l.generation ((h.processes i.leader l.it l.there).begins l.leads) in
    stopping_kept w k i w.now (i.generation ∷ w.reported) h m.0 (λ q s d. is_none i.deadline d.at m.1 d.set)
    (λ g c. elim (member_cases i.generation w.reported g c)
    [ inl e ↦ subst (λ (y : ℕ). Contains w.begun y) (sym e) begins | inr t ↦ h.reported g t ])
    (λ j n d u c.
    elim (member_cases i.generation w.reported n.generation c) [ inl e ↦ absurd (d (same_label w h j k n i u m.0 e)) | inr t ↦ t ])
    (λ q s e v c.
    elim (member_cases i.generation w.reported s.generation c) [
      | inl o ↦
          let number : q ≡ i.leader =
          sym ((h.processes q s e).leader v) ∙ ap (λ (y : ℕ). h.leaders y) (o ∙ sym l.generation) ∙
          (h.processes i.leader l.it l.there).leader l.leads in
          let same = is_one (w.processes q) s r e (ap (λ (y : ℕ). w.processes y) number ∙ m.2) in
          ap (λ (y : Process). y.alive) same ∙ m.3
      | inr t ↦ (h.processes q s e).dead v t
    ])
    (once_cons i.generation w.reported ((h.services k).unreported i m.0 m.1) h.reported_once)

-- ---- an instance begins
abbrev begun_at : ℕ → ℕ → InstanceState
begun_at g p = record { generation = g; leader = p; deadline = None }

abbrev begun_service : Host → ℕ → ℕ → ℕ → ServiceState
begun_service w k g p = record (w.services k) { instance = Some (begun_at g p); pending = None }

abbrev BegunProcess : (w : Host) (k g p : ℕ) → IsKept w → ℕ → Process → Type 0
BegunProcess w k g p h q r =
    IsKeptProcess (replaced k (begun_service w k g p) w.services) (g ∷ w.begun) w.reported w.now (set k g h.current) (set g p h.leaders) q r

fresh : (w : Host) (k g p : ℕ) → May w (Begin k g p) → IsKept w → Contains w.begun g → ⊥
fresh w k g p m h = ((h.services k).pending g m.0).1

itself : (w : Host) (k g p : ℕ) (m : May w (Begin k g p)) (h : IsKept w) → BegunProcess w k g p h p (leader_of k g p w.run)
itself w k g p m h =
    record {
      generation = λ s. set_same k g h.current;
      leader = λ l. set_same g p h.leaders;
      begins = λ l. head_member g w.begun;
      dead = λ l c. absurd (fresh w k g p m h (h.reported g c));
      held = λ s c. (begun_at g p, ap (λ (y : ServiceState). y.instance) (replaced_same k (begun_service w k g p) w.services), refl);
      group = λ j n.
          at_service (λ (x : ServiceState). x.instance ≡ Some n → p ≡ n.leader → (k ≡ j) × (true ≡ true)) k j (begun_service w k g p)
          w.services
          (λ e u v. (sym e, refl))
          (λ d u v.
          let l = (h.services j).leader n u in
          is_none (w.processes p) l.it m.3.process (ap (λ (y : ℕ). w.processes y) v ∙ l.there));
      spared = λ s d. true_is_false (sym d);
    }

-- Nothing else is there of its label.
pub alone : (w : Host) (k g p : ℕ) → May w (Begin k g p) → IsKept w → (q : ℕ) (r : Process) → w.processes q ≡ Some r → r.found ≡ true →
    r.label ≡ k → ⊥
alone w k g p m h q r e s a =
    let old = (h.processes q r e).held s (ap (λ (y : ℕ). (w.services y).clean) a ∙ m.2) in
    is_none (w.services k).instance old.0 m.1 (ap (λ (y : ℕ). (w.services y).instance) (sym a) ∙ old.1)

another : (w : Host) (k g p : ℕ) (m : May w (Begin k g p)) (h : IsKept w) (q : ℕ) (r : Process) → w.processes q ≡ Some r →
    BegunProcess w k g p h q r
another w k g p m h q r e =
    let old = h.processes q r e in
    service_process w.services (g ∷ w.begun) w.reported w.now (set k g h.current) (set g p h.leaders) q r k (begun_service w k g p)
    (record {
      generation = λ s. set_other k g r.label h.current (alone w k g p m h q r e s) ∙ old.generation s;
      leader = λ l. set_other g p r.generation h.leaders (λ o. fresh w k g p m h (subst (λ (y : ℕ). Contains w.begun y) o (old.begins l)))
          ∙ old.leader l;
      begins = λ l. tail_member g w.begun r.generation (old.begins l);
      dead = old.dead;
      held = old.held;
      group = old.group;
      spared = old.spared;
    })
    (record {
      held = λ a s c. absurd (alone w k g p m h q r e s a);
      group = λ n u v. absurd (m.3.group q r e (v ∙ ap (λ (y : InstanceState). y.leader) (sym (same_Some (begun_at g p) n u))));
      spared = λ a s d n u. absurd (alone w k g p m h q r e s a);
    })

begin_kept : (w : Host) (k g p : ℕ) → May w (Begin k g p) → IsKept w → IsKept (after_event w (Begin k g p))
begin_kept w k g p m h =
    record {
      current = set k g h.current;
      leaders = set g p h.leaders;
      processes = at_put (λ q r. BegunProcess w k g p h q r) p (Some (leader_of k g p w.run)) w.processes
          (λ r e. subst (λ (z : Process). BegunProcess w k g p h p z) (same_Some (leader_of k g p w.run) r e) (itself w k g p m h))
          (λ q r d e. another w k g p m h q r e);
      services = λ j. at_service (λ (x : ServiceState).
          IsKeptService (put_process p (Some (leader_of k g p w.run)) w.processes) w.given (g ∷ w.begun) w.reported w.run j x) k j
          (begun_service w k g p) w.services
          (λ e. subst (λ (z : ℕ). IsKeptService (put_process p (Some (leader_of k g p w.run)) w.processes) w.given (g ∷ w.begun) w.reported
          w.run z (begun_service w k g p)) (sym e)
          (record {
            leader = λ n u. subst (λ (y : InstanceState).
                IsKeptLeader (put_process p (Some (leader_of k g p w.run)) w.processes) w.run k y) (same_Some (begun_at g p) n u)
                (record {
                  it = leader_of k g p w.run;
                  there = put_same p (Some (leader_of k g p w.run)) w.processes;
                  leads = refl;
                  of_run =
                      refl;
                  label = refl;
                  generation = refl;
                  sees = refl;
                });
            clean = λ n u. m.2;
            pending = λ n u. is_none None n refl u;
            unreported = λ n u v c. (fresh w k g p m h)
                (h.reported g (subst (λ (y : ℕ). Contains w.reported y)
                (ap (λ (y : InstanceState). y.generation) (sym (same_Some (begun_at g p) n u))) c));
            waits = λ x n u. is_none None x refl u;
          }))
          (λ d.
          let s = h.services j in
          record {
            leader = λ n u. put_leader p (Some (leader_of k g p w.run)) w.processes w.run j n (s.leader n u)
                (λ r e a b c. is_none (w.processes p) r m.3.process e);
            clean = s.clean;
            pending = λ n u. (
              (s.pending n u).0,
              λ c. elim (member_cases g w.begun n c) [
                | inl e ↦ d (h.single j k n u (m.0 ∙ ap (λ (y : ℕ). Some y) (sym e)))
                | inr t ↦ (s.pending n u).1 t
              ],
            );
            unreported = s.unreported;
            waits = s.waits;
          });
      single = λ j l n.
          at_service (λ (x : ServiceState). x.pending ≡ Some n → (replaced k (begun_service w k g p) w.services l).pending ≡ Some n →
          j ≡ l) k j (begun_service w k g p) w.services
          (λ e a v. is_none None n refl a)
          (λ e a. at_service (λ (x : ServiceState). x.pending ≡ Some n → j ≡ l) k l (begun_service w k g p) w.services
          (λ d v. is_none None n refl v) (λ d v. h.single j l n a v));
      below = h.below;
      begun = λ n c. elim (member_cases g w.begun n c) [
        | inl e ↦ subst (λ (y : ℕ). Contains w.given y) (sym e) ((h.services k).pending g m.0).0
        | inr t ↦ h.begun n t
      ];
      reported = λ n c. tail_member g w.begun n (h.reported n c);
      given_once = h.given_once;
      begun_once = once_cons g w.begun (fresh w k g p m h) h.begun_once;
      reported_once = h.reported_once;
    }

-- ---- nothing is left
reap_kept : (w : Host) (k : ℕ) (i : InstanceState) (r : Process) → May w (Reap k i r) → IsKept w → IsKept (after_event w (Reap k i r))
reap_kept w k i r m h =
    let service = record (w.services k) { instance = None } in
    record {
      current = h.current;
      leaders = h.leaders;
      processes = at_put (λ q s. IsKeptProcess (replaced k service w.services) w.begun w.reported w.now h.current h.leaders q s) i.leader
          None w.processes
          (λ s e. is_none None s refl e)
          (λ q s d e.
          let p = h.processes q s e in
          service_process w.services w.begun w.reported w.now h.current h.leaders q s k service p
          (record {
            held = λ a v c. absurd (d (m.4 q s e v a));
            group = λ n u v. is_none None n refl u;
            spared = λ a v c n u. is_none None n refl u;
          }));
      services = λ j. at_service (λ (x : ServiceState).
          IsKeptService (put_process i.leader None w.processes) w.given w.begun w.reported w.run j x) k j service w.services
          (λ e. subst (λ (z : ℕ). IsKeptService (put_process i.leader None w.processes) w.given w.begun w.reported w.run z service) (sym e)
          (record {
            leader = λ n u. is_none None n refl u;
            clean = λ n u. is_none None n refl u;
            pending = (h.services k).pending;
            unreported = λ n u v c. is_none None n refl u;
            waits = λ g n u v. is_none None n refl v;
          }))
          (λ d.
          let s = h.services j in
          let l = (h.services k).leader i m.0 in
          record {
            leader = λ n u. put_leader i.leader None w.processes w.run j n (s.leader n u)
                (λ t e a b c. absurd (d (sym c ∙ ap (λ (y : Process). y.label) (is_one (w.processes i.leader) t l.it e l.there) ∙
                l.label)));
            clean = s.clean;
            pending = s.pending;
            unreported = s.unreported;
            waits = s.waits;
          });
      single = λ j l g a v. h.single j l g (sym (pending_same k j None w.services) ∙ a) (sym (pending_same k l None w.services) ∙ v);
      below = h.below;
      begun = h.begun;
      reported = h.reported;
      given_once = h.given_once;
      begun_once = h.begun_once;
      reported_once = h.reported_once;
    }

-- ---- time, and another run
pass_kept : (w : Host) (n : ℕ) → IsKept w → IsKept (after_event w (Pass n))
pass_kept w n h =
    record {
      current = h.current;
      leaders = h.leaders;
      processes = λ q r e. (let p = h.processes q r e in
          record {
            generation = p.generation;
            leader = p.leader;
            begins = p.begins;
            dead = p.dead;
            held = p.held;
            group = p.group;
            spared = λ s d i u. (let x = p.spared s d i u in record { at = x.at; set = x.set; passed = (let l = x.passed in omega arith) });
          });
      services = h.services;
      single = h.single;
      below = h.below;
      begun = h.begun;
      reported = h.reported;
      given_once = h.given_once;
      begun_once = h.begun_once;
      reported_once = h.reported_once;
    }

fresh_service : (processes : Processes) (given begun reported : List ℕ) (run k : ℕ) →
    IsKeptService processes given begun reported run k new_service
fresh_service processes given begun reported run k =
    record {
      leader = λ i u. is_none None i refl u;
      clean = λ i u. is_none None i refl u;
      pending = λ g u. is_none None g refl u;
      unreported = λ i u v c. is_none None i refl u;
      waits = λ g i u. is_none None g refl u;
    }

restart_kept : (w : Host) → IsKept w → IsKept (after_event w Restart)
restart_kept w h =
    record {
      current = h.current;
      leaders = h.leaders;
      processes = λ q r e. (let p = h.processes q r e in
          record {
            generation = p.generation;
            leader = p.leader;
            begins = p.begins;
            dead = p.dead;
            held = λ s c. true_is_false (sym c);
            group = λ k i u v. is_none None i refl u;
            spared = λ s d i u. is_none None i refl u;
          });
      services = λ k. fresh_service w.processes w.given w.begun w.reported (w.run + 1) k;
      single = λ j k g a v. is_none None g refl a;
      below = λ g c. (let l = (h.below g c).1 in (l, l));
      begun = h.begun;
      reported = h.reported;
      given_once = h.given_once;
      begun_once = h.begun_once;
      reported_once = h.reported_once;
    }

-- ---- each event
pub step : (w : Host) (e : Event) → May w e → IsKept w → IsKept (after_event w e)
step w (Start k) m h = start_kept w k m h
step w (Cancel k) m h = cancel_kept w k h
step w (Stop k i n) m h = stop_kept w k i n m h
step w (Shorten k i n) m h = shorten_kept w k i n m h
step w (Write n) m h = write_kept w n m h
step w (Begin k g p) m h = begin_kept w k g p m h
step w (Fail k) m h = h
step w (Report k i r) m h = report_kept w k i r m h
step w (Kill q r) m h = kill_kept w q r m h
step w (Reap k i r) m h = reap_kept w k i r m h
step w (Clear k) m h = clear_kept w k m h
step w (Forget k) m h = forget_kept w k m h
step w (Fork q r n) m h = fork_kept w q r n m h
step w (Exit q r) m h = exit_kept w q r m h
step w (Vanish q r) m h = vanish_kept w q r m h
step w (Leave q r b) m h = leave_kept w q r b m h
step w (Join q r n s) m h = join_kept w q r n s m h
step w (Pass n) m h = pass_kept w n h
step w Restart m h = restart_kept w h

pub new_kept : (w : Host) → IsNewHost w → IsKept w
new_kept w n =
    record {
      current = λ k. 0;
      leaders = λ g. 0;
      processes = λ q r e. (let f = n.processes q r e in
          record {
            generation = λ s. true_is_false (sym s ∙ f.0);
            leader = λ l. true_is_false (sym l ∙ f.1);
            begins = λ l. true_is_false (sym l ∙ f.1);
            dead = λ l. true_is_false (sym l ∙ f.1);
            held = λ s. true_is_false (sym s ∙ f.0);
            group = λ k i u. is_none None i refl (ap (λ (y : ServiceState). y.instance) (sym (n.services k)) ∙ u);
            spared = λ s. true_is_false (sym s ∙ f.0);
          });
      services = λ k. subst (λ (x : ServiceState). IsKeptService w.processes w.given w.begun w.reported w.run k x) (sym (n.services k))
          (fresh_service w.processes w.given w.begun w.reported w.run k);
      single = λ j k g a. is_none None g refl (ap (λ (y : ServiceState). y.pending) (sym (n.services j)) ∙ a);
      below = λ g c. absurd (none w.given n.given g c);
      begun = λ g c. absurd (none w.begun n.begun g c);
      reported = λ g c. absurd (none w.reported n.reported g c);
      given_once = subst (λ (y : List ℕ). IsOnce y) (sym n.given) once_none;
      begun_once = subst (λ (y : List ℕ). IsOnce y) (sym n.begun) once_none;
      reported_once = subst (λ (y : List ℕ). IsOnce y) (sym n.reported) once_none;
    }
  where
    none : (xs : List ℕ) → xs ≡ [] → (g : ℕ) → Contains xs g → ⊥
    none xs e g c = none_member g (subst (λ (y : List ℕ). Contains y g) e c)

pub all_kept : (w x : Host) (es : List Event) → OccurAll w es x → IsKept w → IsKept x
all_kept w x [] e h = subst (λ (y : Host). IsKept y) e h
all_kept w x (e ∷ es) path h =
    all_kept path.0 x es path.2 (subst (λ (y : Host). IsKept y) path.1.1 (step w e path.1.0 h))
