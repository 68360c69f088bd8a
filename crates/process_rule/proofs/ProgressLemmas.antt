-- The laws of progress.
use Rattle.std.proofs.Common.{◌≡◌, ◌+◌, ◌==◌, ◌||◌, ◌⊎◌, ℕ, Bool, true, false, List, [], ◌∷◌, Option, Some, None, refl, sym, ap, ◌∙◌, subst}
use Rattle.std.proofs.Common.{inl, inr, arith}
use Rattle.std.specs.List.{Contains, list_any}
use Rattle.std.proofs.lemmas.Bool.{eqb-true}
use Rattle.std.proofs.lemmas.Option.{same_Some}
use Rattle.process_rule.specs.Kernel.{Process, put_process}
use Rattle.process_rule.specs.Supervisor.{InstanceState, ServiceState, Host, replaced}
use Rattle.process_rule.specs.Events.{Event, after_event, May, OccurAll, leader_of, stopping}
use Rattle.process_rule.specs.Events.Event.{Start, Cancel, Stop, Shorten, Write, Begin, Fail, Report, Kill, Reap, Clear, Forget, Fork, Exit}
use Rattle.process_rule.specs.Events.Event.{Vanish, Leave, Join, Pass, Restart}
use Rattle.process_rule.specs.Progress.{OnlyLeader, DeadStays, EmptyStays, KilledStays, NothingStays, cuts, GraceLasts, ends_wait}
use Rattle.process_rule.specs.Progress.{PendingStays, StartsGoOn}
use Rattle.process_rule.proofs.Standing.{IsKeptLeader, IsKept}
use Rattle.process_rule.proofs.Members.{tail_member}
use Rattle.process_rule.proofs.PutLemmas.{true_is_false, is_one, is_none, at_put, at_service, eqb-same}
use Rattle.process_rule.proofs.LawLemmas.{kept}
use Rattle.process_rule.proofs.StepLemmas as steps

-- ---- where a process comes from
-- It was there before, at this number.
pub record Stayed (w : Host) (q : ℕ) (s : Process) : Type 0 where
  pub old : Process
  pub there : w.processes q ≡ Some old
  pub found : s.found ≡ true → old.found ≡ true
  pub label : s.label ≡ old.label
  pub generation : s.generation ≡ old.generation
  pub killed : old.killed ≡ true → s.killed ≡ true
  pub dead : old.alive ≡ false → s.alive ≡ false

-- It is a child of one that was there.
pub record IsChild (w : Host) (q : ℕ) (s : Process) : Type 0 where
  pub free : w.processes q ≡ None
  pub number : ℕ
  pub parent : Process
  pub there : w.processes number ≡ Some parent
  pub alive : parent.alive ≡ true
  pub killed : parent.killed ≡ false
  pub found : s.found ≡ true → parent.found ≡ true
  pub label : s.label ≡ parent.label
  pub generation : s.generation ≡ parent.generation

-- It is the leader process of an instance that began.
pub record IsNewLeader (w : Host) (q : ℕ) (s : Process) : Type 0 where
  pub free : w.processes q ≡ None
  pub label : ℕ
  pub number : ℕ
  pub pending : (w.services label).pending ≡ Some number
  pub instance : (w.services label).instance ≡ None
  pub of_label : s.label ≡ label
  pub generation : s.generation ≡ number

abbrev pub ComesFrom : Host → ℕ → Process → Type 0
ComesFrom w q s = Stayed w q s ⊎ (IsChild w q s ⊎ IsNewLeader w q s)

same : (w : Host) (q : ℕ) (s : Process) → w.processes q ≡ Some s → ComesFrom w q s
same w q s e = inl (record { old = s; there = e; found = λ x. x; label = refl; generation = refl; killed = λ x. x; dead = λ x. x })

-- Where one process changed.
changed : (w : Host) (n : ℕ) (o : Option Process) → ((s : Process) → o ≡ Some s → ComesFrom w n s) → (q : ℕ) (s : Process) →
    put_process n o w.processes q ≡ Some s →
    ComesFrom w q s
changed w n o f = at_put (λ q s. ComesFrom w q s) n o w.processes f (λ q s d e. same w q s e)

pub comes_from : (w : Host) (e : Event) → May w e → (q : ℕ) (s : Process) → (after_event w e).processes q ≡ Some s → ComesFrom w q s
comes_from w (Start k) m q s e = same w q s e
comes_from w (Cancel k) m q s e = same w q s e
comes_from w (Stop k i n) m q s e = same w q s e
comes_from w (Shorten k i n) m q s e = same w q s e
comes_from w (Write n) m q s e = same w q s e
comes_from w (Begin k g p) m y y2 y3 =
    changed w p (Some (leader_of k g p w.run))
    (λ s e.
    let z = same_Some (leader_of k g p w.run) s e in
    inr (inr (record {
      free = m.3.process;
      label = k;
      number = g;
      pending = m.0;
      instance = m.1;
      of_label = ap (λ (y : Process). y.label) (sym z);
      generation = ap (λ (y : Process). y.generation) (sym z);
    }))) y y2 y3
comes_from w (Fail k) m q s e = same w q s e
comes_from w (Report k i r) m q s e = same w q s e
comes_from w (Kill n r) m y y2 y3 =
    changed w n (Some (record r { killed = true }))
    (λ s e. subst (λ (z : Process). ComesFrom w n z) (same_Some (record r { killed = true }) s e)
    (inl (record { old = r; there = m.0; found = λ x. x; label = refl; generation = refl; killed = λ x. refl; dead = λ x. x }))) y y2 y3
comes_from w (Reap k i r) m y y2 y3 =
    changed w i.leader None (λ s e. is_none None s refl e) y y2 y3
comes_from w (Clear k) m q s e = same w q s e
comes_from w (Forget k) m q s e = same w q s e
comes_from w (Fork p r n) m y y2 y3 =
    changed w n (Some (record r { leads = false }))
    (λ s e. subst (λ (z : Process). ComesFrom w n z) (same_Some (record r { leads = false }) s e)
    (inr (inl
    (record {
      free = m.3.process;
      number = p;
      parent = r;
      there = m.0;
      alive = m.1;
      killed = m.2;
      found = λ x. x;
      label = refl;
      generation =
          refl;
    })))) y y2 y3
comes_from w (Exit n r) m y y2 y3 =
    changed w n (Some (record r { alive = false }))
    (λ s e. subst (λ (z : Process). ComesFrom w n z) (same_Some (record r { alive = false }) s e)
    (inl (record { old = r; there = m; found = λ x. x; label = refl; generation = refl; killed = λ x. x; dead = λ x. refl }))) y y2 y3
comes_from w (Vanish n r) m y y2 y3 =
    changed w n None (λ s e. is_none None s refl e) y y2 y3
comes_from w (Leave n r b) m y y2 y3 =
    changed w n (Some (record r { group = n; found = b }))
    (λ s e. subst (λ (z : Process). ComesFrom w n z) (same_Some (record r { group = n; found = b }) s e)
    (inl (record { old = r; there = m.0; found = m.3; label = refl; generation = refl; killed = λ x. x; dead = λ x. x }))) y y2 y3
comes_from w (Join n r p t) m y y2 y3 =
    changed w n (Some (record r { group = t.group }))
    (λ s e. subst (λ (z : Process). ComesFrom w n z) (same_Some (record r { group = t.group }) s e)
    (inl (record { old = r; there = m.0; found = λ x. x; label = refl; generation = refl; killed = λ x. x; dead = λ x. x }))) y y2 y3
comes_from w (Pass n) m q s e = same w q s e
comes_from w Restart m q s e = same w q s e

-- ---- looks stay true
pub dead_stays : DeadStays
dead_stays w e q r there dead m s f =
    elim (comes_from w e m q s f) [
      | inl c ↦ c.dead (ap (λ (y : Process). y.alive) (is_one (w.processes q) c.old r c.there there) ∙ dead)
      | inr (inl c) ↦ is_none (w.processes q) r c.free there
      | inr (inr c) ↦ is_none (w.processes q) r c.free there
    ]

pub empty_stays : EmptyStays
empty_stays w e k i r instance there dead only m q s f found label =
    elim (comes_from w e m q s f) [
      | inl c ↦ only q c.old c.there (c.found found) (sym c.label ∙ label)
      | inr (inl c) ↦
          let number = only c.number c.parent c.there (c.found found) (sym c.label ∙ label) in
          let one = is_one (w.processes i.leader) r c.parent there (ap (λ (y : ℕ). w.processes y) (sym number) ∙ c.there) in
          true_is_false (sym c.alive ∙ ap (λ (y : Process). y.alive) (sym one) ∙ dead)
      | inr (inr c) ↦
          is_none (w.services k).instance i (ap (λ (y : ℕ). (w.services y).instance) (sym label ∙ c.of_label) ∙ c.instance) instance
    ]

pub killed_stays : KilledStays
killed_stays w e k i instance all m q s f found label =
    elim (comes_from w e m q s f) [
      | inl c ↦ c.killed (all q c.old c.there (c.found found) (sym c.label ∙ label))
      | inr (inl c) ↦ true_is_false (sym (all c.number c.parent c.there (c.found found) (sym c.label ∙ label)) ∙ c.killed)
      | inr (inr c) ↦ is_none (w.services k).instance i
          (ap (λ (y : ℕ). (w.services y).instance) (sym label ∙ c.of_label) ∙ c.instance) instance
    ]

-- ---- nothing is on its way
pub nothing_stays : NothingStays
nothing_stays x path k i instance all quiet =
    let h = kept x path in
    let l = (h.services k).leader i instance in
    let killed = all i.leader l.it l.there l.sees l.label in
    let at : (x.services l.it.label).instance ≡ Some i = ap (λ (y : ℕ). (x.services y).instance) l.label ∙ instance in
    let due = (h.processes i.leader l.it l.there).spared l.sees killed i at in
    (l.it, (instance, (due.at, due.set), l.there, quiet.exited i.leader l.it l.there killed, only h l))
  where
    only : (h : IsKept x) → IsKeptLeader x.processes x.run k i → OnlyLeader x k i.leader
    only h l q s e found label = by_test s.leads refl
      where
        by_test : (b : Bool) → s.leads ≡ b → q ≡ i.leader
        by_test false f =
            absurd (quiet.reaped q s e (e, quiet.exited q s e (all q s e found label), λ g. true_is_false (sym g ∙ f)))
        by_test true f =
            let p = h.processes q s e in
            let held = p.held found (ap (λ (y : ℕ). (x.services y).clean) label ∙ (h.services k).clean i instance) in
            let one = is_one (x.services k).instance held.0 i (ap (λ (y : ℕ). (x.services y).instance) (sym label) ∙ held.1) instance in
            let generation : s.generation ≡ l.it.generation =
            sym held.2 ∙ ap (λ (y : InstanceState). y.generation) one ∙ sym l.generation in
            sym (p.leader f) ∙ ap (λ (y : ℕ). h.leaders y) generation ∙ (h.processes i.leader l.it l.there).leader l.leads

-- ---- a grace lasts
-- It ends at that time, or nothing is left of it.
record Has (w : Host) (k g t : ℕ) : Type 0 where
  it : InstanceState
  instance : (w.services k).instance ≡ Some it
  generation : it.generation ≡ g
  deadline : it.deadline ≡ Some t

abbrev HasNone : Host → ℕ → ℕ → Type 0
HasNone w k g = (q : ℕ) (s : Process) → w.processes q ≡ Some s → s.found ≡ true → s.label ≡ k → s.generation ≡ g → ⊥

abbrev Lasts : Host → ℕ → ℕ → ℕ → Type 0
Lasts w k g t = Contains w.begun g × (Has w k g t ⊎ HasNone w k g)

begun_stays : (w : Host) (e : Event) (g : ℕ) → Contains w.begun g → Contains (after_event w e).begun g
begun_stays w (Begin k n p) g c = tail_member n w.begun g c
begun_stays w (Start k) g c = c
begun_stays w (Cancel k) g c = c
begun_stays w (Stop k i n) g c = c
begun_stays w (Shorten k i n) g c = c
begun_stays w (Write n) g c = c
begun_stays w (Fail k) g c = c
begun_stays w (Report k i r) g c = c
begun_stays w (Kill q r) g c = c
begun_stays w (Reap k i r) g c = c
begun_stays w (Clear k) g c = c
begun_stays w (Forget k) g c = c
begun_stays w (Fork q r n) g c = c
begun_stays w (Exit q r) g c = c
begun_stays w (Vanish q r) g c = c
begun_stays w (Leave q r b) g c = c
begun_stays w (Join q r n s) g c = c
begun_stays w (Pass n) g c = c
begun_stays w Restart g c = c

-- Nothing of a generation comes once nothing of it is left.
none_stays : (w : Host) (e : Event) (k g : ℕ) → IsKept w → May w e → Contains w.begun g → HasNone w k g → HasNone (after_event w e) k g
none_stays w e k g h m c none q s f found label generation =
    elim (comes_from w e m q s f) [
      | inl d ↦ none q d.old d.there (d.found found) (sym d.label ∙ label) (sym d.generation ∙ generation)
      | inr (inl d) ↦ none d.number d.parent d.there (d.found found) (sym d.label ∙ label) (sym d.generation ∙ generation)
      | inr (inr d) ↦ ((h.services d.label).pending d.number d.pending).1
          (subst (λ (y : ℕ). Contains w.begun y) (sym generation ∙ d.generation) c)
    ]

-- A service at k with the same instance, or another one.
service_has : (w : Host) (k g t j : ℕ) (service : ServiceState) → Has w k g t → (k ≡ j → service.instance ≡ (w.services k).instance) →
    (i : InstanceState) × ((replaced j service w.services k).instance ≡ Some i) × (i.generation ≡ g) × (i.deadline ≡ Some t)
service_has w k g t j service a f = (
  a.it,
  at_service (λ (x : ServiceState). x.instance ≡ Some a.it) j k service w.services (λ e. f e ∙ a.instance) (λ e. a.instance),
  a.generation,
  a.deadline,
)

has : (w : Host) (k g t : ℕ) → (i : InstanceState) × ((w.services k).instance ≡ Some i) × (i.generation ≡ g) × (i.deadline ≡ Some t) →
    Has w k g t
has w k g t a = record { it = a.0; instance = a.1; generation = a.2; deadline = a.3 }

no_end : {A : Type 0} (w : Host) (k g t j : ℕ) (i : InstanceState) → Has w k g t → (w.services j).instance ≡ Some i → i.deadline ≡ None →
    k ≡ j → A
no_end w k g t j i a instance none e =
    let one = is_one (w.services k).instance a.it i a.instance (ap (λ (y : ℕ). (w.services y).instance) e ∙ instance) in
    is_none i.deadline t none (ap (λ (y : InstanceState). y.deadline) (sym one) ∙ a.deadline)

has_stays : (w : Host) (e : Event) (k g t : ℕ) → IsKept w → May w e → cuts k e ≡ false → Has w k g t →
    Has (after_event w e) k g t ⊎ HasNone (after_event w e) k g
has_stays w (Start j) k g t h m c a =
    inl (has (after_event w (Start j)) k g t (service_has w k g t j (record (w.services j) { pending = Some w.next }) a
    (λ e. ap (λ (y : ℕ). (w.services y).instance) (sym e))))
has_stays w (Cancel j) k g t h m c a =
    inl (has (after_event w (Cancel j)) k g t
    (service_has w k g t j (record (w.services j) { pending = None }) a (λ e. ap (λ (y : ℕ). (w.services y).instance) (sym e))))
has_stays w (Stop j i n) k g t h m c a =
    inl (has (after_event w (Stop j i n)) k g t
    (service_has w k g t j (record (w.services j) { instance = Some (stopping i (w.now + n)) }) a (λ e. no_end w k g t j i a m.0 m.1 e)))
has_stays w (Shorten j i n) k g t h m c a =
    inl (has (after_event w (Shorten j i n)) k g t
    (service_has w k g t j (record (w.services j) { instance = Some (stopping i (w.now + n)) }) a
    (λ e. true_is_false (sym (eqb-same k j (sym e)) ∙ c))))
has_stays w (Write n) k g t h m c a = inl (has (after_event w (Write n)) k g t (a.it, a.instance, a.generation, a.deadline))
has_stays w (Begin j n p) k g t h m c a =
    inl (has (after_event w (Begin j n p)) k g t
    (service_has w k g t j (record (w.services j)
    { instance = Some (record { generation = n; leader = p; deadline = None }); pending = None }) a
    (λ e. is_none (w.services k).instance a.it (ap (λ (y : ℕ). (w.services y).instance) e ∙ m.1) a.instance)))
has_stays w (Fail j) k g t h m c a = inl a
has_stays w (Report j i r) k g t h m c a =
    inl (has (after_event w (Report j i r)) k g t
    (service_has w k g t j (record (w.services j) { instance = Some (stopping i w.now) }) a (λ e. no_end w k g t j i a m.0 m.1 e)))
has_stays w (Kill q r) k g t h m c a = inl (has (after_event w (Kill q r)) k g t (a.it, a.instance, a.generation, a.deadline))
has_stays w (Reap j i r) k g t h m c a = by_test (k == j) refl
  where
    by_test : (b : Bool) → (k == j) ≡ b → Has (after_event w (Reap j i r)) k g t ⊎ HasNone (after_event w (Reap j i r)) k g
    by_test true e =
        let z = eqb-true k j e in
        inr (at_put (λ q s. s.found ≡ true → s.label ≡ k → s.generation ≡ g → ⊥) i.leader None w.processes (λ s f. is_none None s refl f)
        (λ q s d f found label generation. d (m.4 q s f found (label ∙ z))))
    by_test false e =
        inl (has (after_event w (Reap j i r)) k g t (service_has w k g t j (record (w.services j) { instance = None }) a
        (λ z. true_is_false (sym (eqb-same j k z) ∙ e))))
has_stays w (Clear j) k g t h m c a =
    inl (has (after_event w (Clear j)) k g t (service_has w k g t j (record (w.services j) { clean = true }) a
    (λ e. ap (λ (y : ℕ). (w.services y).instance) (sym e))))
has_stays w (Forget j) k g t h m c a =
    inl (has (after_event w (Forget j)) k g t (service_has w k g t j (record (w.services j) { pending = None; clean = false }) a
    (λ e. is_none (w.services k).instance a.it (ap (λ (y : ℕ). (w.services y).instance) e ∙ m.0) a.instance)))
has_stays w (Fork q r n) k g t h m c a = inl (has (after_event w (Fork q r n)) k g t (a.it, a.instance, a.generation, a.deadline))
has_stays w (Exit q r) k g t h m c a = inl (has (after_event w (Exit q r)) k g t (a.it, a.instance, a.generation, a.deadline))
has_stays w (Vanish q r) k g t h m c a = inl (has (after_event w (Vanish q r)) k g t (a.it, a.instance, a.generation, a.deadline))
has_stays w (Leave q r b) k g t h m c a = inl (has (after_event w (Leave q r b)) k g t (a.it, a.instance, a.generation, a.deadline))
has_stays w (Join q r n s) k g t h m c a = inl (has (after_event w (Join q r n s)) k g t (a.it, a.instance, a.generation, a.deadline))
has_stays w (Pass n) k g t h m c a = inl (has (after_event w (Pass n)) k g t (a.it, a.instance, a.generation, a.deadline))
has_stays w Restart k g t h m c a = true_is_false c

or_left : (a b : Bool) → a || b ≡ false → a ≡ false
or_left false b e = refl
or_left true b e = true_is_false e

or_right : (a b : Bool) → a || b ≡ false → b ≡ false
or_right false b e = e
or_right true b e = true_is_false e

lasts_step : (w : Host) (e : Event) (k g t : ℕ) → IsKept w → May w e → cuts k e ≡ false → Lasts w k g t → Lasts (after_event w e) k g t
lasts_step w e k g t h m c a =
    (begun_stays w e g a.0, elim a.1 [ inl x ↦ has_stays w e k g t h m c x | inr x ↦ inr (none_stays w e k g h m a.0 x) ])

lasts_all : (w x : Host) (es : List Event) (k g t : ℕ) → IsKept w → OccurAll w es x → list_any (cuts k) es ≡ false → Lasts w k g t →
    Lasts x k g t
lasts_all w x [] k g t h path c a = subst (λ (y : Host). Lasts y k g t) path a
lasts_all w x (e ∷ es) k g t h path c a =
    lasts_all path.0 x es k g t (subst (λ (y : Host). IsKept y) path.1.1 (steps.step w e path.1.0 h)) path.2
    (or_right (cuts k e) (list_any (cuts k) es) c)
    (subst (λ (y : Host). Lasts y k g t) path.1.1 (lasts_step w e k g t h path.1.0 (or_left (cuts k e) (list_any (cuts k) es) c) a))

pub grace_lasts : GraceLasts
grace_lasts x y later k n i path m more c q s e found label generation killed =
    let h = kept x path in
    let l = (h.services k).leader i m.0 in
    let begun = subst (λ (z : ℕ). Contains x.begun z) l.generation ((h.processes i.leader l.it l.there).begins l.leads) in
    let z = after_event x (Stop k i n) in
    let leader : Has z k i.generation (x.now + n) =
    record {
      it = stopping i (x.now + n);
      instance = at_service (λ (v : ServiceState). v.instance ≡ Some (stopping i (x.now + n))) k k
          (record (x.services k) { instance = Some (stopping i (x.now + n)) }) x.services (λ o. refl) (λ o. absurd (o refl));
      generation = refl;
      deadline = refl;
    } in
    let hz = steps.step x (Stop k i n) m h in
    let hy = steps.all_kept z y later more hz in
    elim (lasts_all z y later k i.generation (x.now + n) hz more c (begun, inl leader)).1 [
      | inl a ↦
          let due = (hy.processes q s e).spared found killed a.it (ap (λ (v : ℕ). (y.services v).instance) label ∙ a.instance) in
          let same = is_one a.it.deadline (x.now + n) due.at a.deadline due.set in
          let passed = due.passed in
          omega arith
      | inr none ↦ absurd (none q s e found label generation)
    ]

-- ---- starts stay pending, and may begin
same_pending : (w : Host) (k j : ℕ) (service : ServiceState) → (k ≡ j → service.pending ≡ (w.services k).pending) →
    (replaced j service w.services k).pending ≡ (w.services k).pending
same_pending w k j service f =
    at_service (λ (x : ServiceState). x.pending ≡ (w.services k).pending) j k service w.services f (λ e. refl)

pending_step : (w : Host) (e : Event) (k g : ℕ) → May w e → ends_wait k e ≡ false → (w.services k).pending ≡ Some g →
    ((after_event w e).services k).pending ≡ Some g
pending_step w (Start j) k g m c u =
    same_pending w k j (record (w.services j) { pending = Some w.next })
    (λ e. is_none (w.services j).pending g m.0 (ap (λ (y : ℕ). (w.services y).pending) (sym e) ∙ u)) ∙ u
pending_step w (Cancel j) k g m c u =
    same_pending w k j (record (w.services j) { pending = None }) (λ e. true_is_false (sym (eqb-same k j (sym e)) ∙ c)) ∙ u
pending_step w (Stop j i n) k g m c u =
    same_pending w k j (record (w.services j) { instance = Some (stopping i (w.now + n)) })
    (λ e. ap (λ (y : ℕ). (w.services y).pending) (sym e)) ∙ u
pending_step w (Shorten j i n) k g m c u =
    same_pending w k j (record (w.services j) { instance = Some (stopping i (w.now + n)) })
    (λ e. ap (λ (y : ℕ). (w.services y).pending) (sym e)) ∙ u
pending_step w (Write n) k g m c u = u
pending_step w (Begin j n p) k g m c u =
    same_pending w k j (record (w.services j) { instance = Some (record { generation = n; leader = p; deadline = None }); pending = None })
    (λ e. true_is_false (sym (eqb-same k j (sym e)) ∙ c)) ∙ u
pending_step w (Fail j) k g m c u = u
pending_step w (Report j i r) k g m c u =
    same_pending w k j (record (w.services j) { instance = Some (stopping i w.now) }) (λ e. ap (λ (y : ℕ). (w.services y).pending) (sym e))
    ∙ u
pending_step w (Kill q r) k g m c u = u
pending_step w (Reap j i r) k g m c u =
    same_pending w k j (record (w.services j) { instance = None }) (λ e. ap (λ (y : ℕ). (w.services y).pending) (sym e)) ∙ u
pending_step w (Clear j) k g m c u =
    same_pending w k j (record (w.services j) { clean = true }) (λ e. ap (λ (y : ℕ). (w.services y).pending) (sym e)) ∙ u
pending_step w (Forget j) k g m c u =
    same_pending w k j (record (w.services j) { pending = None; clean = false }) (λ e. true_is_false (sym (eqb-same k j (sym e)) ∙ c)) ∙ u
pending_step w (Fork q r n) k g m c u = u
pending_step w (Exit q r) k g m c u = u
pending_step w (Vanish q r) k g m c u = u
pending_step w (Leave q r b) k g m c u = u
pending_step w (Join q r n s) k g m c u = u
pending_step w (Pass n) k g m c u = u
pending_step w Restart k g m c u = true_is_false c

pub pending_stays : PendingStays
pending_stays w x [] k g u path c = subst (λ (y : Host). (y.services k).pending ≡ Some g) path u
pending_stays w x (e ∷ es) k g u path c =
    pending_stays path.0 x es k g
    (subst (λ (y : Host). (y.services k).pending ≡ Some g) path.1.1
    (pending_step w e k g path.1.0 (or_left (ends_wait k e) (list_any (ends_wait k) es) c) u))
    path.2 (or_right (ends_wait k e) (list_any (ends_wait k) es) c)

pub starts_go_on : StartsGoOn
starts_go_on x path k g u =
    let h = kept x path in
    record { beside = λ i. (h.services k).waits g i u; begins = λ r c p f. (u, r, c, f) }
