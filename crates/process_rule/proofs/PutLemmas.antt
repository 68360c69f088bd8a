-- Processes and services with something else at one place.
use Rattle.std.proofs.Common.{◌≡◌, ◌==◌, cond, ℕ, Bool, true, false, List, Option, Some, None, refl, sym, ap, ◌∙◌, subst, arith}
use Rattle.std.proofs.lemmas.Bool.{eqb-true}
use Rattle.std.proofs.lemmas.Option.{same_Some}
use Rattle.process_rule.specs.Kernel.{Process, Processes, put_process}
use Rattle.process_rule.specs.Supervisor.{InstanceState, ServiceState, replaced}
use Rattle.process_rule.specs.Events.{IsDue}
use Rattle.process_rule.proofs.Standing.{Holds, IsKeptProcess, IsKeptLeader}

pub true_is_false : {A : Type 0} → true ≡ false → A
true_is_false e = absurd (cc)

pub is_one : {A : Type 0} (o : Option A) (a b : A) → o ≡ Some a → o ≡ Some b → a ≡ b
is_one o a b e f = same_Some a b (sym e ∙ f)

pub is_none : {A B : Type 0} (o : Option A) (a : A) → o ≡ None → o ≡ Some a → B
is_none o a e f = absurd (no_some a (sym e ∙ f))
  where
    no_some : {A : Type 0} (a : A) → None ≡ Some a → ⊥
    no_some a e = cc

pub eqb-same : (j k : ℕ) → k ≡ j → (k == j) ≡ true
eqb-same j k e = grind arith

pub differ : (j k : ℕ) → (k == j) ≡ false → k ≡ j → ⊥
differ j k e s = true_is_false (sym (eqb-same j k s) ∙ e)

-- ---- processes
pub at_put : (P : ℕ → Process → Type 0) (n : ℕ) (o : Option Process) (processes : Processes) → ((r : Process) → o ≡ Some r → P n r) →
    ((q : ℕ) (r : Process) → (q ≡ n → ⊥) → processes q ≡ Some r → P q r) → (q : ℕ) (r : Process) → put_process n o processes q ≡ Some r →
    P q r
at_put P n o processes f g q r = by_test (q == n) refl
  where
    by_test : (b : Bool) → (q == n) ≡ b → cond b o (processes q) ≡ Some r → P q r
    by_test true t e = subst (λ (z : ℕ). P z r) (sym (eqb-true q n t)) (f r e)
    by_test false t e = g q r (differ n q t) e

-- A process that is the same as far as a supervisor minds.
pub record Like (o : Option Process) (r : Process) : Type 0 where
  pub it : Process
  pub is : o ≡ Some it
  pub leads : it.leads ≡ r.leads
  pub run : it.run ≡ r.run
  pub label : it.label ≡ r.label
  pub generation : it.generation ≡ r.generation
  pub found : it.found ≡ r.found

pub put_leader : (n : ℕ) (o : Option Process) (processes : Processes) (run k : ℕ) (i : InstanceState) → IsKeptLeader processes run k i →
    ((r : Process) → processes n ≡ Some r → r.leads ≡ true → r.run ≡ run → r.label ≡ k → Like o r) →
    IsKeptLeader (put_process n o processes) run k i
put_leader n o processes run k i l f = by_test (i.leader == n) refl
  where
    by_test : (b : Bool) → (i.leader == n) ≡ b → IsKeptLeader (put_process n o processes) run k i
    by_test true t =
        let e = eqb-true i.leader n t in
        let m = f l.it (subst (λ (z : ℕ). processes z ≡ Some l.it) e l.there) l.leads l.of_run l.label in
        record {
          it = m.it;
          there = ap (λ (b : Bool). cond b o (processes i.leader)) t ∙ m.is;
          leads = m.leads ∙ l.leads;
          of_run = m.run ∙ l.of_run;
          label = m.label ∙ l.label;
          generation = m.generation ∙ l.generation;
          sees = m.found ∙ l.sees;
        }
    by_test false t =
        record {
          it = l.it;
          there = ap (λ (b : Bool). cond b o (processes i.leader)) t ∙ l.there;
          leads = l.leads;
          of_run = l.of_run;
          label = l.label;
          generation = l.generation;
          sees = l.sees;
        }

-- ---- services
pub at_service : (P : ServiceState → Type 0) (j k : ℕ) (service : ServiceState) (services : ℕ → ServiceState) → (k ≡ j → P service) →
    ((k ≡ j → ⊥) → P (services k)) →
    P (replaced j service services k)
at_service P j k service services f g = by_test (k == j) refl
  where
    by_test : (b : Bool) → (k == j) ≡ b → P (cond b service (services k))
    by_test true e = f (eqb-true k j e)
    by_test false e = g (differ j k e)

-- A process beside another service.
pub record Beside (k : ℕ) (service : ServiceState) (now : ℕ) (r : Process) : Type 0 where
  pub held : r.label ≡ k → r.found ≡ true → service.clean ≡ true → Holds service r.generation
  pub group : (i : InstanceState) → service.instance ≡ Some i → r.group ≡ i.leader → (r.label ≡ k) × (r.found ≡ true)
  pub spared : r.label ≡ k → r.found ≡ true → r.killed ≡ true → (i : InstanceState) → service.instance ≡ Some i → IsDue i now

pub service_process : (services : ℕ → ServiceState) (begun reported : List ℕ) (now : ℕ) (current leaders : ℕ → ℕ) (q : ℕ) (r : Process)
    (k : ℕ) (service : ServiceState) →
    IsKeptProcess services begun reported now current leaders q r → Beside k service now r →
    IsKeptProcess (replaced k service services) begun reported now current leaders q r
service_process services begun reported now current leaders q r k service p b =
    record {
      generation = p.generation;
      leader = p.leader;
      begins = p.begins;
      dead = p.dead;
      held = λ s. at_service (λ (x : ServiceState). x.clean ≡ true → Holds x r.generation) k r.label service services (λ e. b.held e s)
          (λ e. p.held s);
      group = λ j i. at_service (λ (x : ServiceState). x.instance ≡ Some i → r.group ≡ i.leader → (r.label ≡ j) × (r.found ≡ true)) k j
          service services
          (λ e u v. subst (λ (z : ℕ). (r.label ≡ z) × (r.found ≡ true)) (sym e) (b.group i u v))
          (λ e. p.group j i);
      spared = λ s d i. at_service (λ (x : ServiceState). x.instance ≡ Some i → IsDue i now) k r.label service services
          (λ e. b.spared e s d i) (λ e. p.spared s d i);
    }

-- Beside a service with the same instance.
pub beside_same : (services : ℕ → ServiceState) (begun reported : List ℕ) (now : ℕ) (current leaders : ℕ → ℕ) (q : ℕ) (r : Process) (k : ℕ)
    (service : ServiceState) →
    IsKeptProcess services begun reported now current leaders q r → service.instance ≡ (services k).instance →
    service.clean ≡ (services k).clean → Beside k service now r
beside_same services begun reported now current leaders q r k service p instance clean =
    record {
      held = λ e s c.
          (let old = p.held s (ap (λ (z : ℕ). (services z).clean) e ∙ sym clean ∙ c) in
          (old.0, instance ∙ ap (λ (z : ℕ). (services z).instance) (sym e) ∙ old.1, old.2));
      group = λ i u. p.group k i (sym instance ∙ u);
      spared = λ e s d i u. p.spared s d i (ap (λ (z : ℕ). (services z).instance) e ∙ sym instance ∙ u);
    }

pub replaced_same : (k : ℕ) (service : ServiceState) (services : ℕ → ServiceState) → replaced k service services k ≡ service
replaced_same k service services = ap (λ (b : Bool). cond b service (services k)) (eqb-same k k refl)

pub put_same : (n : ℕ) (o : Option Process) (processes : Processes) → put_process n o processes n ≡ o
put_same n o processes = ap (λ (b : Bool). cond b o (processes n)) (eqb-same n n refl)

-- A function with another value at k.
abbrev pub set : ℕ → ℕ → (ℕ → ℕ) → ℕ → ℕ
set k v f j = cond (j == k) v (f j)

pub set_same : (k v : ℕ) (f : ℕ → ℕ) → set k v f k ≡ v
set_same k v f = ap (λ (b : Bool). cond b v (f k)) (eqb-same k k refl)

pub set_other : (k v j : ℕ) (f : ℕ → ℕ) → (j ≡ k → ⊥) → set k v f j ≡ f j
set_other k v j f d = by_test (j == k) refl
  where
    by_test : (b : Bool) → (j == k) ≡ b → cond b v (f j) ≡ f j
    by_test true e = absurd (d (eqb-true j k e))
    by_test false e = refl
