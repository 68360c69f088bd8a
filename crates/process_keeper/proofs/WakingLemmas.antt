-- Settled labels are settled until the first time that is due.
use Rattle.std.proofs.Common.{◌≡◌, ◌⊎◌, ◌<◌, ℕ, Bool, true, false, cond, List, [], ◌∷◌, Option, Some, None, refl, sym, ap, ◌∙◌, subst, inl}
use Rattle.std.proofs.Common.{inr, arith, min}
use Rattle.std.specs.List.{All, fold}
use Rattle.std.proofs.lemmas.Bool.{lt-ltb, false≢true}
use Rattle.std.proofs.lemmas.List.Elements.{All-cons, All-head, All-nil, All-tail}
use Rattle.std.proofs.lemmas.Option.{same_Some, none-some}
use Rattle.process_rule.specs.Supervisor.{InstanceState}
use Rattle.process_keeper.specs.Doing.{IsSettled}
use Rattle.process_keeper.specs.Sight.{instance_state, some_instance}
use Rattle.process_keeper.specs.Waking.{due_at, if_later, kill_at, never, wakes_at, wakes_by}
use Rattle.process_keeper.specs.declared.instance.Instance.{Instance}
use Rattle.process_keeper.specs.declared.lifecycle.Lifecycle.{Lifecycle}

later_is : (now at t : ℕ) → now < at → t < if_later now at → t < at
later_is now at t l m = subst (λ (b : Bool). t < cond b at never) (lt-ltb now at l) m

fork_waits : (o : Option Instance) (q : Option ℕ) (killed : Bool) (retry now t g : ℕ) → q ≡ Some g → some_instance o ≡ None → now < retry →
    t < wakes_by o q killed retry now → t < retry
fork_waits (Some i) q killed retry now t g e none l m = absurd (none-some (instance_state i) (sym none))
fork_waits None None killed retry now t g e none l m = absurd (none-some g e)
fork_waits None (Some a) killed retry now t g e none l m = later_is now retry t l m

deadline_waits : (d : Option ℕ) (killed : Bool) (now t at : ℕ) → d ≡ Some at → (now < at) ⊎ (killed ≡ true) → t < kill_at d killed now →
    (t < at) ⊎ (killed ≡ true)
deadline_waits None killed now t at e h m = absurd (none-some at e)
deadline_waits (Some x) true now t at e h m = inr refl
deadline_waits (Some x) false now t at e (inr k) m = absurd (false≢true k)
deadline_waits (Some x) false now t at e (inl l) m =
    inl (subst (λ (y : ℕ). t < y) (same_Some x at e) (later_is now x t (subst (λ (y : ℕ). now < y) (sym (same_Some x at e)) l) m))

kill_waits : (o : Option Instance) (q : Option ℕ) (killed : Bool) (retry now t at : ℕ) (i : InstanceState) → some_instance o ≡ Some i →
    i.deadline ≡ Some at → (now < at) ⊎ (killed ≡ true) → t < wakes_by o q killed retry now → (t < at) ⊎ (killed ≡ true)
kill_waits None q killed retry now t at i e d h m = absurd (none-some i e)
kill_waits (Some b) q killed retry now t at i e d h m =
    deadline_waits b.deadline killed now t at (ap (λ (x : InstanceState). x.deadline) (same_Some (instance_state b) i e) ∙ d) h m

settled_until : (p : Lifecycle) (now t : ℕ) → t < wakes_at p now → IsSettled p now → IsSettled p t
settled_until p now t m h = record {
  clean = h.clean;
  waits = λ c g e none. fork_waits p.instance p.pending p.is_killed p.retry_at now t g e none (h.waits c g e none) m;
  up = h.up;
  ends = λ c i e at d.
      ((h.ends c i e at d).0, kill_waits p.instance p.pending p.is_killed p.retry_at now t at i e d (h.ends c i e at d).1 m);
  scanned = h.scanned;
}

abbrev earlier : ℕ → ℕ → Lifecycle → ℕ
earlier now at p = min at (wakes_at p now)

fold_within : (labels : List Lifecycle) (now at t : ℕ) → t < fold (earlier now) at labels → t < at
fold_within [] now at t m = m
fold_within (p ∷ labels) now at t m = let l = fold_within labels now (min at (wakes_at p now)) t m in omega (arith, l)

all_until : (labels : List Lifecycle) (now at t : ℕ) → t < fold (earlier now) at labels → All (λ p. IsSettled p now) labels →
    All (λ p. IsSettled p t) labels
all_until [] now at t m h = All-nil (λ q. IsSettled q t)
all_until (p ∷ labels) now at t m h =
    let l = fold_within labels now (min at (wakes_at p now)) t m in
    All-cons (λ q. IsSettled q t) p labels (settled_until p now t (omega (arith, l)) (All-head (λ q. IsSettled q now) p labels h))
    (all_until labels now (min at (wakes_at p now)) t m (All-tail (λ q. IsSettled q now) p labels h))

pub settled_until_due : (labels : List Lifecycle) (now t : ℕ) → t < due_at labels now → All (λ p. IsSettled p now) labels →
    All (λ p. IsSettled p t) labels
settled_until_due labels now t m h = all_until labels now never t m h
