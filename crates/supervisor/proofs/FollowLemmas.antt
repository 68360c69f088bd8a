-- The walk in which labels follow RS, and what a label that follows is to run.
use Rattle.std.proofs.Common.{◌≡◌, ◌⊎◌, ◌+◌, ◌<◌, ◌≤◌, ℕ, zero, suc, Bool, true, false, is_some, cond, List, [], ◌∷◌, length, get_or}
use Rattle.std.proofs.Common.{Option, Some, None, refl, sym, ap, ◌∙◌, subst, inl, inr, arith}
use Rattle.std.specs.List.{slice_get}
use Rattle.std.proofs.Math.ListN.{set, length-set}
use Rattle.std.proofs.lemmas.Bool.{cases_lt}
use Rattle.std.proofs.lemmas.Option.{same_Some, none-some, slice_get_within, slice_get_cases}
use Rattle.process_keeper.specs.Following.{FollowsAt, followed, halted, begun_anew, are_same_wants, wanted}
use Rattle.process_keeper.specs.Inputs.{is_running, with_deadline}
use Rattle.process_keeper.specs.declared.instance.Instance.{Instance}
use Rattle.process_keeper.specs.declared.lifecycle.Lifecycle.{Lifecycle}
use Rattle.process_keeper.proofs.FollowLemmas.{halted_by}
use Rattle.rs_core.specs.declared.state.State.{State}
use Rattle.rs_core.specs.declared.state.State.TheVariants.{Down}
use Rattle.rs_core.specs.Late.{endpoint_in_force, in_force}
use Rattle.rs_core.specs.State.{RsRecord, state_at}
use Rattle.supervisor.specs.Following.{LabelsFollow}

-- ---- lists of which one element was replaced
pub set_cases : {X : Type 0} (xs : List X) (k j : ℕ) (y q : X) → slice_get (set xs k y) j ≡ Some q →
    ((j ≡ k) × (q ≡ y)) ⊎ ((j ≡ k → ⊥) × (slice_get xs j ≡ Some q))
set_cases [] k j y q e = absurd (none-some q e)
set_cases (x ∷ xs) zero zero y q e = inl (refl, sym (same_Some y q e))
set_cases (x ∷ xs) zero (suc j) y q e = inr (no_zero j, e)
  where
    no_zero : (j : ℕ) → suc j ≡ zero → ⊥
    no_zero j d = omega arith
set_cases (x ∷ xs) (suc k) zero y q e = inr (no_suc k, e)
  where
    no_suc : (k : ℕ) → zero ≡ suc k → ⊥
    no_suc k d = omega arith
set_cases (x ∷ xs) (suc k) (suc j) y q e = elim (set_cases xs k j y q e) [ inl a ↦ inl (ap suc a.0, a.1) | inr b ↦ inr (less j k b.0, b.1) ]
  where
    less : (j k : ℕ) → (j ≡ k → ⊥) → suc j ≡ suc k → ⊥
    less j k d e = d (omega arith)

pub set_here : {X : Type 0} (xs : List X) (k : ℕ) (x y : X) → slice_get xs k ≡ Some x → slice_get (set xs k y) k ≡ Some y
set_here [] k x y e = absurd (none-some x e)
set_here (z ∷ xs) zero x y e = refl
set_here (z ∷ xs) (suc k) x y e = set_here xs k x y e

pub set_there : {X : Type 0} (xs : List X) (k j : ℕ) (y : X) → (j ≡ k → ⊥) → slice_get (set xs k y) j ≡ slice_get xs j
set_there [] k j y d = refl
set_there (x ∷ xs) zero zero y d = absurd (d refl)
set_there (x ∷ xs) zero (suc j) y d = refl
set_there (x ∷ xs) (suc k) zero y d = refl
set_there (x ∷ xs) (suc k) (suc j) y d = set_there xs k j y (λ e. d (ap suc e))

pub is_within : {X : Type 0} (xs : List X) (k : ℕ) → k < length xs → (x : X) × (slice_get xs k ≡ Some x)
is_within xs k l = elim (slice_get_cases xs k).1 [ inl a ↦ (a.0, a.2) | inr b ↦ absurd (past (length xs) k l b.0) ]
  where
    past : (n k : ℕ) → k < n → n ≤ k → ⊥
    past n k l m = omega arith

pub none_at : (states : List State) (k : ℕ) → None ≡ slice_get states k → None ≡ endpoint_in_force (get_or states k Down)
none_at [] k e = refl
none_at (x ∷ xs) zero e = absurd (none-some x e)
none_at (x ∷ xs) (suc k) e = none_at xs k e

pub some_at : (states : List State) (k : ℕ) (state : State) → Some state ≡ slice_get states k →
    endpoint_in_force state ≡ endpoint_in_force (get_or states k Down)
some_at [] k state e = absurd (none-some state (sym e))
some_at (x ∷ xs) zero state e = ap endpoint_in_force (same_Some state x e)
some_at (x ∷ xs) (suc k) state e = some_at xs k state e

-- ---- the walk
pub record FollowTo (rs : RsRecord) (deadline k : ℕ) (old new : List Lifecycle) : Type 0 where
  pub count : length new ≡ length old
  pub each : (j : ℕ) (q : Lifecycle) → slice_get new j ≡ Some q →
      (p : Lifecycle) × (slice_get old j ≡ Some p) ×
      (((j < k) × (q ≡ followed p (in_force (state_at rs j)) deadline)) ⊎ ((k ≤ j) × (q ≡ p)))

pub none_yet : (rs : RsRecord) (deadline : ℕ) (old : List Lifecycle) → FollowTo rs deadline 0 old old
none_yet rs deadline old = record { count = refl; each = λ j q e. (q, e, inr (omega arith, refl)) }

followed_here : (old : List Lifecycle) (k : ℕ) (g : Option ℕ) (d : ℕ) (b : Bool) (new : List Lifecycle) → k < length old →
    FollowsAt old k g d b new →
    (p : Lifecycle) × (slice_get old k ≡ Some p) × (new ≡ set old k (followed p g d))
followed_here old k g d true new l f = f
followed_here old k g d false new l f = let x = is_within old k l in absurd (none-some x.0 (sym f.0 ∙ x.1))

pub one_more : (rs : RsRecord) (d k : ℕ) (old new next : List Lifecycle) (g : Option ℕ) (b : Bool) → FollowTo rs d k old new →
    k < length new →
    g ≡ in_force (state_at rs k) → FollowsAt new k g d b next → FollowTo rs d (k + 1) old next
one_more rs d k old new next g b h l same f =
    record {
      count = ap length at.2 ∙ length-set new k (followed at.0 g d) ∙ h.count;
      each = λ j q e.
          by j q (set_cases new k j (followed at.0 g d) q (sym (ap (λ (xs : List Lifecycle). slice_get xs j) at.2) ∙ e));
    }
  where
    at : (p : Lifecycle) × (slice_get new k ≡ Some p) × (next ≡ set new k (followed p g d))
    at = followed_here new k g d b next l f

    Each : ℕ → Lifecycle → Type 0
    Each j q = (p : Lifecycle) × (slice_get old j ≡ Some p) ×
        (((j < k + 1) × (q ≡ followed p (in_force (state_at rs j)) d)) ⊎ ((k + 1 ≤ j) × (q ≡ p)))

    here : (q : Lifecycle) → q ≡ followed at.0 g d →
        ((p : Lifecycle) × (slice_get old k ≡ Some p) ×
        (((k < k) × (at.0 ≡ followed p (in_force (state_at rs k)) d)) ⊎ ((k ≤ k) × (at.0 ≡ p)))) → Each k q
    here q e (p, o, inl a) = absurd (omega (arith, a.0))
    here q e (p, o, inr a) =
        (p, o, inl (omega arith, e ∙ ap (λ (x : Lifecycle). followed x g d) a.1 ∙ ap (λ (x : Option ℕ). followed p x d) same))

    there : (j : ℕ) (q : Lifecycle) → (j ≡ k → ⊥) →
        ((p : Lifecycle) × (slice_get old j ≡ Some p) × (((j < k) × (q ≡ followed p (in_force (state_at rs j)) d)) ⊎ ((k ≤ j) × (q ≡ p))))
        → Each j q
    there j q n (p, o, inl a) = (p, o, inl (omega (arith, a.0), a.1))
    there j q n (p, o, inr a) = elim (cases_lt k j)
        [ inl more ↦ (p, o, inr (omega (arith, more), a.1)) | inr less ↦ absurd (n (omega (arith, less, a.0))) ]

    by : (j : ℕ) (q : Lifecycle) → ((j ≡ k) × (q ≡ followed at.0 g d)) ⊎ ((j ≡ k → ⊥) × (slice_get new j ≡ Some q)) → Each j q
    by j q (inl a) = subst (λ (x : ℕ). Each x q) (sym a.0) (here q a.1 (h.each k at.0 at.1))
    by j q (inr a) = there j q a.0 (h.each j q a.1)

pub walked : (rs : RsRecord) (d k : ℕ) (old new : List Lifecycle) → length new ≤ k → FollowTo rs d k old new → LabelsFollow rs d old new
walked rs d k old new l h = record { count = h.count; each = λ j q e. by j q (slice_get_within new j q e) (h.each j q e) }
  where
    by : (j : ℕ) (q : Lifecycle) → j < length new →
        ((p : Lifecycle) × (slice_get old j ≡ Some p) × (((j < k) × (q ≡ followed p (in_force (state_at rs j)) d)) ⊎ ((k ≤ j) × (q ≡ p)))) →
        (p : Lifecycle) × (slice_get old j ≡ Some p) × (q ≡ followed p (in_force (state_at rs j)) d)
    by j q m (p, o, inl a) = (p, o, a.1)
    by j q m (p, o, inr a) = absurd (omega (arith, l, m, a.0))

-- ---- a label that follows
-- No start is pending beside an instance that is up.
abbrev pub IsAlone : Lifecycle → Type 0
IsAlone p = is_some p.pending ≡ true → is_running p.instance ≡ false

pub stopped_not_running : (o : Option Instance) (at : ℕ) → is_running (with_deadline o at) ≡ false
stopped_not_running None at = refl
stopped_not_running (Some b) at = refl

pub followed_by : (P : Lifecycle → Type 0) (p : Lifecycle) (g : Option ℕ) (d : ℕ) → P p → P (begun_anew (halted p d) g) → P (followed p g d)
followed_by P p g d same other = by_test (are_same_wants (wanted p) g)
  where
    by_test : (b : Bool) → P (cond b p (begun_anew (halted p d) g))
    by_test true = same
    by_test false = other

halted_not_running : (p : Lifecycle) (d : ℕ) → is_running (halted p d).instance ≡ false
halted_not_running p d = halted_by (λ q. is_running q.instance ≡ false) p d (λ e. stopped_not_running p.instance d) (λ e. e)

begun_not_running : (p : Lifecycle) (g : Option ℕ) → is_running p.instance ≡ false → is_running (begun_anew p g).instance ≡ false
begun_not_running p None e = e
begun_not_running p (Some g) e = e

pub followed_alone : (p : Lifecycle) (g : Option ℕ) (d : ℕ) → IsAlone p → IsAlone (followed p g d)
followed_alone p g d h = followed_by IsAlone p g d h (λ e. begun_not_running (halted p d) g (halted_not_running p d))

-- Whether the label keeps its leader.
abbrev pub KeepsLeader : Lifecycle → Lifecycle → Type 0
KeepsLeader p q = (i : Instance) → p.instance ≡ Some i →
    (j : Instance) × (q.instance ≡ Some j) × (j.leader ≡ i.leader) × (j.generation ≡ i.generation)

pub stopped_keeps : (o : Option Instance) (at : ℕ) (i : Instance) → o ≡ Some i →
    (j : Instance) × (with_deadline o at ≡ Some j) × (j.leader ≡ i.leader) × (j.generation ≡ i.generation)
stopped_keeps None at i e = absurd (none-some i e)
stopped_keeps (Some b) at i e = (
  record { generation = b.generation; leader = b.leader; deadline = Some at },
  refl,
  ap (λ (x : Instance). x.leader) (same_Some b i e),
  ap (λ (x : Instance). x.generation) (same_Some b i e),
)

begun_keeps : (p q : Lifecycle) (g : Option ℕ) → KeepsLeader p q → KeepsLeader p (begun_anew q g)
begun_keeps p q None h = h
begun_keeps p q (Some g) h = h

pub followed_keeps : (p : Lifecycle) (g : Option ℕ) (d : ℕ) → KeepsLeader p (followed p g d)
followed_keeps p g d = followed_by (KeepsLeader p) p g d (λ i e. (i, e, refl, refl)) (begun_keeps p (halted p d) g halted_keeps)
  where
    halted_keeps : KeepsLeader p (halted p d)
    halted_keeps = halted_by (KeepsLeader p) p d (λ r i e. stopped_keeps p.instance d i e) (λ r i e. (i, e, refl, refl))
