-- Numbers, and changes that each drew their own.
use Rattle.std.proofs.Common.{◌≡◌, ◌==◌, ℕ, ◌+◌, ◌<◌, ◌≤◌, Bool, true, false, cond, List, [], ◌∷◌, ◌++◌, get_or, refl, ap, sym, ◌∙◌, subst}
use Rattle.std.proofs.Common.{inl, inr, ◌⊎◌, arith, zero, suc, Contains}
use Rattle.std.proofs.Math.ListN.{set}
use Rattle.std.proofs.lemmas.Bool.Decides.{eqb_tells}
use Rattle.std.proofs.lemmas.List.Elements.{Contains-append_cases}
use Rattle.ds_names.specs.Kind.{is_label}
use Rattle.ds_names.specs.declared.version.Version.{Version}
use Rattle.ds_entry.specs.Change.{ChangeRecord}
use Rattle.ds_entry.proofs.Members.{Contains-nil, Contains-head, Contains-tail, Contains-cons, Contains-single}
use Rattle.rs_core.specs.Numbering.{NumbererRecord, numberer, Gives}
use Rattle.driver_tables.proofs.TestLemmas.{equal_number}
use Rattle.ds_system.specs.Drawing.{numbers_of}
use Rattle.ds_system.specs.Numbers.{IsBefore, IsDrawnBefore, NumbersAreDrawnOnce}
use Rattle.ds_system.proofs.Kept.{next_version}

unequal_numbers : (m n : ℕ) → m == n ≡ false → m ≡ n → ⊥
unequal_numbers m n e same = elim (eqb_tells m n) [ inl y ↦ (let q : true ≡ false = sym y.0 ∙ e in cc) | inr d ↦ d.1 same ]

pub by_order : (i j : ℕ) → (i < j) ⊎ ((i ≡ j) ⊎ (j < i))
by_order zero zero = inr (inl refl)
by_order zero (suc j) = inl (omega arith)
by_order (suc i) zero = inr (inr (omega arith))
by_order (suc i) (suc j) = elim (by_order i j)
    [ inl l ↦ inl (omega arith) | inr h ↦ inr (elim h [ inl e ↦ inl (ap suc e) | inr l ↦ inr (omega arith) ]) ]

-- an element after a write
pub after_write : {X : Type 0} (xs : List X) (p i : ℕ) (x d : X) →
    (get_or (set xs p x) i d ≡ get_or xs i d) ⊎ ((i ≡ p) × (get_or (set xs p x) i d ≡ x))
after_write [] p i x d = inl refl
after_write (y ∷ ys) zero zero x d = inr (refl, refl)
after_write (y ∷ ys) zero (suc i) x d = inl refl
after_write (y ∷ ys) (suc p) zero x d = inl refl
after_write (y ∷ ys) (suc p) (suc i) x d = elim (after_write ys p i x d) [ inl e ↦ inl e | inr h ↦ inr (ap suc h.0, h.1) ]

-- ---- the order of versions
pub before_not_same : (v w : Version) → IsBefore v w → v ≡ w → ⊥
before_not_same v w (inl l) e = let q : v.epoch ≡ w.epoch = ap (λ (z : Version). z.epoch) e in omega arith
before_not_same v w (inr (same, l)) e = let q : v.seq ≡ w.seq = ap (λ (z : Version). z.seq) e in omega arith

-- ---- the numbers of a generation
pub numbers_of_generation : (n : NumbererRecord) (g : ℕ) → (numbers_of n g).generation ≡ g
numbers_of_generation n g = by (n.generation == g) refl
  where
    by : (b : Bool) → n.generation == g ≡ b → (cond b n (numberer g 0)).generation ≡ g
    by true e = equal_number n.generation g e
    by false e = refl

-- a number drawn earlier comes before those left of the same or a later generation
pub before_left : (n : NumbererRecord) (g : ℕ) (v : Version) → n.generation ≤ g → IsBefore v (next_version n) →
    IsBefore v (next_version (numbers_of n g))
before_left n g v le h = by (n.generation == g) refl h
  where
    less : (m : ℕ) → m ≤ g → (m ≡ g → ⊥) → v.epoch ≤ m → v.epoch < g
    less m l never k = elim (by_order m g) [
      | inl i ↦ omega arith
      | inr p ↦ elim p
          [ inl q ↦ absurd (never q) | inr i ↦ absurd (omega arith) ]
    ]

    by : (b : Bool) → n.generation == g ≡ b → IsBefore v (next_version n) → IsBefore v (next_version (cond b n (numberer g 0)))
    by true e h = h
    by false e (inl l) = inl (omega arith)
    by false e (inr (same, l)) = inl (less n.generation le (unequal_numbers n.generation g e) (omega arith))

-- a drawn number is no longer next, and what came before it still does
pub given_before : (old new : NumbererRecord) (v w : Version) → Gives old new w → IsBefore v (next_version old) →
    IsBefore v (next_version new)
given_before old new v w g h = subst (λ (z : NumbererRecord). IsBefore v (next_version z)) (sym g.after) (by h)
  where
    by : IsBefore v (next_version old) → IsBefore v (next_version (numberer old.generation (old.next + 1)))
    by (inl l) = inl l
    by (inr (same, l)) = inr (same, omega arith)

pub given_itself : (old new : NumbererRecord) (w : Version) → Gives old new w → IsBefore w (next_version new)
given_itself old new w g =
    let epoch : w.epoch ≡ old.generation = ap (λ (z : Version). z.epoch) g.value in
    let seq : w.seq ≡ old.next = ap (λ (z : Version). z.seq) g.value in
    subst (λ (z : NumbererRecord). IsBefore w (next_version z)) (sym g.after) (inr (epoch, omega arith))

-- ---- changes that each drew their own number
pub drawn_more : (made : List ChangeRecord) (d : ChangeRecord) → NumbersAreDrawnOnce made →
    ((c : ChangeRecord) → Contains made c → IsDrawnBefore c d) → NumbersAreDrawnOnce (made ++ d ∷ [])
drawn_more [] d once all = (λ x h. absurd (Contains-nil x h), tt)
drawn_more (c ∷ made) d once all = (
  λ x h. elim (Contains-append_cases made (d ∷ []) x h) [
    | inl i ↦ once.0 x i
    | inr i ↦ subst (IsDrawnBefore c) (sym (Contains-single d x i)) (all c (Contains-head c made))
  ],
  drawn_more made d once.1 (λ x h. all x (Contains-tail c made x h)),
)

-- labels draw no numbers
pub drawn_labels : (made labels : List ChangeRecord) → NumbersAreDrawnOnce made →
    ((c : ChangeRecord) → Contains labels c → is_label c.key.kind ≡ true) → NumbersAreDrawnOnce (made ++ labels)
drawn_labels [] [] once all = tt
drawn_labels [] (l ∷ labels) once all = (
  λ x h n m o. (let q : true ≡ false = sym (all l (Contains-head l labels)) ∙ n in cc),
  drawn_labels [] labels tt
      (λ x h. all x (Contains-tail l labels x h)),
)
drawn_labels (c ∷ made) labels once all = (
  λ x h. elim (Contains-append_cases made labels x h) [
    | inl i ↦ once.0 x i
    | inr i ↦ λ n m o. (let q : true ≡ false = sym (all x i) ∙ m in cc)
  ],
  drawn_labels made labels once.1 all,
)

-- so two entries of one owner with one version are the same
pub one_number : (made : List ChangeRecord) (c d : ChangeRecord) → NumbersAreDrawnOnce made → Contains made c → Contains made d →
    is_label c.key.kind ≡ false → is_label d.key.kind ≡ false → c.owner ≡ d.owner → c.version ≡ d.version → c ≡ d
one_number [] c d once i j n m o v = absurd (Contains-nil c i)
one_number (x ∷ made) c d once i j n m o v =
    by (Contains-cons x made c i) (Contains-cons x made d j) (λ k l. one_number made c d once.1 k l n m o v)
  where
    by : (c ≡ x) ⊎ Contains made c → (d ≡ x) ⊎ Contains made d → (Contains made c → Contains made d → c ≡ d) → c ≡ d
    by (inl p) (inl q) rest = p ∙ sym q
    by (inl p) (inr k) rest = absurd (before_not_same c.version d.version
        (subst (λ (z : ChangeRecord). IsDrawnBefore z d) (sym p) (once.0 d k) n m o) v)
    by (inr k) (inl q) rest = absurd (before_not_same d.version c.version
        (subst (λ (z : ChangeRecord). IsDrawnBefore z c) (sym q) (once.0 c k) m n (sym o)) (sym v))
    by (inr k) (inr l) rest = rest k l
