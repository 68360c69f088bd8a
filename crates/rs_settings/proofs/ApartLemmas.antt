-- No fault was found among the services, so any two of them are apart.
use Rattle.std.proofs.Common.{◌≡◌, ℕ, ◌<◌, ◌||◌, ◌+◌, Bool, true, false, zero, suc, List, [], ◌∷◌, ◌++◌, length, get_or, take, Option, Some}
use Rattle.std.proofs.Common.{None, refl, sym, subst, ◌∙◌, arith, append_assoc, inl, inr}
use Rattle.std.specs.List.{list_any}
use Rattle.std.specs.Option.{option_or, option_map}
use Rattle.std.proofs.lemmas.Bool.{cases_Bool, false≢true, or_parts}
use Rattle.std.proofs.lemmas.List.{get_or-take, length-take-le, append-nil}
use Rattle.rs_settings.specs.declared.service.Service.{Service}
use Rattle.rs_settings.specs.declared.fault.SettingsCause.TheVariants.{TwoLabels, TwoUnits, SharedName}
use Rattle.rs_settings.specs.Fault.{at_service}
use Rattle.rs_settings.specs.Values.{is_same}
use Rattle.rs_settings.specs.Shared.{share_label, share_unit, has_name, repeats, first_clash, first_repeat}
use Rattle.rs_settings.specs.Apart.{AreDistinct, ServicesAreApart}
use Rattle.rs_settings.proofs.SharedLemmas.{has_name-append}
use Rattle.rs_settings.proofs.AscendingLemmas.{has_name-same}

or_true : (a b : Bool) → b ≡ true → a || b ≡ true
or_true true b h = refl
or_true false b h = h

-- what no element passes, at an index
none_at : (test : Service → Bool) (xs : List Service) (i : ℕ) (d : Service) → list_any test xs ≡ false → i < length xs →
    test (get_or xs i d) ≡ false
none_at test [] i d h l = absurd (omega arith)
none_at test (x ∷ xs) zero d h l = (or_parts (test x) (list_any test xs) h).0
none_at test (x ∷ xs) (suc i) d h l = none_at test xs i d (or_parts (test x) (list_any test xs) h).1 (omega arith)

-- no service shares with one before it
none_before : (share : Service → Service → Bool) (before ss : List Service) (j : ℕ) (d : Service) → first_clash share before ss ≡ None →
    j < length ss → list_any (share (get_or ss j d)) (before ++ take j ss) ≡ false
none_before share before [] j d h l = absurd (omega arith)
none_before share before (s ∷ ss) j d h l = elim (cases_Bool (list_any (share s) before)) [
  | inl t ↦ (let bad : Some (length before) ≡ None = rw t at h in absurd (cc))
  | inr f ↦ at j l f (λ k lk. none_before share (before ++ s ∷ []) ss k d (rw f at h) lk)
]
  where
    at : (j : ℕ) → j < length (s ∷ ss) → list_any (share s) before ≡ false →
        ((k : ℕ) → k < length ss → list_any (share (get_or ss k d)) ((before ++ s ∷ []) ++ take k ss) ≡ false) →
        list_any (share (get_or (s ∷ ss) j d)) (before ++ take j (s ∷ ss)) ≡ false
    at zero l here later = subst (λ (z : List Service). list_any (share s) z ≡ false) (sym (append-nil before)) here
    at (suc k) l here later = subst (λ (z : List Service). list_any (share (get_or ss k d)) z ≡ false)
        (append_assoc before (s ∷ []) (take k ss)) (later k (omega arith))

distinct : (share : Service → Service → Bool) (ss : List Service) → first_clash share [] ss ≡ None → AreDistinct share ss
distinct share ss h i j d below l =
    let t = none_at (share (get_or ss j d)) (take j ss) i d (none_before share [] ss j d h l)
    (subst (λ n. i < n) (sym (length-take-le j ss (omega arith))) below) in
    subst (λ (z : Service). share (get_or ss j d) z ≡ false) (get_or-take j ss i d below) t

-- where no name is repeated, none of the names was there before
not_before : (before names : List (List ℕ)) (n : List ℕ) → repeats before names ≡ false → has_name names n ≡ true →
    has_name before n ≡ false
not_before before [] n h i = absurd (false≢true i)
not_before before (m ∷ ms) n h i = elim (cases_Bool (is_same n m)) [
  | inl t ↦ has_name-same before m n t ∙ parts.0
  | inr f ↦ (or_parts (has_name before n) (has_name (m ∷ []) n)
      (sym (has_name-append before (m ∷ []) n) ∙ not_before (before ++ m ∷ []) ms n parts.1 (rw f at i))).0
]
  where
    parts : (has_name before m ≡ false) × (repeats (before ++ m ∷ []) ms ≡ false)
    parts = or_parts (has_name before m) (repeats (before ++ m ∷ []) ms) h

-- fewer names before repeat no more
repeats-less : (a b names : List (List ℕ)) → ((n : List ℕ) → has_name a n ≡ true → has_name b n ≡ true) → repeats b names ≡ false →
    repeats a names ≡ false
repeats-less a b [] le h = refl
repeats-less a b (m ∷ ms) le h = rw absent (repeats-less (a ++ m ∷ []) (b ++ m ∷ []) ms more parts.1)
  where
    parts : (has_name b m ≡ false) × (repeats (b ++ m ∷ []) ms ≡ false)
    parts = or_parts (has_name b m) (repeats (b ++ m ∷ []) ms) h

    absent : has_name a m ≡ false
    absent = elim (cases_Bool (has_name a m)) [ inl t ↦ absurd (false≢true (sym parts.0 ∙ le m t)) | inr f ↦ f ]

    wider : (p q r : Bool) → (p ≡ true → q ≡ true) → p || r ≡ true → q || r ≡ true
    wider true q r f t = rw (f refl) refl
    wider false q r f t = or_true q r t

    more : (n : List ℕ) → has_name (a ++ m ∷ []) n ≡ true → has_name (b ++ m ∷ []) n ≡ true
    more n t = has_name-append b (m ∷ []) n ∙
        wider (has_name a n) (has_name b n) (has_name (m ∷ []) n) (le n) (sym (has_name-append a (m ∷ []) n) ∙ t)

-- the names of service j are new after some names, among which are those of all services before it
abbrev AreNew : List (List ℕ) → List Service → ℕ → Service → Type 0
AreNew before ss j d = (b : List (List ℕ)) × (repeats (before ++ b) (get_or ss j d).publishes ≡ false) ×
    ((i : ℕ) (n : List ℕ) → i < j → has_name (get_or ss i d).publishes n ≡ true → has_name (before ++ b) n ≡ true)

new_here : (before : List (List ℕ)) (s : Service) (ss : List Service) (d : Service) → repeats before s.publishes ≡ false →
    AreNew before (s ∷ ss) zero d
new_here before s ss d f =
    ([], subst (λ (z : List (List ℕ)). repeats z s.publishes ≡ false) (sym (append-nil before)) f, λ i n below t. absurd (omega arith))

new_later : (before : List (List ℕ)) (s : Service) (ss : List Service) (m : ℕ) (d : Service) → AreNew (before ++ s.publishes) ss m d →
    AreNew before (s ∷ ss) (suc m) d
new_later before s ss m d (b, new, known) = (
  s.publishes ++ b,
  subst (λ (z : List (List ℕ)). repeats z (get_or ss m d).publishes ≡ false) (append_assoc before s.publishes b) new,
  all_before,
)
  where
    all_before : (i : ℕ) (n : List ℕ) → i < suc m → has_name (get_or (s ∷ ss) i d).publishes n ≡ true →
        has_name (before ++ (s.publishes ++ b)) n ≡ true
    all_before zero n below t = has_name-append before (s.publishes ++ b) n ∙
        or_true (has_name before n) (has_name (s.publishes ++ b) n) (has_name-append s.publishes b n ∙ rw t refl)
    all_before (suc i) n below t = subst (λ (z : List (List ℕ)). has_name z n ≡ true) (append_assoc before s.publishes b)
        (known i n (omega arith) t)

new_names : (before : List (List ℕ)) (k : ℕ) (ss : List Service) (j : ℕ) (d : Service) → first_repeat before k ss ≡ None → j < length ss →
    AreNew before ss j d
new_names before k [] j d h l = absurd (omega arith)
new_names before k (s ∷ ss) zero d h l = elim (cases_Bool (repeats before s.publishes)) [
  | inl t ↦ (let bad : Some k ≡ None = rw t at h in absurd (cc))
  | inr f ↦ new_here before s ss d f
]
new_names before k (s ∷ ss) (suc m) d h l = elim (cases_Bool (repeats before s.publishes)) [
  | inl t ↦ (let bad : Some k ≡ None = rw t at h in absurd (cc))
  | inr f ↦ new_later before s ss m d (new_names (before ++ s.publishes) (k + 1) ss m d (rw f at h) (omega arith))
]

not_mapped : {A C : Type 0} (f : A → C) (o : Option A) → option_map f o ≡ None → o ≡ None
not_mapped f None h = refl
not_mapped f (Some a) h = let bad : Some (f a) ≡ None = h in absurd (cc)

neither : {A : Type 0} (o p : Option A) → option_or o p ≡ None → (o ≡ None) × (p ≡ None)
neither None p h = (refl, h)
neither (Some a) p h = let bad : Some a ≡ None = h in absurd (cc)

-- so a later service publishes none of an earlier one's, and each of its own once
other : (ss : List Service) (j : ℕ) (d : Service) → AreNew [] ss j d → (i : ℕ) (n : List ℕ) → i < j →
    has_name (get_or ss i d).publishes n ≡ true → has_name (get_or ss j d).publishes n ≡ false
other ss j d (b, new, known) i n below t = elim (cases_Bool (has_name (get_or ss j d).publishes n)) [
  | inl u ↦ absurd (false≢true (sym (not_before b (get_or ss j d).publishes n new u) ∙ known i n below t))
  | inr f ↦ f
]

once_of : (ss : List Service) (j : ℕ) (d : Service) → AreNew [] ss j d → repeats [] (get_or ss j d).publishes ≡ false
once_of ss j d (b, new, known) = repeats-less [] b (get_or ss j d).publishes (λ n t. absurd (false≢true t)) new

pub services_apart : ServicesAreApart
services_apart s h =
    let ss = s.services in
    let a = neither (option_map (at_service TwoLabels) (first_clash share_label [] ss))
    (option_or (option_map (at_service TwoUnits) (first_clash share_unit [] ss))
    (option_map (at_service SharedName) (first_repeat [] 0 ss))) h.apart in
    let b = neither (option_map (at_service TwoUnits) (first_clash share_unit [] ss))
    (option_map (at_service SharedName) (first_repeat [] 0 ss)) a.1 in
    let names : first_repeat [] 0 ss ≡ None = not_mapped (at_service SharedName) (first_repeat [] 0 ss) b.1 in
    record {
      labels = distinct share_label ss (not_mapped (at_service TwoLabels) (first_clash share_label [] ss) a.0);
      units = distinct share_unit ss (not_mapped (at_service TwoUnits) (first_clash share_unit [] ss) b.0);
      publishers = λ i j d n below l t. other ss j d (new_names [] 0 ss j d names l) i n below t;
      once = λ i d l. once_of ss i d (new_names [] 0 ss i d names l);
    }
