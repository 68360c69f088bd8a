-- One step of each loop over services and over their names.
use Rattle.std.proofs.Common.{◌≡◌, ℕ, ◌<◌, ◌≤◌, ◌||◌, ◌+◌, Bool, true, false, cond, List, [], ◌∷◌, ◌++◌, length, get_or, take, drop, map}
use Rattle.std.proofs.Common.{Some, None, refl, sym, ap, subst, ◌∙◌, arith, append_assoc}
use Rattle.std.specs.List.{list_any}
use Rattle.std.proofs.lemmas.List.{drop_more, drop_all, take_more, length-take-le, map-append, append-nil, length-map}
use Rattle.toml.specs.declared.value.Value.{Value}
use Rattle.rs_settings.specs.declared.service.Service.{Service}
use Rattle.rs_settings.specs.declared.draft.Draft.{Draft}
use Rattle.rs_settings.specs.Values.{is_same}
use Rattle.rs_settings.specs.Shared.{has_name, repeats, first_clash, first_repeat}
use Rattle.rs_settings.specs.Draft.{service_of_draft, text_in_value}

list_any-map : {X Y : Type 0} (test : Y → Bool) (f : X → Y) (xs : List X) → list_any test (map f xs) ≡ list_any (λ x. test (f x)) xs
list_any-map test f [] = refl
list_any-map test f (x ∷ xs) = ap (λ b. test (f x) || b) (list_any-map test f xs)

first_clash-step : (share : Service → Service → Bool) (ds : List Draft) (i : ℕ) (d : Draft) → i < length ds →
    first_clash share (map service_of_draft (take i ds)) (map service_of_draft (drop i ds)) ≡ cond
    (list_any (λ e. share (service_of_draft (get_or ds i d)) (service_of_draft e)) (take i ds)) (Some i)
    (first_clash share (map service_of_draft (take (i + 1) ds)) (map service_of_draft (drop (i + 1) ds)))
first_clash-step share ds i d h = rw (
  drop_more ds i d h,
  take_more ds i d h,
  map-append service_of_draft (take i ds) (get_or ds i d ∷ []),
  list_any-map
      (share (service_of_draft (get_or ds i d))) service_of_draft (take i ds),
  length-map (take i ds) service_of_draft,
  length-take-le i ds (omega arith),
)

module _ (share : Service → Service → Bool) (ds : List Draft) (i : ℕ) (d : Draft) (l : i < length ds) (is : d ≡ get_or ds i d)
    (so : first_clash share (map service_of_draft (take i ds)) (map service_of_draft (drop i ds)) ≡ first_clash share []
    (map service_of_draft ds)) where
  clashes : (b : Bool) → list_any (λ e. share (service_of_draft d) (service_of_draft e)) (take i ds) ≡ b →
      list_any (λ e. share (service_of_draft (get_or ds i d)) (service_of_draft e)) (take i ds) ≡ b
  clashes b h = subst (λ (z : Draft). list_any (λ e. share (service_of_draft z) (service_of_draft e)) (take i ds) ≡ b) is h

  -- a service that shares it with one before
  pub first_clash-here : list_any (λ e. share (service_of_draft d) (service_of_draft e)) (take i ds) ≡ true →
      Some i ≡ first_clash share [] (map service_of_draft ds)
  first_clash-here h = sym (rw (clashes true h) at (first_clash-step share ds i d l)) ∙ so

  -- a service that doesn't
  pub first_clash-past : list_any (λ e. share (service_of_draft d) (service_of_draft e)) (take i ds) ≡ false →
      first_clash share (map service_of_draft (take (i + 1) ds)) (map service_of_draft (drop (i + 1) ds)) ≡ first_clash share []
      (map service_of_draft ds)
  first_clash-past h = sym (rw (clashes false h) at (first_clash-step share ds i d l)) ∙ so

pub first_clash-end : (share : Service → Service → Bool) (ds : List Draft) (i : ℕ) → length ds ≤ i →
    first_clash share (map service_of_draft (take i ds)) (map service_of_draft (drop i ds)) ≡ None
first_clash-end share ds i h = rw (drop_all i ds h)

or_assoc : (a b c : Bool) → a || (b || c) ≡ (a || b) || c
or_assoc true b c = refl
or_assoc false b c = refl

-- a name among two lists
pub has_name-append : (a b : List (List ℕ)) (n : List ℕ) → has_name (a ++ b) n ≡ (has_name a n || has_name b n)
has_name-append [] b n = refl
has_name-append (x ∷ xs) b n = ap (λ c. is_same n x || c) (has_name-append xs b n) ∙ or_assoc (is_same n x) (has_name xs n) (has_name b n)

-- names are looked up alike in lists that have the same ones
pub repeats-alike : (a b names : List (List ℕ)) → ((n : List ℕ) → has_name a n ≡ has_name b n) → repeats a names ≡ repeats b names
repeats-alike a b [] h = refl
repeats-alike a b (n ∷ ns) h = rw (h n, repeats-alike (a ++ n ∷ []) (b ++ n ∷ []) ns (λ m. both m)) refl
  where
    both : (m : List ℕ) → has_name (a ++ n ∷ []) m ≡ has_name (b ++ n ∷ []) m
    both m = has_name-append a (n ∷ []) m ∙ ap (λ c. c || has_name (n ∷ []) m) (h m) ∙ sym (has_name-append b (n ∷ []) m)

taken : (vs : List Value) (i : ℕ) (d : Value) → i < length vs →
    map text_in_value (take (i + 1) vs) ≡ map text_in_value (take i vs) ++ text_in_value (get_or vs i d) ∷ []
taken vs i d l = ap (map text_in_value) (take_more vs i d l) ∙ map-append text_in_value (take i vs) (get_or vs i d ∷ [])

repeats-step : (before : List (List ℕ)) (vs : List Value) (i : ℕ) (d : Value) → i < length vs →
    repeats before (map text_in_value (drop i vs)) ≡
    (has_name before (text_in_value (get_or vs i d)) || repeats (before ++ text_in_value (get_or vs i d) ∷ [])
    (map text_in_value (drop (i + 1) vs)))
repeats-step before vs i d l = rw (drop_more vs i d l)

module _ (base seen : List (List ℕ)) (vs : List Value) (i : ℕ) (d : Value) (l : i < length vs)
    (so : repeats (base ++ map text_in_value (take i vs)) (map text_in_value (drop i vs)) ≡ repeats base (map text_in_value vs))
    (same : (n : List ℕ) → has_name seen n ≡ has_name (base ++ map text_in_value (take i vs)) n) where
  -- a name that was there
  pub repeats-here : has_name seen (text_in_value (get_or vs i d)) ≡ true → repeats base (map text_in_value vs) ≡ true
  repeats-here here = sym so ∙ repeats-step (base ++ map text_in_value (take i vs)) vs i d l ∙
      rw (sym (same (text_in_value (get_or vs i d))) ∙ here) refl

  -- a name that is new
  pub repeats-past : has_name seen (text_in_value (get_or vs i d)) ≡ false →
      repeats (base ++ map text_in_value (take (i + 1) vs)) (map text_in_value (drop (i + 1) vs)) ≡ repeats base (map text_in_value vs)
  repeats-past new = rw (taken vs i d l) (ap (λ z. repeats z (map text_in_value (drop (i + 1) vs)))
      (sym (append_assoc base (map text_in_value (take i vs)) (text_in_value (get_or vs i d) ∷ []))) ∙
      sym (rw (sym (same (text_in_value (get_or vs i d))) ∙ new) at (repeats-step (base ++ map text_in_value (take i vs)) vs i d l)) ∙ so)

  or_false : (b : Bool) → b || false ≡ b
  or_false true = refl
  or_false false = refl

  pub same-past : (more : List (List ℕ)) → ((n : List ℕ) →
      has_name more n ≡ (has_name seen n || is_same n (text_in_value (get_or vs i d)))) → (n : List ℕ) →
      has_name more n ≡ has_name (base ++ map text_in_value (take (i + 1) vs)) n
  same-past more added n =
      added n ∙ ap (λ b. b || is_same n (text_in_value (get_or vs i d))) (same n)
      ∙ ap (λ b. has_name (base ++ map text_in_value (take i vs)) n || b) (sym (or_false (is_same n (text_in_value (get_or vs i d)))))
      ∙ sym (has_name-append (base ++ map text_in_value (take i vs)) (text_in_value (get_or vs i d) ∷ []) n)
      ∙ ap (λ z. has_name z n) (append_assoc base (map text_in_value (take i vs)) (text_in_value (get_or vs i d) ∷ []))
      ∙ ap (λ z. has_name (base ++ z) n) (sym (taken vs i d l))

-- past the last name
pub repeats-end : (base : List (List ℕ)) (vs : List Value) (i : ℕ) → length vs ≤ i →
    repeats (base ++ map text_in_value (take i vs)) (map text_in_value (drop i vs)) ≡ repeats base (map text_in_value vs) →
    repeats base (map text_in_value vs) ≡ false
repeats-end base vs i past so = sym so ∙ rw (drop_all i vs past) refl

-- all that these services publish
abbrev pub published : List Draft → List (List ℕ)
published [] = []
published (d ∷ ds) = (service_of_draft d).publishes ++ published ds

published-append : (ds es : List Draft) → published (ds ++ es) ≡ published ds ++ published es
published-append [] es = refl
published-append (d ∷ ds) es = ap (λ z. (service_of_draft d).publishes ++ z) (published-append ds es) ∙
    sym (append_assoc (service_of_draft d).publishes (published ds) (published es))

pub published-more : (ds : List Draft) (i : ℕ) (d : Draft) → i < length ds →
    published (take (i + 1) ds) ≡ published (take i ds) ++ (service_of_draft (get_or ds i d)).publishes
published-more ds i d l = ap published (take_more ds i d l) ∙ published-append (take i ds) (get_or ds i d ∷ []) ∙
    ap (λ z. published (take i ds) ++ z) (append-nil (service_of_draft (get_or ds i d)).publishes)

first_repeat-step : (before : List (List ℕ)) (n : ℕ) (ds : List Draft) (i : ℕ) (d : Draft) → i < length ds →
    first_repeat before n (map service_of_draft (drop i ds)) ≡ cond (repeats before (service_of_draft (get_or ds i d)).publishes) (Some n)
    (first_repeat (before ++ (service_of_draft (get_or ds i d)).publishes) (n + 1) (map service_of_draft (drop (i + 1) ds)))
first_repeat-step before n ds i d l = rw (drop_more ds i d l)

module _ (seen : List (List ℕ)) (ds : List Draft) (i : ℕ) (d : Draft) (l : i < length ds)
    (so : first_repeat (published (take i ds)) i (map service_of_draft (drop i ds)) ≡ first_repeat [] 0 (map service_of_draft ds))
    (same : (n : List ℕ) → has_name seen n ≡ has_name (published (take i ds)) n) where
  alike : repeats seen (service_of_draft (get_or ds i d)).publishes ≡ repeats (published (take i ds))
      (service_of_draft (get_or ds i d)).publishes
  alike = repeats-alike seen (published (take i ds)) (service_of_draft (get_or ds i d)).publishes same

  -- a service that repeats a name
  pub first_repeat-here : repeats seen (service_of_draft (get_or ds i d)).publishes ≡ true →
      first_repeat [] 0 (map service_of_draft ds) ≡ Some i
  first_repeat-here here = sym so ∙ first_repeat-step (published (take i ds)) i ds i d l ∙ rw (sym alike ∙ here) refl

  -- a service that repeats none
  pub first_repeat-past : repeats seen (service_of_draft (get_or ds i d)).publishes ≡ false →
      first_repeat (published (take (i + 1) ds)) (i + 1) (map service_of_draft (drop (i + 1) ds)) ≡ first_repeat [] 0
      (map service_of_draft ds)
  first_repeat-past new = rw (published-more ds i d l)
      (sym (rw (sym alike ∙ new) at (first_repeat-step (published (take i ds)) i ds i d l)) ∙ so)

  pub names-past : (more : List (List ℕ)) → ((n : List ℕ) →
      has_name more n ≡ has_name (seen ++ (service_of_draft (get_or ds i d)).publishes) n) → (n : List ℕ) →
      has_name more n ≡ has_name (published (take (i + 1) ds)) n
  names-past more added n =
      added n ∙ has_name-append seen (service_of_draft (get_or ds i d)).publishes n
      ∙ ap (λ b. b || has_name (service_of_draft (get_or ds i d)).publishes n) (same n)
      ∙ sym (has_name-append (published (take i ds)) (service_of_draft (get_or ds i d)).publishes n)
      ∙ ap (λ z. has_name z n) (sym (published-more ds i d l))

-- past the last service
pub first_repeat-end : (ds : List Draft) (i : ℕ) → length ds ≤ i →
    first_repeat (published (take i ds)) i (map service_of_draft (drop i ds)) ≡ first_repeat [] 0 (map service_of_draft ds) →
    first_repeat [] 0 (map service_of_draft ds) ≡ None
first_repeat-end ds i past so = sym so ∙ rw (drop_all i ds past) refl
