-- The sends and answers that moves leave for each id.
use Rattle.std.proofs.Common.{◌≡◌, ℕ, ◌==◌, Bool, true, false, cond, List, [], ◌∷◌, ◌++◌, filter, Option, Some, None, refl, sym, ap, ◌∙◌}
use Rattle.std.proofs.Common.{append-nil}
use Rattle.std.specs.List.{filter_map, flat_map, cons_option, AllByRecursion, IsDistinct}
use Rattle.std.proofs.lemmas.List.Elements.{filter_map-append}
use Rattle.ds_names.specs.Endpoint.{EndpointRecord}
use Rattle.driver_tables.specs.declared.moves.Ending.{Ending}
use Rattle.driver_tables.specs.declared.moves.Move.{Move}
use Rattle.driver_tables.specs.declared.moves.Move.TheVariants.{Start, Send, Answer, Held}
use Rattle.driver_tables.specs.DriverTable.{Request, value_for, values_of}
use Rattle.driver_tables.specs.Doing.{sends_of, answered_by}
use Rattle.driver_tables.proofs.TestLemmas.{equal_itself, equal_turned}

pub values-append : {X : Type 0} (id : ℕ) (xs ys : List (ℕ × X)) → values_of id (xs ++ ys) ≡ values_of id xs ++ values_of id ys
values-append id xs ys = filter_map-append (value_for id) xs ys

-- ---- one move, or none

-- its answers
abbrev pub answered : Option Move → List (ℕ × Ending)
answered None = []
answered (Some m) = answered_by m

abbrev pub sent : Option Move → List (ℕ × EndpointRecord)
sent None = []
sent (Some m) = sends_of m

-- its answers, without the id
abbrev pub endings : Option Move → List Ending
endings (Some (Answer id ending)) = ending ∷ []
endings _ = []

abbrev pub targets : Option Move → List EndpointRecord
targets (Some (Send id e)) = e ∷ []
targets _ = []

-- whether it is of this id
abbrev pub IsOf : Option Move → ℕ → Type 0
IsOf (Some (Send i e)) id = i ≡ id
IsOf (Some (Answer i ending)) id = i ≡ id
IsOf _ id = Unit {0}

-- the values that a list of moves leaves for an id, each move being of some id: one list for answers, one for sends
pub record IsLeft {X : Type 0} (all : Option Move → List (ℕ × X)) (values : Option Move → List X) : Type 0 where
  pub own : (m : Option Move) (id : ℕ) → IsOf m id → values_of id (all m) ≡ values m
  pub other : (m : Option Move) (id k : ℕ) → IsOf m id → id == k ≡ false → values_of k (all m) ≡ []

pair_own : {X : Type 0} (x : X) (i id : ℕ) → i ≡ id → values_of id ((i, x) ∷ []) ≡ x ∷ []
pair_own x i id o = ap (λ (b : Bool). cons_option (cond b (Some x) None) []) (ap (λ (n : ℕ). n == id) o ∙ equal_itself id)

pair_other : {X : Type 0} (x : X) (i id k : ℕ) → i ≡ id → id == k ≡ false → values_of k ((i, x) ∷ []) ≡ []
pair_other x i id k o h = ap (λ (b : Bool). cons_option (cond b (Some x) None) []) (ap (λ (n : ℕ). n == k) o ∙ h)

pub answers_left : IsLeft answered endings
answers_left = record { own = own; other = other }
  where
    own : (m : Option Move) (id : ℕ) → IsOf m id → values_of id (answered m) ≡ endings m
    own None id o = refl
    own (Some (Start u e)) id o = refl
    own (Some (Send i e)) id o = refl
    own (Some (Answer i f)) id o = pair_own f i id o
    own (Some (Held i)) id o = refl

    other : (m : Option Move) (id k : ℕ) → IsOf m id → id == k ≡ false → values_of k (answered m) ≡ []
    other None id k o h = refl
    other (Some (Start u e)) id k o h = refl
    other (Some (Send i e)) id k o h = refl
    other (Some (Answer i f)) id k o h = pair_other f i id k o h
    other (Some (Held i)) id k o h = refl

pub sends_left : IsLeft sent targets
sends_left = record { own = own; other = other }
  where
    own : (m : Option Move) (id : ℕ) → IsOf m id → values_of id (sent m) ≡ targets m
    own None id o = refl
    own (Some (Start u e)) id o = refl
    own (Some (Send i e)) id o = pair_own e i id o
    own (Some (Answer i f)) id o = refl
    own (Some (Held i)) id o = refl

    other : (m : Option Move) (id k : ℕ) → IsOf m id → id == k ≡ false → values_of k (sent m) ≡ []
    other None id k o h = refl
    other (Some (Start u e)) id k o h = refl
    other (Some (Send i e)) id k o h = pair_other e i id k o h
    other (Some (Answer i f)) id k o h = refl
    other (Some (Held i)) id k o h = refl

-- ---- a move for each request that passes a test

-- the values that these moves leave
abbrev pub parts : {X : Type 0} → (Option Move → List (ℕ × X)) → (Request → Option Move) → (Request → Bool) → List Request → List (ℕ × X)
parts all ask test [] = []
parts all ask test (r ∷ requests) = cond (test r) (all (ask r)) [] ++ parts all ask test requests

pub parts_are : {X : Type 0} (by : Move → List (ℕ × X)) (all : Option Move → List (ℕ × X)) → all None ≡ [] →
    ((m : Move) → all (Some m) ≡ by m) → (ask : Request → Option Move) (test : Request → Bool) (requests : List Request) →
    flat_map by (filter_map ask (filter test requests)) ≡ parts all ask test requests
parts_are by all none some ask test [] = refl
parts_are {X} by all none some ask test (r ∷ requests) = at (test r) (parts_are by all none some ask test requests)
  where
    one : (m : Option Move) → flat_map by (filter_map ask (filter test requests)) ≡ parts all ask test requests →
        flat_map by (cons_option m (filter_map ask (filter test requests))) ≡ all m ++ parts all ask test requests
    one None rest = rest ∙ ap (λ (l : List (ℕ × X)). l ++ parts all ask test requests) (sym none)
    one (Some m) rest = ap (λ (l : List (ℕ × X)). by m ++ l) rest ∙
        ap (λ (l : List (ℕ × X)). l ++ parts all ask test requests) (sym (some m))

    at : (b : Bool) → flat_map by (filter_map ask (filter test requests)) ≡ parts all ask test requests →
        flat_map by (filter_map ask (cond b (r ∷ filter test requests) (filter test requests))) ≡ cond b (all (ask r)) [] ++ parts all ask
        test requests
    at false rest = rest
    at true rest = one (ask r) rest

module _ {X : Type 0} (all : Option Move → List (ℕ × X)) (values : Option Move → List X) (left : IsLeft all values)
    (ask : Request → Option Move) (own : (r : Request) → IsOf (ask r) r.id) (test : Request → Bool) where
  -- the values that one request's move leaves
  abbrev pub part : Request → List (ℕ × X)
  part r = cond (test r) (all (ask r)) []

  abbrev pub value : Request → List X
  value r = cond (test r) (values (ask r)) []

  part_own : (r : Request) → values_of r.id (part r) ≡ value r
  part_own r = by (test r)
    where
      by : (b : Bool) → values_of r.id (cond b (all (ask r)) []) ≡ cond b (values (ask r)) []
      by true = left.own (ask r) r.id (own r)
      by false = refl

  part_other : (r : Request) (k : ℕ) → r.id == k ≡ false → values_of k (part r) ≡ []
  part_other r k h = by (test r)
    where
      by : (b : Bool) → values_of k (cond b (all (ask r)) []) ≡ []
      by true = left.other (ask r) r.id k (own r) h
      by false = refl

  -- nothing is left for an id that none of the requests has
  pub none_left : (id : ℕ) (requests : List Request) → AllByRecursion (λ (r : Request). r.id == id ≡ false) requests →
      values_of id (parts all ask test requests) ≡ []
  none_left id [] h = refl
  none_left id (r ∷ requests) h = values-append id (part r) (parts all ask test requests) ∙
      (ap (λ (l : List X). l ++ values_of id (parts all ask test requests)) (part_other r id h.0) ∙ none_left id requests h.1)

  past : (r : Request) (rest : List (ℕ × X)) (requests : List Request) → AllByRecursion (λ (s : Request). r.id == s.id ≡ false) requests →
      AllByRecursion (λ (s : Request). values_of s.id rest ≡ value s) requests →
      AllByRecursion (λ (s : Request). values_of s.id (part r ++ rest) ≡ value s) requests
  past r rest [] d h = tt
  past r rest (s ∷ requests) d h = (
    values-append s.id (part r) rest ∙ (ap (λ (l : List X). l ++ values_of s.id rest) (part_other r s.id d.0) ∙ h.0),
    past r rest
        requests d.1 h.1,
  )

  turned : (r : Request) (requests : List Request) → AllByRecursion (λ (s : Request). r.id == s.id ≡ false) requests →
      AllByRecursion (λ (s : Request). s.id == r.id ≡ false) requests
  turned r [] d = tt
  turned r (s ∷ requests) d = (equal_turned s.id r.id ∙ d.0, turned r requests d.1)

  -- each request gets its own values, if no two have the same id
  pub each_left : (requests : List Request) → IsDistinct (λ (r s : Request). r.id == s.id) requests →
      AllByRecursion (λ (r : Request). values_of r.id (parts all ask test requests) ≡ value r) requests
  unfolding IsDistinct
  each_left [] h = tt
  each_left (r ∷ requests) h = (
    values-append r.id (part r) (parts all ask test requests) ∙
        (ap (λ (l : List X). values_of r.id (part r) ++ l) (none_left r.id requests (turned r requests h.0)) ∙
        (append-nil (values_of r.id (part r)) ∙ part_own r)),
    past r (parts all ask test requests) requests h.0 (each_left requests h.1),
  )
