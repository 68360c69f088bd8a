-- What the first cause against a change or a floor says.
use Rattle.std.proofs.Common.{◌≡◌, ℕ, ◌<◌, ◌≤◌, Bool, true, false, not, ◌&&◌, ◌||◌, ◌==◌, nat_le, nat_lt, List, [], ◌∷◌, ◌++◌, map, Option}
use Rattle.std.proofs.Common.{Some, None, is_none, refl, ap, sym, ◌∙◌, inl, inr, ◌⊎◌, arith, Contains, eqb-true}
use Rattle.std.proofs.lemmas.Bool.Decides.{nat_tests}
use Rattle.std.proofs.lemmas.Bool.{eqb-false, ltb-true, or_parts, not-false, leb-false, le-leb, lt-leb}
use Rattle.std.specs.Cmp.Lexicographic.{same_text}
use Rattle.std.specs.declared.cmp.Ordering.{Ordering}
use Rattle.std.specs.declared.cmp.Ordering.TheVariants.{Less, Equal, Greater}
use Rattle.std.specs.Ordering.{is_eq, is_gt, is_le, ordering_reverse}
use Rattle.ds_names.specs.declared.version.Version.{Version}
use Rattle.ds_names.specs.Version.{version_cmp}
use Rattle.ds_names.specs.Endpoint.{EndpointRecord}
use Rattle.ds_names.proofs.OrderLemmas.{versions_total}
use Rattle.ds_entry.specs.declared.body.Body.{Body}
use Rattle.ds_entry.specs.Change.{ChangeRecord}
use Rattle.ds_entry.specs.Covers.{is_at_most}
use Rattle.ds_entry.specs.ItemCovers.{covers}
use Rattle.ds_entry.specs.Void.{voids_it, is_void}
use Rattle.ds_entry.specs.declared.floor.Floor.{Floor}
use Rattle.ds_entry.specs.declared.item.Item.{Item}
use Rattle.ds_entry.specs.declared.item.Item.TheVariants.{Change as Changed, Floor as Floored}
use Rattle.ds_entry.proofs.Members.{Contains-from_list_any}
use Rattle.ds_entry.proofs.CoversLemmas.{covers-make}
use Rattle.ds_entry.proofs.ItemLemmas.{below-make}
use Rattle.ds_machine.specs.Parts.{held_at, floor_at}
use Rattle.ds_machine.specs.State.{State, held}
use Rattle.ds_machine.specs.Order.{first_cause, by_command, by_version, by_room}
use Rattle.ds_machine.specs.Standing.{Standing, standing_of, on_held, against_change, HasRoom, is_same_body, FloorStanding}
use Rattle.ds_machine.specs.Standing.{floor_standing_of, on_floor, against_floor, cause_of, IsFree, HasFloorRoom, IsFloorFree}
use Rattle.ds_machine.specs.Asking.{AskedChange, against_asked, change_asked, against_sweep}
use Rattle.ds_machine.specs.declared.refusal.Cause.{Cause}
use Rattle.ds_machine.specs.declared.refusal.Cause.TheVariants as causes
use Rattle.ds_machine.specs.declared.refusal.Refusal.TheVariants as refusals
use Rattle.ds_machine.proofs.PartLemmas.{found, missing, passed, key_found, owner_found}
use Rattle.ds_machine.proofs.NewsLemmas.{IsAbove}
use Rattle.ds_names.specs.Limits.{most_floors, last_place}
use Rattle.ds_names.specs.Name.{is_same_name}

-- all causes in their order
abbrev change_order : Version → List Cause
change_order v = map causes.Refused by_command ++ by_version (Some v) ++ map causes.Refused by_room

abbrev floor_order : List Cause
floor_order = map causes.Refused by_command ++ by_version None ++ map causes.Refused by_room

-- without a first cause, no cause applies
free : (v : Version) (stands : Cause → Bool) → first_cause (Some v) stands ≡ None → (cause : Cause) → Contains (change_order v) cause →
    stands cause ≡ false
free v stands e cause h = missing stands (change_order v) cause e h

floor_free : (stands : Cause → Bool) → first_cause None stands ≡ None → (cause : Cause) → Contains floor_order cause → stands cause ≡ false
floor_free stands e cause h = missing stands floor_order cause e h

-- ---- a change that takes effect

is_below : (r : Ordering) (b : Bool) → is_eq r && not b ≡ false → is_gt r ≡ false → is_eq r && b ≡ false → r ≡ Less
is_below Less b p q r = refl
is_below Equal true p q r = absurd (cc)
is_below Equal false p q r = absurd (cc)
is_below Greater b p q r = absurd (cc)

has_room : (o : Option ChangeRecord) (count most : ℕ) (c : ChangeRecord)
    → on_held o (λ h. not (is_same_name h.owner c.owner)) ≡ false
    → on_held o (λ h. is_eq (version_cmp h.version c.version) && not (is_same_body h.body c.body)) ≡ false
    → on_held o (λ h. is_gt (version_cmp h.version c.version)) ≡ false
    → on_held o (λ h. is_eq (version_cmp h.version c.version) && is_same_body h.body c.body) ≡ false
    → is_none o && nat_le most count ≡ false
    → HasRoom o count most c
has_room None count most c a b d e f = leb-false most count f
has_room (Some h) count most c a b d e f = (
  same_text h.owner c.owner (sym (not-false (is_same_name h.owner c.owner) a)),
  is_below (version_cmp h.version c.version)
      (is_same_body h.body c.body) b d e,
)

free_by : (t : Standing) (c : ChangeRecord) (stands : Cause → Bool) → first_cause (Some c.version) stands ≡ None
    → stands (causes.Refused refusals.NotOwner) ≡ against_change t c (causes.Refused refusals.NotOwner)
    → stands (causes.Refused (refusals.Clash c.version)) ≡ against_change t c (causes.Refused (refusals.Clash c.version))
    → stands (causes.Refused refusals.Stale) ≡ against_change t c (causes.Refused refusals.Stale)
    → stands causes.Known ≡ against_change t c causes.Known
    → stands (causes.Refused refusals.Full) ≡ against_change t c (causes.Refused refusals.Full)
    → stands (causes.Refused refusals.Worn) ≡ against_change t c (causes.Refused refusals.Worn)
    → IsFree t c
free_by t c stands e owner clash stale known full worn =
    let no = free c.version stands e in
    let old = or_parts (on_held t.held (λ h. is_gt (version_cmp h.version c.version))) t.void
    (sym stale ∙ no (causes.Refused refusals.Stale) (11, omega arith, refl)) in
    record {
      room = has_room t.held t.count t.most c
          (sym owner ∙ no (causes.Refused refusals.NotOwner) (9, omega arith, refl))
          (sym clash ∙ no (causes.Refused (refusals.Clash c.version)) (10, omega arith, refl))
          old.0
          (sym known ∙ no causes.Known (12, omega arith, refl))
          (sym full ∙ no (causes.Refused refusals.Full) (18, omega arith, refl));
      valid = old.1;
      left = leb-false last_place t.position (sym worn ∙ no (causes.Refused refusals.Worn) (19, omega arith, refl));
    }

pub change_free : (t : Standing) (c : ChangeRecord) → first_cause (Some c.version) (against_change t c) ≡ None → IsFree t c
change_free t c e = free_by t c (against_change t c) e refl refl refl refl refl refl

pub asked_free : (t : Standing) (caller : Option (List ℕ)) (a : AskedChange) (body : Body) →
    first_cause (Some a.version) (against_asked t caller a body) ≡ None → IsFree t (change_asked caller a body)
asked_free t caller a body e = free_by t (change_asked caller a body) (against_asked t caller a body) e refl refl refl refl refl refl

-- ---- a floor that takes effect
floor_room : (o : Option Floor) (count : ℕ) (f : Floor) → on_floor o (λ g. nat_lt f.generation g) ≡ false →
    on_floor o (λ g. g == f.generation) ≡ false → is_none o && nat_le most_floors count ≡ false → HasFloorRoom o count f
floor_room None count f a b c = leb-false most_floors count c
floor_room (Some g) count f a b c =
    let differ : g.generation ≡ f.generation → ⊥ = eqb-false g.generation f.generation b in
    not_below f.generation g.generation a differ
  where
    not_below : (m n : ℕ) → nat_lt m n ≡ false → (n ≡ m → ⊥) → n < m
    not_below m n e d = grind (arith, nat_tests)

pub room_above : (o : Option Floor) (count : ℕ) (f : Floor) → HasFloorRoom o count f → IsAbove o f
room_above None count f h = tt
room_above (Some g) count f h = h

-- a floor that is free raises its owner's
pub not_as_high : (o : Option Floor) (count : ℕ) (f : Floor) → HasFloorRoom o count f → on_floor o (nat_le f.generation) ≡ false
not_as_high None count f h = refl
not_as_high (Some g) count f h = lt-leb f.generation g.generation h

pub floor_is_free : (t : FloorStanding) (f : Floor) → first_cause None (against_floor t f) ≡ None → IsFloorFree t f
floor_is_free t f e =
    let no = floor_free (against_floor t f) e in
    record {
      room = floor_room t.held t.count f (no (causes.Refused refusals.Stale) (10, omega arith, refl))
          (no causes.Known (11, omega arith, refl)) (no (causes.Refused refusals.Full) (17, omega arith, refl));
      left = leb-false last_place t.position (no (causes.Refused refusals.Worn) (18, omega arith, refl));
    }

pub sweep_is_free : (t : FloorStanding) (caller : EndpointRecord) (f : Floor) → first_cause None (against_sweep t caller f) ≡ None →
    IsFloorFree t f
sweep_is_free t caller f e =
    let no = floor_free (against_sweep t caller f) e in
    record {
      room = floor_room t.held t.count f (no (causes.Refused refusals.Stale) (10, omega arith, refl))
          (no causes.Known (11, omega arith, refl)) (no (causes.Refused refusals.Full) (17, omega arith, refl));
      left = leb-false last_place t.position (no (causes.Refused refusals.Worn) (18, omega arith, refl));
    }

-- ---- what is passed over is covered by what is held
abbrev pub IsCoveredIn : List Item → Item → Type 0
IsCoveredIn items i = (j : Item) × Contains items j × (covers j i ≡ true)

abbrev pub IsPassed : Cause → Type 0
IsPassed cause = (cause ≡ causes.Known) ⊎ (cause ≡ causes.Refused refusals.Stale)

abbrev passes_over : Cause → Bool
passes_over causes.Known = true
passes_over (causes.Refused refusals.Stale) = true
passes_over (causes.Refused r) = false

abbrev before_clash : List Cause
before_clash = map causes.Refused by_command ++ causes.Refused refusals.NotOwner ∷ []

abbrev from_clash : Version → List Cause
from_clash v = causes.Refused (refusals.Clash v) ∷ causes.Refused refusals.Stale ∷ causes.Known ∷ map causes.Refused by_room

-- where it is known or stale, its key isn't another owner's
owner_free : (v : Version) (stands : Cause → Bool) (cause : Cause) → first_cause (Some v) stands ≡ Some cause → passes_over cause ≡ true →
    stands (causes.Refused refusals.NotOwner) ≡ false
owner_free v stands cause e k = passed stands passes_over before_clash (from_clash v) (causes.Refused refusals.NotOwner) cause e k refl
    (9, omega arith, refl)

level : (v w : Version) → is_eq (version_cmp v w) ≡ true → is_at_most w v ≡ true
level v w e = by_order (version_cmp v w) e (versions_total.antisymm w v)
  where
    by_order : (r : Ordering) → is_eq r ≡ true → version_cmp w v ≡ ordering_reverse r → is_le (version_cmp w v) ≡ true
    by_order Less p q = absurd (cc)
    by_order Equal p q = ap is_le q
    by_order Greater p q = absurd (cc)

above : (v w : Version) → is_gt (version_cmp v w) ≡ true → is_at_most w v ≡ true
above v w e = by_order (version_cmp v w) e (versions_total.antisymm w v)
  where
    by_order : (r : Ordering) → is_gt r ≡ true → version_cmp w v ≡ ordering_reverse r → is_le (version_cmp w v) ≡ true
    by_order Less p q = absurd (cc)
    by_order Equal p q = absurd (cc)
    by_order Greater p q = ap is_le q

pub left_of : (a b : Bool) → a && b ≡ true → a ≡ true
left_of true b e = refl
left_of false b e = absurd (cc)

either_of : (a b : Bool) → a || b ≡ true → (a ≡ true) ⊎ (b ≡ true)
either_of true b e = inl refl
either_of false b e = inr e

module _ (s : State) (c : ChangeRecord) where
  -- by the change that is held for its key
  over_held : (test : ChangeRecord → Bool) → ((h : ChangeRecord) → test h ≡ true → is_at_most c.version h.version ≡ true)
      → on_held (held_at (held s) c.key) (λ h. not (is_same_name h.owner c.owner)) ≡ false → on_held (held_at (held s) c.key) test ≡ true →
      IsCoveredIn (held s) (Changed c)
  over_held test most owner here = by_held (held_at (held s) c.key) refl owner here
    where
      by_held : (o : Option ChangeRecord) → held_at (held s) c.key ≡ o → on_held o (λ h. not (is_same_name h.owner c.owner)) ≡ false →
          on_held o test ≡ true → IsCoveredIn (held s) (Changed c)
      by_held None e a b = absurd (let n : false ≡ true = b in cc)
      by_held (Some h) e a b =
          let at = key_found (held s) c.key h e in
          let same : h.owner ≡ c.owner = same_text h.owner c.owner (sym (not-false (is_same_name h.owner c.owner) a)) in
          (Changed h, at.0, covers-make h c at.1 (sym same) (most h b))

  -- by a floor
  over_void : is_void (held s) c ≡ true → IsCoveredIn (held s) (Changed c)
  over_void e = let x = Contains-from_list_any (voids_it c) (held s) e in by_kind x.0 x.1 x.2
    where
      by_kind : (x : Item) → Contains (held s) x → voids_it c x ≡ true → IsCoveredIn (held s) (Changed c)
      by_kind (Changed d) h v = absurd (let n : false ≡ true = v in cc)
      by_kind (Floored f) h v = (Floored f, h, v)

  over_by : (stands : Cause → Bool) (cause : Cause) → first_cause (Some c.version) stands ≡ Some cause → IsPassed cause
      → stands (causes.Refused refusals.NotOwner) ≡ against_change (standing_of s c) c (causes.Refused refusals.NotOwner)
      → stands (causes.Refused refusals.Stale) ≡ against_change (standing_of s c) c (causes.Refused refusals.Stale)
      → stands causes.Known ≡ against_change (standing_of s c) c causes.Known → IsCoveredIn (held s) (Changed c)
  over_by stands cause e (inl k) owner stale known =
      let here : stands causes.Known ≡ true = ap stands (sym k) ∙ (found stands (change_order c.version) cause e).1 in
      over_held (λ h. is_eq (version_cmp h.version c.version) && is_same_body h.body c.body)
      (λ h t. level h.version c.version (left_of (is_eq (version_cmp h.version c.version)) (is_same_body h.body c.body) t))
      (sym owner ∙ owner_free c.version stands cause e (ap passes_over k)) (sym known ∙ here)
  over_by stands cause e (inr k) owner stale known =
      let here : stands (causes.Refused refusals.Stale) ≡ true = ap stands (sym k) ∙ (found stands (change_order c.version) cause e).1 in
      elim (either_of (on_held (held_at (held s) c.key) (λ h. is_gt (version_cmp h.version c.version))) (is_void (held s) c)
      (sym stale ∙ here)) [
        | inl t ↦ over_held (λ h. is_gt (version_cmp h.version c.version)) (λ h u. above h.version c.version u)
            (sym owner ∙ owner_free c.version stands cause e (ap passes_over k)) t
        | inr t ↦ over_void t
      ]

  pub change_covered : (cause : Cause) → first_cause (Some c.version) (against_change (standing_of s c) c) ≡ Some cause → IsPassed cause →
      IsCoveredIn (held s) (Changed c)
  change_covered cause e k = over_by (against_change (standing_of s c) c) cause e k refl refl refl

pub asked_covered : (s : State) (caller : Option (List ℕ)) (a : AskedChange) (body : Body) (cause : Cause) →
    first_cause (Some a.version) (against_asked (standing_of s (change_asked caller a body)) caller a body) ≡ Some cause → IsPassed cause →
    IsCoveredIn (held s) (Changed (change_asked caller a body))
asked_covered s caller a body cause e k = over_by s (change_asked caller a body)
    (against_asked (standing_of s (change_asked caller a body)) caller a body) cause e k refl refl refl

as_high_by : (o : Option Floor) (m : ℕ) (test : ℕ → Bool) → ((n : ℕ) → test n ≡ true → m ≤ n) → on_floor o test ≡ true →
    on_floor o (nat_le m) ≡ true
as_high_by None m test most here = absurd (let n : false ≡ true = here in cc)
as_high_by (Some g) m test most here = le-leb m g.generation (most g.generation here)

module _ (s : State) (f : Floor) where
  -- a sweep that is passed over finds a floor as high
  pub sweep_as_high : (caller : EndpointRecord) (cause : Cause) →
      first_cause None (against_sweep (floor_standing_of s f) caller f) ≡ Some cause → IsPassed cause →
      on_floor (floor_at (held s) f.owner) (nat_le f.generation) ≡ true
  sweep_as_high caller cause e (inl k) =
      as_high_by (floor_at (held s) f.owner) f.generation (λ n. n == f.generation)
      (λ n t. (let same : n ≡ f.generation = eqb-true n f.generation t in omega (arith, same)))
      (ap (against_sweep (floor_standing_of s f) caller f) (sym k) ∙
      (found (against_sweep (floor_standing_of s f) caller f) floor_order cause e).1)
  sweep_as_high caller cause e (inr k) =
      as_high_by (floor_at (held s) f.owner) f.generation (nat_lt f.generation)
      (λ n t. (let low : f.generation < n = ltb-true f.generation n t in omega (arith, low)))
      (ap (against_sweep (floor_standing_of s f) caller f) (sym k) ∙
      (found (against_sweep (floor_standing_of s f) caller f) floor_order cause e).1)

  over_floor : (test : ℕ → Bool) → ((n : ℕ) → test n ≡ true → f.generation ≤ n) → on_floor (floor_at (held s) f.owner) test ≡ true →
      IsCoveredIn (held s) (Floored f)
  over_floor test most here = by_held (floor_at (held s) f.owner) refl here
    where
      by_held : (o : Option Floor) → floor_at (held s) f.owner ≡ o → on_floor o test ≡ true → IsCoveredIn (held s) (Floored f)
      by_held None e b = absurd (let n : false ≡ true = b in cc)
      by_held (Some g) e b =
          let at = owner_found (held s) f.owner g e in
          (Floored g, at.0, below-make f.owner g.owner f.generation g.generation at.1 (most g.generation b))

  over_by_floor : (stands : Cause → Bool) (cause : Cause) → first_cause None stands ≡ Some cause → IsPassed cause
      → stands (causes.Refused refusals.Stale) ≡ against_floor (floor_standing_of s f) f (causes.Refused refusals.Stale)
      → stands causes.Known ≡ against_floor (floor_standing_of s f) f causes.Known → IsCoveredIn (held s) (Floored f)
  over_by_floor stands cause e (inl k) stale known =
      over_floor (λ g. g == f.generation) (λ n t. (let same : n ≡ f.generation = eqb-true n f.generation t in omega (arith, same)))
      (sym known ∙ ap stands (sym k) ∙ (found stands floor_order cause e).1)
  over_by_floor stands cause e (inr k) stale known =
      over_floor (λ g. nat_lt f.generation g) (λ n t. (let low : f.generation < n = ltb-true f.generation n t in omega (arith, low)))
      (sym stale ∙ ap stands (sym k) ∙ (found stands floor_order cause e).1)

  pub floor_covered : (cause : Cause) → first_cause None (against_floor (floor_standing_of s f) f) ≡ Some cause → IsPassed cause →
      IsCoveredIn (held s) (Floored f)
  floor_covered cause e k = over_by_floor (against_floor (floor_standing_of s f) f) cause e k refl refl

  pub sweep_covered : (caller : EndpointRecord) (cause : Cause) →
      first_cause None (against_sweep (floor_standing_of s f) caller f) ≡ Some cause → IsPassed cause → IsCoveredIn (held s) (Floored f)
  sweep_covered caller cause e k = over_by_floor (against_sweep (floor_standing_of s f) caller f) cause e k refl refl

-- ---- of an item
pub item_covered : (s : State) (i : Item) (cause : Cause) → cause_of s i ≡ Some cause → IsPassed cause → IsCoveredIn (held s) i
item_covered s (Changed c) cause e k = change_covered s c cause e k
item_covered s (Floored f) cause e k = floor_covered s f cause e k
