-- How a system begins.
use Rattle.std.proofs.Common.{◌≡◌, ◌≢◌, ℕ, zero, suc, ◌+◌, ◌≤◌, Bool, true, false, cond, List, [], ◌∷◌, ◌++◌, length, replicate, Option}
use Rattle.std.proofs.Common.{Some, None, is_some, Result, Ok, Err, OnOk, OnErr, refl, ap, sym, ◌∙◌, subst, arith, append-nil}
use Rattle.std.specs.List.{filter_map, cons_option}
use Rattle.std.proofs.lemmas.List.Sums.{fold-append}
use Rattle.ds_held.specs.Limits.{larger}
use Rattle.rs_settings.specs.declared.class.Class.{Class}
use Rattle.rs_settings.specs.declared.service.Service.{Service}
use Rattle.rs_settings.specs.Settings.{SettingsRecord}
use Rattle.driver_tables.specs.declared.fault.TableFault.{TableFault}
use Rattle.driver_tables.specs.declared.fault.TableFault.TheVariants.{Assigned, OldEndpoint, TwoIds, NoDevice, NotPending, NoRoom}
use Rattle.driver_tables.specs.Answer.{IsAnswer}
use Rattle.driver_tables.specs.Outcome.{AnswersAs, LeavesAs}
use Rattle.driver_tables.specs.Assign.{assigns, assigning}
use Rattle.driver_tables.specs.Driver.{Driver, driver_of}
use Rattle.driver_tables.specs.DriverTable.{DriverTable, empty_table}
use Rattle.driver_tables.specs.Stands.{TableRecord, TableStands}
use Rattle.ds_replica.specs.declared.seed.Seed.{Seed}
use Rattle.ds_replica.specs.declared.event.Event.TheVariants.{NewMap}
use Rattle.ds_replica.specs.declared.outcome.Outcome.TheVariants.{MapMade}
use Rattle.ds_replica.specs.World.{MapState, World, new_world}
use Rattle.ds_replica.specs.Happens.{Happens}
use Rattle.ds_world.specs.World.{WorldRecord, WorldStands}
use Rattle.ds_world.specs.declared.fault.SeedFault.{SeedFault}
use Rattle.ds_world.specs.declared.fault.SeedFault.TheVariants as seeds
use Rattle.ds_world.specs.Seeds.{IsSeedFault}
use Rattle.ds_system.specs.System.{System}
use Rattle.ds_system.specs.Start.{IsNew, labels_query, unit_with, file_driver_of, net_driver_of, file_unit, net_unit, assigned_all}
use Rattle.ds_system.proofs.LawLemmas.{systems_keep_laws}
use Rattle.ds_system.specs.Stands.{SystemRecord}
use Rattle.ds_system.specs.Since.{IsJustNew}
use Rattle.ds_system.specs.Begin.{MakesLabelMap, MakesTwoMaps, HasBothMaps, BeginsOver, IsFirstGeneration, IsBeginFault, begin_fault_of}

pub replicate_more : {X : Type 0} (n : ℕ) (x : X) → replicate (n + 1) x ≡ replicate n x ++ x ∷ []
replicate_more n x = ap (λ (k : ℕ). replicate k x) (let e : n + 1 ≡ suc n = omega arith in e) ∙ by n
  where
    by : (n : ℕ) → replicate (suc n) x ≡ replicate n x ++ x ∷ []
    by zero = refl
    by (suc n) = ap (λ l. x ∷ l) (by n)

-- ---- a unit
-- the answer of a table's own refusal
refusal_is : (out : Result (Unit {0}) TableFault) (fault : TableFault) → IsAnswer out (Err fault) → fault ≢ NoRoom → out ≡ Err fault
refusal_is out NoRoom h n = absurd (n refl)
refusal_is out Assigned h n = sym h
refusal_is out OldEndpoint h n = sym h
refusal_is out TwoIds h n = sym h
refusal_is out NoDevice h n = sym h
refusal_is out NotPending h n = sym h

-- a refused unit leaves the table unchanged
abbrev assigned_out : DriverTable → ℕ → Driver → Bool → Result (Unit {0}) TableFault × DriverTable
assigned_out t unit driver b = cond b (Err Assigned, t) (Ok tt, assigns t unit driver)

refused_same : (t : DriverTable) (unit : ℕ) (driver : Driver) (fault : TableFault) → (assigning t unit driver).0 ≡ Err fault →
    (assigning t unit driver).1 ≡ t
refused_same t unit driver fault e = by (is_some (driver_of t.units unit)) e
  where
    by : (b : Bool) → (assigned_out t unit driver b).0 ≡ Err fault → (assigned_out t unit driver b).1 ≡ t
    by true h = refl
    by false h = absurd (let q : Ok tt ≡ Err fault = h in cc)

module _ (old new : TableRecord) (units : List (ℕ × Driver)) where
  -- a service without a unit in the table
  pub no_unit : (o : Option (ℕ × Driver)) → o ≡ None → TableStands old (assigned_all units) →
      TableStands old (assigned_all (units ++ cons_option o []))
  no_unit o e st = subst (λ (l : List (ℕ × Driver)). TableStands old (assigned_all l))
      (sym (ap (λ (o : Option (ℕ × Driver)). units ++ cons_option o []) e ∙ append-nil units)) st

  assigned_stands : (unit : ℕ) (driver : Driver) (answer : Result (Unit {0}) TableFault)
      → answer ≢ Err NoRoom → AnswersAs old (λ (t : DriverTable). assigning t unit driver) answer
      → LeavesAs old (λ (t : DriverTable). assigning t unit driver) answer new
      → OnErr answer (new ≡ old) → TableStands old (assigned_all units) → TableStands new (assigning (assigned_all units) unit driver).1
  assigned_stands unit driver (Ok x) some answers leaves same st = leaves (assigned_all units) st
  assigned_stands unit driver (Err fault) some answers leaves same st =
      subst (λ (v : TableRecord). TableStands v (assigning (assigned_all units) unit driver).1) (sym same)
      (subst (TableStands old) (sym (refused_same (assigned_all units) unit driver fault
      (refusal_is (assigning (assigned_all units) unit driver).0 fault (answers (assigned_all units) st) (λ e. some (ap Err e))))) st)

  -- an assigned unit, if it is the first of its number
  one_unit : (o : Option (ℕ × Driver)) (unit : ℕ) (driver : Driver) (answer : Result (Unit {0}) TableFault) → o ≡ Some (unit, driver) →
      answer ≢ Err NoRoom → AnswersAs old (λ (t : DriverTable). assigning t unit driver) answer
      → LeavesAs old (λ (t : DriverTable). assigning t unit driver) answer new → OnErr answer (new ≡ old) →
      TableStands old (assigned_all units) → TableStands new (assigned_all (units ++ cons_option o []))
  one_unit o unit driver answer e some answers leaves same st =
      subst (λ (o : Option (ℕ × Driver)). TableStands new (assigned_all (units ++ cons_option o []))) (sym e)
      (subst (TableStands new) (sym (fold-append (λ (t : DriverTable) (u : ℕ × Driver). (assigning t u.0 u.1).1) empty_table units
      ((unit, driver) ∷ []))) (assigned_stands unit driver answer some answers leaves same st))

  -- the answer, as the code passes it on
  pub unit_added : {E : Type 0} (o : Option (ℕ × Driver)) (unit : ℕ) (driver : Driver) (answer : Result (Unit {0}) TableFault)
      (result : Result (Unit {0}) E) → o ≡ Some (unit, driver) → OnOk result (answer ≢ Err NoRoom)
      → AnswersAs old (λ (t : DriverTable). assigning t unit driver) answer →
      LeavesAs old (λ (t : DriverTable). assigning t unit driver) answer new → OnErr answer (new ≡ old) →
      TableStands old (assigned_all units)
      → OnOk result (TableStands new (assigned_all (units ++ cons_option o [])))
  unit_added o unit driver answer (Ok x) e some answers leaves same st = one_unit o unit driver answer e some answers leaves same st
  unit_added o unit driver answer (Err x) e some answers leaves same st = tt

pub file_is : (s : Service) (unit : ℕ) (class : Class) (d : Option Driver) → s.unit ≡ Some unit → s.class ≡ class →
    file_driver_of class s.label ≡ d → file_unit s ≡ unit_with (Some unit) d
file_is s unit class d u k f = ap (λ (o : Option ℕ). unit_with o (file_driver_of s.class s.label)) u ∙
    (ap (λ (c : Class). unit_with (Some unit) (file_driver_of c s.label)) k ∙ ap (unit_with (Some unit)) f)

pub net_is : (s : Service) (unit : ℕ) (class : Class) (d : Option Driver) → s.unit ≡ Some unit → s.class ≡ class →
    net_driver_of class s.label ≡ d → net_unit s ≡ unit_with (Some unit) d
net_is s unit class d u k f = ap (λ (o : Option ℕ). unit_with o (net_driver_of s.class s.label)) u ∙
    (ap (λ (c : Class). unit_with (Some unit) (net_driver_of c s.label)) k ∙ ap (unit_with (Some unit)) f)

-- ---- the maps
two_made : (a b c : WorldRecord) → MakesLabelMap a b → MakesLabelMap b c → MakesTwoMaps a c
two_made a b c (j, one) (k, two) w st none =
    let x = one w st in
    let y = two x.0 x.2 in
    let first : j ≡ 0 = number j (length w.maps) x.1.1.outcome_is ∙ ap length none in
    let maps : x.0.maps ≡ record { query = labels_query; held = [] } ∷ [] =
    ap (λ (z : World). z.maps) x.1.1.world_is ∙ ap (λ (l : List MapState). l ++ record { query = labels_query; held = [] } ∷ []) none in
    let second : k ≡ 1 = number k (length x.0.maps) y.1.1.outcome_is ∙ ap length maps in (
      y.0,
      (
        x.0,
        subst (λ (n : ℕ). Happens w (NewMap labels_query) (MapMade n) x.0) first x.1,
        (y.0, subst (λ (n : ℕ). Happens x.0 (NewMap labels_query) (MapMade n) y.0) second y.1, refl),
      ),
      y.2,
    )
  where
    number : (m n : ℕ) → MapMade m ≡ MapMade n → m ≡ n
    number m n e = cc

pub second_made : {E : Type 0} (result : Result (Unit {0}) E) (a b c : WorldRecord) → MakesLabelMap a b → OnOk result (MakesLabelMap b c) →
    OnOk result (MakesTwoMaps a c)
second_made (Ok x) a b c one two = two_made a b c one two
second_made (Err x) a b c one two = tt

-- ---- together
pub with_both : (a b : Seed) (old new : WorldRecord) → WorldStands old (new_world a b larger) → MakesTwoMaps old new → HasBothMaps a b new
with_both a b old new st h = h (new_world a b larger) st refl

pub just_new : (settings : SettingsRecord) (a b : Seed) (next : ℕ) (world : WorldRecord) (value : SystemRecord) → 1 ≤ next →
    HasBothMaps a b world → BeginsOver settings next world value → IsJustNew settings a b next value
just_new settings a b next world value some maps h =
    let start : System =
    record {
      rs = value.rs;
      numberers = value.numberers;
      world = maps.0;
      file = assigned_all (filter_map file_unit settings.services);
      net =
          assigned_all (filter_map net_unit settings.services);
      made = value.made;
    } in
    let new : IsNew settings a b next start =
    record
    { checked = h.checked; some = some; rs = h.rs; numberers = h.numberers; world = maps.1; file = refl; net = refl; made = h.made } in
    let world : WorldStands value.world maps.0 = subst (λ (w : WorldRecord). WorldStands w maps.0) (sym h.same) maps.2 in
    let fits = (systems_keep_laws settings a b next start start [] new refl).fits in
    record {
      past = record {
        settings = settings;
        a = a;
        b = b;
        next = next;
        start = start;
        is_new = new;
        entries = [];
        now = start;
        run = refl;
      };
      settings_are = refl;
      a_is = refl;
      b_is = refl;
      next_is = refl;
      none = refl;
      is = record {
        stands = record { rs = refl; numberers = refl; world = world; file = h.file; net = h.net; made = refl };
        came = record { first = value.world; fits = (maps.0, world, fits); told_so = refl };
      };
    }

-- ---- why none begins
pub seed_fault : (fault : SeedFault) (a b : Seed) (next : ℕ) → IsFirstGeneration next → IsSeedFault fault a b →
    IsBeginFault (begin_fault_of fault) a b next
seed_fault seeds.BadRing a b next first h = (first, h)
seed_fault seeds.BadFirst a b next first h = (first, h)
seed_fault seeds.OldIncarnation a b next first h = (first, h)
seed_fault seeds.NoRoom a b next first h = record { first = first; seeds = h }
