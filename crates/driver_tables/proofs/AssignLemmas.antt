-- Assigning a unit leaves a valid table.
use Rattle.std.proofs.Common.{◌≡◌, ℕ, ◌==◌, Bool, false, cond, List, [], ◌∷◌, ◌++◌, map, Some, None, is_some, Ok, Err, sym, ap, ◌∙◌}
use Rattle.std.specs.List.{AllByRecursion}
use Rattle.std.specs.Map.{lookup}
use Rattle.std.proofs.lemmas.List.{map-append}
use Rattle.std.proofs.lemmas.List.Folds.{list_any-append}
use Rattle.driver_tables.specs.declared.fault.TableFault.TheVariants.{Assigned}
use Rattle.driver_tables.specs.declared.device.Device.{Device}
use Rattle.driver_tables.specs.Driver.{Driver, driver_of, has_label}
use Rattle.driver_tables.specs.DriverTable.{DriverTable, Request}
use Rattle.driver_tables.specs.Assign.{assigns, assigning}
use Rattle.driver_tables.specs.Reached.{IsRequestServed, IsTableReached}
use Rattle.driver_tables.specs.Stands.{TableRecord, TableStands, device_of, unit_of}
use Rattle.driver_tables.proofs.TestLemmas.{equal_itself}
use Rattle.driver_tables.proofs.ListLemmas.{lookup_kept, lookup_added}
use Rattle.driver_tables.proofs.StandsLemmas.{present}
use Rattle.ds_names.specs.Name.{is_same_name}
use Rattle.std.proofs.lemmas.Bool.{or_parts}
use Rattle.ds_names.proofs.Tests.{none_from}

pub assigning_at : (t : DriverTable) (unit : ℕ) (d : Driver) (b : Bool) → is_some (driver_of t.units unit) ≡ b →
    assigning t unit d ≡ cond b (Err Assigned, t) (Ok tt, assigns t unit d)
assigning_at t unit d b e = ap (λ (b : Bool). cond b (Err Assigned, t) (Ok tt, assigns t unit d)) e

served_still : (t : DriverTable) (unit : ℕ) (d : Driver) (requests : List Request) → AllByRecursion (IsRequestServed t) requests →
    AllByRecursion (IsRequestServed (assigns t unit d)) requests
served_still t unit d [] h = tt
served_still t unit d (r ∷ requests) h = (
  record {
    driver = h.0.driver;
    found = lookup_kept (λ u. r.unit == u) t.units ((unit, d) ∷ []) h.0.driver h.0.found;
    answered =
        h.0.answered;
    sent = h.0.sent;
  },
  served_still t unit d requests h.1,
)

units_still : (all : List (ℕ × Driver)) (unit : ℕ) (d : Driver) (units : List (ℕ × Driver)) → driver_of all unit ≡ None →
    AllByRecursion (λ (u : ℕ × Driver). driver_of all u.0 ≡ Some u.1) units →
    AllByRecursion (λ (u : ℕ × Driver). driver_of (all ++ (unit, d) ∷ []) u.0 ≡ Some u.1) (units ++ (unit, d) ∷ [])
units_still all unit d [] none h =
    (lookup_added (λ u. unit == u) all ((unit, d) ∷ []) none ∙ ap (λ (b : Bool). cond b (Some d) None) (equal_itself unit), tt)
units_still all unit d (u ∷ units) none h =
    (lookup_kept (λ n. u.0 == n) all ((unit, d) ∷ []) u.1 h.0, units_still all unit d units none h.1)

pub reached_assigned : (t : DriverTable) (unit : ℕ) (d : Driver) → IsTableReached t → driver_of t.units unit ≡ None →
    IsTableReached (assigns t unit d)
reached_assigned t unit d h none = record {
  units = units_still t.units unit d t.units none h.units;
  labels = λ label e. h.labels label (or_parts (has_label t.units label) (has_label ((unit, d) ∷ []) label)
      (sym (list_any-append (λ (u : ℕ × Driver). is_same_name label u.1.label) t.units ((unit, d) ∷ [])) ∙ e)).0;
  current = h.current;
  distinct = h.distinct;
  unasked = h.unasked;
  served = served_still t unit d t.requests h.served;
}

pub stands_assigned : (v : TableRecord) (t : DriverTable) (unit : ℕ) (d : Driver) (made : Device) → TableStands v t →
    is_some (lookup (λ u. unit == u) v.devices) ≡ false → made ≡ device_of t.states d →
    TableStands (record { devices = v.devices ++ (unit, made) ∷ []; pending = v.pending; last = v.last }) (assigns t unit d)
stands_assigned v t unit d made s absent e = record {
  devices = ap (λ (l : List (ℕ × Device)). l ++ (unit, made) ∷ []) s.devices ∙
      (ap (λ (m : Device). map (unit_of t.states) t.units ++ (unit, m) ∷ []) e ∙
      sym (map-append (unit_of t.states) t.units ((unit, d) ∷ [])));
  pending = s.pending;
  last = s.last;
  reached = reached_assigned t unit d s.reached (none_from _ (sym (present v t unit s) ∙ absent));
}
