-- What a table's value says of the table that it stands for.
use Rattle.std.proofs.Common.{◌≡◌, ℕ, ◌==◌, ◌||◌, Bool, true, false, cond, List, [], ◌∷◌, map, Option, Some, None, is_some, refl, sym, ap}
use Rattle.std.proofs.Common.{◌∙◌}
use Rattle.std.specs.Option.{option_map}
use Rattle.std.specs.List.{find, IsDistinct}
use Rattle.std.specs.Map.{lookup}
use Rattle.ds_names.specs.Endpoint.{EndpointRecord}
use Rattle.driver_tables.specs.declared.device.Device.{Device}
use Rattle.driver_tables.specs.declared.request.Pending.{Pending}
use Rattle.driver_tables.specs.Driver.{Driver, driver_of, has_label}
use Rattle.driver_tables.specs.Label.{endpoint_now, newest}
use Rattle.driver_tables.specs.DriverTable.{DriverTable, Request, empty_table, last_sent, pending, is_requested}
use Rattle.driver_tables.specs.Stands.{TableRecord, TableStands, device_of, unit_of, pending_of}
use Rattle.driver_tables.specs.Devices.{is_of_label, status_of}
use Rattle.driver_tables.proofs.TestLemmas.{equal_number}
use Rattle.driver_tables.proofs.UnitLemmas.{device_is, first_tells, first_is}
use Rattle.ds_names.proofs.Tests.{none_from}

-- the state of a label
pub told : (v : TableRecord) (t : DriverTable) (label : List ℕ) → TableStands v t →
    status_of (find (is_of_label label) v.devices) ≡ (endpoint_now t.states label, newest t.states label)
told v t label s = ap (λ (l : List (ℕ × Device)). status_of (find (is_of_label label) l)) s.devices ∙ by (has_label t.units label) refl
  where
    by : (b : Bool) → has_label t.units label ≡ b →
        status_of (find (is_of_label label) (map (unit_of t.states) t.units)) ≡ (endpoint_now t.states label, newest t.states label)
    by true e = first_tells t.states t.units label e
    by false e =
        let known = s.reached.labels label e in
        let none : find (is_of_label label) (map (unit_of t.states) t.units) ≡ None = none_from _ (first_is t.states t.units label ∙ e) in
        cc (known.0, known.1, none)

pub labelled : (v : TableRecord) (t : DriverTable) (label : List ℕ) → TableStands v t →
    is_some (find (is_of_label label) v.devices) ≡ has_label t.units label
labelled v t label s = ap (λ (l : List (ℕ × Device)). is_some (find (is_of_label label) l)) s.devices ∙ first_is t.states t.units label

-- the first device of a label, if there is one
pub first_device : (v : TableRecord) (t : DriverTable) (label : List ℕ) (d : Device) → TableStands v t →
    option_map (λ (u : ℕ × Device). u.1) (find (is_of_label label) v.devices) ≡ Some d →
    (has_label t.units label ≡ true) × (d.endpoint ≡ endpoint_now t.states label) × (d.newest ≡ newest t.states label)
first_device v t label d s e = by (find (is_of_label label) v.devices) e (labelled v t label s) (told v t label s)
  where
    by : (f : Option (ℕ × Device)) → option_map (λ (u : ℕ × Device). u.1) f ≡ Some d → is_some f ≡ has_label t.units label →
        status_of f ≡ (endpoint_now t.states label, newest t.states label) →
        (has_label t.units label ≡ true) × (d.endpoint ≡ endpoint_now t.states label) × (d.newest ≡ newest t.states label)
    by None e h k = cc
    by (Some u) e h k =
        let same : u.1 ≡ d = cc in
        (sym h, ap (λ (x : Device). x.endpoint) (sym same) ∙ ap (λ p. p.0) k, ap (λ (x : Device). x.newest) (sym same) ∙ ap (λ p. p.1) k)

pub no_device : (v : TableRecord) (t : DriverTable) (label : List ℕ) → TableStands v t →
    option_map (λ (u : ℕ × Device). u.1) (find (is_of_label label) v.devices) ≡ None → has_label t.units label ≡ false
no_device v t label s e = sym (labelled v t label s) ∙ by (find (is_of_label label) v.devices) e
  where
    by : (f : Option (ℕ × Device)) → option_map (λ (u : ℕ × Device). u.1) f ≡ None → is_some f ≡ false
    by None e = refl
    by (Some u) e = cc

pub driver_kept : (v : TableRecord) (t : DriverTable) (unit : ℕ) → TableStands v t →
    lookup (λ u. unit == u) v.devices ≡ option_map (device_of t.states) (driver_of t.units unit)
driver_kept v t unit s = ap (λ (l : List (ℕ × Device)). lookup (λ u. unit == u) l) s.devices ∙ device_is t.states t.units unit

pub present : (v : TableRecord) (t : DriverTable) (unit : ℕ) → TableStands v t →
    is_some (lookup (λ u. unit == u) v.devices) ≡ is_some (driver_of t.units unit)
present v t unit s = ap is_some (driver_kept v t unit s) ∙ mapped (driver_of t.units unit)
  where
    mapped : (d : Option Driver) → is_some (option_map (device_of t.states) d) ≡ is_some d
    mapped None = refl
    mapped (Some d) = refl

-- the endpoint that a pending request was last sent to
sent_among : (sends : List (ℕ × EndpointRecord)) (id : ℕ) (requests : List Request) →
    option_map (λ (p : Pending). p.sent) (find (λ (p : Pending). p.id == id) (map (pending_of sends) requests)) ≡ cond
    (is_requested requests id) (Some (last_sent sends id)) None
sent_among sends id [] = refl
sent_among sends id (r ∷ requests) = by (r.id == id) refl (sent_among sends id requests)
  where
    by : (b : Bool) → r.id == id ≡ b → option_map (λ (p : Pending). p.sent)
        (find (λ (p : Pending). p.id == id) (map (pending_of sends) requests)) ≡ cond (is_requested requests id)
        (Some (last_sent sends id)) None →
        option_map (λ (p : Pending). p.sent) (cond b (Some (pending_of sends r))
        (find (λ (p : Pending). p.id == id) (map (pending_of sends) requests))) ≡ cond (b || is_requested requests id)
        (Some (last_sent sends id)) None
    by true e rest = ap (λ (n : ℕ). Some (last_sent sends n)) (equal_number r.id id e)
    by false e rest = rest

pub sent_kept : (v : TableRecord) (t : DriverTable) (id : ℕ) → TableStands v t →
    option_map (λ (p : Pending). p.sent) (find (λ (p : Pending). p.id == id) v.pending) ≡ cond (is_requested (pending t) id)
    (Some (last_sent t.sends id)) None
sent_kept v t id s = ap (λ (l : List Pending). option_map (λ (p : Pending). p.sent) (find (λ (p : Pending). p.id == id) l)) s.pending ∙
    sent_among t.sends id (pending t)

-- a table without units
pub stands_opening : (devices : List (ℕ × Device)) (waiting : List Pending) → devices ≡ [] → waiting ≡ [] →
    TableStands (record { devices = devices; pending = waiting; last = None }) empty_table
unfolding IsDistinct
stands_opening devices waiting d w = record {
  devices = d;
  pending = w;
  last = λ id. refl;
  reached = record {
    units = tt;
    labels = λ label e. (refl, refl);
    current = λ label e h. cc;
    distinct = tt;
    unasked = λ id e. (refl, refl);
    served = tt;
  };
}
