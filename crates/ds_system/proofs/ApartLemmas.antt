-- No label has units at both servers, whatever happens.
use Rattle.std.proofs.Common.{◌≡◌, ◌||◌, ℕ, Bool, true, false, List, [], ◌∷◌, get_or, Option, Some, None, is_some, Result, refl, ap, sym}
use Rattle.std.proofs.Common.{◌∙◌, inl, inr, ◌⊎◌, Contains}
use Rattle.std.specs.List.{filter_map}
use Rattle.std.proofs.lemmas.Bool.{or_cases}
use Rattle.std.proofs.lemmas.List.{get_or_default}
use Rattle.std.proofs.lemmas.List.Folds.{list_any-append}
use Rattle.ds_names.specs.Endpoint.{EndpointRecord}
use Rattle.ds_names.specs.Name.{is_same_name}
use Rattle.ds_names.proofs.Tests.{opposed}
use Rattle.ds_entry.proofs.Members.{In, Contains-from_In}
use Rattle.rs_settings.specs.declared.class.Class.{Class}
use Rattle.rs_settings.specs.declared.class.Class.TheVariants.{Block, Character, Network, Server}
use Rattle.rs_settings.specs.declared.service.Service.{Service}
use Rattle.rs_settings.specs.Settings.{SettingsRecord, IsSettings}
use Rattle.rs_settings.specs.Shared.{is_network}
use Rattle.rs_core.specs.State.{no_service}
use Rattle.driver_tables.specs.declared.moves.Move.{Move}
use Rattle.driver_tables.specs.declared.fault.TableFault.{TableFault}
use Rattle.driver_tables.specs.declared.fault.TableFault.TheVariants as stops
use Rattle.driver_tables.specs.Assign.{assigning}
use Rattle.driver_tables.specs.Driver.{Driver, driver_of, has_label}
use Rattle.driver_tables.specs.DriverTable.{DriverTable, empty_table, last_sent, pending, is_requested}
use Rattle.driver_tables.specs.Label.{is_same_state}
use Rattle.driver_tables.proofs.RunLemmas.{assigned_so, replied_so}
use Rattle.driver_tables.proofs.TestLemmas.{same_name, or_nothing}
use Rattle.rs_to_store.specs.Following.{labels_of}
use Rattle.rs_to_store.proofs.FollowLemmas.{follows_keep_units}
use Rattle.ds_system.specs.declared.event.Table.{Table}
use Rattle.ds_system.specs.declared.event.Table.TheVariants.{File, Net}
use Rattle.ds_system.specs.declared.event.SystemEvent.{SystemEvent}
use Rattle.ds_system.specs.declared.event.SystemEvent.TheVariants.{Service as ServiceEvent, Put, Remove, Again, World, Follow, Submit}
use Rattle.ds_system.specs.declared.event.SystemEvent.TheVariants.{Answered}
use Rattle.ds_system.specs.declared.outcome.SystemOutcome.{SystemOutcome}
use Rattle.ds_system.specs.declared.outcome.SystemOutcome.TheVariants.{Acted, Replied, Moved, Happened, Refused}
use Rattle.ds_system.specs.System.{System, table_at, system_with_table, followed_items}
use Rattle.ds_system.specs.Turn.{TableTurn}
use Rattle.ds_system.specs.Steps.{Steps}
use Rattle.ds_system.specs.EffectsOfTurns.{LooksAtMap, IsPlain, LooksToo, FollowsBoth, Submits, Replies}
use Rattle.ds_system.specs.Happening.{SystemTakes, SystemDoes, SystemEntry, SystemRun}
use Rattle.ds_system.specs.Start.{unit_with, file_driver_of, net_driver_of, file_unit, net_unit, assigned_all}
use Rattle.ds_system.specs.Sending.{LabelsAreApart}
use Rattle.ds_system.proofs.NewsLemmas.{same_some}
use Rattle.ds_system.proofs.AboutLemmas.{In-from_filter_map}
use Rattle.ds_system.proofs.SingleLemmas.{one_service}
use Rattle.ds_system.proofs.TableRunLemmas.{assigned_to, submit_leaves}

-- ---- units that were assigned
abbrev IsLabelAmong : List (ℕ × Driver) → List ℕ → Type 0
IsLabelAmong units label = (u : ℕ × Driver) × In u units × (u.1.label ≡ label)

assigned_labels : (units : List (ℕ × Driver)) (t : DriverTable) (label : List ℕ) → has_label (assigned_to t units).units label ≡ true →
    (has_label t.units label ≡ true) ⊎ IsLabelAmong units label
assigned_labels [] t label h = inl h
assigned_labels (u ∷ units) t label h = by (assigned_labels units (assigning t u.0 u.1).1 label h)
  where
    one : (b : Bool) → has_label (assigned_so t u.0 u.1 b).1.units label ≡ true →
        (has_label t.units label ≡ true) ⊎ IsLabelAmong (u ∷ units) label
    one true k = inl k
    one false k = elim (or_cases (has_label t.units label) (is_same_name label u.1.label || false)
        (sym (list_any-append (λ (v : ℕ × Driver). is_same_name label v.1.label) t.units (u ∷ [])) ∙ k)) [
          | inl i ↦ inl i
          | inr i ↦ inr (u, inl refl, sym (same_name label u.1.label (sym (or_nothing (is_same_name label u.1.label)) ∙ i)))
        ]

    by : (has_label (assigning t u.0 u.1).1.units label ≡ true) ⊎ IsLabelAmong units label →
        (has_label t.units label ≡ true) ⊎ IsLabelAmong (u ∷ units) label
    by (inl i) = one (is_some (driver_of t.units u.0)) i
    by (inr v) = inr (v.0, inr v.1, v.2)

-- ---- the service of a unit
-- a service of the label, of the network class or not
record IsServiceOf (services : List Service) (label : List ℕ) (network : Bool) : Type 0 where
  service : Service
  there : Contains services service
  label_is : service.label ≡ label
  class : is_network service.class ≡ network

file_service : (s : Service) (u : ℕ × Driver) → file_unit s ≡ Some u → (is_network s.class ≡ false) × (s.label ≡ u.1.label)
file_service s u e = by s.unit s.class e
  where
    by : (unit : Option ℕ) (class : Class) → unit_with unit (file_driver_of class s.label) ≡ Some u →
        (is_network class ≡ false) × (s.label ≡ u.1.label)
    by (Some n) Block k = (refl, ap (λ (z : ℕ × Driver). z.1.label) (same_some _ u k))
    by (Some n) Character k = (refl, ap (λ (z : ℕ × Driver). z.1.label) (same_some _ u k))
    by (Some n) Network k = cc
    by (Some n) Server k = cc
    by None Block k = cc
    by None Character k = cc
    by None Network k = cc
    by None Server k = cc

net_service : (s : Service) (u : ℕ × Driver) → net_unit s ≡ Some u → (is_network s.class ≡ true) × (s.label ≡ u.1.label)
net_service s u e = by s.unit s.class e
  where
    by : (unit : Option ℕ) (class : Class) → unit_with unit (net_driver_of class s.label) ≡ Some u →
        (is_network class ≡ true) × (s.label ≡ u.1.label)
    by (Some n) Network k = (refl, ap (λ (z : ℕ × Driver). z.1.label) (same_some _ u k))
    by (Some n) Block k = cc
    by (Some n) Character k = cc
    by (Some n) Server k = cc
    by None Block k = cc
    by None Character k = cc
    by None Network k = cc
    by None Server k = cc

from_services : (unit_of : Service → Option (ℕ × Driver)) (network : Bool) →
    ((s : Service) (u : ℕ × Driver) → unit_of s ≡ Some u → (is_network s.class ≡ network) × (s.label ≡ u.1.label))
    → (services : List Service) (label : List ℕ) → has_label (assigned_all (filter_map unit_of services)).units label ≡ true →
    IsServiceOf services label network
from_services unit_of network tells services label h = by (assigned_labels (filter_map unit_of services) empty_table label h)
  where
    by : (has_label [] label ≡ true) ⊎ IsLabelAmong (filter_map unit_of services) label → IsServiceOf services label network
    by (inl i) = cc
    by (inr u) =
        let s = In-from_filter_map unit_of services u.0 u.1 in
        let t = tells s.0 u.0 s.2 in
        record { service = s.0; there = Contains-from_In s.0 services s.1; label_is = t.1 ∙ u.2; class = t.0 }

two_services : (settings : SettingsRecord) → IsSettings settings → (label : List ℕ) → IsServiceOf settings.services label false →
    IsServiceOf settings.services label true → ⊥
two_services settings checked label f n = opposed (is_network n.service.class) n.class
    (ap (λ (z : Service). is_network z.class) (sym same) ∙ f.class)
  where
    at : (s : Service) (h : Contains settings.services s) → get_or settings.services h.0 no_service ≡ s
    at s h = get_or_default settings.services h.0 no_service s h.1 ∙ h.2

    place : f.there.0 ≡ n.there.0
    place = one_service settings checked f.there.0 n.there.0 f.there.1 n.there.1
        (ap (λ (z : Service). z.label) (at f.service f.there) ∙ (f.label_is ∙ sym n.label_is) ∙
        ap (λ (z : Service). z.label) (sym (at n.service n.there)))

    same : f.service ≡ n.service
    same = sym (at f.service f.there) ∙ (ap (λ (i : ℕ). get_or settings.services i no_service) place ∙ at n.service n.there)

-- ---- no event changes the units
abbrev UnitsStay : System → System → Type 0
UnitsStay s t = (table : Table) → (table_at t table).units ≡ (table_at s table).units

tables_same : (s t x : System) → t ≡ x → x.file ≡ s.file → x.net ≡ s.net → UnitsStay s t
tables_same s t x e file net File = ap (λ (z : DriverTable). z.units) (ap (λ (z : System). z.file) e ∙ file)
tables_same s t x e file net Net = ap (λ (z : DriverTable). z.units) (ap (λ (z : System). z.net) e ∙ net)

one_same : (s t : System) (table : Table) (u : DriverTable) → t ≡ system_with_table s table u → u.units ≡ (table_at s table).units →
    UnitsStay s t
one_same s t File u e units File = ap (λ (z : System). z.file.units) e ∙ units
one_same s t File u e units Net = ap (λ (z : System). z.net.units) e
one_same s t Net u e units Net = ap (λ (z : System). z.net.units) e ∙ units
one_same s t Net u e units File = ap (λ (z : System). z.file.units) e

looks_same : (s : System) (table : Table) (turn : TableTurn) → LooksAtMap s table turn → turn.followed.units ≡ (table_at s table).units
looks_same s table turn h =
    (follows_keep_units (followed_items s table) (labels_of turn.before) turn.before turn.followed turn.rounds turn.stop h.follows).0 ∙
    ap (λ (z : DriverTable). z.units) h.before

plain_same : (s : System) (table : Table) (turn : TableTurn) → LooksAtMap s table turn → IsPlain turn →
    turn.after.units ≡ (table_at s table).units
plain_same s table turn h p = ap (λ (z : DriverTable). z.units) p.after ∙ looks_same s table turn h

too_same : (s : System) (stop : Option TableFault) (net : Option TableTurn) (rounds : List (List Move)) (fault : Option TableFault)
    (after : DriverTable) → LooksToo s stop net rounds fault after → after.units ≡ s.net.units
too_same s None net rounds fault after h = ap (λ (z : DriverTable). z.units) h.6 ∙ plain_same s Net h.0 h.2 h.3
too_same s (Some stop) net rounds fault after h = ap (λ (z : DriverTable). z.units) h.3

submits_same : (followed : DriverTable) (id unit : ℕ) (stop : Option TableFault) (own : Option Move) (fault : Option TableFault)
    (after : DriverTable) → Submits followed id unit stop own fault after → after.units ≡ followed.units
submits_same followed id unit (Some stop) own fault after h = ap (λ (z : DriverTable). z.units) h.2
submits_same followed id unit None (Some own) None after h = (submit_leaves followed after id unit own h).units
submits_same followed id unit None (Some own) (Some fault) after h = absurd h
submits_same followed id unit None None None after h = absurd h
submits_same followed id unit None None (Some stops.NoRoom) after h = ap (λ (z : DriverTable). z.units) h.1
submits_same followed id unit None None (Some _) after h = ap (λ (z : DriverTable). z.units) h.1

replies_same : (t : DriverTable) (endpoint : EndpointRecord) (id : ℕ) (own : Option Move) (fault : Option TableFault) (after : DriverTable)
    → Replies t endpoint id own fault after → after.units ≡ t.units
replies_same t endpoint id (Some own) None after h =
    ap (λ (p : Result Move TableFault × DriverTable). p.1.units) (sym h) ∙
    by (is_requested (pending t) id) (is_same_state (last_sent t.sends id) (Some endpoint))
  where
    by : (there same : Bool) → (replied_so t id there same).1.units ≡ t.units
    by false same = refl
    by true false = refl
    by true true = refl
replies_same t endpoint id None (Some fault) after h = ap (λ (z : DriverTable). z.units) h.1
replies_same t endpoint id (Some own) (Some fault) after h = absurd h
replies_same t endpoint id None None after h = absurd h

both_same : (s : System) (rounds : List (List Move)) (own : Option Move) (fault : Option TableFault) (steps : Steps) (t : System) →
    FollowsBoth s rounds own fault steps t → UnitsStay s t
both_same s rounds own fault steps t h File = ap (λ (z : System). z.file.units) h.system_is ∙ plain_same s File h.file h.first h.plain
both_same s rounds own fault steps t h Net = too_same s h.file.stop h.net h.more fault t.net h.too

takes_same : (s : System) (event : SystemEvent) (outcome : SystemOutcome) (steps : Steps) (t : System) →
    SystemTakes s event outcome steps t → UnitsStay s t
takes_same s (ServiceEvent event tick side) (Acted actions replies) steps t h = tables_same s t _ h.system_is refl refl
takes_same s (Put label key value side) (Replied reply) steps t h = tables_same s t _ h.system_is refl refl
takes_same s (Remove label key side) (Replied reply) steps t h = tables_same s t _ h.system_is refl refl
takes_same s (Again k side) (Replied reply) steps t h = tables_same s t _ h.system_is refl refl
takes_same s (World event) (Happened outcome) steps t h = tables_same s t _ h.system_is refl refl
takes_same s Follow (Moved rounds own fault) steps t h = both_same s rounds own fault steps t h
takes_same s (Submit table id unit) (Moved rounds own fault) steps t h =
    one_same s t table h.turn.after h.system_is
    (submits_same h.turn.followed id unit h.turn.stop h.turn.own fault h.turn.after h.submits ∙ looks_same s table h.turn h.first)
takes_same s (Answered table endpoint id) (Moved rounds own fault) steps t h =
    one_same s t table h.after h.system_is (replies_same (table_at s table) endpoint id own fault h.after h.replies)
takes_same s event outcome steps t h = absurd h

pub event_same : (s : System) (event : SystemEvent) (outcome : SystemOutcome) (steps : Steps) (t : System) →
    SystemDoes s event outcome steps t → UnitsStay s t
event_same s event (Refused fault) steps t h = tables_same s t s h.system_is refl refl
event_same s event (Acted a b) steps t h = takes_same s event (Acted a b) steps t h
event_same s event (Replied a) steps t h = takes_same s event (Replied a) steps t h
event_same s event (Moved a b c) steps t h = takes_same s event (Moved a b c) steps t h
event_same s event (Happened a) steps t h = takes_same s event (Happened a) steps t h

run_same : (s : System) (entries : List SystemEntry) (t : System) → SystemRun s entries t → UnitsStay s t
run_same s [] t run table = ap (λ (z : System). (table_at z table).units) (sym run)
run_same s (e ∷ es) t run table = run_same run.0 es t run.2 table ∙ event_same s e.event e.outcome e.steps run.0 run.1 table

pub labels_are_apart : LabelsAreApart
labels_are_apart settings a b next s t entries new run label file net =
    two_services settings new.checked label
    (from_services file_unit false file_service settings.services label
    (ap (λ (z : List (ℕ × Driver)). has_label z label) (sym (run_same s entries t run File ∙ ap (λ (z : DriverTable). z.units) new.file)) ∙
    file))
    (from_services net_unit true net_service settings.services label
    (ap (λ (z : List (ℕ × Driver)). has_label z label) (sym (run_same s entries t run Net ∙ ap (λ (z : DriverTable). z.units) new.net)) ∙
    net))
