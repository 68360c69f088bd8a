use Rattle.std.proofs.Common.{◌≡◌, ◌==◌, ℕ, List, true, false, Option, Ok, is_some, ap, sym, ◌∙◌, subst, rules}
use Rattle.std.specs.Map.{lookup}
use Rattle.ds_names.specs.Endpoint.{EndpointRecord}
use Rattle.indexmap.proofs.CallerLemmas.{insert_entry-new}
use Rattle.driver_tables.specs.declared.device.Device.{Device}
use Rattle.driver_tables.specs.Driver.{Driver}
use Rattle.driver_tables.specs.Assign.{assigns, assigning}
use Rattle.driver_tables.specs.Stands.{TableRecord, TableStands, device_of}
use Rattle.driver_tables.specs.Value.{table_of}
use Rattle.driver_tables.proofs.StandsLemmas.{told, present}
use Rattle.driver_tables.proofs.AssignLemmas.{assigning_at, stands_assigned}
use Rattle.driver_tables.proofs.table.Table.assign.Goals as goal
use Rattle.ds_names.proofs.Tests.{none_from}

pub returns-then-contains_key-clause-answer : goal.returns-then-contains_key-clause-answer
returns-then-contains_key-clause-answer c = λ t s.
    let v = table_of c.self.inside in
    let here : TableStands v t = subst (λ (v : TableRecord). TableStands v t) (sym c.self.view_is) s in
    let d : Driver = record { class = c.args.class; label = c.args.label.now } in
    sym (ap (λ p. p.0) (assigning_at t c.args.unit d true
    (sym (present v t c.args.unit here) ∙ (sym c.contains_key.ensures ∙ c.if-contains_key.true))))

pub returns-in_default-clause-answer : goal.returns-in_default-clause-answer
returns-in_default-clause-answer c = λ t s.
    let v = table_of c.self.inside in
    let here : TableStands v t = subst (λ (v : TableRecord). TableStands v t) (sym c.self.view_is) s in
    let d : Driver = record { class = c.args.class; label = c.args.label.now } in
    let k : (a : Unit {0}) × ((assigning t c.args.unit d).0 ≡ Ok a) = (
      tt,
      ap (λ p. p.0) (assigning_at t c.args.unit d false
          (sym (present v t c.args.unit here) ∙ (sym c.contains_key.ensures ∙ c.if-contains_key.false))),
    ) in
    search rules

pub returns-clause-answer : goal.returns-clause-answer
returns-clause-answer c = λ t s.
    let v = table_of c.self.inside in
    let here : TableStands v t = subst (λ (v : TableRecord). TableStands v t) (sym c.self.view_is) s in
    let d : Driver = record { class = c.args.class; label = c.args.label.now } in
    sym (ap (λ p. p.0) (assigning_at t c.args.unit d false
    (sym (present v t c.args.unit here) ∙ (sym c.contains_key.ensures ∙ c.if-contains_key.false))))

pub returns-clause-after : goal.returns-clause-after
returns-clause-after c = λ t s.
    let v = table_of c.self.inside in
    let here : TableStands v t = subst (λ (v : TableRecord). TableStands v t) (sym c.self.view_is) s in
    let d : Driver = record { class = c.args.class; label = c.args.label.now } in
    let absent : is_some (lookup (λ u. c.args.unit == u) v.devices) ≡ false = sym c.contains_key.ensures ∙ c.if-contains_key.false in
    let with : (Option EndpointRecord × Option ℕ) → Device = λ p.
    record { class = c.args.class; label = c.args.label.now; endpoint = p.0; newest = p.1 } in
    let made : Device = with c.status-endpoint.result in
    let same : made ≡ device_of t.states d = ap with (c.status-endpoint.ensures ∙ told v t c.args.label.now here) in
    let entries = c.in-Ok.ensures.entries ∙ insert_entry-new _ c.self.inside.devices c.args.unit made (none_from _ absent) in
    let stands : TableStands (record { devices = c.insert.new.self.entries; pending = v.pending; last = v.last }) (assigns t c.args.unit d)
    =
    subst (λ (es : List (ℕ × Device)). TableStands (record { devices = es; pending = v.pending; last = v.last }) (assigns t c.args.unit d))
    (sym entries) (stands_assigned v t c.args.unit d made here absent same) in
    subst (TableStands (record { devices = c.insert.new.self.entries; pending = v.pending; last = v.last }))
    (sym (ap (λ p. p.1) (assigning_at t c.args.unit d false (sym (present v t c.args.unit here) ∙ absent)))) stands
