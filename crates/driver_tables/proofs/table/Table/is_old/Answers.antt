use Rattle.std.proofs.Common.{ℕ, Option, ap, sym, ◌∙◌, subst}
use Rattle.ds_names.specs.Endpoint.{EndpointRecord}
use Rattle.driver_tables.specs.Label.{is_old}
use Rattle.driver_tables.specs.Stands.{TableRecord, TableStands}
use Rattle.driver_tables.specs.Value.{table_of}
use Rattle.driver_tables.proofs.StandsLemmas.{told}
use Rattle.driver_tables.proofs.table.Table.is_old.Goals as goal

pub returns : goal.returns
returns c = λ t s.
    let v = table_of c.self.inside in
    let here : TableStands v t = subst (λ (v : TableRecord). TableStands v t) (sym c.self.view_is) s in
    c.is_old.ensures ∙ ap (λ (p : Option EndpointRecord × Option ℕ). is_old p.1 p.0 c.args.state.now)
    (c.status-endpoint.ensures ∙ told v t c.args.label.now here)
