use Rattle.std.proofs.Common.{ap, sym, ◌∙◌, subst}
use Rattle.driver_tables.specs.Stands.{TableRecord, TableStands}
use Rattle.driver_tables.specs.Value.{table_of}
use Rattle.driver_tables.proofs.StandsLemmas.{told}
use Rattle.driver_tables.proofs.table.Table.newest.Goals as goal

pub returns : goal.returns
returns c = λ t s.
    let v = table_of c.self.inside in
    let here : TableStands v t = subst (λ (v : TableRecord). TableStands v t) (sym c.self.view_is) s in
    ap (λ p. p.1) (c.status.ensures ∙ told v t c.args.label.now here)
