use Rattle.std.proofs.Common.{ap, ◌∙◌, subst}
use Rattle.std.specs.List.{find, All}
use Rattle.std.specs.Option.{option_map}
use Rattle.ds_entry.specs.Change.{ChangeRecord, IsChange}
use Rattle.ds_held.specs.Held.{Holding, held_changes}
use Rattle.ds_join.specs.Label.{names_endpoint}
use Rattle.ds_index.proofs.IndexedLemmas.{name_found}
use Rattle.ds_index.proofs.indexed.Indexed.name_of.Goals as goal

pub returns : goal.returns
returns g c =
    let fit : All IsChange (held_changes c.self.inside.marked.held) =
    subst (λ (h : Holding). All IsChange (held_changes h)) c.held.ensures.value c.len-count.ensures.changes in
    c.name_of.ensures.first
    ∙ name_found c.self.inside.marked.held.changes c.held.ensures.sound.own fit c.self.inside.index.names c.name_of.ensures.in_order
    c.self.invariant c.args.endpoint
    ∙ ap (λ h. option_map (λ (x : ChangeRecord). x.key.name) (find (names_endpoint c.args.endpoint) (held_changes h.held))) c.self.view_is
