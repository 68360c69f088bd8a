use Rattle.std.proofs.Common.{List, None, Some, cond, ap, sym, ◌∙◌, subst}
use Rattle.ds_names.specs.Name.{rs_name}
use Rattle.ds_entry.specs.declared.item.Item.{Item}
use Rattle.ds_join.specs.Label.{first_name_of}
use Rattle.ds_machine.specs.Asking.{name_of}
use Rattle.ds_machine.specs.Parts.{changes_in}
use Rattle.ds_machine.specs.State.{held}
use Rattle.ds_content.specs.Content.{ContentRecord}
use Rattle.ds_content.specs.Stands.{ContentStands}
use Rattle.ds_store.proofs.store.Store.fast_name_of.Goals as goal

pub returns-then-is_rs : goal.returns-then-is_rs
returns-then-is_rs c = λ s stands.
    sym (ap (λ b. cond b None (name_of (held s) c.args.endpoint)) (sym c.is_rs.ensures ∙ c.if-is_rs.true))

pub returns : goal.returns
returns c = λ s stands.
    let v = c.deref.result.now in
    let here : ContentStands v s = subst (λ (x : ContentRecord). ContentStands x s) (sym (c.deref.ensures ∙ c.self.view_is)) stands in
    c.label_of.ensures
    ∙ ap (λ (hs : List Item). first_name_of c.args.endpoint (changes_in hs)) here.held
    ∙ sym (ap (λ b. cond b None (cond b (Some rs_name) (first_name_of c.args.endpoint (changes_in (held s)))))
    (sym c.is_rs.ensures ∙ c.if-is_rs.false))
