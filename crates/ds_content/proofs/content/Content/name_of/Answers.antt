use Rattle.std.proofs.Common.{ℕ, Some, List, cond, ap, sym, ◌∙◌}
use Rattle.ds_join.specs.Label.{first_name_of}
use Rattle.ds_machine.specs.Parts.{changes_in}
use Rattle.ds_content.proofs.content.Content.name_of.Goals as goal
use Rattle.ds_names.specs.Name.{rs_name}

pub returns-then-is_rs : goal.returns-then-is_rs
returns-then-is_rs c =
    ap (λ (n : List ℕ). Some n) c.rs.ensures
    ∙ sym (ap (λ b. cond b (Some rs_name) (first_name_of c.args.endpoint (changes_in c.args.self.now.held)))
    (sym c.is_rs.ensures ∙ c.if-is_rs.true))

pub returns : goal.returns
returns c =
    c.copied.ensures ∙ c.label_of.ensures
    ∙ sym (ap (λ b. cond b (Some rs_name) (first_name_of c.args.endpoint (changes_in c.args.self.now.held)))
    (sym c.is_rs.ensures ∙ c.if-is_rs.false))
