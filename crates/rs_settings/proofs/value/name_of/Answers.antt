use Rattle.std.proofs.Common.{◌≡◌, List, ℕ, Some, sym, ◌∙◌, ap, subst}
use Rattle.ds_names.specs.Name.{IsName}
use Rattle.rs_settings.proofs.ValueLemmas.{name_of-name, name_of-none}
use Rattle.rs_settings.proofs.value.name_of.Goals as goal

pub returns-in-Ok-clause-value : goal.returns-in-Ok-clause-value
returns-in-Ok-clause-value c =
    let h = c.in-Ok.ensures in
    let e : c.as_bytes.result.now ≡ c.args.text.now = c.as_bytes.ensures.value in
    let n : IsName c.args.text.now = subst IsName e h.0 in
    rw (name_of-name c.args.text.now n) (ap (λ (b : List ℕ). Some b) (h.1 ∙ e))

pub returns-in-Err-clause-value : goal.returns-in-Err-clause-value
returns-in-Err-clause-value c =
    let e : c.as_bytes.result.now ≡ c.args.text.now = c.as_bytes.ensures.value in
    let no : IsName c.args.text.now → ⊥ = λ n. c.in-Err.ensures (subst IsName (sym e) n) in
    sym (name_of-none c.args.text.now no)
