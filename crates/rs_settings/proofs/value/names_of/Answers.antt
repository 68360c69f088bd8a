use Rattle.std.proofs.Common.{◌≡◌, List, Some, None, map, ◌∙◌, sym, ap, subst, arith}
use Rattle.toml.specs.declared.value.Value.{Value}
use Rattle.toml.specs.View.{items_view}
use Rattle.rs_settings.specs.Values.{each_of, name_in}
use Rattle.rs_settings.specs.Draft.{text_in_value}
use Rattle.rs_settings.proofs.ValueLemmas.{names_of-long, names_of-short}
use Rattle.rs_settings.proofs.value.names_of.Goals as goal

pub returns-then-len-gt64-clause-value : goal.returns-then-len-gt64-clause-value
returns-then-len-gt64-clause-value c = sym (names_of-long c.args.items.now.items (omega arith))

pub returns-then-are_names-clause-value : goal.returns-then-are_names-clause-value
returns-then-are_names-clause-value c =
    let vs = c.args.items.now.items in
    let e : each_of name_in (items_view c.as_slice.result.now) ≡ Some (map text_in_value c.as_slice.result.now) =
    rw c.if-are_names.true at c.are_names.ensures.value in
    let f : each_of name_in (items_view vs) ≡ Some (map text_in_value vs) =
    subst (λ (z : List Value). each_of name_in (items_view z) ≡ Some (map text_in_value z)) c.as_slice.ensures.value e in
    ap (λ (z : List Value). Some (map text_in_value z)) c.as_slice-then-are_names.ensures.value ∙ sym (names_of-short vs (omega arith) ∙ f)

pub returns-else-are_names-clause-value : goal.returns-else-are_names-clause-value
returns-else-are_names-clause-value c =
    let vs = c.args.items.now.items in
    let e : each_of name_in (items_view c.as_slice.result.now) ≡ None = rw c.if-are_names.false at c.are_names.ensures.value in
    let f : each_of name_in (items_view vs) ≡ None =
    subst (λ (z : List Value). each_of name_in (items_view z) ≡ None) c.as_slice.ensures.value e in
    sym (names_of-short vs (omega arith) ∙ f)
