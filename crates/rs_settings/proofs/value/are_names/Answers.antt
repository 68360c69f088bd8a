use Rattle.std.proofs.Common.{◌∙◌, sym, rules, tests}
use Rattle.std.specs.Option.{is_some}
use Rattle.std.proofs.lemmas.Iterator.Search.{all_from_yields_List}
use Rattle.std.proofs.lemmas.Iterator.{YieldsList-from_slice}
use Rattle.std.proofs.Common.{◌≡◌}
use Rattle.std.specs.List.{list_all}
use Rattle.toml.specs.View.{view}
use Rattle.rs_settings.specs.Values.{name_in}
use Rattle.rs_settings.proofs.ValueLemmas.{each_of-names, all-names}
use Rattle.rs_settings.proofs.value.are_names.Goals as goal

pub returns-clause-value : goal.returns-clause-value
returns-clause-value c =
    let all : c.all.result ≡ list_all (λ v. is_some (name_in (view v))) c.args.items.now =
    all_from_yields_List (λ v. is_some (name_in (view v))) _ _ _ c.all.ensures.ran
    (YieldsList-from_slice c.args.items.now cc) (λ x b q k. search (rules, tests)) in
    rw all (each_of-names c.args.items.now)

pub returns-clause-names : goal.returns-clause-names
returns-clause-names c =
    let all : c.all.result ≡ list_all (λ v. is_some (name_in (view v))) c.args.items.now =
    all_from_yields_List (λ v. is_some (name_in (view v))) _ _ _ c.all.ensures.ran
    (YieldsList-from_slice c.args.items.now cc) (λ x b q k. search (rules, tests)) in
    λ h. all-names c.args.items.now (sym all ∙ h)
