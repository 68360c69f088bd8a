use Rattle.std.proofs.Common.{◌∙◌, string_bytes, rules, tests}
use Rattle.std.specs.Map.{keys_of}
use Rattle.std.proofs.lemmas.Iterator.Search.{all_from_yields_List}
use Rattle.std.proofs.lemmas.Iterator.Consumers.{YieldsList-from_rest}
use Rattle.rs_settings.specs.Settings.{is_top_field}
use Rattle.rs_settings.proofs.ValueLemmas.{keys_pass-view}
use Rattle.rs_settings.proofs.value.has_top_fields.Goals as goal

pub returns : goal.returns
returns c = all_from_yields_List (λ k. is_top_field (string_bytes k)) _ _ _ c.all.ensures.ran
    (YieldsList-from_rest (keys_of c.args.table.now.entries) c.keys.ensures.rest)
    (λ x b q k. search (rules, tests)) ∙ keys_pass-view is_top_field c.args.table.now.entries
