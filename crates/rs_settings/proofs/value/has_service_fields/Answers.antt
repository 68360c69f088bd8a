use Rattle.std.proofs.Common.{◌∙◌, string_bytes, rules, tests}
use Rattle.std.specs.Map.{keys_of}
use Rattle.std.proofs.lemmas.Iterator.Search.{all_from_yields_List}
use Rattle.std.proofs.lemmas.Iterator.Consumers.{YieldsList-from_rest}
use Rattle.rs_settings.specs.Service.{is_service_field}
use Rattle.rs_settings.proofs.ValueLemmas.{keys_pass-view}
use Rattle.rs_settings.proofs.value.has_service_fields.Goals as goal

pub returns : goal.returns
returns c = all_from_yields_List (λ k. is_service_field c.args.format (string_bytes k)) _ _ _ c.all.ensures.ran
    (YieldsList-from_rest (keys_of c.args.table.now.entries) c.keys.ensures.rest)
    (λ x b q k. search (rules, tests)) ∙ keys_pass-view (is_service_field c.args.format) c.args.table.now.entries
