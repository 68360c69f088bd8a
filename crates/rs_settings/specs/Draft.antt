-- A judged service whose published names are still in the document.
use Rattle.std.specs.Prelude.{ℕ, Bool, List, [], map, option_map, unwrap_or}
use Rattle.toml.specs.Data.{as_str}
use Rattle.toml.specs.View.{view}
use Rattle.toml.specs.declared.value.Value.{Value}
use Rattle.rs_settings.specs.declared.draft.Draft.{Draft}
use Rattle.rs_settings.specs.declared.service.Service.{Service}
use Rattle.rs_settings.specs.declared.shared.Mark.{Mark}
use Rattle.rs_settings.specs.declared.shared.Mark.TheVariants.{Label, Unit}
use Rattle.rs_settings.specs.Shared.{share_label, share_unit}

-- The bytes of a string, or none for any other value.
abbrev pub text_in_value : Value → List ℕ
text_in_value value = unwrap_or (as_str (view value)) []

-- The service that a draft becomes.
abbrev pub service_of_draft : Draft → Service
service_of_draft d = record {
  label = d.label;
  class = d.class;
  unit = d.unit;
  period = d.period;
  limit = d.limit;
  publishes = map text_in_value d.publishes.now;
  complains = option_map (λ values. map text_in_value values.now) d.complains;
  connects = option_map (λ values. map text_in_value values.now) d.connects;
  forget = d.forget;
  startup = d.startup;
}

-- Whether the two services share the field that the mark names.
abbrev pub share_by : Mark → Service → Service → Bool
share_by Label = share_label
share_by Unit = share_unit
