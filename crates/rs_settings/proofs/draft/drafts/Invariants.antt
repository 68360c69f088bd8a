use Rattle.std.proofs.Common.{◌≡◌, ◌≤◌, All, length, drop, map, []}
use Rattle.toml.specs.View.{items_view}
use Rattle.rs_settings.specs.Service.{services_in}
use Rattle.rs_settings.specs.Settings.{IsService}
use Rattle.rs_settings.specs.Draft.{service_of_draft}
use Rattle.rs_settings.proofs.draft.drafts.Given as goal

abbrev pub invariant-loop-item : goal.invariant-loop-item
invariant-loop-item l = record {
  read : services_in l.format (map service_of_draft l.drafts.items) (items_view (drop l.item-index l.items)) ≡ services_in l.format []
      (items_view l.items);
  each : All IsService (map service_of_draft l.drafts.items);
  count : length l.drafts.items ≤ l.item-index;
}
