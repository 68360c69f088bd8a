use Rattle.std.proofs.Common.{◌≡◌, take, map}
use Rattle.rs_settings.specs.Draft.{service_of_draft}
use Rattle.rs_settings.proofs.settings.services.Given as goal

abbrev pub invariant-loop-draft : goal.invariant-loop-draft
invariant-loop-draft l = l.services ≡ map service_of_draft (take l.draft-index l.drafts)
