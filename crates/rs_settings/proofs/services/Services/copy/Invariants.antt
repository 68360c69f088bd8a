use Rattle.std.proofs.Common.{◌≡◌, take}
use Rattle.rs_settings.proofs.services.Services.copy.Given as goal

abbrev pub invariant-loop-service : goal.invariant-loop-service
invariant-loop-service l = l.services.items ≡ take l.service-index l.service-items
