use Rattle.std.proofs.Common.{◌≡◌, take, drop, map, []}
use Rattle.rs_settings.specs.Shared.{first_clash}
use Rattle.rs_settings.specs.Draft.{service_of_draft, share_by}
use Rattle.rs_settings.proofs.shared.Mark.first_clash.Given as goal

abbrev pub invariant-loop-i : goal.invariant-loop-i
invariant-loop-i l = first_clash (share_by l.self) (map service_of_draft (take l.i l.drafts)) (map service_of_draft (drop l.i l.drafts)) ≡
    first_clash (share_by l.self) [] (map service_of_draft l.drafts)
