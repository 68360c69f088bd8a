use Rattle.std.proofs.Common.{◌≢◌, [], arith, rules}
use Rattle.rs_settings.specs.Settings.{IsService}
use Rattle.rs_settings.specs.Draft.{service_of_draft}
use Rattle.rs_settings.proofs.TableLemmas.{each-at, some-at}
use Rattle.rs_settings.proofs.settings.services.Goals as goal

pub service-requires : goal.service-requires
service-requires c = each-at IsService service_of_draft c.args.drafts.now c.loop-draft.draft-index c.draft-item.result c.requires
    (omega arith) c.draft-item.is

pub returns-in_err-service-clause-room : goal.returns-in_err-service-clause-room
returns-in_err-service-clause-room c =
    let some : c.args.drafts.now ≢ [] = some-at c.args.drafts.now c.loop-draft.draft-index (omega arith) in
    search rules

pub returns-in_err-push-clause-room : goal.returns-in_err-push-clause-room
returns-in_err-push-clause-room c =
    let some : c.args.drafts.now ≢ [] = some-at c.args.drafts.now c.loop-draft.draft-index (omega arith) in
    search rules
