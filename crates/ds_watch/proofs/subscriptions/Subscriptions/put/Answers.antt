use Rattle.std.proofs.Common.{◌<◌, List, Option, Some, length, set, ap, subst, sym, ◌∙◌}
use Rattle.std.proofs.Math.Seq.{take-set-lt}
use Rattle.ds_watch.specs.Watching.{Watching}
use Rattle.ds_watch.proofs.PlaceLemmas.{place_within}
use Rattle.ds_watch.proofs.subscriptions.Subscriptions.put.Goals as goal

pub returns : goal.returns
returns c =
    let within = place_within c.self.inside.count c.args.sub c.self.inside.places
    (subst (λ (ws : List (Option Watching)). c.args.sub < length ws) (sym c.self.view_is) c.requires) in
    take-set-lt c.self.inside.count c.self.inside.places c.args.sub (Some c.args.subscription) within.0 ∙
    ap (λ (ws : List (Option Watching)). set ws c.args.sub (Some c.args.subscription)) c.self.view_is
