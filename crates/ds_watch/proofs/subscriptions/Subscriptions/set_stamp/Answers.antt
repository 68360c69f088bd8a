use Rattle.std.proofs.Common.{◌<◌, List, Option, Some, None, length, get_or, set, ap, subst, sym, ◌∙◌}
use Rattle.std.specs.Option.{option_map}
use Rattle.ds_watch.specs.Watching.{Watching, stamped}
use Rattle.ds_watch.specs.contracts.subscriptions.Subscriptions.{the_view}
use Rattle.ds_watch.proofs.PlaceLemmas.{place_within}
use Rattle.ds_watch.proofs.StampLemmas.{stamped_at}
use Rattle.ds_watch.proofs.subscriptions.Subscriptions.set_stamp.Goals as goal
use Rattle.ds_watch.proofs.subscriptions.Subscriptions.set_stamp.Goals.{in-Some, in_default}

pub returns : goal.returns
returns c =
    let n = c.self.inside.count in
    let ps = c.self.inside.places in
    let sub = c.args.sub in
    let stamp = c.args.stamp in
    let d = c.index-self-sub.result in
    let within = place_within n sub ps (subst (λ (ws : List (Option Watching)). sub < length ws) (sym c.self.view_is) c.requires) in
    elim c.match-self-sub.branch [
      | in-Some w ↦ ap the_view w.self-inside-is ∙
          stamped_at n sub stamp ps d (Some w.in-Some.subscription) _ within.0 within.1 w.in-Some.is (ap Some w.set_stamp.ensures)
      | in_default w ↦ ap the_view w.self-inside-is ∙ stamped_at n sub stamp ps d None _ within.0 within.1 w.in_default.is w.in_default.is
    ] ∙ ap (λ (ws : List (Option Watching)). set ws sub (option_map (stamped stamp) (get_or ws sub None))) c.self.view_is
