use Rattle.std.proofs.Common.{ℕ, Option, None, Some, get_or, ap, sym, ◌∙◌}
use Rattle.std.specs.Option.{option_map}
use Rattle.ds_held.specs.Held.{held_items}
use Rattle.ds_watch.specs.Followed.{Followed}
use Rattle.ds_watch.specs.Watching.{Watching}
use Rattle.ds_content.specs.Content.{ContentRecord}
use Rattle.ds_content.specs.Followed.{followed_by}
use Rattle.ds_content.specs.Kept.{unseen_at}
use Rattle.ds_content.proofs.MarkLemmas.{none_more}
use Rattle.ds_content.proofs.SeenLemmas.{at_from}
use Rattle.ds_content.proofs.content.Content.stamp_of.Goals as goal

pub returns-in-Some : goal.returns-in-Some
returns-in-Some c =
    let h = c.self.inside.held in
    let sub = c.args.sub in
    let by = followed_by (held_items h.held) (unseen_at h) sub in
    ap (λ (n : ℕ). Some n) c.stamp.ensures
    ∙ ap (λ (o : Option Watching). option_map (λ (f : Followed). f.stamp) (option_map by o)) c.in-Some.ensures
    ∙ ap (option_map (λ (f : Followed). f.stamp))
    (sym (at_from (held_items h.held) (unseen_at h) 0 c.self.inside.subscriptions sub sub (none_more sub)))
    ∙ ap (λ (v : ContentRecord). option_map (λ (f : Followed). f.stamp) (get_or v.subscriptions sub None)) c.self.view_is

pub returns-in-None : goal.returns-in-None
returns-in-None c =
    let h = c.self.inside.held in
    let sub = c.args.sub in
    let by = followed_by (held_items h.held) (unseen_at h) sub in
    ap (λ (o : Option Watching). option_map (λ (f : Followed). f.stamp) (option_map by o)) c.in-None.ensures
    ∙ ap (option_map (λ (f : Followed). f.stamp))
    (sym (at_from (held_items h.held) (unseen_at h) 0 c.self.inside.subscriptions sub sub (none_more sub)))
    ∙ ap (λ (v : ContentRecord). option_map (λ (f : Followed). f.stamp) (get_or v.subscriptions sub None)) c.self.view_is
