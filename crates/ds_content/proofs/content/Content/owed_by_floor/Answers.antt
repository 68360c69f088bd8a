use Rattle.std.proofs.Common.{ap, ◌∙◌}
use Rattle.ds_watch.specs.Mask.{padded}
use Rattle.ds_content.proofs.EnterLemmas.{made_view}
use Rattle.ds_content.proofs.OwedLemmas.{floor_owed_as}
use Rattle.ds_content.proofs.content.Content.owed_by_floor.Goals as goal

pub returns-clause-value : goal.returns-clause-value
returns-clause-value c = c.made.ensures ∙ made_view c.self.inside.held c.self.inside.journal c.self.inside.stamp
    c.self.inside.subscriptions c.args.self.now c.self.view_is

pub returns-clause-owed : goal.returns-clause-owed
returns-clause-owed c = λ s f stands.
    c.made.ensures ∙ made_view c.self.inside.held c.self.inside.journal c.self.inside.stamp c.self.inside.subscriptions c.args.self.now
    c.self.view_is ∙ ap padded (floor_owed_as c.args.self.now s f stands)
