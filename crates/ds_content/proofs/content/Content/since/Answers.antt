use Rattle.std.proofs.Common.{sym, subst}
use Rattle.ds_feed.specs.Kept.{Keeps}
use Rattle.ds_content.specs.Content.{ContentRecord}
use Rattle.ds_content.proofs.content.Content.since.Goals as goal

pub returns-clause-given : goal.returns-clause-given
returns-clause-given g c = λ s stands. c.since_under.ensures.given s.feed
    (subst (λ (v : ContentRecord). Keeps v.journal s.feed) (sym c.self.view_is) stands.journal)

pub returns-clause-refused : goal.returns-clause-refused
returns-clause-refused g c = λ s stands. c.since_under.ensures.refused s.feed
    (subst (λ (v : ContentRecord). Keeps v.journal s.feed) (sym c.self.view_is) stands.journal)

pub returns-clause-lacks : goal.returns-clause-lacks
returns-clause-lacks g c = λ s stands. c.since_under.ensures.lacks s.feed
    (subst (λ (v : ContentRecord). Keeps v.journal s.feed) (sym c.self.view_is) stands.journal)
