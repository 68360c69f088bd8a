use Rattle.std.proofs.Common.{sym, ◌∙◌}
use Rattle.supervisor.proofs.FollowLemmas.{none_at, some_at}
use Rattle.supervisor.proofs.following.endpoint_at.Goals as goal

pub returns-in-Some : goal.returns-in-Some
returns-in-Some c = c.endpoint_of.ensures ∙
    some_at c.args.rs.now.states c.args.place c.in-Some.state (sym c.in-Some.is ∙ c.state_of.ensures)

pub returns-in-None : goal.returns-in-None
returns-in-None c = none_at c.args.rs.now.states c.args.place (sym c.in-None.is ∙ c.state_of.ensures)
