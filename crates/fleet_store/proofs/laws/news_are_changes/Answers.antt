use Rattle.fleet_store.proofs.ChangeLemmas.{news_are_changes}
use Rattle.fleet_store.proofs.laws.news_are_changes.Goals as goal

pub returns : goal.returns
returns c = news_are_changes
