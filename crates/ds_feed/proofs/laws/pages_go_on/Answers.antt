use Rattle.ds_feed.proofs.PageLemmas.{pages_go_on}
use Rattle.ds_feed.proofs.laws.pages_go_on.Goals as goal

pub returns : goal.returns
returns c = pages_go_on
