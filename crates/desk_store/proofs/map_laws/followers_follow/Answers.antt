use Rattle.desk_store.proofs.FitLemmas.{checks_fit}
use Rattle.desk_store.proofs.FollowLemmas.{follows_alone, follows_check, follows_first, follows_on, tells_others, tells_own}
use Rattle.desk_store.proofs.map_laws.followers_follow.Goals as goal

pub returns : goal.returns
returns c = record {
  on = follows_on;
  alone = follows_alone;
  first = follows_first;
  check = follows_check;
  others = tells_others;
  own = tells_own;
  fit = checks_fit;
}
