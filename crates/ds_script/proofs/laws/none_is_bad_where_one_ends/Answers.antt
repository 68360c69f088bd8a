use Rattle.ds_script.proofs.EndLemmas.{none_bad}
use Rattle.ds_script.proofs.laws.none_is_bad_where_one_ends.Goals as goal

pub returns : goal.returns
returns c = none_bad
