use Rattle.ds_pattern.proofs.RegexLemmas.{regex_of_read}
use Rattle.ds_pattern.proofs.pattern.judge.Goals as goal

pub returns-clause-ok : goal.returns-clause-ok
returns-clause-ok c = regex_of_read c.args.text.now c.in_ok-_tree._tree c.in_ok-_tree.ensures.read c.requires
