use Rattle.std.proofs.Common.{◌∙◌}
use Rattle.ds_pattern.specs.Under.{anchored}
use Rattle.ds_pattern.proofs.PrintableLemmas.{printable_anchored}
use Rattle.ds_pattern.proofs.RegexLemmas.{finds_of_compiled, regex_of_read}
use Rattle.ds_pattern.proofs.pattern.compile.Goals as goal

pub returns-clause-finds : goal.returns-clause-finds
returns-clause-finds c =
    let source = c.as_str.ensures.value ∙ c.in_ok-whole.ensures in
    finds_of_compiled c.in_ok-compile.field-0 c.in_ok-narrow.narrow c.in_ok-tree.tree c.args.text.now c.in_ok-compile.ensures.matches
    c.in_ok-narrow.ensures (rw source at c.in_ok-tree.ensures.read) c.requires

pub returns-clause-ok : goal.returns-clause-ok
returns-clause-ok c =
    let source = c.as_str.ensures.value ∙ c.in_ok-whole.ensures in
    regex_of_read (anchored c.args.text.now) c.in_ok-tree.tree (rw source at c.in_ok-tree.ensures.read)
    (printable_anchored c.args.text.now c.requires)
