use Rattle.std.proofs.Common.{◌≡◌}
use Rattle.std.proofs.lemmas.Result.{err_from_is_err_and}
use Rattle.regex_syntax.specs.Verdict.{default_config}
use Rattle.ds_pattern.proofs.RegexLemmas.{syntax_fault}
use Rattle.ds_pattern.proofs.pattern.tree_of.Goals as goal

pub returns-in_err-parsed-clause-refused : goal.returns-in_err-parsed-clause-refused
returns-in_err-parsed-clause-refused c =
    let exit = err_from_is_err_and c.from_residual.result c.from_residual.ensures.1 in
    let config : c.default.result ≡ default_config = c.default.ensures in
    let error = c.in_err-parsed.field-0.0 in
    rw exit.1 (syntax_fault c.args.text.now error.kind exit.0 exit.2 (rw config at c.in_err-parsed.ensures.err) c.requires)
