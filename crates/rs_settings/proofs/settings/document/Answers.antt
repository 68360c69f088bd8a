use Rattle.rs_settings.proofs.TableLemmas.{document-refused}
use Rattle.rs_settings.proofs.settings.document.Goals as goal

pub returns-in-Err-clause-refused : goal.returns-in-Err-clause-refused
returns-in-Err-clause-refused c = λ _. (document-refused c.args.text.now (λ utf8. absurd (c.in-Err.ensures.cases.0 utf8)), c.at_top.ensures)
