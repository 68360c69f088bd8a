use Rattle.std.proofs.Common.{sym, ◌∙◌}
use Rattle.std.proofs.lemmas.Bool.{false≢true}
use Rattle.toml.specs.View.{table_view}
use Rattle.rs_settings.proofs.TableLemmas.{document-read, document-refused}
use Rattle.rs_settings.proofs.settings.parsed.Goals as goal

pub returns-in-Ok-clause-document : goal.returns-in-Ok-clause-document
returns-in-Ok-clause-document c = document-read c.args.text.now (table_view c.in-Ok.table) c.utf8.text c.in-Ok.ensures.ok

pub returns-else-is_memory-clause-refused : goal.returns-else-is_memory-clause-refused
returns-else-is_memory-clause-refused c = λ _. (
  document-refused c.args.text.now (λ utf8. c.in-Err.ensures.refused
      (λ m. false≢true (sym c.if-is_memory.false ∙ c.is_memory.ensures.1 m))),
  c.at_top-in-Err.ensures,
)
