use Rattle.process_rule.proofs.CarelessLemmas as lemmas
use Rattle.process_rule.proofs.laws.guards_are_needed.Goals as goal

pub returns-clause-reaping : goal.returns-clause-reaping
returns-clause-reaping c = lemmas.early_reapers_miss

pub returns-clause-starts : goal.returns-clause-starts
returns-clause-starts c = lemmas.careless_starts_double

pub returns-clause-generations : goal.returns-clause-generations
returns-clause-generations c = lemmas.careless_generations_repeat

pub returns-clause-reports : goal.returns-clause-reports
returns-clause-reports c = lemmas.careless_reports_lie

pub returns-clause-kills : goal.returns-clause-kills
returns-clause-kills c = lemmas.careless_kills_are_early
