use Rattle.fleet_store.proofs.JournalLemmas.{in_journal, items_given, refused_so, stays_given, stays_refused}
use Rattle.fleet_store.proofs.journal.news_since.Goals as goal

pub returns-in-Journaled-clause-given : goal.returns-in-Journaled-clause-given
returns-in-Journaled-clause-given c =
    items_given c.args.store.now c.apply.new.self _ c.in-Journaled.since c.incarnation.ensures c.in-Journaled.ensures.step

pub returns-in-Journaled-clause-there : goal.returns-in-Journaled-clause-there
returns-in-Journaled-clause-there c =
    in_journal c.args.store.now c.apply.new.self _ c.in-Journaled.since c.incarnation.ensures c.in-Journaled.ensures.step

pub returns-in-Journaled-clause-same : goal.returns-in-Journaled-clause-same
returns-in-Journaled-clause-same c = stays_given c.args.store.now c.apply.new.self _ c.in-Journaled.since c.in-Journaled.ensures.step

pub returns-in-Refused-clause-refused : goal.returns-in-Refused-clause-refused
returns-in-Refused-clause-refused c =
    refused_so c.args.store.now c.apply.new.self _ c.in-Refused.refusal c.incarnation.ensures c.in-Refused.ensures.step
    c.in-Refused.ensures.last

pub returns-in-Refused-clause-same : goal.returns-in-Refused-clause-same
returns-in-Refused-clause-same c = stays_refused c.args.store.now c.apply.new.self _ c.in-Refused.refusal c.in-Refused.ensures.step
