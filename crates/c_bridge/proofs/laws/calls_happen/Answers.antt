use Rattle.c_bridge.proofs.AnswerLemmas.{acknowledging_happens, fetching_happens, consuming_happens, meeting_happens, others_happen}
use Rattle.c_bridge.proofs.GatherLemmas.{gathering_happens}
use Rattle.c_bridge.proofs.OpenLemmas.{opening_happens}
use Rattle.c_bridge.proofs.QuestionLemmas.{asking_happens, reading_happens, refilling_happens}
use Rattle.c_bridge.proofs.laws.calls_happen.Goals as goal

pub returns-clause-opening : goal.returns-clause-opening
returns-clause-opening c = opening_happens

pub returns-clause-gathering : goal.returns-clause-gathering
returns-clause-gathering c = gathering_happens

pub returns-clause-asking : goal.returns-clause-asking
returns-clause-asking c = asking_happens

pub returns-clause-refilling : goal.returns-clause-refilling
returns-clause-refilling c = refilling_happens

pub returns-clause-reading : goal.returns-clause-reading
returns-clause-reading c = reading_happens

pub returns-clause-meeting : goal.returns-clause-meeting
returns-clause-meeting c = meeting_happens

pub returns-clause-acknowledging : goal.returns-clause-acknowledging
returns-clause-acknowledging c = acknowledging_happens

pub returns-clause-fetching : goal.returns-clause-fetching
returns-clause-fetching c = fetching_happens

pub returns-clause-consuming : goal.returns-clause-consuming
returns-clause-consuming c = consuming_happens

pub returns-clause-others : goal.returns-clause-others
returns-clause-others c = others_happen
