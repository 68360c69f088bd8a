use Rattle.std.proofs.Common.{Option, OnOk, subst}
use Rattle.ds_submap.specs.Map.{SubMapRecord}
use Rattle.script_answers.proofs.ResultLemmas.{on_ok}
use Rattle.script_services.specs.Tables.{map_items, AnswersSubmit}
use Rattle.script_services.specs.Waiting.{AppendsLed}
use Rattle.ds_script.specs.Session.{SessionContent}
use Rattle.ds_script.specs.Answer.{AppendsByServers, items_of_map}
use Rattle.ds_script.proofs.ServerLemmas.{session_of, led}
use Rattle.ds_script.proofs.session.Session.submit.Goals as goal

pub returns-clause-answered : goal.returns-clause-answered
returns-clause-answered c =
    let s = c.self.inside in
    let before = c.args.output.now.items in
    let after = c.submit.new.output.items in
    on_ok c.submit.result
    (λ a.
    subst
    (λ (old : SessionContent).
    AppendsByServers (AnswersSubmit c.args.server c.args.id c.args.unit (items_of_map old c.args.map)) before after old
    (session_of s.world s.side c.submit.new.self))
    c.self.view_is
    (led s.world s.side s.servers c.submit.new.self before after
    (AnswersSubmit c.args.server c.args.id c.args.unit (items_of_map (session_of s.world s.side s.servers) c.args.map)) a))
    (subst (λ (o : Option SubMapRecord). OnOk c.submit.result
    (AppendsLed (AnswersSubmit c.args.server c.args.id c.args.unit (map_items o)) before after s.servers c.submit.new.self))
    c.map.ensures.is c.submit.ensures.answered)
