use Rattle.std.proofs.Common.{true, false, ap, sym, ◌∙◌, subst}
use Rattle.driver_tables.specs.Stands.{TableRecord, TableStands}
use Rattle.driver_tables.specs.Value.{table_of}
use Rattle.driver_tables.proofs.ReplyLemmas.{reply_missing, reply_there, reply_judged, stands_finished}
use Rattle.driver_tables.proofs.table.Table.reply.Goals as goal

pub returns-in_default-clause-answer : goal.returns-in_default-clause-answer
returns-in_default-clause-answer c = λ t s.
    let v = table_of c.self.inside in
    let here : TableStands v t = subst (λ (v : TableRecord). TableStands v t) (sym c.self.view_is) s in
    sym (ap (λ p. p.0) (reply_missing v t c.args.endpoint c.args.id here (sym c.sent_of.ensures ∙ c.in_default.is)))

pub returns-then-not-is_same_state-clause-answer : goal.returns-then-not-is_same_state-clause-answer
returns-then-not-is_same_state-clause-answer c = λ t s.
    let v = table_of c.self.inside in
    let here : TableStands v t = subst (λ (v : TableRecord). TableStands v t) (sym c.self.view_is) s in
    sym (ap (λ p. p.0) (reply_judged v t c.args.endpoint c.args.id c.in-Some.sent false here (sym c.sent_of.ensures ∙ c.in-Some.is)
    (sym c.is_same_state.ensures ∙ c.if-not-is_same_state.true)))

pub returns-clause-answer : goal.returns-clause-answer
returns-clause-answer c = λ t s.
    let v = table_of c.self.inside in
    let here : TableStands v t = subst (λ (v : TableRecord). TableStands v t) (sym c.self.view_is) s in
    sym (ap (λ p. p.0) (reply_judged v t c.args.endpoint c.args.id c.in-Some.sent true here (sym c.sent_of.ensures ∙ c.in-Some.is)
    (sym c.is_same_state.ensures ∙ c.if-not-is_same_state.false)))

pub returns-clause-after : goal.returns-clause-after
returns-clause-after c = λ t s.
    let v = table_of c.self.inside in
    let here : TableStands v t = subst (λ (v : TableRecord). TableStands v t) (sym c.self.view_is) s in
    let sent = sym c.sent_of.ensures ∙ c.in-Some.is in
    let there = reply_judged v t c.args.endpoint c.args.id c.in-Some.sent true here sent
    (sym c.is_same_state.ensures ∙ c.if-not-is_same_state.false) in
    subst (TableStands (record { devices = v.devices; pending = c.end.new.pending.items; last = v.last })) (sym (ap (λ p. p.1) there))
    (stands_finished v t c.args.id c.end.new.pending.items here (reply_there v t c.args.id c.in-Some.sent here sent).0 c.end.ensures)
