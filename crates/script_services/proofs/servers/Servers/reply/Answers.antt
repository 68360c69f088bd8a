use Rattle.std.proofs.Common.{sym, ap, subst}
use Rattle.driver_tables.specs.Run.{one_move, Reply}
use Rattle.script_answers.proofs.ResultLemmas.{on_ok}
use Rattle.script_commands.specs.declared.service.Server.{Server}
use Rattle.script_commands.specs.declared.service.Server.TheVariants.{File, Net}
use Rattle.script_services.specs.Servers.{ServersRecord, ServersLead, servers_of}
use Rattle.script_services.specs.Tables.{AnswersReply, answer_text}
use Rattle.driver_tables.proofs.CallLemmas.{reply_step}
use Rattle.script_services.proofs.LeadLemmas.{file_exactly, net_exactly}
use Rattle.script_answers.proofs.AppendLemmas.{on_each}
use Rattle.script_services.proofs.servers.Servers.reply.Goals as goal

pub returns-in-File-clause-answered : goal.returns-in-File-clause-answered
returns-in-File-clause-answered c =
    let s = c.self.inside in
    let new = c.reply.new.self in
    let out = answer_text (one_move c.reply.result) in
    on_ok c.append_answer.result
    (λ written. (
      out,
      written,
      subst (λ (k : Server). ServersLead (λ a b. AnswersReply k c.args.endpoint c.args.id a out b) c.args.self.now
          (servers_of s.services new s.net)) (sym c.in-File.is)
          (subst (λ (v : ServersRecord). ServersLead (λ a b. AnswersReply File c.args.endpoint c.args.id a out b) v
          (servers_of s.services new s.net)) c.self.view_is
          (file_exactly s.services s.file s.net new (Reply c.args.endpoint c.args.id) answer_text (one_move c.reply.result)
          (λ t stands. reply_step s.file new t stands c.args.endpoint c.args.id c.reply.result c.reply.ensures.answer c.reply.ensures.after
          c.reply.ensures.unchanged)
          (λ t stands. ap one_move (c.reply.ensures.answer t stands)))),
    ))
    c.append_answer.ensures.written

pub returns-in-Net-clause-answered : goal.returns-in-Net-clause-answered
returns-in-Net-clause-answered c =
    let s = c.self.inside in
    let new = c.reply-in-Net.new.self in
    let out = answer_text (one_move c.reply-in-Net.result) in
    on_ok c.append_answer-in-Net.result
    (λ written. (
      out,
      written,
      subst (λ (k : Server). ServersLead (λ a b. AnswersReply k c.args.endpoint c.args.id a out b) c.args.self.now
          (servers_of s.services s.file new)) (sym c.in-Net.is)
          (subst (λ (v : ServersRecord). ServersLead (λ a b. AnswersReply Net c.args.endpoint c.args.id a out b) v
          (servers_of s.services s.file new)) c.self.view_is
          (net_exactly s.services s.file s.net new (Reply c.args.endpoint c.args.id) answer_text (one_move c.reply-in-Net.result)
          (λ t stands. reply_step s.net new t stands c.args.endpoint c.args.id c.reply-in-Net.result c.reply-in-Net.ensures.answer
          c.reply-in-Net.ensures.after c.reply-in-Net.ensures.unchanged)
          (λ t stands. ap one_move (c.reply-in-Net.ensures.answer t stands)))),
    ))
    c.append_answer-in-Net.ensures.written

-- ---- only the answer is missing

pub returns-in-File-clause-carried : goal.returns-in-File-clause-carried
returns-in-File-clause-carried c =
    let s = c.self.inside in
    let new = c.reply.new.self in
    let out = answer_text (one_move c.reply.result) in
    on_each c.append_answer.result (
      out,
      subst (λ (k : Server). ServersLead (λ a b. AnswersReply k c.args.endpoint c.args.id a out b) c.args.self.now
          (servers_of s.services new s.net)) (sym c.in-File.is)
          (subst (λ (v : ServersRecord). ServersLead (λ a b. AnswersReply File c.args.endpoint c.args.id a out b) v
          (servers_of s.services new s.net)) c.self.view_is
          (file_exactly s.services s.file s.net new (Reply c.args.endpoint c.args.id) answer_text (one_move c.reply.result)
          (λ t stands. reply_step s.file new t stands c.args.endpoint c.args.id c.reply.result c.reply.ensures.answer c.reply.ensures.after
          c.reply.ensures.unchanged)
          (λ t stands. ap one_move (c.reply.ensures.answer t stands)))),
    )

pub returns-in-Net-clause-carried : goal.returns-in-Net-clause-carried
returns-in-Net-clause-carried c =
    let s = c.self.inside in
    let new = c.reply-in-Net.new.self in
    let out = answer_text (one_move c.reply-in-Net.result) in
    on_each c.append_answer-in-Net.result (
      out,
      subst (λ (k : Server). ServersLead (λ a b. AnswersReply k c.args.endpoint c.args.id a out b) c.args.self.now
          (servers_of s.services s.file new)) (sym c.in-Net.is)
          (subst (λ (v : ServersRecord). ServersLead (λ a b. AnswersReply Net c.args.endpoint c.args.id a out b) v
          (servers_of s.services s.file new)) c.self.view_is
          (net_exactly s.services s.file s.net new (Reply c.args.endpoint c.args.id) answer_text (one_move c.reply-in-Net.result)
          (λ t stands. reply_step s.net new t stands c.args.endpoint c.args.id c.reply-in-Net.result c.reply-in-Net.ensures.answer
          c.reply-in-Net.ensures.after c.reply-in-Net.ensures.unchanged)
          (λ t stands. ap one_move (c.reply-in-Net.ensures.answer t stands)))),
    )
