use Rattle.std.proofs.Common.{sym, subst}
use Rattle.driver_tables.specs.Driver.{net_driver}
use Rattle.driver_tables.specs.FileDriver.{file_driver}
use Rattle.driver_tables.specs.Run.{no_moves, Assign}
use Rattle.script_answers.proofs.ResultLemmas.{on_ok}
use Rattle.script_commands.specs.declared.service.Device.{Device}
use Rattle.script_commands.specs.declared.service.Device.TheVariants as devices
use Rattle.script_services.specs.Servers.{ServersRecord, ServersLead, servers_of}
use Rattle.script_services.specs.Tables.{AnswersAssign, assign_text}
use Rattle.driver_tables.proofs.CallLemmas.{assign_step}
use Rattle.script_services.proofs.LeadLemmas.{file_called, net_called}
use Rattle.script_answers.proofs.AppendLemmas.{on_each}
use Rattle.script_services.proofs.servers.Servers.assign.Goals as goal

pub returns-in-File-clause-answered : goal.returns-in-File-clause-answered
returns-in-File-clause-answered c =
    let s = c.self.inside in
    let new = c.assign.new.self in
    let out = assign_text (no_moves c.assign.result) in
    on_ok c.append_assignment.result
    (λ written. (
      out,
      written,
      subst (λ (k : Device). ServersLead (λ a b. AnswersAssign k c.args.label.now a out b) c.args.self.now
          (servers_of s.services new s.net)) (sym c.in-File.is)
          (subst (λ (v : ServersRecord). ServersLead
          (λ a b. AnswersAssign (devices.File c.in-File.major c.in-File.class) c.args.label.now a out b) v
          (servers_of s.services new s.net)) c.self.view_is
          (file_called s.services s.file s.net new (Assign c.in-File.major (file_driver c.in-File.class c.args.label.now)) assign_text
          (no_moves c.assign.result)
          (λ t stands. assign_step s.file new t stands c.in-File.major (file_driver c.in-File.class c.args.label.now) c.assign.result
          c.assign.ensures.answer c.assign.ensures.after c.assign.ensures.unchanged))),
    ))
    c.append_assignment.ensures.written

pub returns-in-Net-clause-answered : goal.returns-in-Net-clause-answered
returns-in-Net-clause-answered c =
    let s = c.self.inside in
    let new = c.assign-in-Net.new.self in
    let out = assign_text (no_moves c.assign-in-Net.result) in
    on_ok c.append_assignment-in-Net.result
    (λ written. (
      out,
      written,
      subst (λ (k : Device). ServersLead (λ a b. AnswersAssign k c.args.label.now a out b) c.args.self.now
          (servers_of s.services s.file new)) (sym c.in-Net.is)
          (subst (λ (v : ServersRecord). ServersLead (λ a b. AnswersAssign (devices.Net c.in-Net.port) c.args.label.now a out b) v
          (servers_of s.services s.file new)) c.self.view_is
          (net_called s.services s.file s.net new (Assign c.in-Net.port (net_driver c.args.label.now)) assign_text
          (no_moves c.assign-in-Net.result)
          (λ t stands. assign_step s.net new t stands c.in-Net.port (net_driver c.args.label.now) c.assign-in-Net.result
          c.assign-in-Net.ensures.answer c.assign-in-Net.ensures.after c.assign-in-Net.ensures.unchanged))),
    ))
    c.append_assignment-in-Net.ensures.written

-- ---- only the answer is missing

pub returns-in-File-clause-carried : goal.returns-in-File-clause-carried
returns-in-File-clause-carried c =
    let s = c.self.inside in
    let new = c.assign.new.self in
    let out = assign_text (no_moves c.assign.result) in
    on_each c.append_assignment.result (
      out,
      subst (λ (k : Device). ServersLead (λ a b. AnswersAssign k c.args.label.now a out b) c.args.self.now
          (servers_of s.services new s.net)) (sym c.in-File.is)
          (subst (λ (v : ServersRecord). ServersLead
          (λ a b. AnswersAssign (devices.File c.in-File.major c.in-File.class) c.args.label.now a out b) v
          (servers_of s.services new s.net)) c.self.view_is
          (file_called s.services s.file s.net new (Assign c.in-File.major (file_driver c.in-File.class c.args.label.now)) assign_text
          (no_moves c.assign.result)
          (λ t stands. assign_step s.file new t stands c.in-File.major (file_driver c.in-File.class c.args.label.now) c.assign.result
          c.assign.ensures.answer c.assign.ensures.after c.assign.ensures.unchanged))),
    )

pub returns-in-Net-clause-carried : goal.returns-in-Net-clause-carried
returns-in-Net-clause-carried c =
    let s = c.self.inside in
    let new = c.assign-in-Net.new.self in
    let out = assign_text (no_moves c.assign-in-Net.result) in
    on_each c.append_assignment-in-Net.result (
      out,
      subst (λ (k : Device). ServersLead (λ a b. AnswersAssign k c.args.label.now a out b) c.args.self.now
          (servers_of s.services s.file new)) (sym c.in-Net.is)
          (subst (λ (v : ServersRecord). ServersLead (λ a b. AnswersAssign (devices.Net c.in-Net.port) c.args.label.now a out b) v
          (servers_of s.services s.file new)) c.self.view_is
          (net_called s.services s.file s.net new (Assign c.in-Net.port (net_driver c.args.label.now)) assign_text
          (no_moves c.assign-in-Net.result)
          (λ t stands. assign_step s.net new t stands c.in-Net.port (net_driver c.args.label.now) c.assign-in-Net.result
          c.assign-in-Net.ensures.answer c.assign-in-Net.ensures.after c.assign-in-Net.ensures.unchanged))),
    )
