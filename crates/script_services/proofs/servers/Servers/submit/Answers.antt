use Rattle.std.proofs.Common.{◌≡◌, List, Some, Option, refl, sym, ap, subst}
use Rattle.std.specs.Option.{option_copied}
use Rattle.ds_entry.specs.declared.item.Item.{Item}
use Rattle.ds_held.specs.Held.{held_items}
use Rattle.driver_tables.specs.declared.moves.Move.{Move}
use Rattle.script_answers.proofs.ResultLemmas.{on_ok}
use Rattle.script_commands.specs.declared.service.Server.{Server}
use Rattle.script_commands.specs.declared.service.Server.TheVariants.{File, Net}
use Rattle.script_services.specs.Servers.{ServersRecord, ServersLead, servers_of}
use Rattle.rs_to_store.specs.Submitting.{FollowedAndTaken, all_in}
use Rattle.script_services.specs.Tables.{AnswersSubmit, map_items, moves_text, nomap_line, own_moves}
use Rattle.script_services.proofs.LeadLemmas.{file_led, net_led}
use Rattle.script_answers.proofs.AppendLemmas.{on_each}
use Rattle.script_services.proofs.servers.Servers.submit.Goals as goal

pub returns-in-File-clause-answered : goal.returns-in-File-clause-answered
returns-in-File-clause-answered c =
    let s = c.self.inside in
    let held = held_items c.in-Some.map.now.held in
    let file = c.submits-own.new.table in
    let rounds = c.submits-own.new.rounds.items in
    let own = own_moves c.submits-own.result in
    let out = moves_text (all_in rounds) own in
    let new = servers_of s.services file s.net in
    let there : map_items (option_copied c.args.map) ≡ Some held = ap (λ o. map_items (option_copied o)) c.in-Some.is in
    on_ok c.append_moves.result
    (λ written. (
      out,
      written,
      subst (λ (k : Server). ServersLead (λ a b. AnswersSubmit k c.args.id c.args.unit (map_items (option_copied c.args.map)) a out b)
          c.args.self.now new) (sym c.in-File.is)
          (subst (λ (o : Option (List Item)). ServersLead (λ a b. AnswersSubmit File c.args.id c.args.unit o a out b) c.args.self.now new)
          (sym there)
          (subst (λ (v : ServersRecord). ServersLead (λ a b. AnswersSubmit File c.args.id c.args.unit (Some held) a out b) v new)
          c.self.view_is
          (file_led s.services s.file s.net file held c.args.id c.args.unit rounds own
          (subst (λ (l : List (List Move)). FollowedAndTaken held c.args.id c.args.unit s.file file l rounds own)
          c.new-rounds.ensures.items c.submits-own.ensures)))),
    ))
    c.append_moves.ensures.written

pub returns-clause-answered : goal.returns-clause-answered
returns-clause-answered c =
    let s = c.self.inside in
    let held = held_items c.in-Some.map.now.held in
    let net = c.submits-own-in-Net.new.table in
    let rounds = c.submits-own-in-Net.new.rounds.items in
    let own = own_moves c.submits-own-in-Net.result in
    let out = moves_text (all_in rounds) own in
    let new = servers_of s.services s.file net in
    let there : map_items (option_copied c.args.map) ≡ Some held = ap (λ o. map_items (option_copied o)) c.in-Some.is in
    on_ok c.append_moves-in-Net.result
    (λ written. (
      out,
      written,
      subst (λ (k : Server). ServersLead (λ a b. AnswersSubmit k c.args.id c.args.unit (map_items (option_copied c.args.map)) a out b)
          c.args.self.now new) (sym c.in-Net.is)
          (subst (λ (o : Option (List Item)). ServersLead (λ a b. AnswersSubmit Net c.args.id c.args.unit o a out b) c.args.self.now new)
          (sym there)
          (subst (λ (v : ServersRecord). ServersLead (λ a b. AnswersSubmit Net c.args.id c.args.unit (Some held) a out b) v new)
          c.self.view_is
          (net_led s.services s.file s.net net held c.args.id c.args.unit rounds own
          (subst (λ (l : List (List Move)). FollowedAndTaken held c.args.id c.args.unit s.net net l rounds own) c.new-rounds.ensures.items
          c.submits-own-in-Net.ensures)))),
    ))
    c.append_moves-in-Net.ensures.written

-- ---- only the answer is missing

pub returns-in-File-clause-carried : goal.returns-in-File-clause-carried
returns-in-File-clause-carried c =
    let s = c.self.inside in
    let held = held_items c.in-Some.map.now.held in
    let file = c.submits-own.new.table in
    let rounds = c.submits-own.new.rounds.items in
    let own = own_moves c.submits-own.result in
    let out = moves_text (all_in rounds) own in
    let new = servers_of s.services file s.net in
    let there : map_items (option_copied c.args.map) ≡ Some held = ap (λ o. map_items (option_copied o)) c.in-Some.is in
    on_each c.append_moves.result (
      out,
      subst (λ (k : Server). ServersLead (λ a b. AnswersSubmit k c.args.id c.args.unit (map_items (option_copied c.args.map)) a out b)
          c.args.self.now new) (sym c.in-File.is)
          (subst (λ (o : Option (List Item)). ServersLead (λ a b. AnswersSubmit File c.args.id c.args.unit o a out b) c.args.self.now new)
          (sym there)
          (subst (λ (v : ServersRecord). ServersLead (λ a b. AnswersSubmit File c.args.id c.args.unit (Some held) a out b) v new)
          c.self.view_is
          (file_led s.services s.file s.net file held c.args.id c.args.unit rounds own
          (subst (λ (l : List (List Move)). FollowedAndTaken held c.args.id c.args.unit s.file file l rounds own)
          c.new-rounds.ensures.items c.submits-own.ensures)))),
    )

pub returns-clause-carried : goal.returns-clause-carried
returns-clause-carried c =
    let s = c.self.inside in
    let held = held_items c.in-Some.map.now.held in
    let net = c.submits-own-in-Net.new.table in
    let rounds = c.submits-own-in-Net.new.rounds.items in
    let own = own_moves c.submits-own-in-Net.result in
    let out = moves_text (all_in rounds) own in
    let new = servers_of s.services s.file net in
    let there : map_items (option_copied c.args.map) ≡ Some held = ap (λ o. map_items (option_copied o)) c.in-Some.is in
    on_each c.append_moves-in-Net.result (
      out,
      subst (λ (k : Server). ServersLead (λ a b. AnswersSubmit k c.args.id c.args.unit (map_items (option_copied c.args.map)) a out b)
          c.args.self.now new) (sym c.in-Net.is)
          (subst (λ (o : Option (List Item)). ServersLead (λ a b. AnswersSubmit Net c.args.id c.args.unit o a out b) c.args.self.now new)
          (sym there)
          (subst (λ (v : ServersRecord). ServersLead (λ a b. AnswersSubmit Net c.args.id c.args.unit (Some held) a out b) v new)
          c.self.view_is
          (net_led s.services s.file s.net net held c.args.id c.args.unit rounds own
          (subst (λ (l : List (List Move)). FollowedAndTaken held c.args.id c.args.unit s.net net l rounds own) c.new-rounds.ensures.items
          c.submits-own-in-Net.ensures)))),
    )

-- without a map nothing happens
pub returns-in_default-clause-carried : goal.returns-in_default-clause-carried
returns-in_default-clause-carried c =
    on_each c.append_nomap.result (
      nomap_line,
      subst
          (λ o.
          ServersLead
          (λ a b. AnswersSubmit c.args.server c.args.id c.args.unit (map_items (option_copied o)) a nomap_line b) c.args.self.now
          c.args.self.now)
          (sym c.in_default.is) (λ s stands. (s, (refl, refl), stands)),
    )
