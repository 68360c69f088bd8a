use Rattle.std.proofs.Common.{◌≡◌, ◌++◌, List, Some, Option, Result, refl, sym, ap, subst, ◌∙◌}
use Rattle.std.specs.Option.{option_copied}
use Rattle.ds_entry.specs.declared.item.Item.{Item}
use Rattle.ds_held.specs.Held.{held_items}
use Rattle.driver_tables.specs.declared.fault.TableFault.{TableFault}
use Rattle.driver_tables.specs.declared.moves.Move.{Move}
use Rattle.script_answers.proofs.ResultLemmas.{on_ok}
use Rattle.script_services.specs.Servers.{ServersRecord, ServersLead, servers_of}
use Rattle.rs_to_store.specs.Submitting.{all_in}
use Rattle.script_services.specs.Tables.{AnswersFollow, ended_by, map_items, moves_text, nomap_line}
use Rattle.script_services.specs.Kept.{BothFollowed}
use Rattle.script_services.proofs.LeadLemmas.{both_lead}
use Rattle.script_answers.proofs.AppendLemmas.{on_each}
use Rattle.script_services.proofs.servers.Servers.follow.Goals as goal

pub returns-clause-answered : goal.returns-clause-answered
returns-clause-answered c =
    let s = c.self.inside in
    let held = held_items c.in-Some.map.now.held in
    let file = c.both_follow-ended.new.file in
    let net = c.both_follow-ended.new.net in
    let rounds = c.both_follow-ended.new.rounds.items in
    let fault = c.both_follow-ended.result in
    let out = moves_text (all_in rounds) (ended_by fault) in
    let there : map_items (option_copied c.args.map) ≡ Some held = ap (λ o. map_items (option_copied o)) c.in-Some.is in
    on_ok c.append_moves.result
    (λ written. (
      out,
      written ∙ ap (λ (own : Result (List Move) TableFault). c.args.output.now.items ++ moves_text (all_in rounds) own) c.ended_by.ensures,
      subst (λ (o : Option (List Item)). ServersLead (λ a b. AnswersFollow o a out b) c.args.self.now (servers_of s.services file net))
          (sym there)
          (subst (λ (v : ServersRecord). ServersLead (λ a b. AnswersFollow (Some held) a out b) v (servers_of s.services file net))
          c.self.view_is
          (both_lead s.services s.file s.net file net held rounds fault
          (subst (λ (l : List (List Move)). BothFollowed held s.file file s.net net l rounds fault) c.new-rounds.ensures.items
          c.both_follow-ended.ensures))),
    ))
    c.append_moves.ensures.written

-- ---- only the answer is missing

pub returns-clause-carried : goal.returns-clause-carried
returns-clause-carried c =
    let s = c.self.inside in
    let held = held_items c.in-Some.map.now.held in
    let file = c.both_follow-ended.new.file in
    let net = c.both_follow-ended.new.net in
    let rounds = c.both_follow-ended.new.rounds.items in
    let fault = c.both_follow-ended.result in
    let out = moves_text (all_in rounds) (ended_by fault) in
    let there : map_items (option_copied c.args.map) ≡ Some held = ap (λ o. map_items (option_copied o)) c.in-Some.is in
    on_each c.append_moves.result (
      out,
      subst (λ (o : Option (List Item)). ServersLead (λ a b. AnswersFollow o a out b) c.args.self.now (servers_of s.services file net))
          (sym there)
          (subst (λ (v : ServersRecord). ServersLead (λ a b. AnswersFollow (Some held) a out b) v (servers_of s.services file net))
          c.self.view_is
          (both_lead s.services s.file s.net file net held rounds fault
          (subst (λ (l : List (List Move)). BothFollowed held s.file file s.net net l rounds fault) c.new-rounds.ensures.items
          c.both_follow-ended.ensures))),
    )

-- without a map nothing happens
pub returns-in_default-clause-carried : goal.returns-in_default-clause-carried
returns-in_default-clause-carried c =
    on_each c.append_nomap.result (
      nomap_line,
      subst (λ o. ServersLead (λ a b. AnswersFollow (map_items (option_copied o)) a nomap_line b) c.args.self.now
          c.args.self.now) (sym c.in_default.is) (λ s stands. (s, (refl, refl), stands)),
    )
