use Rattle.std.proofs.Common.{◌≡◌, ◌++◌, [], length, arith, ◌∙◌, ap, sym}
use Rattle.std.specs.Option.{option_to_list}
use Rattle.desk.specs.Pass.{desk_of}
use Rattle.desk.proofs.CloseLemmas.{account_of, all_agree, all_gathered, all_last, all_noticed, all_seen, left_of_passes, length_gathered}
use Rattle.desk.proofs.close.Desk+M.close_all.Goals as goal

pub gather-requires-clause-at : goal.gather-requires-clause-at
gather-requires-clause-at g c =
    let items = sym c.passes.view_is ∙ (c.pop.ensures.items ∙ ap (λ o. c.pop.new.self.items ++ option_to_list o) c.unwrap-last.ensures) in
    let last = all_last (λ p. desk_of p ≡ c.args.self.table.shared.table_id) c.pop.new.self.items c.args.passes c.unwrap-last.result items
    c.requires.of_desk in
    (last.1, c.args.self.words, c.args.self.slots)

pub gather-requires-clause-others : goal.gather-requires-clause-others
gather-requires-clause-others g c =
    let items = sym c.passes.view_is ∙ (c.pop.ensures.items ∙ ap (λ o. c.pop.new.self.items ++ option_to_list o) c.unwrap-last.ensures) in
    let last = all_last (λ p. desk_of p ≡ c.args.self.table.shared.table_id) c.pop.new.self.items c.args.passes c.unwrap-last.result items
    c.requires.of_desk in
    last.0

pub gather-requires-clause-counted : goal.gather-requires-clause-counted
gather-requires-clause-counted g c = (c.unwrap-last.result.raises_counted, c.unwrap-last.result.takes_counted)

pub close_table-machine-requires-clause-at : goal.close_table-machine-requires-clause-at
close_table-machine-requires-clause-at g c =
    let items = sym c.passes.view_is ∙ (c.pop.ensures.items ∙ ap (λ o. c.pop.new.self.items ++ option_to_list o) c.unwrap-last.ensures) in
    let last = all_last (λ p. desk_of p ≡ c.args.self.table.shared.table_id) c.pop.new.self.items c.args.passes c.unwrap-last.result items
    c.requires.of_desk in
    (c.gather.ensures.same.0 ∙ last.1, c.args.self.words, c.args.self.slots)

pub close_table-machine-requires-clause-all : goal.close_table-machine-requires-clause-all
close_table-machine-requires-clause-all g c =
    let items = sym c.passes.view_is ∙ (c.pop.ensures.items ∙ ap (λ o. c.pop.new.self.items ++ option_to_list o) c.unwrap-last.ensures) in
    let is = all_gathered c.args.passes c.pop.new.self.items c.unwrap-last.result _ items c.gather.ensures.passes in
    let made : c.args.self.table.shared.key.passes ≡ c.args.self.made = c.args.self.counted in
    let enough = c.requires.enough in
    let same : length c.args.passes ≡ length c.passes.inside.passes.items = ap length (sym c.passes.view_is) in
    let size : length c.gather.new.seat.me.0.passes ≡ length c.args.passes =
    ap length is ∙ (length_gathered (λ v e. e) [] c.args.passes ∙ omega arith) in omega arith

pub returns-clause-history : goal.returns-clause-history
returns-clause-history g c =
    let items = sym c.passes.view_is ∙ (c.pop.ensures.items ∙ ap (λ o. c.pop.new.self.items ++ option_to_list o) c.unwrap-last.ensures) in
    let is = all_gathered c.args.passes c.pop.new.self.items c.unwrap-last.result _ items c.gather.ensures.passes in
    let seen = c.gather.ensures.seen in let noticed = c.gather.ensures.notices in
    left_of_passes (λ v e. e) g.M.Machine.stands g.M.Machine.steps _ _ _ _ c.args.passes c.gather.new.seat.me.0 _ _ _ _
    c.close_table-machine.ensures.closed is
    (λ h begins. all_seen h c.args.passes c.pop.new.self.items c.unwrap-last.result _ items begins seen.0 seen.1)
    (λ ns begins. all_noticed ns c.args.passes c.pop.new.self.items c.unwrap-last.result _ items begins noticed.0 noticed.1)
    c.fill_rows.ensures.rows

pub returns-clause-agree : goal.returns-clause-agree
returns-clause-agree g c = all_agree g.M.Machine.stands g.M.Machine.steps _ _ _ c.args.passes _ (returns-clause-history g c)

pub returns-clause-account : goal.returns-clause-account
returns-clause-account g c =
    let items = sym c.passes.view_is ∙ (c.pop.ensures.items ∙ ap (λ o. c.pop.new.self.items ++ option_to_list o) c.unwrap-last.ensures) in
    let is = all_gathered c.args.passes c.pop.new.self.items c.unwrap-last.result _ items c.gather.ensures.passes in
    let t = c.close_table-machine.ensures in let n = c.gather.ensures in
    account_of (λ v e. e) c.gather.new.seat.me.0 c.args.passes _ _ _ _ is t.bits.balanced t.bits.few n.counted.0 n.counted.1
    c.fill_rows.ensures.long c.fill_rows.ensures.rows
