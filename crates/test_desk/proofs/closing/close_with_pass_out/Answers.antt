use Rattle.std.proofs.Common.{◌≡◌, subst, sym}
use Rattle.std.specs.List.{AllByRecursion}
use Rattle.desk.specs.Pass.{desk_of}
use Rattle.desk.proofs.CloseLemmas.{all_last}
use Rattle.test_desk.proofs.closing.close_with_pass_out.Goals as goal

pub learn-requires-clause-pass : goal.learn-requires-clause-pass
learn-requires-clause-pass g c =
    (all_last (λ p. desk_of p ≡ c.args.stop.desk.table.shared.table_id) c.pop.new.self c.args.stop.passes c.in-Some.two
    c.in-Some.ensures.taken c.requires.passes).1

pub learn-requires-clause-note : goal.learn-requires-clause-note
learn-requires-clause-note g c = c.requires.note

pub close-requires : goal.close-requires
close-requires g c =
    (all_last (λ p. desk_of p ≡ c.args.stop.desk.table.shared.table_id) c.pop.new.self c.args.stop.passes c.in-Some.two
    c.in-Some.ensures.taken c.requires.passes).0

pub close_with_pass_back-requires-clause-passes : goal.close_with_pass_back-requires-clause-passes
close_with_pass_back-requires-clause-passes g c =
    let first = (all_last (λ p. desk_of p ≡ c.args.stop.desk.table.shared.table_id) c.pop.new.self c.args.stop.passes c.in-Some.two
    c.in-Some.ensures.taken c.requires.passes).0 in
    let back = c.in-Err.ensures.back in
    let same = subst (λ passes. AllByRecursion (λ p. desk_of p ≡ c.args.stop.desk.table.shared.table_id) passes) (sym back.1) first in
    subst (λ desk. AllByRecursion (λ p. desk_of p ≡ desk.table.shared.table_id) c.in-Err.stop.passes) (sym back.0) same

pub close_with_pass_back-requires-clause-two : goal.close_with_pass_back-requires-clause-two
close_with_pass_back-requires-clause-two g c =
    subst (λ desk. desk_of c.learn.new.pass ≡ desk.table.shared.table_id) (sym c.in-Err.ensures.back.0) c.learn.ensures
