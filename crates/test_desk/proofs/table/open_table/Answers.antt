use Rattle.std.proofs.Common.{◌≡◌, ◌++◌, ◌∷◌, []}
use Rattle.std.specs.Bool.{⊤}
use Rattle.std.proofs.lemmas.Option.{MatchOption-at_some}
use Rattle.desk.specs.Pass.{desk_of}
use Rattle.desk.proofs.CloseLemmas.{all_last}
use Rattle.test_desk.proofs.table.open_table.Goals as goal

pub returns-clause-one : goal.returns-clause-one
returns-clause-one g c =
    let last = MatchOption-at_some ⊤ (λ p. c.in-Ok.passes ≡ c.pop.new.self ++ p ∷ []) c.unwrap-two.result c.unwrap-two.ensures
    c.pop.ensures.taken in
    let first = MatchOption-at_some ⊤ (λ p. c.pop.new.self ≡ c.pop-2.new.self ++ p ∷ []) c.unwrap-one.result c.unwrap-one.ensures
    c.pop-2.ensures.taken in
    let others = (all_last (λ p. desk_of p ≡ c.in-Ok.desk.table.shared.table_id) c.pop.new.self c.in-Ok.passes c.unwrap-two.result last
    c.in-Ok.ensures.of_desk).0 in
    (all_last (λ p. desk_of p ≡ c.in-Ok.desk.table.shared.table_id) c.pop-2.new.self c.pop.new.self c.unwrap-one.result first others).1

pub returns-clause-two : goal.returns-clause-two
returns-clause-two g c =
    let last = MatchOption-at_some ⊤ (λ p. c.in-Ok.passes ≡ c.pop.new.self ++ p ∷ []) c.unwrap-two.result c.unwrap-two.ensures
    c.pop.ensures.taken in
    (all_last (λ p. desk_of p ≡ c.in-Ok.desk.table.shared.table_id) c.pop.new.self c.in-Ok.passes c.unwrap-two.result last
    c.in-Ok.ensures.of_desk).1
