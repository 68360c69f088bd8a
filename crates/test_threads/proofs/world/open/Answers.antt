use Rattle.std.proofs.Common.{◌≡◌, ◌++◌, ◌∷◌, []}
use Rattle.std.specs.Bool.{⊤}
use Rattle.std.proofs.lemmas.Option.{MatchOption-at_some}
use Rattle.desk.specs.Pass.{desk_of}
use Rattle.desk.proofs.CloseLemmas.{all_last}
use Rattle.test_threads.proofs.world.open.Goals as goal

pub returns : goal.returns
returns c =
    let last = MatchOption-at_some ⊤ (λ p. c.in-Ok.passes ≡ c.pop.new.self ++ p ∷ []) c.unwrap-reader.result c.unwrap-reader.ensures
    c.pop.ensures.taken in
    let first = MatchOption-at_some ⊤ (λ p. c.pop.new.self ≡ c.pop-2.new.self ++ p ∷ []) c.unwrap-caller.result c.unwrap-caller.ensures
    c.pop-2.ensures.taken in
    let reader = all_last (λ p. desk_of p ≡ c.in-Ok.desk.table.shared.table_id) c.pop.new.self c.in-Ok.passes c.unwrap-reader.result last
    c.in-Ok.ensures.of_desk in
    let caller = all_last (λ p. desk_of p ≡ c.in-Ok.desk.table.shared.table_id) c.pop-2.new.self c.pop.new.self c.unwrap-caller.result
    first reader.0 in
    (caller.1, reader.1)
