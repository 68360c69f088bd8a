-- What a follow and a submission do, and the moves that they leave.
use Rattle.std.specs.Prelude.{◌≡◌, ℕ, List, [], ◌++◌, Option, Some, None, Result, Ok, Err}
use Rattle.ds_entry.specs.declared.item.Item.{Item}
use Rattle.driver_tables.specs.declared.fault.TableFault.{TableFault}
use Rattle.driver_tables.specs.declared.moves.Move.{Move}
use Rattle.driver_tables.specs.Run.{moves_in}
use Rattle.driver_tables.specs.Stands.{TableRecord}
use Rattle.rs_to_store.specs.Following.{HasFollowed}
use Rattle.rs_to_store.specs.Submitting.{all_in, FollowedAndTaken}

-- Whether a table follows a map that holds these items, with these moves. `fault` is what ended it early, if anything did.
abbrev pub FollowsInto : List Item → (old new : TableRecord) → Option TableFault → List Move → Type 0
FollowsInto held old new fault moves = (rounds : List (List Move)) × HasFollowed held old new [] rounds fault × (moves ≡ all_in rounds)

-- The fault of an answer, if there is one.
abbrev pub fault_in : Result (List Move) TableFault → Option TableFault
fault_in (Ok moves) = None
fault_in (Err fault) = Some fault

-- Whether a table follows a map that holds these items, and then takes a request, with these moves. `fault` is why the request isn't
-- accepted, if it isn't.
abbrev pub SubmitsInto : List Item → ℕ → ℕ → (old new : TableRecord) → Option TableFault → List Move → Type 0
SubmitsInto held id unit old new fault moves =
    (rounds : List (List Move)) × (own : Result (List Move) TableFault) × FollowedAndTaken held id unit old new [] rounds own
    × (moves ≡ all_in rounds ++ moves_in own) × (fault ≡ fault_in own)
