-- A driver table's turn: it follows its map, and then may take a request.
use Rattle.std.specs.Prelude.{List, [], ◌∷◌, ◌++◌, Option, Some, None}
use Rattle.std.specs.List.{flat_map}
use Rattle.ds_entry.specs.declared.item.Item.{Item}
use Rattle.driver_tables.specs.declared.moves.Move.{Move}
use Rattle.driver_tables.specs.declared.fault.TableFault.{TableFault}
use Rattle.driver_tables.specs.DriverTable.{DriverTable}
use Rattle.rs_to_store.specs.Following.{labels_of, Follows}

pub record TableTurn : Type 0 where
  -- the table before the turn
  pub before : DriverTable
  -- the moves of each label that was followed
  pub rounds : List (List Move)
  -- what ended the follow early, if anything did
  pub stop : Option TableFault
  -- the table after the follow
  pub followed : DriverTable
  -- the move of the request, if the turn has one
  pub own : Option Move
  -- the table after the turn
  pub after : DriverTable

-- Whether the table follows, in the turn, a map that holds these items.
abbrev pub FollowsItems : List Item → TableTurn → Type 0
FollowsItems held turn = Follows held (labels_of turn.before) turn.before turn.rounds turn.stop turn.followed

-- The moves of the follow, in order.
abbrev pub round_moves : TableTurn → List Move
round_moves turn = flat_map (λ (moves : List Move). moves) turn.rounds

abbrev pub request_moves : Option Move → List Move
request_moves None = []
request_moves (Some m) = m ∷ []

-- All moves of a turn, in order.
abbrev pub turn_moves : TableTurn → List Move
turn_moves turn = round_moves turn ++ request_moves turn.own
