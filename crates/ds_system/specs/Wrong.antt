-- Wrong ways of a driver table to follow its map, which the law refuses.
use Rattle.std.specs.Prelude.{ℕ, List, [], ◌∷◌, map, Option, Some, None}
use Rattle.ds_names.specs.Endpoint.{EndpointRecord, endpoint_of}
use Rattle.ds_entry.specs.declared.item.Item.{Item}
use Rattle.ds_entry.specs.declared.item.Item.TheVariants.{Change as Changed}
use Rattle.rs_core.specs.Action.{label_put, label_gone}
use Rattle.driver_tables.specs.declared.moves.Move.{Move}
use Rattle.driver_tables.specs.declared.moves.Move.TheVariants.{Send}
use Rattle.driver_tables.specs.declared.device.Class.TheVariants.{Block}
use Rattle.driver_tables.specs.DriverTable.{DriverTable, empty_table}
use Rattle.ds_system.specs.Turn.{TableTurn}
use Rattle.ds_system.specs.Sending.{FollowsRightly}

-- A label, and two endpoints that it had, the older one first.
abbrev pub disk : List ℕ
disk = 100 ∷ []

abbrev pub old : EndpointRecord
old = endpoint_of 1 16

abbrev pub young : EndpointRecord
young = endpoint_of 2 16

-- A map that has the label live, and one that has its tombstone.
abbrev pub lives_at : EndpointRecord → List Item
lives_at e = Changed (label_put disk e) ∷ []

abbrev pub gone_since : ℕ → List Item
gone_since g = Changed (label_gone disk g) ∷ []

-- A table with a block unit of the label and a request to it, after these states of the label.
abbrev pub disk_table : List (Option EndpointRecord) → DriverTable
disk_table states = record empty_table {
  units = (3, record { class = Block; label = disk }) ∷ [];
  states = map (λ (e : Option EndpointRecord). record { label = disk; endpoint = e }) states;
  requests = record { id = 7; unit = 3 } ∷ [];
}

-- A turn that follows its map by these rounds, to the end, and takes no request.
abbrev pub plain_turn : DriverTable → List (List Move) → DriverTable → TableTurn
plain_turn before rounds after = record { before = before; rounds = rounds; stop = None; followed = after; own = None; after = after }

-- A turn that doesn't follow its map, in which a request has this move.
abbrev pub request_turn : DriverTable → Move → TableTurn
request_turn t m = record (plain_turn t [] t) { own = Some m }

-- Whether a turn is right in which the table does nothing, though its map has the label.
abbrev pub DoesNothing : Type 0
DoesNothing = FollowsRightly (lives_at young) (plain_turn (disk_table []) [] (disk_table [])) []

-- Whether a turn is right in which the table sends again to its old endpoint, though its map has a newer one.
abbrev pub SendsToOld : Type 0
SendsToOld =
    FollowsRightly (lives_at young) (plain_turn (disk_table (Some old ∷ [])) ((Send 7 old ∷ []) ∷ []) (disk_table (Some old ∷ []))) []

-- Whether a turn is right in which the table sends a request there, without following its map.
abbrev pub SubmitsUnseen : Type 0
SubmitsUnseen = FollowsRightly (lives_at young) (request_turn (disk_table (Some old ∷ [])) (Send 7 old)) []

-- Whether a turn is right in which the table sends to the very endpoint that its map says is gone, without following
-- its map.
abbrev pub SendsToGone : Type 0
SendsToGone = FollowsRightly (gone_since 2) (request_turn (disk_table (Some young ∷ [])) (Send 7 young)) []

-- Whether a turn is right in which the table takes the state of another, older map.
abbrev pub FollowsAnotherMap : Type 0
FollowsAnotherMap = FollowsRightly (lives_at young) (plain_turn (disk_table []) ((Send 7 old ∷ []) ∷ []) (disk_table (Some old ∷ []))) []

-- Whether a turn is right in which the table takes an old tombstone for the end of its driver.
abbrev pub EndsByOldTombstone : Type 0
EndsByOldTombstone =
    FollowsRightly (gone_since 1) (plain_turn (disk_table (Some young ∷ [])) ([] ∷ []) (disk_table (Some young ∷ None ∷ []))) []

-- Whether a turn is right in which the table sends to the endpoint of its map, which was cleared and filled anew,
-- though it sent to a newer one before.
abbrev pub GoesBack : Type 0
GoesBack =
    FollowsRightly
    (lives_at old)
    (plain_turn (disk_table (Some young ∷ [])) ((Send 7 old ∷ []) ∷ []) (disk_table (Some young ∷ Some old ∷ [])))
    (record { label = disk; endpoint = young } ∷ [])

-- A law: none of these turns is right.
abbrev pub WrongTurns : Type 0
WrongTurns =
    (¬ DoesNothing) × (¬ SendsToOld) × (¬ SubmitsUnseen) × (¬ SendsToGone) × (¬ FollowsAnotherMap) × (¬ EndsByOldTombstone) × (¬ GoesBack)
