-- The laws of every follow.
use Rattle.std.specs.Prelude.{◌≡◌, ◌≢◌, ℕ, List, [], ◌∷◌, ◌++◌, map, Option, Some, None, Contains}
use Rattle.std.specs.List.{AllByRecursion}
use Rattle.ds_names.specs.Endpoint.{EndpointRecord}
use Rattle.ds_entry.specs.declared.item.Item.{Item}
use Rattle.driver_tables.specs.declared.moves.Move.{Move}
use Rattle.driver_tables.specs.declared.fault.TableFault.{TableFault}
use Rattle.driver_tables.specs.declared.fault.TableFault.TheVariants.{NoRoom}
use Rattle.driver_tables.specs.DriverTable.{DriverTable}
use Rattle.driver_tables.specs.Run.{Entry, TableRun, moves_in}
use Rattle.driver_tables.specs.Run.{Changed}
use Rattle.rs_to_store.specs.Following.{news_of, taking, Follows}

-- The entry is a call that gave the table a state of one of the labels.
abbrev pub IsOfLabels : List (List ℕ) → Entry → Type 0
IsOfLabels labels entry = (label : List ℕ) × (state : Option EndpointRecord) × Contains labels label × (entry.call ≡ Changed label state)

-- The rounds are the moves of a run of such calls, from one table to the other.
pub record IsRunOf (labels : List (List ℕ)) (t : DriverTable) (rounds : List (List Move)) (u : DriverTable) : Type 0 where
  pub entries : List Entry
  pub run : TableRun t entries u
  pub rounds_are : rounds ≡ map (λ (entry : Entry). moves_in entry.answer) entries
  pub of_labels : AllByRecursion (IsOfLabels labels) entries

-- A law: every follow is such a run, however it ended.
abbrev pub FollowsAreRuns : Type 0
FollowsAreRuns =
    (held : List Item) (labels : List (List ℕ)) (t u : DriverTable) (rounds : List (List Move)) (fault : Option TableFault) →
    Follows held labels t rounds fault u →
    IsRunOf labels t rounds u

-- A law: no follow changes the units or the requests.
abbrev pub FollowsKeepUnits : Type 0
FollowsKeepUnits =
    (held : List Item) (labels : List (List ℕ)) (t u : DriverTable) (rounds : List (List Move)) (fault : Option TableFault) →
    Follows held labels t rounds fault u →
    (u.units ≡ t.units) × (u.requests ≡ t.requests)

-- Whether memory ran out at a label that has a round, and the labels before it were followed to their end.
pub record EndsAtLabel (held : List Item) (labels : List (List ℕ)) (t : DriverTable) (rounds : List (List Move))
    (u : DriverTable) : Type 0 where
  pub before : List (List ℕ)
  pub label : List ℕ
  pub after : List (List ℕ)
  pub labels_are : labels ≡ before ++ label ∷ after
  pub followed : Follows held before t rounds None u
  pub round : (taking u label (news_of held u label)).0 ≢ []

-- A law: only out-of-memory ends a follow early, and the rounds before that are kept.
abbrev pub FollowsEndForRoom : Type 0
FollowsEndForRoom =
    (held : List Item) (labels : List (List ℕ)) (t u : DriverTable) (rounds : List (List Move)) (fault : TableFault) →
    Follows held labels t rounds (Some fault) u →
    (fault ≡ NoRoom) × EndsAtLabel held labels t rounds u
