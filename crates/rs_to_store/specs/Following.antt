-- How a driver table follows a map.
use Rattle.std.specs.Prelude.{◌≡◌, ◌≢◌, ◌⊎◌, ℕ, List, [], ◌∷◌, ◌++◌, map, Option, Some, None, Result, Ok, Err}
use Rattle.ds_names.specs.Endpoint.{EndpointRecord}
use Rattle.ds_names.specs.Key.{label_key}
use Rattle.ds_entry.specs.declared.item.Item.{Item}
use Rattle.ds_machine.specs.Parts.{held_at}
use Rattle.driver_tables.specs.declared.moves.Move.{Move}
use Rattle.driver_tables.specs.declared.fault.TableFault.{TableFault}
use Rattle.driver_tables.specs.declared.fault.TableFault.TheVariants.{NoRoom}
use Rattle.driver_tables.specs.Driver.{Driver}
use Rattle.driver_tables.specs.Label.{newest}
use Rattle.driver_tables.specs.DriverTable.{DriverTable}
use Rattle.driver_tables.specs.Changed.{changing}
use Rattle.driver_tables.specs.Stands.{TableRecord, TableStands}
use Rattle.rs_to_store.specs.News.{told}

abbrev pub labels_of : DriverTable → List (List ℕ)
labels_of t = map (λ (u : ℕ × Driver). u.1.label) t.units

-- The news of a label for a table, from a map that holds these items.
abbrev pub news_of : List Item → DriverTable → List ℕ → Option (Option EndpointRecord)
news_of held t label = told (newest t.states label) (held_at held (label_key label))

-- An answer with moves is a round, and leaves the table after it; an OldEndpoint is passed over.
abbrev pub as_round : DriverTable → Result (List Move) TableFault × DriverTable → List (List Move) × DriverTable
as_round t (Ok moves, u) = (moves ∷ [], u)
as_round t (Err old, u) = ([], t)

-- What the news of a label brings: a round of moves, or none; and the table after it.
abbrev pub taking : DriverTable → List ℕ → Option (Option EndpointRecord) → List (List Move) × DriverTable
taking t label None = ([], t)
taking t label (Some state) = as_round t (changing t label state)

-- Whether memory ran out at a label that has a round, and the follow ended before that label.
pub record EndsForRoom (t : DriverTable) (round : List (List Move)) (rounds : List (List Move)) (fault : Option TableFault)
    (u : DriverTable) : Type 0 where
  pub some : round ≢ []
  pub rounds_are : rounds ≡ []
  pub fault_is : fault ≡ Some NoRoom
  pub table_is : u ≡ t

-- Whether the table takes the state of each label from a map that holds these items. The first label's round, if it has
-- one, comes before the rounds of the others. Memory may run out.
abbrev pub Follows : List Item → List (List ℕ) → DriverTable → List (List Move) → Option TableFault → DriverTable → Type 0
Follows held [] t rounds fault u = (rounds ≡ []) × (fault ≡ None) × (u ≡ t)
Follows held (label ∷ labels) t rounds fault u =
    ((later : List (List Move)) × (rounds ≡ (taking t label (news_of held t label)).0 ++ later) ×
    Follows held labels (taking t label (news_of held t label)).1 later fault u)
    ⊎ EndsForRoom t (taking t label (news_of held t label)).0 rounds fault u

-- Whether the table followed a map that holds these items. Its rounds are appended to those before, and `fault` ended the
-- follow, if there is one. The new value stands for the table that took these rounds.
abbrev pub HasFollowed : List Item → TableRecord → TableRecord → List (List Move) → List (List Move) → Option TableFault → Type 0
HasFollowed held old new before after fault =
    (t : DriverTable) → TableStands old t →
    (u : DriverTable) × (rounds : List (List Move)) × (after ≡ before ++ rounds) × Follows held (labels_of t) t rounds fault u ×
    TableStands new u
