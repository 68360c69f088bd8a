-- What an accepted event does to a system.
use Rattle.std.specs.Prelude.{◌≡◌, ℕ, false, List, [], ◌∷◌, ◌++◌, length, Option, Some, None, Ok, Err, slice_set}
use Rattle.std.specs.List.{slice_get}
use Rattle.ds_names.specs.declared.key.Key.{Key}
use Rattle.ds_names.specs.declared.version.Version.{Version}
use Rattle.ds_names.specs.Endpoint.{EndpointRecord}
use Rattle.ds_entry.specs.Change.{ChangeRecord, change_of}
use Rattle.ds_entry.specs.declared.body.Body.{Body}
use Rattle.ds_entry.specs.declared.item.Item.TheVariants.{Change as Changed}
use Rattle.ds_machine.specs.declared.command.Command.TheVariants.{Merge}
use Rattle.ds_machine.specs.declared.reply.Reply.{Reply}
use Rattle.rs_core.specs.declared.action.Action.{Action}
use Rattle.rs_core.specs.declared.event.Event as services
use Rattle.rs_core.specs.Numbering.{NumbererRecord, Gives}
use Rattle.rs_core.specs.Run.{offers}
use Rattle.rs_core.specs.Step.{RsStep}
use Rattle.driver_tables.specs.declared.moves.Move.{Move}
use Rattle.driver_tables.specs.declared.fault.TableFault.{TableFault}
use Rattle.driver_tables.specs.declared.fault.TableFault.TheVariants.{NoRoom}
use Rattle.driver_tables.specs.DriverTable.{DriverTable}
use Rattle.driver_tables.specs.Room.{RequestTakesMemory}
use Rattle.driver_tables.specs.Submit.{submitting}
use Rattle.driver_tables.specs.Reply.{replying}
use Rattle.ds_replica.specs.declared.event.Side.{Side}
use Rattle.ds_replica.specs.declared.event.Event as worlds
use Rattle.ds_replica.specs.declared.event.Event.TheVariants.{Ask}
use Rattle.ds_replica.specs.declared.outcome.Outcome as outcomes
use Rattle.ds_replica.specs.declared.outcome.Outcome.TheVariants.{Replied}
use Rattle.ds_replica.specs.Happens.{HappenAll}
use Rattle.rs_to_store.specs.Asked.{asking_for, commands}
use Rattle.ds_system.specs.declared.event.Table.{Table}
use Rattle.ds_system.specs.declared.event.Table.TheVariants.{File, Net}
use Rattle.ds_system.specs.System.{System, table_at, system_with_table, followed_items}
use Rattle.ds_system.specs.Drawing.{Instance, numbers_left, judged}
use Rattle.ds_system.specs.Turn.{TableTurn, FollowsItems}
use Rattle.ds_system.specs.Steps.{Steps, WorldEvents, no_steps, events_alone, turn_alone, asks_replied, AreProper, is_barred}

-- ---- what goes to the stores

-- Whether these events of the world happened, without a turn of a table, and led to the world of `t`.
pub record WorldDoes (s : System) (steps : Steps) (events : WorldEvents) (t : System) : Type 0 where
  pub steps_are : steps ≡ events_alone events
  pub proper : AreProper events
  pub happen : HappenAll s.world events t.world

-- Whether RS made a step: its label changes and sweeps went to the store of the side, in order, and the label changes
-- were added to `made`.
pub record Acts (s : System) (event : services.Event) (tick : ℕ) (side : Side) (actions : List Action)
    (replies : List Reply) (steps : Steps) (t : System) : Type 0 where
  pub step : RsStep s.rs event tick actions t.rs
  pub one_each : length replies ≡ length (commands actions)
  pub asked : WorldDoes s steps (asks_replied side (commands actions) replies) t
  pub system_is : t ≡ record s { rs = t.rs; world = t.world; made = s.made ++ offers actions }

-- Whether the change of the service with the label was accepted: its instance drew a number, and the change was made
-- and went to the store of the side, from the instance's endpoint.
pub record WritesEntry (s : System) (label : List ℕ) (key : Key) (content : Body)
    (side : Side) (reply : Reply) (steps : Steps) (t : System) : Type 0 where
  pub instance : Instance
  pub judged_is : judged s.rs s.numberers label key content ≡ Ok instance
  pub number : Version
  pub left : NumbererRecord
  pub drawn : Gives (numbers_left s.numberers instance) left number
  pub asked : WorldDoes s steps ((Ask side (asking_for instance.running.endpoint key number content), Replied reply) ∷ []) t
  pub system_is : t ≡ record s {
    numberers = slice_set s.numberers instance.place left;
    world = t.world;
    made = s.made ++ change_of key label number content ∷ [];
  }

-- Whether a change that was made went to the store of the side again, and nothing new was made.
pub record Repeats (s : System) (k : ℕ) (side : Side) (reply : Reply) (steps : Steps) (t : System) : Type 0 where
  pub change : ChangeRecord
  pub there : slice_get s.made k ≡ Some change
  pub asked : WorldDoes s steps ((Ask side (Merge (Changed change ∷ [])), Replied reply) ∷ []) t
  pub system_is : t ≡ record s { world = t.world; made = s.made }

-- Whether the world's event happened.
pub record Passes (s : System) (event : worlds.Event) (outcome : outcomes.Outcome) (steps : Steps) (t : System) : Type 0 where
  pub allowed : is_barred event ≡ false
  pub asked : WorldDoes s steps ((event, outcome) ∷ []) t
  pub system_is : t ≡ record s { world = t.world }

-- ---- what the servers do

-- Whether a server's table had a turn, in which it followed its map.
pub record LooksAtMap (s : System) (table : Table) (turn : TableTurn) : Type 0 where
  pub before : turn.before ≡ table_at s table
  pub follows : FollowsItems (followed_items s table) turn

-- Whether the turn has no request.
pub record IsPlain (turn : TableTurn) : Type 0 where
  pub none : turn.own ≡ None
  pub after : turn.after ≡ turn.followed

-- Whether, unless something ended the file server's turn, the network server had one too, with these rounds, this fault
-- and this table after it.
abbrev pub LooksToo : System → Option TableFault → Option TableTurn → List (List Move) → Option TableFault → DriverTable → Type 0
LooksToo s None net rounds fault after =
    (turn : TableTurn) ×
    (net ≡ Some turn) × LooksAtMap s Net turn × IsPlain turn × (rounds ≡ turn.rounds) × (fault ≡ turn.stop) × (after ≡ turn.after)
LooksToo s (Some stop) net rounds fault after = (net ≡ None) × (rounds ≡ []) × (fault ≡ Some stop) × (after ≡ s.net)

-- Whether both servers followed their maps, the file server first.
pub record FollowsBoth (s : System) (rounds : List (List Move)) (own : Option Move)
    (fault : Option TableFault) (steps : Steps) (t : System) : Type 0 where
  pub file : TableTurn
  pub first : LooksAtMap s File file
  pub plain : IsPlain file
  pub net : Option TableTurn
  pub more : List (List Move)
  pub too : LooksToo s file.stop net more fault t.net
  pub rounds_are : rounds ≡ file.rounds ++ more
  pub none : own ≡ None
  pub steps_are : steps ≡ record no_steps { file = Some file; net = net }
  pub system_is : t ≡ record s { file = file.after; net = t.net }

-- Whether the request, unless the follow ended early, has a move, or is refused; or memory runs out for it, if it stays pending.
abbrev pub Submits : DriverTable → ℕ → ℕ → Option TableFault → Option Move → Option TableFault → DriverTable → Type 0
Submits followed id unit (Some stop) own fault after = (own ≡ None) × (fault ≡ Some stop) × (after ≡ followed)
Submits followed id unit None None (Some NoRoom) after = RequestTakesMemory followed id unit × (after ≡ followed)
Submits followed id unit None None (Some fault) after = ((submitting followed id unit).0 ≡ Err fault) × (after ≡ followed)
Submits followed id unit None (Some own) None after = submitting followed id unit ≡ (Ok own, after)
Submits followed id unit None _ _ after = ⊥

-- Whether a server followed its map, and took a request.
pub record FollowsAndSubmits (s : System) (table : Table) (id unit : ℕ) (rounds : List (List Move)) (own : Option Move)
    (fault : Option TableFault) (steps : Steps) (t : System) : Type 0 where
  pub turn : TableTurn
  pub first : LooksAtMap s table turn
  pub submits : Submits turn.followed id unit turn.stop turn.own fault turn.after
  pub rounds_are : rounds ≡ turn.rounds
  pub own_is : own ≡ turn.own
  pub steps_are : steps ≡ turn_alone table turn
  pub system_is : t ≡ system_with_table s table turn.after

-- Whether a reply ends its request, or is refused and changes nothing.
abbrev pub Replies : DriverTable → EndpointRecord → ℕ → Option Move → Option TableFault → DriverTable → Type 0
Replies t endpoint id (Some own) None after = replying t endpoint id ≡ (Ok own, after)
Replies t endpoint id None (Some fault) after = ((replying t endpoint id).0 ≡ Err fault) × (after ≡ t)
Replies t endpoint id _ _ after = ⊥

-- Whether a driver replied.
pub record TakesReply (s : System) (table : Table) (endpoint : EndpointRecord) (id : ℕ) (rounds : List (List Move))
    (own : Option Move) (fault : Option TableFault) (steps : Steps) (t : System) : Type 0 where
  pub none : rounds ≡ []
  pub after : DriverTable
  pub replies : Replies (table_at s table) endpoint id own fault after
  pub steps_are : steps ≡ no_steps
  pub system_is : t ≡ system_with_table s table after
