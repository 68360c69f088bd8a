-- The moves of RS, its store and the processes of its services.
use Rattle.std.specs.Prelude.{◌≡◌, List, [], ◌∷◌, Option, Some, None}
use Rattle.ds_machine.specs.declared.command.Command.{Command}
use Rattle.process_keeper.specs.declared.keeper.Keeper.{Keeper}
use Rattle.rs_core.specs.State.{RsRecord}
use Rattle.rs_store.specs.Pair.{PairRecord}
use Rattle.rs_store.specs.Turns.{RsTurn}
use Rattle.rs_store.specs.declared.call.RsCommand.TheVariants.{Ask}
use Rattle.rs_store.specs.declared.call.RsReply.{RsReply}
use Rattle.supervisor.specs.Moves.{IsMove, Move}
use Rattle.supervisor.specs.declared.supervisor.Supervisor.{Supervisor}

-- RS and the keepers, as a supervisor.
abbrev pub supervisor_of : RsRecord → Keeper → Supervisor
supervisor_of rs keeper = record { rs = rs; keeper = keeper }

-- The labels and the generations of both are the same.
pub record KeepsLabels (old new : Keeper) : Type 0 where
  pub labels : new.labels.items ≡ old.labels.items
  pub next : new.next ≡ old.next
  pub file : new.file ≡ old.file

-- RS and the keepers make the move of a supervisor. Before RS has begun, no label changes.
abbrev pub Supervises : Option RsRecord → Keeper → Move → Option RsRecord → Keeper → Type 0
Supervises (Some rs) old move (Some after) new = IsMove (supervisor_of rs old) move (supervisor_of after new)
Supervises None old move None new = KeepsLabels old new
Supervises (Some rs) old move None new = ⊥
Supervises None old move (Some after) new = ⊥

-- ---- all of them

pub record NodeState : Type 0 where
  pub node : PairRecord
  pub keeper : Keeper

pub data NodeMove : Type 0 where
  Client : Command → NodeMove  -- a client's command to the store
  Supervise : Move → NodeMove

abbrev pub IsNodeMove : NodeState → NodeMove → NodeState → Type 0
IsNodeMove s (Client command) t = ((reply : RsReply) × RsTurn s.node (Ask command) reply t.node) × (t.keeper ≡ s.keeper)
IsNodeMove s (Supervise move) t = Supervises s.node.services s.keeper move t.node.services t.keeper

-- The supervisor's moves among them.
abbrev pub supervised_in : List NodeMove → List Move
supervised_in [] = []
supervised_in (Client command ∷ moves) = supervised_in moves
supervised_in (Supervise move ∷ moves) = move ∷ supervised_in moves
