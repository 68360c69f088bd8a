-- The session of a script: a world of two stores, the side of the current one, RS and the driver tables.
use Rattle.std.specs.Prelude.{◌≡◌, ℕ, List}
use Rattle.ds_entry.specs.declared.item.Item.{Item}
use Rattle.ds_held.specs.Limits.{larger}
use Rattle.ds_replica.specs.declared.event.Event.{Event}
use Rattle.ds_replica.specs.declared.event.Side.{Side}
use Rattle.ds_replica.specs.declared.event.Side.TheVariants.{A}
use Rattle.ds_replica.specs.declared.outcome.Outcome.{Outcome}
use Rattle.ds_replica.specs.declared.seed.Seed.{Seed}
use Rattle.ds_replica.specs.World.{World, new_world}
use Rattle.ds_world.specs.World.{WorldRecord, WorldStands, store_in}
use Rattle.ds_world.specs.Run.{EventLeads}
use Rattle.ds_world.specs.Told.{IsTold}
use Rattle.script_services.specs.Servers.{ServersRecord, ServersStand, no_servers}

-- The value of a session.
pub record SessionContent : Type 0 where
  pub world : WorldRecord
  pub side : Side
  pub servers : ServersRecord

-- How the store of an incarnation is opened, with a journal of `ring` items.
abbrev pub seed : ℕ → ℕ → Seed
seed incarnation ring = record { incarnation = incarnation; first = 0; ring = ring }

-- A new world: both journals keep `ring` items and begin at position 0, the incarnation of side a is 1 and that of side
-- b 2, and each store has 128 subscriptions and 4096 keys at most.
abbrev pub made : ℕ → World
made ring = new_world (seed 1 ring) (seed 2 ring) larger

-- Whether the session is a new one: its world is new, side a is current, RS has no settings, and the tables have no
-- units.
pub record IsOpened (ring : ℕ) (session : SessionContent) : Type 0 where
  pub world : WorldStands session.world (made ring)
  pub side : session.side ≡ A
  pub servers : ServersStand session.servers no_servers

-- The session with this side current.
abbrev pub turned : SessionContent → Side → SessionContent
turned session side = record session { side = side }

-- What the current store holds.
abbrev pub held_of : SessionContent → List Item
held_of session = (store_in session.world session.side).held

-- One event of the world: each world that the session stands for steps, with this outcome, to one that it stands for
-- afterwards, and `World::happen`'s promise about the outcome holds. RS and the tables are unchanged.
pub record IsHappening (event : Event) (outcome : Outcome) (old new : SessionContent) : Type 0 where
  pub leads : EventLeads event outcome old.world new.world
  pub told : IsTold event outcome old.world new.world
  pub side : new.side ≡ old.side
  pub servers : new.servers ≡ old.servers
