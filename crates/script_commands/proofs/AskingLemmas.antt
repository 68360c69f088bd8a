-- The store command and the event of a line, for all other lines.
use Rattle.std.proofs.Common.{◌≡◌, ◌≢◌, None, refl}
use Rattle.ds_replica.specs.declared.event.Side.{Side}
use Rattle.script_commands.specs.Command.{store_command}
use Rattle.script_commands.specs.Event.{asked_of, event_of}
use Rattle.script_commands.specs.declared.command.ScriptCommand.{ScriptCommand}
use Rattle.script_commands.specs.declared.command.ScriptCommand.TheVariants.{Offer, Store, Map, Clear, Restart, Deliver}

-- a line that is neither an offer nor a store's command sends none
pub asks_nothing : (command : ScriptCommand) → ((item : _) → command ≢ Offer item) → ((asked : _) → command ≢ Store asked)
    → None ≡ store_command command
asks_nothing (Offer item) offer store = absurd (offer item refl)
asks_nothing (Store asked) offer store = absurd (store asked refl)
asks_nothing _ offer store = refl

-- a line without an event of the world's own
pub record IsAsking (command : ScriptCommand) : Type 0 where
  pub map : (query : _) → command ≢ Map query
  pub clear : (map : _) → command ≢ Clear map
  pub restart : (side : _) (incarnation : _) → command ≢ Restart side incarnation
  pub deliver : (message : _) (holder : _) (count : _) → command ≢ Deliver message holder count

pub asking : (side : Side) (command : ScriptCommand) → IsAsking command → asked_of side (store_command command) ≡ event_of side command
asking side (Map query) is = absurd (is.map query refl)
asking side (Clear map) is = absurd (is.clear map refl)
asking side (Restart at incarnation) is = absurd (is.restart at incarnation refl)
asking side (Deliver message holder count) is = absurd (is.deliver message holder count refl)
asking side _ is = refl
