-- One turn of RS and its store.
use Rattle.std.specs.Prelude.{◌≡◌}
use Rattle.rs_store.specs.declared.call.RsCommand.{RsCommand}
use Rattle.rs_store.specs.declared.call.RsCommand.TheVariants.{Ask, Begin, Tell}
use Rattle.rs_store.specs.declared.call.RsReply.{RsReply}
use Rattle.rs_store.specs.Pair.{PairRecord}
use Rattle.rs_store.specs.Serving.{ClientTurn, BeginTurn, EventTurn}

-- The effect of a command. A client's command is a turn of the store, and leaves RS unchanged. A beginning leaves the
-- store unchanged. An event is a step of RS, and turns of the store for its actions.
abbrev pub RsTurn : PairRecord → RsCommand → RsReply → PairRecord → Type 0
RsTurn old (Ask command) reply new = ClientTurn old.services old.store command reply new.store × (new.services ≡ old.services)
RsTurn old (Begin settings next first) reply new = BeginTurn old.services settings next first reply new.services × (new.store ≡ old.store)
RsTurn old (Tell event tick) reply new = EventTurn event tick old.services old.store reply new.services new.store
