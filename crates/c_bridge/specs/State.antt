-- The state of a bridge beside a store, after each of its moves.
use Rattle.std.specs.Prelude.{Bool, true, false, [], length, None}
use Rattle.ds_held.specs.Held.{nothing_held}
use Rattle.ds_held.specs.Limits.{larger}
use Rattle.ds_content.specs.Content.{ContentRecord}
use Rattle.fleet_bridge.specs.State as decisions
use Rattle.fleet_bridge.specs.declared.question.Question.{Question}
use Rattle.fleet_bridge.specs.declared.question.Question.TheVariants.{Nothing, Add, Compact}
use Rattle.fleet_store.specs.Taking.{held_with_dead}
use Rattle.c_bridge.specs.declared.bridge.StoreBridge.{StoreBridge}

-- A bridge beside a store with this content, which met no server: all that is held is in its outbox.
abbrev pub bridge_opened : ContentRecord → StoreBridge
bridge_opened c = record {
  decisions = decisions.folded decisions.new_state (length c.held);
  question = Nothing;
  outbox = c.held;
  snapshot = [];
  dead = nothing_held larger;
  seen = c.journal.position;
  reading = None;
  entries = [];
}

abbrev pub is_asking : Question → Bool
is_asking Nothing = false
is_asking _ = true

-- Whether the question adds items.
abbrev pub is_adding : Question → Bool
is_adding (Add n) = true
is_adding Compact = true
is_adding _ = false

-- All that is held replaces the outbox, and the journal was passed over.
abbrev pub bridge_folded : ContentRecord → StoreBridge → StoreBridge
bridge_folded c b = record b {
  decisions = decisions.folded b.decisions (length (held_with_dead c b.dead));
  outbox = held_with_dead c b.dead;
  seen = c.journal.position;
}

-- The server refused the question under way.
abbrev pub bridge_refused : StoreBridge → StoreBridge
bridge_refused b = record b { question = Nothing; snapshot = [] }

-- The connections ended.
abbrev pub bridge_parted : StoreBridge → StoreBridge
bridge_parted b = record b { decisions = decisions.parted b.decisions; question = Nothing; snapshot = []; reading = None; entries = [] }

abbrev pub bridge_doubting : StoreBridge → StoreBridge
bridge_doubting b = record b { decisions = decisions.doubting b.decisions }

abbrev pub bridge_rereading : StoreBridge → StoreBridge
bridge_rereading b = record b { decisions = decisions.rereading b.decisions }
