-- Passes at a desk of RS and its store, by the store's part of what they saw and called.
use Rattle.std.specs.Prelude.{◌≡◌, List, map}
use Rattle.std.specs.Option.{option_map}
use Rattle.std.specs.declared.boxed.Box.{Box}
use Rattle.history.specs.declared.entry.Entry.{Entry}
use Rattle.desk_rule.specs.declared.view.View.{View}
use Rattle.desk.specs.declared.pass.Sight.{Ghosts}
use Rattle.desk.specs.Pass.{calls, desk_of, first_place, history, notes_learnt, notes_made, number, opening, Pass}
use Rattle.ds_machine.specs.declared.command.Command.{Command}
use Rattle.ds_machine.specs.declared.reply.Reply.{Reply}
use Rattle.ds_content.specs.Content.{ContentRecord}
use Rattle.desk_store.specs.Record.{PassOrigin, PassRecord}
use Rattle.rs_store.specs.Laws.{entries_by, store_entries}
use Rattle.rs_store.specs.Pair.{PairRecord}
use Rattle.rs_store.specs.declared.call.RsCommand.{RsCommand}
use Rattle.rs_store.specs.declared.call.RsReply.{RsReply}

-- RS and its store on the heap.
abbrev pub BoxedPair : Type 0 → Type 0
BoxedPair Z = Box PairRecord Z

-- Whether this is what RS and its store on the heap are.
abbrev pub is_pair : {Z : Type 0} → BoxedPair Z → PairRecord → Type 0
is_pair m pair = m.value ≡ pair

-- The content of the store.
abbrev pub boxed_store : {Z : Type 0} → BoxedPair Z → ContentRecord
boxed_store m = m.value.store

-- The store's part of one turn: what clients or RS's actions asked it, and its replies.
abbrev pub store_turn : Entry RsCommand RsReply → List (Entry Command Reply)
store_turn e = entries_by e.pass e.command e.reply

-- The store's part of each turn.
abbrev pub store_turns : List (Entry RsCommand RsReply) → List (List (Entry Command Reply))
store_turns es = map store_turn es

module _ {Z : Type 0} {G : Ghosts (View (BoxedPair Z) RsCommand RsReply)} where
  abbrev pub pair_origin : Pass (BoxedPair Z) RsCommand RsReply G → PassOrigin
  pair_origin p = record {
    desk = desk_of p;
    number = number p;
    first = first_place p;
    made = notes_made p;
    learnt = notes_learnt p;
  }

  abbrev pub pair_record : Pass (BoxedPair Z) RsCommand RsReply G → PassRecord
  pair_record p = record {
    origin = pair_origin p;
    opened = option_map boxed_store (opening p);
    history = store_entries (history p);
    calls = store_entries (calls p);
    turns = store_turns (history p);
  }
