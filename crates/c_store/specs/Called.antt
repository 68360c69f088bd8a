-- The effects of a request, of a command and of a show on a session.
use Rattle.std.specs.Prelude.{◌≡◌, ◌≢◌, ◌⊎◌, ℕ, Bool, true, false, List, [], length, map, Option, None, Some}
use Rattle.ds_entry.specs.Under.{entries_of}
use Rattle.ds_entry.specs.declared.item.Item.{Item}
use Rattle.ds_line.specs.ItemSpelling.{item_spelling}
use Rattle.ds_machine.specs.declared.command.Command.{Command}
use Rattle.ds_machine.specs.declared.refusal.Refusal.TheVariants.{NoRoom}
use Rattle.ds_machine.specs.declared.reply.Reply.{Reply}
use Rattle.ds_machine.specs.declared.reply.Reply.TheVariants.{Refused}
use Rattle.ds_store.specs.Turns.{Turn}
use Rattle.script_answers.specs.declared.wording.Wording.{Wording}
use Rattle.script_answers.specs.declared.wording.Wording.TheVariants.{AsMerge}
use Rattle.c_values.specs.declared.request.Request.{Request}
use Rattle.c_values.specs.declared.answer.Answer.{Answer}
use Rattle.c_values.specs.Answer.{answer_of, no_request, told_no_room, told_shown}
use Rattle.c_values.specs.Asked.{StandsFor, StandsForNone, ReadingTakesMemory}
use Rattle.c_values.specs.Pieces.{pieces_of}
use Rattle.c_store.specs.declared.last.Last.{Last}
use Rattle.c_store.specs.declared.last.Last.TheVariants.{Nothing, Reply as Replied, Shown}
use Rattle.c_store.specs.declared.session.Session.{Session}

-- Whether the store takes one step for the command, RS is unchanged, the answer is the reply's, and the reply is kept with the wording.
pub record Tells (old : Session) (wording : Wording) (command : Command) (answer : Answer) (new : Session) : Type 0 where
  pub reply : Reply
  pub turn : Turn old.node.store command reply new.node.store
  pub services : new.node.services ≡ old.node.services
  pub told : answer ≡ answer_of reply
  pub kept : new.last ≡ Replied reply wording

-- Whether the store and RS are unchanged, `told` is the answer, and `last` is kept.
pub record Rests (old : Session) (told : Answer) (last : Last) (answer : Answer) (new : Session) : Type 0 where
  pub told_is : answer ≡ told
  pub node_is : new.node ≡ old.node
  pub kept : new.last ≡ last

-- Whether the answer says that the request isn't a command, and the store is unchanged.
abbrev pub RestsForNone : Session → Answer → Session → Type 0
RestsForNone old answer new = Rests old no_request Nothing answer new

-- Whether the answer is out of memory, and the store is unchanged.
abbrev pub RestsForRoom : Session → Answer → Session → Type 0
RestsForRoom old answer new = Rests old told_no_room (Replied (Refused NoRoom) AsMerge) answer new

-- ---- requests

-- Whether the request is a command, which the store answers.
pub record AnswersRequest (old : Session) (r : Request) (text : List ℕ) (answer : Answer) (new : Session) : Type 0 where
  pub command : Command
  pub stands : StandsFor r text command
  pub answered : Tells old AsMerge command answer new

-- The effect of a request with this text. The store answers its command. If the request isn't a command, the answer says so. If it is a
-- command with a text, a blob or a pattern, or begins as a Merge, memory may run out for these.
abbrev pub CalledWith : Session → Request → List ℕ → Answer → Session → Type 0
CalledWith old r text answer new =
    AnswersRequest old r text answer new
    ⊎ ((StandsForNone r text × RestsForNone old answer new) ⊎ (ReadingTakesMemory r text × RestsForRoom old answer new))

-- The effect of a request whose text is in the texts. If its text isn't within them, it isn't a command.
abbrev pub Called : Session → Request → Option (List ℕ) → Answer → Session → Type 0
Called old r None answer new = RestsForNone old answer new
Called old r (Some text) answer new = CalledWith old r text answer new

-- ---- what is held

-- The items, or only the puts among them.
abbrev pub held_shown : Bool → List Item → List Item
held_shown true items = items
held_shown false items = entries_of items

-- The effect of a show: everything held, or the puts of it. If anything is held, memory may run out.
abbrev pub ShowsIfRoom : Session → Bool → Answer → Session → Type 0
ShowsIfRoom old all answer new =
    let items = held_shown all old.node.store.held in
    Rests old (told_shown (length items)) (Shown items) answer new ⊎ ((old.node.store.held ≢ []) × RestsForRoom old answer new)

-- ---- the text

-- The pieces of text of the last answer.
abbrev pub pieces_in : Last → List (List ℕ)
pieces_in Nothing = []
pieces_in (Replied reply wording) = pieces_of reply
pieces_in (Shown items) = map item_spelling items
