-- The commands of requests.
use Rattle.std.specs.Prelude.{◌≡◌, ◌≢◌, ℕ, ◌+◌, ◌==◌, ◌||◌, ◌&&◌, ◌⊎◌, nat_le, not, true, false, cond, IsTrue, Bool, List, []}
use Rattle.std.specs.Prelude.{length, take, drop, Option, Some, None, Result, Ok, Err}
use Rattle.ds_entry.specs.declared.item.Item.{Item}
use Rattle.ds_machine.specs.declared.command.Command.{Command}
use Rattle.ds_machine.specs.declared.command.Command.TheVariants.{Merge}
use Rattle.ds_names.specs.declared.kind.Kind.{Kind}
use Rattle.ds_names.specs.declared.kind.Kind.TheVariants as kinds
use Rattle.ds_names.specs.declared.room.NoRoom.{NoRoom}
use Rattle.c_values.specs.declared.request.Request.{Request}
use Rattle.c_values.specs.Request.{command_of, kind_at}
use Rattle.c_values.specs.Lines.{AreLines, BeginsWithItem}

-- The `count` bytes of the texts from `at` on, if the texts have them.
unfoldable pub text_in : List ℕ → ℕ → ℕ → Option (List ℕ)
text_in texts at count = cond (nat_le (at + count) (length texts)) (Some (take count (drop at texts))) None

-- The text of a request, if the texts have it.
abbrev pub request_text : Request → List ℕ → Option (List ℕ)
request_text r texts = text_in texts r.text_at r.text_length

-- Whether the request is a Merge of the items in the text, one line each.
pub record IsMergeOf (r : Request) (text : List ℕ) (command : Command) : Type 0 where
  pub number : r.command ≡ 10
  pub items : List Item
  pub lines : AreLines items text
  pub command_is : command ≡ Merge items

-- Whether the request with this text is the command. It has the command's parts, or is a Merge of the items in the text.
abbrev pub StandsFor : Request → List ℕ → Command → Type 0
StandsFor r text command = (command_of r text ≡ Some command) ⊎ IsMergeOf r text command

-- Whether the request isn't a command.
abbrev pub StandsForNone : Request → List ℕ → Type 0
StandsForNone r text = (command : Command) → ¬ StandsFor r text command

-- Whether a value of this kind is a text or a blob.
abbrev pub is_long : Option Kind → Bool
is_long (Some kinds.Str) = true
is_long (Some kinds.Mem) = true
is_long _ = false

-- Whether the request's command has a text, a blob or a pattern: a Publish of the first two, a Subscribe, or a Since, a Snapshot or a Page
-- whose scope is a pattern.
abbrev pub has_text : Request → Bool
has_text r =
    (r.command == 0 && is_long (kind_at r.kinds))
    || (r.command == 5 || (not (r.under == 0) && (r.command == 7 || (r.command == 8 || r.command == 9))))

-- Whether reading the request with this text takes memory: it is a command with a text, a blob or a pattern that isn't empty, or a Merge
-- whose text begins with an item's line.
abbrev pub ReadingTakesMemory : Request → List ℕ → Type 0
ReadingTakesMemory r text = (IsTrue (has_text r) × (text ≢ []) × (command_of r text ≢ None)) ⊎ ((r.command ≡ 10) × BeginsWithItem text)

-- The result of reading a request: its command, `None` if it isn't one, or NoRoom if memory runs out for its text.
abbrev pub ReadsRequest : Request → List ℕ → Result (Option Command) NoRoom → Type 0
ReadsRequest r text (Ok None) = StandsForNone r text
ReadsRequest r text (Ok (Some command)) = StandsFor r text command
ReadsRequest r text (Err wanting) = ReadingTakesMemory r text
