-- The answers to the lines of a script. They are a relation, since memory may run out at any line.
use Rattle.std.specs.Prelude.{◌≡◌, ◌≢◌, ℕ, zero, suc, Bool, true, false, ◌⊎◌, List, [], ◌++◌, length, Option, None, MatchOption, codes}
use Rattle.std.specs.List.{flat_map, slice_get}
use Rattle.std.specs.Fmt.{decimal}
use Rattle.std.specs.Option.{option_map_or}
use Rattle.ds_entry.specs.declared.item.Item.{Item}
use Rattle.ds_line.specs.ItemSpelling.{item_spelling}
use Rattle.ds_held.specs.Limits.{larger}
use Rattle.ds_held.specs.Held.{held_items}
use Rattle.ds_submap.specs.Map.{SubMapRecord}
use Rattle.ds_machine.specs.declared.reply.Reply.{Reply}
use Rattle.ds_replica.specs.declared.event.Event.{Event}
use Rattle.ds_replica.specs.declared.event.Side.{Side}
use Rattle.ds_replica.specs.declared.outcome.Outcome.{Outcome}
use Rattle.ds_replica.specs.declared.outcome.Outcome.TheVariants.{Made}
use Rattle.script_commands.specs.Command.{IsCommand, CommandTakesMemory, IsLineAs}
use Rattle.script_commands.specs.Later.{IsLater}
use Rattle.line_io.specs.Lines.{with_newline}
use Rattle.script_commands.specs.Event.{event_of}
use Rattle.script_answers.specs.Outcome.{outcome_lines, ring_line, side_line}
use Rattle.script_commands.specs.Wording.{wording}
use Rattle.script_answers.specs.Reply.{reply_lines, refused_noroom}
use Rattle.script_commands.specs.declared.command.ScriptCommand.{ScriptCommand}
use Rattle.script_commands.specs.declared.command.ScriptCommand.TheVariants as lines
use Rattle.script_answers.specs.declared.wording.Wording.{Wording}
use Rattle.script_commands.specs.ServiceEvent.{request_event}
use Rattle.rs_core.specs.declared.event.Event as services
use Rattle.rs_core.specs.declared.event.Event.TheVariants.{Death, Beat, Tick}
use Rattle.script_services.specs.Servers.{Servers, ServersLead}
use Rattle.script_services.specs.Services.{AnswersSettings, AnswersService}
use Rattle.script_services.specs.Waiting.{AcceptingTakesMemory}
use Rattle.script_services.specs.Tables.{map_items, AnswersAssign, AnswersFollow, AnswersSubmit, AnswersReply}
use Rattle.ds_script.specs.Session.{SessionContent, IsOpened, IsHappening, turned, held_of}
use Rattle.ds_entry.specs.Under.{entries_of}

-- ---- what `show`, `all` and `entries` print

-- The text of the answer: a line for each item, then `shown` and their count.
abbrev pub shown : List Item → List ℕ
shown items = flat_map item_spelling items ++ with_newline (codes "shown " ++ decimal (length items))

-- All of the items, or the puts alone.
abbrev pub picked : Bool → List Item → List Item
picked true items = items
picked false items = entries_of items

-- The line of a refusal with this word.
abbrev pub refused_by : List ℕ → List ℕ
refused_by word = with_newline (codes "refused " ++ word)

-- The lines of the map's puts, or the refusal if there is no such map.
abbrev pub entries_text : Option SubMapRecord → List ℕ
entries_text m = option_map_or (λ it. shown (entries_of (held_items it.held))) m (refused_by (codes "nomap"))

-- ---- events

-- The lines of an outcome. Those of Made are the lines of the reply that the message is; a session that stands for a
-- world has every message that was made.
abbrev pub told_lines : Wording → Outcome → List Reply → List ℕ
told_lines wording (Made message) messages = option_map_or (λ reply. reply_lines wording reply larger) (slice_get messages message) []
told_lines wording outcome messages = outcome_lines wording outcome larger

-- Whether the event happens and the answer is its outcome's lines.
pub record AnswersEvent (wording : Wording) (event : Event) (old : SessionContent) (out : List ℕ) (new : SessionContent) : Type 0 where
  pub outcome : Outcome
  pub happens : IsHappening event outcome old new
  pub told : out ≡ told_lines wording outcome new.world.messages

-- Whether the command is an event and is answered as that event.
abbrev pub AnswersAsEvent : ScriptCommand → SessionContent → List ℕ → SessionContent → Type 0
AnswersAsEvent command old out new = MatchOption (event_of old.side command) ⊥ (λ event. AnswersEvent (wording command) event old out new)

-- ---- RS and the driver tables

-- Whether all states of RS and tables that the session stands for take this step, with this answer, to states that it
-- stands for afterwards. The world and the side are unchanged.
abbrev pub AnswersByServers : (Servers → List ℕ → Servers → Type 0) → SessionContent → List ℕ → SessionContent → Type 0
AnswersByServers R old out new = ServersLead (λ s t. R s out t) old.servers new.servers × (new.world ≡ old.world) × (new.side ≡ old.side)

-- Whether RS takes an event at a tick and its actions become commands to the session's current store.
abbrev pub AnswersByServices : services.Event → ℕ → SessionContent → List ℕ → SessionContent → Type 0
AnswersByServices event tick old out new =
    AnswersService event tick old.side old.servers old.world out new.servers new.world × (new.side ≡ old.side)

-- The items that map number `map` holds, if there is such a map.
abbrev pub items_of_map : SessionContent → ℕ → Option (List Item)
items_of_map session map = map_items (slice_get session.world.maps map)

-- ---- commands

-- Whether the session is opened anew, with journals that keep `ring` items.
abbrev pub AnswersRing : ℕ → SessionContent → List ℕ → SessionContent → Type 0
AnswersRing ring old out new = IsOpened ring new × (out ≡ ring_line ring)

-- Whether the side's store becomes the current one.
abbrev pub AnswersSide : Side → SessionContent → List ℕ → SessionContent → Type 0
AnswersSide side old out new = (new ≡ turned old side) × (out ≡ side_line side)

-- The answer to a command, and the session after it.
abbrev pub AnswersCommand : ScriptCommand → SessionContent → List ℕ → SessionContent → Type 0
AnswersCommand lines.Show old out new = (new ≡ old) × (out ≡ shown (picked false (held_of old)))
AnswersCommand lines.All old out new = (new ≡ old) × (out ≡ shown (picked true (held_of old)))
AnswersCommand (lines.Entries map) old out new = (new ≡ old) × (out ≡ entries_text (slice_get old.world.maps map))
AnswersCommand (lines.Ring ring) old out new = AnswersRing ring old out new
AnswersCommand (lines.Side side) old out new = AnswersSide side old out new
AnswersCommand (lines.Settings text) old out new = AnswersByServers (AnswersSettings text) old out new
AnswersCommand (lines.Service request label tick) old out new = AnswersByServices (request_event request label) tick old out new
AnswersCommand (lines.Death endpoint cause tick) old out new = AnswersByServices (Death endpoint cause) tick old out new
AnswersCommand (lines.Beat endpoint tick) old out new = AnswersByServices (Beat endpoint) tick old out new
AnswersCommand (lines.Tick tick) old out new = AnswersByServices Tick tick old out new
AnswersCommand (lines.Assign device label) old out new = AnswersByServers (AnswersAssign device label) old out new
AnswersCommand (lines.Follow map) old out new = AnswersByServers (AnswersFollow (items_of_map old map)) old out new
AnswersCommand (lines.Submit server id unit map) old out new =
    AnswersByServers (AnswersSubmit server id unit (items_of_map old map)) old out new
AnswersCommand (lines.Reply server endpoint id) old out new = AnswersByServers (AnswersReply server endpoint id) old out new
AnswersCommand command old out new = AnswersAsEvent command old out new

-- The refusal of a line when memory runs out: nothing changes.
abbrev pub IsLineRefused : SessionContent → List ℕ → SessionContent → Type 0
IsLineRefused old out new = (new ≡ old) × (out ≡ refused_noroom)

-- Whether the script itself allocates for the command: to show items (of a map, only if it exists), for the stores'
-- rings, for settings unless they are empty or RS has some, or for a text, a blob or a pattern of the line that isn't
-- empty. Other commands are refused NoRoom by the world, RS or a table.
abbrev pub AnswerTakesMemory : ScriptCommand → SessionContent → Type 0
AnswerTakesMemory lines.Show old = Unit {0}
AnswerTakesMemory lines.All old = Unit {0}
AnswerTakesMemory (lines.Entries map) old = slice_get old.world.maps map ≢ None
AnswerTakesMemory (lines.Ring ring) old = Unit {0}
AnswerTakesMemory (lines.Settings text) old =
    (text ≢ []) ⊎ AcceptingTakesMemory old.servers.services text
AnswerTakesMemory command old = CommandTakesMemory command

-- The answer to a command, whether or not memory lasts.
abbrev pub AnswersOrRefuses : ScriptCommand → SessionContent → List ℕ → SessionContent → Type 0
AnswersOrRefuses command old out new = (AnswerTakesMemory command old × IsLineRefused old out new) ⊎ AnswersCommand command old out new

-- ---- lines

-- The commands that are allowed after `before` lines: `ring` is allowed on the first line alone.
abbrev pub MayStand : ℕ → ScriptCommand → Type 0
MayStand zero command = IsCommand command
MayStand (suc before) command = IsLater command

-- The answer to a command's line after `before` others, and the session after it.
abbrev pub AnswersLine : ℕ → SessionContent → List ℕ → List ℕ → SessionContent → Type 0
AnswersLine before old line out new =
    (command : ScriptCommand) × IsLineAs (MayStand before) command line × AnswersOrRefuses command old out new

-- ---- appended to the output

-- The output with the command's answer appended.
abbrev pub AppendsCommand : ScriptCommand → (before after : List ℕ) → (old new : SessionContent) → Type 0
AppendsCommand command before after old new = (out : List ℕ) × (after ≡ before ++ out) × AnswersOrRefuses command old out new

-- Like `AppendsCommand`, for `ring`, or its refusal.
abbrev pub AppendsRing : ℕ → (before after : List ℕ) → (old new : SessionContent) → Type 0
AppendsRing ring before after old new =
    (out : List ℕ) × (after ≡ before ++ out) × (AnswersRing ring old out new ⊎ IsLineRefused old out new)

-- Like `AppendsCommand`, for `side`, whose store is the current one from now on.
abbrev pub AppendsSide : Side → (before after : List ℕ) → (old new : SessionContent) → Type 0
AppendsSide side before after old new = (after ≡ before ++ side_line side) × (new ≡ turned old side)

-- Like `AppendsCommand`, for a command that is an event, or its refusal.
abbrev pub AppendsEvent : ScriptCommand → (before after : List ℕ) → (old new : SessionContent) → Type 0
AppendsEvent command before after old new =
    (out : List ℕ) × (after ≡ before ++ out)
    × (AnswersAsEvent command old out new ⊎ (AnswerTakesMemory command old × IsLineRefused old out new))

-- Like `AppendsCommand`, for a step of RS and the tables.
abbrev pub AppendsByServers : (Servers → List ℕ → Servers → Type 0) → (before after : List ℕ) → (old new : SessionContent) → Type 0
AppendsByServers R before after old new = (out : List ℕ) × (after ≡ before ++ out) × AnswersByServers R old out new

-- Like `AppendsCommand`, for settings, or their refusal.
abbrev pub AppendsSettings : List ℕ → (before after : List ℕ) → (old new : SessionContent) → Type 0
AppendsSettings text before after old new =
    (out : List ℕ) × (after ≡ before ++ out)
    × (AnswersByServers (AnswersSettings text) old out new ⊎ (AnswerTakesMemory (lines.Settings text) old × IsLineRefused old out new))

-- Like `AppendsCommand`, for an event of RS.
abbrev pub AppendsByServices : services.Event → ℕ → (before after : List ℕ) → (old new : SessionContent) → Type 0
AppendsByServices event tick before after old new = (out : List ℕ) × (after ≡ before ++ out) × AnswersByServices event tick old out new

-- The output with this text appended, or `refused noroom`.
abbrev pub AppendsOrRefuses : List ℕ → (before after : List ℕ) → Type 0
AppendsOrRefuses text before after = (after ≡ before ++ refused_noroom) ⊎ (after ≡ before ++ text)

-- The output with the answer to `entries` appended. Only for a map that exists can memory run out.
abbrev pub AppendsEntries : Option SubMapRecord → (before after : List ℕ) → Type 0
AppendsEntries m before after = ((m ≢ None) × (after ≡ before ++ refused_noroom)) ⊎ (after ≡ before ++ entries_text m)

-- The output with the answer to the line, after `count` others, appended.
abbrev pub AppendsLine : ℕ → List ℕ → (before after : List ℕ) → (old new : SessionContent) → Type 0
AppendsLine count line before after old new =
    (out : List ℕ) × (after ≡ before ++ out)
    × ((text : List ℕ) → line ≡ with_newline text → AnswersLine count old text out new)
