-- The text of a trace: its header, and its entries.
use Rattle.std.specs.Prelude.{◌≡◌, ◌≢◌, ℕ, ◌<◌, ◌≤◌, ◌^◌, ◌==◌, Bool, true, false, List, [], ◌∷◌, ◌++◌, length, Option, Some, None, codes}
use Rattle.std.specs.List.{All, flat_map}
use Rattle.std.specs.Fmt.{decimal}
use Rattle.ds_entry.specs.declared.item.Item.{Item}
use Rattle.ds_entry.specs.declared.item.Item.TheVariants.{Change as Changed, Floor as Floored}
use Rattle.ds_entry.specs.Item.{IsItem}
use Rattle.ds_feed.specs.Kept.{IsRing}
use Rattle.ds_held.specs.Limits.{LimitsRecord, IsLimits, smaller}
use Rattle.ds_line.specs.Part.{texts}
use Rattle.ds_line.specs.ItemSpelling.{item_spelling}
use Rattle.ds_names.specs.Limits.{most_items, last_place}
use Rattle.ds_machine.specs.declared.command.Command.{Command}
use Rattle.ds_machine.specs.declared.command.Command.TheVariants as commands
use Rattle.ds_machine.specs.declared.reply.Reply.{Reply}
use Rattle.script_commands.specs.Command.{IsCommand, command_parts, store_command}
use Rattle.script_commands.specs.Wording.{wording}
use Rattle.script_answers.specs.Reply.{reply_lines}
use Rattle.script_commands.specs.declared.command.ScriptCommand.{ScriptCommand}
use Rattle.script_commands.specs.declared.command.ScriptCommand.TheVariants.{Offer}
use Rattle.script_answers.specs.declared.wording.Wording.{Wording}
use Rattle.script_answers.specs.declared.wording.Wording.TheVariants.{AsMerge}
use Rattle.trace_walk.specs.declared.asked.Asked.{Asked}
use Rattle.trace_walk.specs.declared.asked.Asked.TheVariants.{Line, Merge}
use Rattle.trace_walk.specs.declared.header.Format.{Format}
use Rattle.trace_walk.specs.declared.header.Format.TheVariants.{One, Two}
use Rattle.trace_walk.specs.declared.header.Header.{Header}

-- ---- the header

-- Whether the format may have these limits: format 1 has the smaller ones.
abbrev pub FormatHas : Format → LimitsRecord → Type 0
FormatHas One limits = limits ≡ smaller
FormatHas Two limits = IsLimits limits

-- Whether the numbers of a header are in range.
pub record IsHeader (h : Header) : Type 0 where
  pub incarnation : h.incarnation < 2 ^ 64
  pub first : h.first ≤ last_place
  pub ring : IsRing h.ring
  pub limits : FormatHas h.format h.limits

-- What follows the ring: in format 2 the limits, then a newline.
abbrev pub limits_text : Format → LimitsRecord → List ℕ
limits_text One limits = 10 ∷ []
limits_text Two limits = 32 ∷ (decimal limits.subs ++ 32 ∷ (decimal limits.keys ++ 10 ∷ []))

-- What follows the number of the format, with the newline.
abbrev pub numbers_text : Header → List ℕ
numbers_text h = decimal h.incarnation ++ 32 ∷ (decimal h.first ++ 32 ∷ (decimal h.ring ++ limits_text h.format h.limits))

-- The beginning of a header: `trace 1 ` or `trace 2 `.
abbrev pub format_text : Format → List ℕ
format_text One = codes "trace 1 "
format_text Two = codes "trace 2 "

-- The first line, with its newline.
abbrev pub header_text : Header → List ℕ
header_text h = format_text h.format ++ numbers_text h

-- Whether the bytes aren't a header.
abbrev pub HasNoHeader : List ℕ → Type 0
HasNoHeader bytes = (h : Header) → IsHeader h → bytes ≢ header_text h

-- ---- the command of an entry

-- The command of the store, if there is one.
abbrev pub command_asked : Asked → Option Command
command_asked (Line command) = store_command command
command_asked (Merge items) = Some (commands.Merge items)

-- The wording of the reply.
abbrev pub worded_as : Asked → Wording
worded_as (Line command) = wording command
worded_as (Merge items) = AsMerge

-- Whether the format has such an item: format 1 has no floors.
abbrev pub Carries : Format → Item → Type 0
Carries One (Changed c) = Unit {0}
Carries One (Floored f) = ⊥
Carries Two i = Unit {0}

-- Whether the format has the items of a line's command.
abbrev pub CarriesLine : Format → ScriptCommand → Type 0
CarriesLine format (Offer i) = Carries format i
CarriesLine format _ = Unit {0}

-- Whether a Merge may have the item.
abbrev pub MayMerge : Format → Item → Type 0
MayMerge format i = IsItem i × Carries format i

-- A `>` line, given what follows the pass.
abbrev pub pass_text : ℕ → List ℕ → List ℕ
pass_text pass past = 62 ∷ 32 ∷ (decimal pass ++ 32 ∷ past)

-- The `>` line of a command, with its newline.
abbrev pub line_text : ℕ → ScriptCommand → List ℕ
line_text pass command = pass_text pass (texts (command_parts command))

-- The text `merge N`, with its newline.
abbrev pub merge_text : ℕ → List ℕ
merge_text count = codes "merge " ++ (decimal count ++ 10 ∷ [])

-- The line of an item of a Merge.
abbrev pub plus_text : Item → List ℕ
plus_text i = 43 ∷ 32 ∷ item_spelling i

-- The lines of an entry's command.
abbrev pub asked_text : ℕ → Asked → List ℕ
asked_text pass (Line command) = line_text pass command
asked_text pass (Merge items) = pass_text pass (merge_text (length items)) ++ flat_map plus_text items

-- Whether an entry may have the command: a line for the store of at most 4096 bytes, or a Merge of at most 256 items.
abbrev pub MayAsk : Format → ℕ → Asked → Type 0
MayAsk format pass (Line command) =
    IsCommand command × (store_command command ≢ None) × CarriesLine format command × (length (line_text pass command) ≤ 4097)
MayAsk format pass (Merge items) = (length items ≤ most_items) × All (MayMerge format) items

-- ---- entries

-- An entry of a trace: its pass, its command and its reply.
pub record TraceEntry : Type 0 where
  pub pass : ℕ
  pub asked : Asked
  pub reply : Reply

pub record IsEntry (format : Format) (e : TraceEntry) : Type 0 where
  pub pass : e.pass ≤ 63
  pub asked : MayAsk format e.pass e.asked

-- The text with `< ` before each line; `first` says whether a line begins at its front.
unfoldable pub marked_from : Bool → List ℕ → List ℕ
marked_from first [] = []
marked_from true (b ∷ bs) = 60 ∷ 32 ∷ b ∷ marked_from (b == 10) bs
marked_from false (b ∷ bs) = b ∷ marked_from (b == 10) bs

abbrev pub marked : List ℕ → List ℕ
marked text = marked_from true text

-- The lines of an entry's reply, within the limits of its store.
abbrev pub reply_text : LimitsRecord → TraceEntry → List ℕ
reply_text limits e = marked (reply_lines (worded_as e.asked) e.reply limits)

-- All lines of an entry.
abbrev pub entry_text : LimitsRecord → TraceEntry → List ℕ
entry_text limits e = asked_text e.pass e.asked ++ reply_text limits e

-- The text of a trace.
abbrev pub trace_text : Header → List TraceEntry → List ℕ
trace_text h entries = header_text h ++ flat_map (entry_text h.limits) entries
