-- The lines of an input, and the entries that they become.
use Rattle.std.specs.Prelude.{◌≡◌, ◌≢◌, ◌+◌, ◌-◌, ℕ, zero, suc, ◌<◌, ◌≤◌, ◌⊎◌, Bool, true, false, cond, List, [], ◌∷◌, ◌++◌, length, codes}
use Rattle.std.specs.Char.{is_ascii_digit}
use Rattle.std.specs.Fmt.{decimal}
use Rattle.std.specs.List.{All, flat_map}
use Rattle.ds_entry.specs.declared.item.Item.{Item}
use Rattle.ds_feed.specs.Kept.{IsRing}
use Rattle.ds_line.specs.Part.{texts}
use Rattle.line_io.specs.Lines.{HasLines, with_newline, joined}
use Rattle.ds_names.specs.Limits.{most_items}
use Rattle.script_commands.specs.Command.{IsCommand, IsFaultAmong, command_parts}
use Rattle.script_commands.specs.Later.{IsLater}
use Rattle.script_commands.specs.declared.command.ScriptCommand.{ScriptCommand}
use Rattle.script_commands.specs.declared.command.ScriptCommand.TheVariants.{Offer, Ring}
use Rattle.trace_walk.specs.Entry.{BeginsNoItem}
use Rattle.trace_walk.specs.Walking.{IsShort}
use Rattle.trace_walk.specs.declared.asked.Head.{Head}
use Rattle.trace_walk.specs.declared.header.Format.{Format}
use Rattle.trace_walk.specs.Head.{IsHeadOf}
use Rattle.trace_walk.specs.Text.{TraceEntry, MayMerge, asked_text, merge_text, pass_text, plus_text}

-- Whether a line begins with a pass: a digit.
abbrev pub has_pass : List ℕ → Bool
has_pass [] = false
has_pass (b ∷ bs) = is_ascii_digit b

-- The lines of the trace for these lines: `> ` is added, and the pass 0 if none is there.
abbrev pub asked_by : List ℕ → List ℕ
asked_by lines = 62 ∷ 32 ∷ cond (has_pass lines) lines (48 ∷ 32 ∷ lines)

-- Whether the text is the lines for these entries, in order.
abbrev pub AskAll : List ℕ → List TraceEntry → Type 0
AskAll text [] = text ≡ []
AskAll text (e ∷ entries) =
    (lines rest : List ℕ) × (text ≡ lines ++ rest) × (asked_by lines ≡ asked_text e.pass e.asked) × AskAll rest entries

-- The line `ring N`, with its newline.
abbrev pub ring_text : ℕ → List ℕ
ring_text ring = texts (command_parts (Ring ring))

-- Whether a first line sets how many items the journal keeps; without one, 256.
abbrev pub OpensWith : List ℕ → ℕ → Type 0
OpensWith first ring = (first ≡ ring_text ring) ⊎ ((first ≡ []) × (ring ≡ 256))

-- Whether the line is `ring N` for a valid N.
abbrev pub IsRingLine : List ℕ → Type 0
IsRingLine line = (ring : ℕ) × IsRing ring × (line ≡ ring_text ring)

-- ---- the lines of the input; the last newline may be missing

-- All of them.
abbrev pub IsAllLines : List ℕ → List ℕ → Type 0
IsAllLines bytes input = (lines : List (List ℕ)) × HasLines bytes lines × (input ≡ joined lines)

-- The first ones.
abbrev pub IsFirstLines : List ℕ → List ℕ → Type 0
IsFirstLines bytes input = (before rest : List (List ℕ)) × HasLines bytes (before ++ rest) × (input ≡ joined before)

-- ---- the byte where a command's line is bad

-- The commands of a line after `before` others: `ring` may be on the first line alone.
abbrev pub MayBe : (before : ℕ) → ScriptCommand → Type 0
MayBe zero command = IsCommand command
MayBe (suc before) command = IsLater command

-- The place in a valid command that no trace has: an offer's item, of a sort that the format lacks, or the first byte.
abbrev pub IsUncarried : ScriptCommand → ℕ → Type 0
IsUncarried (Offer i) place = (place ≡ 6) ⊎ (place ≡ 0)
IsUncarried command place = place ≡ 0

-- Whether the text after any pass is bad at the place, as a line of a script is, or is that of a command which no trace
-- has. Nothing is said of a text that begins with `merge`.
abbrev pub IsTextBadAt : (before : ℕ) → List ℕ → ℕ → Type 0
IsTextBadAt before text place =
    ((rest : List ℕ) × (text ≡ codes "merge" ++ rest))
    ⊎ (IsFaultAmong (MayBe before) text place
    ⊎ ((command : ScriptCommand) × MayBe before command × (text ≡ texts (command_parts command)) × IsUncarried command place))

-- Whether the line is a pass, a space and such a text.
pub record IsBadAfterPass (line : List ℕ) (place : ℕ) : Type 0 where
  pub pass : ℕ
  pub text : List ℕ
  pub at : ℕ
  pub few : pass ≤ 63
  pub line_is : line ≡ decimal pass ++ 32 ∷ text
  pub place_is : place ≡ (length (decimal pass) + 1) + at
  pub bad : IsTextBadAt 1 text at

-- Whether the line begins with no pass and a space.
abbrev pub HasNoPass : List ℕ → Type 0
HasNoPass line = (pass : ℕ) (text : List ℕ) → pass ≤ 63 → line ≢ decimal pass ++ 32 ∷ text

-- Whether the line is bad at the place, by whether it begins with a digit.
abbrev pub IsLineBadAt : (has_pass : Bool) → (before : ℕ) → List ℕ → ℕ → Type 0
IsLineBadAt true before line place = IsBadAfterPass line place ⊎ (HasNoPass line × (place ≡ 0))
IsLineBadAt false before line place = IsTextBadAt before line place

-- The place in a line that is too long: where it is as long as it may be, which depends on its pass.
abbrev pub IsAtLimit : ℕ → Type 0
IsAtLimit place = (4092 ≤ place) × (place ≤ 4096)

-- Whether the line of this number, if it isn't too long in the trace, is bad at the place.
abbrev pub IsPlaceOfLine : ℕ → List ℕ → ℕ → Type 0
IsPlaceOfLine number line place =
    (IsShort (asked_by line) → IsLineBadAt (has_pass line) (number - 1) line place) × (¬ IsShort (asked_by line) → IsAtLimit place)

-- Whether that is the first of the lines.
abbrev pub BeginsBadAt : ℕ → List (List ℕ) → ℕ → Type 0
BeginsBadAt number [] place = Unit {0}
BeginsBadAt number (line ∷ lines) place = IsPlaceOfLine number (with_newline line) place

-- ---- bad lines

-- Whether the line isn't the first line of an entry, or would be too long in the trace.
abbrev pub AsksNothing : Format → List ℕ → Type 0
AsksNothing format line = (pass : ℕ) (head : Head) → IsShort (asked_by line) → ¬ IsHeadOf format pass head (asked_by line)

-- Whether the first of the lines isn't a command.
abbrev pub BeginsNoEntry : Format → List (List ℕ) → Type 0
BeginsNoEntry format [] = ⊥
BeginsNoEntry format (line ∷ lines) = AsksNothing format (with_newline line)

-- Whether the first of the lines isn't `ring N`.
abbrev pub BeginsNoRing : List (List ℕ) → Type 0
BeginsNoRing [] = Unit {0}
BeginsNoRing (line ∷ lines) = ¬ IsRingLine (with_newline line)

-- Whether the part is a Merge's first line and some of its items, and the next item is missing.
pub record LacksItem (format : Format) (part : List ℕ) (rest : List (List ℕ)) : Type 0 where
  pub pass : ℕ
  pub count : ℕ
  pub items : List Item
  pub pass_few : pass ≤ 63
  pub few : count ≤ most_items
  pub may : All (MayMerge format) items
  pub part_is : asked_by part ≡ pass_text pass (merge_text count) ++ flat_map plus_text items
  pub less : length items < count
  pub lacks : BeginsNoItem format rest

-- Whether, after whole entries, the first of the lines isn't a command; or, within a Merge, an item is missing.
abbrev pub GoesNotOn : Format → List ℕ → List (List ℕ) → Type 0
GoesNotOn format part rest = ((part ≡ []) × BeginsNoEntry format rest) ⊎ LacksItem format part rest

-- Whether this line is the first bad one, at the place. Before it come the lines of whole entries, `front`, and perhaps a
-- part of one, after which the place isn't said. The input's first line isn't bad if it is `ring N`.
pub record AsksNothingAt (format : Format) (bytes front : List ℕ) (number place : ℕ) : Type 0 where
  pub whole : IsFirstLines bytes front
  pub part : List ℕ
  pub before : List (List ℕ)
  pub rest : List (List ℕ)
  pub lines : HasLines bytes (before ++ rest)
  pub past : front ++ part ≡ joined before
  pub counted : number ≡ suc (length before)
  pub stops : GoesNotOn format part rest
  pub no_ring : before ≡ [] → BeginsNoRing rest
  pub at : part ≡ [] → BeginsBadAt number rest place
