-- Refusals of patterns and cursors.
use Rattle.std.specs.Prelude.{◌≡◌, ◌⊎◌, ℕ, Option, Some, None}
use Rattle.std.specs.Option.{option_map}
use Rattle.ds_pattern.specs.declared.pattern.PatternFault.{PatternFault}
use Rattle.ds_pattern.specs.declared.pattern.PatternFault.TheVariants as patterns
use Rattle.ds_feed.specs.Feed.{Feed}
use Rattle.ds_feed.specs.Since.{fault_at}
use Rattle.ds_feed.specs.declared.cursor.Cursor.{Cursor}
use Rattle.ds_feed.specs.declared.journal.SinceFault.{SinceFault}
use Rattle.ds_feed.specs.declared.journal.SinceFault.TheVariants as faults
use Rattle.ds_machine.specs.Calling.{against_since}
use Rattle.ds_machine.specs.Order.{first_refusal}
use Rattle.ds_machine.specs.declared.command.Scope.{Scope}
use Rattle.ds_machine.specs.declared.refusal.Refusal.{Refusal}
use Rattle.ds_machine.specs.declared.refusal.Refusal.TheVariants.{TooLong, BadPattern, OldCursor, Ahead, Behind, NoRoom}

-- The refusal applies, or it is NoRoom because memory ran out.
abbrev pub IsRefusedFor : Option Refusal → Refusal → Type 0
IsRefusedFor stands refusal = (refusal ≡ NoRoom) ⊎ (stands ≡ Some refusal)

-- The refusal for a fault of a pattern.
abbrev pub refusal_of_pattern : PatternFault → Refusal
refusal_of_pattern patterns.TooLong = TooLong
refusal_of_pattern patterns.BadPattern = BadPattern
refusal_of_pattern patterns.NoRoom = NoRoom

-- The refusal for a fault of a cursor.
abbrev pub refusal_of_journal : SinceFault → Refusal
refusal_of_journal faults.OldCursor = OldCursor
refusal_of_journal faults.Ahead = Ahead
refusal_of_journal faults.Behind = Behind
refusal_of_journal faults.NoRoom = NoRoom

-- The refusal of this cursor, if it is refused.
abbrev pub refusal_of_cursor : Feed → Cursor → Option Refusal
refusal_of_cursor f at = option_map refusal_of_journal (fault_at f at)

-- The first refusal of a Since from this cursor.
abbrev pub refusal_of_since : Feed → Scope → Cursor → ℕ → Option Refusal
refusal_of_since f scope at max = first_refusal (against_since f scope at max)

-- The cursor is refused for this, or it isn't refused and memory ran out.
abbrev pub IsJournalRefusal : Feed → Cursor → Refusal → Type 0
IsJournalRefusal f at NoRoom = fault_at f at ≡ None
IsJournalRefusal f at refusal = refusal_of_cursor f at ≡ Some refusal
