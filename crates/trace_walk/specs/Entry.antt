-- The rest of an entry's command, for all inputs and places. `from` and `to` are what the reader has before and after.
use Rattle.std.specs.Prelude.{◌≡◌, ℕ, suc, ◌<◌, List, [], ◌∷◌, ◌++◌, length, Option}
use Rattle.std.specs.List.{All, flat_map}
use Rattle.ds_entry.specs.declared.item.Item.{Item}
use Rattle.line_io.specs.Lines.{HasLines, joined, with_newline}
use Rattle.line_io.specs.Reading.{LinesContent}
use Rattle.trace_walk.specs.Head.{IsHeadOf}
use Rattle.trace_walk.specs.Text.{MayAsk, MayMerge, asked_text, plus_text}
use Rattle.trace_walk.specs.Walking.{IsAt, IsShort}
use Rattle.trace_walk.specs.declared.asked.Asked.{Asked}
use Rattle.trace_walk.specs.declared.asked.Head.{Head}
use Rattle.trace_walk.specs.declared.asked.Head.TheVariants as heads
use Rattle.trace_walk.specs.declared.entry.EntryFault.{EntryFault}
use Rattle.trace_walk.specs.declared.entry.EntryFault.TheVariants.{BadLine}
use Rattle.trace_walk.specs.declared.entry.EntryReader.{EntryReader}
use Rattle.trace_walk.specs.declared.header.Format.{Format}

-- Whether the lines of `more` were passed.
abbrev pub GoesOver : LinesContent → Option (List ℕ) → List ℕ → LinesContent → Option (List ℕ) → Type 0
GoesOver old from more new to = (bytes front : List ℕ) → IsAt bytes front old from → IsAt bytes (front ++ more) new to

-- ---- items

-- Whether one more item is read, and added to the text.
pub record AddsItem (format : Format) (old : EntryReader) (from : Option (List ℕ)) (before : List Item)
    (new : EntryReader) (to : Option (List ℕ)) (after : List Item) : Type 0 where
  pub item : Item
  pub after_is : after ≡ before ++ item ∷ []
  pub may : MayMerge format item
  pub text : new.text.items ≡ old.text.items ++ plus_text item
  pub over : GoesOver old.lines from (plus_text item) new.lines to

-- Whether the line isn't an item's, or is too long.
abbrev pub IsNoItem : Format → List ℕ → Type 0
IsNoItem format line = (i : Item) → MayMerge format i → IsShort line → ¬ (line ≡ plus_text i)

-- Whether the first of the lines isn't an item's, or there is none.
abbrev pub BeginsNoItem : Format → List (List ℕ) → Type 0
BeginsNoItem format [] = Unit {0}
BeginsNoItem format (line ∷ lines) = IsNoItem format (with_newline line)

-- Whether no item's line follows the front.
pub record LacksNext (format : Format) (bytes front : List ℕ) (number : ℕ) : Type 0 where
  pub before : List (List ℕ)
  pub rest : List (List ℕ)
  pub lines : HasLines bytes (before ++ rest)
  pub past : front ≡ joined before
  pub counted : number ≡ suc (length before)
  pub lacks : BeginsNoItem format rest

abbrev pub IsLackingNext : Format → (bytes front : List ℕ) → EntryFault → Type 0
IsLackingNext format bytes front (BadLine number) = LacksNext format bytes front number
IsLackingNext format bytes front _ = Unit {0}

abbrev pub MissesItem : Format → EntryReader → Option (List ℕ) → EntryFault → Type 0
MissesItem format old from fault = (bytes front : List ℕ) → IsAt bytes front old.lines from → IsLackingNext format bytes front fault

-- Whether `count` items are read.
pub record AddsItems (format : Format) (old : EntryReader) (from : Option (List ℕ)) (count : ℕ) (new : EntryReader)
    (to : Option (List ℕ)) (items : List Item) : Type 0 where
  pub counted : length items ≡ count
  pub may : All (MayMerge format) items
  pub text : new.text.items ≡ old.text.items ++ flat_map plus_text items
  pub over : GoesOver old.lines from (flat_map plus_text items) new.lines to

-- Whether, after fewer of them, no item's line follows.
pub record LacksOne (format : Format) (bytes front : List ℕ) (count number : ℕ) : Type 0 where
  pub items : List Item
  pub may : All (MayMerge format) items
  pub less : length items < count
  pub lacks : LacksNext format bytes (front ++ flat_map plus_text items) number

abbrev pub IsLackingOne : Format → (bytes front : List ℕ) → ℕ → EntryFault → Type 0
IsLackingOne format bytes front count (BadLine number) = LacksOne format bytes front count number
IsLackingOne format bytes front count _ = Unit {0}

abbrev pub MissesItems : Format → EntryReader → Option (List ℕ) → ℕ → EntryFault → Type 0
MissesItems format old from count fault =
    (bytes front : List ℕ) → IsAt bytes front old.lines from → IsLackingOne format bytes front count fault

-- ---- the whole command

-- Whether the rest of the command, after its first line, is read.
pub record AddedLines (format : Format) (old : EntryReader) (from : Option (List ℕ)) (pass : ℕ) (new : EntryReader)
    (to : Option (List ℕ)) (asked : Asked) : Type 0 where
  pub more : List ℕ
  pub may : MayAsk format pass asked
  pub whole : asked_text pass asked ≡ old.text.items ++ more
  pub text : new.text.items ≡ old.text.items ++ more
  pub over : GoesOver old.lines from more new.lines to

abbrev pub AddsLines : Format → EntryReader → Option (List ℕ) → Head → EntryReader → Option (List ℕ) → Asked → Type 0
AddsLines format old from head new to asked =
    (pass : ℕ) → IsHeadOf format pass head old.text.items → IsShort old.text.items → AddedLines format old from pass new to asked

-- Whether the rest of the command isn't read, because an item of a Merge is missing.
abbrev pub MissesLines : Format → EntryReader → Option (List ℕ) → Head → EntryFault → Type 0
MissesLines format old from head fault = (count : ℕ) × (head ≡ heads.Merge count) × MissesItems format old from count fault
