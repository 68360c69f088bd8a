-- The commands that a reader sends. `asks_once` says what one command does to the asker.
use Rattle.std.specs.Prelude.{◌≡◌, ◌⊎◌, ℕ, ◌≤◌, List, length, Option, All}
use Rattle.history.specs.History.{Path}
use Rattle.ds_names.specs.declared.key.Key.{Key}
use Rattle.ds_feed.specs.declared.cursor.Cursor.{Cursor}
use Rattle.ds_machine.specs.declared.command.Command.{Command}
use Rattle.ds_machine.specs.declared.command.Command.TheVariants.{Check, Page, Since}
use Rattle.ds_machine.specs.declared.command.Scope.TheVariants.{Under}
use Rattle.ds_reader.specs.Asked.{subscribe_anew}
use Rattle.ds_reader.specs.declared.reading.Reading.{Reading}

-- Whether the command is a Page under the query, after any key.
abbrev pub IsPageOf : Reading → Command → Type 0
IsPageOf reading command = (after : Option Key) × (command ≡ Page (Under reading.query) after reading.max)

-- Whether the command is a Since under the query, from any cursor.
abbrev pub IsSinceOf : Reading → Command → Type 0
IsSinceOf reading command = (from : Cursor) × (command ≡ Since (Under reading.query) from reading.max)

module _ {A : Type 0} (asks_once : A → Command → A → Type 0) where
  -- Whether the asker sent at most `most` commands, all of this kind, and nothing else.
  pub record AsksFew (is_one : Command → Type 0) (most : ℕ) (old new : A) : Type 0 where
    pub commands : List Command
    pub asked : Path asks_once old commands new
    pub all : All is_one commands
    pub few : length commands ≤ most

  -- Whether the asker sent one Subscribe with INITIAL, and then only Checks.
  pub record AsksChecks (sub : ℕ) (reading : Reading) (old new : A) : Type 0 where
    pub subscribed : A
    pub begins : asks_once old (subscribe_anew sub reading.query) subscribed
    pub checks : AsksFew (λ command. command ≡ Check sub reading.max) reading.questions subscribed new

  -- Whether the asker sent one Subscribe with INITIAL, and then this many Checks.
  pub record AsksSoManyChecks (sub : ℕ) (reading : Reading) (count : ℕ) (old new : A) : Type 0 where
    pub subscribed : A
    pub begins : asks_once old (subscribe_anew sub reading.query) subscribed
    pub commands : List Command
    pub asked : Path asks_once subscribed commands new
    pub all : All (λ command. command ≡ Check sub reading.max) commands
    pub counted : length commands ≡ count

  -- Whether the asker sent the commands of a reader by checks, or nothing, if memory ran out before the first one.
  abbrev pub AsksByChecks : ℕ → Reading → A → A → Type 0
  AsksByChecks sub reading old new = (new ≡ old) ⊎ AsksChecks sub reading old new

  -- Whether the asker sent the commands of a reader by pages: first only Pages, then only Sinces.
  pub record AsksByPages (reading : Reading) (old new : A) : Type 0 where
    pub paged : A
    pub pages : AsksFew (IsPageOf reading) reading.questions old paged
    pub sinces : AsksFew (IsSinceOf reading) reading.questions paged new
