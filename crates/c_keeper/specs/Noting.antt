-- What a caller notes of processes, in numbers.
use Rattle.std.specs.Prelude.{◌≡◌, ℕ, ◌==◌, cond, Bool, true, Option, None, Some, MatchOption}
use Rattle.process_keeper.specs.Order.{IsWritten, TakesAt}
use Rattle.process_keeper.specs.declared.input.Input.{Input}
use Rattle.process_keeper.specs.declared.input.Input.TheVariants.{Shortened, Begun, Failed, Exited, Changed, Asked, Killed, Scanned}
use Rattle.process_keeper.specs.declared.input.Input.TheVariants.{Reaped, Cleared}
use Rattle.process_keeper.specs.declared.scan.Scan.TheVariants.{Nothing, Dying, Living}
use Rattle.supervisor.specs.Following.{is_note}
use Rattle.node_supervisor.specs.declared.processes.Processes.{Processes}
use Rattle.c_keeper.specs.Keeping.{KeepsIfOpen}

-- What a scan found, by its number.
unfoldable pub scan_of : ℕ → Option Input
scan_of found =
    cond (found == 0) (Some (Scanned Nothing)) (cond (found == 1) (Some (Scanned Dying)) (cond (found == 2) (Some (Scanned Living)) None))

-- The input of a kind from 5 on.
unfoldable pub later_input_of : ℕ → ℕ → Option Input
later_input_of kind value =
    cond (kind == 5) (Some Killed) (cond (kind == 6) (scan_of value) (cond (kind == 7) (Some Reaped) (cond (kind == 8) (Some Cleared)
    (cond (kind == 9) (Some (Shortened value)) None))))

-- The input of a kind. The value is a time in milliseconds, a process number, or what a scan found.
unfoldable pub input_of : ℕ → ℕ → Option Input
input_of kind value =
    cond (kind == 0) (Some (Begun value)) (cond (kind == 1) (Some (Failed value)) (cond (kind == 2) (Some Exited)
    (cond (kind == 3) (Some Changed) (cond (kind == 4) (Some Asked) (later_input_of kind value)))))

-- The word of an input that was accepted or not.
abbrev pub noted_word : Bool → ℕ
noted_word accepted = cond accepted 0 9

-- Whether the service's label takes the input, or nothing changes, as the word says.
pub record NotesInput (k : ℕ) (input : Input) (p : Processes) (word : ℕ) (q : Processes) : Type 0 where
  pub noted : is_note input ≡ true
  pub accepted : Bool
  pub taken : TakesAt p.keeper.labels.items k input accepted q.keeper.labels.items
  pub generations : (q.keeper.next ≡ p.keeper.next) × (q.keeper.file ≡ p.keeper.file)
  pub word_is : word ≡ noted_word accepted

-- The effect of a note.
abbrev pub Notes : ℕ → ℕ → ℕ → Option Processes → ℕ → Option Processes → Type 0
Notes k kind value old word new =
    KeepsIfOpen (λ p q. MatchOption (input_of kind value) ((word ≡ 5) × (q ≡ p)) (λ input. NotesInput k input p word q)) (word ≡ 14) old new

-- ---- the file

-- The word of a generation that the file may have or not.
abbrev pub written_word : Bool → ℕ
written_word may = cond may 0 17

-- Whether the file has the generation, or a later one was given, as the word says.
pub record NotesFile (file : ℕ) (p : Processes) (word : ℕ) (q : Processes) : Type 0 where
  pub may : Bool
  pub written : IsWritten p.keeper.next p.keeper.file file may q.keeper.file
  pub next : q.keeper.next ≡ p.keeper.next
  pub labels : q.keeper.labels.items ≡ p.keeper.labels.items
  pub word_is : word ≡ written_word may

-- The effect of a note that the file has a generation.
abbrev pub NotesWritten : ℕ → Option Processes → ℕ → Option Processes → Type 0
NotesWritten file old word new = KeepsIfOpen (λ p q. NotesFile file p word q) (word ≡ 14) old new
