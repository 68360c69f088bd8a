-- The first line of an entry.
use Rattle.std.specs.Prelude.{◌≡◌, ◌≢◌, ℕ, ◌≤◌, List, None}
use Rattle.ds_names.specs.Limits.{most_items}
use Rattle.script_commands.specs.Command.{IsCommand, store_command}
use Rattle.trace_walk.specs.declared.asked.Head.{Head}
use Rattle.trace_walk.specs.declared.asked.Head.TheVariants.{Line, Merge}
use Rattle.trace_walk.specs.declared.header.Format.{Format}
use Rattle.trace_walk.specs.Text.{CarriesLine, line_text, merge_text, pass_text}

-- Whether the first line may begin an entry; its length isn't judged.
abbrev pub MayHead : Format → Head → Type 0
MayHead format (Line command) = IsCommand command × (store_command command ≢ None) × CarriesLine format command
MayHead format (Merge count) = count ≤ most_items

-- The text of the first line.
abbrev pub head_text : ℕ → Head → List ℕ
head_text pass (Line command) = line_text pass command
head_text pass (Merge count) = pass_text pass (merge_text count)

abbrev pub IsHeadOf : Format → ℕ → Head → List ℕ → Type 0
IsHeadOf format pass head line = (pass ≤ 63) × MayHead format head × (line ≡ head_text pass head)

-- Whether the line isn't the first line of an entry.
abbrev pub HasNoHead : Format → List ℕ → Type 0
HasNoHead format line = (pass : ℕ) (head : Head) → ¬ IsHeadOf format pass head line
