-- The text of the last answer, as a script prints it, and the part of it that is copied to a buffer.
use Rattle.std.specs.Prelude.{◌≡◌, ◌≢◌, ◌⊎◌, ℕ, ◌<◌, ◌≤◌, List, [], ◌++◌, length, take, drop, codes}
use Rattle.std.specs.List.{flat_map}
use Rattle.std.specs.Fmt.{decimal}
use Rattle.ds_entry.specs.declared.item.Item.{Item}
use Rattle.ds_held.specs.Limits.{larger}
use Rattle.ds_line.specs.ItemSpelling.{item_spelling}
use Rattle.line_io.specs.Lines.{with_newline}
use Rattle.script_answers.specs.Reply.{reply_lines}
use Rattle.c_values.specs.declared.giving.Given.{Given}
use Rattle.c_store.specs.declared.last.Last.{Last}
use Rattle.c_store.specs.declared.last.Last.TheVariants.{Nothing, Reply, Shown}

-- The lines of the items, then a line with `shown` and their number.
abbrev pub shown_text : List Item → List ℕ
shown_text items = flat_map item_spelling items ++ with_newline (codes "shown " ++ decimal (length items))

-- The text of an answer. One that is neither a reply nor a show has none.
abbrev pub given_text : Last → List ℕ
given_text Nothing = []
given_text (Reply reply wording) = reply_lines wording reply larger
given_text (Shown items) = shown_text items

-- Whether the text after its first bytes was copied to the front of the buffer, as much of it as fits. The rest of the buffer is
-- unchanged. The count is the length of the whole text, and `stop` says whether the text ended.
pub record GivesPart (text : List ℕ) (first : ℕ) (old : List ℕ) (given : Given) (new : List ℕ) : Type 0 where
  pub count : given.count ≡ length text
  pub room : new ≡ take given.length (drop first text) ++ drop given.length old
  pub within : (given.length ≤ length (drop first text)) × (given.length ≤ length old)
  pub stop : ((given.stop ≡ 0) × (given.length ≡ length (drop first text)))
      ⊎ ((given.stop ≡ 1) × (given.length ≡ length old) × (length old < length (drop first text)))

-- Whether memory ran out for the text, and nothing is copied.
pub record WantsText (old : List ℕ) (given : Given) (new : List ℕ) : Type 0 where
  pub given_is : given ≡ record { count = 0; length = 0; stop = 20 }
  pub room : new ≡ old

-- Whether a part of the text was copied, or memory ran out for it. An answer without a text takes no memory.
abbrev pub GivesText : List ℕ → ℕ → List ℕ → Given → List ℕ → Type 0
GivesText text first old given new = GivesPart text first old given new ⊎ ((text ≢ []) × WantsText old given new)
