-- The questions of an exchange to the first store: one to its journal, or one for each of its pages.
use Rattle.std.specs.Prelude.{◌≡◌, ◌⊎◌, Bool, true, false, nat_le, List, [], ◌∷◌, ◌++◌, length, Option, Some, None}
use Rattle.std.specs.List.{flat_map}
use Rattle.history.specs.declared.entry.Entry.{Entry}
use Rattle.ds_names.specs.Limits.{most_items}
use Rattle.ds_names.specs.declared.key.Key.{Key}
use Rattle.ds_entry.specs.declared.item.Item.{Item}
use Rattle.ds_feed.specs.declared.cursor.Cursor.{Cursor}
use Rattle.ds_feed.specs.declared.reading.Since as readings
use Rattle.ds_feed.specs.declared.reading.Page.{Page as Leaf}
use Rattle.ds_replica.specs.Paged.{last_key}
use Rattle.ds_machine.specs.declared.command.Command.{Command}
use Rattle.ds_machine.specs.declared.command.Command.TheVariants.{Since, Page}
use Rattle.ds_machine.specs.declared.command.Scope.TheVariants.{All}
use Rattle.ds_machine.specs.declared.reply.Reply.{Reply}
use Rattle.ds_machine.specs.declared.reply.Reply.TheVariants.{Journaled, Paged}

-- ---- questions

-- The question to the journal: at most 256 items from the cursor on, of all keys.
abbrev pub since_asked : Cursor → Command
since_asked from = Since All from most_items

abbrev pub page_asked : Option Key → Command
page_asked after = Page All after most_items

-- Whether the reply is this page, which isn't the last.
pub record IsOpenPage (e : Entry Command Reply) (page : Leaf) : Type 0 where
  pub reply : e.reply ≡ Paged page
  pub more : page.last ≡ false

-- Whether these calls read pages in order. The first page comes after this key, and each other one after the last key of the page before
-- it. No call comes after the last page or after a refusal.
abbrev pub AsksPages : Option Key → List (Entry Command Reply) → Type 0
AsksPages after [] = Unit {0}
AsksPages after (e ∷ es) =
    (e.command ≡ page_asked after) × ((es ≡ []) ⊎ ((page : Leaf) × IsOpenPage e page × AsksPages (last_key after page.items) es))

-- Whether these are the questions of an exchange. With a cursor there is one, to the journal. Without one they are pages from the first
-- key on.
abbrev pub AsksInTurn : Option Cursor → List (Entry Command Reply) → Type 0
AsksInTurn None own = AsksPages None own
AsksInTurn (Some from) [] = Unit {0}
AsksInTurn (Some from) (e ∷ es) = (e.command ≡ since_asked from) × (es ≡ [])

-- ---- replies

-- The items of a reply.
abbrev pub items_told : Reply → List Item
items_told (Journaled since) = since.items
items_told (Paged page) = page.items
items_told _ = []

abbrev pub all_told : List (Entry Command Reply) → List Item
all_told own = flat_map (λ (e : Entry Command Reply). items_told e.reply) own

-- The cursor of a reply.
abbrev pub cursor_told : Reply → Option Cursor
cursor_told (Journaled since) = Some since.cursor
cursor_told (Paged page) = Some page.cursor
cursor_told _ = None

abbrev pub first_told : List (Entry Command Reply) → Option Cursor
first_told [] = None
first_told (e ∷ es) = cursor_told e.reply

-- Whether this is the last reply: the journal's, with `more` if it has 256 items, or else the last page.
abbrev pub TellsLast : Option Cursor → Reply → Bool → Type 0
TellsLast (Some from) reply more = (since : readings.Since) × (reply ≡ Journaled since) × (more ≡ nat_le most_items (length since.items))
TellsLast None reply more = (page : Leaf) × (reply ≡ Paged page) × (page.last ≡ true) × (more ≡ false)

-- Whether these calls have all questions and replies of an exchange. The next exchange begins at the cursor of the first reply.
pub record EndsTelling (from : Option Cursor) (own : List (Entry Command Reply)) (cursor : Cursor) (more : Bool) : Type 0 where
  pub front : List (Entry Command Reply)
  pub last : Entry Command Reply
  pub parts : own ≡ front ++ last ∷ []
  pub tells : TellsLast from last.reply more
  pub cursor_is : first_told own ≡ Some cursor
