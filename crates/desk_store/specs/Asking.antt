-- Pages in order, as an exchange reads them.
use Rattle.std.specs.Prelude.{◌≡◌, ℕ, ◌*◌, ◌^◌, ◌≤◌, List, [], ◌∷◌, length, Option, None}
use Rattle.history.specs.declared.entry.Entry.{Entry}
use Rattle.ds_names.specs.declared.key.Key.{Key}
use Rattle.ds_feed.specs.declared.cursor.Cursor.{Cursor}
use Rattle.ds_feed.specs.declared.reading.Page.{Page as Leaf}
use Rattle.ds_replica.specs.Paged.{last_key}
use Rattle.ds_machine.specs.declared.command.Command.{Command}
use Rattle.ds_machine.specs.declared.reply.Reply.{Reply}
use Rattle.desk_store.specs.Called.{Made}
use Rattle.desk_store.specs.Record.{PassRecord}
use Rattle.desk_store.specs.Giving.{GivesAll}
use Rattle.desk_store.specs.Telling.{IsOpenPage, all_told, first_told, page_asked}

-- Whether these calls read pages in order, none of which is the last. The first page comes after this key, and each other one after the
-- last key of the page before it. The next page comes after `next`.
abbrev pub AsksOpenPages : Option Key → List (Entry Command Reply) → Option Key → Type 0
AsksOpenPages after [] next = next ≡ after
AsksOpenPages after (e ∷ es) next =
    (e.command ≡ page_asked after) × ((page : Leaf) × IsOpenPage e page × AsksOpenPages (last_key after page.items) es next)

-- Whether the pages so far were read, merged and counted.
pub record GoesByPages (p q r s : PassRecord) (after : Option Key) (first : Option Cursor) (done taken : ℕ) : Type 0 where
  pub own : List (Entry Command Reply)
  pub made : Made p q own
  pub asks : AsksOpenPages None own after
  pub gives : GivesAll r s (all_told own) taken
  pub done_is : done ≡ length (all_told own)
  pub bound : done ≤ 2 ^ 64 * length own
  pub first_is : first ≡ first_told own
