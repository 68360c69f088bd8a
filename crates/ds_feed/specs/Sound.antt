-- A journal's fields, as contracts see them.
use Rattle.ds_feed.specs.Kept.{Kept, IsJournal}
use Rattle.ds_feed.specs.declared.journal.Journal.TheInside.{Inside}

abbrev pub kept_of : Inside → Kept
kept_of j = record { items = j.items.items; first = j.first; position = j.position; ring = j.items.capacity; incarnation = j.incarnation }

abbrev pub IsJournalSound : Inside → Type 0
IsJournalSound j = IsJournal (kept_of j)
