-- The lines of a store's reply.
use Rattle.std.specs.Prelude.{ℕ, ◌/◌, ◌==◌, if◌then◌else◌, Bool, true, false, List, [], ◌∷◌, ◌++◌, length, codes}
use Rattle.std.specs.List.{flat_map}
use Rattle.std.specs.Fmt.{decimal}
use Rattle.std.specs.Int.{bytes_high_first}
use Rattle.hex.specs.Hex.{encode_lower}
use Rattle.ds_names.specs.declared.version.Version.{Version}
use Rattle.ds_line.specs.Spelling.{value_part}
use Rattle.ds_line.specs.ItemSpelling.{item_spelling}
use Rattle.ds_feed.specs.declared.cursor.Cursor.{Cursor}
use Rattle.ds_feed.specs.declared.reading.Since.{Since}
use Rattle.ds_feed.specs.declared.reading.Snapshot.{Snapshot}
use Rattle.ds_feed.specs.declared.reading.Page.{Page}
use Rattle.ds_held.specs.Limits.{LimitsRecord}
use Rattle.ds_machine.specs.declared.refusal.Refusal.{Refusal}
use Rattle.ds_machine.specs.declared.refusal.Refusal.TheVariants as refusals
use Rattle.ds_machine.specs.declared.reply.Reply.{Reply}
use Rattle.ds_machine.specs.declared.reply.Reply.TheVariants.{Changed, Known, Swept, Found, Named, Subscribed, Checked}
use Rattle.ds_machine.specs.declared.reply.Reply.TheVariants.{Journaled, Snapped, Paged, Merged, MergeStopped, Refused}
use Rattle.ds_machine.specs.Given.{shown_by}
use Rattle.ds_machine.specs.Owed.{owed_by}
use Rattle.script_answers.specs.declared.wording.Wording.{Wording}
use Rattle.script_answers.specs.declared.wording.Wording.TheVariants.{AsOffer, AsMerge}
use Rattle.line_io.specs.Lines.{with_newline}

-- The word of a refusal: its name in lower case.
abbrev pub refusal_word : Refusal → List ℕ
refusal_word refusals.BadSub = codes "badsub"
refusal_word refusals.TooMany = codes "toomany"
refusal_word refusals.TooLong = codes "toolong"
refusal_word refusals.BadPattern = codes "badpattern"
refusal_word refusals.BadKind = codes "badkind"
refusal_word refusals.BadLabel = codes "badlabel"
refusal_word refusals.BadVersion = codes "badversion"
refusal_word refusals.NoCaller = codes "nocaller"
refusal_word refusals.NotAllowed = codes "notallowed"
refusal_word refusals.NotOwner = codes "notowner"
refusal_word (refusals.Clash version) = codes "clash"
refusal_word refusals.Stale = codes "stale"
refusal_word refusals.Exists = codes "exists"
refusal_word refusals.NotFound = codes "notfound"
refusal_word refusals.OldCursor = codes "oldcursor"
refusal_word refusals.Ahead = codes "ahead"
refusal_word refusals.Behind = codes "behind"
refusal_word refusals.Full = codes "full"
refusal_word refusals.Worn = codes "worn"
refusal_word refusals.NoRoom = codes "noroom"
refusal_word refusals.BadRing = codes "badring"
refusal_word refusals.BadFirst = codes "badfirst"

-- A space and `EPOCH.SEQ`.
abbrev pub clashing : Version → List ℕ
clashing version = 32 ∷ (decimal version.epoch ++ 46 ∷ decimal version.seq)

-- What follows the word: a clash has the version of both changes.
abbrev pub refusal_rest : Refusal → List ℕ
refusal_rest (refusals.Clash version) = clashing version
refusal_rest _ = []

-- The word, and what follows it.
abbrev pub refusal_words : Refusal → List ℕ
refusal_words refusal = refusal_word refusal ++ refusal_rest refusal

-- The text of a refusal: `refused`, and the words of its cause.
abbrev pub refused : Refusal → List ℕ
refused refusal = codes "refused " ++ refusal_words refusal

-- The outcome of a Merge, by the numbers of items done, taken and stale.
abbrev pub merged : Wording → ℕ → ℕ → ℕ → List ℕ
merged AsOffer done taken stale = if taken == 0 then (if stale == 0 then codes "known" else codes "stale") else codes "taken"
merged AsMerge done taken stale = codes "merged " ++ (decimal done ++ 32 ∷ (decimal taken ++ 32 ∷ decimal stale))

-- The stop of a Merge after `done` items.
abbrev pub stopped : Wording → ℕ → Refusal → List ℕ
stopped AsOffer done fault = refused fault
stopped AsMerge done fault = codes "stopped " ++ (decimal done ++ 32 ∷ refusal_words fault)

-- The count of items shown, and the stamps before and after.
abbrev pub checked_text : ℕ → ℕ → ℕ → List ℕ
checked_text count before after = codes "checked " ++ (decimal count ++ 32 ∷ (decimal before ++ 32 ∷ decimal after))

-- The incarnation and the position of a cursor.
abbrev pub cursor_text : Cursor → List ℕ
cursor_text cursor = decimal cursor.incarnation ++ 32 ∷ decimal cursor.position

-- The count of items, and the cursor after what was looked at.
abbrev pub since_text : Since → List ℕ
since_text since = codes "since " ++ (decimal (length since.items) ++ 32 ∷ cursor_text since.cursor)

-- The count of items, and the cursor from which the journal continues.
abbrev pub snapped : Snapshot → List ℕ
snapped snapshot = codes "snapshot " ++ (decimal (length snapshot.items) ++ 32 ∷ cursor_text snapshot.cursor)

-- The word for whether a page is the last one.
abbrev pub page_mark : Bool → List ℕ
page_mark true = codes " last "
page_mark false = codes " more "

-- The count of items, whether the page is the last one, and its cursor.
abbrev pub page_text : Page → List ℕ
page_text page = codes "page " ++ (decimal (length page.items) ++ (page_mark page.last ++ cursor_text page.cursor))

-- The words of a reply.
abbrev pub reply_words : Wording → Reply → List ℕ
reply_words wording (Changed owed) = codes "taken"
reply_words wording Known = codes "known"
reply_words wording (Swept count owed) = codes "swept " ++ decimal count
reply_words wording (Found value) = codes "found " ++ (value_part value).text
reply_words wording (Named name) = codes "named " ++ name
reply_words wording (Subscribed stamp owed) = codes "subscribed " ++ decimal stamp
reply_words wording (Checked items before after) = checked_text (length items) before after
reply_words wording (Journaled since) = since_text since
reply_words wording (Snapped snapshot) = snapped snapshot
reply_words wording (Paged page) = page_text page
reply_words wording (Merged done taken stale owed) = merged wording done taken stale
reply_words wording (MergeStopped done fault owed) = stopped wording done fault
reply_words wording (Refused fault) = refused fault

-- The bytes of a mask, one for each eight subscriptions, the most significant first, in lower-case hex.
abbrev pub mask_hex : LimitsRecord → ℕ → List ℕ
mask_hex limits mask = encode_lower (bytes_high_first (limits.subs / 8) mask)

-- The line of what is owed; none if nothing is.
abbrev pub owed_line : LimitsRecord → ℕ → List ℕ
owed_line limits mask = if mask == 0 then [] else with_newline (codes "owed " ++ mask_hex limits mask)

-- The lines of a reply: those of its items, its words, and what is owed.
abbrev pub reply_lines : Wording → Reply → LimitsRecord → List ℕ
reply_lines wording reply limits =
    flat_map item_spelling (shown_by reply) ++ (with_newline (reply_words wording reply) ++ owed_line limits (owed_by reply))

-- The answer if memory runs out.
abbrev pub refused_noroom : List ℕ
refused_noroom = with_newline (codes "refused noroom")
