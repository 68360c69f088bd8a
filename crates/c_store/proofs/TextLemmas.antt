-- Each reply and each show has a text.
use Rattle.std.proofs.Common.{◌≢◌, ℕ, List, [], ◌∷◌, ◌++◌, length, refl}
use Rattle.std.specs.Fmt.{decimal}
use Rattle.std.specs.List.{flat_map}
use Rattle.std.specs.Prelude.{codes}
use Rattle.ds_entry.specs.declared.item.Item.{Item}
use Rattle.ds_held.specs.Limits.{LimitsRecord}
use Rattle.ds_line.specs.ItemSpelling.{item_spelling}
use Rattle.ds_machine.specs.Given.{shown_by}
use Rattle.ds_machine.specs.Owed.{owed_by}
use Rattle.ds_machine.specs.declared.reply.Reply.{Reply}
use Rattle.line_io.specs.Lines.{with_newline}
use Rattle.script_answers.specs.Reply.{reply_words, reply_lines, owed_line}
use Rattle.script_answers.specs.declared.wording.Wording.{Wording}
use Rattle.c_store.specs.Text.{shown_text}

pub some_byte : (b : ℕ) (bytes : List ℕ) → b ∷ bytes ≢ []
some_byte b bytes = λ none. cc

before_any : (text rest : List ℕ) → text ≢ [] → text ++ rest ≢ []
before_any [] rest some = absurd (some refl)
before_any (b ∷ text) rest some = some_byte b (text ++ rest)

pub after_any : (front text : List ℕ) → text ≢ [] → front ++ text ≢ []
after_any [] text some = some
after_any (b ∷ front) text some = some_byte b (front ++ text)

line_has_bytes : (line : List ℕ) → with_newline line ≢ []
line_has_bytes line = after_any line (10 ∷ []) (some_byte 10 [])

pub reply_has_lines : (wording : Wording) (reply : Reply) (limits : LimitsRecord) → reply_lines wording reply limits ≢ []
reply_has_lines wording reply limits =
    let words = reply_words wording reply in
    let owed = owed_line limits (owed_by reply) in
    after_any (flat_map item_spelling (shown_by reply)) (with_newline words ++ owed)
    (before_any (with_newline words) owed (line_has_bytes words))

pub show_has_lines : (items : List Item) → shown_text items ≢ []
show_has_lines items =
    let count = codes "shown " ++ decimal (length items) in
    after_any (flat_map item_spelling items) (with_newline count) (line_has_bytes count)
