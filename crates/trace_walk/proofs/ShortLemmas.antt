-- The lines of items and of replies are short, and each has its newline.
use Rattle.std.proofs.Common.{◌≡◌, ℕ, ◌+◌, ◌*◌, ◌<◌, ◌≤◌, ◌==◌, ◌||◌, Bool, true, false, if◌then◌else◌, List, [], ◌∷◌, ◌++◌, length, drop}
use Rattle.std.proofs.Common.{codes, Some, refl, sym, ap, subst, ◌∙◌, arith, append_assoc, append-nil, length-append, inl, inr}
use Rattle.std.specs.List.{flat_map}
use Rattle.std.specs.Fmt.{decimal}
use Rattle.std.specs.Int.{bytes_high_first}
use Rattle.std.proofs.lemmas.Fmt.{length-decimal-le}
use Rattle.ds_names.specs.declared.kind.Kind.{Kind}
use Rattle.ds_names.specs.declared.kind.Kind.TheVariants.{Label, U32, Str, Mem}
use Rattle.ds_entry.specs.Change.{IsBody, IsValue}
use Rattle.ds_entry.specs.Item.{IsItem}
use Rattle.ds_entry.specs.declared.body.Value.{Value}
use Rattle.ds_entry.specs.declared.body.Value.TheVariants as values
use Rattle.ds_entry.specs.declared.body.Body.{Body}
use Rattle.ds_entry.specs.declared.body.Body.TheVariants.{Put, Gone}
use Rattle.ds_entry.specs.declared.item.Item.{Item}
use Rattle.ds_entry.specs.declared.item.Item.TheVariants.{Change as Changed, Floor as Floored}
use Rattle.ds_entry.proofs.Members.{Contains-head, Contains-tail}
use Rattle.ds_feed.specs.declared.cursor.Cursor.{Cursor}
use Rattle.ds_held.specs.Limits.{LimitsRecord, IsLimits}
use Rattle.ds_line.specs.ItemSpelling.{item_spelling}
use Rattle.line_io.specs.Lines.{EndsLine, IsUnbroken}
use Rattle.ds_line.specs.Part.{texts}
use Rattle.ds_line.specs.Spelling.{body_parts, escaped, escaped_byte, kind_word, value_part}
use Rattle.ds_line.proofs.ItemLemmas.{item_ends}
use Rattle.ds_line.proofs.SixteenLemmas.{encode_length}
use Rattle.ds_machine.specs.Owed.{owed_by}
use Rattle.ds_machine.specs.State.{State}
use Rattle.ds_machine.specs.declared.command.Command.{Command}
use Rattle.ds_machine.specs.declared.refusal.Refusal.{Refusal}
use Rattle.ds_machine.specs.declared.refusal.Refusal.TheVariants as refusals
use Rattle.ds_machine.specs.declared.reply.Reply.{Reply}
use Rattle.ds_machine.specs.declared.reply.Reply.TheVariants.{Changed as Accepted, Known, Swept, Found, Named, Subscribed, Checked}
use Rattle.ds_machine.specs.declared.reply.Reply.TheVariants.{Journaled, Snapped, Paged, Merged, MergeStopped, Refused}
use Rattle.ds_replica.specs.CaughtUp.{AreItems}
use Rattle.script_answers.specs.Reply.{reply_lines, reply_words, owed_line, refusal_words, cursor_text, merged, mask_hex, page_mark}
use Rattle.ds_machine.specs.Given.{shown_by}
use Rattle.script_answers.specs.declared.wording.Wording.{Wording}
use Rattle.script_answers.specs.declared.wording.Wording.TheVariants.{AsOffer, AsMerge}
use Rattle.trace_walk.specs.declared.asked.Asked.{Asked}
use Rattle.trace_walk.specs.declared.header.Header.{Header}
use Rattle.trace_walk.specs.Legal.{StepOf}
use Rattle.trace_walk.specs.OneReply.{IsTraced}
use Rattle.trace_walk.specs.Text.{IsHeader, MayAsk, command_asked, plus_text, worded_as}
use Rattle.trace_walk.specs.Walk.{MayReply}
use Rattle.trace_walk.proofs.WalkLemmas.{limits_are}
use Rattle.trace_walk.proofs.OneReplyLemmas.{asked_small, reply_spelt}
use Rattle.trace_walk.specs.Walking.{IsShort, IsEnded}
use Rattle.trace_walk.proofs.FewLemmas.{IsFew, IsFewFault, IsFewCursor, IsFewReply, few_reply}
use Rattle.trace_walk.proofs.WalkingLemmas.{front_within, unbroken_has_none}

-- ---- items

few_digits : (n : ℕ) → IsFew n → length (decimal n) ≤ 20
few_digits n few = length-decimal-le 20 n (omega arith) (omega (arith, few)) few

byte_few : (b : ℕ) → length (escaped_byte b) ≤ 2
byte_few b = by_test (b == 34 || b == 92)
  where
    by_test : (t : Bool) → length (if t then 92 ∷ b ∷ [] else b ∷ []) ≤ 2
    by_test true = omega arith
    by_test false = omega arith

escaped_few : (text : List ℕ) → length (escaped text) ≤ 2 * length text
escaped_few [] = omega arith
escaped_few (b ∷ text) = omega (arith, byte_few b, escaped_few text, length-append (escaped_byte b) (escaped text))

value_few : (v : Value) → IsValue v → length (value_part v).text ≤ 2060
value_few (values.Label e) is =
    omega (
      arith,
      few_digits e.generation (omega (arith, is.generation)),
      few_digits e.slot (omega (arith, is.slot)),
      length-append
          (decimal e.generation) (47 ∷ decimal e.slot),
    )
value_few (values.U32 n) is = omega (arith, few_digits n (omega (arith, is)))
value_few (values.Str t) is = omega (arith, escaped_few t, is.limit, length-append (escaped t) (34 ∷ []))
value_few (values.Mem b) is = omega (arith, encode_length b, is.limit)

body_few : (b : Body) → IsBody b → length (texts (body_parts b)) ≤ 2070
body_few Gone is = omega arith
body_few (Put v) is = omega (arith, value_few v is, length-append (value_part v).text (10 ∷ []))

kind_few : (k : Kind) → length (kind_word k) ≤ 5
kind_few Label = omega arith
kind_few U32 = omega arith
kind_few Str = omega arith
kind_few Mem = omega arith

item_few : (i : Item) → IsItem i → length (item_spelling i) ≤ 4000
item_few (Floored f) is =
    omega (
      arith,
      is.owner.limit,
      few_digits f.generation (omega (arith, is.generation)),
      length-append f.owner
          (32 ∷ (decimal f.generation ++ 10 ∷ [])),
      length-append (decimal f.generation) (10 ∷ []),
    )
item_few (Changed c) is =
    let body : List ℕ = texts (body_parts c.body) in
    let version : List ℕ = decimal c.version.epoch ++ 46 ∷ (decimal c.version.seq ++ 32 ∷ body) in
    let owner : List ℕ = c.owner ++ 32 ∷ version in
    let kind : List ℕ = kind_word c.key.kind ++ 32 ∷ owner in
    omega (
      arith,
      is.name.limit,
      is.owner.limit,
      kind_few c.key.kind,
      few_digits c.version.epoch (omega (arith, is.epoch)),
      few_digits c.version.seq (omega (arith, is.seq)),
      body_few c.body is.body,
      length-append c.key.name (32 ∷ kind),
      length-append (kind_word c.key.kind) (32 ∷ owner),
      length-append c.owner (32 ∷ version),
      length-append (decimal c.version.epoch) (46 ∷ (decimal c.version.seq ++ 32 ∷ body)),
      length-append (decimal c.version.seq) (32 ∷ body),
    )

pub plus_short : (i : Item) → IsItem i → IsShort (plus_text i)
plus_short i is = omega (arith, item_few i is)

-- ---- the words of a reply

fault_few : (f : Refusal) → IsFewFault f → length (refusal_words f) ≤ 60
fault_few (refusals.Clash v) is =
    omega (arith, few_digits v.epoch is.0, few_digits v.seq is.1, length-append (decimal v.epoch) (46 ∷ decimal v.seq))
fault_few _ is = omega arith

cursor_few : (c : Cursor) → IsFewCursor c → length (cursor_text c) ≤ 41
cursor_few c is =
    omega
    (arith, few_digits c.incarnation is.0, few_digits c.position is.1, length-append (decimal c.incarnation) (32 ∷ decimal c.position))

mark_few : (b : Bool) → length (page_mark b) ≤ 6
mark_few true = omega arith
mark_few false = omega arith

merged_few : (said : Wording) (done taken stale : ℕ) → IsFew done → IsFew taken → IsFew stale → length (merged said done taken stale) ≤ 100
merged_few AsMerge done taken stale a b c =
    omega (
      arith,
      few_digits done a,
      few_digits taken b,
      few_digits stale c,
      length-append (decimal done)
          (32 ∷ (decimal taken ++ 32 ∷ decimal stale)),
      length-append (decimal taken) (32 ∷ decimal stale),
    )
merged_few AsOffer done taken stale a b c = by_tests (taken == 0) (stale == 0)
  where
    by_tests : (p q : Bool) → length (if p then (if q then codes "known" else codes "stale") else codes "taken") ≤ 100
    by_tests true true = omega arith
    by_tests true false = omega arith
    by_tests false q = omega arith

words_few : (said : Wording) (r : Reply) → IsFewReply r → length (reply_words said r) ≤ 4000
words_few said (Accepted owed) is = omega arith
words_few said Known is = omega arith
words_few said (Swept count owed) is = omega (arith, few_digits count is)
words_few said (Found value) is = omega (arith, value_few value is)
words_few said (Named name) is = omega (arith, is)
words_few said (Subscribed stamp owed) is = omega (arith, few_digits stamp is)
words_few said (Checked items before after) is =
    omega (
      arith,
      few_digits (length items) is.0,
      few_digits before is.1,
      few_digits after is.2,
      length-append (decimal (length items))
          (32 ∷ (decimal before ++ 32 ∷ decimal after)),
      length-append (decimal before) (32 ∷ decimal after),
    )
words_few said (Journaled since) is = omega (
  arith,
  few_digits (length since.items) is.0,
  cursor_few since.cursor is.1,
  length-append (decimal (length since.items))
      (32 ∷ cursor_text since.cursor),
)
words_few said (Snapped snapshot) is = omega (
  arith,
  few_digits (length snapshot.items) is.0,
  cursor_few snapshot.cursor is.1,
  length-append (decimal (length snapshot.items))
      (32 ∷ cursor_text snapshot.cursor),
)
words_few said (Paged page) is =
    omega (
      arith,
      few_digits (length page.items) is.0,
      cursor_few page.cursor is.1,
      mark_few page.last,
      length-append (decimal (length page.items)) (page_mark page.last ++ cursor_text page.cursor),
      length-append (page_mark page.last) (cursor_text page.cursor),
    )
words_few said (Merged done taken stale owed) is = omega (arith, merged_few said done taken stale is.0 is.1 is.2)
words_few AsMerge (MergeStopped done fault owed) is =
    omega (arith, few_digits done is.0, fault_few fault is.1, length-append (decimal done) (32 ∷ refusal_words fault))
words_few AsOffer (MergeStopped done fault owed) is = omega (arith, fault_few fault is.1)
words_few said (Refused fault) is = omega (arith, fault_few fault is)

-- ---- what is owed

mask_few : (l : LimitsRecord) (mask : ℕ) → IsLimits l → length (mask_hex l mask) ≤ 40
mask_few l mask (inl e) = subst (λ (x : LimitsRecord). length (mask_hex x mask) ≤ 40) (sym e)
    (omega (arith, encode_length (bytes_high_first 8 mask)))
mask_few l mask (inr e) = subst (λ (x : LimitsRecord). length (mask_hex x mask) ≤ 40) (sym e)
    (omega (arith, encode_length (bytes_high_first 16 mask)))

-- ---- lines within a text

-- each line of the text is short
abbrev pub AreShort : List ℕ → Type 0
AreShort text = (before next left : List ℕ) → text ≡ before ++ (next ++ left) → EndsLine next → length next ≤ 4095

none_short : AreShort []
none_short before next left e ends = absurd
    (omega (
      arith,
      ap length e,
      length-append before (next ++ left),
      length-append next left,
      ap length ends.parts,
      length-append ends.front
          (10 ∷ []),
    ))

begins_within : (x tail next left : List ℕ) → x ++ 10 ∷ tail ≡ next ++ left → EndsLine next → length next ≤ length x + 1
begins_within x tail next left e ends =
    let one : ends.front ++ 10 ∷ left ≡ x ++ 10 ∷ tail =
    sym (e ∙ ap (λ (l : List ℕ). l ++ left) ends.parts ∙ append_assoc ends.front (10 ∷ []) left) in
    let f = front_within ends.front x (10 ∷ left) tail ends.none one in
    omega (arith, f, ap length ends.parts, length-append ends.front (10 ∷ []))

chunk_short : (x tail : List ℕ) → length x ≤ 4094 → AreShort tail → AreShort (x ++ 10 ∷ tail)
chunk_short x tail few all [] next left e ends = omega (arith, few, begins_within x tail next left e ends)
chunk_short [] tail few all (b ∷ before) next left e ends = all before next left (ap (drop 1) e) ends
chunk_short (y ∷ x) tail few all (b ∷ before) next left e ends =
    chunk_short x tail (omega (arith, few)) all before next left (ap (drop 1) e) ends

items_short : (items : List Item) (tail : List ℕ) → AreItems items → AreShort tail → AreShort (flat_map item_spelling items ++ tail)
items_short [] tail are all = all
items_short (i ∷ items) tail are all =
    let ends : EndsLine (item_spelling i) = item_ends i (are i (Contains-head i items)) in
    let few = item_few i (are i (Contains-head i items)) in
    let rest : List ℕ = flat_map item_spelling items ++ tail in
    let more : AreShort rest = items_short items tail (λ j m. are j (Contains-tail i items j m)) all in
    let text : flat_map item_spelling (i ∷ items) ++ tail ≡ ends.front ++ 10 ∷ rest =
    append_assoc (item_spelling i) (flat_map item_spelling items) tail ∙ ap (λ (l : List ℕ). l ++ rest) ends.parts ∙
    append_assoc ends.front (10 ∷ []) rest in
    subst AreShort (sym text) (chunk_short ends.front rest (omega (arith, few, ap length ends.parts, length-append ends.front (10 ∷ [])))
    more)

owed_short : (l : LimitsRecord) (mask : ℕ) → IsLimits l → AreShort (owed_line l mask)
owed_short l mask is = by_test (mask == 0)
  where
    by_test : (b : Bool) → AreShort (if b then [] else (codes "owed " ++ mask_hex l mask) ++ 10 ∷ [])
    by_test true = none_short
    by_test false = chunk_short (codes "owed " ++ mask_hex l mask) [] (omega (arith, mask_few l mask is)) none_short

text_short : (said : Wording) (r : Reply) (l : LimitsRecord) → AreItems (shown_by r) → IsFewReply r → IsLimits l →
    AreShort (reply_lines said r l)
text_short said r l items few is =
    let owed : List ℕ = owed_line l (owed_by r) in
    let words : List ℕ = reply_words said r in
    items_short (shown_by r) ((words ++ 10 ∷ []) ++ owed) items
    (subst AreShort (sym (append_assoc words (10 ∷ []) owed))
    (chunk_short words owed (omega (arith, words_few said r few)) (owed_short l (owed_by r) is)))

-- ---- the replies of steps

pub reply_short : (h : Header) (pass : ℕ) (s t : State) (asked : Asked) (command : Command) (reply : Reply)
    → IsHeader h → IsTraced h.format s → MayAsk h.format pass asked → command_asked asked ≡ Some command
    → StepOf h.format s command reply t →
    (given next left : List ℕ) → reply_lines (worded_as asked) reply h.limits ≡ given ++ (next ++ left) → EndsLine next → length next ≤ 4095
reply_short h pass s t asked command reply is traced may asks step =
    text_short (worded_as asked) reply h.limits
    (reply_spelt h.format s t command reply traced (asked_small h.format pass asked command may asks) step).items
    (few_reply h.format pass s t asked command reply traced may asks step) (limits_are h.format h.limits is.limits)

pub may_short : (h : Header) (pass : ℕ) (s : State) (asked : Asked) (line : List ℕ) → IsHeader h → IsTraced h.format s →
    MayAsk h.format pass asked → MayReply h.format h.limits s asked line → IsShort line
may_short h pass s asked line is traced may m =
    let few = reply_short h pass s m.new asked m.command m.reply is traced may m.asks m.step [] m.first m.rest m.text m.ends in
    omega (arith, few, ap length m.line_is)

-- ---- newlines

last_ends : (x before last : List ℕ) → x ++ 10 ∷ [] ≡ before ++ last → IsUnbroken last → last ≡ []
last_ends x [] last e whole = absurd (unbroken_has_none x [] (subst IsUnbroken (sym e) whole))
last_ends [] (b ∷ before) last e whole = none_left before last (ap (drop 1) e)
  where
    nil_of : (l : List ℕ) → length l ≤ 0 → l ≡ []
    nil_of [] few = refl
    nil_of (c ∷ l) few = absurd (omega (arith, few))

    none_left : (before last : List ℕ) → [] ≡ before ++ last → last ≡ []
    none_left before last q = nil_of last (omega (arith, ap length q, length-append before last))
last_ends (y ∷ x) (b ∷ before) last e whole = last_ends x before last (ap (drop 1) e) whole

module _ (said : Wording) (reply : Reply) (limits : LimitsRecord) where
  abbrev items : List ℕ
  items = flat_map item_spelling (shown_by reply)

  abbrev words : List ℕ
  words = reply_words said reply

  abbrev mask : List ℕ
  mask = codes "owed " ++ mask_hex limits (owed_by reply)

  ended_by : (b : Bool) → IsEnded (items ++ ((words ++ 10 ∷ []) ++ (if b then [] else mask ++ 10 ∷ [])))
  ended_by true before last e whole = last_ends (items ++ words) before last
      (append_assoc items words (10 ∷ []) ∙ ap (λ (l : List ℕ). items ++ l) (sym (append-nil (words ++ 10 ∷ []))) ∙ e) whole
  ended_by false before last e whole =
      last_ends (items ++ ((words ++ 10 ∷ []) ++ mask)) before last
      (append_assoc items ((words ++ 10 ∷ []) ++ mask) (10 ∷ []) ∙
      ap (λ (l : List ℕ). items ++ l) (append_assoc (words ++ 10 ∷ []) mask (10 ∷ [])) ∙ e) whole

  pub reply_ended : IsEnded (reply_lines said reply limits)
  reply_ended = ended_by (owed_by reply == 0)

pub reply_some : (said : Wording) (reply : Reply) (limits : LimitsRecord) → 0 < length (reply_lines said reply limits)
reply_some said reply limits =
    let items : List ℕ = flat_map item_spelling (shown_by reply) in
    let words : List ℕ = reply_words said reply in
    let owed : List ℕ = owed_line limits (owed_by reply) in
    omega (arith, length-append items ((words ++ 10 ∷ []) ++ owed), length-append (words ++ 10 ∷ []) owed, length-append words (10 ∷ []))
