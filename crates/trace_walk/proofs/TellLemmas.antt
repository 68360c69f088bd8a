-- The first line of a reply determines whether memory ran out.
use Rattle.std.proofs.Common.{◌≡◌, ◌≢◌, ℕ, ◌<◌, ◌≤◌, ◌^◌, ◌==◌, if◌then◌else◌, Bool, true, false, cond, nat_lt, List, [], ◌∷◌, ◌++◌, length}
use Rattle.std.proofs.Common.{get_or, drop, codes, Option, None, Some, is_some, refl, sym, ap, subst, ◌∙◌, arith, append_assoc}
use Rattle.std.specs.List.{All, list_all, flat_map}
use Rattle.std.specs.Char.{is_ascii_digit}
use Rattle.std.specs.Option.{option_map_or}
use Rattle.std.specs.Fmt.{decimal}
use Rattle.std.proofs.lemmas.Bool.{false≢true, and_parts}
use Rattle.std.proofs.lemmas.Bool.Decides.{nat_tests}
use Rattle.std.proofs.lemmas.Fmt.{decimal_nonempty, digits_decimal}
use Rattle.ds_names.specs.Name.{IsName, is_name_byte}
use Rattle.ds_names.specs.declared.kind.Kind.{Kind}
use Rattle.ds_names.specs.declared.kind.Kind.TheVariants as kinds
use Rattle.ds_names.proofs.DecimalLemmas.{own}
use Rattle.ds_entry.specs.Change.{ChangeRecord}
use Rattle.ds_entry.specs.Item.{IsItem}
use Rattle.ds_entry.specs.declared.item.Item.{Item}
use Rattle.ds_entry.specs.declared.item.Item.TheVariants.{Change as Changed, Floor as Floored}
use Rattle.ds_entry.proofs.Members.{Contains-head}
use Rattle.ds_held.specs.Limits.{LimitsRecord}
use Rattle.line_io.specs.Lines.{EndsLine, with_newline}
use Rattle.ds_line.proofs.NewlineLemmas.{unbroken_decimal}
use Rattle.ds_line.specs.Part.{texts}
use Rattle.ds_line.specs.Spelling.{kind_word, change_parts}
use Rattle.ds_line.specs.ItemSpelling.{item_spelling}
use Rattle.ds_machine.specs.Owed.{owed_by}
use Rattle.ds_machine.specs.declared.refusal.Refusal.{Refusal}
use Rattle.ds_machine.specs.declared.refusal.Refusal.TheVariants as refusals
use Rattle.ds_machine.specs.declared.reply.Reply.{Reply}
use Rattle.ds_machine.specs.declared.reply.Reply.TheVariants.{Changed as Accepted, Known, Swept, Found, Named, Subscribed, Checked}
use Rattle.ds_machine.specs.declared.reply.Reply.TheVariants.{Journaled, Snapped, Paged, Merged, MergeStopped, Refused}
use Rattle.ds_replica.specs.CaughtUp.{AreItems}
use Rattle.script_answers.specs.Reply.{refused, stopped, merged, refusal_words, reply_words, owed_line, reply_lines}
use Rattle.ds_machine.specs.Given.{shown_by, done_by}
use Rattle.script_answers.specs.declared.wording.Wording.{Wording}
use Rattle.script_answers.specs.declared.wording.Wording.TheVariants.{AsOffer, AsMerge}
use Rattle.ds_machine.specs.OneStep.{is_noroom, room_wanted}
use Rattle.trace_walk.specs.OneReply.{HaveOneFirst, IsSpelt, FirstLinesTell, OfferLinesTell}
use Rattle.trace_walk.proofs.NumberLemmas.{number_one}
use Rattle.trace_walk.proofs.SplitLemmas.{split_same, without, lines_one, ends_after}

-- ---- texts apart

name_has_none : (n : List ℕ) → IsName n → All (λ (x : ℕ). x ≢ 32) n
unfolding is_name_byte
name_has_none n is = without 32 is_name_byte refl n is.allowed

-- ---- the line of an item

kind_letter : (kind : Kind) (r : List ℕ) → (97 ≤ get_or (kind_word kind ++ r) 0 0) × (get_or (kind_word kind ++ r) 0 0 ≢ 110)
kind_letter kinds.Label r = (omega arith, λ e. omega (arith, e))
kind_letter kinds.U32 r = (omega arith, λ e. omega (arith, e))
kind_letter kinds.Str r = (omega arith, λ e. omega (arith, e))
kind_letter kinds.Mem r = (omega arith, λ e. omega (arith, e))

-- the name of a change, a space, and the word of its kind
change_begins : (c : ChangeRecord) (more : List ℕ) →
    (past : List ℕ) × (item_spelling (Changed c) ++ more ≡ c.key.name ++ 32 ∷ (kind_word c.key.kind ++ past))
change_begins c more =
    let parts : List ℕ = texts (drop 3 (change_parts c)) in (
      parts ++ more,
      append_assoc c.key.name (32 ∷ (kind_word c.key.kind ++ parts)) more ∙
          ap (λ (l : List ℕ). c.key.name ++ 32 ∷ l) (append_assoc (kind_word c.key.kind) parts more),
    )

above_space : (word : List ℕ) → list_all (λ (x : ℕ). nat_lt 32 x) word ≡ true → All (λ (x : ℕ). x ≢ 32) word
above_space word all = without 32 (λ (x : ℕ). nat_lt 32 x) refl word all

-- a word, a space and a byte that begins no word of a kind begin no item's line
item_apart : (i : Item) (word : List ℕ) (more past : List ℕ)
    → IsItem i → All (λ (x : ℕ). x ≢ 32) word → (97 ≤ get_or (word ++ 32 ∷ past) 0 0) → (97 ≤ get_or past 0 0 → get_or past 0 0 ≡ 110)
    → item_spelling i ++ more ≡ word ++ 32 ∷ past
    → ⊥
item_apart (Floored f) word more past is none letter other e = omega (arith, letter, ap (λ (l : List ℕ). get_or l 0 0) e)
item_apart (Changed c) word more past is none letter other e =
    let b = change_begins c more in
    let s = split_same 32 c.key.name word (kind_word c.key.kind ++ b.0) past (name_has_none c.key.name is.name) none (sym b.1 ∙ e) in
    let first : get_or (kind_word c.key.kind ++ b.0) 0 0 ≡ get_or past 0 0 = ap (λ (l : List ℕ). get_or l 0 0) s.1 in
    let k = kind_letter c.key.kind b.0 in
    k.1 (first ∙ other (omega (arith, k.0, first)))

-- ---- what begins a reply

-- the bytes of the two lines for out of memory, with what follows them
abbrev refused_front : List ℕ → List ℕ
refused_front rest = codes "refused noroom\n" ++ rest

abbrev stopped_front : ℕ → List ℕ → List ℕ
stopped_front done rest = codes "stopped " ++ (decimal done ++ 32 ∷ (codes "noroom\n" ++ rest))

-- a number's first byte is below all letters
digit_low : (b : ℕ) → is_ascii_digit b ≡ true → b < 97
digit_low b e = grind (arith, nat_tests)

digits_low : (ds r : List ℕ) → 0 < length ds → list_all is_ascii_digit ds ≡ true → get_or (ds ++ r) 0 0 < 97
digits_low [] r some all = absurd (omega (arith, some))
digits_low (b ∷ ds) r some all = digit_low b (and_parts (is_ascii_digit b) (list_all is_ascii_digit ds) all).0

number_low : (n : ℕ) (r : List ℕ) → n < 2 ^ 64 → get_or (decimal n ++ r) 0 0 < 97
number_low n r few = digits_low (decimal n) r (decimal_nonempty n few) (digits_decimal own n few)

-- if they are at the front of a reply, no item is before them
after_items : (items : List Item) (word more past : List ℕ)
    → AreItems items → All (λ (x : ℕ). x ≢ 32) word → (97 ≤ get_or (word ++ 32 ∷ past) 0 0)
    → (97 ≤ get_or past 0 0 → get_or past 0 0 ≡ 110) → flat_map item_spelling items ++ more ≡ word ++ 32 ∷ past
    → more ≡ word ++ 32 ∷ past
after_items [] word more past are none letter other e = e
after_items (i ∷ items) word more past are none letter other e =
    absurd (item_apart i word (flat_map item_spelling items ++ more) past (are i (Contains-head i items)) none letter other
    (sym (append_assoc (item_spelling i) (flat_map item_spelling items) more) ∙ e))

-- a refusal whose words are `noroom` is out of memory's
fault_told : (fault : Refusal) (z rest : List ℕ) → (refusal_words fault ++ 10 ∷ []) ++ z ≡ codes "noroom\n" ++ rest → is_noroom fault ≡ true
fault_told refusals.NoRoom z rest e = refl
fault_told refusals.NoCaller z rest e = absurd (omega (arith, ap (λ (l : List ℕ). get_or l 2 0) e))
fault_told refusals.NotAllowed z rest e = absurd (omega (arith, ap (λ (l : List ℕ). get_or l 2 0) e))
fault_told refusals.NotOwner z rest e = absurd (omega (arith, ap (λ (l : List ℕ). get_or l 2 0) e))
fault_told refusals.NotFound z rest e = absurd (omega (arith, ap (λ (l : List ℕ). get_or l 2 0) e))
fault_told refusals.BadSub z rest e = absurd (omega (arith, ap (λ (l : List ℕ). get_or l 0 0) e))
fault_told refusals.TooMany z rest e = absurd (omega (arith, ap (λ (l : List ℕ). get_or l 0 0) e))
fault_told refusals.TooLong z rest e = absurd (omega (arith, ap (λ (l : List ℕ). get_or l 0 0) e))
fault_told refusals.BadPattern z rest e = absurd (omega (arith, ap (λ (l : List ℕ). get_or l 0 0) e))
fault_told refusals.BadKind z rest e = absurd (omega (arith, ap (λ (l : List ℕ). get_or l 0 0) e))
fault_told refusals.BadLabel z rest e = absurd (omega (arith, ap (λ (l : List ℕ). get_or l 0 0) e))
fault_told refusals.BadVersion z rest e = absurd (omega (arith, ap (λ (l : List ℕ). get_or l 0 0) e))
fault_told (refusals.Clash version) z rest e = absurd (omega (arith, ap (λ (l : List ℕ). get_or l 0 0) e))
fault_told refusals.Stale z rest e = absurd (omega (arith, ap (λ (l : List ℕ). get_or l 0 0) e))
fault_told refusals.Exists z rest e = absurd (omega (arith, ap (λ (l : List ℕ). get_or l 0 0) e))
fault_told refusals.OldCursor z rest e = absurd (omega (arith, ap (λ (l : List ℕ). get_or l 0 0) e))
fault_told refusals.Ahead z rest e = absurd (omega (arith, ap (λ (l : List ℕ). get_or l 0 0) e))
fault_told refusals.Behind z rest e = absurd (omega (arith, ap (λ (l : List ℕ). get_or l 0 0) e))
fault_told refusals.Full z rest e = absurd (omega (arith, ap (λ (l : List ℕ). get_or l 0 0) e))
fault_told refusals.Worn z rest e = absurd (omega (arith, ap (λ (l : List ℕ). get_or l 0 0) e))
fault_told refusals.BadRing z rest e = absurd (omega (arith, ap (λ (l : List ℕ). get_or l 0 0) e))
fault_told refusals.BadFirst z rest e = absurd (omega (arith, ap (λ (l : List ℕ). get_or l 0 0) e))

-- `refused noroom`
refused_told : (fault : Refusal) (z rest : List ℕ) → with_newline (refused fault) ++ z ≡ refused_front rest → is_noroom fault ≡ true
refused_told fault z rest e = fault_told fault z rest (ap (drop 8) e)

-- `stopped`, a number, some words, and what follows
stopped_is : (done : ℕ) (words z : List ℕ) →
    with_newline (codes "stopped " ++ (decimal done ++ 32 ∷ words)) ++ z ≡ codes "stopped " ++
    (decimal done ++ 32 ∷ ((words ++ 10 ∷ []) ++ z))
stopped_is done words z =
    ap (λ (l : List ℕ). codes "stopped " ++ (l ++ z)) (append_assoc (decimal done) (32 ∷ words) (10 ∷ [])) ∙
    ap (λ (l : List ℕ). codes "stopped " ++ l) (append_assoc (decimal done) (32 ∷ (words ++ 10 ∷ [])) z)

-- `stopped D noroom`
stopped_told : (d done : ℕ) (fault : Refusal) (z rest : List ℕ) → d < 2 ^ 64 → done < 2 ^ 64 →
    with_newline (stopped AsMerge done fault) ++ z ≡ stopped_front d rest → (done ≡ d) × (is_noroom fault ≡ true)
stopped_told d done fault z rest few less e =
    let words : List ℕ = refusal_words fault in
    let one = number_one done d 32 ((words ++ 10 ∷ []) ++ z) (codes "noroom\n" ++ rest) less few refl
    (ap (drop 8) (sym (stopped_is done words z) ∙ e)) in
    (one.0, fault_told fault z rest one.1)

-- what an offer's answer begins with
offered : Bool → Bool → List ℕ
offered none_taken none_stale = if none_taken then (if none_stale then codes "known" else codes "stale") else codes "taken"

offered_other : (a b : Bool) (z rest : List ℕ) → with_newline (offered a b) ++ z ≡ refused_front rest → ⊥
unfolding offered
offered_other true true z rest e = omega (arith, ap (λ (l : List ℕ). get_or l 0 0) e)
offered_other true false z rest e = omega (arith, ap (λ (l : List ℕ). get_or l 0 0) e)
offered_other false b z rest e = omega (arith, ap (λ (l : List ℕ). get_or l 0 0) e)

merged_other : (wording : Wording) (done taken stale : ℕ) (z rest : List ℕ) →
    with_newline (merged wording done taken stale) ++ z ≡ refused_front rest → ⊥
unfolding offered
merged_other AsOffer done taken stale z rest e = offered_other (taken == 0) (stale == 0) z rest e
merged_other AsMerge done taken stale z rest e = omega (arith, ap (λ (l : List ℕ). get_or l 0 0) e)

-- ---- which replies begin so

-- whether memory ran out, as the wording shows it
abbrev Told : Wording → Reply → Type 0
Told AsOffer reply = is_some (room_wanted reply) ≡ true
Told AsMerge reply = room_wanted reply ≡ Some None

refused_noted : (wording : Wording) (fault : Refusal) → is_noroom fault ≡ true → Told wording (Refused fault)
refused_noted AsOffer fault e = ap (λ (b : Bool). is_some (let whole : Option ℕ = None in cond b (Some whole) None)) e
refused_noted AsMerge fault e = ap (λ (b : Bool). let whole : Option ℕ = None in cond b (Some whole) None) e

words_refused : (wording : Wording) (reply : Reply) (z rest : List ℕ) →
    with_newline (reply_words wording reply) ++ z ≡ refused_front rest → Told wording reply
words_refused wording (Refused fault) z rest e = refused_noted wording fault (refused_told fault z rest e)
words_refused AsOffer (MergeStopped done fault mask) z rest e =
    ap (λ (b : Bool). is_some (cond b (Some (Some done)) None)) (refused_told fault z rest e)
words_refused AsMerge (MergeStopped done fault mask) z rest e = absurd (omega (arith, ap (λ (l : List ℕ). get_or l 0 0) e))
words_refused wording (Merged done taken stale mask) z rest e = absurd (merged_other wording done taken stale z rest e)
words_refused wording (Accepted mask) z rest e = absurd (omega (arith, ap (λ (l : List ℕ). get_or l 0 0) e))
words_refused wording Known z rest e = absurd (omega (arith, ap (λ (l : List ℕ). get_or l 0 0) e))
words_refused wording (Swept count mask) z rest e = absurd (omega (arith, ap (λ (l : List ℕ). get_or l 0 0) e))
words_refused wording (Found value) z rest e = absurd (omega (arith, ap (λ (l : List ℕ). get_or l 0 0) e))
words_refused wording (Named name) z rest e = absurd (omega (arith, ap (λ (l : List ℕ). get_or l 0 0) e))
words_refused wording (Subscribed stamp mask) z rest e = absurd (omega (arith, ap (λ (l : List ℕ). get_or l 0 0) e))
words_refused wording (Checked items before after) z rest e = absurd (omega (arith, ap (λ (l : List ℕ). get_or l 0 0) e))
words_refused wording (Journaled since) z rest e = absurd (omega (arith, ap (λ (l : List ℕ). get_or l 0 0) e))
words_refused wording (Snapped snapshot) z rest e = absurd (omega (arith, ap (λ (l : List ℕ). get_or l 0 0) e))
words_refused wording (Paged page) z rest e = absurd (omega (arith, ap (λ (l : List ℕ). get_or l 0 0) e))

words_stopped : (d : ℕ) (reply : Reply) (z rest : List ℕ) → d < 2 ^ 64 → done_by reply < 2 ^ 64 →
    with_newline (reply_words AsMerge reply) ++ z ≡ stopped_front d rest → room_wanted reply ≡ Some (Some d)
words_stopped d (MergeStopped done fault mask) z rest few less e =
    let told = stopped_told d done fault z rest few less e in
    ap (λ (b : Bool). cond b (Some (Some done)) None) told.1 ∙ ap (λ (n : ℕ). Some (Some n)) told.0
words_stopped d (Refused fault) z rest few less e = absurd (omega (arith, ap (λ (l : List ℕ). get_or l 0 0) e))
words_stopped d (Merged done taken stale mask) z rest few less e = absurd (omega (arith, ap (λ (l : List ℕ). get_or l 0 0) e))
words_stopped d (Accepted mask) z rest few less e = absurd (omega (arith, ap (λ (l : List ℕ). get_or l 0 0) e))
words_stopped d Known z rest few less e = absurd (omega (arith, ap (λ (l : List ℕ). get_or l 0 0) e))
words_stopped d (Swept count mask) z rest few less e = absurd (omega (arith, ap (λ (l : List ℕ). get_or l 1 0) e))
words_stopped d (Found value) z rest few less e = absurd (omega (arith, ap (λ (l : List ℕ). get_or l 0 0) e))
words_stopped d (Named name) z rest few less e = absurd (omega (arith, ap (λ (l : List ℕ). get_or l 0 0) e))
words_stopped d (Subscribed stamp mask) z rest few less e = absurd (omega (arith, ap (λ (l : List ℕ). get_or l 1 0) e))
words_stopped d (Checked items before after) z rest few less e = absurd (omega (arith, ap (λ (l : List ℕ). get_or l 0 0) e))
words_stopped d (Journaled since) z rest few less e = absurd (omega (arith, ap (λ (l : List ℕ). get_or l 1 0) e))
words_stopped d (Snapped snapshot) z rest few less e = absurd (omega (arith, ap (λ (l : List ℕ). get_or l 1 0) e))
words_stopped d (Paged page) z rest few less e = absurd (omega (arith, ap (λ (l : List ℕ). get_or l 0 0) e))

-- ---- what a reply's text begins with

refused_by : (wording : Wording) (limits : LimitsRecord) (reply : Reply) (rest : List ℕ) → AreItems (shown_by reply) →
    reply_lines wording reply limits ≡ refused_front rest → Told wording reply
refused_by wording limits reply rest items e =
    let last : List ℕ = owed_line limits (owed_by reply) in
    words_refused wording reply last rest (after_items (shown_by reply) (codes "refused")
    (with_newline (reply_words wording reply) ++ last) (codes "noroom\n" ++ rest) items (above_space (codes "refused") refl) (omega arith)
    (λ l. refl) e)

stopped_by : (limits : LimitsRecord) (reply : Reply) (d : ℕ) (rest : List ℕ) → IsSpelt reply → d < 2 ^ 64 →
    reply_lines AsMerge reply limits ≡ stopped_front d rest → room_wanted reply ≡ Some (Some d)
stopped_by limits reply d rest is few e =
    let last : List ℕ = owed_line limits (owed_by reply) in
    let past : List ℕ = decimal d ++ 32 ∷ (codes "noroom\n" ++ rest) in
    let low : get_or past 0 0 < 97 = number_low d (32 ∷ (codes "noroom\n" ++ rest)) few in
    words_stopped d reply last rest few is.few
    (after_items (shown_by reply) (codes "stopped") (with_newline (reply_words AsMerge reply) ++ last) past is.items
    (above_space (codes "stopped") refl) (omega arith) (λ l. absurd (omega (arith, l, low))) e)

-- ---- what is written if memory ran out

pub noroom_is : (fault : Refusal) → is_noroom fault ≡ true → fault ≡ refusals.NoRoom
noroom_is refusals.NoRoom e = refl
noroom_is _ e = absurd (false≢true e)

whole_test : (b : Bool) (p : Option ℕ) → cond b (Some p) None ≡ Some p → b ≡ true
whole_test true p e = refl
whole_test false p e = absurd (false≢true (ap (λ (o : Option (Option ℕ)). is_some o) e))

some_test : (b : Bool) (p : Option ℕ) → is_some (cond b (Some p) None) ≡ true → b ≡ true
some_test true p e = refl
some_test false p e = absurd (false≢true e)

inner_test : (b : Bool) (p q : Option ℕ) → cond b (Some p) None ≡ Some q → (b ≡ true) × (p ≡ q)
inner_test true p q e = (refl, ap (λ (o : Option (Option ℕ)). option_map_or (λ (x : Option ℕ). x) o p) e)
inner_test false p q e = absurd (false≢true (ap (λ (o : Option (Option ℕ)). is_some o) e))

not_none : (q : Option ℕ) → None ≡ Some q → ⊥
not_none q e = false≢true (ap (λ (o : Option (Option ℕ)). is_some o) e)

refused_line : (limits : LimitsRecord) (wording : Wording) (fault : Refusal) → is_noroom fault ≡ true →
    (rest : List ℕ) × (reply_lines wording (Refused fault) limits ≡ refused_front rest)
refused_line limits wording fault e = (owed_line limits 0, ap (λ (f : Refusal). reply_lines wording (Refused f) limits) (noroom_is fault e))

refused_text : (wording : Wording) (limits : LimitsRecord) (reply : Reply) → Told wording reply →
    (rest : List ℕ) × (reply_lines wording reply limits ≡ refused_front rest)
refused_text AsOffer limits (Refused fault) told = let whole : Option ℕ = None in
    refused_line limits AsOffer fault (some_test (is_noroom fault) whole told)
refused_text AsMerge limits (Refused fault) told = let whole : Option ℕ = None in
    refused_line limits AsMerge fault (whole_test (is_noroom fault) whole told)
refused_text AsOffer limits (MergeStopped done fault mask) told = (
  owed_line limits mask,
  ap (λ (f : Refusal). reply_lines AsOffer (MergeStopped done f mask) limits)
      (noroom_is fault (some_test (is_noroom fault) (Some done) told)),
)
refused_text AsMerge limits (MergeStopped done fault mask) told = let whole : Option ℕ = None in
    absurd (false≢true (sym (ap (λ (p : Option ℕ). is_some p) (inner_test (is_noroom fault) (Some done) whole told).1)))
refused_text AsOffer limits _ told = absurd (false≢true told)
refused_text AsMerge limits _ told = let whole : Option ℕ = None in absurd (not_none whole told)

stopped_text : (limits : LimitsRecord) (reply : Reply) (d : ℕ) → room_wanted reply ≡ Some (Some d) →
    (rest : List ℕ) × (reply_lines AsMerge reply limits ≡ stopped_front d rest) × (d ≡ done_by reply)
stopped_text limits (MergeStopped done fault mask) d e =
    let t = inner_test (is_noroom fault) (Some done) (Some d) e in
    let same : done ≡ d = ap (λ (o : Option ℕ). option_map_or (λ (n : ℕ). n) o 0) t.1 in
    let text : reply_lines AsMerge (MergeStopped done fault mask) limits ≡ reply_lines AsMerge (MergeStopped d refusals.NoRoom mask) limits
    =
    ap (λ (f : Refusal). reply_lines AsMerge (MergeStopped done f mask) limits) (noroom_is fault t.0) ∙
    ap (λ (n : ℕ). reply_lines AsMerge (MergeStopped n refusals.NoRoom mask) limits) same in
    (owed_line limits mask, text ∙ stopped_is d (codes "noroom") (owed_line limits mask), sym same)
stopped_text limits (Refused fault) d e = let whole : Option ℕ = None in
    absurd (false≢true (ap (λ (p : Option ℕ). is_some p) (inner_test (is_noroom fault) whole (Some d) e).1))
stopped_text limits _ d e = absurd (not_none (Some d) e)

-- ---- the first line

refused_ends : EndsLine (codes "refused noroom\n")
refused_ends =
    record { front = codes "refused noroom"; parts = refl; none = without 10 (λ (b : ℕ). nat_lt 10 b) refl (codes "refused noroom") refl }

stopped_ends : (d : ℕ) → d < 2 ^ 64 → EndsLine (codes "stopped " ++ (decimal d ++ 32 ∷ codes "noroom\n"))
stopped_ends d few =
    let last : EndsLine (32 ∷ codes "noroom\n") =
    record { front = codes " noroom"; parts = refl; none = without 10 (λ (b : ℕ). nat_lt 10 b) refl (codes " noroom") refl } in
    ends_after (codes "stopped ") (decimal d ++ 32 ∷ codes "noroom\n") (without 10 (λ (b : ℕ). nat_lt 10 b) refl (codes "stopped ") refl)
    (ends_after (decimal d) (32 ∷ codes "noroom\n") (unbroken_decimal d few) last)

-- the line that one begins with, the other begins with
same_front : (a b line rest : List ℕ) → EndsLine line → HaveOneFirst a b → a ≡ line ++ rest → (more : List ℕ) × (b ≡ line ++ more)
same_front a b line rest ends h e =
    let one = lines_one h.line line h.left rest h.ends ends (sym h.a_is ∙ e) in
    (h.right, h.b_is ∙ ap (λ (l : List ℕ). l ++ h.right) one.0)

turned : (a b : List ℕ) → HaveOneFirst a b → HaveOneFirst b a
turned a b h = record { line = h.line; ends = h.ends; left = h.right; right = h.left; a_is = h.b_is; b_is = h.a_is }

refused_both : (wording : Wording) (limits : LimitsRecord) (reply other : Reply) → IsSpelt other →
    HaveOneFirst (reply_lines wording reply limits) (reply_lines wording other limits) → Told wording reply → Told wording other
refused_both wording limits reply other is h told =
    let t = refused_text wording limits reply told in
    let f = same_front (reply_lines wording reply limits) (reply_lines wording other limits) (codes "refused noroom\n") t.0 refused_ends h
    t.1 in
    refused_by wording limits other f.0 is.items f.1

stopped_nested : (d : ℕ) (rest : List ℕ) → stopped_front d rest ≡ (codes "stopped " ++ (decimal d ++ 32 ∷ codes "noroom\n")) ++ rest
stopped_nested d rest = ap (λ (l : List ℕ). codes "stopped " ++ l) (sym (append_assoc (decimal d) (32 ∷ codes "noroom\n") rest))

stopped_both : (limits : LimitsRecord) (reply other : Reply) (d : ℕ)
    → IsSpelt reply → IsSpelt other → HaveOneFirst (reply_lines AsMerge reply limits) (reply_lines AsMerge other limits)
    → room_wanted reply ≡ Some (Some d)
    → room_wanted other ≡ Some (Some d)
stopped_both limits reply other d is_r is h e =
    let t = stopped_text limits reply d e in
    let few : d < 2 ^ 64 = subst (λ (n : ℕ). n < 2 ^ 64) (sym t.2) is_r.few in
    let f = same_front (reply_lines AsMerge reply limits) (reply_lines AsMerge other limits)
    (codes "stopped " ++ (decimal d ++ 32 ∷ codes "noroom\n")) t.0 (stopped_ends d few) h (t.1 ∙ stopped_nested d t.0) in
    stopped_by limits other d f.0 is few (f.1 ∙ sym (stopped_nested d f.0))

pub first_lines_tell : FirstLinesTell
first_lines_tell limits reply other is_r is_o h = by_wanted (room_wanted reply) refl (room_wanted other) refl
  where
    by_wanted : (p : Option (Option ℕ)) → room_wanted reply ≡ p → (q : Option (Option ℕ)) → room_wanted other ≡ q →
        room_wanted reply ≡ room_wanted other
    by_wanted (Some None) e q f = e ∙ sym (refused_both AsMerge limits reply other is_o h e)
    by_wanted (Some (Some d)) e q f = e ∙ sym (stopped_both limits reply other d is_r is_o h e)
    by_wanted None e None f = e ∙ sym f
    by_wanted None e (Some None) f = refused_both AsMerge limits other reply is_r (turned _ _ h) f ∙ sym f
    by_wanted None e (Some (Some d)) f = stopped_both limits other reply d is_o is_r (turned _ _ h) f ∙ sym f

pub offer_lines_tell : OfferLinesTell
offer_lines_tell limits reply other is_r is_o h = by_test (is_some (room_wanted reply)) refl (is_some (room_wanted other)) refl
  where
    by_test : (a : Bool) → is_some (room_wanted reply) ≡ a → (b : Bool) → is_some (room_wanted other) ≡ b →
        is_some (room_wanted reply) ≡ is_some (room_wanted other)
    by_test true e b f = e ∙ sym (refused_both AsOffer limits reply other is_o h e)
    by_test false e true f = refused_both AsOffer limits other reply is_r (turned _ _ h) f ∙ sym f
    by_test false e false f = e ∙ sym f
