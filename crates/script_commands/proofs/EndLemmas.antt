-- A command's line ends with its one newline, and no slot before the last has one.
use Rattle.std.proofs.Common.{◌≡◌, ◌≢◌, ℕ, ◌^◌, ◌<◌, true, inl, inr, List, [], ◌∷◌, ◌++◌, Option, None, Some, refl, sym, subst, arith}
use Rattle.std.specs.List.{list_all}
use Rattle.std.specs.Char.{is_ascii_alphanumeric}
use Rattle.std.specs.Fmt.{decimal}
use Rattle.std.proofs.lemmas.List.Elements.{All-nil, All-append, All-head, All-tail}
use Rattle.ds_names.specs.Endpoint.{endpoint_text}
use Rattle.ds_names.specs.Name.{IsName}
use Rattle.ds_names.specs.declared.key.Key.{Key}
use Rattle.ds_names.specs.declared.kind.Kind.{Kind}
use Rattle.ds_names.specs.declared.kind.Kind.TheVariants.{U32}
use Rattle.ds_line.specs.Part.{Part, byte, texts}
use Rattle.ds_line.specs.Spelling.{space, newline, kind_word, escaped_byte, escaped, quoted, value_part}
use Rattle.ds_line.specs.ItemSpelling.{item_parts}
use Rattle.line_io.specs.Lines.{EndsLine}
use Rattle.ds_line.proofs.QuoteLemmas.{shape}
use Rattle.ds_line.proofs.OpeningLemmas.{word_is_word}
use Rattle.ds_line.proofs.ItemLemmas.{item_ends}
use Rattle.ds_line.proofs.NewlineLemmas.{Unbroken, unbroken_endpoint, unbroken_name, unbroken_decimal, unbroken_one, unbroken_run}
use Rattle.ds_line.proofs.NewlineLemmas.{unbroken_value, ends_then, ends_after_space, newline_ends}
use Rattle.ds_machine.specs.declared.command.Scope.{Scope}
use Rattle.ds_machine.specs.declared.command.Scope.TheVariants.{All as AllKeys, Under}
use Rattle.ds_replica.specs.declared.event.Holder.{Holder}
use Rattle.ds_replica.specs.declared.event.Holder.TheVariants as holders
use Rattle.script_answers.specs.Outcome.{side_word}
use Rattle.script_commands.specs.declared.command.ScriptCommand.{ScriptCommand}
use Rattle.script_commands.specs.declared.service.Device.{Device}
use Rattle.script_commands.specs.declared.service.Device.TheVariants.{File, Net}
use Rattle.script_commands.specs.declared.service.Server.TheVariants as servers
use Rattle.script_commands.specs.declared.slot.Slot.{Slot}
use Rattle.script_commands.specs.declared.slot.Slot.TheVariants as slots
use Rattle.script_commands.specs.Command.{IsCommand, command_word, fields_of, after_word}
use Rattle.script_commands.specs.Page.{IsAfter, range_parts}
use Rattle.script_commands.specs.Pieces.{initial_word, mode_word}
use Rattle.script_commands.specs.Scope.{IsScope, scope_parts}
use Rattle.script_commands.specs.Service.{IsDevice, class_word, device_parts, request_word, server_word, text_parts}
use Rattle.script_commands.specs.Table.{slots_of, piece_of, kind_after, row_of}
use Rattle.script_commands.specs.World.{IsCount, IsHolder, count_part, holder_word}
use Rattle.script_commands.proofs.PieceLemmas.{mode_is_word, initial_is_word}
use Rattle.script_commands.proofs.ServicePieceLemmas.{class_is_word, request_is_word, server_is_word}
use Rattle.script_commands.proofs.SlotLemmas.{IsInner, IsLast}
use Rattle.script_commands.proofs.TableLemmas.{IsRow, row_first, slots_are, fields_fit}
use Rattle.script_commands.proofs.WorldPieceLemmas.{side_is_word}

-- ---- texts

pub unbroken_word : (word : List ℕ) → list_all is_ascii_alphanumeric word ≡ true → Unbroken word
unbroken_word word all = unbroken_run is_ascii_alphanumeric refl word all

one_byte : (b : ℕ) → b ≢ 10 → Unbroken (b ∷ [])
one_byte b other = unbroken_one b [] other (All-nil (λ (x : ℕ). x ≢ 10))

unbroken_byte : (b : ℕ) → b ≢ 10 → Unbroken (escaped_byte b)
unbroken_byte b other = elim (shape b) [
  | inl x ↦ subst Unbroken (sym x.0) (unbroken_one 92 (b ∷ []) (λ same. omega (arith, same)) (one_byte b other))
  | inr x ↦ subst Unbroken (sym x.0) (one_byte b other)
]

unbroken_escaped : (text : List ℕ) → Unbroken text → Unbroken (escaped text)
unbroken_escaped [] all = All-nil (λ (x : ℕ). x ≢ 10)
unbroken_escaped (b ∷ text) all =
    All-append (λ (x : ℕ). x ≢ 10) (escaped_byte b) (escaped text) (unbroken_byte b (All-head (λ (x : ℕ). x ≢ 10) b text all))
    (unbroken_escaped text (All-tail (λ (x : ℕ). x ≢ 10) b text all))

unbroken_quoted : (text : List ℕ) → Unbroken text → Unbroken (quoted text)
unbroken_quoted text all =
    unbroken_one 34 (escaped text ++ 34 ∷ []) (λ same. omega (arith, same)) (All-append (λ (x : ℕ). x ≢ 10) (escaped text) (34 ∷ [])
    (unbroken_escaped text all) (one_byte 34 (λ same. omega (arith, same))))

unbroken_holder : (holder : Holder) → IsHolder holder → Unbroken (holder_word holder)
unbroken_holder (holders.Store side) can = unbroken_word (side_word side) (side_is_word side)
unbroken_holder (holders.Map map) can = unbroken_one 109 (decimal map) (λ same. omega (arith, same)) (unbroken_decimal map can)

-- ---- parts without a newline

-- none of them has a newline
abbrev AreUnbroken : List Part → Type 0
AreUnbroken [] = Unit {0}
AreUnbroken (p ∷ ps) = Unbroken p.text × AreUnbroken ps

ends_after : (ps more : List Part) → AreUnbroken ps → EndsLine (texts more) → EndsLine (texts (ps ++ more))
ends_after [] more all ends = ends
ends_after (p ∷ ps) more all ends = ends_then p (ps ++ more) all.0 (ends_after ps more all.1 ends)

blank : Unbroken (32 ∷ [])
blank = one_byte 32 (λ same. omega (arith, same))

-- a part after a space
one : (text : List ℕ) → Unbroken text → Unbroken (32 ∷ []) × (Unbroken text × Unit {0})
one text all = (blank, (all, tt))

word : (text : List ℕ) → list_all is_ascii_alphanumeric text ≡ true → Unbroken (32 ∷ []) × (Unbroken text × Unit {0})
word text all = one text (unbroken_word text all)

number : (n : ℕ) → n < 2 ^ 64 → Unbroken (32 ∷ []) × (Unbroken (decimal n) × Unit {0})
number n few = one (decimal n) (unbroken_decimal n few)

-- ---- slots

key_unbroken : (key : Key) → IsName key.name → AreUnbroken ((piece_of U32 slots.Key).parts key)
key_unbroken key can = (blank, (unbroken_name key.name can.allowed, word (kind_word key.kind) (word_is_word key.kind)))

count_unbroken : (count : Option ℕ) → IsCount count → AreUnbroken (space ∷ count_part count ∷ [])
count_unbroken None can = one (42 ∷ []) (one_byte 42 (λ same. omega (arith, same)))
count_unbroken (Some n) can = number n (omega (arith, can))

scope_unbroken : (scope : Scope) → IsScope scope → AreUnbroken (space ∷ scope_parts scope)
scope_unbroken AllKeys can = one (42 ∷ []) (one_byte 42 (λ same. omega (arith, same)))
scope_unbroken (Under q) can = (blank, (unbroken_quoted q.text can.text, number q.kinds (omega (arith, can.limit))))

range_unbroken : (after : Option Key) (max : ℕ) → IsAfter after → max < 2 ^ 32 → AreUnbroken (space ∷ range_parts after max)
range_unbroken None max can few = (blank, (one_byte 45 (λ same. omega (arith, same)), number max (omega (arith, few))))
range_unbroken (Some key) max can few = (
  blank,
  (
    unbroken_name key.name can.allowed,
    (blank, (unbroken_word (kind_word key.kind) (word_is_word key.kind), number max (omega (arith, few)))),
  ),
)

device_unbroken : (device : Device) → IsDevice device → AreUnbroken (space ∷ device_parts device)
device_unbroken (File major class) can =
    let last = word (class_word class) (class_is_word class) in
    (blank, (unbroken_word (server_word servers.File) refl, (blank, (unbroken_decimal major (omega (arith, can)), last))))
device_unbroken (Net port) can = (blank, (unbroken_word (server_word servers.Net) refl, number port (omega (arith, can))))

text_unbroken : (text : List ℕ) → Unbroken text → AreUnbroken (text_parts text)
text_unbroken [] can = tt
text_unbroken (b ∷ text) can =
    (one_byte b (All-head (λ (x : ℕ). x ≢ 10) b text can), text_unbroken text (All-tail (λ (x : ℕ). x ≢ 10) b text can))

-- the contents of a slot before others
slot_unbroken : (k : Kind) (s : Slot) (x : (piece_of k s).Of) → IsInner s → (piece_of k s).Can x → AreUnbroken ((piece_of k s).parts x)
slot_unbroken k slots.Item i inner can = absurd (inner tt)
slot_unbroken k slots.Caller e inner can = one (endpoint_text e) (unbroken_endpoint e can)
slot_unbroken k slots.Mode mode inner can = word (mode_word mode) (mode_is_word mode)
slot_unbroken k slots.Key key inner can = key_unbroken key can
slot_unbroken k slots.Version v inner can =
    let last : Unbroken (decimal v.seq) × Unit {0} = (unbroken_decimal v.seq (omega (arith, can.seq)), tt) in
    (blank, (unbroken_decimal v.epoch (omega (arith, can.epoch)), (one_byte 46 (λ same. omega (arith, same)), last)))
slot_unbroken k slots.Value v inner can = absurd (inner tt)
slot_unbroken k slots.Owner name inner can = one name (unbroken_name name can.allowed)
slot_unbroken k slots.Generation n inner can = number n (omega (arith, can))
slot_unbroken k slots.Endpoint e inner can = one (endpoint_text e) (unbroken_endpoint e can)
slot_unbroken k slots.Sub n inner can = number n (omega (arith, can))
slot_unbroken k slots.Pattern text inner can = one (quoted text) (unbroken_quoted text can)
slot_unbroken k slots.Kinds n inner can = number n (omega (arith, can.1))
slot_unbroken k slots.Initial initial inner can = word (initial_word initial) (initial_is_word initial)
slot_unbroken k slots.Max n inner can = number n (omega (arith, can))
slot_unbroken k slots.Ring n inner can = number n (omega (arith, can.1))
slot_unbroken k slots.Side side inner can = word (side_word side) (side_is_word side)
slot_unbroken k slots.Holder holder inner can = one (holder_word holder) (unbroken_holder holder can)
slot_unbroken k slots.Count count inner can = count_unbroken count can
slot_unbroken k slots.Scope scope inner can = scope_unbroken scope can
slot_unbroken k slots.Range x inner can = range_unbroken x.0 x.1 can.0 can.1
slot_unbroken k slots.Text text inner can = absurd (inner tt)
slot_unbroken k slots.Request request inner can = word (request_word request) (request_is_word request)
slot_unbroken k slots.Label name inner can = one name (unbroken_name name can.allowed)
slot_unbroken k slots.Device device inner can = device_unbroken device can
slot_unbroken k slots.Server server inner can = word (server_word server) (server_is_word server)
slot_unbroken k slots.Unit n inner can = number n (omega (arith, can))
slot_unbroken k slots.End x inner can = absurd (inner tt)
slot_unbroken k s n inner can = number n can

-- the contents of the last slot
last_ends : (k : Kind) (s : Slot) (x : (piece_of k s).Of) → IsLast s → (piece_of k s).Can x → EndsLine (texts ((piece_of k s).parts x))
last_ends k slots.Item i last can = ends_after_space (item_parts i) (item_ends i can)
last_ends k slots.Value v last can =
    let value = one (value_part v).text (unbroken_value v can.valid) in
    ends_after (space ∷ byte 61 ∷ space ∷ value_part v ∷ []) (newline ∷ []) (blank, (one_byte 61 (λ same. omega (arith, same)), value))
    newline_ends
last_ends k slots.Text text last can = ends_after (space ∷ text_parts text) (newline ∷ []) (blank, text_unbroken text can) newline_ends
last_ends k slots.End x last can = newline_ends
last_ends k s x last can = absurd last

-- ---- rows

row_ends : (k : Kind) (ss : List Slot) (x : (row_of k ss).Of) → IsRow ss → (row_of k ss).Can x → EndsLine (texts ((row_of k ss).parts x))
row_ends k [] x is can = absurd is
row_ends k (s ∷ []) x is can = last_ends k s x is can
row_ends k (s ∷ t ∷ ss) x is can =
    let first = row_first s t ss is in
    let after = kind_after k s x.0 in
    ends_after ((piece_of k s).parts x.0) ((row_of after (t ∷ ss)).parts x.1) (slot_unbroken k s x.0 first.0 can.0)
    (row_ends after (t ∷ ss) x.1 first.1 can.1)

-- what follows a command's word ends with its one newline
pub after_ends : (command : ScriptCommand) → IsCommand command → EndsLine (texts (after_word command))
after_ends command is =
    let w = command_word command in row_ends U32 (slots_of w) (fields_of command) (slots_are w) (fields_fit command is).0
