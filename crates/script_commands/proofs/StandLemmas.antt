-- The contents of a command's slots are readable from their parts, and begin with a space or a newline.
use Rattle.std.proofs.Common.{◌≡◌, ℕ, ◌⊎◌, inl, inr, List, [], ◌∷◌, ◌++◌, length, codes, Option, None, Some, refl, sym, ap, subst, ◌∙◌}
use Rattle.std.proofs.Common.{append_assoc, append-nil, length-append}
use Rattle.std.specs.Bool.{IsFalse}
use Rattle.std.specs.Char.{is_ascii_alphanumeric}
use Rattle.std.specs.Fmt.{decimal}
use Rattle.std.proofs.lemmas.List.Concat.{flat_map-append}
use Rattle.ds_names.specs.Endpoint.{endpoint_text}
use Rattle.ds_names.specs.Name.{is_name_byte}
use Rattle.ds_names.specs.Run.{Ends}
use Rattle.ds_names.specs.declared.key.Key.{Key}
use Rattle.ds_names.specs.declared.kind.Kind.{Kind}
use Rattle.ds_names.specs.declared.kind.Kind.TheVariants.{U32}
use Rattle.ds_entry.specs.declared.item.Item.{Item}
use Rattle.ds_line.specs.Part.{Class, Byte, Word, Name, Number, Endpoint, Quoted, Hex, Part, part, byte, run_of, texts}
use Rattle.ds_line.specs.Spelling.{space, newline, kind_word, quoted, value_part}
use Rattle.ds_line.specs.ItemSpelling.{item_parts}
use Rattle.ds_line.specs.FaultPlace.{Stand}
use Rattle.ds_line.proofs.LineLemmas.{spelled, AllStand, part_stands, byte_stands}
use Rattle.ds_line.proofs.PieceLemmas.{stand_join}
use Rattle.ds_machine.specs.declared.command.Scope.{Scope}
use Rattle.ds_machine.specs.declared.command.Scope.TheVariants.{All as AllKeys, Under}
use Rattle.script_commands.specs.declared.command.ScriptCommand.{ScriptCommand}
use Rattle.script_commands.specs.declared.slot.Slot.{Slot}
use Rattle.script_commands.specs.declared.slot.Slot.TheVariants as slots
use Rattle.script_commands.specs.Command.{command_word, fields_of, after_word}
use Rattle.script_commands.specs.Pieces.{initial_word, mode_word}
use Rattle.script_commands.specs.Table.{slots_of, piece_of, kind_after, row_of}
use Rattle.script_answers.specs.Outcome.{side_word}
use Rattle.script_commands.specs.World.{holder_word, count_part}
use Rattle.script_commands.specs.Page.{range_parts}
use Rattle.script_commands.specs.Scope.{scope_parts}
use Rattle.script_commands.specs.Service.{class_word, device_parts, request_word, server_word, text_parts}
use Rattle.script_commands.specs.declared.service.Device.{Device}
use Rattle.script_commands.specs.declared.service.Device.TheVariants.{File, Net}
use Rattle.script_commands.proofs.OfferLemmas.{item_stands}

-- ---- parts before a space or a newline

-- the first of the parts, if there is one, is a space or a newline
abbrev pub Parted : List Part → Type 0
Parted [] = Unit {0}
Parted (p ∷ ps) = (p ≡ space) ⊎ (p ≡ newline)

ends_at_space : (c : Class) → IsFalse (run_of c 32)
unfolding is_name_byte
ends_at_space Byte = refl
ends_at_space Name = refl
ends_at_space Word = refl
ends_at_space Number = refl
ends_at_space Endpoint = refl
ends_at_space Quoted = refl
ends_at_space Hex = refl

ends_at_newline : (c : Class) → IsFalse (run_of c 10)
unfolding is_name_byte
ends_at_newline Byte = refl
ends_at_newline Name = refl
ends_at_newline Word = refl
ends_at_newline Number = refl
ends_at_newline Endpoint = refl
ends_at_newline Quoted = refl
ends_at_newline Hex = refl

before : (c : Class) (text : List ℕ) (more : List Part) → Parted more → AllStand more [] → AllStand (part c text ∷ more) []
before c text [] parted h = part_stands (part c text) [] [] tt h
before c text (p ∷ ps) (inl e) h =
    subst (λ (q : Part). AllStand (q ∷ ps) [] → AllStand (part c text ∷ q ∷ ps) []) (sym e) (part_stands (part c text) (space ∷ ps) []
    (ends_at_space c)) h
before c text (p ∷ ps) (inr e) h =
    subst (λ (q : Part). AllStand (q ∷ ps) [] → AllStand (part c text ∷ q ∷ ps) []) (sym e) (part_stands (part c text) (newline ∷ ps) []
    (ends_at_newline c)) h

-- a part after a space
spaced : (c : Class) (text : List ℕ) (more : List Part) → Parted more → AllStand more [] → AllStand (space ∷ part c text ∷ more) []
spaced c text more parted h = byte_stands 32 (part c text ∷ more) [] (before c text more parted h)

item_before : (i : Item) (more : List Part) → AllStand more [] → AllStand (item_parts i ++ more) []
item_before i more h =
    let text : Part → List ℕ = λ p. p.text in
    let same : spelled (item_parts i) (spelled more []) ≡ spelled (item_parts i ++ more) [] =
    sym (append_assoc (texts (item_parts i)) (texts more) []) ∙ ap (λ (t : List ℕ). t ++ []) (sym (flat_map-append text
    (item_parts i) more)) in
    stand_join (length (item_parts i ++ more)) (length more) (item_parts i) more (spelled (item_parts i ++ more) []) (spelled more []) []
    (length-append (item_parts i) more)
    (subst (λ (b : List ℕ). Stand (length (item_parts i)) (item_parts i) b (spelled more [])) same (item_stands i (spelled more []))) h

count_before : (count : Option ℕ) (more : List Part) → Parted more → AllStand more [] → AllStand (space ∷ count_part count ∷ more) []
count_before None more parted h = spaced Byte (42 ∷ []) more parted h
count_before (Some n) more parted h = spaced Number (decimal n) more parted h

scope_before : (scope : Scope) (more : List Part) → Parted more → AllStand more [] → AllStand (space ∷ (scope_parts scope ++ more)) []
scope_before AllKeys more parted h = spaced Byte (42 ∷ []) more parted h
scope_before (Under q) more parted h =
    spaced Quoted (quoted q.text) (space ∷ part Number (decimal q.kinds) ∷ more) (inl refl) (spaced Number (decimal q.kinds) more parted h)

range_before : (after : Option Key) (max : ℕ) (more : List Part) → Parted more → AllStand more []
    → AllStand (space ∷ (range_parts after max ++ more)) []
range_before None max more parted h =
    spaced Name (codes "-") (space ∷ part Number (decimal max) ∷ more) (inl refl) (spaced Number (decimal max) more parted h)
range_before (Some key) max more parted h =
    let from_max : List Part = space ∷ part Number (decimal max) ∷ more in
    spaced Name key.name (space ∷ part Word (kind_word key.kind) ∷ from_max) (inl refl)
    (spaced Word (kind_word key.kind) from_max (inl refl) (spaced Number (decimal max) more parted h))

-- the bytes of a text, and a newline
text_before : (text : List ℕ) (more : List Part) → AllStand more [] → AllStand ((text_parts text ++ newline ∷ []) ++ more) []
text_before [] more h = byte_stands 10 more [] h
text_before (b ∷ text) more h = byte_stands b ((text_parts text ++ newline ∷ []) ++ more) [] (text_before text more h)

device_before : (device : Device) (more : List Part) → Parted more → AllStand more []
    → AllStand (space ∷ (device_parts device ++ more)) []
device_before (File major class) more parted h =
    let from_class : List Part = space ∷ part Word (class_word class) ∷ more in
    spaced Word (codes "file") (space ∷ part Number (decimal major) ∷ from_class) (inl refl)
    (spaced Number (decimal major) from_class (inl refl) (spaced Word (class_word class) more parted h))
device_before (Net port) more parted h =
    spaced Word (codes "net") (space ∷ part Number (decimal port) ∷ more) (inl refl) (spaced Number (decimal port) more parted h)

-- ---- slots

slot_stands : (k : Kind) (s : Slot) (x : (piece_of k s).Of) (more : List Part) → Parted more → AllStand more []
    → AllStand ((piece_of k s).parts x ++ more) []
slot_stands k slots.Item i more parted h = byte_stands 32 (item_parts i ++ more) [] (item_before i more h)
slot_stands k slots.Caller e more parted h = spaced Endpoint (endpoint_text e) more parted h
slot_stands k slots.Mode mode more parted h = spaced Word (mode_word mode) more parted h
slot_stands k slots.Key key more parted h = spaced Name key.name (space ∷ part Word (kind_word key.kind) ∷ more) (inl refl) (spaced Word
    (kind_word key.kind) more parted h)
slot_stands k slots.Version v more parted h =
    let from_seq : List Part = part Number (decimal v.seq) ∷ more in
    byte_stands 32 (part Number (decimal v.epoch) ∷ byte 46 ∷ from_seq) []
    (part_stands (part Number (decimal v.epoch)) (byte 46 ∷ from_seq) [] refl
    (byte_stands 46 from_seq [] (before Number (decimal v.seq) more parted h)))
slot_stands k slots.Value v more parted h =
    let from_value : List Part = value_part v ∷ newline ∷ more in
    byte_stands 32 (byte 61 ∷ space ∷ from_value) []
    (byte_stands 61 (space ∷ from_value) []
    (spaced (value_part v).class (value_part v).text (newline ∷ more) (inr refl) (byte_stands 10 more [] h)))
slot_stands k slots.Owner name more parted h = spaced Name name more parted h
slot_stands k slots.Generation n more parted h = spaced Number (decimal n) more parted h
slot_stands k slots.Endpoint e more parted h = spaced Endpoint (endpoint_text e) more parted h
slot_stands k slots.Sub n more parted h = spaced Number (decimal n) more parted h
slot_stands k slots.Pattern text more parted h = spaced Quoted (quoted text) more parted h
slot_stands k slots.Kinds n more parted h = spaced Number (decimal n) more parted h
slot_stands k slots.Initial initial more parted h = spaced Word (initial_word initial) more parted h
slot_stands k slots.Max n more parted h = spaced Number (decimal n) more parted h
slot_stands k slots.Map n more parted h = spaced Number (decimal n) more parted h
slot_stands k slots.Ring n more parted h = spaced Number (decimal n) more parted h
slot_stands k slots.Side side more parted h = spaced Word (side_word side) more parted h
slot_stands k slots.Incarnation n more parted h = spaced Number (decimal n) more parted h
slot_stands k slots.Position n more parted h = spaced Number (decimal n) more parted h
slot_stands k slots.Message n more parted h = spaced Number (decimal n) more parted h
slot_stands k slots.Holder holder more parted h = spaced Word (holder_word holder) more parted h
slot_stands k slots.Count count more parted h = count_before count more parted h
slot_stands k slots.Scope scope more parted h = scope_before scope more parted h
slot_stands k slots.Range x more parted h = range_before x.0 x.1 more parted h
slot_stands k slots.Text text more parted h = byte_stands 32 ((text_parts text ++ newline ∷ []) ++ more) [] (text_before text more h)
slot_stands k slots.Request request more parted h = spaced Word (request_word request) more parted h
slot_stands k slots.Label name more parted h = spaced Name name more parted h
slot_stands k slots.Tick n more parted h = spaced Number (decimal n) more parted h
slot_stands k slots.Cause n more parted h = spaced Number (decimal n) more parted h
slot_stands k slots.Device device more parted h = device_before device more parted h
slot_stands k slots.Server server more parted h = spaced Word (server_word server) more parted h
slot_stands k slots.Id n more parted h = spaced Number (decimal n) more parted h
slot_stands k slots.Unit n more parted h = spaced Number (decimal n) more parted h
slot_stands k slots.End x more parted h = byte_stands 10 more [] h

slot_parted : (k : Kind) (s : Slot) (x : (piece_of k s).Of) (more : List Part) → Parted ((piece_of k s).parts x ++ more)
slot_parted k slots.End x more = inr refl
slot_parted k s x more = inl refl

-- ---- rows

row_parted : (k : Kind) (ss : List Slot) (x : (row_of k ss).Of) → Parted ((row_of k ss).parts x)
row_parted k [] x = inr refl
row_parted k (s ∷ []) x = subst Parted (append-nil ((piece_of k s).parts x)) (slot_parted k s x [])
row_parted k (s ∷ t ∷ ss) x = slot_parted k s x.0 ((row_of (kind_after k s x.0) (t ∷ ss)).parts x.1)

row_stands : (k : Kind) (ss : List Slot) (x : (row_of k ss).Of) → AllStand ((row_of k ss).parts x) []
row_stands k [] x = byte_stands 10 [] [] refl
row_stands k (s ∷ []) x = subst (λ (ps : List Part). AllStand ps []) (append-nil ((piece_of k s).parts x)) (slot_stands k s x [] tt refl)
row_stands k (s ∷ t ∷ ss) x =
    let more = row_of (kind_after k s x.0) (t ∷ ss) in
    slot_stands k s x.0 (more.parts x.1) (row_parted (kind_after k s x.0) (t ∷ ss) x.1) (row_stands (kind_after k s x.0) (t ∷ ss) x.1)

-- ---- commands

pub command_stands : (command : ScriptCommand) → AllStand (after_word command) []
command_stands command = row_stands U32 (slots_of (command_word command)) (fields_of command)

parted_ends : (ps : List Part) → Parted ps → Ends is_ascii_alphanumeric (texts ps)
parted_ends [] parted = tt
parted_ends (p ∷ ps) (inl e) = subst (λ (q : Part). Ends is_ascii_alphanumeric (texts (q ∷ ps))) (sym e) refl
parted_ends (p ∷ ps) (inr e) = subst (λ (q : Part). Ends is_ascii_alphanumeric (texts (q ∷ ps))) (sym e) refl

-- the command's word ends where they begin
pub command_parted : (command : ScriptCommand) → Ends is_ascii_alphanumeric (texts (after_word command))
command_parted command = parted_ends (after_word command) (row_parted U32 (slots_of (command_word command)) (fields_of command))
