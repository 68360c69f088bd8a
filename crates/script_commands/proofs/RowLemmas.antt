-- The answer of a line's reader, which reads its slots in order.
use Rattle.std.proofs.Common.{◌≡◌, ◌≢◌, ℕ, ◌⊎◌, inl, inr, List, [], ◌∷◌, Result, Ok, Err, refl, sym, subst}
use Rattle.std.specs.Result.{IsErrAnd, MatchResult}
use Rattle.ds_names.specs.declared.kind.Kind.{Kind}
use Rattle.ds_names.specs.declared.kind.Kind.TheVariants.{U32}
use Rattle.ds_entry.specs.Change.{ValueCopyTakesMemory}
use Rattle.ds_entry.specs.Item.{ItemCopyTakesMemory}
use Rattle.ds_line.specs.Piece.{Piece, Found, StopsIn}
use Rattle.ds_line.specs.declared.part_fault.PartFault.{PartFault}
use Rattle.ds_line.specs.declared.part_fault.PartFault.TheVariants.{BadPart, NoRoom}
use Rattle.ds_line.proofs.PieceLemmas.{both_found}
use Rattle.script_commands.specs.declared.command.ScriptCommand.{ScriptCommand}
use Rattle.script_commands.specs.declared.slot.Slot.{Slot}
use Rattle.script_commands.specs.declared.slot.Slot.TheVariants as slots
use Rattle.script_commands.specs.declared.word.Word.{Word as CommandWord}
use Rattle.script_commands.specs.declared.word.Word.TheVariants as words
use Rattle.script_commands.specs.Command.{CommandTakesMemory}
use Rattle.script_commands.specs.Reads.{ReadsOr}
use Rattle.script_commands.specs.Row.{command_in, slot_wants, ReadsRow, GivesCommand, TakesRow}
use Rattle.script_commands.specs.Table.{slots_of, piece_of, kind_after, row_of, line_of}
use Rattle.script_commands.proofs.OpenLemmas.{open_first_stops, open_then_stops}
use Rattle.script_commands.proofs.SlotLemmas.{slot_one, IsInner, slot_apart}
use Rattle.script_commands.proofs.TableLemmas.{taken_by, IsRow, row_first, slots_are, row_some, line_found, line_stops}

-- ---- the memory of a row

-- the contents of the slot take memory
abbrev IsBig : (k : Kind) (s : Slot) → (piece_of k s).Of → Type 0
IsBig k slots.Item i = ItemCopyTakesMemory i
IsBig k slots.Value value = ValueCopyTakesMemory value
IsBig k s x = ⊥

-- as do those of the last slot of a row
abbrev EndsBig : (k : Kind) (ss : List Slot) → (row_of k ss).Of → Type 0
EndsBig k [] x = ⊥
EndsBig k (s ∷ []) x = IsBig k s x
EndsBig k (s ∷ t ∷ ss) x = EndsBig (kind_after k s x.0) (t ∷ ss) x.1

big_takes : (w : CommandWord) (x : (line_of w).Of) → EndsBig U32 (slots_of w) x → CommandTakesMemory (command_in w x)
big_takes words.Offer x big = big
big_takes words.Publish x big = big
big_takes w x big = absurd big

inner_wants : (k : Kind) (s : Slot) (bytes : List ℕ) → IsInner s → ¬ slot_wants k s bytes
inner_wants k slots.Item bytes inner wants = absurd (inner tt)
inner_wants k slots.Value bytes inner wants = absurd (inner tt)
inner_wants k s bytes inner wants = wants

big_stands : (k : Kind) (s : Slot) (bytes : List ℕ) → slot_wants k s bytes
    → (x : (piece_of k s).Of) × (rest : List ℕ) × Found (piece_of k s) x bytes rest × IsBig k s x
big_stands k slots.Item bytes wants = wants
big_stands k slots.Value bytes wants = wants
big_stands k s bytes wants = absurd wants

-- ---- the result of reading a row

-- all of its contents are there
record Filled (k : Kind) (ss : List Slot) (bytes : List ℕ) (done : (row_of k ss).Of → Type 0) : Type 0 where
  fields : (row_of k ss).Of
  rest : List ℕ
  found : Found (row_of k ss) fields bytes rest
  told : done fields

-- or they can't be read from some part on, or memory runs out for the last one
record Broken (k : Kind) (ss : List Slot) (bytes : List ℕ) (failed : PartFault → Type 0) : Type 0 where
  stop : PartFault
  at : StopsIn (row_of k ss) stop bytes
  big : stop ≡ NoRoom → (x : (row_of k ss).Of) × (rest : List ℕ) × Found (row_of k ss) x bytes rest × EndsBig k ss x
  told : failed stop

last_comes : (k : Kind) (s : Slot) (bytes : List ℕ) (done : (piece_of k s).Of → Type 0) (failed : PartFault → Type 0)
    (r : Result (piece_of k s).Of PartFault) (rest : List ℕ) → ReadsOr (slot_wants k s bytes) (piece_of k s) bytes r rest
    → MatchResult r done failed → Filled k (s ∷ []) bytes done ⊎ Broken k (s ∷ []) bytes failed
unfolding ReadsOr
last_comes k s bytes done failed (Ok x) rest reads told = inl (record { fields = x; rest = rest; found = reads.found; told = told })
last_comes k s bytes done failed (Err stop) rest reads told =
    inr (record { stop = stop; at = reads.stop; big = λ is. big_stands k s bytes (reads.room is); told = told })

-- after a slot that is read
after_comes : (k : Kind) (s t : Slot) (ss : List Slot) (bytes rest : List ℕ) (x : (piece_of k s).Of)
    (done : (row_of k (s ∷ t ∷ ss)).Of → Type 0) (failed : PartFault → Type 0) → IsInner s → Found (piece_of k s) x bytes rest
    → Filled (kind_after k s x) (t ∷ ss) rest (λ y. done (x, y)) ⊎ Broken (kind_after k s x) (t ∷ ss) rest failed
    → Filled k (s ∷ t ∷ ss) bytes done ⊎ Broken k (s ∷ t ∷ ss) bytes failed
after_comes k s t ss bytes rest x done failed inner found comes =
    let more : (piece_of k s).Of → Piece = λ y. row_of (kind_after k s y) (t ∷ ss) in
    elim comes [
      | inl f ↦ inl (record {
        fields = (x, f.fields);
        rest = f.rest;
        found = both_found (piece_of k s) more x f.fields bytes rest f.rest found f.found;
        told = f.told;
      })
      | inr b ↦ inr (record {
        stop = b.stop;
        at = open_then_stops (piece_of k s) more b.stop x bytes rest (slot_apart k s inner) (slot_one k s) found b.at;
        big = λ is. let y = b.big is in ((x, y.0), y.1, both_found (piece_of k s) more x y.0 bytes rest y.1 found y.2, y.3);
        told = b.told;
      })
    ]

first_comes : (k : Kind) (s t : Slot) (ss : List Slot) (bytes : List ℕ) (done : (row_of k (s ∷ t ∷ ss)).Of → Type 0)
    (failed : PartFault → Type 0) → IsInner s
    → (r : Result (piece_of k s).Of PartFault) (rest : List ℕ) → ReadsOr (slot_wants k s bytes) (piece_of k s) bytes r rest
    → (More : (piece_of k s).Of → Type 0)
    → ((x : (piece_of k s).Of) → More x
    → Filled (kind_after k s x) (t ∷ ss) rest (λ y. done (x, y)) ⊎ Broken (kind_after k s x) (t ∷ ss) rest failed)
    → MatchResult r More failed → Filled k (s ∷ t ∷ ss) bytes done ⊎ Broken k (s ∷ t ∷ ss) bytes failed
unfolding ReadsOr
first_comes k s t ss bytes done failed inner (Ok x) rest reads More comes told =
    after_comes k s t ss bytes rest x done failed inner reads.found (comes x told)
first_comes k s t ss bytes done failed inner (Err stop) rest reads More comes told =
    let none : stop ≢ NoRoom = λ is. inner_wants k s bytes inner (reads.room is) in
    inr (record {
      stop = stop;
      at = open_first_stops (piece_of k s) (λ y. row_of (kind_after k s y) (t ∷ ss)) stop bytes
          (λ y can. row_some (kind_after k s y) (t ∷ ss)) none reads.stop;
      big = λ is. absurd (none is);
      told = told;
    })

row_comes : (k : Kind) (ss : List Slot) (bytes : List ℕ) (done : (row_of k ss).Of → Type 0) (failed : PartFault → Type 0) → IsRow ss
    → ReadsRow k ss bytes done failed → Filled k ss bytes done ⊎ Broken k ss bytes failed
row_comes k [] bytes done failed row reads = absurd row
row_comes k (s ∷ []) bytes done failed row reads = last_comes k s bytes done failed reads.0 reads.1 reads.2 reads.3
row_comes k (s ∷ t ∷ ss) bytes done failed row reads =
    let first = row_first s t ss row in
    first_comes k s t ss bytes done failed first.0 reads.0 reads.1 reads.2 _
    (λ x more. row_comes (kind_after k s x) (t ∷ ss) reads.1 (λ y. done (x, y)) failed first.1 more) reads.3

-- ---- the answer of a line's reader

-- for the commands of its word
abbrev pub TakesCommand : CommandWord → List ℕ → Result ScriptCommand PartFault → Type 0
TakesCommand w bytes (Ok command) = (rest : List ℕ) × Found (taken_by w) command bytes rest
TakesCommand w bytes (Err (BadPart left)) = StopsIn (taken_by w) (BadPart left) bytes
TakesCommand w bytes (Err NoRoom) =
    (command : ScriptCommand) × (rest : List ℕ) × Found (taken_by w) command bytes rest × CommandTakesMemory command

-- the reader answers the reason
answers_stop : (w : CommandWord) (bytes : List ℕ) (result : Result ScriptCommand PartFault) (stop : PartFault)
    → IsErrAnd result (λ (it : PartFault). it ≡ stop) → TakesCommand w bytes (Err stop) → TakesCommand w bytes result
answers_stop w bytes (Ok command) stop exit takes = absurd exit
answers_stop w bytes (Err it) stop exit takes = subst (λ (x : PartFault). TakesCommand w bytes (Err x)) (sym exit) takes

-- the reader answers the command, or that memory ran out for it
answers_command : (w : CommandWord) (bytes after : List ℕ) (result : Result ScriptCommand PartFault) (command : ScriptCommand)
    → Found (taken_by w) command bytes after → GivesCommand command result → TakesCommand w bytes result
answers_command w bytes after (Ok given) command f same = (after, subst (λ (x : ScriptCommand). Found (taken_by w) x bytes after) same f)
answers_command w bytes after (Err it) command f big =
    subst (λ (x : PartFault). TakesCommand w bytes (Err x)) (sym big.0) (command, after, f, big.1)

-- the line can't be read, or memory runs out for its command
stops_line : (w : CommandWord) (bytes : List ℕ) (stop : PartFault) → StopsIn (line_of w) stop bytes
    → (stop ≡ NoRoom → (x : (line_of w).Of) × (rest : List ℕ) × Found (line_of w) x bytes rest × EndsBig U32 (slots_of w) x)
    → TakesCommand w bytes (Err stop)
stops_line w bytes (BadPart left) at big = line_stops w left bytes at
stops_line w bytes NoRoom at big =
    let x = big refl in (command_in w x.0, x.1, line_found w x.0 bytes x.1 x.2, big_takes w x.0 x.3)

-- a line whose slots are read is read as the command that they make
pub takes_row : (w : CommandWord) (bytes : List ℕ) (result : Result ScriptCommand PartFault) → TakesRow w bytes result →
    TakesCommand w bytes result
unfolding TakesRow
takes_row w bytes result reads =
    elim (row_comes U32 (slots_of w) bytes (λ x. GivesCommand (command_in w x) result) (λ stop. IsErrAnd result (λ it. it ≡ stop))
    (slots_are w) reads) [
      | inl f ↦ answers_command w bytes f.rest result (command_in w f.fields) (line_found w f.fields bytes f.rest f.found) f.told
      | inr b ↦ answers_stop w bytes result b.stop b.told (stops_line w bytes b.stop b.at b.big)
    ]
