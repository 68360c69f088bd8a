-- Each command's line by the table: its row of slots.
use Rattle.std.proofs.Common.{◌≡◌, ℕ, List, [], ◌∷◌, refl, ap, subst}
use Rattle.ds_names.specs.declared.kind.Kind.{Kind}
use Rattle.ds_names.specs.declared.kind.Kind.TheVariants.{U32}
use Rattle.ds_line.specs.Piece.{Piece, Found, StopsIn}
use Rattle.ds_line.specs.declared.part_fault.PartFault.TheVariants.{BadPart}
use Rattle.ds_line.proofs.PieceLemmas.{One, Views, view_found, view_stops}
use Rattle.ds_machine.specs.declared.command.Command.TheVariants.{Merge}
use Rattle.script_commands.specs.declared.command.ScriptCommand.{ScriptCommand}
use Rattle.script_commands.specs.declared.command.ScriptCommand.TheVariants.{Offer, Store}
use Rattle.script_commands.specs.declared.slot.Slot.{Slot}
use Rattle.script_commands.specs.declared.slot.Slot.TheVariants as slots
use Rattle.script_commands.specs.declared.word.Word.{Word as CommandWord}
use Rattle.script_commands.specs.declared.word.Word.TheVariants as words
use Rattle.script_commands.specs.Command.{row_for, command_word, fields_of, after_word, IsCommand}
use Rattle.script_commands.specs.Row.{command_in}
use Rattle.script_commands.specs.Table.{slots_of, piece_of, kind_after, row_of, line_of}
use Rattle.script_commands.proofs.OneLemmas.{one_after, one_view}
use Rattle.script_commands.proofs.SlotLemmas.{some_of, slot_one, IsLast, IsInner}

-- ---- the command of a word and of its slots' contents

-- it is a command of that word, with those contents
pub made : (w : CommandWord) (x : (line_of w).Of) → (line_of w).Can x → IsCommand (command_in w x) × (row_for (command_in w x) ≡ (w, x))
made words.Offer x can = (can, refl)
made w x can = (can, refl)

-- ---- the contents of a command's slots

-- they are of the word's slots
record Row (m : ScriptCommand) (w : CommandWord) : Type 0 where
  fields : (line_of w).Of
  can : (line_of w).Can fields
  parts : (line_of w).parts fields ≡ after_word m
  back : command_in w fields ≡ m

-- they are valid, and make the command
pub fields_fit : (m : ScriptCommand) → IsCommand m →
    (line_of (command_word m)).Can (fields_of m) × (command_in (command_word m) (fields_of m) ≡ m)
fields_fit (Offer i) is = (is, refl)
fields_fit (Store (Merge items)) is = absurd is
fields_fit m is = (is, refl)

word_row : (w : CommandWord) (m : ScriptCommand) → IsCommand m → command_word m ≡ w → Row m w
word_row w m is same =
    let fit = fields_fit m is in
    subst (λ (v : CommandWord). Row m v) same (record { fields = fields_of m; can = fit.0; parts = refl; back = fit.1 })

-- the contents of a word's commands
abbrev pub taken_by : CommandWord → Piece
taken_by w = record { Of = ScriptCommand; Can = λ (m : ScriptCommand). IsCommand m × (command_word m ≡ w); parts = after_word }

-- they are what its slots may hold
view_of : (w : CommandWord) → Views (line_of w) (taken_by w)
view_of w = record {
  to = command_in w;
  can = λ x can. let m = made w x can in (m.0, ap (λ (r : (v : CommandWord) × (line_of v).Of). r.0) m.1);
  parts = λ x can. ap (λ (r : (v : CommandWord) × (line_of v).Of). (line_of r.0).parts r.1) (made w x can).1;
  from = λ m is. let r = word_row w m is.0 is.1 in (r.fields, r.can, r.parts);
}

-- the slots' contents are a line of the word's; if there is no such line, the slots say why
pub line_found : (w : CommandWord) (x : (line_of w).Of) (bytes rest : List ℕ) → Found (line_of w) x bytes rest
    → Found (taken_by w) (command_in w x) bytes rest
unfolding view_of
line_found w x bytes rest f = view_found (line_of w) (taken_by w) (view_of w) x bytes rest f

pub line_stops : (w : CommandWord) (left : ℕ) (bytes : List ℕ) → StopsIn (line_of w) (BadPart left) bytes
    → StopsIn (taken_by w) (BadPart left) bytes
line_stops w left bytes s = view_stops (line_of w) (taken_by w) (view_of w) (BadPart left) bytes s

-- ---- rows of slots

-- its last slot ends with the newline, and no other does
abbrev pub IsRow : List Slot → Type 0
IsRow [] = ⊥
IsRow (s ∷ []) = IsLast s
IsRow (slots.Item ∷ t ∷ ss) = ⊥
IsRow (slots.Value ∷ t ∷ ss) = ⊥
IsRow (slots.Text ∷ t ∷ ss) = ⊥
IsRow (slots.End ∷ t ∷ ss) = ⊥
IsRow (s ∷ t ∷ ss) = IsRow (t ∷ ss)

pub row_first : (s t : Slot) (ss : List Slot) → IsRow (s ∷ t ∷ ss) → IsInner s × IsRow (t ∷ ss)
row_first slots.Item t ss is = absurd is
row_first slots.Value t ss is = absurd is
row_first slots.Text t ss is = absurd is
row_first slots.End t ss is = absurd is
row_first s t ss is = (λ last. last, is)

pub slots_are : (w : CommandWord) → IsRow (slots_of w)
slots_are words.Offer = tt
slots_are w = tt

-- some contents fit the row
pub row_some : (k : Kind) (ss : List Slot) → (x : (row_of k ss).Of) × (row_of k ss).Can x
row_some k [] = (tt, tt)
row_some k (s ∷ []) = some_of k s
row_some k (s ∷ t ∷ ss) = let x = some_of k s in let more = row_some (kind_after k s x.0) (t ∷ ss) in ((x.0, more.0), (x.1, more.1))

row_one : (k : Kind) (ss : List Slot) → One (row_of k ss)
row_one k [] = slot_one k slots.End
row_one k (s ∷ []) = slot_one k s
row_one k (s ∷ t ∷ ss) = one_after (piece_of k s) (λ (x : (piece_of k s).Of). row_of (kind_after k s x) (t ∷ ss)) (slot_one k s)
    (λ x. row_one (kind_after k s x) (t ∷ ss))

-- two commands of a word at one front are the same
pub word_one : (w : CommandWord) → One (taken_by w)
unfolding view_of
word_one w = one_view (line_of w) (taken_by w) (view_of w) (row_one U32 (slots_of w)) (λ m is. (word_row w m is.0 is.1).back)
