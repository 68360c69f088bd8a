-- Items read and written: a line is a change's or a floor's by its first byte.
use Rattle.std.proofs.Common.{◌≡◌, ◌≢◌, ℕ, zero, suc, ◌+◌, true, false, List, [], ◌∷◌, ◌++◌, length, get_or, Option, None, Some, Result, Ok}
use Rattle.std.proofs.Common.{Err, refl, sym, ap, subst, ◌∙◌, arith}
use Rattle.std.specs.List.{list_all}
use Rattle.std.specs.Fmt.{decimal}
use Rattle.std.proofs.lemmas.Bool.{false≢true, and_parts}
use Rattle.std.proofs.lemmas.Fmt.{decimal_injective}
use Rattle.ds_names.specs.Name.{is_name_byte, IsName}
use Rattle.ds_entry.specs.Change.{ChangeRecord, IsChange}
use Rattle.ds_entry.specs.Floor.{floor_of, IsFloor}
use Rattle.ds_entry.specs.Item.{IsItem}
use Rattle.ds_entry.specs.declared.floor.Floor.{Floor}
use Rattle.ds_entry.specs.declared.item.Item.{Item}
use Rattle.ds_entry.specs.declared.item.Item.TheVariants.{Change as Changed, Floor as Floored}
use Rattle.ds_line.specs.Part.{Name, Number, Part, part}
use Rattle.ds_line.specs.Spelling.{space, newline, change_parts, spelling}
use Rattle.ds_line.specs.ItemSpelling.{floor_parts, item_parts, item_spelling}
use Rattle.ds_line.specs.FaultPlace.{Stand, IsFaultPlace}
use Rattle.ds_line.specs.Piece.{Breaks}
use Rattle.ds_line.specs.FloorPiece.{a_floor}
use Rattle.ds_line.specs.ItemReading.{ReadsItemLine}
use Rattle.ds_line.specs.Reading.{ReadsChangeLine}
use Rattle.ds_line.specs.ItemFault.{HasNoItem, IsItemFault, IsItemFaultIn}
use Rattle.ds_line.specs.FaultPlace.{IsFaultIn}
use Rattle.line_io.specs.Lines.{EndsLine}
use Rattle.ds_line.specs.declared.fault.LineFault.{LineFault}
use Rattle.ds_line.specs.declared.fault.LineFault.TheVariants.{BadLine, NoRoom}
use Rattle.ds_line.proofs.OpeningLemmas.{text_at}
use Rattle.ds_line.proofs.LineLemmas.{AllStand, byte_stands, name_stands, part_stands, line_stands}
use Rattle.ds_line.proofs.ApartLemmas.{same_parts, change_texts, changes_alike, apart}
use Rattle.ds_line.proofs.NewlineLemmas.{ends_then, ends_after_byte, ends_after_space, newline_ends, unbroken_name, unbroken_decimal}
use Rattle.ds_line.proofs.NewlineLemmas.{line_ends}
use Rattle.ds_line.proofs.PlaceLemmas.{alike_agree, same_rest, LeavesOne, one_place_by}
use Rattle.ds_line.proofs.FloorLemmas.{floor_texts, floors_alike, floors_rest}

-- ---- the first byte

mark_is_none : is_name_byte 33 ≡ false
unfolding is_name_byte
mark_is_none = refl

-- no name begins with `!`
pub name_opens : (n rest more : List ℕ) → IsName n → n ++ rest ≢ 33 ∷ more
name_opens [] rest more is = λ same. absurd (omega (arith, is.some))
name_opens (b ∷ n) rest more is = λ same.
    let first : b ≡ 33 = ap (λ (l : List ℕ). get_or l 0 0) same in
    let allowed : is_name_byte b ≡ true = (and_parts (is_name_byte b) (list_all is_name_byte n) is.allowed).0 in
    false≢true (sym mark_is_none ∙ ap is_name_byte (sym first) ∙ allowed)

-- No part of a change begins with `!`.
no_change_there : (c : ChangeRecord) (k : ℕ) (bytes more after : List ℕ) → IsChange c → bytes ≡ 33 ∷ more →
    ¬ Stand (suc k) (change_parts c) bytes after
no_change_there c k bytes more after is mark h = name_opens c.key.name h.0 more is.name (sym h.1.parts ∙ mark)

no_change_line : (c : ChangeRecord) (bytes more rest : List ℕ) → IsChange c → bytes ≡ 33 ∷ more → bytes ≢ spelling c ++ rest
no_change_line c bytes more rest is mark = λ eq.
    (let h = line_stands c bytes rest eq in name_opens c.key.name h.0 more is.name (sym h.1.parts ∙ mark))

-- Where a part of a floor is, `!` is.
floor_there : (f : Floor) (k : ℕ) (bytes after : List ℕ) → Stand (suc k) (floor_parts f) bytes after → (more : List ℕ) × (bytes ≡ 33 ∷ more)
floor_there f k bytes after h = (h.0, h.1.parts)

-- ---- what is spelled is there

pub floor_stands : (f : Floor) (rest : List ℕ) → AllStand (floor_parts f) rest
floor_stands f rest =
    let from_owner : List Part = part Name f.owner ∷ space ∷ part Number (decimal f.generation) ∷ newline ∷ [] in
    byte_stands 33 (space ∷ from_owner) rest
    (byte_stands 32 from_owner rest
    (name_stands f.owner (part Number (decimal f.generation) ∷ newline ∷ []) rest
    (byte_stands 32 (part Number (decimal f.generation) ∷ newline ∷ []) rest
    (part_stands (part Number (decimal f.generation)) (newline ∷ []) rest refl
    (byte_stands 10 [] rest refl)))))

floor_line_stands : (f : Floor) (bytes rest : List ℕ) → bytes ≡ item_spelling (Floored f) ++ rest → Stand 6 (floor_parts f) bytes rest
floor_line_stands f bytes rest eq = subst (λ (x : List ℕ). Stand 6 (floor_parts f) x rest) (sym eq) (floor_stands f rest)

-- ---- faults

-- Where there is no `!`, the fault of a change is the fault of an item.
pub change_faults : (fault : LineFault) (bytes : List ℕ) → ((more : List ℕ) → bytes ≢ 33 ∷ more) → IsFaultIn fault bytes →
    IsItemFaultIn fault bytes
change_faults NoRoom bytes other h = h
change_faults (BadLine place) bytes other h =
    record {
      none = no_item;
      first = record {
        rest = h.first.rest;
        stops = record {
          count = h.first.stops.count;
          read = record { member = Changed h.first.stops.read.member; is = h.first.stops.read.is; front = h.first.stops.read.front };
          most = λ after can. no_more after can.member can.is can.front;
        };
        begins = h.first.begins;
      };
    }
  where
    no_item : HasNoItem bytes
    no_item (Changed c) rest is eq = h.none c rest is eq
    no_item (Floored f) rest is eq = other _ eq

    no_more : (after : List ℕ) (i : Item) → IsItem i → ¬ Stand (suc h.first.stops.count) (item_parts i) bytes after
    no_more after (Changed c) is st = h.first.stops.most after (record { member = c; is = is; front = st })
    no_more after (Floored f) is st = let t = floor_there f h.first.stops.count bytes after st in other t.0 t.1

-- And so is what a change's reader stored.
pub change_line : (bytes : List ℕ) (result : Result ℕ LineFault) (placed : Option Item) → ((more : List ℕ) → bytes ≢ 33 ∷ more)
    → ReadsChangeLine bytes result placed → ReadsItemLine bytes result placed
change_line bytes (Ok len) (Some (Changed c)) other h = h
change_line bytes (Ok len) (Some (Floored f)) other h = absurd h
change_line bytes (Ok len) None other h = absurd h
change_line bytes (Err fault) placed other h = change_faults fault bytes other h

-- Where `!` is, the fault of a floor is the fault of an item.
pub floor_faults : (bytes more rest : List ℕ) (place : ℕ) → bytes ≡ 33 ∷ more → Breaks a_floor bytes rest →
    place + length rest ≡ length bytes → IsItemFault bytes place
floor_faults bytes more rest place mark b begins =
    record {
      none = no_item;
      first = record {
        rest = rest;
        stops = record {
          count = b.count;
          read = record { member = Floored b.thing; is = b.can; front = b.front };
          most = λ after can. no_more after can.member can.is can.front;
        };
        begins = begins;
      };
    }
  where
    no_item : HasNoItem bytes
    no_item (Changed c) after is eq = no_change_line c bytes more after is mark eq
    no_item (Floored f) after is eq = b.none f after is (floor_line_stands f bytes after eq)

    no_more : (after : List ℕ) (i : Item) → IsItem i → ¬ Stand (suc b.count) (item_parts i) bytes after
    no_more after (Changed c) is st = no_change_there c b.count bytes more after is mark st
    no_more after (Floored f) is st = b.most f after is st

-- ---- one place

items_leave_one : LeavesOne IsItem item_parts
items_leave_one (Changed c) (Changed d) count bytes r s is_c is_d a b =
    same_rest count (change_parts c) (change_parts d) bytes r s (change_texts c is_c) (change_texts d is_d)
    (alike_agree (change_parts c) (change_parts d) (changes_alike c d is_c is_d)) a b
items_leave_one (Floored f) (Floored g) count bytes r s is_f is_g a b = floors_rest f g count bytes r s is_f is_g a b
items_leave_one (Changed c) (Floored g) zero bytes r s is_c is_g a b = sym a ∙ b
items_leave_one (Changed c) (Floored g) (suc k) bytes r s is_c is_g a b = let t = floor_there g k bytes s b in
    absurd (no_change_there c k bytes t.0 r is_c t.1 a)
items_leave_one (Floored f) (Changed d) zero bytes r s is_f is_d a b = sym a ∙ b
items_leave_one (Floored f) (Changed d) (suc k) bytes r s is_f is_d a b = let t = floor_there f k bytes r a in
    absurd (no_change_there d k bytes t.0 s is_d t.1 b)

pub one_item_place : (bytes : List ℕ) (p q : ℕ) → IsFaultPlace IsItem item_parts bytes p → IsFaultPlace IsItem item_parts bytes q → p ≡ q
one_item_place = one_place_by IsItem item_parts items_leave_one

-- ---- lines differ

floor_one : (f g : Floor) → IsFloor f → IsFloor g → floor_parts f ≡ floor_parts g → f ≡ g
floor_one f g is_f is_g eq =
    let generation : f.generation ≡ g.generation =
    decimal_injective f.generation g.generation (omega (arith, is_f.generation)) (omega (arith, is_g.generation)) (ap (text_at 4) eq) in
    ap (λ (o : List ℕ). floor_of o f.generation) (ap (text_at 2) eq) ∙ ap (λ (n : ℕ). floor_of g.owner n) generation

pub items_apart : (i j : Item) (r s : List ℕ) → IsItem i → IsItem j → item_spelling i ++ r ≡ item_spelling j ++ s → (i ≡ j) × (r ≡ s)
items_apart (Changed c) (Changed d) r s is_c is_d eq = let a = apart c d r s is_c is_d eq in (ap Changed a.0, a.1)
items_apart (Floored f) (Floored g) r s is_f is_g eq =
    let bytes : List ℕ = item_spelling (Floored f) ++ r in
    let same = same_parts (floor_parts f) (floor_parts g) bytes r s (floor_texts f is_f) (floor_texts g is_g) (floors_alike f g)
    (floor_line_stands f bytes r refl) (floor_line_stands g bytes s eq) in
    (ap Floored (floor_one f g is_f is_g same.0), same.1)
items_apart (Changed c) (Floored g) r s is_c is_g eq = absurd (no_change_line c (spelling c ++ r) _ r is_c eq refl)
items_apart (Floored f) (Changed d) r s is_f is_d eq = absurd (no_change_line d (spelling d ++ s) _ s is_d (sym eq) refl)

pub one_item : (i j : Item) → IsItem i → IsItem j → item_spelling i ≡ item_spelling j → i ≡ j
one_item i j is_i is_j eq = (items_apart i j [] [] is_i is_j (ap (λ (x : List ℕ). x ++ []) eq)).0

-- ---- newlines

pub item_ends : (i : Item) → IsItem i → EndsLine (item_spelling i)
item_ends (Changed c) is = line_ends c is
item_ends (Floored f) is =
    let from_generation : List Part = part Number (decimal f.generation) ∷ newline ∷ [] in
    let from_owner : List Part = part Name f.owner ∷ space ∷ from_generation in
    ends_after_byte 33 (space ∷ from_owner) (λ same. omega (arith, same))
    (ends_after_space from_owner
    (ends_then (part Name f.owner) (space ∷ from_generation) (unbroken_name f.owner is.owner.allowed)
    (ends_after_space from_generation
    (ends_then (part Number (decimal f.generation)) (newline ∷ []) (unbroken_decimal f.generation (omega (arith, is.generation)))
    newline_ends))))
