-- Lines with an item after their word.
use Rattle.std.proofs.Common.{◌≡◌, ◌≢◌, ℕ, ◌-◌, ◌≤◌, List, ◌∷◌, ◌++◌, length, take, drop, Option, None, Some, Ok, Err, refl, sym, ap, subst}
use Rattle.std.proofs.Common.{◌∙◌, arith, take-append-drop}
use Rattle.ds_entry.specs.Item.{IsItem}
use Rattle.ds_entry.specs.declared.item.Item.{Item}
use Rattle.ds_entry.specs.declared.item.Item.TheVariants.{Change as Changed, Floor as Floored}
use Rattle.ds_line.specs.ItemSpelling.{item_parts, item_spelling}
use Rattle.ds_line.specs.ItemFault.{IsItemFault}
use Rattle.ds_line.specs.ItemReading.{ReadsItemLine}
use Rattle.ds_line.specs.FaultPlace.{Stand, ItemLineTakesMemory}
use Rattle.ds_line.specs.Piece.{Found, StopsIn}
use Rattle.ds_line.specs.declared.part_fault.PartFault.{PartFault}
use Rattle.ds_line.specs.declared.part_fault.PartFault.TheVariants.{BadPart, NoRoom}
use Rattle.ds_line.proofs.LineLemmas.{AllStand, change_stands}
use Rattle.ds_line.proofs.ItemLemmas.{floor_stands}
use Rattle.ds_line.proofs.PieceLemmas.{byte_found, byte_stops, stand_texts}
use Rattle.script_commands.specs.Fast.{OfPlaced}
use Rattle.script_commands.specs.declared.command.ScriptCommand.TheVariants.{Offer}
use Rattle.script_commands.specs.declared.word.Word.TheVariants as words
use Rattle.script_commands.specs.Row.{ItemTakesMemory, TakesRow}
use Rattle.script_commands.specs.Table.{an_item}
use Rattle.script_commands.proofs.PieceLemmas.{no_byte, no_want}
use Rattle.script_commands.proofs.ReadsLemmas.{finds, misses}
use Rattle.script_commands.proofs.SlotLemmas.{item_rest, some_item, some_item_is}

-- the item can't be read from the place on
no_item : (bytes text : List ℕ) (place : ℕ) → bytes ≡ 32 ∷ text → IsItemFault text place
    → StopsIn an_item (BadPart (length text - place)) bytes
no_item bytes text place space fault =
    byte_stops 32 item_rest (BadPart (length text - place)) bytes text space (
      fault.first.rest,
      record {
        count = fault.first.stops.count;
        thing = fault.first.stops.read.member;
        can = fault.first.stops.read.is;
        front = fault.first.stops.read.front;
        most = λ i after is h. fault.first.stops.most after (record { member = i; is = is; front = h });
        none = λ i after is h. fault.none i after is (stand_texts (item_parts i) text after h);
      },
      omega (arith, fault.first.begins),
    )

-- the item can't be read, or memory runs out for it
offer_stops : (bytes : List ℕ) (stop : PartFault) → (stop ≡ NoRoom → ItemTakesMemory bytes) → StopsIn an_item stop bytes
    → TakesRow words.Offer bytes (Err stop)
unfolding TakesRow
offer_stops bytes stop room s = (Err stop, bytes, misses an_item bytes bytes room s, refl)

pub offer_no_space : (stop : PartFault) (bytes : List ℕ) → stop ≡ BadPart (length bytes) → ((rest : List ℕ) → bytes ≢ 32 ∷ rest)
    → TakesRow words.Offer bytes (Err stop)
offer_no_space stop bytes at none =
    offer_stops bytes stop (λ room. absurd (no_want stop (length bytes) at room))
    (no_byte 32 item_rest some_item stop bytes some_item_is at none)

pub offer_no_item : (bytes text : List ℕ) (place : ℕ) → bytes ≡ 32 ∷ text → IsItemFault text place
    → TakesRow words.Offer bytes (Err (BadPart (length text - place)))
offer_no_item bytes text place space fault =
    offer_stops bytes (BadPart (length text - place))
    (λ room. absurd (no_want (BadPart (length text - place)) (length text - place) refl room))
    (no_item bytes text place space fault)

pub place_fits : (text : List ℕ) (place : ℕ) → IsItemFault text place → place ≤ length text
place_fits text place fault = omega (arith, fault.first.begins)

-- an item is readable from its parts
pub item_stands : (i : Item) (rest : List ℕ) → AllStand (item_parts i) rest
item_stands (Changed c) rest = change_stands c rest
item_stands (Floored f) rest = floor_stands f rest

item_line_stands : (i : Item) (bytes rest : List ℕ) → bytes ≡ item_spelling i ++ rest
    → Stand (length (item_parts i)) (item_parts i) bytes rest
item_line_stands i bytes rest eq = subst (λ (x : List ℕ). Stand (length (item_parts i)) (item_parts i) x rest) (sym eq) (item_stands i rest)

item_found : (bytes text rest : List ℕ) (i : Item) → bytes ≡ 32 ∷ text → IsItem i → text ≡ item_spelling i ++ rest
    → Found an_item i bytes rest
item_found bytes text rest i space line is = byte_found 32 item_rest i bytes text rest space (record
    { can = line; front = item_line_stands i text rest is })

-- the item is read
pub offer_found : (bytes text : List ℕ) (i : Item) (n : ℕ) → bytes ≡ 32 ∷ text → IsItem i → take n text ≡ item_spelling i
    → TakesRow words.Offer bytes (Ok (Offer i))
unfolding TakesRow
offer_found bytes text i n space line is =
    let found = item_found bytes text (drop n text) i space line
    (sym (take-append-drop n text) ∙ ap (λ (t : List ℕ). t ++ drop n text) is) in
    (Ok i, drop n text, finds (ItemTakesMemory bytes) found, refl)

-- memory runs out for the item
pub offer_no_room : (bytes text : List ℕ) → bytes ≡ 32 ∷ text → ItemLineTakesMemory text → TakesRow words.Offer bytes (Err NoRoom)
offer_no_room bytes text space room =
    let found = item_found bytes text room.rest (Changed room.change) space room.line room.front in
    offer_stops bytes NoRoom (λ _. (Changed room.change, room.rest, found, room.value)) (Changed room.change, room.rest, found)

-- ---- into a place

pub item_placed : (bytes text : List ℕ) (len : ℕ) (placed : Option Item) → bytes ≡ 32 ∷ text → ReadsItemLine text (Ok len) placed
    → OfPlaced PartFault (TakesRow words.Offer bytes) (Ok tt) placed
item_placed bytes text len (Some i) space h = offer_found bytes text i len space h.0 h.1
item_placed bytes text len None space h = absurd h
