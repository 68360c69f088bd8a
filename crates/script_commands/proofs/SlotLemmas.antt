-- Each slot of the table: some contents fit it, they are unique at a front, and none extends another.
use Rattle.std.proofs.Common.{ℕ, false, [], None, refl, sym, ◌∙◌, arith}
use Rattle.ds_names.specs.Endpoint.{endpoint_of}
use Rattle.ds_names.specs.Name.{rs_name}
use Rattle.ds_names.specs.declared.kind.Kind.{Kind}
use Rattle.ds_names.specs.declared.kind.Kind.TheVariants.{U32}
use Rattle.ds_names.specs.declared.key.Key.{Key}
use Rattle.ds_entry.specs.declared.body.Body.TheVariants.{Gone}
use Rattle.ds_entry.specs.Change.{change_of}
use Rattle.ds_entry.specs.Item.{IsItem}
use Rattle.ds_entry.specs.declared.item.Item.{Item}
use Rattle.ds_entry.specs.declared.item.Item.TheVariants.{Change as Changed}
use Rattle.ds_line.specs.ItemSpelling.{item_parts}
use Rattle.ds_line.specs.Piece.{Piece}
use Rattle.ds_line.proofs.LabelLemmas.{rs_is_name, version_of, some_value}
use Rattle.ds_line.proofs.LastValueLemmas.{some_value_of}
use Rattle.ds_line.proofs.ItemLemmas.{items_apart}
use Rattle.ds_line.proofs.PieceLemmas.{One, Fixed, stand_texts}
use Rattle.ds_machine.specs.declared.command.Scope.TheVariants.{All as AllKeys}
use Rattle.ds_replica.specs.declared.event.Side.TheVariants.{A}
use Rattle.ds_replica.specs.declared.event.Holder.TheVariants.{Store}
use Rattle.script_commands.specs.declared.slot.Slot.{Slot}
use Rattle.script_commands.specs.declared.slot.Slot.TheVariants as slots
use Rattle.script_commands.specs.Pieces.{a_key, a_version, IsVersion}
use Rattle.script_commands.specs.Table.{piece_of}
use Rattle.script_commands.specs.declared.service.Device.TheVariants.{Net}
use Rattle.script_commands.specs.declared.service.Request.TheVariants.{Up}
use Rattle.script_commands.specs.declared.service.Server.TheVariants.{Net as NetServer}
use Rattle.line_io.proofs.NewlineLemmas.{unbroken_none}
use Rattle.script_commands.proofs.OneLemmas.{one_byte, end_one, marked_one}
use Rattle.script_commands.proofs.OpenLemmas.{Apart}
use Rattle.script_commands.proofs.PieceLemmas.{endpoint_is, endpoint_one, mode_one, initial_one, name_one, key_one, generation_one}
use Rattle.script_commands.proofs.PieceLemmas.{version_one, number_one, place_one, kinds_one}
use Rattle.script_commands.proofs.QueryLemmas.{pattern_one}
use Rattle.script_commands.proofs.RangeLemmas.{range_one, range_apart}
use Rattle.script_commands.proofs.ScopeLemmas.{scope_one, scope_apart}
use Rattle.script_commands.proofs.ServicePieceLemmas.{text_one, request_one, server_one, unit_one}
use Rattle.script_commands.proofs.DeviceLemmas.{device_one, device_apart}
use Rattle.script_commands.proofs.WorldPieceLemmas.{ring_one, side_one, holder_one, count_one}

-- ---- items

-- an item, without the space before it
abbrev pub item_rest : Piece
item_rest = record { Of = Item; Can = IsItem; parts = item_parts }

abbrev some_key : Key
some_key = record { name = rs_name; kind = U32 }

some_version : IsVersion (version_of 0 0)
some_version = record { epoch = omega arith; seq = omega arith }

-- some item
abbrev pub some_item : Item
some_item = Changed (change_of some_key rs_name (version_of 0 0) Gone)

pub some_item_is : IsItem some_item
some_item_is = record { name = rs_is_name; owner = rs_is_name; epoch = omega arith; seq = omega arith; body = tt; kind = tt; rule = tt }

item_one : One item_rest
item_one i j bytes r s first second =
    let a = items_apart i j r s first.can second.can (sym (stand_texts (item_parts i) bytes r first.front) ∙ stand_texts
    (item_parts j) bytes s second.front) in
    (sym a.0, sym a.1)

-- ---- slots

-- some contents fit the slot
pub some_of : (k : Kind) (s : Slot) → (x : (piece_of k s).Of) × (piece_of k s).Can x
some_of k slots.Item = (some_item, some_item_is)
some_of k slots.Caller = (endpoint_of 0 0, endpoint_is)
some_of k slots.Mode = (false, tt)
some_of k slots.Key = (some_key, rs_is_name)
some_of k slots.Version = (version_of 0 0, some_version)
some_of k slots.Value = (some_value k, some_value_of k)
some_of k slots.Owner = (rs_name, rs_is_name)
some_of k slots.Endpoint = (endpoint_of 0 0, endpoint_is)
some_of k slots.Pattern = ([], unbroken_none)
some_of k slots.Kinds = (1, (omega arith, omega arith))
some_of k slots.Initial = (false, tt)
some_of k slots.Ring = (1, (omega arith, omega arith))
some_of k slots.Side = (A, tt)
some_of k slots.Holder = (Store A, tt)
some_of k slots.Count = (None, tt)
some_of k slots.Scope = (AllKeys, tt)
some_of k slots.Range = ((None, 0), (tt, omega arith))
some_of k slots.Text = ([], unbroken_none)
some_of k slots.Request = (Up, tt)
some_of k slots.Label = (rs_name, rs_is_name)
some_of k slots.Device = (Net 0, omega arith)
some_of k slots.Server = (NetServer, tt)
some_of k slots.End = (tt, tt)
some_of k s = (0, omega arith)

-- its contents are unique at a front
pub slot_one : (k : Kind) (s : Slot) → One (piece_of k s)
slot_one k slots.Item = one_byte 32 item_rest item_one
slot_one k slots.Caller = endpoint_one
slot_one k slots.Mode = mode_one
slot_one k slots.Key = key_one
slot_one k slots.Version = version_one
slot_one k slots.Value = marked_one k
slot_one k slots.Owner = name_one
slot_one k slots.Generation = generation_one
slot_one k slots.Endpoint = endpoint_one
slot_one k slots.Sub = number_one
slot_one k slots.Pattern = pattern_one
slot_one k slots.Kinds = kinds_one
slot_one k slots.Initial = initial_one
slot_one k slots.Max = number_one
slot_one k slots.Ring = ring_one
slot_one k slots.Side = side_one
slot_one k slots.Holder = holder_one
slot_one k slots.Count = count_one
slot_one k slots.Scope = scope_one
slot_one k slots.Range = range_one
slot_one k slots.Text = text_one
slot_one k slots.Request = request_one
slot_one k slots.Label = name_one
slot_one k slots.Device = device_one
slot_one k slots.Server = server_one
slot_one k slots.Unit = unit_one
slot_one k slots.End = end_one
slot_one k s = place_one

-- a slot that ends with the newline of its line
abbrev pub IsLast : Slot → Type 0
IsLast slots.Item = Unit {0}
IsLast slots.Value = Unit {0}
IsLast slots.Text = Unit {0}
IsLast slots.End = Unit {0}
IsLast s = ⊥

-- another slot can follow it
abbrev pub IsInner : Slot → Type 0
IsInner s = ¬ IsLast s

fixed_apart : (p : Piece) (n : ℕ) → Fixed p n → Apart p
fixed_apart p n fixed a b bytes r after f can lt h = omega (arith, lt, fixed a, fixed b)

-- none of its contents extends another
pub slot_apart : (k : Kind) (s : Slot) → IsInner s → Apart (piece_of k s)
slot_apart k slots.Item inner = absurd (inner tt)
slot_apart k slots.Key inner = fixed_apart a_key 4 (λ x. refl)
slot_apart k slots.Version inner = fixed_apart a_version 4 (λ x. refl)
slot_apart k slots.Value inner = absurd (inner tt)
slot_apart k slots.Scope inner = scope_apart
slot_apart k slots.Range inner = range_apart
slot_apart k slots.Text inner = absurd (inner tt)
slot_apart k slots.Device inner = device_apart
slot_apart k slots.End inner = absurd (inner tt)
slot_apart k s inner = fixed_apart (piece_of k s) 2 (λ x. refl)
