-- The parts of a request, each of which may be out of range, and the commands with such parts.
use Rattle.std.specs.Prelude.{ℕ, Bool, not, ◌&&◌, ◌==◌, nat_le, cond, List, length, take, Option, Some, None}
use Rattle.std.specs.List.{list_all}
use Rattle.std.specs.Option.{option_map, option_and_then}
use Rattle.ds_names.specs.Endpoint.{EndpointRecord, endpoint_of}
use Rattle.ds_names.specs.Name.{is_name_byte}
use Rattle.ds_names.specs.declared.key.Key.{Key}
use Rattle.ds_names.specs.declared.kind.Kind.{Kind}
use Rattle.ds_names.specs.declared.kind.Kind.TheVariants as kinds
use Rattle.ds_names.specs.declared.version.Version.{Version}
use Rattle.ds_entry.specs.Value.{is_text_byte}
use Rattle.ds_entry.specs.declared.body.Value.{Value}
use Rattle.ds_entry.specs.declared.body.Value.TheVariants as values
use Rattle.ds_pattern.specs.Under.{query_of}
use Rattle.ds_pattern.specs.declared.query.Query.{Query}
use Rattle.ds_machine.specs.declared.command.Scope.{Scope}
use Rattle.ds_machine.specs.declared.command.Scope.TheVariants.{All, Under}
use Rattle.ds_machine.specs.declared.command.Command.{Command}
use Rattle.ds_machine.specs.declared.command.Command.TheVariants.{Publish, Delete, Sweep, Retrieve, NameOf}
use Rattle.ds_machine.specs.declared.command.Command.TheVariants.{Subscribe, Check, Since, Snapshot, Page}
use Rattle.c_values.specs.declared.request.Request.{Request}
use Rattle.c_values.specs.declared.texts.Publication.{Publication}

-- ---- parts from numbers and bytes

-- The generation with this number, if it is in range.
unfoldable pub generation_at : ℕ → Option ℕ
generation_at n = cond (nat_le n 2097151) (Some n) None

-- The endpoint with these numbers, if they are in range.
unfoldable pub endpoint_at : ℕ → ℕ → Option EndpointRecord
endpoint_at g s = cond (nat_le g 2097151 && nat_le s 1023) (Some (endpoint_of g s)) None

-- The version with these numbers, if the epoch is in range.
unfoldable pub version_at : ℕ → ℕ → Option Version
version_at epoch seq = cond (nat_le epoch 2097151) (Some (record { epoch = epoch; seq = seq })) None

-- The kind with this number: 1 label, 2 u32, 4 str, 8 mem.
unfoldable pub kind_at : ℕ → Option Kind
kind_at n =
    cond (n == 1) (Some kinds.Label) (cond (n == 2) (Some kinds.U32) (cond (n == 4) (Some kinds.Str) (cond (n == 8) (Some kinds.Mem) None)))

-- Whether the bytes are a name.
abbrev pub is_name : List ℕ → Bool
is_name bytes = nat_le 1 (length bytes) && (nat_le (length bytes) 64 && list_all is_name_byte bytes)

-- The name in the first `count` bytes of a block, if they are one.
unfoldable pub name_at : List ℕ → ℕ → Option (List ℕ)
name_at block count = cond (nat_le count 64 && is_name (take count block)) (Some (take count block)) None

-- The key with a name and a kind, if there are both.
abbrev pub key_of_parts : Option (List ℕ) → Option Kind → Option Key
key_of_parts name kind = option_and_then (λ n. option_map (λ k. record { name = n; kind = k }) kind) name

-- The query with a pattern and a sum of kinds, if it is such a sum.
unfoldable pub query_at : ℕ → List ℕ → Option Query
query_at bits text = cond (not (bits == 0) && nat_le bits 15) (Some (query_of text bits)) None

-- Whether the bytes are at most 256, each printable ASCII.
abbrev pub is_text : List ℕ → Bool
is_text bytes = nat_le (length bytes) 256 && list_all is_text_byte bytes

-- The text with these bytes, if `is_text` holds.
unfoldable pub string_at : List ℕ → Option Value
string_at bytes = cond (is_text bytes) (Some (values.Str bytes)) None

unfoldable pub memory_at : List ℕ → Option Value
memory_at bytes = cond (nat_le (length bytes) 1024) (Some (values.Mem bytes)) None

-- ---- the parts of a request

abbrev pub caller_of : Request → Option EndpointRecord
caller_of r = endpoint_at r.generation r.slot

abbrev pub named_in : Request → Option (List ℕ)
named_in r = name_at r.name r.name_length

unfoldable pub key_of : Request → Option Key
key_of r = key_of_parts (named_in r) (kind_at r.kinds)

abbrev pub versioned : Request → Option Version
versioned r = version_at r.epoch r.seq

-- The value of a kind in the request: an endpoint, a number, or the request's text.
abbrev pub valued : Request → List ℕ → Kind → Option Value
valued r text kinds.Label = option_map values.Label (endpoint_at r.value r.value_slot)
valued r text kinds.U32 = Some (values.U32 r.value)
valued r text kinds.Str = string_at text
valued r text kinds.Mem = memory_at text

-- The scope of the request: all keys, or those under its query.
unfoldable pub scope_of : Request → List ℕ → Option Scope
scope_of r text = cond (r.under == 0) (Some All) (option_map Under (query_at r.kinds text))

-- The key after which a page begins, with an inner `None` for the first page.
unfoldable pub after_of : Request → Option (Option Key)
after_of r = cond (r.behind == 0) (Some None) (option_map Some (key_of_parts (named_in r) (kind_at r.behind)))

-- ---- the commands

unfoldable pub publish_of : Request → List ℕ → Option Command
publish_of r text =
    option_and_then
    (λ (key : Key). option_and_then
    (λ caller. option_and_then
    (λ version. option_map (λ value. Publish caller key version value (not (r.overwrite == 0))) (valued r text key.kind))
    (versioned r))
    (caller_of r))
    (key_of r)

-- The Publish with these parts.
abbrev pub publish_command : Publication → Command
publish_command p = Publish p.caller p.key p.version p.value p.overwrite

unfoldable pub delete_of : Request → Option Command
delete_of r = option_and_then (λ caller. option_and_then (λ key. option_map (Delete caller key) (versioned r)) (key_of r)) (caller_of r)

unfoldable pub sweep_of : Request → Option Command
sweep_of r =
    option_and_then
    (λ caller. option_and_then (λ owner. option_map (Sweep caller owner) (generation_at r.value)) (named_in r))
    (caller_of r)

unfoldable pub subscribe_of : Request → List ℕ → Option Command
subscribe_of r text = option_map (λ query. Subscribe r.sub query (not (r.initial == 0)) (not (r.overwrite == 0))) (query_at r.kinds text)

unfoldable pub since_of_request : Request → List ℕ → Option Command
since_of_request r text =
    option_map (λ scope. Since scope (record { incarnation = r.incarnation; position = r.position }) r.max) (scope_of r text)

unfoldable pub page_of_request : Request → List ℕ → Option Command
page_of_request r text =
    option_and_then (λ (after : Option Key). option_map (λ scope. Page scope after r.max) (scope_of r text)) (after_of r)

-- The command of a request with this text, by its number. A Merge isn't among these.
unfoldable pub command_of : Request → List ℕ → Option Command
command_of r text =
    cond (r.command == 0) (publish_of r text) (cond (r.command == 1) (delete_of r) (cond (r.command == 2) (sweep_of r)
    (cond (r.command == 3) (option_map Retrieve (key_of r)) (cond (r.command == 4) (option_map NameOf (caller_of r))
    (cond (r.command == 5) (subscribe_of r text) (cond (r.command == 6) (Some (Check r.sub r.max))
    (cond (r.command == 7) (since_of_request r text) (cond (r.command == 8) (option_map Snapshot (scope_of r text))
    (cond (r.command == 9) (page_of_request r text) None)))))))))
