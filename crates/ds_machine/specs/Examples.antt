-- Worked rows: commands to a store that was just opened, and the machine's replies.
use Rattle.std.specs.Prelude.{◌≡◌, ℕ, true, false, List, [], ◌∷◌, ◌++◌, Some, None, codes}
use Rattle.ds_names.specs.declared.kind.Kind.TheVariants as kinds
use Rattle.ds_names.specs.declared.key.Key.{Key}
use Rattle.ds_names.specs.declared.version.Version.{Version}
use Rattle.ds_names.specs.Endpoint.{EndpointRecord, endpoint_of}
use Rattle.ds_entry.specs.declared.body.Value.TheVariants.{Label, U32}
use Rattle.ds_entry.specs.declared.body.Body.TheVariants.{Put, Gone}
use Rattle.ds_entry.specs.declared.item.Item.{Item}
use Rattle.ds_entry.specs.declared.item.Item.TheVariants.{Change as Changed, Floor as Floored}
use Rattle.ds_entry.specs.Change.{change_of}
use Rattle.ds_entry.specs.Floor.{floor_of}
use Rattle.ds_feed.specs.declared.cursor.Cursor.{Cursor}
use Rattle.ds_held.specs.Limits.{larger}
use Rattle.ds_machine.specs.State.{State, opening}
use Rattle.ds_machine.specs.Machine.{outcome}
use Rattle.ds_machine.specs.declared.refusal.Refusal.TheVariants.{TooMany, NotOwner, Clash, NotAllowed, NoCaller, Stale}
use Rattle.ds_machine.specs.declared.refusal.Refusal.TheVariants.{Exists, NotFound, OldCursor, Ahead, Behind, Worn}
use Rattle.ds_machine.specs.declared.command.Scope.TheVariants.{All}
use Rattle.ds_machine.specs.declared.command.Command.{Command}
use Rattle.ds_machine.specs.declared.command.Command.TheVariants.{Publish, Delete, Sweep, Retrieve, NameOf, Since, Snapshot, Page, Merge}
use Rattle.ds_machine.specs.declared.reply.Reply.{Reply}
use Rattle.ds_machine.specs.declared.reply.Reply.TheVariants.{Changed as Accepted, Known, Swept, Found, Named}
use Rattle.ds_machine.specs.declared.reply.Reply.TheVariants.{Journaled, Snapped, Paged, Merged, MergeStopped, Refused}
use Rattle.ds_names.specs.Name.{rs_name}

-- The replies to the commands, in order.
abbrev pub replies_from : State → List Command → List Reply
replies_from s [] = []
replies_from s (command ∷ commands) = (outcome s command).0 ∷ replies_from (outcome s command).1 commands

abbrev rs : EndpointRecord
rs = endpoint_of 0 2

abbrev label : List ℕ → Key
label name = record { name = name; kind = kinds.Label }

abbrev number : List ℕ → Key
number name = record { name = name; kind = kinds.U32 }

abbrev at : ℕ → ℕ → Version
at epoch seq = record { epoch = epoch; seq = seq }

abbrev cursor_at : ℕ → ℕ → Cursor
cursor_at incarnation position = record { incarnation = incarnation; position = position }

-- A put of a number, as an item.
abbrev put : List ℕ → List ℕ → Version → ℕ → Item
put name owner version value = Changed (change_of (number name) owner version (Put (U32 value)))

-- A label, as an item.
abbrev driver_item : List ℕ → ℕ → ℕ → Item
driver_item name generation slot = Changed (change_of (label name) rs_name (at generation 0) (Put (Label (endpoint_of generation slot))))

-- Two drivers, one of which publishes its MTU.
abbrev two_drivers : List Command
two_drivers =
    Publish rs (label (codes "eth0")) (at 3 0) (Label (endpoint_of 3 17)) false ∷
    Publish rs (label (codes "tty")) (at 4 0) (Label (endpoint_of 4 18)) false ∷
    Publish (endpoint_of 3 17) (number (codes "mtu")) (at 3 0) (U32 1500) false ∷ []

-- The refusals of further publishes, in their order.
abbrev pub PublishRow : Type 0
PublishRow =
    replies_from (opening 1 0 256 larger) (two_drivers ++
    Publish (endpoint_of 4 18) (number (codes "mtu")) (at 4 0) (U32 9000) true ∷
    Publish (endpoint_of 3 17) (number (codes "mtu")) (at 3 1) (U32 1400) false ∷
    Publish (endpoint_of 3 17) (number (codes "mtu")) (at 3 0) (U32 1500) false ∷
    Publish (endpoint_of 3 17) (number (codes "mtu")) (at 3 0) (U32 1501) true ∷
    Publish (endpoint_of 3 17) (number (codes "mtu")) (at 3 1) (U32 1400) true ∷
    Publish (endpoint_of 3 17) (number (codes "mtu")) (at 3 0) (U32 1500) true ∷
    Publish (endpoint_of 3 18) (number (codes "mtu")) (at 3 9) (U32 1) true ∷
    Publish (endpoint_of 3 17) (label (codes "mac")) (at 3 0) (Label (endpoint_of 3 17)) false ∷
    Retrieve (number (codes "mtu")) ∷
    NameOf (endpoint_of 3 17) ∷
    NameOf (endpoint_of 3 18) ∷ [])
    ≡ Accepted 0 ∷ Accepted 0 ∷ Accepted 0 ∷
    Refused NotOwner ∷ Refused Exists ∷ Known ∷ Refused (Clash (at 3 0)) ∷ Accepted 0 ∷ Refused Stale ∷ Refused NoCaller ∷
    Refused NotAllowed ∷
    Found (U32 1400) ∷ Named (codes "eth0") ∷ Refused NotFound ∷ []

-- The floor of a dead driver: late changes are stale, and another owner may take the key.
abbrev pub SweepRow : Type 0
SweepRow =
    replies_from (opening 1 0 256 larger) (two_drivers ++
    Sweep (endpoint_of 3 17) (codes "eth0") 3 ∷
    Sweep rs (codes "eth0") 3 ∷
    Sweep rs (codes "eth0") 3 ∷
    Sweep rs (codes "eth0") 2 ∷
    Merge (put (codes "mtu") (codes "eth0") (at 3 9) 1 ∷ Floored (floor_of (codes "eth0") 2) ∷ Floored (floor_of (codes "eth0") 3) ∷ []) ∷
    Publish (endpoint_of 3 17) (number (codes "mtu")) (at 3 9) (U32 1) true ∷
    Delete (endpoint_of 3 17) (number (codes "mtu")) (at 3 2) ∷
    Snapshot All ∷
    Publish (endpoint_of 4 18) (number (codes "mtu")) (at 4 0) (U32 9000) false ∷
    Merge (Floored (floor_of (codes "tty") 4) ∷ put (codes "mtu") (codes "eth0") (at 4 0) 7 ∷ []) ∷
    Snapshot All ∷ [])
    ≡ Accepted 0 ∷ Accepted 0 ∷ Accepted 0 ∷
    Refused NotAllowed ∷ Swept 1 0 ∷ Swept 0 0 ∷ Swept 0 0 ∷ Merged 3 0 2 0 ∷ Refused Stale ∷ Refused Stale ∷
    Snapped (record {
      items = Floored (floor_of (codes "eth0") 3) ∷ driver_item (codes "eth0") 3 17 ∷ driver_item (codes "tty") 4 18 ∷ [];
      cursor = cursor_at 1 4;
    }) ∷
    Accepted 0 ∷ Merged 2 2 0 0 ∷
    Snapped (record {
      items = Floored (floor_of (codes "eth0") 3) ∷ Floored (floor_of (codes "tty") 4) ∷ driver_item (codes "eth0") 3 17 ∷
          put (codes "mtu") (codes "eth0") (at 4 0) 7 ∷ driver_item (codes "tty") 4 18 ∷ [];
      cursor = cursor_at 1 7;
    }) ∷ []

-- A ring of two, and cursors that it doesn't reach.
abbrev pub RingRow : Type 0
RingRow =
    replies_from (opening 1 0 2 larger) (
    Merge (put (codes "a") (codes "eth0") (at 1 0) 1 ∷ put (codes "b") (codes "eth0") (at 1 1) 2 ∷
    put (codes "c") (codes "eth0") (at 1 2) 3 ∷ []) ∷
    Since All (cursor_at 1 0) 8 ∷
    Since All (cursor_at 1 1) 8 ∷
    Since All (cursor_at 1 1) 1 ∷
    Since All (cursor_at 1 3) 8 ∷
    Since All (cursor_at 1 4) 8 ∷
    Since All (cursor_at 2 4) 8 ∷
    Since All (cursor_at 2 4) 0 ∷
    Since All (cursor_at 2 4) 257 ∷ [])
    ≡ Merged 3 3 0 0 ∷
    Refused Behind ∷
    Journaled (record {
      items = put (codes "b") (codes "eth0") (at 1 1) 2 ∷ put (codes "c") (codes "eth0") (at 1 2) 3 ∷ [];
      cursor = cursor_at 1 3;
    }) ∷
    Journaled (record { items = put (codes "b") (codes "eth0") (at 1 1) 2 ∷ []; cursor = cursor_at 1 2 }) ∷
    Journaled (record { items = []; cursor = cursor_at 1 3 }) ∷
    Refused Ahead ∷ Refused OldCursor ∷ Refused TooMany ∷ Refused TooMany ∷ []

-- The row of pages. The first page has all floors, and a page is the last one if no change is left.
abbrev pub PageRow : Type 0
PageRow =
    replies_from (opening 1 0 256 larger) (two_drivers ++
    Sweep rs (codes "eth0") 3 ∷
    Page All None 1 ∷
    Page All (Some (label (codes "eth0"))) 1 ∷
    Page All (Some (label (codes "tty"))) 1 ∷
    Page All None 0 ∷ [])
    ≡ Accepted 0 ∷ Accepted 0 ∷ Accepted 0 ∷ Swept 1 0 ∷
    Paged (record {
      items = Floored (floor_of (codes "eth0") 3) ∷ driver_item (codes "eth0") 3 17 ∷ [];
      last = false;
      cursor = cursor_at 1 4;
    }) ∷
    Paged (record { items = driver_item (codes "tty") 4 18 ∷ []; last = true; cursor = cursor_at 1 4 }) ∷
    Paged (record { items = []; last = true; cursor = cursor_at 1 4 }) ∷
    Refused TooMany ∷ []

-- The row of pages between which the store changes, with the journal from the first page's cursor on.
abbrev pub ChangingPagesRow : Type 0
ChangingPagesRow =
    replies_from (opening 1 0 256 larger) (
    Merge (put (codes "a") (codes "eth0") (at 1 0) 1 ∷ put (codes "c") (codes "eth0") (at 1 1) 3 ∷ []) ∷
    Page All None 1 ∷
    Merge (Changed (change_of (number (codes "a")) (codes "eth0") (at 1 2) Gone) ∷ put (codes "A") (codes "eth0") (at 1 3) 5 ∷ []) ∷
    Page All (Some (number (codes "a"))) 1 ∷
    Since All (cursor_at 1 2) 8 ∷ [])
    ≡ Merged 2 2 0 0 ∷
    Paged (record { items = put (codes "a") (codes "eth0") (at 1 0) 1 ∷ []; last = false; cursor = cursor_at 1 2 }) ∷
    Merged 2 2 0 0 ∷
    Paged (record { items = put (codes "c") (codes "eth0") (at 1 1) 3 ∷ []; last = true; cursor = cursor_at 1 4 }) ∷
    Journaled (record {
      items = Changed (change_of (number (codes "a")) (codes "eth0") (at 1 2) Gone) ∷
          put (codes "A") (codes "eth0") (at 1 3) 5 ∷ [];
      cursor = cursor_at 1 4;
    }) ∷ []

-- The last position: a repeat is known, a smaller floor is stale, and whatever would take effect is worn.
abbrev pub LastPlaceRow : Type 0
LastPlaceRow =
    replies_from (opening 1 4611686018427387903 256 larger) (
    Merge (Floored (floor_of (codes "eth0") 3) ∷ []) ∷
    Merge (Floored (floor_of (codes "eth0") 3) ∷ put (codes "mtu") (codes "eth0") (at 3 0) 1500 ∷
    put (codes "mtu") (codes "eth0") (at 4 0) 1500 ∷ []) ∷
    Sweep rs (codes "eth0") 3 ∷
    Sweep rs (codes "eth0") 4 ∷
    Sweep rs (codes "tty") 0 ∷
    Publish rs (label (codes "eth0")) (at 3 0) (Label (endpoint_of 3 17)) false ∷ [])
    ≡ Merged 1 1 0 0 ∷ MergeStopped 2 Worn 0 ∷ Swept 0 0 ∷ Refused Worn ∷ Refused Worn ∷ Refused Worn ∷ []
