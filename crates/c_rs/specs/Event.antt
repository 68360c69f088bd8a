-- The events of structs.
use Rattle.std.specs.Prelude.{ℕ, ◌==◌, nat_le, cond, List, Option, None, Some, MatchOption}
use Rattle.std.specs.Option.{option_map}
use Rattle.ds_names.specs.Endpoint.{EndpointRecord}
use Rattle.rs_core.specs.declared.event.Event.{Event}
use Rattle.rs_core.specs.declared.event.Event.TheVariants.{Up, Stop, Refresh, Restart, Death, Beat, Tick}
use Rattle.c_values.specs.declared.answer.Answer.{Answer}
use Rattle.c_values.specs.Request.{endpoint_at, name_at}
use Rattle.c_store.specs.Called.{RestsForNone}
use Rattle.c_rs.specs.declared.event.RsEvent.{RsEvent}
use Rattle.c_rs.specs.declared.session.RsSession.{RsSession}
use Rattle.c_rs.specs.Serving.{SessionDoes, ServesBy}

-- The event of a kind, 0 to 3, and a label.
abbrev pub event_of_label : ℕ → List ℕ → Event
event_of_label kind label = cond (kind == 0) (Up label) (cond (kind == 1) (Stop label) (cond (kind == 2) (Refresh label) (Restart label)))

-- The event of a struct whose kind is 0 to 3, if its label is a name.
unfoldable pub of_label : RsEvent → Option Event
of_label e = option_map (event_of_label e.kind) (name_at e.label e.label_length)

-- The event of a kind, 4 or 5, and an instance.
abbrev pub of_endpoint : ℕ → ℕ → EndpointRecord → Event
of_endpoint kind cause instance = cond (kind == 4) (Death instance cause) (Beat instance)

-- The event of a struct whose kind is 4 or 5, if its endpoint is in range.
unfoldable pub of_instance : RsEvent → Option Event
of_instance e = option_map (of_endpoint e.kind e.cause) (endpoint_at e.generation e.slot)

-- The event of a struct, if its parts are in their ranges and its kind is 0 to 6.
unfoldable pub event_of : RsEvent → Option Event
event_of e = cond (nat_le e.kind 3) (of_label e) (cond (nat_le e.kind 5) (of_instance e) (cond (e.kind == 6) (Some Tick) None))

-- Whether the event is a turn of RS and its store; or there is none, and nothing changes.
abbrev pub ServesEvent : RsEvent → RsSession → Answer → RsSession → Type 0
ServesEvent e old answer new =
    MatchOption (event_of e) (SessionDoes RestsForNone old answer new) (λ event. ServesBy event e.tick old answer new)
