-- The actions of RS, in numbers.
use Rattle.std.specs.Prelude.{ℕ, ◌==◌, cond, List, ◌++◌, length, drop, replicate, slice_get, Option, None, Some}
use Rattle.std.specs.Option.{option_map}
use Rattle.ds_names.specs.Endpoint.{EndpointRecord}
use Rattle.ds_entry.specs.Change.{ChangeRecord}
use Rattle.ds_entry.specs.declared.floor.Floor.{Floor}
use Rattle.ds_entry.specs.declared.body.Value.TheVariants.{Label}
use Rattle.ds_entry.specs.declared.body.Body.{Body}
use Rattle.ds_entry.specs.declared.body.Body.TheVariants.{Put, Gone}
use Rattle.ds_machine.specs.declared.reply.Reply.{Reply}
use Rattle.rs_core.specs.State.{RsRecord}
use Rattle.rs_core.specs.declared.action.Action.{Action}
use Rattle.rs_core.specs.declared.action.Action.TheVariants.{Kill, Start, Ping, Offer, Sweep}
use Rattle.rs_store.specs.declared.call.RsReply.{RsReply}
use Rattle.rs_store.specs.declared.call.RsReply.TheVariants.{Acted}
use Rattle.c_values.specs.Answer.{answer_of}
use Rattle.c_rs.specs.declared.action.RsAction.{RsAction}
use Rattle.c_rs.specs.declared.session.RsSession.{RsSession}

-- The bytes of a name at the front of 64 zeros.
abbrev pub label_block : List ℕ → List ℕ
label_block name = name ++ drop (length name) (replicate 64 0)

-- The action of a kind, with zeros for the rest.
abbrev pub blank : ℕ → RsAction
blank kind = record { kind = kind; generation = 0; word = 0; refusal = 0; slot = 0; gone = 0; label_length = 0; label = replicate 64 0 }

-- The action with an endpoint, and with a label.
abbrev pub with_endpoint : RsAction → EndpointRecord → RsAction
with_endpoint action endpoint = record action { generation = endpoint.generation; slot = endpoint.slot }

abbrev pub with_label : RsAction → List ℕ → RsAction
with_label action label = record action { label_length = length label; label = label_block label }

-- The slot of a label that is put, and whether the label is taken back.
abbrev pub slot_in : Body → ℕ
slot_in (Put (Label endpoint)) = endpoint.slot
slot_in _ = 0

abbrev pub gone_in : Body → ℕ
gone_in (Put value) = 0
gone_in Gone = 1

-- The offer of a change of a label, whose epoch is its endpoint's generation; the sweep of a floor.
abbrev pub told_change : ChangeRecord → RsAction
told_change change =
    with_label
    (record (blank 3) { generation = change.version.epoch; slot = slot_in change.body; gone = gone_in change.body })
    change.key.name

abbrev pub told_floor : Floor → RsAction
told_floor floor = with_label (record (blank 4) { generation = floor.generation }) floor.owner

-- The struct of an action.
abbrev pub told_part : Action → RsAction
told_part (Kill endpoint) = with_endpoint (blank 0) endpoint
told_part (Start label endpoint) = with_label (with_endpoint (blank 1) endpoint) label
told_part (Ping endpoint) = with_endpoint (blank 2) endpoint
told_part (Offer change) = told_change change
told_part (Sweep floor) = told_floor floor

-- The struct of an action, with the word and the refusal of the store's reply to it, if there is one.
abbrev pub told_action : Action → Option (Option Reply) → RsAction
told_action action (Some (Some reply)) = record (told_part action) { word = (answer_of reply).word; refusal = (answer_of reply).refusal }
told_action action (Some None) = told_part action
told_action action None = told_part action

-- The action that reports which service is given up, by its index in the settings.
abbrev pub given_up_action : Option RsRecord → Option ℕ → Option RsAction
given_up_action (Some rs) (Some index) = option_map (λ service. with_label (blank 5) service.label) (slice_get rs.settings.services index)
given_up_action (Some rs) None = None
given_up_action None given = None

-- The action of RS at the index, if there is one; or the last one.
abbrev pub action_or : Option Action → Option (Option Reply) → Option RsAction → Option RsAction
action_or (Some action) reply last = Some (told_action action reply)
action_or None reply last = last

-- The action of a reply at an index: RS's own in their order, and then the one that reports a service given up.
abbrev pub action_at : Option RsRecord → RsReply → ℕ → Option RsAction
action_at services (Acted actions replies given) index =
    action_or (slice_get actions index) (slice_get replies index) (cond (index == length actions) (given_up_action services given) None)
action_at services _ index = None

-- The action of the last answer at an index.
abbrev pub action_if : Option RsRecord → Option RsReply → ℕ → Option RsAction
action_if services (Some reply) index = action_at services reply index
action_if services None index = None

abbrev pub action_in : RsSession → ℕ → Option RsAction
action_in s index = action_if s.session.node.services s.told index
