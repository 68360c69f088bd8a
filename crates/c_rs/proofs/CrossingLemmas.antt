-- A session may go to another thread, and so may one with RS beside its store: the store may, and replies are plain data and lists.
use denote.Param.Send.{IsSend, sendable}
use denote.Param.SendFields.{declared_send}
use Rattle.std.proofs.Crossing.{crosses}
use Rattle.ds_entry.proofs.change.Change.TheSendSync as change
use Rattle.ds_entry.proofs.floor.Floor.TheSendSync as floor
use Rattle.ds_entry.proofs.items.Items.TheSendSync as items
use Rattle.ds_names.proofs.endpoint.Endpoint.TheSendSync as endpoint
use Rattle.ds_names.proofs.name.Name.TheSendSync as name
use Rattle.ds_machine.specs.contracts.reply.Reply as Reply
use Rattle.rs_core.specs.contracts.action.Action as Action
use Rattle.rs_core.specs.contracts.action.Actions as Actions
use Rattle.rs_core.specs.contracts.fault.RsFault as RsFault
use Rattle.rs_core.specs.contracts.fault.NewFault as NewFault
use Rattle.rs_store.specs.contracts.call.RsReply as RsReply
use Rattle.rs_store.specs.contracts.replies.Replies as Replies
use Rattle.rs_store.proofs.CrossingLemmas.{pair_send}
use Rattle.c_store.specs.contracts.last.Last as Last
use Rattle.c_store.specs.contracts.session.Session as Session
use Rattle.c_store.proofs.CrossingLemmas.{reply_field}
use Rattle.c_rs.specs.contracts.session.RsSession as RsSession

-- ---- the session of a store
last_send : IsSend Last.the_row
last_send = search (reply_field, items.the_send, sendable) fits 20000 depth 80

session_send : IsSend Session.the_row
session_send = declared_send Session.the_type
    (search (pair_send, sendable) depth 40, (search (last_send, sendable) depth 40, tt))

-- ---- the session with RS
fault_field : IsSend RsFault.the_field.row
fault_field = search sendable depth 40

new_fault_field : IsSend NewFault.the_field.row
new_fault_field = search sendable depth 40

action_send : IsSend Action.the_row
action_send = search (name.the_send, endpoint.the_send, change.the_send, floor.the_send, sendable) fits 20000 depth 80

actions_field : IsSend Actions.the_field.row
actions_field = search (action_send, crosses, sendable) depth 40

reply_send : IsSend Reply.the_row
reply_send = search (reply_field, sendable) depth 40

replies_field : IsSend Replies.the_field.row
replies_field = search (reply_field, reply_send, crosses, sendable) depth 40

rs_reply_send : IsSend RsReply.the_row
rs_reply_send = search (reply_field, actions_field, replies_field, fault_field, new_fault_field, sendable) fits 20000 depth 80

pub rs_session_send : IsSend RsSession.the_row
rs_session_send = declared_send RsSession.the_type
    (search (session_send, sendable) depth 40, (search (rs_reply_send, crosses, sendable) depth 40, tt))
