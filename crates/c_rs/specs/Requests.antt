-- What a request does to a session with RS.
use Rattle.std.specs.Prelude.{ℕ, ◌==◌, Bool, true, false, ◌&&◌, nat_le, List, [], Option, None, Some, is_some}
use Rattle.ds_machine.specs.declared.refusal.Refusal.TheVariants.{NotAllowed}
use Rattle.rs_core.specs.State.{RsRecord}
use Rattle.rs_store.specs.declared.call.RsReply.{RsReply}
use Rattle.c_values.specs.declared.request.Request.{Request}
use Rattle.c_values.specs.declared.answer.Answer.{Answer}
use Rattle.c_values.specs.Asked.{request_text}
use Rattle.c_store.specs.declared.session.Session.{Session}
use Rattle.c_store.specs.Called.{Called, pieces_in as session_pieces}
use Rattle.c_rs.specs.declared.session.RsSession.{RsSession}
use Rattle.c_rs.specs.Serving.{SessionDoes, RefusesCommand}

-- Whether the request is a Publish, a Delete or a Sweep whose caller is 0/2, RS.
abbrev pub is_rs_request : Request → Bool
is_rs_request r = nat_le r.command 2 && (r.generation == 0 && r.slot == 2)

-- Whether the request is refused, since RS alone sends such requests once it is open.
abbrev pub is_for_rs_alone : Option RsRecord → Request → Bool
is_for_rs_alone services r = is_some services && is_rs_request r

-- Whether such a request is refused; any other one is a session's.
abbrev pub CallsUnlessBarred : Bool → List ℕ → RsSession → Request → Answer → RsSession → Type 0
CallsUnlessBarred true texts old r answer new = RefusesCommand NotAllowed old answer new
CallsUnlessBarred false texts old r answer new = SessionDoes (λ s a t. Called s r (request_text r texts) a t) old answer new

abbrev pub CallsRs : List ℕ → RsSession → Request → Answer → RsSession → Type 0
CallsRs texts old r answer new = CallsUnlessBarred (is_for_rs_alone old.session.node.services r) texts old r answer new

-- The pieces of the last answer; an answer of RS has none.
abbrev pub pieces_if : Session → Option RsReply → List (List ℕ)
pieces_if session None = session_pieces session.last
pieces_if session (Some reply) = []

abbrev pub answer_pieces : RsSession → List (List ℕ)
answer_pieces s = pieces_if s.session s.told
