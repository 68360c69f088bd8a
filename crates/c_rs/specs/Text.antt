-- The text of the last answer.
use Rattle.std.specs.Prelude.{ℕ, List, Option, None, Some}
use Rattle.script_answers.specs.declared.wording.Wording.TheVariants.{AsMerge}
use Rattle.rs_answers.specs.Served.{served_lines}
use Rattle.rs_store.specs.declared.call.RsReply.{RsReply}
use Rattle.c_store.specs.declared.session.Session.{Session}
use Rattle.c_store.specs.Text.{given_text}
use Rattle.c_rs.specs.declared.session.RsSession.{RsSession}

-- The text of the last answer, which is RS's or the session's.
abbrev pub text_if : Session → Option RsReply → List ℕ
text_if session None = given_text session.last
text_if session (Some reply) = served_lines AsMerge reply

abbrev pub text_in : RsSession → List ℕ
text_in s = text_if s.session s.told
