-- Requests in order.
use Rattle.std.specs.Prelude.{◌≡◌, ◌⊎◌, ℕ, ◌<◌, ◌≤◌, List, [], ◌∷◌, ◌++◌, length, take, drop, Some}
use Rattle.std.specs.List.{All}
use Rattle.history.specs.declared.entry.Entry.{Entry}
use Rattle.history.specs.History.{Run}
use Rattle.ds_machine.specs.declared.command.Command.{Command}
use Rattle.ds_machine.specs.declared.refusal.Refusal.TheVariants.{NotAllowed}
use Rattle.ds_machine.specs.declared.reply.Reply.{Reply}
use Rattle.ds_machine.specs.declared.reply.Reply.TheVariants.{Refused}
use Rattle.ds_store.specs.Turns.{Turn}
use Rattle.c_values.specs.declared.request.Request.{Request}
use Rattle.c_values.specs.declared.answer.Answer.{Answer}
use Rattle.c_values.specs.Answer.{answer_of, no_request, told_no_room}
use Rattle.c_values.specs.Asked.{StandsFor, request_text}
use Rattle.c_rs.specs.declared.session.RsSession.{RsSession}
use Rattle.c_rs.specs.Requests.{CallsRs}
use Rattle.rs_store.specs.declared.call.RsCommand.{RsCommand}
use Rattle.rs_store.specs.declared.call.RsReply.{RsReply}
use Rattle.rs_store.specs.Laws.{store_entries}
use Rattle.rs_store.specs.Turns.{RsTurn}

-- Whether the requests are carried out in order, with these answers, each as it is alone.
abbrev pub CallsInTurn : List ℕ → RsSession → List Request → List Answer → RsSession → Type 0
CallsInTurn texts old [] [] new = new ≡ old
CallsInTurn texts old (r ∷ rs) (a ∷ ys) new = (mid : RsSession) × CallsRs texts old r a mid × CallsInTurn texts mid rs ys new
CallsInTurn texts old [] (a ∷ ys) new = ⊥
CallsInTurn texts old (r ∷ rs) [] new = ⊥

-- Whether the answer has no text.
abbrev pub HasNoText : Answer → Type 0
HasNoText answer = answer.pieces ≡ 0

-- Whether the last of the answers has a text, and none before it.
abbrev pub EndsWithText : List Answer → Type 0
EndsWithText answers = (front : List Answer) × (last : Answer) × (answers ≡ front ++ last ∷ []) × All HasNoText front × (0 < last.pieces)

-- Whether `done` requests are carried out in order. Their answers are at the front of the place, the rest of which is unchanged. The run
-- ends after the first answer that has a text, after the last request, or when the place is full.
pub record RunsCalls (old : RsSession) (requests : List Request) (texts : List ℕ) (place : List Answer) (done : ℕ) (answers : List Answer)
    (new : RsSession) : Type 0 where
  pub within : (done ≤ length requests) × (done ≤ length place)
  pub calls : CallsInTurn texts old (take done requests) (take done answers) new
  pub past : drop done answers ≡ drop done place
  pub ended : (All HasNoText (take done answers) × ((done ≡ length requests) ⊎ (done ≡ length place))) ⊎ EndsWithText (take done answers)

-- ---- what such a run is to the machine

-- Whether the answer is that of a request without a turn of the store: it isn't a command, memory for its text runs out, or it is
-- refused because it has RS's name.
abbrev pub IsNoEntry : Answer → Type 0
IsNoEntry a = (a ≡ no_request) ⊎ ((a ≡ told_no_room) ⊎ (a ≡ answer_of (Refused NotAllowed)))

-- Whether the request's text stands for the entry's command, and the answer is that of its reply.
pub record IsEntryOf (texts : List ℕ) (r : Request) (a : Answer) (e : Entry Command Reply) : Type 0 where
  pub text : List ℕ
  pub text_is : request_text r texts ≡ Some text
  pub stands : StandsFor r text e.command
  pub told : a ≡ answer_of e.reply

-- Whether the entries are those of the requests that reached the store, in their order.
abbrev pub EntriesOfRun : List ℕ → List Request → List Answer → List (Entry Command Reply) → Type 0
EntriesOfRun texts [] [] [] = Unit {0}
EntriesOfRun texts (r ∷ rs) (a ∷ ys) es =
    (IsNoEntry a × EntriesOfRun texts rs ys es)
    ⊎ ((e : Entry Command Reply) × (rest : List (Entry Command Reply)) ×
    (es ≡ e ∷ rest) × IsEntryOf texts r a e × EntriesOfRun texts rs ys rest)
EntriesOfRun texts [] [] (e ∷ es) = ⊥
EntriesOfRun texts [] (a ∷ ys) es = ⊥
EntriesOfRun texts (r ∷ rs) [] es = ⊥

-- A law: requests in order are turns of the store, one for each that is a command and isn't refused because it has RS's name. They are a
-- run of the store's machine.
abbrev pub CallsAreTurns : Type 0
CallsAreTurns = (texts : List ℕ) (rs : List Request) (ys : List Answer) (old new : RsSession) → CallsInTurn texts old rs ys new →
    (es : List (Entry Command Reply)) × EntriesOfRun texts rs ys es × Run Turn old.session.node.store es new.session.node.store

-- A law: they are turns of RS and its store, each an Ask that the store answers. So the laws of RS and its store hold of them.
abbrev pub CallsAreNodeTurns : Type 0
CallsAreNodeTurns = (texts : List ℕ) (rs : List Request) (ys : List Answer) (old new : RsSession) → CallsInTurn texts old rs ys new →
    (es : List (Entry RsCommand RsReply)) × EntriesOfRun texts rs ys (store_entries es) × Run RsTurn old.session.node es new.session.node
