-- Requests in order.
use Rattle.std.proofs.Common.{◌≡◌, ◌⊎◌, ℕ, ◌+◌, ◌<◌, List, [], ◌∷◌, ◌++◌, length, take, drop, get_or, inl, inr, refl, sym, ap, ◌∙◌, subst}
use Rattle.std.proofs.Common.{arith}
use Rattle.std.specs.Prelude.{Bool, true, false, Option, Some, None, slice_set}
use Rattle.std.specs.List.{All}
use Rattle.std.proofs.lemmas.List.{take_more, take_more_set, drop-set-lt, drop-drop}
use Rattle.std.proofs.lemmas.List.Elements.{All-push}
use Rattle.history.specs.declared.entry.Entry.{Entry}
use Rattle.history.specs.History.{Run, entry}
use Rattle.ds_machine.specs.declared.command.Command.{Command}
use Rattle.ds_machine.specs.declared.reply.Reply.{Reply}
use Rattle.ds_content.specs.Content.{ContentRecord}
use Rattle.ds_store.specs.Turns.{Turn}
use Rattle.c_values.specs.declared.request.Request.{Request}
use Rattle.c_values.specs.declared.answer.Answer.{Answer}
use Rattle.c_values.specs.Asked.{request_text}
use Rattle.rs_store.specs.Pair.{PairRecord}
use Rattle.c_store.specs.Called.{Called}
use Rattle.c_rs.specs.declared.session.RsSession.{RsSession}
use Rattle.c_rs.specs.Requests.{CallsRs, CallsUnlessBarred, is_for_rs_alone}
use Rattle.c_rs.specs.Running.{CallsInTurn, HasNoText, IsNoEntry, IsEntryOf, CallsAreTurns}

-- one more past them
pub calls_more : (texts : List ℕ) (rs : List Request) (ys : List Answer) (old mid new : RsSession) (r : Request) (a : Answer)
    → CallsInTurn texts old rs ys mid → CallsRs texts mid r a new → CallsInTurn texts old (rs ++ r ∷ []) (ys ++ a ∷ []) new
calls_more texts [] [] old mid new r a none called = (new, subst (λ (s : RsSession). CallsRs texts s r a new) none called, refl)
calls_more texts (x ∷ rs) (y ∷ ys) old mid new r a calls called =
    (calls.0, calls.1, calls_more texts rs ys calls.0 mid new r a calls.2 called)
calls_more texts [] (y ∷ ys) old mid new r a calls called = absurd calls
calls_more texts (x ∷ rs) [] old mid new r a calls called = absurd calls

-- the next request is asked, and its answer put past the others
pub calls_next : (texts : List ℕ) (rs : List Request) (ys : List Answer) (old mid new : RsSession) (i : ℕ) (d : Request) (a : Answer) →
    i < length rs → i < length ys
    → CallsInTurn texts old (take i rs) (take i ys) mid → CallsRs texts mid (get_or rs i d) a new
    → CallsInTurn texts old (take (i + 1) rs) (take (i + 1) (slice_set ys i a)) new
calls_next texts rs ys old mid new i d a asks places calls called =
    subst (λ (l : List Request). CallsInTurn texts old l (take (i + 1) (slice_set ys i a)) new) (sym (take_more rs i d asks))
    (subst (λ (l : List Answer). CallsInTurn texts old (take i rs ++ get_or rs i d ∷ []) l new) (sym (take_more_set ys i a places))
    (calls_more texts (take i rs) (take i ys) old mid new (get_or rs i d) a calls called))

-- and none of the answers has a text, if that one has none
pub silent_next : (ys : List Answer) (i : ℕ) (a : Answer) → i < length ys → All HasNoText (take i ys) → a.pieces ≡ 0 →
    All HasNoText (take (i + 1) (slice_set ys i a))
silent_next ys i a places silent none = subst (All HasNoText) (sym (take_more_set ys i a places))
    (All-push HasNoText (take i ys) a silent none)

-- the places past it stay
pub after_next : (ys place : List Answer) (i : ℕ) (a : Answer) → drop i ys ≡ drop i place →
    drop (i + 1) (slice_set ys i a) ≡ drop (i + 1) place
after_next ys place i a past = drop-set-lt (i + 1) ys i a (omega arith) ∙ sym (drop-drop 1 i ys) ∙ ap (drop 1) past ∙ drop-drop 1 i place

-- what one call is: a turn of the store, or none
abbrev store_of : PairRecord → ContentRecord
store_of p = p.store

abbrev OneCall : List ℕ → RsSession → Request → Answer → RsSession → Type 0
OneCall texts old r a new =
    (IsNoEntry a × (new.session.node.store ≡ old.session.node.store)) ⊎
    ((e : Entry Command Reply) × IsEntryOf texts r a e × Turn old.session.node.store e.command e.reply new.session.node.store)

session_call : (texts : List ℕ) (old new : RsSession) (r : Request) (a : Answer) (o : Option (List ℕ)) → request_text r texts ≡ o
    → Called old.session r o a new.session → OneCall texts old r a new
session_call texts old new r a None is called = inl (inl called.told_is, ap store_of called.node_is)
session_call texts old new r a (Some text) is called = elim called [
  | inl answers ↦ inr (
    entry 0 answers.command answers.answered.reply,
    record
        { text = text; text_is = is; stands = answers.stands; told = answers.answered.told },
    answers.answered.turn,
  )
  | inr rests ↦ elim rests [
    | inl none ↦ inl (inl none.1.told_is, ap store_of none.1.node_is)
    | inr room ↦ inl (inr (inl room.1.told_is), ap store_of room.1.node_is)
  ]
]

one_call : (texts : List ℕ) (old new : RsSession) (r : Request) (a : Answer) (barred : Bool) → CallsUnlessBarred barred texts old r a new →
    OneCall texts old r a new
one_call texts old new r a true called = inl (inr (inr called.done.told_is), ap store_of called.done.node_is)
one_call texts old new r a false called = session_call texts old new r a (request_text r texts) refl called.done

pub calls_are_turns : CallsAreTurns
calls_are_turns texts [] [] old new none = ([], tt, ap (λ (s : RsSession). s.session.node.store) (sym none))
calls_are_turns texts (r ∷ rs) (a ∷ ys) old new calls =
    let mid : RsSession = calls.0 in
    let more = calls_are_turns texts rs ys mid new calls.2 in
    elim (one_call texts old mid r a (is_for_rs_alone old.session.node.services r) calls.1) [
      | inl unasked ↦
          (more.0, inl (unasked.0, more.1), subst (λ (s : ContentRecord). Run Turn s more.0 new.session.node.store) unasked.1 more.2)
      | inr asked ↦ (asked.0 ∷ more.0, inr (asked.0, more.0, refl, asked.1, more.1), (mid.session.node.store, asked.2, more.2))
    ]
calls_are_turns texts [] (a ∷ ys) old new calls = absurd calls
calls_are_turns texts (r ∷ rs) [] old new calls = absurd calls
