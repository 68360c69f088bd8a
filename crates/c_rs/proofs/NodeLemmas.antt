-- Requests in order are turns of RS and its store.
use Rattle.std.proofs.Common.{◌≡◌, ◌⊎◌, ℕ, Bool, true, false, ◌&&◌, ◌==◌, cond, nat_le, not, List, [], ◌∷◌, inl, inr, refl, sym, ap, subst}
use Rattle.std.specs.Prelude.{Option, Some, None}
use Rattle.std.specs.Option.{option_map, option_and_then}
use Rattle.std.proofs.lemmas.Bool.{eqb-true}
use Rattle.ds_names.specs.Endpoint.{EndpointRecord, endpoint_of, is_rs}
use Rattle.ds_names.specs.declared.key.Key.{Key}
use Rattle.ds_names.specs.declared.version.Version.{Version}
use Rattle.ds_entry.specs.declared.body.Value.{Value}
use Rattle.ds_machine.specs.declared.command.Command.{Command}
use Rattle.ds_machine.specs.declared.command.Command.TheVariants.{Publish, Delete, Sweep, Retrieve, NameOf, Subscribe, Since, Snapshot}
use Rattle.ds_machine.specs.declared.command.Command.TheVariants.{Page}
use Rattle.ds_machine.specs.declared.command.Scope.{Scope}
use Rattle.rs_core.specs.State.{RsRecord}
use Rattle.rs_store.specs.ByRs.{is_by_rs}
use Rattle.rs_store.specs.Serving.{passes_for_rs}
use Rattle.c_values.specs.declared.request.Request.{Request}
use Rattle.c_values.specs.Request.{command_of, publish_of, delete_of, sweep_of, subscribe_of, since_of_request, page_of_request, caller_of}
use Rattle.c_values.specs.Request.{endpoint_at, query_at, scope_of}
use Rattle.c_values.specs.Asked.{StandsFor, request_text}
use Rattle.c_rs.specs.Requests.{CallsUnlessBarred, is_rs_request, is_for_rs_alone}
use Rattle.history.specs.History.{Run, entry}
use Rattle.ds_machine.specs.declared.reply.Reply.{Reply}
use Rattle.rs_store.specs.declared.call.RsCommand.TheVariants.{Ask}
use Rattle.rs_store.specs.declared.call.RsReply.TheVariants.{Replied}
use Rattle.rs_store.specs.Laws.{store_entries}
use Rattle.rs_store.specs.Pair.{PairRecord}
use Rattle.rs_store.specs.Turns.{RsTurn}
use Rattle.c_values.specs.declared.answer.Answer.{Answer}
use Rattle.c_store.specs.Called.{Called}
use Rattle.c_rs.specs.declared.session.RsSession.{RsSession}
use Rattle.c_rs.specs.Running.{IsNoEntry, IsEntryOf, CallsAreNodeTurns}

-- whether the command, if there is one, is in RS's name
abbrev by_rs : Option Command → Bool
by_rs None = false
by_rs (Some command) = is_by_rs command

abbrev rs_in : Option EndpointRecord → Bool
rs_in None = false
rs_in (Some e) = is_rs e

-- ---- the caller

in_range : (b : Bool) (g s : ℕ) → (g == 0 && s == 2) ≡ false → rs_in (cond b (Some (endpoint_of g s)) None) ≡ false
in_range true g s client = client
in_range false g s client = refl

client_caller : (g s : ℕ) → (g == 0 && s == 2) ≡ false → rs_in (endpoint_at g s) ≡ false
unfolding endpoint_at
client_caller g s client = in_range _ g s client

-- ---- the three commands that have a caller

publish_by : (k : Option Key) (e : Option EndpointRecord) (v : Option Version) (f : Key → Option Value) (o : Bool) → rs_in e ≡ false
    → by_rs (option_and_then (λ (key : Key). option_and_then
    (λ caller. option_and_then (λ version. option_map (λ value. Publish caller key version value o) (f key)) v) e) k) ≡ false
publish_by None e v f o client = refl
publish_by (Some k) None v f o client = refl
publish_by (Some k) (Some x) None f o client = refl
publish_by (Some k) (Some x) (Some y) f o client = made (f k)
  where
    made : (w : Option Value) → by_rs (option_map (λ value. Publish x k y value o) w) ≡ false
    made None = refl
    made (Some w) = client

delete_by : (e : Option EndpointRecord) (k : Option Key) (v : Option Version) → rs_in e ≡ false
    → by_rs (option_and_then (λ caller. option_and_then (λ key. option_map (Delete caller key) v) k) e) ≡ false
delete_by None k v client = refl
delete_by (Some x) None v client = refl
delete_by (Some x) (Some k) None client = refl
delete_by (Some x) (Some k) (Some y) client = client

sweep_by : (e : Option EndpointRecord) (n : Option (List ℕ)) (g : Option ℕ) → rs_in e ≡ false
    → by_rs (option_and_then (λ caller. option_and_then (λ owner. option_map (Sweep caller owner) g) n) e) ≡ false
sweep_by None n g client = refl
sweep_by (Some x) None g client = refl
sweep_by (Some x) (Some n) None client = refl
sweep_by (Some x) (Some n) (Some g) client = client

module _ (r : Request) (text : List ℕ) where
  publish_client : rs_in (caller_of r) ≡ false → by_rs (publish_of r text) ≡ false
  unfolding publish_of
  publish_client client = publish_by _ (caller_of r) _ _ _ client

  delete_client : rs_in (caller_of r) ≡ false → by_rs (delete_of r) ≡ false
  unfolding delete_of
  delete_client client = delete_by (caller_of r) _ _ client

  sweep_client : rs_in (caller_of r) ≡ false → by_rs (sweep_of r) ≡ false
  unfolding sweep_of
  sweep_client client = sweep_by (caller_of r) _ _ client

  -- ---- any command

  mapped : {X : Type 0} (f : X → Command) (o : Option X) → ((x : X) → is_by_rs (f x) ≡ false) → by_rs (option_map f o) ≡ false
  mapped f None other = refl
  mapped f (Some x) other = other x

  paged : (after : Option (Option Key)) (scope : Option Scope) (max : ℕ)
      → by_rs (option_and_then (λ (k : Option Key). option_map (λ s. Page s k max) scope) after) ≡ false
  paged None scope max = refl
  paged (Some k) None max = refl
  paged (Some k) (Some s) max = refl

  subscribe_client : by_rs (subscribe_of r text) ≡ false
  unfolding subscribe_of
  subscribe_client = mapped (λ query. Subscribe r.sub query (not (r.initial == 0)) (not (r.overwrite == 0))) (query_at r.kinds text)
      (λ _. refl)

  since_client : by_rs (since_of_request r text) ≡ false
  unfolding since_of_request
  since_client = mapped (λ (scope : Scope). Since scope (record { incarnation = r.incarnation; position = r.position }) r.max)
      (scope_of r text) (λ _. refl)

  pick : (b : Bool) (x y : Option Command) → (b ≡ true → by_rs x ≡ false) → by_rs y ≡ false → by_rs (cond b x y) ≡ false
  pick true x y here else = here refl
  pick false x y here else = else

  called : (n m : ℕ) (q : Bool) → (n == m) ≡ true → nat_le m 2 ≡ true → (nat_le n 2 && q) ≡ false → q ≡ false
  called n m q same low not_rs =
      subst (λ (b : Bool). (b && q) ≡ false) low (subst (λ (k : ℕ). (nat_le k 2 && q) ≡ false) (eqb-true n m same) not_rs)

  is_client : (m : ℕ) → nat_le m 2 ≡ true → is_rs_request r ≡ false → (r.command == m) ≡ true → rs_in (caller_of r) ≡ false
  is_client m low not_rs same = client_caller r.generation r.slot (called r.command m (r.generation == 0 && r.slot == 2) same low not_rs)

  command_client : is_rs_request r ≡ false → by_rs (command_of r text) ≡ false
  unfolding command_of page_of_request
  command_client not_rs =
      pick (r.command == 0) _ _ (λ same. publish_client (is_client 0 refl not_rs same))
      (pick (r.command == 1) _ _ (λ same. delete_client (is_client 1 refl not_rs same))
      (pick (r.command == 2) _ _ (λ same. sweep_client (is_client 2 refl not_rs same))
      (pick (r.command == 3) _ _ (λ _. mapped Retrieve _ (λ _. refl))
      (pick (r.command == 4) _ _ (λ _. mapped NameOf _ (λ _. refl))
      (pick (r.command == 5) _ _ (λ _. subscribe_client)
      (pick (r.command == 6) _ _ (λ _. refl)
      (pick (r.command == 7) _ _ (λ _. since_client)
      (pick (r.command == 8) _ _ (λ _. mapped Snapshot _ (λ _. refl))
      (pick (r.command == 9) _ _ (λ _. paged _ _ _) refl)))))))))

  by_one : (o : Option Command) (command : Command) → o ≡ Some command → by_rs o ≡ false → is_by_rs command ≡ false
  by_one o command e client = subst (λ (z : Option Command). by_rs z ≡ false) e client

  stands_client : (command : Command) → StandsFor r text command → is_rs_request r ≡ false → is_by_rs command ≡ false
  stands_client command (inl is) not_rs = by_one (command_of r text) command is (command_client not_rs)
  stands_client command (inr merge) not_rs = subst (λ (c : Command). is_by_rs c ≡ false) (sym merge.command_is) refl

  pub passes : (services : Option RsRecord) (command : Command) → StandsFor r text command → is_for_rs_alone services r ≡ false
      → passes_for_rs services command ≡ false
  passes None command stands alone = refl
  passes (Some rs) command stands alone = stands_client command stands alone

-- ---- one call, and calls in order

-- what one call is: a turn of RS and its store, or none
abbrev pub OneTurn : List ℕ → RsSession → Request → Answer → RsSession → Type 0
OneTurn texts old r a new =
    (IsNoEntry a × (new.session.node ≡ old.session.node))
    ⊎ ((command : Command) × (reply : Reply) × IsEntryOf texts r a (entry 0 command reply) ×
    RsTurn old.session.node (Ask command) (Replied reply) new.session.node)

session_turn : (texts : List ℕ) (old new : RsSession) (r : Request) (a : Answer) (o : Option (List ℕ)) → request_text r texts ≡ o
    → is_for_rs_alone old.session.node.services r ≡ false → Called old.session r o a new.session → OneTurn texts old r a new
session_turn texts old new r a None is alone called = inl (inl called.told_is, called.node_is)
session_turn texts old new r a (Some text) is alone called = elim called [
  | inl answers ↦ inr (
    answers.command,
    answers.answered.reply,
    record { text = text; text_is = is; stands = answers.stands; told = answers.answered.told },
    ((passes r text old.session.node.services answers.command answers.stands alone, answers.answered.turn), answers.answered.services),
  )
  | inr rests ↦ elim rests [
    | inl none ↦ inl (inl none.1.told_is, none.1.node_is)
    | inr room ↦ inl (inr (inl room.1.told_is), room.1.node_is)
  ]
]

pub one_turn : (texts : List ℕ) (old new : RsSession) (r : Request) (a : Answer) (barred : Bool) →
    is_for_rs_alone old.session.node.services r ≡ barred
    → CallsUnlessBarred barred texts old r a new → OneTurn texts old r a new
one_turn texts old new r a true alone called = inl (inr (inr called.done.told_is), called.done.node_is)
one_turn texts old new r a false alone called = session_turn texts old new r a (request_text r texts) refl alone called.done

pub calls_are_node_turns : CallsAreNodeTurns
calls_are_node_turns texts [] [] old new none = ([], tt, ap (λ (s : RsSession). s.session.node) (sym none))
calls_are_node_turns texts (r ∷ rs) (a ∷ ys) old new calls =
    let mid : RsSession = calls.0 in
    let more = calls_are_node_turns texts rs ys mid new calls.2 in
    elim (one_turn texts old mid r a (is_for_rs_alone old.session.node.services r) refl calls.1) [
      | inl unasked ↦ (more.0, inl (unasked.0, more.1), subst (λ (p : PairRecord). Run RsTurn p more.0 new.session.node) unasked.1 more.2)
      | inr asked ↦ (
        entry 0 (Ask asked.0) (Replied asked.1) ∷ more.0,
        inr (entry 0 asked.0 asked.1, store_entries more.0, refl, asked.2, more.1),
        (mid.session.node, asked.3, more.2),
      )
    ]
calls_are_node_turns texts [] (a ∷ ys) old new calls = absurd calls
calls_are_node_turns texts (r ∷ rs) [] old new calls = absurd calls
