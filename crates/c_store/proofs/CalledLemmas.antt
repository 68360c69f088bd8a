-- How a request is answered, and what some requests stand for.
use Rattle.std.proofs.Common.{◌≡◌, ℕ, Bool, true, false, cond, List, inl, refl, sym, ap, ◌∙◌, subst, arith}
use Rattle.std.specs.Prelude.{Option, Some, None, Result, Ok, Err, IfOk, OnErr}
use Rattle.std.specs.Option.{option_map}
use Rattle.ds_names.specs.Endpoint.{EndpointRecord, is_rs}
use Rattle.ds_names.specs.declared.key.Key.{Key}
use Rattle.ds_names.specs.declared.room.NoRoom as room
use Rattle.ds_entry.specs.Change.{ValueCopyTakesMemory}
use Rattle.ds_entry.specs.declared.body.Value.{Value}
use Rattle.ds_machine.specs.Asking.{name_of}
use Rattle.ds_machine.specs.Machine.{live_at, found_or}
use Rattle.ds_machine.specs.State.{State, held}
use Rattle.ds_machine.specs.declared.command.Command.{Command}
use Rattle.ds_machine.specs.declared.command.Command.TheVariants.{Retrieve, NameOf}
use Rattle.ds_machine.specs.declared.reply.Reply.{Reply}
use Rattle.ds_machine.specs.declared.refusal.Refusal.TheVariants.{NotFound}
use Rattle.ds_machine.specs.declared.reply.Reply.TheVariants.{Found, Named, Refused}
use Rattle.ds_content.specs.Content.{ContentRecord}
use Rattle.ds_content.specs.Stands.{ContentStands, InEachState}
use Rattle.rs_store.specs.Pair.{PairRecord}
use Rattle.ds_store.specs.Finding.{label_name}
use Rattle.ds_store.specs.Turns.{Turn}
use Rattle.ds_store.proofs.FindLemmas.{retrieve_turn, copyless_turn}
use Rattle.c_values.specs.declared.request.Request.{Request}
use Rattle.c_values.specs.declared.answer.Answer.{Answer}
use Rattle.c_values.specs.declared.texts.Publication.{Publication}
use Rattle.c_values.specs.Answer.{answer_of}
use Rattle.script_answers.specs.declared.wording.Wording.TheVariants.{AsMerge}
use Rattle.c_values.specs.Asked.{StandsFor, StandsForNone}
use Rattle.c_values.specs.Request.{command_of, publish_of, publish_command, key_of, caller_of}
use Rattle.c_values.proofs.AskedLemmas.{none_of_parts, publishes}
use Rattle.c_store.specs.declared.session.Session.{Session}
use Rattle.c_store.specs.Called.{CalledWith, Called, Rests, Tells}
use Rattle.c_store.specs.declared.last.Last.TheVariants.{Reply as Replied}
use Rattle.c_store.specs.Kept.{copy_reply}

pub called : (old new : Session) (r : Request) (o : Option (List ℕ)) (text : List ℕ) (answer : Answer) → o ≡ Some text →
    CalledWith old r text answer new → Called old r o answer new
called old new r o text answer is given = subst (λ (p : Option (List ℕ)). Called old r p answer new) (sym is) given

-- A command that a turn of the store answers, which leaves the store unchanged. Before the answer, the last one may be let go.
pub told_so : (old mid new : Session) (answer : Answer) (command : Command) (reply : Reply) → mid.node ≡ old.node → (v : ContentRecord) →
    v ≡ mid.node.store → Turn v command reply v
    → Rests mid (answer_of reply) (Replied reply AsMerge) answer new → Tells old AsMerge command answer new
told_so old mid new answer command reply same v is turn rests = record {
  reply = reply;
  turn = subst (λ (w : PairRecord). Turn old.node.store command reply w.store) (sym rests.node_is)
      (subst (λ (w : PairRecord). Turn w.store command reply mid.node.store) same
      (subst (λ (w : ContentRecord). Turn w command reply w) is turn));
  services = ap (λ (w : PairRecord). w.services) (rests.node_is ∙ same);
  told = rests.told_is;
  kept = rests.kept;
}

-- A request whose command is answered.
pub answered : (old new : Session) (r : Request) (text : List ℕ) (answer : Answer) (command : Command) → StandsFor r text command →
    Tells old AsMerge command answer new → CalledWith old r text answer new
answered old new r text answer command stands tells = inl (record { command = command; stands = stands; answered = tells })

-- ---- what a Publish, a Retrieve and a NameOf stand for

retrieves : (r : Request) (text : List ℕ) → r.command ≡ 3 → command_of r text ≡ option_map Retrieve (key_of r)
unfolding command_of
retrieves r text three = rw three refl

names : (r : Request) (text : List ℕ) → r.command ≡ 4 → command_of r text ≡ option_map NameOf (caller_of r)
unfolding command_of
names r text four = rw four refl

pub stands_for_publish : (r : Request) (text : List ℕ) (asked : Publication) → r.command ≡ 0 →
    option_map publish_command (Some asked) ≡ publish_of r text → StandsFor r text (publish_command asked)
stands_for_publish r text asked zero e = inl (publishes r text zero ∙ sym e)

pub stands_for_no_publish : (r : Request) (text : List ℕ) → r.command ≡ 0 → option_map publish_command None ≡ publish_of r text →
    StandsForNone r text
stands_for_no_publish r text zero e = none_of_parts r text (λ ten. omega (arith, zero, ten)) (publishes r text zero ∙ sym e)

pub stands_for_retrieve : (r : Request) (text : List ℕ) (key : Key) → r.command ≡ 3 → Some key ≡ key_of r → StandsFor r text (Retrieve key)
stands_for_retrieve r text key three e = inl (retrieves r text three ∙ ap (option_map Retrieve) (sym e))

pub stands_for_no_retrieve : (r : Request) (text : List ℕ) → r.command ≡ 3 → None ≡ key_of r → StandsForNone r text
stands_for_no_retrieve r text three e = none_of_parts r text (λ ten. omega (arith, three, ten))
    (retrieves r text three ∙ ap (option_map Retrieve) (sym e))

pub stands_for_name : (r : Request) (text : List ℕ) (endpoint : EndpointRecord) → r.command ≡ 4 → Some endpoint ≡ caller_of r →
    StandsFor r text (NameOf endpoint)
stands_for_name r text endpoint four e = inl (names r text four ∙ ap (option_map NameOf) (sym e))

pub stands_for_no_name : (r : Request) (text : List ℕ) → r.command ≡ 4 → None ≡ caller_of r → StandsForNone r text
stands_for_no_name r text four e = none_of_parts r text (λ ten. omega (arith, four, ten))
    (names r text four ∙ ap (option_map NameOf) (sym e))

-- ---- the turn of a NameOf of an endpoint without a label

no_name : (rs : Bool) (o : Option (List ℕ)) → None ≡ cond rs None o → rs ≡ false → None ≡ o
no_name true o e is = absurd (cc)
no_name false o e is = e

pub nameless_turn : (v : ContentRecord) (endpoint : EndpointRecord) → ((s : State) × ContentStands v s) →
    InEachState v (λ s. None ≡ label_name s endpoint) → is_rs endpoint ≡ false
    → Turn v (NameOf endpoint) (Refused NotFound) v
nameless_turn v endpoint stood is client = record {
  stood = stood;
  steps = λ s stands. (
    s,
    inl (inl
        (record {
          reply_is = ap (λ (o : Option (List ℕ)). found_or (option_map Named o))
              (no_name (is_rs endpoint) (name_of (held s) endpoint) (is s stands) client);
          state_is = refl;
        })),
    stands,
  );
  last = λ s stands. tt;
}

-- ---- the turn of a Retrieve that copies the value

pub copied_turn : (v : ContentRecord) (key : Key) (value : Value) (copied : Result Value room.NoRoom) → ((s : State) × ContentStands v s) →
    InEachState v (λ s. Some value ≡ live_at s key) → IfOk copied (λ copy. copy ≡ value)
    → OnErr copied (ValueCopyTakesMemory value) → Turn v (Retrieve key) (copy_reply copied) v
copied_turn v key value (Ok copy) stood is same room =
    subst (λ (x : Value). Turn v (Retrieve key) (Found x) v) (sym same) (retrieve_turn v key (Some value) stood is)
copied_turn v key value (Err want) stood is same room = copyless_turn v key value stood is room
