-- Calls on a table from C, as a run of the table.
use Rattle.std.proofs.Common.{◌≡◌, ◌==◌, ◌≤◌, ℕ, Bool, true, false, cond, List, [], ◌∷◌, ◌++◌, Option, Some, None, Result, Ok, Err, refl}
use Rattle.std.proofs.Common.{ap, sym, ◌∙◌, subst, inl, inr, append-nil}
use Rattle.std.specs.Prelude.{MatchOption, length}
use Rattle.std.specs.List.{flat_map, cons_option, AllByRecursion}
use Rattle.std.specs.Option.{option_map, option_to_list}
use Rattle.std.proofs.lemmas.Grind.{flat_map-append}
use Rattle.std.proofs.lemmas.List.Elements.{filter_map-append}
use Rattle.ds_names.specs.Endpoint.{EndpointRecord}
use Rattle.ds_entry.specs.declared.item.Item.{Item}
use Rattle.history.proofs.RunLemmas.{path_join}
use Rattle.driver_tables.specs.declared.device.Class.{Class}
use Rattle.driver_tables.specs.declared.device.Class.TheVariants.{Block}
use Rattle.driver_tables.specs.declared.device.Device.{Device}
use Rattle.driver_tables.specs.declared.fault.TableFault.{TableFault}
use Rattle.driver_tables.specs.declared.fault.TableFault.TheVariants as faults
use Rattle.driver_tables.specs.declared.moves.Move.{Move}
use Rattle.driver_tables.specs.declared.moves.Move.TheVariants as moves
use Rattle.driver_tables.specs.Assign.{assigning}
use Rattle.driver_tables.specs.Doing.{sends_of, answered_by}
use Rattle.driver_tables.specs.Driver.{Driver, driver_of}
use Rattle.driver_tables.specs.DriverTable.{DriverTable, Request, empty_table, values_of, last_sent}
use Rattle.driver_tables.specs.Laws.{IsRequestKept}
use Rattle.driver_tables.specs.Reached.{IsRequestServed}
use Rattle.driver_tables.specs.Run.{Call, Entry, TableStep, TableRun, no_moves, moves_in, all_moves_in, request_in, requests_in}
use Rattle.driver_tables.specs.Run as calls
use Rattle.driver_tables.specs.Stands.{TableRecord, TableStands, device_of}
use Rattle.driver_tables.proofs.LawLemmas.{lists_tell, answers_once, block_requests_are_kept}
use Rattle.driver_tables.proofs.RunLemmas.{tells_run}
use Rattle.driver_tables.proofs.StandsLemmas.{driver_kept}
use Rattle.rs_to_store.specs.Following.{labels_of}
use Rattle.rs_to_store.specs.Submitting.{all_in}
use Rattle.c_values.specs.declared.answer.Answer.{Answer}
use Rattle.c_values.specs.Request.{endpoint_at}
use Rattle.c_store.specs.declared.server_table.ServerTable.{ServerTable}
use Rattle.c_store.specs.Answers.{stop_number, told_moves}
use Rattle.c_values.specs.Request.{is_name}
use Rattle.c_store.specs.Calls.{class_for, Declines, AssignsTo, RepliesTo, TableFollows, TableSubmits}
use Rattle.c_store.specs.Drivers.{kept, driver_with, server_number, class_at}
use Rattle.c_store.specs.declared.drivers.Tables.{Tables}
use Rattle.c_store.specs.declared.drivers.Tables.TheVariants.{File, Net}
use Rattle.c_store.specs.Following.{fault_in}
use Rattle.c_store.specs.NoOlder.{HasNoOlder, GoesToNoneOlder, unit_label}
use Rattle.c_store.specs.TableTurns.{TableCall, Assign, Follow, Submit, Reply, CallAnswers, AnsweredCall, LeadsByCall, AnsweredCalls}
use Rattle.c_store.specs.TableTurns.{moves_of_turns, accepted_by, accepted}
use Rattle.c_store.specs.TableRuns.{IsNoCall, IsOneCall, IsOneReply, IsOfMap, HasRequest, IsOfCall, IsPartOfCall, ArePartsOfCalls}
use Rattle.c_store.specs.TableRuns.{TurnsAreRuns, endings_of, AnsweredOnce, IsKeptBy, IsKeptIn, RequestsAreKept, map_of_call}
use Rattle.c_store.specs.TableRuns.{GoesToNoOlderInstance, NoneGoesToOlderInstance}
use Rattle.c_store.proofs.NewsLemmas.{in_some}
use Rattle.c_store.proofs.FollowRunLemmas.{label_in, Goes, labels_have, follow_run, submit_run}

-- ---- one turn
-- it is a part of a run, accepts the requests of that part, and its moves go to no older instance than the map has
pub record TurnRun (first : ServerTable) (turn : AnsweredCall) (t : DriverTable) (new : ServerTable) : Type 0 where
  pub part : List Entry
  pub table : DriverTable
  pub is_part : IsPartOfCall first t turn part table
  pub stands : TableStands (kept new.drivers) table
  pub server : server_number new.drivers ≡ server_number first.drivers
  pub requests : requests_in part ≡ option_to_list (accepted_by turn.call turn.answer)
  pub goes : (held : List Item) → map_of_call turn.call ≡ Some held → AllByRecursion (Goes held table) turn.moves

-- the same, of a call with its answer and moves
abbrev pub CallRun : ServerTable → TableCall → Answer → List Move → DriverTable → ServerTable → Type 0
CallRun first call answer moves t new = TurnRun first (record { call = call; answer = answer; moves = moves }) t new

-- tables of one server are of that of the first
abbrev pub IsOfServer : ServerTable → ServerTable → Type 0
IsOfServer first table = server_number table.drivers ≡ server_number first.drivers

-- the classes are the server's
same_classes : (a b : Tables) → server_number b ≡ server_number a → (n : ℕ) → class_at a n ≡ class_at b n
same_classes (File x) (File y) e n = refl
same_classes (Net x) (Net y) e n = refl
same_classes (File x) (Net y) e n = absurd (let q : false ≡ true = ap (λ (k : ℕ). k == 0) e in cc)
same_classes (Net x) (File y) e n = absurd (let q : true ≡ false = ap (λ (k : ℕ). k == 0) e in cc)

same_class : (first old : ServerTable) (class : ℕ) (label : List ℕ) → IsOfServer first old →
    class_for first class label ≡ class_for old class label
same_class first old class label e =
    ap (λ (o : Option Class). cond (is_name label) o None) (same_classes first.drivers old.drivers e class)

declined_part : (first : ServerTable) (call : TableCall) (old new : ServerTable) (answer : Answer) (moves : List Move) (t : DriverTable) →
    IsOfServer first old → TableStands (kept old.drivers) t → moves ≡ new.moves → Declines old answer new
    → (IsNoCall answer [] → IsOfCall first t call answer moves [] t) → [] ≡ option_to_list (accepted_by call answer) →
    ((held : List Item) → map_of_call call ≡ Some held → ⊥) → CallRun first call answer moves t new
declined_part first call old new answer moves t same st m d of none other = record {
  part = [];
  is_part = record { run = refl; of_call = of (record { none = refl; told = d.told }); moves = m ∙ d.none };
  table = t;
  stands = subst (λ z. TableStands (kept z) t) (sym d.drivers) st;
  server = ap server_number d.drivers ∙ same;
  requests = none;
  goes = λ held e. absurd (other held e);
}

-- an assignment has no moves
assigned_none : (t u : DriverTable) (unit : ℕ) (driver : Driver) (said : Result (List Move) TableFault) →
    TableStep t (calls.Assign unit driver) said u → moves_in said ≡ []
assigned_none t u unit driver (Err fault) s = refl
assigned_none t u unit driver (Ok moves) s = by (assigning t unit driver).0 s.answer_is
  where
    by : (o : Result (Unit {0}) TableFault) → Ok moves ≡ no_moves o → moves ≡ []
    by (Ok done) e = cc
    by (Err fault) e = absurd (cc)

assign_part : (first : ServerTable) (unit class : ℕ) (label : List ℕ) (old new : ServerTable) (answer : Answer) (moves : List Move)
    (t : DriverTable) → IsOfServer first old → TableStands (kept old.drivers) t → moves ≡ new.moves → (o : Option Class)
    → class_for first class label ≡ o → MatchOption o (Declines old answer new) (AssignsTo unit label old answer new)
    → CallRun first (Assign unit class label) answer moves t new
assign_part first unit class label old new answer moves t same st m None q d =
    declined_part first (Assign unit class label) old new answer moves t same st m d
    (λ (n : IsNoCall answer []). subst (λ (o : Option Class).
    MatchOption o (IsNoCall answer []) (λ (of : Class). IsOneCall (calls.Assign unit (driver_with label of)) answer [])) (sym q) n)
    refl (λ held e. (let n : None ≡ Some held = e in cc))
assign_part first unit class label old new answer moves t same st m (Some of) q a =
    let s = a.steps.steps t st in record {
      part = part;
      is_part = record {
        run = (s.0, s.1, refl);
        of_call = subst (λ (o : Option Class). MatchOption o (IsNoCall answer part)
            (λ (of : Class). IsOneCall (calls.Assign unit (driver_with label of)) answer part)) (sym q)
            (record { said = a.said; one = refl; told = a.told });
        moves = m ∙ (a.none ∙ (sym (assigned_none t s.0 unit (driver_with label of) a.said s.1) ∙ sym (append-nil (moves_in a.said))));
      };
      table = s.0;
      stands = s.2;
      server = a.steps.server ∙ same;
      requests = refl;
      goes = λ held e. absurd (let n : None ≡ Some held = e in cc);
    }
  where
    part : List Entry
    part = record { call = calls.Assign unit (driver_with label of); answer = a.said } ∷ []

reply_part : (first : ServerTable) (generation slot id : ℕ) (old new : ServerTable) (answer : Answer) (moves : List Move)
    (t : DriverTable) → IsOfServer first old → TableStands (kept old.drivers) t → moves ≡ new.moves → (o : Option EndpointRecord)
    → endpoint_at generation slot ≡ o → MatchOption o (Declines old answer new) (RepliesTo id old answer new)
    → CallRun first (Reply generation slot id) answer moves t new
reply_part first generation slot id old new answer moves t same st m None q d =
    declined_part first (Reply generation slot id) old new answer moves t same st m d
    (λ (n : IsNoCall answer []). subst (λ (o : Option EndpointRecord).
    MatchOption o (IsNoCall answer []) (IsOneReply t id answer [])) (sym q) n)
    refl (λ held e. (let n : None ≡ Some held = e in cc))
reply_part first generation slot id old new answer moves t same st m (Some endpoint) q r =
    let s = r.replies.steps.steps t st in record {
      part = part;
      is_part = record {
        run = (s.0, s.1, refl);
        of_call = subst (λ (o : Option EndpointRecord). MatchOption o (IsNoCall answer part) (IsOneReply t id answer part)) (sym q)
            (record { call = record { said = r.said; one = refl; told = r.told }; exact = r.replies.exact t st });
        moves = m ∙ (r.moves ∙ sym (append-nil (moves_in r.said)));
      };
      table = s.0;
      stands = s.2;
      server = r.replies.steps.server ∙ same;
      requests = refl;
      goes = λ held e. absurd (let n : None ≡ Some held = e in cc);
    }
  where
    part : List Entry
    part = record { call = calls.Reply endpoint id; answer = r.said } ∷ []

-- the map's states are no requests
no_requests : (held : List Item) (entries : List Entry) → AllByRecursion (IsOfMap held) entries → requests_in entries ≡ []
no_requests held [] all = refl
no_requests held (entry ∷ entries) ((label, c, there, is), all) =
    ap (λ (call : Call). cons_option (request_in call entry.answer) (requests_in entries)) is ∙ no_requests held entries all

follow_part : (first : ServerTable) (held : List Item) (old new : ServerTable) (answer : Answer) (moves : List Move) (t : DriverTable) →
    IsOfServer first old → TableStands (kept old.drivers) t → moves ≡ new.moves → TableFollows held old answer new
    → CallRun first (Follow held) answer moves t new
follow_part first held old new answer moves t server st m f =
    let went = f.follows.1 t st in
    let k = follow_run held (labels_of t) t went.1 f.stop went.0 st.reached (labels_have t.units) went.3 in
    let same : moves ≡ all_in went.1 = m ∙ (f.follows.2 ∙ ap all_in went.2) in record {
      part = k.entries;
      is_part = record {
        run = k.run;
        of_call = record {
          rounds = went.1;
          stop = f.stop;
          follows = went.3;
          of_map = k.of_map;
          moves_are = same;
          told = f.told ∙ ap (λ (l : List Move). told_moves l f.stop) (sym m);
        };
        moves = same ∙ k.moves;
      };
      table = went.0;
      stands = went.4;
      server = f.server ∙ server;
      requests = no_requests held k.entries k.of_map;
      goes = λ other e. subst (λ (h : List Item). AllByRecursion (Goes h went.0) moves) (in_some e)
          (subst (AllByRecursion (Goes held went.0)) (sym same) k.goes);
    }

abbrev pub request_if : ℕ → ℕ → Bool → Option Request
request_if id unit b = cond b (Some (record { id = id; unit = unit })) None

-- the refusal that C gets says whether the request was accepted
accepted_so : (held : List Item) (id unit : ℕ) (answer : Answer) (own : Result (List Move) TableFault) →
    answer.refusal ≡ stop_number (fault_in own)
    → cons_option (request_in (calls.Submit id unit) own) [] ≡ option_to_list (accepted_by (Submit held id unit) answer)
accepted_so held id unit answer own is = by own (ap (λ (n : ℕ). n == 0) is)
  where
    by : (own : Result (List Move) TableFault) → answer.refusal == 0 ≡ stop_number (fault_in own) == 0 →
        cons_option (request_in (calls.Submit id unit) own) [] ≡ option_to_list (accepted_by (Submit held id unit) answer)
    by (Ok moves) e = sym (ap (λ (b : Bool). option_to_list (request_if id unit b)) e)
    by (Err faults.Assigned) e = sym (ap (λ (b : Bool). option_to_list (request_if id unit b)) e)
    by (Err faults.TwoIds) e = sym (ap (λ (b : Bool). option_to_list (request_if id unit b)) e)
    by (Err faults.NoDevice) e = sym (ap (λ (b : Bool). option_to_list (request_if id unit b)) e)
    by (Err faults.NotPending) e = sym (ap (λ (b : Bool). option_to_list (request_if id unit b)) e)
    by (Err faults.OldEndpoint) e = sym (ap (λ (b : Bool). option_to_list (request_if id unit b)) e)
    by (Err faults.NoRoom) e = sym (ap (λ (b : Bool). option_to_list (request_if id unit b)) e)

abbrev pub in_entry : Entry → Option Request
in_entry e = request_in e.call e.answer

submit_part : (first : ServerTable) (held : List Item) (id unit : ℕ) (old new : ServerTable) (answer : Answer) (moves : List Move)
    (t : DriverTable) → IsOfServer first old → TableStands (kept old.drivers) t → moves ≡ new.moves
    → TableSubmits held id unit old answer new → CallRun first (Submit held id unit) answer moves t new
submit_part first held id unit old new answer moves t server st m f =
    let own = f.submits.1 in
    let went = f.submits.2 t st in
    let k = submit_run held id unit t went.1 own went.0 st.reached went.3 in
    let same : moves ≡ all_in went.1 ++ moves_in own = m ∙ (f.submits.3 ∙ ap (λ (r : List (List Move)). all_in r ++ moves_in own) went.2) in
    let refusal : answer.refusal ≡ stop_number (fault_in own) = ap (λ (a : Answer). a.refusal) f.told ∙ ap stop_number f.submits.4 in
    record {
      part = k.states ++ k.own_part;
      is_part = record {
        run = k.run;
        of_call = record {
          rounds = went.1;
          said = own;
          takes = went.3;
          states = k.states;
          own = k.own_part;
          part_is = refl;
          of_map = k.of_map;
          request = k.request;
          moves_are = same;
          told = f.told ∙ (ap (λ (l : List Move). told_moves l f.stop) (sym m) ∙ ap (told_moves moves) f.submits.4);
        };
        moves = same ∙ k.moves;
      };
      table = went.0;
      stands = went.4;
      server = f.server ∙ server;
      requests = filter_map-append in_entry k.states k.own_part ∙
          (ap (λ (l : List Request). l ++ requests_in k.own_part) (no_requests held k.states k.of_map) ∙
          one own k.own_part went.3.stop refusal k.request);
      goes = λ other e. subst (λ (h : List Item). AllByRecursion (Goes h went.0) moves) (in_some e)
          (subst (AllByRecursion (Goes held went.0)) (sym same) k.goes);
    }
  where
    one : (own : Result (List Move) TableFault) (part : List Entry) (stop : Option TableFault) →
        answer.refusal ≡ stop_number (fault_in own) → HasRequest stop id unit own part
        → requests_in part ≡ option_to_list (accepted_by (Submit held id unit) answer)
    one own part None q e = ap requests_in e ∙ accepted_so held id unit answer own q
    one own part (Some stop) q e = ap requests_in e.0 ∙
        accepted_so held id unit answer (Err faults.NoRoom) (q ∙ ap (λ (o : Result (List Move) TableFault). stop_number (fault_in o)) e.1)

pub turn_run : (first old new : ServerTable) (turn : AnsweredCall) (t : DriverTable) → IsOfServer first old →
    TableStands (kept old.drivers) t → LeadsByCall old turn new → TurnRun first turn t new
turn_run first old new turn t same st takes = by turn.call takes.takes
  where
    by : (call : TableCall) → CallAnswers call old turn.answer new → CallRun first call turn.answer turn.moves t new
    by (Assign unit class label) h = assign_part first unit class label old new turn.answer turn.moves t same st takes.moves
        (class_for old class label) (same_class first old class label same) h
    by (Follow held) h = follow_part first held old new turn.answer turn.moves t same st takes.moves h
    by (Submit held id unit) h = submit_part first held id unit old new turn.answer turn.moves t same st takes.moves h
    by (Reply generation slot id) h = reply_part first generation slot id old new turn.answer turn.moves t same st takes.moves
        (endpoint_at generation slot) refl h

-- ---- turns in order
abbrev pub joined : List (List Entry) → List Entry
joined parts = flat_map (λ (part : List Entry). part) parts

pub record TurnsRun (first : ServerTable) (t : DriverTable) (turns : List AnsweredCall) (last : ServerTable) : Type 0 where
  pub parts : List (List Entry)
  pub table : DriverTable
  pub each : ArePartsOfCalls first t turns parts table
  pub run : TableRun t (joined parts) table
  pub stands : TableStands (kept last.drivers) table
  pub server : IsOfServer first last
  pub moves : moves_of_turns turns ≡ all_moves_in (joined parts)
  pub requests : requests_in (joined parts) ≡ accepted turns

abbrev pub steps_on : DriverTable → Entry → DriverTable → Type 0
steps_on t entry u = TableStep t entry.call entry.answer u

listed : {X : Type 0} (o : Option X) (l : List X) → option_to_list o ++ l ≡ cons_option o l
listed None l = refl
listed (Some x) l = refl

pub turns_run : (first : ServerTable) (turns : List AnsweredCall) (old last : ServerTable) (t : DriverTable) → IsOfServer first old →
    TableStands (kept old.drivers) t → AnsweredCalls old turns last → TurnsRun first t turns last
turns_run first [] old last t same st path = record {
  parts = [];
  each = refl;
  table = t;
  run = refl;
  stands = subst (λ (s : ServerTable). TableStands (kept s.drivers) t) path st;
  server = subst (IsOfServer first) path same;
  moves =
      refl;
  requests = refl;
}
turns_run first (turn ∷ turns) old last t same st path =
    let k = turn_run first old path.0 turn t same st path.1 in
    let rest = turns_run first turns path.0 last k.table k.server k.stands path.2 in record {
      parts = k.part ∷ rest.parts;
      each = (k.table, k.is_part, rest.each);
      table = rest.table;
      run = path_join steps_on t k.table rest.table k.part (joined rest.parts) k.is_part.run rest.run;
      stands = rest.stands;
      server = rest.server;
      moves = ap (λ (l : List Move). l ++ moves_of_turns turns) k.is_part.moves
          ∙ (ap (λ (l : List Move). all_moves_in k.part ++ l) rest.moves ∙
          sym (flat_map-append (λ (e : Entry). moves_in e.answer) k.part (joined rest.parts)));
      requests = filter_map-append in_entry k.part (joined rest.parts)
          ∙ (ap (λ (l : List Request). l ++ requests_in (joined rest.parts)) k.requests
          ∙ (ap (λ (l : List Request). option_to_list (accepted_by turn.call turn.answer) ++ l) rest.requests ∙
          listed (accepted_by turn.call turn.answer) (accepted turns)));
    }

-- ---- the laws
pub turns_are_runs : TurnsAreRuns
turns_are_runs first last turns t st path =
    let k = turns_run first turns first last t refl st path in
    record { parts = k.parts; table = k.table; each = k.each; run = k.run; stands = k.stands; server = k.server }

-- the sends and the answers of the table are those of the moves
module _ (first : ServerTable) (turns : List AnsweredCall) (last : ServerTable) (k : TurnsRun first empty_table turns last) where
  sends_are : k.table.sends ≡ flat_map sends_of (moves_of_turns turns)
  sends_are = (lists_tell (joined k.parts) k.table k.run).1 ∙ ap (flat_map sends_of) (sym k.moves)

  answers_are : k.table.answers ≡ flat_map answered_by (moves_of_turns turns)
  answers_are = (lists_tell (joined k.parts) k.table k.run).2 ∙ ap (flat_map answered_by) (sym k.moves)

  requests_are : k.table.requests ≡ accepted turns
  requests_are = (lists_tell (joined k.parts) k.table k.run).0 ∙ k.requests

  once : (id : ℕ) → length (endings_of (moves_of_turns turns) id) ≤ 1
  once id = subst (λ l. length (values_of id l) ≤ 1) answers_are (answers_once (joined k.parts) k.table k.run id)

  one_kept : (r : Request) → IsRequestServed k.table r →
      ((d : Driver) → driver_of k.table.units r.unit ≡ Some d → d.class ≡ Block → IsRequestKept k.table r d) →
      IsKeptIn (kept last.drivers).devices (moves_of_turns turns) r
  one_kept r served keeps = (
    d,
    driver_kept (kept last.drivers) k.table r.unit k.stands ∙ ap (option_map (device_of k.table.states)) served.found,
    λ block.
        by (keeps served.driver served.found block),
  )
    where
      d : Device
      d = device_of k.table.states served.driver

      by : IsRequestKept k.table r served.driver → IsKeptBy (moves_of_turns turns) r (device_of k.table.states served.driver)
      by (inl e) = inl (ap (values_of r.id) (sym answers_are) ∙ e)
      by (inr (e, sent)) = inr
          (ap (values_of r.id) (sym answers_are) ∙ e, λ endpoint q. ap (λ l. last_sent l r.id) (sym sends_are) ∙ sent endpoint q)

  each_kept : (requests : List Request) → AllByRecursion (IsRequestServed k.table) requests →
      AllByRecursion (λ (r : Request). (d : Driver) → driver_of k.table.units r.unit ≡ Some d → d.class ≡ Block →
      IsRequestKept k.table r d) requests
      → AllByRecursion (IsKeptIn (kept last.drivers).devices (moves_of_turns turns)) requests
  each_kept [] s h = tt
  each_kept (r ∷ requests) s h = (one_kept r s.0 h.0, each_kept requests s.1 h.1)

pub answered_once : AnsweredOnce
answered_once server first last turns id new path =
    once first turns last (turns_run first turns first last empty_table refl new.empty path) id

pub requests_are_kept : RequestsAreKept
requests_are_kept server first last turns new path =
    let k = turns_run first turns first last empty_table refl new.empty path in
    subst (AllByRecursion (IsKeptIn (kept last.drivers).devices (moves_of_turns turns))) (requests_are first turns last k)
    (each_kept first turns last k k.table.requests k.stands.reached.served (block_requests_are_kept (joined k.parts) k.table k.run))

-- the moves, by what C's table has of its units
module _ (held : List Item) (t : DriverTable) (v : TableRecord) (stands : TableStands v t) where
  same_label : (unit : ℕ) → label_in t.units unit ≡ unit_label v unit
  same_label unit = sym (ap (option_map (λ (d : Device). d.label)) (driver_kept v t unit stands) ∙ by (driver_of t.units unit))
    where
      by : (o : Option Driver) → option_map (λ (d : Device). d.label) (option_map (device_of t.states) o) ≡ option_map
          (λ (d : Driver). d.label) o
      by None = refl
      by (Some d) = refl

  goes_by : (moves : List Move) → AllByRecursion (Goes held t) moves → AllByRecursion (GoesToNoneOlder held (unit_label v) t.requests) moves
  goes_by [] g = tt
  goes_by (m ∷ ms) g = (one m g.0, goes_by ms g.1)
    where
      one : (m : Move) → Goes held t m → GoesToNoneOlder held (unit_label v) t.requests m
      one (moves.Start unit e) h = subst (λ (o : Option (List ℕ)). HasNoOlder held o e) (same_label unit) h
      one (moves.Send id e) h = (h.0, h.1, subst (λ (o : Option (List ℕ)). HasNoOlder held o e) (same_label h.0.unit) h.2)
      one (moves.Answer id ending) h = tt
      one (moves.Held id) h = tt

pub goes_to_no_older_instance : GoesToNoOlderInstance
goes_to_no_older_instance old new turn held t st takes follows =
    let own = turn_run old old new turn t refl st takes in
    let request = accepted_by turn.call turn.answer in
    let one : option_to_list request ≡ accepted (turn ∷ []) = sym (append-nil (option_to_list request)) ∙ listed request [] in
    let requests : own.table.requests ≡ t.requests ++ accepted (turn ∷ []) =
    (tells_run t own.table own.part own.is_part.run).0 ∙ ap (λ (l : List Request). t.requests ++ l) (own.requests ∙ one) in
    subst (λ (l : List Request). AllByRecursion (GoesToNoneOlder held (unit_label (kept new.drivers)) l) turn.moves) requests
    (goes_by held own.table (kept new.drivers) own.stands turn.moves (own.goes held follows))

pub none_goes_to_older_instance : NoneGoesToOlderInstance
none_goes_to_older_instance server first mid last turns turn held new path takes follows =
    let k = turns_run first turns first mid empty_table refl new.empty path in
    let requests : k.table.requests ++ accepted (turn ∷ []) ≡ accepted (turns ++ turn ∷ []) =
    ap (λ (l : List Request). l ++ accepted (turn ∷ [])) (requests_are first turns mid k) ∙
    sym (filter_map-append (λ (x : AnsweredCall). accepted_by x.call x.answer) turns (turn ∷ [])) in
    subst (λ (l : List Request). AllByRecursion (GoesToNoneOlder held (unit_label (kept last.drivers)) l) turn.moves) requests
    (goes_to_no_older_instance mid last turn held k.table k.stands takes follows)
