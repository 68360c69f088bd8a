-- Each call is moves of a node and its processes.
use Rattle.std.proofs.Common.{◌≡◌, inl, inr, ℕ, Bool, true, false, true≢false, List, [], ◌∷◌, ◌++◌, Option, Some, None, Result, Ok}
use Rattle.std.proofs.Common.{Err, MatchOption, OnOk, OnErr, IfOk, refl, sym, ap, ◌∙◌, subst}
use Rattle.std.specs.Option.{option_map}
use Rattle.history.specs.History.{Path}
use Rattle.ds_names.specs.Endpoint.{EndpointRecord}
use Rattle.rs_core.specs.declared.event.Event.{Event}
use Rattle.rs_core.specs.Late.{endpoint_in_force, in_force}
use Rattle.rs_core.specs.State.{RsRecord, state_at}
use Rattle.rs_core.specs.declared.state.State.{State}
use Rattle.rs_settings.specs.Settings.{SettingsRecord}
use Rattle.rs_store.specs.declared.call.RsReply.{RsReply}
use Rattle.rs_store.specs.declared.call.RsReply.TheVariants.{Replied}
use Rattle.process_keeper.specs.Order.{TakesAt}
use Rattle.process_keeper.specs.declared.input.Input.{Input}
use Rattle.supervisor.specs.Moves.{Move}
use Rattle.supervisor.specs.Moves.Move.{Note, Renew, Report, Tell, Vouch, Write}
use Rattle.supervisor.specs.declared.fault.RenewalFault.{RenewalFault}
use Rattle.supervisor.specs.declared.fault.SupervisorFault.{SupervisorFault}
use Rattle.node_supervisor.specs.Moves.{IsNodeMove, NodeMove, NodeState, Supervises}
use Rattle.node_supervisor.specs.Moves.NodeMove.{Client, Supervise}
use Rattle.node_supervisor.specs.Renewal.{TakesRenewal}
use Rattle.node_supervisor.specs.Telling.{VouchesNode}
use Rattle.node_supervisor.specs.declared.processes.Processes.{Processes}
use Rattle.node_supervisor.proofs.MoveLemmas.{nodes_agree, nodes_are_supervisors}
use Rattle.c_values.specs.declared.answer.Answer.{Answer}
use Rattle.c_values.specs.declared.request.Request.{Request}
use Rattle.c_store.specs.Called.{RestsForNone}
use Rattle.c_rs.specs.declared.fault.SettingsRefusal.{SettingsRefusal}
use Rattle.c_rs.specs.declared.session.RsSession.{RsSession}
use Rattle.c_rs.specs.Event.{event_of}
use Rattle.c_rs.specs.Requests.{CallsRs, is_for_rs_alone}
use Rattle.c_rs.specs.Serving.{SessionDoes}
use Rattle.c_rs.proofs.NodeLemmas.{one_turn}
use Rattle.c_keeper.specs.declared.session.KeeperSession.{KeeperSession}
use Rattle.c_keeper.specs.Keeping.{IsVouched, KeepsIfOpen, PassesEvent, PassesReport, PassesStruct}
use Rattle.c_keeper.specs.Noting.{NotesFile, NotesInput, input_of}
use Rattle.c_keeper.specs.Renewing.{RenewsKeptBy, RestsAfterRenewal}
use Rattle.c_keeper.specs.Laws.{IsKeptCall, KeptCall, KeptCallsAreMoves, KeptSessionsAgree, LeadsKept, node_of}
use Rattle.c_keeper.specs.Laws.KeptCall.{Noted, Occurred, Renewed, Reported, Requested, Vouched, Written}

-- ---- moves of processes that stay begun

-- moves lead from these processes to those
abbrev Moves : RsSession → Processes → RsSession → Processes → Type 0
Moves s p t q = (moves : List NodeMove) × Path IsNodeMove (node_of s p) moves (node_of t q)

same_node : (s t : RsSession) (p q : Processes) → t.session.node ≡ s.session.node → q.keeper ≡ p.keeper → node_of s p ≡ node_of t q
same_node s t p q n k = λ i. record { node = sym n i; keeper = sym k i }

stays : (s t : RsSession) (p q : Processes) → t.session.node ≡ s.session.node → q.keeper ≡ p.keeper → Moves s p t q
stays s t p q n k = ([], same_node s t p q n k)

moves_once : (s t : RsSession) (p q : Processes) (m : NodeMove) → IsNodeMove (node_of s p) m (node_of t q) → Moves s p t q
moves_once s t p q m h = (m ∷ [], (node_of t q, h, refl))

by_result : (s t : RsSession) (p q : Processes) (m : Move) (r : Result RsReply SupervisorFault) →
    OnOk r (Supervises s.session.node.services p.keeper m t.session.node.services q.keeper) →
    OnErr r ((t.session.node ≡ s.session.node) × (q.keeper ≡ p.keeper)) → Moves s p t q
by_result s t p q m (Ok reply) moves same = moves_once s t p q (Supervise m) moves
by_result s t p q m (Err fault) moves same = stays s t p q same.0 same.1

event_moves : (s t : RsSession) (p q : Processes) (a : Answer) (e : Event) (tick deadline : ℕ) → PassesEvent e tick deadline s p a t q →
    Moves s p t q
event_moves s t p q a e tick deadline h = by_result s t p q (Tell e tick deadline) h.result h.moves h.unchanged

report_moves : (s t : RsSession) (p q : Processes) (a : Answer) (k cause tick now : ℕ) → PassesReport k cause tick now s p a t q →
    Moves s p t q
report_moves s t p q a k cause tick now h = by_result s t p q (Report k cause tick now) h.result h.moves h.unchanged

struct_moves : (s t : RsSession) (p q : Processes) (a : Answer) (tick deadline : ℕ) (o : Option Event) →
    MatchOption o (SessionDoes RestsForNone s a t × (q ≡ p)) (λ event. PassesEvent event tick deadline s p a t q) → Moves s p t q
struct_moves s t p q a tick deadline None h = stays s t p q h.0.done.node_is (ap (λ (x : Processes). x.keeper) h.1)
struct_moves s t p q a tick deadline (Some event) h = event_moves s t p q a event tick deadline h

-- ---- heartbeats
vouch_by : (s t : RsSession) (p q : Processes) (k tick : ℕ) (b : Bool) (o u : Option RsRecord) → s.session.node.services ≡ o →
    t.session.node.services ≡ u → q.keeper ≡ p.keeper → t.session.node.store ≡ s.session.node.store →
    VouchesNode o p.keeper.labels.items k tick b u → Moves s p t q
vouch_by s t p q k tick true (Some rs) (Some after) from to keeper store h =
    moves_once s t p q (Supervise (Vouch k tick))
    (subst (λ (x : Option RsRecord). Supervises x p.keeper (Vouch k tick) t.session.node.services q.keeper) (sym from)
    (subst (λ (x : Option RsRecord). Supervises (Some rs) p.keeper (Vouch k tick) x q.keeper) (sym to) (h, keeper)))
vouch_by s t p q k tick false (Some rs) (Some after) from to keeper store h =
    stays s t p q
    (λ i. record { services = (to ∙ (ap (λ (x : RsRecord). Some x) h.1 ∙ sym from)) i; store = store i }) keeper
vouch_by s t p q k tick true (Some rs) None from to keeper store h = absurd h
vouch_by s t p q k tick false (Some rs) None from to keeper store h = absurd h
vouch_by s t p q k tick true None (Some after) from to keeper store h = absurd h
vouch_by s t p q k tick false None (Some after) from to keeper store h = absurd h
vouch_by s t p q k tick true None None from to keeper store h = absurd (true≢false h)
vouch_by s t p q k tick false None None from to keeper store h =
    stays s t p q (λ i. record { services = (to ∙ sym from) i; store = store i }) keeper

vouch_moves : (s t : RsSession) (p q : Processes) (k tick word : ℕ) → q ≡ p → IsVouched p k tick s word t → Moves s p t q
vouch_moves s t p q k tick word same h = by h.result h.vouched h.unchanged
  where
    keeper : q.keeper ≡ p.keeper
    keeper = ap (λ (x : Processes). x.keeper) same

    by : (r : Result Bool SupervisorFault) →
        IfOk r (λ b. VouchesNode s.session.node.services p.keeper.labels.items k tick b t.session.node.services) →
        OnErr r (t.session.node ≡ s.session.node) → Moves s p t q
    by (Ok b) ok err = vouch_by s t p q k tick b s.session.node.services t.session.node.services refl refl keeper h.store ok
    by (Err fault) ok err = stays s t p q err keeper

-- ---- notes, once RS is begun
by_supervisor : (s t : RsSession) (p q : Processes) (m : Move) (rs : RsRecord) → s.session.node.services ≡ Some rs → t ≡ s →
    Supervises (Some rs) p.keeper m (Some rs) q.keeper → Moves s p t q
by_supervisor s t p q m rs begun same h =
    let after : t.session.node.services ≡ Some rs = ap (λ (x : RsSession). x.session.node.services) same ∙ begun in
    moves_once s t p q (Supervise m)
    (subst (λ (x : Option RsRecord). Supervises x p.keeper m t.session.node.services q.keeper) (sym begun)
    (subst (λ (x : Option RsRecord). Supervises (Some rs) p.keeper m x q.keeper) (sym after) h))

note_moves : (s t : RsSession) (p q : Processes) (k word : ℕ) (input : Input) (rs : RsRecord) → s.session.node.services ≡ Some rs → t ≡ s →
    NotesInput k input p word q → Moves s p t q
note_moves s t p q k word input rs begun same h = by h.accepted h.taken
  where
    by : (b : Bool) → TakesAt p.keeper.labels.items k input b q.keeper.labels.items → Moves s p t q
    by true taken = by_supervisor s t p q (Note k input) rs begun same (h.noted, taken, refl, h.generations.0)
    by false taken = by_supervisor s t p q (Write q.keeper.file) rs begun same (taken.1, refl, h.generations.0)

note_by : (s t : RsSession) (p q : Processes) (k word : ℕ) (o : Option Input) (rs : RsRecord) → s.session.node.services ≡ Some rs → t ≡ s →
    MatchOption o ((word ≡ 5) × (q ≡ p)) (λ input. NotesInput k input p word q) → Moves s p t q
note_by s t p q k word None rs begun same h =
    stays s t p q (ap (λ (x : RsSession). x.session.node) same) (ap (λ (x : Processes). x.keeper) h.1)
note_by s t p q k word (Some input) rs begun same h = note_moves s t p q k word input rs begun same h

file_moves : (s t : RsSession) (p q : Processes) (file word : ℕ) (rs : RsRecord) → s.session.node.services ≡ Some rs → t ≡ s →
    NotesFile file p word q → Moves s p t q
file_moves s t p q file word rs begun same h = by_supervisor s t p q (Write file) rs begun same (h.labels, refl, h.next)

-- ---- requests
request_moves : (texts : List ℕ) (s t : RsSession) (r : Request) (a : Answer) (p q : Processes) → q ≡ p → CallsRs texts s r a t →
    Moves s p t q
request_moves texts s t r a p q same h =
    let keeper : q.keeper ≡ p.keeper = ap (λ (x : Processes). x.keeper) same in
    elim (one_turn texts s t r a (is_for_rs_alone s.session.node.services r) refl h) [
      | inl none ↦ stays s t p q none.1 keeper
      | inr asked ↦ moves_once s t p q (Client asked.0) ((Replied asked.1, asked.3), keeper)
    ]

-- ---- other settings
same_store : (s t : RsSession) (rs : RsRecord) → s.session.node.services ≡ Some rs → t.session.node.services ≡ Some rs →
    t.session.node.store ≡ s.session.node.store → t.session.node ≡ s.session.node
same_store s t rs from to store = λ i. record { services = (to ∙ sym from) i; store = store i }

takes_by : (s t : RsSession) (p q : Processes) (rs : RsRecord) (settings : SettingsRecord) (r : Result (Unit {0}) RenewalFault) →
    s.session.node.services ≡ Some rs → TakesRenewal rs p.keeper settings r t.session.node.services q.keeper →
    RestsAfterRenewal r s t → Moves s p t q
takes_by s t p q rs settings (Ok done) begun h rests =
    moves_once s t p q (Supervise (Renew settings))
    (subst (λ (x : Option RsRecord). Supervises x p.keeper (Renew settings) t.session.node.services q.keeper) (sym begun) h.0)
takes_by s t p q rs settings (Err fault) begun h rests = stays s t p q (same_store s t rs begun h.1 rests.store) h.2

renewal_moves : (text : List ℕ) (s t : RsSession) (p q : Processes) (before fault : SettingsRefusal) (word : ℕ) (rs : RsRecord) →
    s.session.node.services ≡ Some rs → RenewsKeptBy (Some rs) text s p before word fault t q → Moves s p t q
renewal_moves text s t p q before fault word rs begun (inl h) = takes_by s t p q rs h.settings h.result begun h.takes h.rests
renewal_moves text s t p q before fault word rs begun (inr (h, same)) =
    stays s t p q (same_store s t rs begun h.services h.rests.store) (ap (λ (x : Processes). x.keeper) same)

-- ---- one call

-- processes that are kept do so, and are kept
open_still : (does : Processes → Processes → Type 0) (rests : Type 0) (o u : Option Processes) (p : Processes) → o ≡ Some p →
    KeepsIfOpen does rests o u → (q : Processes) × (u ≡ Some q) × does p q
open_still does rests o u p e h = by u (subst (λ (x : Option Processes). KeepsIfOpen does rests x u) e h)
  where
    by : (u : Option Processes) → KeepsIfOpen does rests (Some p) u → (q : Processes) × (u ≡ Some q) × does p q
    by None h = absurd h
    by (Some q) h = (q, refl, h)

call_leads : (s t : KeeperSession) (call : KeptCall) (rs : RsRecord) (p : Processes) → s.rs.session.node.services ≡ Some rs →
    s.processes ≡ Some p → IsKeptCall s call t → LeadsKept s.rs p t
call_leads s t (Requested texts r) rs p begun keeps ((a, h), same) = (p, same ∙ keeps, request_moves texts s.rs t.rs r a p p refl h)
call_leads s t (Occurred e deadline) rs p begun keeps (before, a, word, h) =
    let o = open_still (λ p q. (word ≡ 0) × PassesStruct e deadline s.rs p a t.rs q) _ s.processes t.processes p keeps h in
    (o.0, o.1, struct_moves s.rs t.rs p o.0 a e.tick deadline (event_of e) o.2.1)
call_leads s t (Reported k cause tick now) rs p begun keeps (before, a, word, h) =
    let o = open_still (λ p q. (word ≡ 0) × PassesReport k cause tick now s.rs p a t.rs q) _ s.processes t.processes p keeps h in
    (o.0, o.1, report_moves s.rs t.rs p o.0 a k cause tick now o.2.1)
call_leads s t (Vouched k tick) rs p begun keeps (word, h) =
    let o = open_still (λ p q. (q ≡ p) × IsVouched p k tick s.rs word t.rs) _ s.processes t.processes p keeps h in
    (o.0, o.1, vouch_moves s.rs t.rs p o.0 k tick word o.2.0 o.2.1)
call_leads s t (Noted k kind value) rs p begun keeps ((word, h), same) =
    let o = open_still (λ p q. MatchOption (input_of kind value) ((word ≡ 5) × (q ≡ p)) (λ input. NotesInput k input p word q)) _
    s.processes t.processes p keeps h in
    (o.0, o.1, note_by s.rs t.rs p o.0 k word (input_of kind value) rs begun same o.2)
call_leads s t (Written file) rs p begun keeps ((word, h), same) =
    let o = open_still (λ p q. NotesFile file p word q) _ s.processes t.processes p keeps h in
    (o.0, o.1, file_moves s.rs t.rs p o.0 file word rs begun same o.2)
call_leads s t (Renewed text) rs p begun keeps (before, fault, word, h) =
    let o = open_still (λ p q. RenewsKeptBy s.rs.session.node.services text s.rs p before word fault t.rs q) _ s.processes t.processes p
    keeps h in (
      o.0,
      o.1,
      renewal_moves text s.rs t.rs p o.0 before fault word rs begun
          (subst (λ (x : Option RsRecord). RenewsKeptBy x text s.rs p before word fault t.rs o.0) begun o.2),
    )

-- ---- calls in order
joined : (s t u : NodeState) (moves more : List NodeMove) → Path IsNodeMove s moves t → Path IsNodeMove t more u →
    Path IsNodeMove s (moves ++ more) u
joined s t u [] more path rest = subst (λ (x : NodeState). Path IsNodeMove x more u) (sym path) rest
joined s t u (m ∷ moves) more (v, move, path) rest = (v, move, joined v t u moves more path rest)

pub kept_calls_are_moves : KeptCallsAreMoves
kept_calls_are_moves s t [] rs p begun keeps path = (
  p,
  ap (λ (x : KeeperSession). x.processes) (sym path) ∙ keeps,
  stays s.rs t.rs p p (ap (λ (x : KeeperSession). x.rs.session.node) (sym path)) refl,
)
kept_calls_are_moves s t (call ∷ calls) rs p begun keeps (u, h, path) =
    let one = call_leads s u call rs p begun keeps h in
    let after = nodes_are_supervisors (node_of s.rs p) (node_of u.rs one.0) one.2.0 rs begun one.2.1 in
    let rest = kept_calls_are_moves u t calls after.0 one.0 after.1 one.1 path in (
      rest.0,
      rest.1,
      (
        one.2.0 ++ rest.2.0,
        joined (node_of s.rs p) (node_of u.rs one.0) (node_of t.rs rest.0) one.2.0 rest.2.0 one.2.1
            rest.2.1,
      ),
    )

none_counted : (state : State) → endpoint_in_force state ≡ None → in_force state ≡ None
none_counted state e = ap (λ (o : Option EndpointRecord). option_map (λ (x : EndpointRecord). x.generation) o) e

pub kept_sessions_agree : KeptSessionsAgree
kept_sessions_agree s t calls rs p begun keeps none new path =
    let led = kept_calls_are_moves s t calls rs p begun keeps path in
    let agree = nodes_agree (node_of t.rs led.0) (record {
      first = node_of s.rs p;
      began = rs;
      begins = begun;
      new = record {
        down = λ k. none_counted (state_at rs k) (none k);
        count = new.count;
        idle = new.labels;
        generations = new.generations.0;
      };
      moves = led.2.0;
      led = led.2.1;
    }) in
    (agree.0, led.0, agree.1, led.1, agree.2)
