-- What events, reports and heartbeats do to RS, its store and the processes of its services.
use Rattle.std.specs.Prelude.{◌≡◌, ℕ, Bool, true, false, Option, None, Some, MatchOption, Result, Ok, Err, IfOk, IfErr, OnOk, OnErr}
use Rattle.ds_machine.specs.declared.refusal.Refusal.TheVariants.{Behind}
use Rattle.ds_machine.specs.declared.reply.Reply.TheVariants.{Refused as RefusedCommand}
use Rattle.rs_core.specs.declared.event.Event.{Event}
use Rattle.rs_core.specs.declared.fault.RsFault.TheVariants.{NotUp}
use Rattle.rs_store.specs.Serving.{EventTurn}
use Rattle.rs_store.specs.declared.call.RsReply.{RsReply}
use Rattle.rs_store.specs.declared.call.RsReply.TheVariants.{Refused as RefusedEvent}
use Rattle.supervisor.specs.Moves.Move.{Report, Tell}
use Rattle.supervisor.specs.declared.fault.SupervisorFault.{SupervisorFault}
use Rattle.supervisor.specs.declared.fault.SupervisorFault.TheVariants.{NotDead, Refused, Unwritten}
use Rattle.node_supervisor.specs.Moves.{Supervises}
use Rattle.node_supervisor.specs.Telling.{IsNodeRefusal, IsNodeReportRefused, IsNodeVouchRefused, ReportTurn, VouchesNode}
use Rattle.node_supervisor.specs.declared.processes.Processes.{Processes}
use Rattle.script_answers.specs.declared.wording.Wording.TheVariants.{AsMerge}
use Rattle.c_values.specs.declared.answer.Answer.{Answer}
use Rattle.c_values.specs.Answer.{answer_of}
use Rattle.c_store.specs.Called.{RestsForNone}
use Rattle.c_store.specs.declared.last.Last.TheVariants.{Reply}
use Rattle.c_rs.specs.declared.event.RsEvent.{RsEvent}
use Rattle.c_rs.specs.declared.session.RsSession.{RsSession}
use Rattle.c_rs.specs.Event.{event_of}
use Rattle.c_rs.specs.Serving.{SessionDoes}
use Rattle.c_rs.specs.Telling.{rs_fault_number, told_answer}
use Rattle.c_keeper.specs.declared.session.KeeperSession.{KeeperSession}

-- Whether the keepers do so. If none are open, there are none afterwards.
abbrev pub KeepsIfOpen : (Processes → Processes → Type 0) → Type 0 → Option Processes → Option Processes → Type 0
KeepsIfOpen does rests None new = rests × (new ≡ None)
KeepsIfOpen does rests (Some p) None = ⊥
KeepsIfOpen does rests (Some p) (Some q) = does p q

-- Whether a call isn't carried out, since keepers aren't open.
abbrev pub IsNotOpen : RsSession → Answer → ℕ → Answer → RsSession → Type 0
IsNotOpen old before word answer new = (word ≡ 14) × (answer ≡ before) × (new ≡ old)

-- ---- the answer

-- The answer of RS's reply, which is kept; or of the fault, in RS's words. A start whose generation isn't written is Behind.
abbrev pub AnswersResult : Result RsReply SupervisorFault → Answer → RsSession → Type 0
AnswersResult (Ok reply) answer new = (answer ≡ told_answer reply) × (new.told ≡ Some reply)
AnswersResult (Err NotDead) answer new = (answer ≡ told_answer (RefusedEvent NotUp)) × (new.told ≡ Some (RefusedEvent NotUp))
AnswersResult (Err (Refused fault)) answer new = (answer ≡ told_answer (RefusedEvent fault)) × (new.told ≡ Some (RefusedEvent fault))
AnswersResult (Err Unwritten) answer new =
    (answer ≡ answer_of (RefusedCommand Behind)) × (new.told ≡ None) × (new.session.last ≡ Reply (RefusedCommand Behind) AsMerge)

-- ---- events

-- Whether the event is a turn of RS and its store, and a move of RS and the keepers; or is refused, and nothing changes.
pub record PassesEvent (event : Event) (tick deadline : ℕ) (old : RsSession) (p : Processes) (answer : Answer) (new : RsSession)
    (q : Processes) : Type 0 where
  pub result : Result RsReply SupervisorFault
  pub turn : IfOk result (λ reply.
      EventTurn event tick old.session.node.services old.session.node.store reply new.session.node.services new.session.node.store)
  pub moves : OnOk result (Supervises old.session.node.services p.keeper (Tell event tick deadline) new.session.node.services q.keeper)
  pub file : q.keeper.file ≡ p.keeper.file
  pub refused : IfErr result (λ fault. IsNodeRefusal old.session.node.services p.keeper.next p.keeper.file event tick fault)
  pub unchanged : OnErr result ((new.session.node ≡ old.session.node) × (q.keeper ≡ p.keeper))
  pub answered : AnswersResult result answer new

-- Whether the event of the struct is passed on; or the struct stands for no event, and nothing changes.
abbrev pub PassesStruct : RsEvent → ℕ → RsSession → Processes → Answer → RsSession → Processes → Type 0
PassesStruct e deadline old p answer new q =
    MatchOption (event_of e) (SessionDoes RestsForNone old answer new × (q ≡ p))
    (λ event. PassesEvent event e.tick deadline old p answer new q)

-- The effect of an event.
abbrev pub KeepsEvent : RsEvent → ℕ → KeeperSession → Answer → ℕ → Answer → KeeperSession → Type 0
KeepsEvent e deadline old before word answer new =
    KeepsIfOpen (λ p q. (word ≡ 0) × PassesStruct e deadline old.rs p answer new.rs q) (IsNotOpen old.rs before word answer new.rs)
    old.processes new.processes

-- ---- deaths

-- Whether the report is the turn of a death, and a move of RS and the keepers; or is refused, and nothing changes.
pub record PassesReport (k cause tick now : ℕ) (old : RsSession) (p : Processes) (answer : Answer) (new : RsSession) (q : Processes)
    : Type 0 where
  pub result : Result RsReply SupervisorFault
  pub turn : IfOk result (λ reply.
      ReportTurn old.session.node.services old.session.node.store k cause tick reply new.session.node.services new.session.node.store)
  pub moves : OnOk result (Supervises old.session.node.services p.keeper (Report k cause tick now) new.session.node.services q.keeper)
  pub file : q.keeper.file ≡ p.keeper.file
  pub refused : IfErr result (λ fault. IsNodeReportRefused old.session.node.services p.keeper k cause tick fault)
  pub unchanged : OnErr result ((new.session.node ≡ old.session.node) × (q.keeper ≡ p.keeper))
  pub answered : AnswersResult result answer new

-- The effect of a report.
abbrev pub KeepsReport : ℕ → ℕ → ℕ → ℕ → KeeperSession → Answer → ℕ → Answer → KeeperSession → Type 0
KeepsReport k cause tick now old before word answer new =
    KeepsIfOpen (λ p q. (word ≡ 0) × PassesReport k cause tick now old.rs p answer new.rs q) (IsNotOpen old.rs before word answer new.rs)
    old.processes new.processes

-- ---- heartbeats

-- The word of a heartbeat for a pending start: 0 if it was heard, NotPending if no start is pending, or why it is refused.
abbrev pub vouch_word : Result Bool SupervisorFault → ℕ
vouch_word (Ok true) = 0
vouch_word (Ok false) = 43
vouch_word (Err NotDead) = 29
vouch_word (Err (Refused fault)) = rs_fault_number fault
vouch_word (Err Unwritten) = 17

-- Whether RS hears a heartbeat for the service's pending start, or not, as the word says.
pub record IsVouched (p : Processes) (k tick : ℕ) (old : RsSession) (word : ℕ) (new : RsSession) : Type 0 where
  pub result : Result Bool SupervisorFault
  pub vouched : IfOk result (λ b. VouchesNode old.session.node.services p.keeper.labels.items k tick b new.session.node.services)
  pub refused : IfErr result (λ fault. IsNodeVouchRefused old.session.node.services k tick fault)
  pub unchanged : OnErr result (new.session.node ≡ old.session.node)
  pub store : new.session.node.store ≡ old.session.node.store
  pub last : new.session.last ≡ old.session.last
  pub reply : new.told ≡ old.told
  pub word_is : word ≡ vouch_word result

-- The effect of a heartbeat for a pending start.
abbrev pub Vouches : ℕ → ℕ → KeeperSession → ℕ → KeeperSession → Type 0
Vouches k tick old word new =
    KeepsIfOpen (λ p q. (q ≡ p) × IsVouched p k tick old.rs word new.rs) ((word ≡ 14) × (new.rs ≡ old.rs)) old.processes new.processes
