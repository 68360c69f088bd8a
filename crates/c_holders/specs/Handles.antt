-- What the store of a C handle knows after calls from C.
use Rattle.std.specs.Prelude.{◌≡◌, ◌⊎◌, ℕ, List, [], ◌∷◌, ◌++◌, Some, MatchOption}
use Rattle.history.specs.declared.entry.Entry.{Entry}
use Rattle.history.specs.History.{Path, entry}
use Rattle.ds_held.specs.Limits.{larger}
use Rattle.ds_machine.specs.State.{opening}
use Rattle.ds_machine.specs.declared.command.Command.{Command}
use Rattle.ds_machine.specs.declared.refusal.Refusal.TheVariants.{Exists}
use Rattle.ds_machine.specs.declared.reply.Reply.{Reply}
use Rattle.ds_machine.specs.declared.reply.Reply.TheVariants.{Refused}
use Rattle.ds_content.specs.Stands.{ContentStands}
use Rattle.rs_core.specs.declared.event.Event.{Event}
use Rattle.rs_store.specs.Laws.{entries_by}
use Rattle.rs_store.specs.declared.call.RsCommand.TheVariants.{Tell}
use Rattle.rs_store.specs.declared.call.RsReply.{RsReply}
use Rattle.script_commands.specs.Command.{store_command}
use Rattle.script_commands.specs.ServiceEvent.{service_event_of}
use Rattle.script_commands.specs.declared.command.ScriptCommand.{ScriptCommand}
use Rattle.c_values.specs.Answer.{answer_of, told_bad_line, told_shown}
use Rattle.c_values.specs.declared.answer.Answer.{Answer}
use Rattle.c_values.specs.declared.request.Request.{Request}
use Rattle.c_store.specs.Line.{IsBadIn, IsCommandIn}
use Rattle.c_rs.specs.Event.{ServesEvent, event_of}
use Rattle.c_rs.specs.Lines.{CallsRsLine}
use Rattle.c_rs.specs.Opening.{OpensRs}
use Rattle.c_rs.specs.Renewing.{RenewsRs}
use Rattle.c_rs.specs.Running.{CallsInTurn, EntriesOfRun, IsNoEntry}
use Rattle.c_rs.specs.Telling.{told_answer}
use Rattle.c_rs.specs.declared.event.RsEvent.{RsEvent}
use Rattle.c_rs.specs.declared.fault.SettingsRefusal.{SettingsRefusal}
use Rattle.c_rs.specs.declared.session.RsSession.{RsSession}
use Rattle.holders.specs.Holding.{StoreKnows, learnt_over}

-- ---- calls

-- A call that may change a handle: requests in order with their answers, as of `ds_run`, or of `ds_call` if there is one; a line of
-- `ds_call_line` and an event of `ds_rs_event` with its answer; `ds_rs_open` and `ds_rs_renew` with a settings text.
pub data HandleCall : Type 0 where
  OfRequests : List ℕ → List Request → List Answer → HandleCall
  OfLine : List ℕ → Answer → HandleCall
  OfEvent : RsEvent → Answer → HandleCall
  OfOpening : List ℕ → ℕ → ℕ → HandleCall
  OfSettings : List ℕ → HandleCall

-- Whether the call leads from one session to the next.
abbrev pub HandleLeads : RsSession → HandleCall → RsSession → Type 0
HandleLeads old (OfRequests texts requests answers) new = CallsInTurn texts old requests answers new
HandleLeads old (OfLine line answer) new = CallsRsLine line old answer new
HandleLeads old (OfEvent event answer) new = ServesEvent event old answer new
HandleLeads old (OfOpening text next first) new =
    (before fault : SettingsRefusal) × (word : ℕ) × OpensRs text next first old before word fault new
HandleLeads old (OfSettings text) new = (before fault : SettingsRefusal) × (word : ℕ) × RenewsRs text old before word fault new

-- ---- the store's turns in them

-- Whether the entries are those of RS's actions after the event, and the answer is that of RS's reply.
pub record AreOfEvent (event : Event) (tick : ℕ) (answer : Answer) (es : List (Entry Command Reply)) : Type 0 where
  pub reply : RsReply
  pub answer_is : answer ≡ told_answer reply
  pub entries_are : es ≡ entries_by 0 (Tell event tick) reply

-- Whether the entry is that of the line's command, and the answer is that of its reply.
pub record IsOfCommand (command : ScriptCommand) (answer : Answer) (es : List (Entry Command Reply)) : Type 0 where
  pub sent : Command
  pub sent_is : store_command command ≡ Some sent
  pub reply : Reply
  pub answer_is : answer ≡ answer_of reply
  pub entry_is : es ≡ entry 0 sent reply ∷ []

-- Whether the answer is that of a line without a turn of the store: as of a request, a second opening of RS, or what a show shows.
abbrev pub IsNoLineEntry : Answer → Type 0
IsNoLineEntry answer = IsNoEntry answer ⊎ ((answer ≡ answer_of (Refused Exists)) ⊎ ((count : ℕ) × (answer ≡ told_shown count)))

-- Whether the entries are those of a command's line.
abbrev pub AreOfCommand : ScriptCommand → Answer → List (Entry Command Reply) → Type 0
AreOfCommand command answer es =
    (IsNoLineEntry answer × (es ≡ []))
    ⊎ (IsOfCommand command answer es
    ⊎ ((event : Event × ℕ) × (service_event_of command ≡ Some event) × AreOfEvent event.0 event.1 answer es))

-- Whether the entries are those of a line. A bad line has none.
abbrev pub EntriesOfLine : List ℕ → Answer → List (Entry Command Reply) → Type 0
EntriesOfLine line answer es =
    ((place : ℕ) × IsBadIn line place × (answer ≡ told_bad_line place) × (es ≡ []))
    ⊎ ((command : ScriptCommand) × IsCommandIn line command × AreOfCommand command answer es)

-- Whether the entries are those of a call. Opening RS and giving it other settings have none.
abbrev pub EntriesOfCall : HandleCall → List (Entry Command Reply) → Type 0
EntriesOfCall (OfRequests texts requests answers) es = EntriesOfRun texts requests answers es
EntriesOfCall (OfLine line answer) es = EntriesOfLine line answer es
EntriesOfCall (OfEvent e answer) es = MatchOption (event_of e) (es ≡ []) (λ event. AreOfEvent event e.tick answer es)
EntriesOfCall (OfOpening text next first) es = es ≡ []
EntriesOfCall (OfSettings text) es = es ≡ []

-- Whether the entries are those of all calls, in order.
abbrev pub EntriesOfAll : List HandleCall → List (Entry Command Reply) → Type 0
EntriesOfAll [] es = es ≡ []
EntriesOfAll (call ∷ calls) es =
    (front back : List (Entry Command Reply)) × (es ≡ front ++ back) × EntriesOfCall call front × EntriesOfAll calls back

-- A law: from an opened handle on, its store was brought just what the entries of its calls made known.
abbrev pub HandlesAreStores : Type 0
HandlesAreStores =
    (incarnation first ring : ℕ) (old new : RsSession) (calls : List HandleCall) →
    ContentStands old.session.node.store (opening incarnation first ring larger) → Path HandleLeads old calls new →
    (es : List (Entry Command Reply)) × EntriesOfAll calls es ×
    StoreKnows new.session.node.store (learnt_over (opening incarnation first ring larger) es)
