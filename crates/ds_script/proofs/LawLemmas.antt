-- A script's world is the result of events, and what follows from that.
use Rattle.std.proofs.Common.{◌≡◌, ℕ, suc, ◌≤◌, true, false, inl, inr, Option, None, Some, MatchOption, List, [], ◌∷◌, ◌++◌, refl, sym, ap}
use Rattle.std.proofs.Common.{subst, ◌∙◌, arith, Contains}
use Rattle.std.proofs.lemmas.List.Elements.{Contains-push_cases, Contains-append_cases}
use Rattle.ds_names.specs.declared.key.Key.{Key}
use Rattle.ds_entry.proofs.Members.{Contains-nil}
use Rattle.ds_entry.specs.declared.item.Item.{Item}
use Rattle.ds_entry.specs.declared.item.Item.TheVariants.{Change as Changed, Floor as Floored}
use Rattle.ds_held.specs.Limits.{larger}
use Rattle.ds_replica.specs.declared.event.Event.{Event}
use Rattle.ds_replica.specs.declared.event.Side.{Side as OneSide}
use Rattle.ds_replica.specs.declared.outcome.Outcome.{Outcome}
use Rattle.ds_replica.specs.Bringing.{IsProperEvent}
use Rattle.ds_replica.specs.Known.{new_account, extended_all}
use Rattle.ds_replica.specs.World.{World}
use Rattle.ds_replica.proofs.BringLemmas.{events_bring_items}
use Rattle.ds_replica.proofs.EventLemmas.{events_fit}
use Rattle.ds_replica.proofs.HolderLemmas as holders
use Rattle.ds_replica.proofs.StartLemmas.{account_fits_at_start}
use Rattle.ds_world.specs.World.{WorldRecord, WorldStands}
use Rattle.ds_world.specs.Run.{EventLeads}
use Rattle.rs_core.specs.State.{RsRecord}
use Rattle.rs_core.specs.declared.event.Event as services
use Rattle.rs_core.specs.declared.event.Event.TheVariants.{Death, Beat, Tick}
use Rattle.driver_tables.specs.Stands.{TableRecord, TableStands}
use Rattle.script_services.specs.Servers.{Servers, ServersRecord, ServersStand, with_rs}
use Rattle.script_services.specs.Services.{AnswersSettings, ServicesAnswer}
use Rattle.script_services.specs.Tables.{AnswersAssign, AnswersFollow, AnswersSubmit, AnswersReply}
use Rattle.script_services.proofs.AskLemmas.{EventsGoOn, one_goes_on, told_go_on, told_proper}
use Rattle.script_commands.specs.Command.{IsCommand}
use Rattle.script_commands.specs.Event.{event_of}
use Rattle.script_commands.specs.Wording.{wording}
use Rattle.script_commands.specs.ServiceEvent.{request_event}
use Rattle.script_commands.proofs.ProperLemmas.{lines_are_proper}
use Rattle.script_commands.specs.declared.command.ScriptCommand.{ScriptCommand}
use Rattle.script_commands.specs.declared.command.ScriptCommand.TheVariants.{Show, All, Entries, Ring, Side, Settings, Service, Assign}
use Rattle.script_commands.specs.declared.command.ScriptCommand.TheVariants.{Follow, Submit, Reply}
use Rattle.script_commands.specs.declared.command.ScriptCommand.TheVariants as lines
use Rattle.ds_script.specs.declared.report.BadLines.{BadLines}
use Rattle.ds_script.specs.Session.{SessionContent, IsOpened, seed, made, turned}
use Rattle.ds_script.specs.Answer.{AnswersEvent, AnswersByServers, AnswersByServices, AnswersCommand, AnswersLine, items_of_map, picked}
use Rattle.ds_script.specs.Answer.{shown}
use Rattle.ds_script.specs.Replay.{AnswersOrTells, AnswersLines}
use Rattle.ds_script.specs.Laws.{Past, past_of, no_past, with_events, CameOf, MakesService, MakesServers, MakesEvents, LineMakesEvents}
use Rattle.ds_script.specs.Laws.{LinesMakeEvents, ScriptsAreEvents, ScriptHoldersAgree, ScriptLabelsAreNewest, ShowsAgree}
use Rattle.ds_script.proofs.LineLemmas.{may_command}
use Rattle.ds_entry.specs.Under.{under}

-- ---- the past of a session

-- the session has this past
abbrev Came : SessionContent → Past → Type 0
Came session past = (ring : ℕ) × (world : World) × CameOf past ring world session

came_opened : (ring : ℕ) (session : SessionContent) → 1 ≤ ring → ring ≤ 4096 → IsOpened ring session → Came session no_past
came_opened ring session least most opened =
    (ring, made ring, record { least = least; most = most; happened = refl; stands = opened.world; servers = opened.servers })

-- after these events, and with these servers
came_further : (old new : SessionContent) (past : Past) (events : List (Event × Outcome)) (servers : Servers)
    → EventsGoOn events old.world new.world → ServersStand new.servers servers → Came old past →
    Came new (past_of (past.events ++ events) servers)
came_further old new past events servers leads stands came =
    let c = came.2 in
    let next = leads (made came.0) came.1 past.events c.happened c.stands in (
      came.0,
      next.0,
      record {
        least = c.least;
        most = c.most;
        happened = next.1;
        stands = next.2;
        servers = stands;
      },
    )

came_by : (event : Event) (outcome : Outcome) (old new : SessionContent) (past : Past) → EventLeads event outcome old.world new.world →
    new.servers ≡ old.servers → Came old past → Came new (with_events past ((event, outcome) ∷ []))
came_by event outcome old new past leads same came =
    came_further old new past ((event, outcome) ∷ []) past.servers
    (one_goes_on event outcome old.world new.world ((event, outcome) ∷ []) refl leads)
    (subst (λ (v : ServersRecord). ServersStand v past.servers) (sym same) came.2.servers) came

came_same : (old new : SessionContent) (past : Past) → new ≡ old → Came old past → Came new past
came_same old new past same came = subst (λ (s : SessionContent). Came s past) (sym same) came

came_turned : (old new : SessionContent) (past : Past) (side : OneSide) → new ≡ turned old side → Came old past → Came new past
came_turned old new past side same came =
    let c = came.2 in
    came_same (turned old side) new past same
    (came.0, came.1, record { least = c.least; most = c.most; happened = c.happened; stands = c.stands; servers = c.servers })

-- the world stays, and RS and the tables are others
came_served : (old new : SessionContent) (past : Past) (servers : Servers) → new.world ≡ old.world → ServersStand new.servers servers →
    Came old past → Came new (past_of past.events servers)
came_served old new past servers same stands came =
    let c = came.2 in (
      came.0,
      came.1,
      record {
        least = c.least;
        most = c.most;
        happened = c.happened;
        stands =
            subst (λ (v : WorldRecord). WorldStands v came.1) (sym same) c.stands;
        servers = stands;
      },
    )

-- what a command, a line and lines make of the past, for the session that they leave
abbrev Makes : (Past → Type 0) → SessionContent → Type 0
Makes How new = (past : Past) × How past × Came new past

made_event : (command : ScriptCommand) (old : SessionContent) (out : List ℕ) (new : SessionContent) (was : Past) (o : Option Event)
    (Else : Past → Type 0)
    → MatchOption o ⊥ (λ event. AnswersEvent (wording command) event old out new) → Came old was
    → Makes (λ now. MatchOption o (Else now) (λ event.
    (answer : AnswersEvent (wording command) event old out new) × (now ≡ with_events was ((event, answer.outcome) ∷ [])))) new
made_event command old out new was None Else a before = absurd a
made_event command old out new was (Some event) Else a before =
    (with_events was ((event, a.outcome) ∷ []), (a, refl), came_by event a.outcome old new was a.happens.leads a.happens.servers before)

made_servers : (R : Servers → List ℕ → Servers → Type 0) (old : SessionContent) (out : List ℕ) (new : SessionContent) (was : Past)
    → (a : AnswersByServers R old out new) → Came old was → Makes (λ now. AnswersByServers R old out new × MakesServers R out was now) new
made_servers R old out new was a before =
    let led = a.0 was.servers before.2.servers in
    (past_of was.events led.0, (a, (led.1, refl)), came_served old new was led.0 a.1 led.2 before)

made_service : (event : services.Event) (tick : ℕ) (old : SessionContent) (out : List ℕ) (new : SessionContent) (was : Past)
    → AnswersByServices event tick old out new → Came old was → Makes (λ now. MakesService event tick old out new was now) new
made_service event tick old out new was a before =
    let answer = a.0 in
    let stood = before.2.servers in
    let after = new.servers.services in (
      past_of (was.events ++ answer.events) (with_rs was.servers after),
      (a, subst (λ (o : Option RsRecord). ServicesAnswer o event tick answer.answer after) (sym stood.services) answer.answers, refl),
      came_further old new was answer.events (with_rs was.servers after)
          (told_go_on old.side answer.answer old.world new.world out answer.events answer.tells)
          (record {
            services = refl;
            file = subst (λ (v : TableRecord). TableStands v was.servers.file) (sym answer.file) stood.file;
            net = subst (λ (v : TableRecord). TableStands v was.servers.net) (sym answer.net) stood.net;
          })
          before,
    )

made_command : (command : ScriptCommand) (old : SessionContent) (out : List ℕ) (new : SessionContent) (was : Past)
    → IsCommand command → AnswersCommand command old out new → Came old was → Makes (λ now. MakesEvents command old out new was now) new
made_command Show old out new was is a before = (was, (a, refl), came_same old new was a.0 before)
made_command All old out new was is a before = (was, (a, refl), came_same old new was a.0 before)
made_command (Entries map) old out new was is a before = (was, (a, refl), came_same old new was a.0 before)
made_command (Ring ring) old out new was is a before = (no_past, (a, refl), came_opened ring new (omega (arith, is.0.0)) is.0.1 a.0)
made_command (Side side) old out new was is a before = (was, (a, refl), came_turned old new was side a.0 before)
made_command (Settings text) old out new was is a before = made_servers (AnswersSettings text) old out new was a before
made_command (Service request label tick) old out new was is a before =
    made_service (request_event request label) tick old out new was a before
made_command (lines.Death endpoint cause tick) old out new was is a before =
    made_service (Death endpoint cause) tick old out new was a before
made_command (lines.Beat endpoint tick) old out new was is a before = made_service (Beat endpoint) tick old out new was a before
made_command (lines.Tick tick) old out new was is a before = made_service Tick tick old out new was a before
made_command (Assign device label) old out new was is a before = made_servers (AnswersAssign device label) old out new was a before
made_command (Follow map) old out new was is a before = made_servers (AnswersFollow (items_of_map old map)) old out new was a before
made_command (Submit server id unit map) old out new was is a before =
    made_servers (AnswersSubmit server id unit (items_of_map old map)) old out new was a before
made_command (Reply server endpoint id) old out new was is a before =
    made_servers (AnswersReply server endpoint id) old out new was a before
made_command command old out new was is a before =
    made_event command old out new was (event_of old.side command) (λ now. AnswersCommand command old out new × (now ≡ was)) a before

-- ---- lines

made_line : (policy : BadLines) (before : ℕ) (old : SessionContent) (line out : List ℕ) (bad : ℕ) (new : SessionContent) (was : Past)
    → AnswersLine before old line out new → bad ≡ 0 → Came old was
    → Makes (λ now. LineMakesEvents policy before old line out bad new was now) new
made_line policy before old line out bad new was a none came =
    elim a.2 [
      | inl refused ↦ (was, inl (a.0, a.1, none, inl (refused.0, refused.1, refl)), came_same old new was refused.1.0 came)
      | inr answered ↦ let m = made_command a.0 old out new was (may_command before a.0 a.1.written) answered came in
          (m.0, inl (a.0, a.1, none, inr m.1), m.2)
    ]

made_told : (policy : BadLines) (before : ℕ) (old : SessionContent) (line out : List ℕ) (bad : ℕ) (new : SessionContent) (was : Past)
    → AnswersOrTells policy before old line out bad new → Came old was
    → Makes (λ now. LineMakesEvents policy before old line out bad new was now) new
made_told policy before old line out bad new was a came =
    elim a [
      | inl answered ↦ made_line policy before old line out bad new was answered.0 answered.1 came
      | inr told ↦ (was, inr (told, refl), came_same old new was told.1 came)
    ]

made_lines : (policy : BadLines) (before : ℕ) (old : SessionContent) (ls : List (List ℕ)) (out : List ℕ) (bad : ℕ) (new : SessionContent)
    (was : Past) → AnswersLines policy before old ls out bad new → Came old was
    → Makes (λ now. LinesMakeEvents policy before old ls out bad new was now) new
made_lines policy before old [] out bad new was a came = (was, (a.0, a.1, a.2, refl), came_same old new was a.2 came)
made_lines policy before old (line ∷ ls) out bad new was a came =
    let one = made_told policy before old line a.1 a.3 a.0 was a.5 came in
    let all = made_lines policy (suc before) a.0 ls a.2 a.4 new one.0 a.6 one.2 in
    (all.0, (a.0, a.1, a.2, a.3, a.4, one.0, one.1, all.1, a.7, a.8), all.2)

pub scripts_are_events : ScriptsAreEvents
scripts_are_events policy ls out bad start end opened a =
    let m = made_lines policy 0 start ls out bad end no_past a (came_opened 256 start (omega arith) (omega arith) opened) in
    (m.0, m.1, m.2.0, m.2.1, m.2.2)

-- ---- what is held

pub holders_agree : ScriptHoldersAgree
holders_agree past ring world session query h i came exact know =
    holders.equal_over_events (seed 1 ring) (seed 2 ring) larger world past.events query h i (inr refl) came.happened exact know

-- ---- what labels name
-- what events name is in its ranges
abbrev AllProper : List (Event × Outcome) → Type 0
AllProper events = (e : Event × Outcome) → Contains events e → IsProperEvent e.0

none_proper : AllProper []
none_proper e h = absurd (Contains-nil e h)

one_more_proper : (came : List (Event × Outcome)) (event : Event) (outcome : Outcome) → AllProper came → IsProperEvent event
    → AllProper (came ++ (event, outcome) ∷ [])
one_more_proper came event outcome all one e h = elim (Contains-push_cases came (event, outcome) e h) [
  | inl k ↦ all e k
  | inr q ↦ subst (λ (y : Event × Outcome). IsProperEvent y.0) q one
]

more_proper : (came events : List (Event × Outcome)) → AllProper came → AllProper events → AllProper (came ++ events)
more_proper came events all more e h = elim (Contains-append_cases came events e h) [
  | inl k ↦ all e k
  | inr k ↦ more e k
]

proper_event : (command : ScriptCommand) (old : SessionContent) (out : List ℕ) (new : SessionContent) (was now : Past) (o : Option Event)
    (Else : Type 0)
    → ((event : Event) → o ≡ Some event → IsProperEvent event)
    → MatchOption o (Else × (now ≡ was)) (λ event.
    (answer : AnswersEvent (wording command) event old out new) × (now ≡ with_events was ((event, answer.outcome) ∷ [])))
    → AllProper was.events → AllProper now.events
proper_event command old out new was now None Else proper m all = subst (λ (p : Past). AllProper p.events) (sym m.1) all
proper_event command old out new was now (Some event) Else proper m all =
    subst (λ (p : Past). AllProper p.events) (sym m.1) (one_more_proper was.events event m.0.outcome all (proper event refl))

proper_service : (event : services.Event) (tick : ℕ) (old : SessionContent) (out : List ℕ) (new : SessionContent) (was now : Past)
    → MakesService event tick old out new was now → AllProper was.events → AllProper now.events
proper_service event tick old out new was now m all =
    subst (λ (p : Past). AllProper p.events) (sym m.2)
    (more_proper was.events m.0.0.events all (told_proper old.side m.0.0.answer old.world new.world out m.0.0.events m.0.0.tells))

proper_command : (command : ScriptCommand) (old : SessionContent) (out : List ℕ) (new : SessionContent) (was now : Past)
    → IsCommand command → MakesEvents command old out new was now → AllProper was.events → AllProper now.events
proper_command (Ring ring) old out new was now is m all = subst (λ (p : Past). AllProper p.events) (sym m.1) none_proper
proper_command (Settings text) old out new was now is m all = subst AllProper (sym m.1.1) all
proper_command (Service request label tick) old out new was now is m all =
    proper_service (request_event request label) tick old out new was now m all
proper_command (lines.Death endpoint cause tick) old out new was now is m all =
    proper_service (Death endpoint cause) tick old out new was now m all
proper_command (lines.Beat endpoint tick) old out new was now is m all = proper_service (Beat endpoint) tick old out new was now m all
proper_command (lines.Tick tick) old out new was now is m all = proper_service Tick tick old out new was now m all
proper_command (Assign device label) old out new was now is m all = subst AllProper (sym m.1.1) all
proper_command (Follow map) old out new was now is m all = subst AllProper (sym m.1.1) all
proper_command (Submit server id unit map) old out new was now is m all = subst AllProper (sym m.1.1) all
proper_command (Reply server endpoint id) old out new was now is m all = subst AllProper (sym m.1.1) all
proper_command command old out new was now is m all =
    proper_event command old out new was now (event_of old.side command) (AnswersCommand command old out new)
    (λ event e. lines_are_proper command old.side event is e) m all

proper_line : (policy : BadLines) (before : ℕ) (old : SessionContent) (line out : List ℕ) (bad : ℕ) (new : SessionContent) (was now : Past)
    → LineMakesEvents policy before old line out bad new was now → AllProper was.events → AllProper now.events
proper_line policy before old line out bad new was now m all = elim m [
  | inl read ↦
      elim read.3 [
        | inl refused ↦ subst (λ (p : Past). AllProper p.events) (sym refused.2) all
        | inr answered ↦ proper_command read.0 old out new was now (may_command before read.0 read.1.written) answered all
      ]
  | inr told ↦ subst (λ (p : Past). AllProper p.events) (sym told.1) all
]

proper_lines : (policy : BadLines) (before : ℕ) (old : SessionContent) (ls : List (List ℕ)) (out : List ℕ) (bad : ℕ) (new : SessionContent)
    (was now : Past)
    → LinesMakeEvents policy before old ls out bad new was now → AllProper was.events
    → AllProper now.events
proper_lines policy before old [] out bad new was now m all = subst (λ (p : Past). AllProper p.events) (sym m.3) all
proper_lines policy before old (line ∷ ls) out bad new was now m all =
    proper_lines policy (suc before) m.0 ls m.2 m.4 new m.5 now m.7 (proper_line policy before old line m.1 m.3 m.0 was m.5 m.6 all)

pub labels_are_newest : ScriptLabelsAreNewest
labels_are_newest policy ls out bad start session past ring world told came =
    let account = new_account (seed 1 ring) (seed 2 ring) larger in
    let fits = account_fits_at_start (seed 1 ring) (seed 2 ring) larger (inr refl) in
    let proper = proper_lines policy 0 start ls out bad session no_past past told none_proper in
    let items = events_bring_items account (made ring) world past.events fits came.happened proper (λ i h. absurd (Contains-nil i h)) in
    holders.labels_are_newest (extended_all account past.events) world
    (events_fit account (made ring) world past.events fits came.happened) items

-- ---- what is shown
under_all : (items : List Item) → under (λ (key : Key). true) items ≡ items
under_all [] = refl
under_all (Changed c ∷ items) = ap (λ (l : List Item). Changed c ∷ l) (under_all items)
under_all (Floored f ∷ items) = ap (λ (l : List Item). Floored f ∷ l) (under_all items)

pub shows_agree : ShowsAgree
shows_agree world session after out stands hold a =
    let same : session.world.a.held ≡ session.world.b.held = stands.a.held ∙ sym (under_all _) ∙ hold.0 ∙ under_all _ ∙ sym stands.b.held in
    (refl, a.1 ∙ ap (λ (l : List Item). shown (picked false l)) same)
