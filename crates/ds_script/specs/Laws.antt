-- Laws of every script: its world is the result of events, so laws over events are laws over scripts, and its RS and
-- driver tables are the result of its lines.
use Rattle.std.specs.Prelude.{◌≡◌, ℕ, suc, ◌+◌, ◌≤◌, ◌⊎◌, Bool, true, List, [], ◌∷◌, ◌++◌, MatchOption}
use Rattle.ds_names.specs.declared.key.Key.{Key}
use Rattle.ds_held.specs.Limits.{larger}
use Rattle.ds_machine.specs.Reached.{AreExact}
use Rattle.ds_replica.specs.Agreement.{KnowSame}
use Rattle.ds_replica.specs.declared.event.Event.{Event}
use Rattle.ds_replica.specs.declared.event.Holder.{Holder}
use Rattle.ds_replica.specs.declared.event.Holder.TheVariants.{Store}
use Rattle.ds_replica.specs.declared.event.Side.TheVariants.{A, B}
use Rattle.ds_replica.specs.declared.outcome.Outcome.{Outcome}
use Rattle.ds_replica.specs.Happens.{HappenAll}
use Rattle.ds_replica.specs.Headline.{HoldSame}
use Rattle.ds_replica.specs.CaughtUp.{MapsNameNewest}
use Rattle.ds_replica.specs.Known.{known_at, new_account, extended_all}
use Rattle.ds_replica.specs.World.{World}
use Rattle.script_commands.specs.Command.{IsLineAs}
use Rattle.script_commands.specs.ServiceEvent.{request_event}
use Rattle.script_commands.specs.Event.{event_of}
use Rattle.script_commands.specs.Wording.{wording}
use Rattle.script_commands.specs.declared.command.ScriptCommand.{ScriptCommand}
use Rattle.script_commands.specs.declared.command.ScriptCommand.TheVariants as lines
use Rattle.ds_world.specs.World.{WorldStands}
use Rattle.rs_core.specs.declared.event.Event as services
use Rattle.rs_core.specs.declared.event.Event.TheVariants.{Death, Beat, Tick}
use Rattle.script_services.specs.Servers.{Servers, ServersStand, no_servers, with_rs}
use Rattle.script_services.specs.Services.{AnswersSettings, ServicesAnswer}
use Rattle.script_services.specs.Tables.{AnswersAssign, AnswersFollow, AnswersSubmit, AnswersReply}
use Rattle.ds_script.specs.declared.report.BadLines.{BadLines}
use Rattle.ds_script.specs.declared.report.BadLines.TheVariants.{End}
use Rattle.ds_script.specs.Session.{SessionContent, IsOpened, seed, made, turned}
use Rattle.ds_script.specs.Answer.{AnswersEvent, AnswersByServices, AnswersCommand, AnswerTakesMemory}
use Rattle.ds_script.specs.Answer.{IsLineRefused, MayStand, items_of_map}
use Rattle.ds_script.specs.Replay.{TellsBadLine, AnswersLines}

-- ---- a script and its past

-- The past of a session: the events of its world, with their outcomes, and the RS and driver tables that its lines led
-- to.
pub record Past : Type 0 where
  pub events : List (Event × Outcome)
  pub servers : Servers

abbrev pub past_of : List (Event × Outcome) → Servers → Past
past_of events servers = record { events = events; servers = servers }

-- The past of a session that was just opened.
abbrev pub no_past : Past
no_past = past_of [] no_servers

-- The past with these events appended.
abbrev pub with_events : Past → List (Event × Outcome) → Past
with_events past events = record past { events = past.events ++ events }

-- Whether the session stands for the world that the past's events lead to, from a new one whose journals keep `ring`
-- items, and for the past's RS and tables.
pub record CameOf (past : Past) (ring : ℕ) (world : World) (session : SessionContent) : Type 0 where
  pub least : 1 ≤ ring
  pub most : ring ≤ 4096
  pub happened : HappenAll (made ring) past.events world
  pub stands : WorldStands session.world world
  pub servers : ServersStand session.servers past.servers

-- The step of an event of RS with this answer: RS steps, and the only new events are its actions as commands to the
-- current store, with their replies.
abbrev pub MakesService : services.Event → ℕ → SessionContent → List ℕ → SessionContent → Past → Past → Type 0
MakesService event tick old out new was now =
    (answer : AnswersByServices event tick old out new)
    × ServicesAnswer was.servers.services event tick answer.0.answer now.servers.services
    × (now ≡ past_of (was.events ++ answer.0.events) (with_rs was.servers now.servers.services))

-- The step of another line of RS or the tables: they step by its answer, and there are no new events.
abbrev pub MakesServers : (Servers → List ℕ → Servers → Type 0) → List ℕ → Past → Past → Type 0
MakesServers R out was now = R was.servers out now.servers × (now.events ≡ was.events)

-- The step of a command with this answer. A command that is an event is appended to the events with its outcome, those
-- of RS and the tables step as above, `ring` empties the past, and the others leave it as it is.
abbrev pub MakesEvents : ScriptCommand → SessionContent → List ℕ → SessionContent → Past → Past → Type 0
MakesEvents (lines.Ring ring) old out new was now = AnswersCommand (lines.Ring ring) old out new × (now ≡ no_past)
MakesEvents (lines.Settings text) old out new was now =
    AnswersCommand (lines.Settings text) old out new × MakesServers (AnswersSettings text) out was now
MakesEvents (lines.Service request label tick) old out new was now = MakesService (request_event request label) tick old out new was now
MakesEvents (lines.Death endpoint cause tick) old out new was now = MakesService (Death endpoint cause) tick old out new was now
MakesEvents (lines.Beat endpoint tick) old out new was now = MakesService (Beat endpoint) tick old out new was now
MakesEvents (lines.Tick tick) old out new was now = MakesService Tick tick old out new was now
MakesEvents (lines.Assign device label) old out new was now =
    AnswersCommand (lines.Assign device label) old out new × MakesServers (AnswersAssign device label) out was now
MakesEvents (lines.Follow map) old out new was now =
    AnswersCommand (lines.Follow map) old out new × MakesServers (AnswersFollow (items_of_map old map)) out was now
MakesEvents (lines.Submit server id unit map) old out new was now =
    AnswersCommand (lines.Submit server id unit map) old out new ×
    MakesServers (AnswersSubmit server id unit (items_of_map old map)) out was now
MakesEvents (lines.Reply server endpoint id) old out new was now =
    AnswersCommand (lines.Reply server endpoint id) old out new × MakesServers (AnswersReply server endpoint id) out was now
MakesEvents command old out new was now =
    MatchOption (event_of old.side command) (AnswersCommand command old out new × (now ≡ was))
    (λ event. (answer : AnswersEvent (wording command) event old out new) × (now ≡ with_events was ((event, answer.outcome) ∷ [])))

-- The step of a line. A line that is refused for lack of memory, or is bad, leaves the past as it is.
abbrev pub LineMakesEvents : BadLines → ℕ → SessionContent → List ℕ → List ℕ → ℕ → SessionContent → Past → Past → Type 0
LineMakesEvents policy before old line out bad new was now =
    ((command : ScriptCommand) × IsLineAs (MayStand before) command line × (bad ≡ 0) ×
    ((AnswerTakesMemory command old × IsLineRefused old out new × (now ≡ was)) ⊎ MakesEvents command old out new was now))
    ⊎ (TellsBadLine policy before old line out bad new × (now ≡ was))

-- The steps of lines, in order.
abbrev pub LinesMakeEvents : BadLines → ℕ → SessionContent → List (List ℕ) → List ℕ → ℕ → SessionContent → Past → Past → Type 0
LinesMakeEvents policy before old [] out bad new was now = (out ≡ []) × (bad ≡ 0) × (new ≡ old) × (now ≡ was)
LinesMakeEvents policy before old (line ∷ lines) out bad new was now =
    (mid : SessionContent) × (first rest : List ℕ) × (one more : ℕ) × (next : Past) ×
    LineMakesEvents policy before old line first one mid was next × LinesMakeEvents policy (suc before) mid lines rest more new next now
    × (out ≡ first ++ rest) × (bad ≡ one + more)

-- Whatever the answers to a script's lines are, the session after them is the result of these lines' events and of
-- their steps of RS and the tables.
abbrev pub ScriptsAreEvents : Type 0
ScriptsAreEvents =
    (policy : BadLines) (lines : List (List ℕ)) (out : List ℕ) (bad : ℕ) (start end : SessionContent) → IsOpened 256 start →
    AnswersLines policy 0 start lines out bad end →
    (past : Past) × LinesMakeEvents policy 0 start lines out bad end no_past past × (ring : ℕ) × (world : World) ×
    CameOf past ring world end

-- ---- what follows

-- Holders that know the same under a query hold the same under it, if all that was brought in is exact: no two changes
-- of one key, owner and version have two bodies.
abbrev pub ScriptHoldersAgree : Type 0
ScriptHoldersAgree =
    (past : Past) (ring : ℕ) (world : World) (session : SessionContent) (query : Key → Bool) (h i : Holder) →
    CameOf past ring world session →
    let account = extended_all (new_account (seed 1 ring) (seed 2 ring) larger) past.events in
    AreExact account.brought → KnowSame query (known_at account h) (known_at account i) → HoldSame world query h i

-- In a map that has all of a store, and nothing else, no label names an older generation. This holds for all lines,
-- since a line brings in nothing but valid changes and floors.
abbrev pub ScriptLabelsAreNewest : Type 0
ScriptLabelsAreNewest =
    (policy : BadLines) (lines : List (List ℕ)) (out : List ℕ) (bad : ℕ) (start session : SessionContent) (past : Past)
    (ring : ℕ) (world : World) → LinesMakeEvents policy 0 start lines out bad session no_past past → CameOf past ring world session →
    MapsNameNewest (extended_all (new_account (seed 1 ring) (seed 2 ring) larger) past.events) world

-- If both stores hold the same under the query of all keys, `show` has the same answer at both sides.
abbrev pub ShowsAgree : Type 0
ShowsAgree =
    (world : World) (session after : SessionContent) (out : List ℕ) → WorldStands session.world world →
    HoldSame world (λ key. true) (Store A) (Store B) →
    AnswersCommand lines.Show (turned session A) out after → AnswersCommand lines.Show (turned session B) out (turned session B)

-- A law: if a bad line is to end the script, no answered line is bad.
abbrev pub NoneIsBadWhereOneEnds : Type 0
NoneIsBadWhereOneEnds =
    (before : ℕ) (old new : SessionContent) (lines : List (List ℕ)) (out : List ℕ) (bad : ℕ) →
    AnswersLines End before old lines out bad new → bad ≡ 0
