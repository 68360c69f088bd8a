-- Commands and their answers.
use Rattle.std.proofs.Common.{◌≡◌, ◌≢◌, ℕ, ◌⊎◌, inl, inr, Option, Some, None, MatchOption, List, refl, sym, ap, subst, ◌∙◌}
use Rattle.std.specs.List.{slice_get}
use Rattle.ds_names.specs.Endpoint.{EndpointRecord}
use Rattle.ds_submap.specs.Map.{SubMapRecord}
use Rattle.ds_replica.specs.declared.event.Event.{Event}
use Rattle.ds_replica.specs.declared.event.Side.{Side as OneSide}
use Rattle.ds_replica.specs.declared.outcome.Outcome.{Outcome}
use Rattle.script_commands.specs.Event.{event_of}
use Rattle.script_answers.specs.Outcome.{side_line}
use Rattle.script_commands.specs.Wording.{wording}
use Rattle.script_answers.specs.Reply.{refused_noroom}
use Rattle.script_commands.specs.declared.command.ScriptCommand.{ScriptCommand}
use Rattle.script_commands.specs.declared.command.ScriptCommand.TheVariants.{Show, All, Entries, Ring, Side, Settings, Service, Death, Beat}
use Rattle.script_commands.specs.declared.command.ScriptCommand.TheVariants.{Tick, Assign, Follow, Submit, Reply}
use Rattle.script_commands.specs.declared.service.Device.{Device}
use Rattle.script_commands.specs.declared.service.Request.{Request}
use Rattle.script_commands.specs.declared.service.Server.{Server}
use Rattle.script_answers.specs.declared.wording.Wording.{Wording}
use Rattle.ds_script.specs.Session.{SessionContent, IsHappening, turned}
use Rattle.ds_script.specs.Answer.{told_lines, entries_text, AnswersEvent, AnswersAsEvent, AnswersByServers, AnswersRing, AnswersCommand}
use Rattle.ds_script.specs.Answer.{IsLineRefused, AnswerTakesMemory, AnswersOrRefuses}
use Rattle.script_services.specs.Services.{AnswersSettings}

-- ---- events

some_is_not_none : {X : Type 0} (x : X) → Some x ≢ None
some_is_not_none x = λ same. absurd (cc)

-- all commands but these are events
pub is_event : (side : OneSide) (command : ScriptCommand)
    → command ≢ Show
    → command ≢ All
    → ((map : ℕ) → command ≢ Entries map)
    → ((ring : ℕ) → command ≢ Ring ring)
    → ((to : OneSide) → command ≢ Side to)
    → ((text : List ℕ) → command ≢ Settings text)
    → ((request : Request) (label : List ℕ) (tick : ℕ) → command ≢ Service request label tick)
    → ((endpoint : EndpointRecord) (cause tick : ℕ) → command ≢ Death endpoint cause tick)
    → ((endpoint : EndpointRecord) (tick : ℕ) → command ≢ Beat endpoint tick)
    → ((tick : ℕ) → command ≢ Tick tick)
    → ((device : Device) (label : List ℕ) → command ≢ Assign device label)
    → ((map : ℕ) → command ≢ Follow map)
    → ((server : Server) (id unit map : ℕ) → command ≢ Submit server id unit map)
    → ((server : Server) (endpoint : EndpointRecord) (id : ℕ) → command ≢ Reply server endpoint id)
    → event_of side command ≢ None
is_event side Show no_show no_all no_entries no_ring no_side no_settings no_service no_death no_beat no_tick no_assign no_follow no_submit
    no_reply = absurd (no_show refl)
is_event side All no_show no_all no_entries no_ring no_side no_settings no_service no_death no_beat no_tick no_assign no_follow no_submit
    no_reply = absurd (no_all refl)
is_event side (Entries map) no_show no_all no_entries no_ring no_side no_settings no_service no_death no_beat no_tick no_assign no_follow
    no_submit no_reply = absurd (no_entries map refl)
is_event side (Ring ring) no_show no_all no_entries no_ring no_side no_settings no_service no_death no_beat no_tick no_assign no_follow
    no_submit no_reply = absurd (no_ring ring refl)
is_event side (Side to) no_show no_all no_entries no_ring no_side no_settings no_service no_death no_beat no_tick no_assign no_follow
    no_submit no_reply = absurd (no_side to refl)
is_event side (Settings text) no_show no_all no_entries no_ring no_side no_settings no_service no_death no_beat no_tick no_assign no_follow
    no_submit no_reply = absurd (no_settings text refl)
is_event side (Service request label tick) no_show no_all no_entries no_ring no_side no_settings no_service no_death no_beat no_tick
    no_assign no_follow no_submit no_reply = absurd (no_service request label tick refl)
is_event side (Death endpoint cause tick) no_show no_all no_entries no_ring no_side no_settings no_service no_death no_beat no_tick
    no_assign no_follow no_submit no_reply = absurd (no_death endpoint cause tick refl)
is_event side (Beat endpoint tick) no_show no_all no_entries no_ring no_side no_settings no_service no_death no_beat no_tick no_assign
    no_follow no_submit no_reply = absurd (no_beat endpoint tick refl)
is_event side (Tick tick) no_show no_all no_entries no_ring no_side no_settings no_service no_death no_beat no_tick no_assign no_follow
    no_submit no_reply = absurd (no_tick tick refl)
is_event side (Assign device label) no_show no_all no_entries no_ring no_side no_settings no_service no_death no_beat no_tick no_assign
    no_follow no_submit no_reply = absurd (no_assign device label refl)
is_event side (Follow map) no_show no_all no_entries no_ring no_side no_settings no_service no_death no_beat no_tick no_assign no_follow
    no_submit no_reply = absurd (no_follow map refl)
is_event side (Submit server id unit map) no_show no_all no_entries no_ring no_side no_settings no_service no_death no_beat no_tick
    no_assign no_follow no_submit no_reply = absurd (no_submit server id unit map refl)
is_event side (Reply server endpoint id) no_show no_all no_entries no_ring no_side no_settings no_service no_death no_beat no_tick
    no_assign no_follow no_submit no_reply = absurd (no_reply server endpoint id refl)
is_event side command no_show no_all no_entries no_ring no_side no_settings no_service no_death no_beat no_tick no_assign no_follow
    no_submit no_reply = λ none. some_is_not_none _ none

-- the lines of the event's outcome are the command's answer
pub as_event : (command : ScriptCommand) (worded : Wording) (side : OneSide) (event : Event) (outcome : Outcome) (old new : SessionContent)
    → worded ≡ wording command → side ≡ old.side → Some event ≡ event_of side command → IsHappening event outcome old new
    → AnswersAsEvent command old (told_lines worded outcome new.world.messages) new
as_event command worded side event outcome old new same at is happens =
    subst (λ (o : Option Event). MatchOption o ⊥
    (λ e. AnswersEvent (wording command) e old (told_lines worded outcome new.world.messages) new))
    (is ∙ ap (λ (s : OneSide). event_of s command) at)
    (record { outcome = outcome; happens = happens; told = ap (λ (w : Wording). told_lines w outcome new.world.messages) same })

-- an event's answer is the command's answer
answers_it : (command : ScriptCommand) (old : SessionContent) (out : List ℕ) (new : SessionContent) → AnswersAsEvent command old out new →
    AnswersCommand command old out new
answers_it Show old out new a = absurd a
answers_it All old out new a = absurd a
answers_it (Entries map) old out new a = absurd a
answers_it (Ring ring) old out new a = absurd a
answers_it (Side side) old out new a = absurd a
answers_it (Settings text) old out new a = absurd a
answers_it (Service request label tick) old out new a = absurd a
answers_it (Death endpoint cause tick) old out new a = absurd a
answers_it (Beat endpoint tick) old out new a = absurd a
answers_it (Tick tick) old out new a = absurd a
answers_it (Assign device label) old out new a = absurd a
answers_it (Follow map) old out new a = absurd a
answers_it (Submit server id unit map) old out new a = absurd a
answers_it (Reply server endpoint id) old out new a = absurd a
answers_it command old out new a = a

pub event_answers : (command : ScriptCommand) (old : SessionContent) (out : List ℕ) (new : SessionContent)
    → AnswersAsEvent command old out new ⊎ (AnswerTakesMemory command old × IsLineRefused old out new) →
    AnswersOrRefuses command old out new
event_answers command old out new (inl a) = inr (answers_it command old out new a)
event_answers command old out new (inr r) = inl r

-- ---- other commands

-- the map of the number, or that there is none, is the answer to `entries`
pub entries_answers : (command : ScriptCommand) (number : ℕ) (session : SessionContent) (m : Option SubMapRecord)
    → command ≡ Entries number → m ≡ slice_get session.world.maps number → AnswersOrRefuses command session (entries_text m) session
entries_answers command number session m is at =
    subst (λ (k : ScriptCommand). AnswersOrRefuses k session (entries_text m) session) (sym is) (inr (refl, ap entries_text at))

pub entries_refused : (command : ScriptCommand) (number : ℕ) (session : SessionContent) (m : Option SubMapRecord) →
    command ≡ Entries number → m ≡ slice_get session.world.maps number → m ≢ None
    → AnswersOrRefuses command session refused_noroom session
entries_refused command number session m is at there =
    subst (λ (k : ScriptCommand). AnswersOrRefuses k session refused_noroom session) (sym is)
    (inl ((λ none. there (at ∙ none)), (refl, refl)))

pub ring_answers : (command : ScriptCommand) (ring : ℕ) (old : SessionContent) (out : List ℕ) (new : SessionContent) →
    command ≡ Ring ring → AnswersRing ring old out new ⊎ IsLineRefused old out new → AnswersOrRefuses command old out new
ring_answers command ring old out new is (inl a) = subst (λ (k : ScriptCommand). AnswersOrRefuses k old out new) (sym is) (inr a)
ring_answers command ring old out new is (inr r) = subst (λ (k : ScriptCommand). AnswersOrRefuses k old out new) (sym is) (inl (tt, r))

pub side_answers : (command : ScriptCommand) (side : OneSide) (old new : SessionContent) → command ≡ Side side → new ≡ turned old side →
    AnswersOrRefuses command old (side_line side) new
side_answers command side old new is same =
    subst (λ (k : ScriptCommand). AnswersOrRefuses k old (side_line side) new) (sym is) (inr (same, refl))

-- ---- RS and the tables

-- where the command is this one, its answer is that one's
pub answers_as : (command same : ScriptCommand) (old : SessionContent) (out : List ℕ) (new : SessionContent) → command ≡ same →
    AnswersCommand same old out new → AnswersOrRefuses command old out new
answers_as command same old out new is a = subst (λ (k : ScriptCommand). AnswersOrRefuses k old out new) (sym is) (inr a)

pub settings_answers : (command : ScriptCommand) (text : List ℕ) (old : SessionContent) (out : List ℕ) (new : SessionContent) →
    command ≡ Settings text
    → AnswersByServers (AnswersSettings text) old out new ⊎ (AnswerTakesMemory (Settings text) old × IsLineRefused old out new)
    → AnswersOrRefuses command old out new
settings_answers command text old out new is (inl a) = answers_as command (Settings text) old out new is a
settings_answers command text old out new is (inr r) = subst (λ (k : ScriptCommand). AnswersOrRefuses k old out new) (sym is) (inl r)
