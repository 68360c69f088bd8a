-- Calls on a C handle are turns of its store.
use Rattle.std.proofs.Common.{◌≡◌, ◌⊎◌, ℕ, Bool, true, false, cond, List, [], ◌∷◌, ◌++◌, refl, sym, ap, subst, inl, inr, append-nil}
use Rattle.std.specs.Prelude.{Option, Some, None, MatchOption}
use Rattle.std.proofs.lemmas.Option.{none-some, same_Some}
use Rattle.history.specs.declared.entry.Entry.{Entry}
use Rattle.history.specs.History.{Path, Run, entry}
use Rattle.history.proofs.RunLemmas.{run_join}
use Rattle.ds_held.specs.Limits.{larger}
use Rattle.ds_machine.specs.State.{opening}
use Rattle.ds_machine.specs.declared.command.Command.{Command}
use Rattle.ds_machine.specs.declared.refusal.Refusal.{Refusal}
use Rattle.ds_machine.specs.declared.refusal.Refusal.TheVariants.{Exists, NotAllowed}
use Rattle.ds_machine.specs.declared.reply.Reply.{Reply}
use Rattle.ds_machine.specs.declared.reply.Reply.TheVariants.{Refused}
use Rattle.ds_content.specs.Content.{ContentRecord}
use Rattle.ds_store.specs.Turns.{Turn}
use Rattle.rs_core.specs.State.{RsRecord}
use Rattle.rs_core.specs.declared.event.Event.{Event}
use Rattle.rs_store.specs.ByRs.{is_by_rs}
use Rattle.rs_store.specs.Laws.{StoreTurnsRun, entries_by}
use Rattle.rs_store.specs.Pair.{PairRecord}
use Rattle.rs_store.specs.declared.call.RsCommand.TheVariants.{Tell}
use Rattle.script_commands.specs.Command.{store_command}
use Rattle.script_commands.specs.ServiceEvent.{service_event_of}
use Rattle.script_commands.specs.Wording.{wording}
use Rattle.script_commands.specs.declared.command.ScriptCommand.{ScriptCommand}
use Rattle.script_commands.specs.declared.command.ScriptCommand.TheVariants as lines
use Rattle.c_values.specs.Answer.{answer_of}
use Rattle.c_values.specs.declared.answer.Answer.{Answer}
use Rattle.c_store.specs.Called.{RestsForNone, ShowsIfRoom, Tells}
use Rattle.c_store.specs.Calling.{LineAsks, what_shows}
use Rattle.c_store.specs.declared.session.Session.{Session}
use Rattle.c_rs.specs.Event.{event_of}
use Rattle.c_rs.specs.Lines.{CallsRsLine, CarriesOutBesideRs, CarriesOutIf, PassesOn, refusal_beside_rs}
use Rattle.c_rs.specs.Renewing.{RenewsBy, RestsAfter}
use Rattle.c_rs.specs.Serving.{RefusesCommand, ServesBy, SessionDoes}
use Rattle.c_rs.specs.declared.fault.SettingsRefusal.{SettingsRefusal}
use Rattle.c_rs.specs.declared.session.RsSession.{RsSession}
use Rattle.c_rs.proofs.RunningLemmas.{calls_are_turns}
use Rattle.rs_core.specs.declared.fault.RenewFault.{RenewFault}
use Rattle.std.specs.Prelude.{Result, Ok, Err}
use Rattle.c_holders.specs.Handles.{AreOfCommand, AreOfEvent, EntriesOfAll, EntriesOfCall, EntriesOfLine, HandleCall, HandlesAreStores}
use Rattle.c_holders.specs.Handles.{IsNoLineEntry, HandleLeads}
use Rattle.c_holders.specs.Handles.HandleCall.{OfRequests, OfLine, OfEvent, OfOpening, OfSettings}

abbrev store_in : RsSession → ContentRecord
store_in s = s.session.node.store

-- Turns of the store, of which something is said.
abbrev Turned : (List (Entry Command Reply) → Type 0) → ContentRecord → ContentRecord → Type 0
Turned says old new = (es : List (Entry Command Reply)) × says es × Run Turn old es new

-- ---- no turn

no_turn : (old new : ContentRecord) → new ≡ old → Run Turn old [] new
no_turn old new e = sym e

-- ---- refusals, and other settings

-- The two refusals of a command beside RS.
abbrev IsBeside : Refusal → Type 0
IsBeside refusal = (refusal ≡ NotAllowed) ⊎ (refusal ≡ Exists)

by_rs_beside : (b : Bool) (refusal : Refusal) → cond b (Some NotAllowed) None ≡ Some refusal → IsBeside refusal
by_rs_beside true refusal is = inl (sym (same_Some NotAllowed refusal is))
by_rs_beside false refusal is = absurd (none-some refusal is)

beside : (command : ScriptCommand) (refusal : Refusal) → refusal_beside_rs command ≡ Some refusal → IsBeside refusal
beside (lines.Settings text) refusal is = inr (sym (same_Some Exists refusal is))
beside (lines.Store asked) refusal is = by_rs_beside (is_by_rs asked) refusal is
beside (lines.Offer i) refusal is = absurd (none-some refusal is)
beside lines.Show refusal is = absurd (none-some refusal is)
beside lines.All refusal is = absurd (none-some refusal is)
beside (lines.Map query) refusal is = absurd (none-some refusal is)
beside (lines.Entries map) refusal is = absurd (none-some refusal is)
beside (lines.Ring ring) refusal is = absurd (none-some refusal is)
beside (lines.Side side) refusal is = absurd (none-some refusal is)
beside (lines.Clear map) refusal is = absurd (none-some refusal is)
beside (lines.Restart side incarnation) refusal is = absurd (none-some refusal is)
beside (lines.Deliver message holder count) refusal is = absurd (none-some refusal is)
beside (lines.Service request label tick) refusal is = absurd (none-some refusal is)
beside (lines.Death endpoint cause tick) refusal is = absurd (none-some refusal is)
beside (lines.Beat endpoint tick) refusal is = absurd (none-some refusal is)
beside (lines.Tick tick) refusal is = absurd (none-some refusal is)
beside (lines.Assign device label) refusal is = absurd (none-some refusal is)
beside (lines.Follow map) refusal is = absurd (none-some refusal is)
beside (lines.Submit server id unit map) refusal is = absurd (none-some refusal is)
beside (lines.Reply server endpoint id) refusal is = absurd (none-some refusal is)

refused_line : (refusal : Refusal) → IsBeside refusal → (answer : Answer) → answer ≡ answer_of (Refused refusal) → IsNoLineEntry answer
refused_line refusal (inl is) answer told = inl (inr (inr (subst (λ (r : Refusal). answer ≡ answer_of (Refused r)) is told)))
refused_line refusal (inr is) answer told = inr (inl (subst (λ (r : Refusal). answer ≡ answer_of (Refused r)) is told))

rests_store : (result : Result (Unit {0}) RenewFault) (old new : RsSession) → RestsAfter result old new → store_in new ≡ store_in old
rests_store (Ok done) old new rests = rests.store
rests_store (Err fault) old new rests = rests.store

renewed_store : (services : Option RsRecord) (text : List ℕ) (old : RsSession) (before : SettingsRefusal) (word : ℕ)
    (fault : SettingsRefusal) (new : RsSession) → RenewsBy services text old before word fault new → store_in new ≡ store_in old
renewed_store None text old before word fault new none = ap store_in none.2
renewed_store (Some rs) text old before word fault new (inl renews) = rests_store renews.result old new renews.rests
renewed_store (Some rs) text old before word fault new (inr bad) = bad.rests.store

module _ (store_turns_run : StoreTurnsRun) where
  -- ---- an event

  event_turns : (event : Event) (tick : ℕ) (old : RsSession) (answer : Answer) (new : RsSession) → ServesBy event tick old answer new →
      Turned (AreOfEvent event tick answer) (store_in old) (store_in new)
  event_turns event tick old answer new served = (
    entries_by 0 (Tell event tick) served.reply,
    record { reply = served.reply; answer_is = served.told_is; entries_are = refl },
    subst (λ (es : List (Entry Command Reply)). Run Turn (store_in old) es (store_in new))
        (append-nil (entries_by 0 (Tell event tick) served.reply))
        (store_turns_run (entry 0 (Tell event tick) served.reply ∷ []) old.session.node new.session.node
        (new.session.node, served.served, refl)),
  )

  struct_turns : (o : Option Event) (tick : ℕ) (old : RsSession) (answer : Answer) (new : RsSession)
      → MatchOption o (SessionDoes RestsForNone old answer new) (λ event. ServesBy event tick old answer new)
      → Turned (λ es. MatchOption o (es ≡ []) (λ event. AreOfEvent event tick answer es)) (store_in old) (store_in new)
  struct_turns None tick old answer new rests = ([], refl, no_turn _ _ (ap (λ (p : PairRecord). p.store) rests.done.node_is))
  struct_turns (Some event) tick old answer new served = event_turns event tick old answer new served

  -- ---- a line

  asked_turns : (command : ScriptCommand) (o : Option Command) → store_command command ≡ o → (old : Session) (answer : Answer)
      (new : Session)
      → MatchOption o (RestsForNone old answer new) (λ asked. Tells old (wording command) asked answer new)
      → Turned (AreOfCommand command answer) old.node.store new.node.store
  asked_turns command None is old answer new rests =
      ([], inl (inl (inl rests.told_is), refl), no_turn _ _ (ap (λ (p : PairRecord). p.store) rests.node_is))
  asked_turns command (Some asked) is old answer new tells = (
    entry 0 asked tells.reply ∷ [],
    inr (inl (record { sent = asked; sent_is = is; reply = tells.reply; answer_is = tells.told; entry_is = refl })),
    (new.node.store, tells.turn, refl),
  )

  line_turns : (command : ScriptCommand) (old : Session) (answer : Answer) (new : Session) → LineAsks command old answer new
      → Turned (AreOfCommand command answer) old.node.store new.node.store
  line_turns command old answer new (inl asks) = asked_turns command (store_command command) refl old answer new asks
  line_turns command old answer new (inr room) =
      ([], inl (inl (inr (inl room.1.told_is)), refl), no_turn _ _ (ap (λ (p : PairRecord). p.store) room.1.node_is))

  shown_turns : (command : ScriptCommand) (all : Bool) (old : Session) (answer : Answer) (new : Session) → ShowsIfRoom old all answer new
      → Turned (AreOfCommand command answer) old.node.store new.node.store
  shown_turns command all old answer new (inl shows) =
      ([], inl (inr (inr (_, shows.told_is)), refl), no_turn _ _ (ap (λ (p : PairRecord). p.store) shows.node_is))
  shown_turns command all old answer new (inr room) =
      ([], inl (inl (inr (inl room.1.told_is)), refl), no_turn _ _ (ap (λ (p : PairRecord). p.store) room.1.node_is))

  carried_turns : (command : ScriptCommand) (o : Option Bool) (old : Session) (answer : Answer) (new : Session)
      → MatchOption o (LineAsks command old answer new) (λ all. ShowsIfRoom old all answer new)
      → Turned (AreOfCommand command answer) old.node.store new.node.store
  carried_turns command None old answer new asks = line_turns command old answer new asks
  carried_turns command (Some all) old answer new shows = shown_turns command all old answer new shows

  passed_turns : (command : ScriptCommand) (old : RsSession) (answer : Answer) (new : RsSession) → PassesOn command old answer new
      → Turned (AreOfCommand command answer) (store_in old) (store_in new)
  passed_turns command old answer new passed =
      carried_turns command (what_shows command) old.session answer new.session passed.done

  -- ---- a line once RS is open

  beside_turns : (command : ScriptCommand) (o : Option Refusal) → refusal_beside_rs command ≡ o → (old : RsSession) (answer : Answer)
      (new : RsSession)
      → MatchOption o (PassesOn command old answer new) (λ refusal. RefusesCommand refusal old answer new)
      → Turned (AreOfCommand command answer) (store_in old) (store_in new)
  beside_turns command None is old answer new passed = passed_turns command old answer new passed
  beside_turns command (Some refusal) is old answer new refuses = (
    [],
    inl (refused_line refusal (beside command refusal is) answer refuses.done.told_is, refl),
    no_turn _ _ (ap (λ (p : PairRecord). p.store) refuses.done.node_is),
  )

  rs_turns : (command : ScriptCommand) (o : Option (Event × ℕ)) → service_event_of command ≡ o → (old : RsSession) (answer : Answer)
      (new : RsSession)
      → MatchOption o (CarriesOutBesideRs command old answer new) (λ event. ServesBy event.0 event.1 old answer new)
      → Turned (AreOfCommand command answer) (store_in old) (store_in new)
  rs_turns command None is old answer new carried = beside_turns command (refusal_beside_rs command) refl old answer new carried
  rs_turns command (Some event) is old answer new served =
      let turns = event_turns event.0 event.1 old answer new served in (turns.0, inr (inr (event, is, turns.1)), turns.2)

  command_turns : (services : Option RsRecord) (command : ScriptCommand) (old : RsSession) (answer : Answer) (new : RsSession)
      → CarriesOutIf services command old answer new → Turned (AreOfCommand command answer) (store_in old) (store_in new)
  command_turns None command old answer new passed = passed_turns command old answer new passed
  command_turns (Some rs) command old answer new carried = rs_turns command (service_event_of command) refl old answer new carried

  any_line_turns : (bytes : List ℕ) (old : RsSession) (answer : Answer) (new : RsSession) → CallsRsLine bytes old answer new
      → Turned (EntriesOfLine bytes answer) (store_in old) (store_in new)
  any_line_turns bytes old answer new (inl carried) =
      let turns = command_turns old.session.node.services carried.command old answer new carried.carried in
      (turns.0, inr (carried.command, carried.stands, turns.1), turns.2)
  any_line_turns bytes old answer new (inr (inl bad)) = (
    [],
    inl (bad.0, bad.1, bad.2.done.told_is, refl),
    no_turn _ _ (ap (λ (p : PairRecord). p.store) bad.2.done.node_is),
  )
  any_line_turns bytes old answer new (inr (inr room)) = (
    [],
    inr (room.0.0, room.0.1, inl (inl (inr (inl room.1.done.told_is)), refl)),
    no_turn _ _ (ap (λ (p : PairRecord). p.store) room.1.done.node_is),
  )

  -- ---- any call, and all calls

  call_turns : (call : HandleCall) (old new : RsSession) → HandleLeads old call new →
      Turned (EntriesOfCall call) (store_in old) (store_in new)
  call_turns (OfRequests texts requests answers) old new calls = calls_are_turns texts requests answers old new calls
  call_turns (OfLine line answer) old new called = any_line_turns line old answer new called
  call_turns (OfEvent event answer) old new served = struct_turns (event_of event) event.tick old answer new served
  call_turns (OfOpening text next first) old new opens = ([], refl, no_turn _ _ opens.3.store)
  call_turns (OfSettings text) old new renews =
      ([], refl, no_turn _ _ (renewed_store old.session.node.services text old renews.0 renews.2 renews.1 new renews.3))

  all_turns : (calls : List HandleCall) (old new : RsSession) → Path HandleLeads old calls new →
      Turned (EntriesOfAll calls) (store_in old) (store_in new)
  all_turns [] old new path = ([], refl, ap store_in path)
  all_turns (call ∷ calls) old new path =
      let here = call_turns call old path.0 path.1 in
      let there = all_turns calls path.0 new path.2 in (
        here.0 ++ there.0,
        (here.0, there.0, refl, here.1, there.1),
        run_join Turn (store_in old) (store_in path.0) (store_in new) here.0 there.0 here.2 there.2,
      )

  pub handles_are_stores : HandlesAreStores
  handles_are_stores incarnation first ring old new calls opened path =
      let turns = all_turns calls old new path in (
        turns.0,
        turns.1,
        record {
          opened = store_in old;
          start = opening incarnation first ring larger;
          content = opened;
          empty = refl;
          turns = turns.0;
          run = turns.2;
          known_is = refl;
        },
      )
