-- A history of RS and its store, as a history of each.
use Rattle.std.proofs.Common.{◌≡◌, ℕ, Bool, cond, List, [], ◌∷◌, ◌++◌, Option, Some, None, Result, Ok, refl, sym, ap, subst, ◌∙◌}
use Rattle.std.proofs.Common.{append_assoc, append-nil}
use Rattle.std.specs.Prelude.{filter}
use Rattle.std.specs.List.{flat_map}
use Rattle.std.proofs.lemmas.List.{map-append}
use Rattle.std.proofs.lemmas.List.Elements.{filter-append, filter_map-append}
use Rattle.history.specs.declared.entry.Entry.{Entry}
use Rattle.history.specs.History.{Run, entry}
use Rattle.history.proofs.RunLemmas.{run_join, path_join}
use Rattle.ds_content.specs.Content.{ContentRecord}
use Rattle.ds_content.specs.Stands.{ContentStands}
use Rattle.ds_names.specs.Endpoint.{endpoint_of}
use Rattle.ds_names.specs.declared.key.Key.{Key}
use Rattle.ds_names.specs.declared.version.Version.{Version}
use Rattle.ds_entry.specs.declared.body.Body.{Body}
use Rattle.ds_entry.specs.declared.body.Body.TheVariants.{Put, Gone}
use Rattle.ds_entry.specs.SingleNumbered.{IsSingleNumbered}
use Rattle.ds_entry.proofs.Members.{Contains-nil}
use Rattle.rs_core.proofs.RunLemmas.{labels_single_numbered}
use Rattle.ds_machine.specs.declared.command.Command.{Command}
use Rattle.ds_machine.specs.declared.reply.Reply.{Reply}
use Rattle.rs_to_store.specs.Asked.{asking_for, command_of, commands}
use Rattle.ds_store.specs.Turns.{Turn, commands_of}
use Rattle.ds_store.proofs.TurnLemmas.{turns_run}
use Rattle.ds_store.proofs.SettledLemmas.{histories_settle}
use Rattle.rs_core.specs.declared.action.Action.{Action}
use Rattle.rs_core.specs.declared.action.Action.TheVariants.{Kill, Start, Ping, Offer, Sweep}
use Rattle.rs_core.specs.declared.event.Event.{Event}
use Rattle.rs_core.specs.declared.event.Event.TheVariants as events
use Rattle.rs_core.specs.declared.fault.NewFault.TheVariants as new_faults
use Rattle.rs_core.specs.Machine.{asked}
use Rattle.rs_core.specs.State.{RsRecord}
use Rattle.rs_core.specs.Step.{RsStep, done_to}
use Rattle.rs_core.specs.Run.{RsRun, RsActs, offers}
use Rattle.rs_settings.specs.Settings.{SettingsRecord}
use Rattle.rs_store.specs.ByRs.{is_by_rs}
use Rattle.rs_store.specs.declared.call.RsCommand.{RsCommand}
use Rattle.rs_store.specs.declared.call.RsCommand.TheVariants.{Ask, Begin, Tell}
use Rattle.rs_store.specs.declared.call.RsReply.{RsReply}
use Rattle.rs_store.specs.declared.call.RsReply.TheVariants.{Replied, NotAllowed, Begun, Exists, NotBegun, Acted, Refused}
use Rattle.rs_store.specs.Pair.{PairRecord}
use Rattle.rs_store.specs.Serving.{ClientTurn, BeginTurn, BeginsFirst, EventTurn, RsServes, TurnFor, TurnsFor, before_beginning}
use Rattle.rs_store.specs.Turns.{RsTurn}
use Rattle.rs_store.specs.Laws.{entry_if, entries_for, entries_by, store_entries, StoreTurnsRun, actions_in, actions_by, RsTurnsRun}
use Rattle.rs_store.specs.Laws.{events_in, events_by, RsEventStep, HistoriesKeepLabels, RsAloneIsRs, StandAlike, PairsSettle}

-- ---- the store's part

one_for : (n : ℕ) (o : Option Command) (r : Option Reply) (a b : ContentRecord) → TurnFor a o r b → Run Turn a (entry_if n o r) b
one_for n None None a b same = sym same
one_for n (Some c) (Some r) a b turn = (b, turn, refl)
one_for n None (Some r) a b turn = absurd turn
one_for n (Some c) None a b turn = absurd turn

all_for : (n : ℕ) (acts : List Action) (rs : List (Option Reply)) (a b : ContentRecord) → TurnsFor a acts rs b →
    Run Turn a (entries_for n acts rs) b
all_for n [] [] a b same = sym same
all_for n (x ∷ acts) (r ∷ rs) a b all =
    run_join Turn a all.0 b (entry_if n (command_of x) r) (entries_for n acts rs) (one_for n (command_of x) r a all.0 all.1)
    (all_for n acts rs all.0 b all.2)
all_for n [] (r ∷ rs) a b all = absurd all
all_for n (x ∷ acts) [] a b all = absurd all

none_asked : (n : ℕ) (event : Event) (tick : ℕ) (other : Event) → entries_by n (Tell other tick) (before_beginning event) ≡ []
none_asked n (events.Up l) tick other = refl
none_asked n (events.Stop l) tick other = refl
none_asked n (events.Refresh l) tick other = refl
none_asked n (events.Restart l) tick other = refl
none_asked n (events.Death e c) tick other = refl
none_asked n (events.Beat e) tick other = refl
none_asked n events.Tick tick other = refl

serve_runs : (n : ℕ) (event : Event) (tick : ℕ) (o : Option RsRecord) (reply : RsReply) (old : ContentRecord) (after : Option RsRecord)
    (new : ContentRecord)
    → EventTurn event tick o old reply after new → Run Turn old (entries_by n (Tell event tick) reply) new
serve_runs n event tick None reply old after new h =
    subst (λ (r : RsReply). Run Turn old (entries_by n (Tell event tick) r) new) (sym h.0)
    (subst (λ (es : List (Entry Command Reply)). Run Turn old es new) (sym (none_asked n event tick event)) (sym h.2))
serve_runs n event tick (Some rs) (Acted acts replies given) old after new h = all_for n acts replies old new h.1
serve_runs n event tick (Some rs) (Refused fault) old after new h = sym h.2
serve_runs n event tick (Some rs) (Replied r) old after new h = absurd h
serve_runs n event tick (Some rs) NotAllowed old after new h = absurd h
serve_runs n event tick (Some rs) (Begun k l) old after new h = absurd h
serve_runs n event tick (Some rs) Exists old after new h = absurd h
serve_runs n event tick (Some rs) (NotBegun f) old after new h = absurd h

ask_runs : (n : ℕ) (o : Option RsRecord) (c : Command) (reply : RsReply) (old new : ContentRecord) → ClientTurn o old c reply new →
    Run Turn old (entries_by n (Ask c) reply) new
ask_runs n o c (Replied r) old new h = (new, h.1, refl)
ask_runs n o c NotAllowed old new h = sym h.1
ask_runs n o c (Begun k l) old new h = absurd h
ask_runs n o c Exists old new h = absurd h
ask_runs n o c (NotBegun f) old new h = absurd h
ask_runs n o c (Acted acts replies given) old new h = absurd h
ask_runs n o c (Refused fault) old new h = absurd h

begin_runs : (n : ℕ) (settings : SettingsRecord) (next first : ℕ) (reply : RsReply) (old new : ContentRecord) → new ≡ old →
    Run Turn old (entries_by n (Begin settings next first) reply) new
begin_runs n settings next first (Replied r) old new e = sym e
begin_runs n settings next first NotAllowed old new e = sym e
begin_runs n settings next first (Begun k l) old new e = sym e
begin_runs n settings next first Exists old new e = sym e
begin_runs n settings next first (NotBegun f) old new e = sym e
begin_runs n settings next first (Acted acts replies given) old new e = sym e
begin_runs n settings next first (Refused fault) old new e = sym e

call_runs : (n : ℕ) (command : RsCommand) (reply : RsReply) (old new : PairRecord) → RsTurn old command reply new →
    Run Turn old.store (entries_by n command reply) new.store
call_runs n (Ask c) reply old new h = ask_runs n old.services c reply old.store new.store h.0
call_runs n (Begin settings next first) reply old new h = begin_runs n settings next first reply old.store new.store h.1
call_runs n (Tell event tick) reply old new h = serve_runs n event tick old.services reply old.store new.services new.store h

pub store_turns_run : StoreTurnsRun
store_turns_run [] old new run = ap (λ (p : PairRecord). p.store) run
store_turns_run (e ∷ es) old new run =
    run_join Turn old.store run.0.store new.store (entries_by e.pass e.command e.reply) (store_entries es)
    (call_runs e.pass e.command e.reply old run.0 run.1) (store_turns_run es run.0 new run.2)

-- ---- RS's part

abbrev Goes : ℕ → RsCommand → RsRecord → RsReply → Option RsRecord → Type 0
Goes n command rs reply after = (t : RsRecord) × (after ≡ Some t) × Run RsEventStep rs (events_in n command reply) t
    × RsRun rs (actions_in reply) t

served : (n : ℕ) (event : Event) (tick : ℕ) (rs : RsRecord) (reply : RsReply) (old : ContentRecord) (after : Option RsRecord)
    (new : ContentRecord)
    → RsServes event tick rs old reply after new → Goes n (Tell event tick) rs reply after
served n event tick rs (Acted acts replies given) old after new h =
    (h.0.0, h.0.2, (h.0.0, (h.0.1, h.2), refl), (h.0.0, (event, tick, h.0.1), refl))
served n event tick rs (Refused fault) old after new h = (rs, h.1, (rs, (h.0, refl), refl), refl)
served n event tick rs (Replied r) old after new h = absurd h
served n event tick rs NotAllowed old after new h = absurd h
served n event tick rs (Begun k l) old after new h = absurd h
served n event tick rs Exists old after new h = absurd h
served n event tick rs (NotBegun f) old after new h = absurd h

-- a client's command has no actions
asks_act_not : (o : Option RsRecord) (c : Command) (reply : RsReply) (old new : ContentRecord) → ClientTurn o old c reply new →
    actions_in reply ≡ []
asks_act_not o c (Replied r) old new h = refl
asks_act_not o c NotAllowed old new h = refl
asks_act_not o c (Begun k l) old new h = absurd h
asks_act_not o c Exists old new h = absurd h
asks_act_not o c (NotBegun f) old new h = absurd h
asks_act_not o c (Acted acts replies given) old new h = absurd h
asks_act_not o c (Refused fault) old new h = absurd h

one_goes : (n : ℕ) (command : RsCommand) (reply : RsReply) (old new : PairRecord) (rs : RsRecord) → old.services ≡ Some rs →
    RsTurn old command reply new → Goes n command rs reply new.services
one_goes n (Ask c) reply old new rs e h =
    let none = asks_act_not old.services c reply old.store new.store h.0 in
    (rs, h.1 ∙ e, refl, subst (λ (l : List (List Action)). RsRun rs l rs) (sym none) refl)
one_goes n (Begin settings next first) reply old new rs e h =
    let begins = subst (λ (o : Option RsRecord). BeginTurn o settings next first reply new.services) e h.0 in
    subst (λ (r : RsReply). Goes n (Begin settings next first) rs r new.services) (sym begins.0) (rs, begins.1, refl, refl)
one_goes n (Tell event tick) reply old new rs e h =
    served n event tick rs reply old.store new.services new.store
    (subst (λ (o : Option RsRecord). EventTurn event tick o old.store reply new.services new.store) e h)

pub rs_turns_run : RsTurnsRun
rs_turns_run [] old new rs e run =
    (rs, ap (λ (p : PairRecord). p.services) (sym run) ∙ e, record { events = refl; actions = refl })
rs_turns_run (x ∷ es) old new rs e run =
    let one = one_goes x.pass x.command x.reply old run.0 rs e run.1 in
    let more = rs_turns_run es run.0 new one.0 one.1 run.2 in (
      more.0,
      more.1,
      record {
        events =
            run_join RsEventStep rs one.0 more.0 (events_in x.pass x.command x.reply) (events_by es) one.2 more.2.events;
        actions = path_join RsActs rs one.0 more.0 (actions_in x.reply) (actions_by es) one.3 more.2.actions;
      },
    )

-- ---- labels

-- before RS has begun nothing is offered
none_told : (event : Event) (rest : List (List Action)) →
    flat_map offers (actions_in (before_beginning event) ++ rest) ≡ flat_map offers rest
none_told (events.Up l) rest = refl
none_told (events.Stop l) rest = refl
none_told (events.Refresh l) rest = refl
none_told (events.Restart l) rest = refl
none_told (events.Death e c) rest = refl
none_told (events.Beat e) rest = refl
none_told events.Tick rest = refl

abbrev OffersNone : RsReply → List (List Action) → Type 0
OffersNone reply rest = flat_map offers (actions_in reply ++ rest) ≡ flat_map offers rest

asks_none : (o : Option RsRecord) (c : Command) (reply : RsReply) (old new : ContentRecord) (rest : List (List Action)) →
    ClientTurn o old c reply new → OffersNone reply rest
asks_none o c reply old new rest h = ap (λ (l : List (List Action)). flat_map offers (l ++ rest)) (asks_act_not o c reply old new h)

begins_none : (settings : SettingsRecord) (next first : ℕ) (reply : RsReply) (after : Option RsRecord) (rest : List (List Action)) →
    BeginsFirst settings next first reply after → OffersNone reply rest
begins_none settings next first (Replied r) after rest h = absurd h
begins_none settings next first NotAllowed after rest h = absurd h
begins_none settings next first (Begun k l) after rest h = refl
begins_none settings next first Exists after rest h = absurd h
begins_none settings next first (NotBegun f) after rest h = refl
begins_none settings next first (Acted acts replies given) after rest h = absurd h
begins_none settings next first (Refused fault) after rest h = absurd h

offers_none : (command : RsCommand) (reply : RsReply) (old new : PairRecord) (rest : List (List Action)) → old.services ≡ None →
    RsTurn old command reply new → OffersNone reply rest
offers_none (Ask c) reply old new rest e h = asks_none old.services c reply old.store new.store rest h.0
offers_none (Begin settings next first) reply old new rest e h =
    begins_none settings next first reply new.services rest
    (subst (λ (o : Option RsRecord). BeginTurn o settings next first reply new.services) e h.0)
offers_none (Tell event tick) reply old new rest e h =
    let is = subst (λ (o : Option RsRecord). EventTurn event tick o old.store reply new.services new.store) e h in
    subst (λ (r : RsReply). OffersNone r rest) (sym is.0) (none_told event rest)

pub histories_keep_labels : HistoriesKeepLabels
histories_keep_labels [] old new e run = record {
  one_change = λ c d i j k v. absurd (Contains-nil c i);
  one_owner = λ c d i j k. absurd (Contains-nil c i);
}
histories_keep_labels (x ∷ es) old new e run =
    subst (IsSingleNumbered) (sym (offers_none x.command x.reply old run.0 (actions_by es) e run.1))
    (by run.0.services refl (λ q. histories_keep_labels es run.0 new q run.2))
  where
    by : (o : Option RsRecord) → run.0.services ≡ o → (run.0.services ≡ None → IsSingleNumbered (flat_map offers (actions_by es))) →
        IsSingleNumbered (flat_map offers (actions_by es))
    by None q rest = rest q
    by (Some rs) q rest = let go = rs_turns_run es run.0 new rs q run.2 in labels_single_numbered rs go.0 (actions_by es) go.2.actions

-- ---- commands in RS's name

abbrev by_rs_in : List (Entry Command Reply) → List Command
by_rs_in es = filter is_by_rs (commands_of es)

by_rs_join : (es fs : List (Entry Command Reply)) → by_rs_in (es ++ fs) ≡ by_rs_in es ++ by_rs_in fs
by_rs_join es fs =
    ap (λ (l : List Command). filter is_by_rs l) (map-append (λ (e : Entry Command Reply). e.command) es fs) ∙
    filter-append is_by_rs (commands_of es) (commands_of fs)

-- a command for RS's own change has RS as its caller
asked_one : (n : ℕ) (key : Key) (version : Version) (body : Body) (r : Reply)
    → by_rs_in (entry n (asking_for (endpoint_of 0 2) key version body) r ∷ []) ≡ asking_for (endpoint_of 0 2) key version body ∷ []
asked_one n key version (Put v) r = refl
asked_one n key version Gone r = refl

-- so does a command for an action
asked_by_rs : (n : ℕ) (x : Action) (r : Option Reply) (a b : ContentRecord) → TurnFor a (command_of x) r b →
    by_rs_in (entry_if n (command_of x) r) ≡ commands (x ∷ [])
asked_by_rs n (Kill e) None a b h = refl
asked_by_rs n (Start l e) None a b h = refl
asked_by_rs n (Ping e) None a b h = refl
asked_by_rs n (Sweep f) (Some r) a b h = refl
asked_by_rs n (Offer c) (Some r) a b h = asked_one n c.key c.version c.body r
asked_by_rs n (Kill e) (Some r) a b h = absurd h
asked_by_rs n (Start l e) (Some r) a b h = absurd h
asked_by_rs n (Ping e) (Some r) a b h = absurd h
asked_by_rs n (Sweep f) None a b h = absurd h
asked_by_rs n (Offer c) None a b h = absurd h

commands_join : (x : Action) (acts : List Action) → commands (x ∷ []) ++ commands acts ≡ commands (x ∷ acts)
commands_join x acts = sym (filter_map-append command_of (x ∷ []) acts)

all_by_rs : (n : ℕ) (acts : List Action) (rs : List (Option Reply)) (a b : ContentRecord) → TurnsFor a acts rs b →
    by_rs_in (entries_for n acts rs) ≡ commands acts
all_by_rs n [] [] a b h = refl
all_by_rs n (x ∷ acts) (r ∷ rs) a b h =
    by_rs_join (entry_if n (command_of x) r) (entries_for n acts rs)
    ∙ ap (λ (l : List Command). l ++ by_rs_in (entries_for n acts rs)) (asked_by_rs n x r a h.0 h.1)
    ∙ ap (λ (l : List Command). commands (x ∷ []) ++ l) (all_by_rs n acts rs h.0 b h.2)
    ∙ commands_join x acts
all_by_rs n [] (r ∷ rs) a b h = absurd h
all_by_rs n (x ∷ acts) [] a b h = absurd h

-- the law for one turn
abbrev RsIsAlone : ℕ → RsCommand → RsReply → Type 0
RsIsAlone n command reply = by_rs_in (entries_by n command reply) ≡ flat_map commands (actions_in reply)

ask_alone : (n : ℕ) (rs : RsRecord) (c : Command) (reply : RsReply) (old new : ContentRecord) → ClientTurn (Some rs) old c reply new →
    RsIsAlone n (Ask c) reply
ask_alone n rs c (Replied r) old new h = ap (λ (b : Bool). cond b (c ∷ []) []) h.0
ask_alone n rs c NotAllowed old new h = refl
ask_alone n rs c (Begun k l) old new h = absurd h
ask_alone n rs c Exists old new h = absurd h
ask_alone n rs c (NotBegun f) old new h = absurd h
ask_alone n rs c (Acted acts replies given) old new h = absurd h
ask_alone n rs c (Refused fault) old new h = absurd h

serve_alone : (n : ℕ) (event : Event) (tick : ℕ) (rs : RsRecord) (reply : RsReply) (old : ContentRecord) (after : Option RsRecord)
    (new : ContentRecord)
    → RsServes event tick rs old reply after new → RsIsAlone n (Tell event tick) reply
serve_alone n event tick rs (Acted acts replies given) old after new h =
    all_by_rs n acts replies old new h.1 ∙ sym (append-nil (commands acts))
serve_alone n event tick rs (Refused fault) old after new h = refl
serve_alone n event tick rs (Replied r) old after new h = absurd h
serve_alone n event tick rs NotAllowed old after new h = absurd h
serve_alone n event tick rs (Begun k l) old after new h = absurd h
serve_alone n event tick rs Exists old after new h = absurd h
serve_alone n event tick rs (NotBegun f) old after new h = absurd h

one_alone : (n : ℕ) (command : RsCommand) (reply : RsReply) (old new : PairRecord) (rs : RsRecord) → old.services ≡ Some rs →
    RsTurn old command reply new → RsIsAlone n command reply
one_alone n (Ask c) reply old new rs e h =
    ask_alone n rs c reply old.store new.store (subst (λ (o : Option RsRecord). ClientTurn o old.store c reply new.store) e h.0)
one_alone n (Begin settings next first) reply old new rs e h =
    let begins = subst (λ (o : Option RsRecord). BeginTurn o settings next first reply new.services) e h.0 in
    subst (λ (r : RsReply). RsIsAlone n (Begin settings next first) r) (sym begins.0) refl
one_alone n (Tell event tick) reply old new rs e h =
    serve_alone n event tick rs reply old.store new.services new.store
    (subst (λ (o : Option RsRecord). EventTurn event tick o old.store reply new.services new.store) e h)

asked_join : (xs ys : List (List Action)) → flat_map commands xs ++ flat_map commands ys ≡ flat_map commands (xs ++ ys)
asked_join [] ys = refl
asked_join (x ∷ xs) ys = append_assoc (commands x) (flat_map commands xs) (flat_map commands ys) ∙
    ap (λ (l : List Command). commands x ++ l) (asked_join xs ys)

pub rs_alone : RsAloneIsRs
rs_alone [] old new rs e run = refl
rs_alone (x ∷ es) old new rs e run =
    let go = one_goes x.pass x.command x.reply old run.0 rs e run.1 in
    let first = entries_by x.pass x.command x.reply in
    by_rs_join first (store_entries es)
    ∙ ap (λ (l : List Command). l ++ by_rs_in (store_entries es)) (one_alone x.pass x.command x.reply old run.0 rs e run.1)
    ∙ ap (λ (l : List Command). flat_map commands (actions_in x.reply) ++ l) (rs_alone es run.0 new go.0 go.1 run.2)
    ∙ asked_join (actions_in x.reply) (actions_by es)

-- ---- what replies settle

same_planned : {X E : Type 0} (p q : X) (x : Result (Option X) E) → x ≡ Ok (Some p) → x ≡ Ok (Some q) → p ≡ q
same_planned p q x e f = cc

planned_or_not : {X E : Type 0} (q : X) (x : Result (Option X) E) → x ≡ Ok None → x ≡ Ok (Some q) → ⊥
planned_or_not q x e f = cc

-- an event has one step
step_settles : (s : RsRecord) (event : Event) (tick : ℕ) (acts : List Action) (t u : RsRecord) → RsStep s event tick acts t →
    RsStep s event tick acts u → t ≡ u
step_settles s event tick acts t u (None, f, i, h) (None, g, j, k) = h.after ∙ sym k.after
step_settles s event tick acts t u (Some p, f, i, h) (Some q, g, j, k) =
    h.after ∙ ap (λ z. done_to s tick z) (same_planned p q (asked s event tick) i j) ∙ sym k.after
step_settles s event tick acts t u (None, f, i, h) (Some q, g, j, k) = absurd (planned_or_not q (asked s event tick) i j)
step_settles s event tick acts t u (Some p, f, i, h) (None, g, j, k) = absurd (planned_or_not p (asked s event tick) j i)

serve_settles : (event : Event) (tick : ℕ) (o : Option RsRecord) (reply : RsReply) (c d x y : ContentRecord) (a b : Option RsRecord)
    → EventTurn event tick o c reply a x → EventTurn event tick o d reply b y → a ≡ b
serve_settles event tick None reply c d x y a b h k = h.1 ∙ sym k.1
serve_settles event tick (Some rs) (Acted acts replies given) c d x y a b h k =
    let same : h.0.0 ≡ k.0.0 = step_settles rs event tick acts h.0.0 k.0.0 h.0.1 k.0.1 in
    h.0.2 ∙ ap (λ (t : RsRecord). Some t) same ∙ sym k.0.2
serve_settles event tick (Some rs) (Refused fault) c d x y a b h k = h.1 ∙ sym k.1
serve_settles event tick (Some rs) (Replied r) c d x y a b h k = absurd h
serve_settles event tick (Some rs) NotAllowed c d x y a b h k = absurd h
serve_settles event tick (Some rs) (Begun m l) c d x y a b h k = absurd h
serve_settles event tick (Some rs) Exists c d x y a b h k = absurd h
serve_settles event tick (Some rs) (NotBegun f) c d x y a b h k = absurd h

begin_settles : (o : Option RsRecord) (settings : SettingsRecord) (next first : ℕ) (reply : RsReply) (a b : Option RsRecord) →
    BeginTurn o settings next first reply a → BeginTurn o settings next first reply b → a ≡ b
begin_settles (Some rs) settings next first reply a b h k = h.1 ∙ sym k.1
begin_settles None settings next first (Begun m l) a b h k = h.3 ∙ sym k.3
begin_settles None settings next first (NotBegun new_faults.OutOfRange) a b h k = h.1 ∙ sym k.1
begin_settles None settings next first (NotBegun new_faults.NoRoom) a b h k = h.2 ∙ sym k.2
begin_settles None settings next first (Replied r) a b h k = absurd h
begin_settles None settings next first NotAllowed a b h k = absurd h
begin_settles None settings next first Exists a b h k = absurd h
begin_settles None settings next first (Acted acts replies given) a b h k = absurd h
begin_settles None settings next first (Refused fault) a b h k = absurd h

one_settles : (command : RsCommand) (reply : RsReply) (old other a b : PairRecord) → old.services ≡ other.services →
    RsTurn old command reply a → RsTurn other command reply b → a.services ≡ b.services
one_settles (Ask c) reply old other a b e h k = h.1 ∙ e ∙ sym k.1
one_settles (Begin settings next first) reply old other a b e h k =
    begin_settles other.services settings next first reply a.services b.services
    (subst (λ (o : Option RsRecord). BeginTurn o settings next first reply a.services) e h.0) k.0
one_settles (Tell event tick) reply old other a b e h k =
    serve_settles event tick other.services reply old.store other.store a.store b.store a.services b.services
    (subst (λ (o : Option RsRecord). EventTurn event tick o old.store reply a.services a.store) e h) k

services_settle : (es : List (Entry RsCommand RsReply)) (old other a b : PairRecord) → old.services ≡ other.services →
    Run RsTurn old es a → Run RsTurn other es b → a.services ≡ b.services
services_settle [] old other a b e h k = ap (λ (p : PairRecord). p.services) (sym h) ∙ e ∙ ap (λ (p : PairRecord). p.services) k
services_settle (x ∷ es) old other a b e h k =
    services_settle es h.0 k.0 a b (one_settles x.command x.reply old other h.0 k.0 e h.1 k.1) h.2 k.2

pub pairs_settle : PairsSettle
pairs_settle es old a b h k = (services_settle es old old a b refl h k, alike)
  where
    alike : StandAlike old.store a.store b.store
    alike s stands =
        let one = turns_run (store_entries es) old.store a.store (store_turns_run es old a h) s stands in
        let two = turns_run (store_entries es) old.store b.store (store_turns_run es old b k) s stands in
        let same : one.0 ≡ two.0 = histories_settle (store_entries es) s one.0 two.0 one.1 two.1 in
        (two.0, subst (ContentStands a.store) same one.2, two.2)
