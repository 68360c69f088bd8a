-- What one event leaves, and what runs of events leave.
use Rattle.std.proofs.Common.{◌≡◌, ℕ, List, [], ◌∷◌, ◌++◌, Option, Some, None, Ok, refl, ap, sym, ◌∙◌, subst, Contains}
use Rattle.std.specs.List.{slice_get}
use Rattle.std.proofs.lemmas.List.Elements.{Contains-append_left, Contains-append_right, Contains-get_or}
use Rattle.std.proofs.lemmas.Option.{slice_get_within, get_or_from_slice_get}
use Rattle.ds_names.specs.Endpoint.{EndpointRecord}
use Rattle.ds_names.specs.declared.key.Key.{Key}
use Rattle.ds_entry.specs.Change.{ChangeRecord, change_of}
use Rattle.ds_entry.specs.declared.body.Body.{Body}
use Rattle.ds_entry.specs.declared.body.Body.TheVariants as bodies
use Rattle.ds_entry.specs.declared.item.Item.TheVariants.{Change as Changed}
use Rattle.ds_entry.proofs.Members.{Contains-nil, Contains-head, Contains-from_In}
use Rattle.ds_machine.specs.declared.command.Command.TheVariants.{Merge}
use Rattle.ds_machine.specs.declared.reply.Reply.{Reply}
use Rattle.rs_core.specs.declared.action.Action.{Action}
use Rattle.rs_core.specs.declared.event.Event as services
use Rattle.rs_core.specs.Numbering.{NumbererRecord}
use Rattle.rs_core.specs.Run.{offers}
use Rattle.rs_core.specs.Says.{StepSays}
use Rattle.rs_core.specs.State.{RsRecord}
use Rattle.rs_core.proofs.SaysLemmas.{steps_say}
use Rattle.driver_tables.specs.declared.moves.Move.{Move}
use Rattle.driver_tables.specs.declared.fault.TableFault.{TableFault}
use Rattle.driver_tables.specs.declared.fault.TableFault.TheVariants as stops
use Rattle.driver_tables.specs.DriverTable.{DriverTable}
use Rattle.driver_tables.specs.Run.{Submit as SubmitCall, Reply as ReplyCall}
use Rattle.ds_replica.specs.declared.event.Side.{Side}
use Rattle.ds_replica.specs.declared.event.Event as worlds
use Rattle.ds_replica.specs.declared.event.Event.TheVariants.{Ask}
use Rattle.ds_replica.specs.declared.outcome.Outcome as outcomes
use Rattle.ds_replica.specs.declared.outcome.Outcome.TheVariants as results
use Rattle.ds_replica.specs.Happens.{HappenAll}
use Rattle.ds_replica.specs.Known.{Account, store_of, extended, extended_all}
use Rattle.ds_replica.specs.Fits.{Fits}
use Rattle.ds_replica.proofs.EventLemmas.{events_fit}
use Rattle.rs_to_store.specs.Asked.{asking_for, commands}
use Rattle.rs_to_store.specs.Following.{labels_of}
use Rattle.ds_system.specs.declared.event.Table.{Table}
use Rattle.ds_system.specs.declared.event.Table.TheVariants.{File, Net}
use Rattle.ds_system.specs.declared.event.SystemEvent.{SystemEvent}
use Rattle.ds_system.specs.declared.event.SystemEvent.TheVariants.{Service, Put, Remove, Again, World, Follow, Submit, Answered}
use Rattle.ds_system.specs.declared.outcome.SystemOutcome.{SystemOutcome}
use Rattle.ds_system.specs.declared.outcome.SystemOutcome.TheVariants.{Acted, Replied, Moved, Happened, Refused}
use Rattle.ds_system.specs.System.{System, table_at, system_with_table, followed_items}
use Rattle.ds_system.specs.Turn.{TableTurn}
use Rattle.ds_system.specs.Steps.{Steps, WorldEvents, turn_alone, asks_replied, AreProper}
use Rattle.ds_system.specs.EffectsOfTurns.{WorldDoes, Acts, WritesEntry, Repeats, Passes, LooksAtMap, IsPlain, LooksToo, FollowsBoth}
use Rattle.ds_system.specs.EffectsOfTurns.{Submits, Replies}
use Rattle.ds_system.specs.Happening.{SystemTakes, SystemDoes, SystemEntry, SystemRun, all_events}
use Rattle.ds_system.proofs.Kept.{IsKept, AreAllMade}
use Rattle.ds_system.proofs.BringLemmas.{BringsMade, asking_learns, merge_brings, actions_bring}
use Rattle.ds_system.proofs.AccountLemmas.{ask_made, allowed_made, asks_made, extended_twice}
use Rattle.ds_system.proofs.SingleLemmas.{instance_named}
use Rattle.ds_system.proofs.ActLemmas.{offered_label, act_keeps}
use Rattle.ds_system.proofs.WrittenLemmas.{IsAllowed, judged_allowed, write_keeps}
use Rattle.ds_system.proofs.TableRunLemmas.{LeadsOn, no_calls, calls_twice, one_call, follow_calls, submit_step, reply_step}

-- ---- the world's part
-- proper events of the world, which led from a system's world to another's
pub record WorldLeads (s : System) (events : WorldEvents) (t : System) : Type 0 where
  pub proper : AreProper events
  pub happen : HappenAll s.world events t.world

world_leads : (s : System) (steps : Steps) (events : WorldEvents) (t : System) → WorldDoes s steps events t → WorldLeads s steps.events t
world_leads s steps events t h = subst (λ (z : Steps). WorldLeads s z.events t) (sym h.steps_are)
    (record { proper = h.proper; happen = h.happen })

no_events : (s : System) (steps : Steps) (t : System) → steps.events ≡ [] → t.world ≡ s.world → WorldLeads s steps.events t
no_events s steps t e w = subst (λ (z : WorldEvents). WorldLeads s z t) (sym e)
    (record { proper = λ x h. absurd (Contains-nil x h); happen = w })

world_still : (s : System) (table : Table) (x : DriverTable) → (system_with_table s table x).world ≡ s.world
world_still s File x = refl
world_still s Net x = refl

no_events_of : (table : Table) (turn : TableTurn) → (turn_alone table turn).events ≡ []
no_events_of File turn = refl
no_events_of Net turn = refl

takes_leads : (s : System) (event : SystemEvent) (outcome : SystemOutcome) (steps : Steps) (t : System) →
    SystemTakes s event outcome steps t → WorldLeads s steps.events t
takes_leads s (Service event tick side) (Acted actions replies) steps t h = world_leads s steps _ t h.asked
takes_leads s (Put label key value side) (Replied reply) steps t h = world_leads s steps _ t h.asked
takes_leads s (Remove label key side) (Replied reply) steps t h = world_leads s steps _ t h.asked
takes_leads s (Again k side) (Replied reply) steps t h = world_leads s steps _ t h.asked
takes_leads s (World event) (Happened outcome) steps t h = world_leads s steps _ t h.asked
takes_leads s Follow (Moved rounds own fault) steps t h =
    no_events s steps t (ap (λ (z : Steps). z.events) h.steps_are) (ap (λ (z : System). z.world) h.system_is)
takes_leads s (Submit table id unit) (Moved rounds own fault) steps t h =
    no_events s steps t (ap (λ (z : Steps). z.events) h.steps_are ∙ no_events_of table h.turn)
    (ap (λ (z : System). z.world) h.system_is ∙ world_still s table h.turn.after)
takes_leads s (Answered table endpoint id) (Moved rounds own fault) steps t h =
    no_events s steps t (ap (λ (z : Steps). z.events) h.steps_are) (ap (λ (z : System). z.world) h.system_is ∙ world_still s table h.after)
takes_leads s event outcome steps t h = absurd h

pub event_leads : (s : System) (event : SystemEvent) (outcome : SystemOutcome) (steps : Steps) (t : System) →
    SystemDoes s event outcome steps t → WorldLeads s steps.events t
event_leads s event (Refused fault) steps t h =
    no_events s steps t (ap (λ (z : Steps). z.events) h.steps_are) (ap (λ (z : System). z.world) h.system_is)
event_leads s event (Acted a b) steps t h = takes_leads s event (Acted a b) steps t h
event_leads s event (Replied a) steps t h = takes_leads s event (Replied a) steps t h
event_leads s event (Moved a b c) steps t h = takes_leads s event (Moved a b c) steps t h
event_leads s event (Happened a) steps t h = takes_leads s event (Happened a) steps t h

-- ---- the tables' part
abbrev TablesLead : System → System → Type 0
TablesLead s t = (table : Table) → LeadsOn (table_at s table) (table_at t table)

tables_stay : (s t x : System) → t ≡ x → x.file ≡ s.file → x.net ≡ s.net → TablesLead s t
tables_stay s t x e file net File = no_calls s.file t.file (ap (λ (z : System). z.file) e ∙ file)
tables_stay s t x e file net Net = no_calls s.net t.net (ap (λ (z : System). z.net) e ∙ net)

one_leads : (s t : System) (table : Table) (u : DriverTable) → t ≡ system_with_table s table u → LeadsOn (table_at s table) u →
    TablesLead s t
one_leads s t File u e lead File = subst (LeadsOn s.file) (sym (ap (λ (z : System). z.file) e)) lead
one_leads s t File u e lead Net = no_calls s.net t.net (ap (λ (z : System). z.net) e)
one_leads s t Net u e lead Net = subst (LeadsOn s.net) (sym (ap (λ (z : System). z.net) e)) lead
one_leads s t Net u e lead File = no_calls s.file t.file (ap (λ (z : System). z.file) e)

-- a table that follows its map is led so far by calls
pub looks_lead : (s : System) (table : Table) (turn : TableTurn) → LooksAtMap s table turn → LeadsOn (table_at s table) turn.followed
looks_lead s table turn h = subst (λ (z : DriverTable). LeadsOn z turn.followed) h.before
    (follow_calls (followed_items s table) (labels_of turn.before) turn.before turn.rounds turn.stop turn.followed h.follows)

plain_leads : (s : System) (table : Table) (turn : TableTurn) → LooksAtMap s table turn → IsPlain turn →
    LeadsOn (table_at s table) turn.after
plain_leads s table turn h p = subst (LeadsOn (table_at s table)) (sym p.after) (looks_lead s table turn h)

too_leads : (s : System) (stop : Option TableFault) (net : Option TableTurn) (rounds : List (List Move)) (fault : Option TableFault)
    (after : DriverTable) → LooksToo s stop net rounds fault after → LeadsOn s.net after
too_leads s None net rounds fault after h = subst (LeadsOn s.net) (sym h.6) (plain_leads s Net h.0 h.2 h.3)
too_leads s (Some stop) net rounds fault after h = no_calls s.net after h.3

submits_lead : (followed : DriverTable) (id unit : ℕ) (stop : Option TableFault) (own : Option Move) (fault : Option TableFault)
    (after : DriverTable) → Submits followed id unit stop own fault after → LeadsOn followed after
submits_lead followed id unit (Some stop) own fault after h = no_calls followed after h.2
submits_lead followed id unit None (Some own) None after h =
    one_call followed after (SubmitCall id unit) (Ok (own ∷ [])) (submit_step followed after id unit own h)
submits_lead followed id unit None (Some own) (Some fault) after h = absurd h
submits_lead followed id unit None None None after h = absurd h
submits_lead followed id unit None None (Some stops.NoRoom) after h = no_calls followed after h.1
submits_lead followed id unit None None (Some _) after h = no_calls followed after h.1

replies_lead : (t : DriverTable) (endpoint : EndpointRecord) (id : ℕ) (own : Option Move) (fault : Option TableFault) (after : DriverTable)
    → Replies t endpoint id own fault after → LeadsOn t after
replies_lead t endpoint id (Some own) None after h =
    one_call t after (ReplyCall endpoint id) (Ok (own ∷ [])) (reply_step t after endpoint id own h)
replies_lead t endpoint id None (Some fault) after h = no_calls t after h.1
replies_lead t endpoint id (Some own) (Some fault) after h = absurd h
replies_lead t endpoint id None None after h = absurd h

both_lead : (s : System) (rounds : List (List Move)) (own : Option Move) (fault : Option TableFault) (steps : Steps) (t : System) →
    FollowsBoth s rounds own fault steps t → TablesLead s t
both_lead s rounds own fault steps t h File =
    subst (LeadsOn s.file) (sym (ap (λ (z : System). z.file) h.system_is)) (plain_leads s File h.file h.first h.plain)
both_lead s rounds own fault steps t h Net = too_leads s h.file.stop h.net h.more fault t.net h.too

takes_tables : (s : System) (event : SystemEvent) (outcome : SystemOutcome) (steps : Steps) (t : System) →
    SystemTakes s event outcome steps t → TablesLead s t
takes_tables s (Service event tick side) (Acted actions replies) steps t h = tables_stay s t _ h.system_is refl refl
takes_tables s (Put label key value side) (Replied reply) steps t h = tables_stay s t _ h.system_is refl refl
takes_tables s (Remove label key side) (Replied reply) steps t h = tables_stay s t _ h.system_is refl refl
takes_tables s (Again k side) (Replied reply) steps t h = tables_stay s t _ h.system_is refl refl
takes_tables s (World event) (Happened outcome) steps t h = tables_stay s t _ h.system_is refl refl
takes_tables s Follow (Moved rounds own fault) steps t h = both_lead s rounds own fault steps t h
takes_tables s (Submit table id unit) (Moved rounds own fault) steps t h =
    one_leads s t table h.turn.after h.system_is
    (calls_twice (table_at s table) h.turn.followed h.turn.after (looks_lead s table h.turn h.first)
    (submits_lead h.turn.followed id unit h.turn.stop h.turn.own fault h.turn.after h.submits))
takes_tables s (Answered table endpoint id) (Moved rounds own fault) steps t h =
    one_leads s t table h.after h.system_is (replies_lead (table_at s table) endpoint id own fault h.after h.replies)
takes_tables s event outcome steps t h = absurd h

pub event_tables : (s : System) (event : SystemEvent) (outcome : SystemOutcome) (steps : Steps) (t : System) →
    SystemDoes s event outcome steps t → TablesLead s t
event_tables s event (Refused fault) steps t h = tables_stay s t s h.system_is refl refl
event_tables s event (Acted a b) steps t h = takes_tables s event (Acted a b) steps t h
event_tables s event (Replied a) steps t h = takes_tables s event (Replied a) steps t h
event_tables s event (Moved a b c) steps t h = takes_tables s event (Moved a b c) steps t h
event_tables s event (Happened a) steps t h = takes_tables s event (Happened a) steps t h

-- ---- what was made, and what was brought in
-- the account fits, all that was brought in was made, and RS, the numbers and what was made keep the invariant
pub record IsSound (account : Account) (s : System) : Type 0 where
  pub fits : Fits account s.world
  pub kept : IsKept s.rs s.numberers s.made
  pub made : AreAllMade s.made account

module _ (account : Account) (s t : System) (k : IsSound account s) where
  -- nothing was made, and RS and the numbers are unchanged
  stays_kept : (x : System) → t ≡ x → x.rs ≡ s.rs → x.numberers ≡ s.numberers → x.made ≡ s.made → IsKept t.rs t.numberers t.made
  stays_kept x e rs numberers made =
      subst (λ (z : RsRecord). IsKept z t.numberers t.made) (sym (ap (λ (y : System). y.rs) e ∙ rs))
      (subst (λ (z : List NumbererRecord). IsKept s.rs z t.made) (sym (ap (λ (y : System). y.numberers) e ∙ numberers))
      (subst (IsKept s.rs s.numberers) (sym (ap (λ (y : System). y.made) e ∙ made)) k.kept))

  abbrev MadeBy : Steps → Type 0
  MadeBy steps = AreAllMade t.made (extended_all account steps.events)

  -- nothing was brought in either
  stays_made : (steps : Steps) (x : System) → steps.events ≡ [] → t ≡ x → x.made ≡ s.made → MadeBy steps
  stays_made steps x none e made = subst (λ (z : WorldEvents). AreAllMade t.made (extended_all account z)) (sym none)
      (subst (λ (z : List ChangeRecord). AreAllMade z account) (sym (ap (λ (y : System). y.made) e ∙ made)) k.made)

  module _ (event : services.Event) (tick : ℕ) (side : Side) (actions : List Action) (replies : List Reply) (steps : Steps)
      (h : Acts s event tick side actions replies steps t) where
    says : StepSays s.rs actions t.rs
    says = steps_say s.rs t.rs event tick actions h.step

    made_is : t.made ≡ s.made ++ offers actions
    made_is = ap (λ (z : System). z.made) h.system_is

    acts_kept : IsKept t.rs t.numberers t.made
    acts_kept = subst (λ (z : System). IsKept t.rs z.numberers z.made) (sym h.system_is)
        (act_keeps s.rs t.rs s.numberers s.made k.kept actions says)

    acts_made : MadeBy steps
    acts_made =
        subst (λ (z : Steps). AreAllMade t.made (extended_all account z.events)) (sym h.asked.steps_are)
        (subst (λ (z : List ChangeRecord). AreAllMade z (extended_all account (asks_replied side (commands actions) replies))) (sym made_is)
        (asks_made (s.made ++ offers actions) side (commands actions) replies account s.world t.world k.fits
        (λ c i. Contains-append_left s.made (offers actions) c (k.made c i))
        (actions_bring (s.made ++ offers actions) actions
        (λ c i. let there = Contains-from_In c (offers actions) i in (
          (offered_label s.rs t.rs s.numberers s.made k.kept actions says c there).1,
          Contains-append_right s.made (offers actions) c
              there,
        )))
        h.asked.happen))

  module _ (label : List ℕ) (key : Key) (content : Body) (side : Side) (reply : Reply) (steps : Steps)
      (h : WritesEntry s label key content side reply steps t) where
    allowed : IsAllowed s.rs label key content h.instance
    allowed = judged_allowed s.rs s.numberers label key content h.instance h.judged_is

    writes_kept : IsKept t.rs t.numberers t.made
    writes_kept = subst (λ (z : System). IsKept z.rs z.numberers z.made) (sym h.system_is)
        (write_keeps s.rs s.numberers s.made k.kept label key content h.instance allowed h.left h.number h.drawn)

    abbrev change : ChangeRecord
    change = change_of key label h.number content

    -- the command brings in the change only, in the service's name
    write_brings : BringsMade (s.made ++ change ∷ []) (store_of account side).state
        (asking_for h.instance.running.endpoint key h.number content)
    write_brings u answer step c i =
        subst (Contains (s.made ++ change ∷ []))
        (sym (asking_learns (store_of account side).state u h.instance.running.endpoint key h.number content label answer
        (λ n e. instance_named s.rs s.numberers s.made k.kept h.instance.place h.instance.running allowed.up account s.world k.fits k.made
        side n e ∙ sym allowed.label_is) step c i))
        (Contains-append_right s.made (change ∷ []) change (Contains-head change []))

    writes_made : MadeBy steps
    writes_made =
        subst (λ (z : Steps). AreAllMade t.made (extended_all account z.events)) (sym h.asked.steps_are)
        (subst (λ (z : List ChangeRecord). AreAllMade z
        (extended account (Ask side (asking_for h.instance.running.endpoint key h.number content)) (results.Replied reply)))
        (sym (ap (λ (z : System). z.made) h.system_is))
        (ask_made (s.made ++ change ∷ []) account s.world h.asked.happen.0 side
        (asking_for h.instance.running.endpoint key h.number content) reply k.fits
        (λ c i. Contains-append_left s.made (change ∷ []) c (k.made c i)) write_brings h.asked.happen.1))

  there_made : (made : List ChangeRecord) (n : ℕ) (c : ChangeRecord) → slice_get made n ≡ Some c → Contains made c
  there_made made n c e = subst (Contains made) (get_or_from_slice_get made n c c e)
      (Contains-get_or made n c (slice_get_within made n c e))

  repeats_made : (n : ℕ) (side : Side) (reply : Reply) (steps : Steps) → Repeats s n side reply steps t → MadeBy steps
  repeats_made n side reply steps h =
      subst (λ (z : Steps). AreAllMade t.made (extended_all account z.events)) (sym h.asked.steps_are)
      (subst (λ (z : List ChangeRecord). AreAllMade z
      (extended account (Ask side (Merge (Changed h.change ∷ []))) (results.Replied reply))) (sym (ap (λ (z : System). z.made) h.system_is))
      (ask_made s.made account s.world h.asked.happen.0 side (Merge (Changed h.change ∷ [])) reply k.fits k.made
      (merge_brings s.made h.change (there_made s.made n h.change h.there) (store_of account side).state) h.asked.happen.1))

  passes_made : (event : worlds.Event) (outcome : outcomes.Outcome) (steps : Steps) → Passes s event outcome steps t → MadeBy steps
  passes_made event outcome steps h =
      subst (λ (z : Steps). AreAllMade t.made (extended_all account z.events)) (sym h.asked.steps_are)
      (subst (λ (z : List ChangeRecord). AreAllMade z (extended account event outcome)) (sym (ap (λ (z : System). z.made) h.system_is))
      (allowed_made s.made account event outcome h.allowed k.made))

  abbrev Goes : Steps → Type 0
  Goes steps = IsKept t.rs t.numberers t.made × MadeBy steps

  one_kept : (table : Table) (x : DriverTable) (steps : Steps) → steps.events ≡ [] → t ≡ system_with_table s table x → Goes steps
  one_kept File x steps none e = (stays_kept _ e refl refl refl, stays_made steps _ none e refl)
  one_kept Net x steps none e = (stays_kept _ e refl refl refl, stays_made steps _ none e refl)

  takes_goes : (event : SystemEvent) (outcome : SystemOutcome) (steps : Steps) → SystemTakes s event outcome steps t → Goes steps
  takes_goes (Service event tick side) (Acted actions replies) steps h =
      (acts_kept event tick side actions replies steps h, acts_made event tick side actions replies steps h)
  takes_goes (Put label key value side) (Replied reply) steps h =
      (writes_kept label key (bodies.Put value) side reply steps h, writes_made label key (bodies.Put value) side reply steps h)
  takes_goes (Remove label key side) (Replied reply) steps h =
      (writes_kept label key bodies.Gone side reply steps h, writes_made label key bodies.Gone side reply steps h)
  takes_goes (Again n side) (Replied reply) steps h = (stays_kept _ h.system_is refl refl refl, repeats_made n side reply steps h)
  takes_goes (World event) (Happened outcome) steps h = (stays_kept _ h.system_is refl refl refl, passes_made event outcome steps h)
  takes_goes Follow (Moved rounds own fault) steps h =
      (stays_kept _ h.system_is refl refl refl, stays_made steps _ (ap (λ (z : Steps). z.events) h.steps_are) h.system_is refl)
  takes_goes (Submit table id unit) (Moved rounds own fault) steps h =
      one_kept table h.turn.after steps (ap (λ (z : Steps). z.events) h.steps_are ∙ no_events_of table h.turn) h.system_is
  takes_goes (Answered table endpoint id) (Moved rounds own fault) steps h =
      one_kept table h.after steps (ap (λ (z : Steps). z.events) h.steps_are) h.system_is
  takes_goes event outcome steps h = absurd h

  does_goes : (event : SystemEvent) (outcome : SystemOutcome) (steps : Steps) → SystemDoes s event outcome steps t → Goes steps
  does_goes event (Refused fault) steps h =
      (stays_kept s h.system_is refl refl refl, stays_made steps s (ap (λ (z : Steps). z.events) h.steps_are) h.system_is refl)
  does_goes event (Acted a b) steps h = takes_goes event (Acted a b) steps h
  does_goes event (Replied a) steps h = takes_goes event (Replied a) steps h
  does_goes event (Moved a b c) steps h = takes_goes event (Moved a b c) steps h
  does_goes event (Happened a) steps h = takes_goes event (Happened a) steps h

  pub event_sound : (event : SystemEvent) (outcome : SystemOutcome) (steps : Steps) → SystemDoes s event outcome steps t →
      IsSound (extended_all account steps.events) t
  event_sound event outcome steps h =
      let goes = does_goes event outcome steps h in
      record {
        fits = events_fit account s.world t.world steps.events k.fits (event_leads s event outcome steps t h).happen;
        kept = goes.0;
        made =
            goes.1;
      }

-- ---- all events
pub run_sound : (account : Account) (s : System) (entries : List SystemEntry) (t : System) → IsSound account s → SystemRun s entries t →
    IsSound (extended_all account (all_events entries)) t
run_sound account s [] t k run = subst (IsSound account) run k
run_sound account s (e ∷ es) t k run =
    subst (λ (z : Account). IsSound z t) (sym (extended_twice account e.steps.events (all_events es)))
    (run_sound (extended_all account e.steps.events) run.0 es t (event_sound account s run.0 k e.event e.outcome e.steps run.1) run.2)

pub run_tables : (s : System) (entries : List SystemEntry) (t : System) → SystemRun s entries t → (table : Table) →
    LeadsOn (table_at s table) (table_at t table)
run_tables s [] t run table = no_calls (table_at s table) (table_at t table) (ap (λ (z : System). table_at z table) (sym run))
run_tables s (e ∷ es) t run table = calls_twice (table_at s table) (table_at run.0 table) (table_at t table)
    (event_tables s e.event e.outcome e.steps run.0 run.1 table) (run_tables run.0 es t run.2 table)
