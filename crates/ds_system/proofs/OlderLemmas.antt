-- No send to an older generation, over every list of events of a system.
use Rattle.std.proofs.Common.{◌≡◌, ℕ, ◌≤◌, true, List, [], ◌∷◌, ◌++◌, Option, Some, None, is_some, refl, ap, sym, ◌∙◌, subst, inl, inr}
use Rattle.std.proofs.Common.{arith, append-nil}
use Rattle.std.proofs.lemmas.Grind.{flat_map-append}
use Rattle.std.proofs.lemmas.List.Elements.{Contains-append_cases}
use Rattle.ds_names.specs.Endpoint.{EndpointRecord}
use Rattle.ds_names.specs.Key.{label_key}
use Rattle.ds_names.specs.Kind.{is_label}
use Rattle.ds_names.specs.declared.key.Key.{Key}
use Rattle.ds_names.proofs.Tests.{opposed}
use Rattle.ds_entry.specs.Change.{ChangeRecord}
use Rattle.ds_entry.specs.Left.{endpoint_in}
use Rattle.ds_entry.specs.declared.item.Item.TheVariants.{Change as Changed}
use Rattle.ds_entry.proofs.Members.{Contains-nil}
use Rattle.ds_held.specs.Limits.{larger}
use Rattle.ds_held.proofs.MergeLemmas.{no_some}
use Rattle.ds_machine.proofs.PartLemmas.{key_found}
use Rattle.driver_tables.specs.declared.moves.Move.{Move}
use Rattle.driver_tables.specs.declared.fault.TableFault.{TableFault}
use Rattle.driver_tables.specs.declared.fault.TableFault.TheVariants as stops
use Rattle.driver_tables.specs.DriverTable.{DriverTable, empty_table}
use Rattle.ds_replica.specs.declared.event.Holder.TheVariants.{Map}
use Rattle.ds_replica.specs.Known.{Account, new_account, extended_all}
use Rattle.ds_replica.proofs.HolderLemmas.{held_within}
use Rattle.ds_system.specs.declared.event.Table.{Table}
use Rattle.ds_system.specs.declared.event.Table.TheVariants.{File, Net}
use Rattle.ds_system.specs.declared.event.SystemEvent.{SystemEvent}
use Rattle.ds_system.specs.declared.event.SystemEvent.TheVariants.{Service, Put, Remove, Again, World, Follow, Submit, Answered}
use Rattle.ds_system.specs.declared.outcome.SystemOutcome.{SystemOutcome}
use Rattle.ds_system.specs.declared.outcome.SystemOutcome.TheVariants.{Acted, Replied, Moved, Happened, Refused}
use Rattle.ds_system.specs.System.{System, table_at, system_with_table, map_number, followed_items}
use Rattle.ds_system.specs.Turn.{TableTurn, request_moves, turn_moves}
use Rattle.ds_system.specs.Steps.{Steps, WorldEvents, turn_alone, turn_in}
use Rattle.ds_system.specs.EffectsOfTurns.{WorldDoes, LooksAtMap, IsPlain, LooksToo, FollowsBoth, Submits, FollowsAndSubmits}
use Rattle.ds_system.specs.Happening.{SystemTakes, SystemDoes, SystemEntry, SystemRun}
use Rattle.ds_system.specs.Refusals.{IsSystemRefused}
use Rattle.ds_system.specs.Start.{two_maps, account_since}
use Rattle.ds_system.specs.Laws.{IsCalled}
use Rattle.ds_system.specs.Sending.{Sending, sendings, sent_by_turn, sent_over, is_look, must_look, is_whole, moves_told, moves_had}
use Rattle.ds_system.specs.Sending.{IsRightTurn, NoSendToOlder}
use Rattle.ds_system.proofs.Kept.{IsMade}
use Rattle.ds_system.proofs.SingleLemmas.{entry_no_label}
use Rattle.ds_system.proofs.CutLemmas.{moves_of_rounds}
use Rattle.ds_system.proofs.NewsLemmas.{same_some}
use Rattle.ds_system.proofs.TableRunLemmas.{LeadsOn, calls_twice, calls_rise}
use Rattle.ds_system.proofs.RightLemmas.{TakesOwn, TellsGenerations, HasSeen, turn_right, turn_seen}
use Rattle.ds_system.proofs.EventLemmas.{IsSound, event_tables, event_sound, run_sound, run_tables}
use Rattle.ds_system.proofs.LawLemmas.{new_sound, new_called}

-- ---- the turns of an event
-- the turn is a table's between two systems
record IsTurnOf (s : System) (outcome : SystemOutcome) (table : Table) (turn : TableTurn) (t : System) : Type 0 where
  looks : LooksAtMap s table turn
  own : TakesOwn turn.followed turn.stop turn.own turn.after
  after : turn.after ≡ table_at t table
  whole : is_whole outcome ≡ true → turn.stop ≡ None

abbrev HasTurns : System → SystemOutcome → Steps → System → Type 0
HasTurns s outcome steps t = (table : Table) (turn : TableTurn) → turn_in steps table ≡ Some turn → IsTurnOf s outcome table turn t

no_turns : (s : System) (outcome : SystemOutcome) (steps : Steps) (t : System) → steps.file ≡ None → steps.net ≡ None →
    HasTurns s outcome steps t
no_turns s outcome steps t file net File turn e = no_some turn (sym file ∙ e)
no_turns s outcome steps t file net Net turn e = no_some turn (sym net ∙ e)

world_turns : (s : System) (outcome : SystemOutcome) (steps : Steps) (events : WorldEvents) (t : System) → WorldDoes s steps events t →
    HasTurns s outcome steps t
world_turns s outcome steps events t h = no_turns s outcome steps t (ap (λ (z : Steps). z.file) h.steps_are)
    (ap (λ (z : Steps). z.net) h.steps_are)

plain_own : (turn : TableTurn) → IsPlain turn → TakesOwn turn.followed turn.stop turn.own turn.after
plain_own turn p = subst (λ (z : Option Move). TakesOwn turn.followed turn.stop z turn.after) (sym p.none) p.after

submits_own : (followed : DriverTable) (id unit : ℕ) (stop : Option TableFault) (own : Option Move) (fault : Option TableFault)
    (after : DriverTable) → Submits followed id unit stop own fault after → TakesOwn followed stop own after
submits_own followed id unit (Some stop) own fault after h =
    subst (λ (z : Option Move). TakesOwn followed (Some stop) z after) (sym h.0) h.2
submits_own followed id unit None (Some own) None after h = (id, unit, h)
submits_own followed id unit None (Some own) (Some fault) after h = absurd h
submits_own followed id unit None None None after h = absurd h
submits_own followed id unit None None (Some stops.NoRoom) after h = h.1
submits_own followed id unit None None (Some _) after h = h.1

-- a request's event that nothing ended has a follow that nothing ended
submits_whole : (followed : DriverTable) (id unit : ℕ) (stop : Option TableFault) (own : Option Move) (fault : Option TableFault)
    (after : DriverTable) → Submits followed id unit stop own fault after → fault ≡ None → stop ≡ None
submits_whole followed id unit None own fault after h e = refl
submits_whole followed id unit (Some stop) own fault after h e = no_some stop (sym e ∙ h.1)

whole_is : (rounds : List (List Move)) (own : Option Move) (fault : Option TableFault) → is_whole (Moved rounds own fault) ≡ true →
    fault ≡ None
whole_is rounds own None e = refl
whole_is rounds own (Some fault) e = cc

both_turns : (s : System) (rounds : List (List Move)) (own : Option Move) (fault : Option TableFault) (steps : Steps) (t : System) →
    FollowsBoth s rounds own fault steps t → HasTurns s (Moved rounds own fault) steps t
both_turns s rounds own fault steps t h File turn e =
    subst (λ (z : TableTurn). IsTurnOf s (Moved rounds own fault) File z t)
    (same_some h.file turn (sym (ap (λ (z : Steps). z.file) h.steps_are) ∙ e)) (record {
      looks = h.first;
      own = plain_own h.file h.plain;
      after = sym (ap (λ (z : System). z.file) h.system_is);
      whole = λ w. stop_of h.file.stop refl h.too (whole_is rounds own fault w);
    })
  where
    stop_of : (stop : Option TableFault) → h.file.stop ≡ stop → LooksToo s stop h.net h.more fault t.net → fault ≡ None → h.file.stop ≡ None
    stop_of None q too none = q
    stop_of (Some stop) q too none = no_some stop (sym none ∙ too.2)
both_turns s rounds own fault steps t h Net turn e = by h.file.stop h.too
  where
    net_is : h.net ≡ Some turn
    net_is = sym (ap (λ (z : Steps). z.net) h.steps_are) ∙ e

    by : (stop : Option TableFault) → LooksToo s stop h.net h.more fault t.net → IsTurnOf s (Moved rounds own fault) Net turn t
    by None too = subst (λ (z : TableTurn). IsTurnOf s (Moved rounds own fault) Net z t) (same_some too.0 turn (sym too.1 ∙ net_is))
        (record {
          looks = too.2;
          own = plain_own too.0 too.3;
          after = sym too.6;
          whole = λ w. sym too.5 ∙ whole_is rounds own fault w;
        })
    by (Some stop) too = no_some turn (sym too.0 ∙ net_is)

alone_is : (of table : Table) (one turn : TableTurn) → turn_in (turn_alone of one) table ≡ Some turn → (of ≡ table) × (one ≡ turn)
alone_is File File one turn e = (refl, same_some one turn e)
alone_is Net Net one turn e = (refl, same_some one turn e)
alone_is File Net one turn e = no_some turn e
alone_is Net File one turn e = no_some turn e

at_with : (s : System) (table : Table) (u : DriverTable) → table_at (system_with_table s table u) table ≡ u
at_with s File u = refl
at_with s Net u = refl

submit_turns : (s : System) (of : Table) (id unit : ℕ) (rounds : List (List Move)) (own : Option Move) (fault : Option TableFault)
    (steps : Steps) (t : System) → FollowsAndSubmits s of id unit rounds own fault steps t
    → HasTurns s (Moved rounds own fault) steps t
submit_turns s of id unit rounds own fault steps t h table turn e =
    let is = alone_is of table h.turn turn (ap (λ (z : Steps). turn_in z table) (sym h.steps_are) ∙ e) in
    subst (λ (z : Table). IsTurnOf s (Moved rounds own fault) z turn t) is.0
    (subst (λ (z : TableTurn). IsTurnOf s (Moved rounds own fault) of z t) is.1 (record {
      looks = h.first;
      own = submits_own h.turn.followed id unit h.turn.stop h.turn.own fault h.turn.after h.submits;
      after = sym (ap (λ (z : System). table_at z of) h.system_is ∙ at_with s of h.turn.after);
      whole = λ w. submits_whole h.turn.followed id unit h.turn.stop h.turn.own fault h.turn.after h.submits (whole_is rounds own fault w);
    }))

takes_turns : (s : System) (event : SystemEvent) (outcome : SystemOutcome) (steps : Steps) (t : System) →
    SystemTakes s event outcome steps t → HasTurns s outcome steps t
takes_turns s (Service event tick side) (Acted actions replies) steps t h = world_turns s (Acted actions replies) steps _ t h.asked
takes_turns s (Put label key value side) (Replied reply) steps t h = world_turns s (Replied reply) steps _ t h.asked
takes_turns s (Remove label key side) (Replied reply) steps t h = world_turns s (Replied reply) steps _ t h.asked
takes_turns s (Again k side) (Replied reply) steps t h = world_turns s (Replied reply) steps _ t h.asked
takes_turns s (World event) (Happened outcome) steps t h = world_turns s (Happened outcome) steps _ t h.asked
takes_turns s Follow (Moved rounds own fault) steps t h = both_turns s rounds own fault steps t h
takes_turns s (Submit table id unit) (Moved rounds own fault) steps t h = submit_turns s table id unit rounds own fault steps t h
takes_turns s (Answered table endpoint id) (Moved rounds own fault) steps t h =
    no_turns s (Moved rounds own fault) steps t (ap (λ (z : Steps). z.file) h.steps_are) (ap (λ (z : Steps). z.net) h.steps_are)
takes_turns s event outcome steps t h = absurd h

event_turns : (s : System) (event : SystemEvent) (outcome : SystemOutcome) (steps : Steps) (t : System) →
    SystemDoes s event outcome steps t → HasTurns s outcome steps t
event_turns s event (Refused fault) steps t h =
    no_turns s (Refused fault) steps t (ap (λ (z : Steps). z.file) h.steps_are) (ap (λ (z : Steps). z.net) h.steps_are)
event_turns s event (Acted a b) steps t h = takes_turns s event (Acted a b) steps t h
event_turns s event (Replied a) steps t h = takes_turns s event (Replied a) steps t h
event_turns s event (Moved a b c) steps t h = takes_turns s event (Moved a b c) steps t h
event_turns s event (Happened a) steps t h = takes_turns s event (Happened a) steps t h

-- ---- what an outcome reports of them
plain_moves : (turn : TableTurn) → IsPlain turn → turn_moves turn ≡ moves_of_rounds turn.rounds
plain_moves turn p = ap (λ (z : Option Move). moves_of_rounds turn.rounds ++ request_moves z) p.none ∙
    append-nil (moves_of_rounds turn.rounds)

both_told : (s : System) (rounds : List (List Move)) (own : Option Move) (fault : Option TableFault) (steps : Steps) (t : System) →
    FollowsBoth s rounds own fault steps t
    → moves_told (Moved rounds own fault) ≡ moves_had steps.file ++ moves_had steps.net
both_told s rounds own fault steps t h =
    ap (λ (z : Option Move). moves_of_rounds rounds ++ request_moves z) h.none ∙ append-nil (moves_of_rounds rounds)
    ∙ ap moves_of_rounds h.rounds_are ∙ flat_map-append (λ (moves : List Move). moves) h.file.rounds h.more
    ∙ ap (λ (z : List Move). z ++ moves_of_rounds h.more) (sym (plain_moves h.file h.plain))
    ∙ ap (λ (z : List Move). turn_moves h.file ++ z) (net_told h.file.stop h.too)
    ∙ sym (ap (λ (z : Steps). moves_had z.file ++ moves_had z.net) h.steps_are)
  where
    net_told : (stop : Option TableFault) → LooksToo s stop h.net h.more fault t.net → moves_of_rounds h.more ≡ moves_had h.net
    net_told None too = ap moves_of_rounds too.4 ∙ sym (plain_moves too.0 too.3) ∙ sym (ap moves_had too.1)
    net_told (Some stop) too = ap moves_of_rounds too.1 ∙ sym (ap moves_had too.0)

alone_had : (table : Table) (turn : TableTurn) →
    turn_moves turn ≡ moves_had (turn_alone table turn).file ++ moves_had (turn_alone table turn).net
alone_had File turn = sym (append-nil (turn_moves turn))
alone_had Net turn = refl

takes_told : (s : System) (event : SystemEvent) (outcome : SystemOutcome) (steps : Steps) (t : System) →
    SystemTakes s event outcome steps t → is_look event ≡ true → moves_told outcome ≡ moves_had steps.file ++ moves_had steps.net
takes_told s Follow (Moved rounds own fault) steps t h e = both_told s rounds own fault steps t h
takes_told s (Submit table id unit) (Moved rounds own fault) steps t h e =
    ap (λ (z : List (List Move)). moves_of_rounds z ++ request_moves own) h.rounds_are ∙
    ap (λ (z : Option Move). moves_of_rounds h.turn.rounds ++ request_moves z) h.own_is
    ∙ alone_had table h.turn ∙ sym (ap (λ (z : Steps). moves_had z.file ++ moves_had z.net) h.steps_are)
takes_told s (Service event tick side) (Acted actions replies) steps t h e = cc
takes_told s (Put label key value side) (Replied reply) steps t h e = cc
takes_told s (Remove label key side) (Replied reply) steps t h e = cc
takes_told s (Again k side) (Replied reply) steps t h e = cc
takes_told s (World event) (Happened outcome) steps t h e = cc
takes_told s (Answered table endpoint id) (Moved rounds own fault) steps t h e = cc
takes_told s event outcome steps t h e = absurd h

event_told : (s : System) (event : SystemEvent) (outcome : SystemOutcome) (steps : Steps) (t : System) →
    SystemDoes s event outcome steps t → is_look event ≡ true → moves_told outcome ≡ moves_had steps.file ++ moves_had steps.net
event_told s event (Refused fault) steps t h e = sym (ap (λ (z : Steps). moves_had z.file ++ moves_had z.net) h.steps_are)
event_told s event (Acted a b) steps t h e = takes_told s event (Acted a b) steps t h e
event_told s event (Replied a) steps t h e = takes_told s event (Replied a) steps t h e
event_told s event (Moved a b c) steps t h e = takes_told s event (Moved a b c) steps t h e
event_told s event (Happened a) steps t h e = takes_told s event (Happened a) steps t h e

-- ---- which tables have a turn
abbrev HaveLooked : SystemEvent → SystemOutcome → Steps → Type 0
HaveLooked event outcome steps = (table : Table) → must_look event outcome table ≡ true → is_some (turn_in steps table) ≡ true

both_looked : (s : System) (rounds : List (List Move)) (own : Option Move) (fault : Option TableFault) (steps : Steps) (t : System) →
    FollowsBoth s rounds own fault steps t → HaveLooked Follow (Moved rounds own fault) steps
both_looked s rounds own fault steps t h File e = ap (λ (z : Steps). is_some z.file) h.steps_are
both_looked s rounds own (Some fault) steps t h Net e = cc
both_looked s rounds own None steps t h Net e = ap (λ (z : Steps). is_some z.net) h.steps_are ∙ by h.file.stop h.too
  where
    by : (stop : Option TableFault) → LooksToo s stop h.net h.more None t.net → is_some h.net ≡ true
    by None too = ap is_some too.1
    by (Some stop) too = no_some stop too.2

submit_looked : (s : System) (of : Table) (id unit : ℕ) (rounds : List (List Move)) (own : Option Move) (fault : Option TableFault)
    (steps : Steps) (t : System) → FollowsAndSubmits s of id unit rounds own fault steps t
    → HaveLooked (Submit of id unit) (Moved rounds own fault) steps
submit_looked s File id unit rounds own fault steps t h File e = ap (λ (z : Steps). is_some z.file) h.steps_are
submit_looked s Net id unit rounds own fault steps t h Net e = ap (λ (z : Steps). is_some z.net) h.steps_are
submit_looked s File id unit rounds own fault steps t h Net e = cc
submit_looked s Net id unit rounds own fault steps t h File e = cc

takes_looked : (s : System) (event : SystemEvent) (outcome : SystemOutcome) (steps : Steps) (t : System) →
    SystemTakes s event outcome steps t → HaveLooked event outcome steps
takes_looked s Follow (Moved rounds own fault) steps t h = both_looked s rounds own fault steps t h
takes_looked s (Submit table id unit) (Moved rounds own fault) steps t h = submit_looked s table id unit rounds own fault steps t h
takes_looked s (Service event tick side) (Acted actions replies) steps t h = λ table e. cc
takes_looked s (Put label key value side) (Replied reply) steps t h = λ table e. cc
takes_looked s (Remove label key side) (Replied reply) steps t h = λ table e. cc
takes_looked s (Again k side) (Replied reply) steps t h = λ table e. cc
takes_looked s (World event) (Happened outcome) steps t h = λ table e. cc
takes_looked s (Answered of endpoint id) (Moved rounds own fault) steps t h = λ table e. cc
takes_looked s event outcome steps t h = absurd h

-- neither a Follow nor a Submit is refused as a whole
event_looked : (s : System) (event : SystemEvent) (outcome : SystemOutcome) (steps : Steps) (t : System) →
    SystemDoes s event outcome steps t → HaveLooked event outcome steps
event_looked s event (Refused fault) steps t h = by event h.refused
  where
    by : (event : SystemEvent) → IsSystemRefused s event fault → HaveLooked event (Refused fault) steps
    by Follow r = absurd r
    by (Submit table id unit) r = absurd r
    by (Service of tick side) r = λ table e. cc
    by (Put label key value side) r = λ table e. cc
    by (Remove label key side) r = λ table e. cc
    by (Again k side) r = λ table e. cc
    by (World of) r = λ table e. cc
    by (Answered of endpoint id) r = λ table e. cc
event_looked s event (Acted a b) steps t h = takes_looked s event (Acted a b) steps t h
event_looked s event (Replied a) steps t h = takes_looked s event (Replied a) steps t h
event_looked s event (Moved a b c) steps t h = takes_looked s event (Moved a b c) steps t h
event_looked s event (Happened a) steps t h = takes_looked s event (Happened a) steps t h

-- ---- what a system's maps hold
tells : (account : Account) (s : System) → IsSound account s → (table : Table) → TellsGenerations (followed_items s table)
tells account s k table label c e q is =
    let f = key_found (followed_items s table) (label_key label) c q in
    by f.1 (k.kept.each c (k.made c (held_within account s.world k.fits (Map (map_number table)) (Changed c) f.0)))
  where
    by : label_key label ≡ c.key → IsMade s.rs.settings s.rs.next s.numberers c → c.version.epoch ≡ e.generation
    by key (inl p) = ap (λ (z : ChangeRecord). z.version.epoch) p.is ∙
        ap (λ (z : EndpointRecord). z.generation) (same_some p.endpoint e (sym (ap (λ (z : ChangeRecord). endpoint_in z.body) p.is) ∙ is))
    by key (inr (inl g)) = no_some e (sym (ap (λ (z : ChangeRecord). endpoint_in z.body) g.is) ∙ is)
    by key (inr (inr d)) = opposed (is_label c.key.kind) (ap (λ (z : Key). is_label z.kind) (sym key))
        (entry_no_label s.rs.settings s.numberers c d)

-- ---- over all events
module _ (account : Account) (s : System) (k : IsSound account s) (table : Table) (came : IsCalled (table_at s table)) where
  came_before : (turn : TableTurn) → LooksAtMap s table turn → IsCalled turn.before
  came_before turn h = subst IsCalled (sym h.before) came

  module _ (outcome : SystemOutcome) (turn : TableTurn) (t : System) (h : IsTurnOf s outcome table turn t) where
    right_of : (earlier : List Sending) → HasSeen (table_at s table) earlier → IsRightTurn s outcome table turn earlier t
    right_of earlier seen = record {
      before = h.looks.before;
      after = h.after;
      right = turn_right (followed_items s table) (tells account s k table) turn (came_before turn h.looks) h.looks.follows h.own earlier
          (subst (λ (z : DriverTable). HasSeen z earlier) (sym h.looks.before) seen);
      whole = h.whole;
    }

    seen_of : HasSeen (table_at t table) (sendings turn.after (turn_moves turn))
    seen_of = subst (λ (z : DriverTable). HasSeen z (sendings turn.after (turn_moves turn))) h.after
        (turn_seen (followed_items s table) (tells account s k table) turn (came_before turn h.looks) h.looks.follows h.own)

seen_later : (t u : DriverTable) (sent : List Sending) → LeadsOn t u → HasSeen t sent → HasSeen u sent
seen_later t u sent led seen x h = let one = seen x h in let two = calls_rise t u x.label led one.0 one.1 in
    (two.0, two.1, less one.2 two.2)
  where
    less : {a b c : ℕ} → a ≤ b → b ≤ c → a ≤ c
    less l m = omega arith

-- a table knows the generations of all that it sent
sent_seen : (table : Table) (account : Account) (s : System) (entries : List SystemEntry) (t : System) → IsSound account s →
    IsCalled (table_at s table) → SystemRun s entries t → HasSeen (table_at t table) (sent_over entries table)
sent_seen table account s [] t k came run x h = absurd (Contains-nil x h)
sent_seen table account s (e ∷ es) t k came run x h =
    elim (Contains-append_cases (sent_by_turn (turn_in e.steps table)) (sent_over es table) x h) [
      | inl i ↦ seen_later (table_at run.0 table) (table_at t table) (sent_by_turn (turn_in e.steps table))
          (run_tables run.0 es t run.2 table)
          (by (turn_in e.steps table) refl) x i
      | inr i ↦ sent_seen table (extended_all account e.steps.events) run.0 es t
          (event_sound account s run.0 k e.event e.outcome e.steps run.1)
          (calls_twice empty_table (table_at s table) (table_at run.0 table) came
          (event_tables s e.event e.outcome e.steps run.0 run.1 table))
          run.2 x i
    ]
  where
    by : (o : Option TableTurn) → turn_in e.steps table ≡ o → HasSeen (table_at run.0 table) (sent_by_turn o)
    by None q = λ y j. absurd (Contains-nil y j)
    by (Some turn) q = seen_of account s k table came e.outcome turn run.0
        (event_turns s e.event e.outcome e.steps run.0 run.1 table turn q)

pub no_send_to_older : NoSendToOlder
no_send_to_older settings a b next s t u entries entry new run done = record {
  told = event_told t entry.event entry.outcome entry.steps u done;
  had = event_looked t entry.event entry.outcome entry.steps u done;
  each = λ table turn q. right_of (account_since a b entries) t now table (came table) entry.outcome turn u
      (event_turns t entry.event entry.outcome entry.steps u done table turn q) (sent_over entries table)
      (sent_seen table start s entries t first (new_called settings a b next s new table) run);
}
  where
    start : Account
    start = extended_all (new_account a b larger) two_maps

    first : IsSound start s
    first = new_sound settings a b next s new

    now : IsSound (account_since a b entries) t
    now = run_sound start s entries t first run

    came : (table : Table) → IsCalled (table_at t table)
    came table = calls_twice empty_table (table_at s table) (table_at t table) (new_called settings a b next s new table)
        (run_tables s entries t run table)
