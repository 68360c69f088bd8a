-- After a follow, the driver of each unit is the instance that runs, and each pending request was last sent to it.
use Rattle.std.proofs.Common.{◌≡◌, ◌==◌, ◌&&◌, ◌||◌, ℕ, ◌<◌, ◌≤◌, nat_lt, Bool, true, false, not, List, [], ◌∷◌, ◌++◌, length, Option}
use Rattle.std.proofs.Common.{Some, None, is_some, refl, ap, sym, ◌∙◌, subst, inl, inr, ◌⊎◌, arith, Contains, eq-eqb}
use Rattle.std.specs.List.{AllByRecursion, AllZip}
use Rattle.std.proofs.lemmas.Bool.{and_parts}
use Rattle.std.proofs.lemmas.Bool.Decides.{nat_tests}
use Rattle.ds_names.specs.Endpoint.{EndpointRecord}
use Rattle.ds_names.specs.Key.{label_key}
use Rattle.ds_names.specs.Kind.{is_label}
use Rattle.ds_names.specs.Name.{IsName}
use Rattle.ds_names.proofs.Tests.{opposed}
use Rattle.ds_entry.specs.Change.{ChangeRecord}
use Rattle.ds_entry.specs.Item.{passes}
use Rattle.ds_entry.specs.ItemCovers.{covers}
use Rattle.ds_entry.specs.Left.{endpoint_in}
use Rattle.ds_entry.specs.declared.item.Item.{Item}
use Rattle.ds_entry.specs.declared.item.Item.TheVariants.{Change as Changed, Floor as Floored}
use Rattle.ds_entry.proofs.CoversLemmas.{covers-key, covers-version}
use Rattle.ds_entry.proofs.ItemLemmas.{covers-trans, covers-query, voids-is}
use Rattle.ds_entry.proofs.Members.{In-from_Contains, Contains-from_filter}
use Rattle.ds_entry.proofs.OrderedLemmas.{from_along}
use Rattle.ds_machine.specs.Parts.{held_at}
use Rattle.ds_machine.proofs.PartLemmas.{key_found, key_missing, one_change}
use Rattle.rs_settings.specs.Settings.{SettingsRecord}
use Rattle.rs_core.specs.declared.action.Action.{Action}
use Rattle.rs_core.specs.declared.event.Event.TheVariants.{Tick}
use Rattle.rs_core.specs.declared.state.State.TheVariants.{Up}
use Rattle.rs_core.specs.declared.state.Running.{Running}
use Rattle.rs_core.specs.Action.{label_put, label_gone}
use Rattle.rs_core.specs.Says.{label_at}
use Rattle.rs_core.specs.Settling.{Ticks, due_count, IsSettledState}
use Rattle.rs_core.specs.State.{RsRecord, state_at, no_service}
use Rattle.rs_core.specs.Step.{RsStep}
use Rattle.rs_core.proofs.SaysLemmas.{steps_say}
use Rattle.rs_core.proofs.SettlingLemmas.{ticks_settle}
use Rattle.history.proofs.RunLemmas.{path_join}
use Rattle.driver_tables.specs.declared.moves.Ending.{Ending}
use Rattle.driver_tables.specs.Driver.{Driver, has_label}
use Rattle.driver_tables.specs.DriverTable.{DriverTable, empty_table, is_pending, is_empty, values_of}
use Rattle.driver_tables.specs.Label.{endpoint_now, newest, is_same_state, is_old, is_old_for}
use Rattle.driver_tables.specs.Reached.{IsRequestServed, IsTableReached}
use Rattle.driver_tables.proofs.RunLemmas.{reached}
use Rattle.driver_tables.proofs.TestLemmas.{equal_number}
use Rattle.ds_replica.specs.declared.seed.Seed.{Seed}
use Rattle.ds_replica.specs.declared.event.Holder.TheVariants.{Store, Map}
use Rattle.ds_replica.specs.Known.{Account, known_at}
use Rattle.ds_replica.specs.World.{held_by}
use Rattle.ds_replica.proofs.FitLemmas.{store_fits}
use Rattle.ds_replica.proofs.HolderLemmas.{held_within, top_at, holds_at_least}
use Rattle.ds_replica.proofs.LabelLemmas.{at_most-means}
use Rattle.ds_replica.proofs.SentLemmas.{Contains-under}
use Rattle.ds_pattern.specs.Under.{is_under}
use Rattle.ds_system.specs.declared.event.Table.{Table}
use Rattle.ds_system.specs.System.{System, table_at, map_number, followed_items}
use Rattle.ds_system.specs.Turn.{TableTurn}
use Rattle.ds_system.specs.Steps.{Steps, turn_in}
use Rattle.ds_system.specs.declared.event.Table.TheVariants.{File, Net}
use Rattle.ds_system.specs.declared.event.SystemEvent.{SystemEvent}
use Rattle.ds_system.specs.declared.event.SystemEvent.TheVariants.{Service, Put as PutEntry, Remove, Again, World, Follow, Submit, Answered}
use Rattle.ds_system.specs.declared.outcome.SystemOutcome.{SystemOutcome}
use Rattle.ds_system.specs.declared.outcome.SystemOutcome.TheVariants.{Acted, Replied, Moved, Happened, Refused}
use Rattle.ds_system.specs.Happening.{SystemEntry, SystemTakes, SystemDoes, SystemRun}
use Rattle.ds_system.specs.Start.{IsNew, account_since}
use Rattle.ds_system.specs.Laws.{IsCalled}
use Rattle.ds_system.specs.Sending.{must_look, is_whole, IsRightTurn, TurnsAreRight, sent_over}
use Rattle.ds_system.specs.Recovery.{label_of_instance, HasItem, IsServedBy, InstancesServe, is_reported, IsTick, DriversRecover}
use Rattle.ds_system.proofs.Kept.{label_of_service}
use Rattle.ds_system.proofs.NewsLemmas.{same_some}
use Rattle.ds_system.proofs.SingleLemmas.{not_both_numbers}
use Rattle.ds_system.proofs.LabelLemmas.{driver_listed}
use Rattle.ds_system.proofs.LawLemmas.{new_called}
use Rattle.ds_system.proofs.EventLemmas.{event_tables, run_tables}
use Rattle.ds_system.proofs.TableRunLemmas.{calls_twice}
use Rattle.ds_system.proofs.ApartLemmas.{event_same}
use Rattle.ds_system.proofs.RightLemmas.{some_number}
use Rattle.ds_system.proofs.OlderLemmas.{no_send_to_older}
use Rattle.ds_system.proofs.AheadLemmas.{up_within}
use Rattle.ds_system.proofs.ToldLemmas.{IsTold}
use Rattle.ds_system.proofs.TrackLemmas.{IsTracked, since_new}
use Rattle.ds_system.proofs.QueryLemmas.{server_query, label_passes}

state_itself : (e : EndpointRecord) → is_same_state (Some e) (Some e) ≡ true
state_itself e = rw (eq-eqb e.generation e.generation refl, eq-eqb e.slot e.slot refl) refl

-- ---- what the map has
module _ (settings : SettingsRecord) (a b : Seed) (next : ℕ) (s t : System) (entries : List SystemEntry) (new : IsNew settings a b next s)
    (run : SystemRun s entries t) (table : Table) (i : ℕ) (r : Running) (up : state_at t.rs i ≡ Up r) where
  abbrev account : Account
  account = account_since a b entries

  abbrev l : List ℕ
  l = label_of_service t.rs.settings i

  abbrev own : ChangeRecord
  own = label_put l r.endpoint

  k : IsTracked account t
  k = since_new settings a b next s t entries new run

  is_name : IsName l
  is_name = (k.sound.kept.settings.each i no_service (up_within t.rs i r k.ahead.count up)).label

  -- a change of the label that was made, and isn't older than the instance's own, is that
  own_of : (c : ChangeRecord) → Contains t.made c → c.key ≡ label_key l → r.endpoint.generation ≤ c.version.epoch → c ≡ own
  own_of c h e n = elim (k.ahead.ahead i r up c h e) [ inl low ↦ absurd (omega arith) | inr same ↦ same ]

  -- a held item that covers the label is the label
  covers_own : (x : Item) → Contains (followed_items t table) x → covers x (Changed own) ≡ true →
      Contains (followed_items t table) (Changed own)
  covers_own (Changed c) h e =
      let key : own.key ≡ c.key = covers-key c own e in
      let made = k.sound.made c (held_within account t.world k.sound.fits (Map (map_number table)) (Changed c) h) in
      let is : c ≡ own = own_of c made (sym key) (epoch (at_most-means own.version c.version (covers-version c own e))) in
      subst (λ (z : ChangeRecord). Contains (followed_items t table) (Changed z)) is h
    where
      epoch : (own.version.epoch < c.version.epoch) ⊎ ((own.version.epoch ≡ c.version.epoch) × (own.version.seq ≤ c.version.seq)) →
          r.endpoint.generation ≤ c.version.epoch
      epoch (inl low) = omega arith
      epoch (inr same) = let q : r.endpoint.generation ≡ c.version.epoch = same.0 in omega arith
  covers_own (Floored f) h e = opposed (not (is_label own.key.kind)) (voids-is f own e).kind refl

  has_own : HasItem account table (label_of_instance t.rs i r) → Contains (followed_items t table) (Changed own)
  has_own h =
      let under_it : passes (is_under h.map.query) (Changed own) ≡ true =
      label_passes h.map.query l (server_query a b entries table h.map h.all.there) is_name in
      let d = (store_fits account t.world h.side k.sound.fits).top.greatest (Changed own) h.known in
      let c = holds_at_least account t.world (map_number table) h.map h.side k.sound.fits h.all d.0
      (Contains-under (is_under h.map.query) (held_by t.world (Store h.side)) d.0 d.1
      (covers-query (is_under h.map.query) d.0 (Changed own) d.2 under_it)) in
      covers_own c.0 c.1 (covers-trans c.0 d.0 (Changed own) c.2 d.2)

  -- so that is what the map tells of it
  map_has : HasItem account table (label_of_instance t.rs i r) → held_at (followed_items t table) (label_key l) ≡ Some own
  map_has h = by (held_at (followed_items t table) (label_key l)) refl
    where
      by : (o : Option ChangeRecord) → held_at (followed_items t table) (label_key l) ≡ o →
          held_at (followed_items t table) (label_key l) ≡ Some own
      by None q = absurd (key_missing (followed_items t table) (label_key l) own q (has_own h) refl)
      by (Some c) q =
          let f = key_found (followed_items t table) (label_key l) c q in
          q ∙ ap Some (one_change (followed_items t table) (known_at account (Map (map_number table)))
          (top_at account t.world k.sound.fits (Map (map_number table))) c own f.0 (has_own h) (sym f.1))

  -- ---- the table
  -- a table that knows only what was made doesn't take the instance for an old one
  not_old : (x : DriverTable) → IsTold t.made x → IsTableReached x → is_old_for x.states l (Some r.endpoint) ≡ true → ⊥
  not_old x told reach e = by (newest x.states l) refl e
    where
      less : (g : ℕ) → newest x.states l ≡ Some g → g ≤ r.endpoint.generation
      less g q =
          let p = told.newest_is l g q in
          let same : p.0.generation ≡ g = p.2 in
          elim (k.ahead.ahead i r up (label_put l p.0) p.1 refl) [
            | inl low ↦ (let n : p.0.generation < r.endpoint.generation = low in omega arith)
            | inr one ↦
                (let n : p.0.generation ≡ r.endpoint.generation = ap (λ (z : ChangeRecord). z.version.epoch) one in omega arith)
          ]

      not_below : (g : ℕ) → g ≤ r.endpoint.generation → nat_lt r.endpoint.generation g ≡ true → ⊥
      not_below g h q = grind (arith, nat_tests)

      by_now : (g : ℕ) (o : Option EndpointRecord) → newest x.states l ≡ Some g → endpoint_now x.states l ≡ o →
          r.endpoint.generation ≡ g → not (is_same_state o (Some r.endpoint)) ≡ true → ⊥
      by_now g None q n same m =
          let p = told.gone l g q n in
          let at : g ≤ p.0 = p.2 in
          elim (k.ahead.ahead i r up (label_gone l p.0) p.1 refl) [
            | inl low ↦ (let m : p.0 < r.endpoint.generation = low in omega arith)
            | inr one ↦ not_both_numbers 0 refl (sym (ap (λ (z : ChangeRecord). z.version.seq) one))
          ]
      by_now g (Some f) q n same m =
          let at : f.generation ≡ g = some_number f.generation g (sym (reach.current l f n) ∙ q) in
          elim (k.ahead.ahead i r up (label_put l f) (told.now l f n) refl) [
            | inl low ↦ (let m : f.generation < r.endpoint.generation = low in absurd (omega arith))
            | inr one ↦
                (let is : f ≡ r.endpoint = same_some f r.endpoint (ap (λ (z : ChangeRecord). endpoint_in z.body) one) in
                opposed (not (is_same_state (Some f) (Some r.endpoint))) m
                (ap (λ (z : EndpointRecord). not (is_same_state (Some f) (Some z))) (sym is) ∙ ap not (state_itself f)))
          ]

      by_less : (g : ℕ) (b : Bool) → newest x.states l ≡ Some g → nat_lt r.endpoint.generation g ≡ b →
          b || ((r.endpoint.generation == g) && not (is_same_state (endpoint_now x.states l) (Some r.endpoint))) ≡ true → ⊥
      by_less g true q n m = not_below g (less g q) n
      by_less g false q n m =
          let p = and_parts (r.endpoint.generation == g) (not (is_same_state (endpoint_now x.states l) (Some r.endpoint))) m in
          by_now g (endpoint_now x.states l) q refl (equal_number r.endpoint.generation g p.0) p.1

      by : (o : Option ℕ) → newest x.states l ≡ o → is_old o (endpoint_now x.states l) (Some r.endpoint) ≡ true → ⊥
      by None q m = opposed false m refl
      by (Some g) q m = by_less g (nat_lt r.endpoint.generation g) q refl m

  called : IsCalled (table_at t table)
  called = calls_twice empty_table (table_at s table) (table_at t table) (new_called settings a b next s new table)
      (run_tables s entries t run table)

  -- ---- the event
  module _ (u : System) (entry : SystemEntry) (done : SystemDoes t entry.event entry.outcome entry.steps u)
      (must : must_look entry.event entry.outcome table ≡ true) (whole : is_whole entry.outcome ≡ true)
      (has : HasItem account table (label_of_instance t.rs i r)) where
    right : TurnsAreRight t entry (sent_over entries) u
    right = no_send_to_older settings a b next s t u entries entry new run done

    now_served : has_label (table_at u table).units l ≡ true → endpoint_now (table_at u table).states l ≡ Some r.endpoint
    now_served there = by (turn_in entry.steps table) refl (right.had table must)
      where
        of_turn : (turn : TableTurn) → IsRightTurn t entry.outcome table turn (sent_over entries table) u →
            endpoint_now (table_at u table).states l ≡ Some r.endpoint
        of_turn turn h = ap (λ (z : DriverTable). endpoint_now z.states l) (sym h.after) ∙ elim (h.right.knows (h.whole whole) l own
            (ap (λ (z : DriverTable). has_label z.units l) h.before ∙
            (ap (λ (z : List (ℕ × Driver)). has_label z l) (sym (event_same t entry.event entry.outcome entry.steps u done table)) ∙ there))
            (map_has has)) [
              | inl now ↦ now
              | inr passed ↦ absurd (not_old turn.before (subst (IsTold t.made) (sym h.before) (k.told table))
                  (subst IsTableReached (sym h.before) (reached (table_at t table) called.0 called.1)) passed.0)
            ]

        by : (o : Option TableTurn) → turn_in entry.steps table ≡ o → is_some o ≡ true →
            endpoint_now (table_at u table).states l ≡ Some r.endpoint
        by None q some = opposed false some refl
        by (Some turn) q some = of_turn turn (right.each table turn q)

    pub instance_serves : IsServedBy (table_at u table) l r.endpoint
    instance_serves = record {
      drivers = now_served;
      requests = λ q d pends found label.
          let h = Contains-from_filter (is_pending (table_at u table).answers) (table_at u table).requests q pends in
          let v = from_along (IsRequestServed (table_at u table)) (table_at u table).requests q there.served
          (In-from_Contains q (table_at u table).requests h.0) in
          let same : v.driver ≡ d = same_some v.driver d (sym v.found ∙ found) in
          let own_label : v.driver.label ≡ l = ap (λ (z : Driver). z.label) same ∙ label in
          v.sent (none_empty (values_of q.id (table_at u table).answers) h.1) r.endpoint
          (ap (endpoint_now (table_at u table).states) own_label ∙ now_served
          (subst (λ (z : List ℕ). has_label (table_at u table).units z ≡ true) label
          (driver_listed (table_at u table).units q.unit d found)));
    }
      where
        there : IsTableReached (table_at u table)
        there =
            let c = calls_twice empty_table (table_at t table) (table_at u table) called
            (event_tables t entry.event entry.outcome entry.steps u done table) in
            reached (table_at u table) c.0 c.1

        none_empty : (xs : List Ending) → is_empty xs ≡ true → xs ≡ []
        none_empty [] e = refl
        none_empty (x ∷ xs) e = cc

pub instances_serve : InstancesServe
instances_serve settings a b next s t u entries entry new run done table i r must whole up has =
    instance_serves settings a b next s t entries new run table i r up u entry done must whole has

-- ---- what is reported to RS
abbrev Entered : System → SystemEntry → System → Type 0
Entered s e t = SystemDoes s e.event e.outcome e.steps t

-- no other event changes RS
takes_rs : (s : System) (event : SystemEvent) (outcome : SystemOutcome) (steps : Steps) (t : System) →
    SystemTakes s event outcome steps t → is_reported event ≡ false → t.rs ≡ s.rs
takes_rs s (Service event tick side) (Acted actions replies) steps t h e = opposed true refl e
takes_rs s (PutEntry label key value side) (Replied reply) steps t h e = ap (λ (z : System). z.rs) h.system_is
takes_rs s (Remove label key side) (Replied reply) steps t h e = ap (λ (z : System). z.rs) h.system_is
takes_rs s (Again n side) (Replied reply) steps t h e = ap (λ (z : System). z.rs) h.system_is
takes_rs s (World event) (Happened outcome) steps t h e = ap (λ (z : System). z.rs) h.system_is
takes_rs s Follow (Moved rounds o fault) steps t h e = ap (λ (z : System). z.rs) h.system_is
takes_rs s (Submit File id unit) (Moved rounds o fault) steps t h e = ap (λ (z : System). z.rs) h.system_is
takes_rs s (Submit Net id unit) (Moved rounds o fault) steps t h e = ap (λ (z : System). z.rs) h.system_is
takes_rs s (Answered File endpoint id) (Moved rounds o fault) steps t h e = ap (λ (z : System). z.rs) h.system_is
takes_rs s (Answered Net endpoint id) (Moved rounds o fault) steps t h e = ap (λ (z : System). z.rs) h.system_is
takes_rs s event outcome steps t h e = absurd h

event_rs : (s : System) (event : SystemEvent) (outcome : SystemOutcome) (steps : Steps) (t : System) →
    SystemDoes s event outcome steps t → is_reported event ≡ false → t.rs ≡ s.rs
event_rs s event (Refused fault) steps t h e = ap (λ (z : System). z.rs) h.system_is
event_rs s event (Acted a b) steps t h e = takes_rs s event (Acted a b) steps t h e
event_rs s event (Replied a) steps t h e = takes_rs s event (Replied a) steps t h e
event_rs s event (Moved a b c) steps t h e = takes_rs s event (Moved a b c) steps t h e
event_rs s event (Happened a) steps t h e = takes_rs s event (Happened a) steps t h e

quiet_rs : (s : System) (entries : List SystemEntry) (t : System) → SystemRun s entries t →
    AllByRecursion (λ (entry : SystemEntry). is_reported entry.event ≡ false) entries → t.rs ≡ s.rs
quiet_rs s [] t run q = ap (λ (z : System). z.rs) (sym run)
quiet_rs s (e ∷ es) t run q = quiet_rs run.0 es t run.2 q.1 ∙ event_rs s e.event e.outcome e.steps run.0 run.1 q.0

-- no event changes the settings
takes_settings : (s : System) (event : SystemEvent) (outcome : SystemOutcome) (steps : Steps) (t : System) →
    SystemDoes s event outcome steps t → t.rs.settings ≡ s.rs.settings
takes_settings s (Service event tick side) (Acted actions replies) steps t h =
    (steps_say s.rs t.rs event tick actions h.step).settings
takes_settings s (Service event tick side) (Refused fault) steps t h = ap (λ (z : System). z.rs.settings) h.system_is
takes_settings s (Service event tick side) (Replied a) steps t h = absurd h
takes_settings s (Service event tick side) (Moved a b c) steps t h = absurd h
takes_settings s (Service event tick side) (Happened a) steps t h = absurd h
takes_settings s (PutEntry label key value side) outcome steps t h =
    ap (λ (z : RsRecord). z.settings) (event_rs s (PutEntry label key value side) outcome steps t h refl)
takes_settings s (Remove label key side) outcome steps t h =
    ap (λ (z : RsRecord). z.settings) (event_rs s (Remove label key side) outcome steps t h refl)
takes_settings s (Again n side) outcome steps t h =
    ap (λ (z : RsRecord). z.settings) (event_rs s (Again n side) outcome steps t h refl)
takes_settings s (World event) outcome steps t h =
    ap (λ (z : RsRecord). z.settings) (event_rs s (World event) outcome steps t h refl)
takes_settings s Follow outcome steps t h = ap (λ (z : RsRecord). z.settings) (event_rs s Follow outcome steps t h refl)
takes_settings s (Submit table id unit) outcome steps t h =
    ap (λ (z : RsRecord). z.settings) (event_rs s (Submit table id unit) outcome steps t h refl)
takes_settings s (Answered table endpoint id) outcome steps t h =
    ap (λ (z : RsRecord). z.settings) (event_rs s (Answered table endpoint id) outcome steps t h refl)

run_settings : (s : System) (entries : List SystemEntry) (t : System) → SystemRun s entries t → t.rs.settings ≡ s.rs.settings
run_settings s [] t run = ap (λ (z : System). z.rs.settings) (sym run)
run_settings s (e ∷ es) t run = run_settings run.0 es t run.2 ∙ takes_settings s e.event e.outcome e.steps run.0 run.1

-- the reports of a tick are steps of RS
ticks_of : (tick : ℕ) (s : System) (reports : List SystemEntry) (steps : List (List Action)) (t : System) → SystemRun s reports t →
    AllZip (IsTick tick) reports steps → Ticks tick s.rs steps t.rs
ticks_of tick s [] [] t run z = ap (λ (z : System). z.rs) run
ticks_of tick s (e ∷ es) (x ∷ xs) t run z = (run.0.rs, step, ticks_of tick run.0 es xs t run.2 z.1)
  where
    step : RsStep s.rs Tick tick x run.0.rs
    step = (subst (λ (o : SystemOutcome). SystemDoes s (Service Tick tick z.0.side) o e.steps run.0) z.0.outcome_is
        (subst (λ (v : SystemEvent). SystemDoes s v e.outcome e.steps run.0) z.0.event_is run.1)).step
ticks_of tick s [] (x ∷ xs) t run z = absurd z
ticks_of tick s (e ∷ es) [] t run z = absurd z

-- both servers follow their maps in a Follow that nothing ended
must_follow : (outcome : SystemOutcome) (table : Table) → is_whole outcome ≡ true → must_look Follow outcome table ≡ true
must_follow (Moved rounds o None) File e = refl
must_follow (Moved rounds o None) Net e = refl
must_follow (Moved rounds o (Some fault)) table e = opposed false e refl
must_follow (Acted a b) table e = opposed false e refl
must_follow (Replied a) table e = opposed false e refl
must_follow (Happened a) table e = opposed false e refl
must_follow (Refused a) table e = opposed false e refl

pub drivers_recover : DriversRecover
drivers_recover settings a b next start s u entries tick steps reports between follow new run way =
    (subst (λ (z : SettingsRecord). length steps ≤ length z.services) same_settings settles.1, record { rs = rs; served = served })
  where
    settles : (length steps ≡ due_count tick s.rs) × (length steps ≤ length s.rs.settings.services) ×
        IsSettledState tick s.rs way.settled.rs
    settles = ticks_settle s.rs way.settled.rs tick steps (record {
      acted = way.acted;
      reports = ticks_of tick s reports (steps ++ [] ∷ []) way.settled way.reported way.ticks;
    })

    same_settings : s.rs.settings ≡ settings
    same_settings = run_settings start entries s run ∙ ap (λ (z : RsRecord). z.settings) new.rs

    after_told : u.rs ≡ way.told.rs
    after_told = event_rs way.told follow.event follow.outcome follow.steps u way.follows (ap is_reported way.event_is)

    rs : IsSettledState tick s.rs u.rs
    rs = subst (IsSettledState tick s.rs) (sym (after_told ∙ quiet_rs way.settled between way.told way.led way.quiet)) settles.2

    all : SystemRun start (entries ++ reports ++ between) way.told
    all = path_join Entered start way.settled way.told (entries ++ reports) between
        (path_join Entered start s way.settled entries reports run way.reported) way.led

    served : (table : Table) (i : ℕ) (r : Running) → state_at u.rs i ≡ Up r →
        HasItem (account_since a b (entries ++ reports ++ between)) table (label_of_instance u.rs i r) →
        IsServedBy (table_at u table) (label_at u.rs i) r.endpoint
    served table i r up has = subst (λ (z : RsRecord). IsServedBy (table_at u table) (label_at z i) r.endpoint) (sym after_told)
        (instances_serve settings a b next start way.told u (entries ++ reports ++ between) follow new all way.follows table i r
        (subst (λ (v : SystemEvent). must_look v follow.outcome table ≡ true) (sym way.event_is)
        (must_follow follow.outcome table way.whole)) way.whole (subst (λ (z : RsRecord). state_at z i ≡ Up r) after_told up)
        (subst (λ (z : RsRecord). HasItem (account_since a b (entries ++ reports ++ between)) table (label_of_instance z i r)) after_told
        has))
