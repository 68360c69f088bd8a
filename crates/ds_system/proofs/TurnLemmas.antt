-- The effects of both servers' tables.
use Rattle.std.proofs.Common.{◌≡◌, ℕ, List, [], ◌∷◌, ◌++◌, Option, Some, None, Result, Ok, Err, OnErr, refl, ap, sym, ◌∙◌, subst, inl}
use Rattle.std.proofs.Common.{append-nil}
use Rattle.std.specs.List.{slice_get}
use Rattle.std.proofs.lemmas.Option.{slice_get-map}
use Rattle.ds_names.specs.Endpoint.{EndpointRecord}
use Rattle.ds_entry.specs.declared.item.Item.{Item}
use Rattle.driver_tables.specs.declared.moves.Move.{Move}
use Rattle.driver_tables.specs.declared.fault.TableFault.{TableFault}
use Rattle.driver_tables.specs.declared.fault.TableFault.TheVariants as stops
use Rattle.driver_tables.specs.Answer.{IsAnswer}
use Rattle.driver_tables.specs.Outcome.{AnswersAs, LeavesAs}
use Rattle.driver_tables.specs.DriverTable.{DriverTable}
use Rattle.driver_tables.specs.Room.{LacksOnlyWhere, RequestTakesMemory}
use Rattle.driver_tables.specs.Submit.{submitting}
use Rattle.driver_tables.specs.Reply.{replying}
use Rattle.driver_tables.specs.Stands.{TableRecord, TableStands}
use Rattle.ds_replica.specs.declared.event.Holder.TheVariants.{Map}
use Rattle.ds_replica.specs.World.{MapState, World, map_held, held_by}
use Rattle.ds_world.specs.World.{WorldRecord, WorldStands, map_state, held_in}
use Rattle.ds_world.specs.Told.{AreTold}
use Rattle.rs_to_store.specs.Following.{labels_of, Follows, HasFollowed}
use Rattle.ds_system.specs.declared.event.Table.{Table}
use Rattle.ds_system.specs.declared.event.Table.TheVariants.{File, Net}
use Rattle.ds_system.specs.declared.event.SystemEvent.TheVariants as events
use Rattle.ds_system.specs.declared.outcome.SystemOutcome.TheVariants.{Moved}
use Rattle.ds_system.specs.System.{System, table_at, system_with_table, map_number}
use Rattle.ds_system.specs.Turn.{TableTurn, FollowsItems}
use Rattle.ds_system.specs.Steps.{no_steps, turn_alone}
use Rattle.ds_system.specs.EffectsOfTurns.{Submits}
use Rattle.ds_system.specs.Stands.{SystemRecord, kept_table, keeping_table, SystemStands, SystemEventLeads}
use Rattle.ds_system.specs.Turns.{moved_so, HasSubmitted, HasReplied, ServersFollow}

-- ---- one table

-- a map holds the same in the value's world and in the world itself
held_is : (value : WorldRecord) (w : World) (j : ℕ) → WorldStands value w → held_in value (Map j) ≡ held_by w (Map j)
held_is value w j st = ap map_held (sym (ap (λ (l : List MapState). slice_get l j) st.maps ∙ slice_get-map map_state value.maps j))

-- a map that doesn't exist holds nothing, and tells nothing
nothing_follows : (labels : List (List ℕ)) (t : DriverTable) → Follows [] labels t [] None t
nothing_follows [] t = (refl, refl, refl)
nothing_follows (label ∷ labels) t = inl ([], refl, nothing_follows labels t)

pub none_followed : (table : TableRecord) (before : List (List Move)) → HasFollowed [] table table before before None
none_followed table before t st = (t, [], sym (append-nil before), nothing_follows (labels_of t) t, st)

-- a turn without a request
abbrev plain_turn : DriverTable → List (List Move) → Option TableFault → DriverTable → TableTurn
plain_turn t rounds stop u = record { before = t; rounds = rounds; stop = stop; followed = u; own = None; after = u }

-- ---- a request
-- what ended the follow ends the turn
pub submit_ended : (held : List Item) (id unit : ℕ) (old new : TableRecord) (before rounds : List (List Move)) (fault : TableFault)
    → before ≡ [] → HasFollowed held old new before rounds (Some fault) → HasSubmitted held id unit old new rounds (Err fault)
submit_ended held id unit old new before rounds fault none h t st =
    let g = h t st in (
      record { before = t; rounds = g.1; stop = Some fault; followed = g.0; own = None; after = g.0 },
      record {
        before = refl;
        follows = g.3;
        own = refl;
        submits = (refl, refl, refl);
        rounds_are =
            g.2 ∙ ap (λ (l : List (List Move)). l ++ g.1) none;
      },
      g.4,
    )

refused_turn : (mid : DriverTable) (id unit : ℕ) (fault : TableFault) → IsAnswer (submitting mid id unit).0 (Err fault) →
    LacksOnlyWhere {A = Move} (RequestTakesMemory mid id unit) (Err fault) → Submits mid id unit None None (Some fault) mid
refused_turn mid id unit stops.NoRoom h room = (room, refl)
refused_turn mid id unit stops.Assigned h room = (sym h, refl)
refused_turn mid id unit stops.OldEndpoint h room = (sym h, refl)
refused_turn mid id unit stops.TwoIds h room = (sym h, refl)
refused_turn mid id unit stops.NoDevice h room = (sym h, refl)
refused_turn mid id unit stops.NotPending h room = (sym h, refl)

-- after a complete follow the request is answered
pub submit_answered : (held : List Item) (id unit : ℕ) (old mid new : TableRecord) (before rounds : List (List Move))
    (answer : Result Move TableFault) → before ≡ [] → HasFollowed held old mid before rounds None
    → AnswersAs mid (λ (t : DriverTable). submitting t id unit) answer →
    ((t : DriverTable) → TableStands mid t → LacksOnlyWhere (RequestTakesMemory t id unit) answer) →
    LeavesAs mid (λ (t : DriverTable). submitting t id unit) answer new → OnErr answer (new ≡ mid) →
    HasSubmitted held id unit old new rounds answer
submit_answered held id unit old mid new before rounds (Ok own) none h answers room leaves same t st =
    let g = h t st in
    let u = (submitting g.0 id unit).1 in (
      record { before = t; rounds = g.1; stop = None; followed = g.0; own = Some own; after = u },
      record {
        before = refl;
        follows = g.3;
        own = refl;
        submits = ap (λ (r : Result Move TableFault). (r, u)) (sym (answers g.0 g.4));
        rounds_are = g.2 ∙ ap (λ (l : List (List Move)). l ++ g.1) none;
      },
      leaves g.0 g.4,
    )
submit_answered held id unit old mid new before rounds (Err fault) none h answers room leaves same t st =
    let g = h t st in (
      record { before = t; rounds = g.1; stop = None; followed = g.0; own = None; after = g.0 },
      record {
        before = refl;
        follows = g.3;
        own = refl;
        submits = refused_turn g.0 id unit fault (answers g.0 g.4) (room g.0 g.4);
        rounds_are = g.2 ∙ ap (λ (l : List (List Move)). l ++ g.1) none;
      },
      subst (λ (v : TableRecord). TableStands v g.0) (sym same) g.4,
    )

-- ---- a reply
pub reply_answered : (endpoint : EndpointRecord) (id : ℕ) (old new : TableRecord) (answer : Result Move TableFault) →
    ((t : DriverTable) → TableStands old t → answer ≡ (replying t endpoint id).0)
    → LeavesAs old (λ (t : DriverTable). replying t endpoint id) answer new → OnErr answer (new ≡ old) →
    HasReplied endpoint id old new answer
reply_answered endpoint id old new (Ok own) answers leaves same t st =
    let u = (replying t endpoint id).1 in
    (u, ap (λ (r : Result Move TableFault). (r, u)) (sym (answers t st)), leaves t st)
reply_answered endpoint id old new (Err fault) answers leaves same t st =
    (t, (sym (answers t st), refl), subst (λ (v : TableRecord). TableStands v t) (sym same) st)

-- ---- the system
table_stands : (value : SystemRecord) (s : System) (table : Table) → SystemStands value s →
    TableStands (kept_table value table) (table_at s table)
table_stands value s File st = st.file
table_stands value s Net st = st.net

stands_with : (value : SystemRecord) (s : System) (table : Table) (kept : TableRecord) (t : DriverTable) → SystemStands value s →
    TableStands kept t → SystemStands (keeping_table value table kept) (system_with_table s table t)
stands_with value s File kept t st k = record
    { rs = st.rs; numberers = st.numberers; world = st.world; file = k; net = st.net; made = st.made }
stands_with value s Net kept t st k = record
    { rs = st.rs; numberers = st.numberers; world = st.world; file = st.file; net = k; made = st.made }

-- a turn of a table is no event of the world
same_world : (value : SystemRecord) (table : Table) (next : TableRecord) → (keeping_table value table next).world ≡ value.world
same_world value File next = refl
same_world value Net next = refl

none_told : (value : SystemRecord) (table : Table) (turn : TableTurn) (next : TableRecord) →
    AreTold value.world (turn_alone table turn).events (keeping_table value table next).world
none_told value File turn next = refl
none_told value Net turn next = refl

module _ (value : SystemRecord) where
  -- the map of the value's world is the system's
  own_map : (s : System) → SystemStands value s → (table : Table) (turn : TableTurn) →
      FollowsItems (held_in value.world (Map (map_number table))) turn → FollowsItems (held_by s.world (Map (map_number table))) turn
  own_map s st table turn f = subst (λ (l : List Item). FollowsItems l turn) (held_is value.world s.world (map_number table) st.world) f

  pub submit_leads : (table : Table) (id unit : ℕ) (next : TableRecord) (rounds : List (List Move)) (answer : Result Move TableFault)
      → HasSubmitted (held_in value.world (Map (map_number table))) id unit (kept_table value table) next rounds answer
      → SystemEventLeads (events.Submit table id unit) (moved_so rounds answer) value (keeping_table value table next)
  submit_leads table id unit next rounds answer h s st =
      let g = h (table_at s table) (table_stands value s table st) in (
        system_with_table s table g.0.after,
        turn_alone table g.0,
        record {
          turn = g.0;
          first = record { before = g.1.before; follows = own_map s st table g.0 g.1.follows };
          submits = g.1.submits;
          rounds_are = g.1.rounds_are;
          own_is = sym g.1.own;
          steps_are = refl;
          system_is = refl;
        },
        stands_with value s table next g.0.after st g.2,
        none_told value table g.0 next,
      )

  pub reply_leads : (table : Table) (endpoint : EndpointRecord) (id : ℕ) (next : TableRecord) (answer : Result Move TableFault) →
      HasReplied endpoint id (kept_table value table) next answer
      → SystemEventLeads (events.Answered table endpoint id) (moved_so [] answer) value (keeping_table value table next)
  reply_leads table endpoint id next answer h s st =
      let g = h (table_at s table) (table_stands value s table st) in (
        system_with_table s table g.0,
        no_steps,
        record { none = refl; after = g.0; replies = g.1; steps_are = refl; system_is = refl },
        stands_with value s table next g.0 st g.2,
        same_world value table next,
      )

  pub both_lead : (file_next net_next : TableRecord) (rounds : List (List Move)) (fault : Option TableFault) →
      ServersFollow value.world value.file file_next value.net net_next rounds fault
      → SystemEventLeads events.Follow (Moved rounds None fault) value (record value { file = file_next; net = net_next })
  both_lead file_next net_next rounds fault (first, None, f, n) s st =
      let g = f s.file st.file in
      let h = n s.net st.net in
      let one = plain_turn s.file g.1 None g.0 in
      let two = plain_turn s.net h.1 fault h.0 in (
        record s { file = g.0; net = h.0 },
        record no_steps { file = Some one; net = Some two },
        record {
          file = one;
          first = record { before = refl; follows = own_map s st File one g.3 };
          plain = record { none = refl; after = refl };
          net = Some two;
          more = h.1;
          too = (
            two,
            refl,
            record { before = refl; follows = own_map s st Net two h.3 },
            record { none = refl; after = refl },
            refl,
            refl,
            refl,
          );
          rounds_are = h.2 ∙ ap (λ (l : List (List Move)). l ++ h.1) g.2;
          none = refl;
          steps_are = refl;
          system_is = refl;
        },
        record { rs = st.rs; numberers = st.numberers; world = st.world; file = g.4; net = h.4; made = st.made },
        refl,
      )
  both_lead file_next net_next rounds fault (first, Some stop, f, n) s st =
      let g = f s.file st.file in
      let one = plain_turn s.file g.1 (Some stop) g.0 in (
        record s { file = g.0; net = s.net },
        record no_steps { file = Some one; net = None },
        record {
          file = one;
          first = record { before = refl; follows = own_map s st File one g.3 };
          plain = record { none = refl; after = refl };
          net = None;
          more = [];
          too = (refl, refl, n.1, refl);
          rounds_are = n.0 ∙ (g.2 ∙ sym (append-nil g.1));
          none = refl;
          steps_are = refl;
          system_is = refl;
        },
        record {
          rs = st.rs;
          numberers = st.numberers;
          world = st.world;
          file = g.4;
          net =
              subst (λ (v : TableRecord). TableStands v s.net) (sym n.2) st.net;
          made = st.made;
        },
        refl,
      )
