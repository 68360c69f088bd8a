-- Without one of the premises of recovery the law is false, and an example meets them all.
use Rattle.std.proofs.Common.{◌≡◌, ℕ, zero, suc, ◌≤◌, true, false, List, [], ◌∷◌, ◌++◌, Some}
use Rattle.std.proofs.Common.{None, refl, sym, subst, inl, inr, arith}
use Rattle.std.specs.Prelude.{All}
use Rattle.std.specs.List.{filter_map}
use Rattle.ds_names.specs.Endpoint.{EndpointRecord, endpoint_of}
use Rattle.ds_names.specs.Key.{label_key}
use Rattle.ds_names.specs.Name.{IsName, is_name_byte, rs_name}
use Rattle.ds_entry.specs.Change.{ChangeRecord}
use Rattle.ds_entry.specs.Under.{under}
use Rattle.ds_entry.specs.declared.body.Value.TheVariants.{Label}
use Rattle.ds_entry.specs.declared.item.Item.TheVariants.{Change as Changed}
use Rattle.ds_entry.proofs.Members.{Contains-nil, Contains-cons, Contains-head, Contains-single}
use Rattle.ds_held.specs.Limits.{larger}
use Rattle.ds_join.specs.ItemTop.{IsTop}
use Rattle.ds_pattern.specs.Under.{is_under}
use Rattle.ds_machine.specs.State.{State, takes_effect, opening}
use Rattle.ds_machine.specs.Machine.{outcome}
use Rattle.ds_machine.specs.declared.command.Command.{Command}
use Rattle.ds_machine.specs.declared.command.Command.TheVariants.{Publish, Delete, Sweep, Snapshot}
use Rattle.ds_machine.specs.declared.command.Scope.TheVariants as scopes
use Rattle.ds_machine.specs.declared.refusal.Refusal.TheVariants as refusals
use Rattle.ds_machine.specs.declared.reply.Reply.{Reply}
use Rattle.ds_machine.specs.declared.reply.Reply.TheVariants as replies
use Rattle.rs_settings.specs.declared.class.Class.TheVariants.{Block}
use Rattle.rs_settings.specs.declared.service.Service.{Service}
use Rattle.rs_settings.specs.Settings.{SettingsRecord, IsService, IsSettings, settings}
use Rattle.rs_core.specs.declared.event.Event.TheVariants as events
use Rattle.rs_core.specs.declared.deed.Deed.TheVariants.{Begin, Lose, Resume}
use Rattle.rs_core.specs.declared.state.Running.{Running}
use Rattle.rs_core.specs.declared.state.State.TheVariants.{Down}
use Rattle.rs_core.specs.Action.{version, label_put, label_gone, start_actions, stop_actions}
use Rattle.rs_core.specs.Machine.{task}
use Rattle.rs_core.specs.Numbering.{numberer}
use Rattle.rs_core.specs.Slots.{new_slots}
use Rattle.rs_core.specs.State.{RsRecord, rs_of}
use Rattle.rs_core.specs.Step.{done_to}
use Rattle.driver_tables.specs.declared.fault.TableFault.TheVariants as stops
use Rattle.driver_tables.specs.DriverTable.{DriverTable}
use Rattle.ds_replica.specs.declared.seed.Seed.{Seed}
use Rattle.ds_replica.specs.declared.event.Side.TheVariants.{A}
use Rattle.ds_replica.specs.declared.event.Holder.TheVariants.{Map}
use Rattle.ds_replica.specs.declared.event.Event.{Event}
use Rattle.ds_replica.specs.declared.event.Event.TheVariants.{Ask, Deliver}
use Rattle.ds_replica.specs.declared.outcome.Outcome.{Outcome}
use Rattle.ds_replica.specs.declared.outcome.Outcome.TheVariants as outcomes
use Rattle.ds_replica.specs.Bringing.{IsProperEvent}
use Rattle.ds_replica.specs.Delivery.{Tally, MapTakes, counting}
use Rattle.ds_replica.specs.Happens.{Asks, ask_outcome, items_given, new_map}
use Rattle.ds_replica.specs.Known.{MapAccount}
use Rattle.ds_replica.specs.World.{World, MapState, new_world, with_state, with_items}
use Rattle.ds_replica.proofs.SentLemmas.{Contains-from_under}
use Rattle.ds_replica.proofs.Samples.{top_of_one}
use Rattle.ds_system.specs.declared.event.Table.TheVariants.{File}
use Rattle.ds_system.specs.declared.event.SystemEvent.TheVariants as systems
use Rattle.ds_system.specs.declared.outcome.SystemOutcome.TheVariants.{Acted, Moved, Happened}
use Rattle.ds_system.specs.System.{System}
use Rattle.ds_system.specs.Steps.{AreProper, no_steps, events_alone}
use Rattle.ds_system.specs.Happening.{SystemEntry, SystemDoes}
use Rattle.ds_system.specs.Start.{labels_query, file_unit, net_unit, assigned_all, IsNew, account_since}
use Rattle.ds_system.specs.Wrong.{disk, plain_turn}
use Rattle.ds_system.specs.Recovery.{HasItem}
use Rattle.ds_system.specs.RecoveryPremises.{ServingNeeds, RecoveryHolds}
use Rattle.ds_system.proofs.StartLemmas.{no_fault}
use Rattle.ds_system.proofs.QueryLemmas.{label_passes}

-- ---- a new system of one block driver
disk_name : IsName disk
unfolding is_name_byte
disk_name = record { some = omega arith; limit = omega arith; allowed = refl }

abbrev service : Service
service = record {
  label = disk;
  class = Block;
  unit = Some 3;
  period = 0;
  limit = 1;
  publishes = [];
  complains = None;
  connects = None;
  forget = 0;
  startup = 0;
}

abbrev one_disk : SettingsRecord
one_disk = settings 1 (service ∷ [])

a_service : IsService service
a_service = record {
  label = disk_name;
  other = λ e. (let n : disk ≡ rs_name = e in cc);
  unit = (refl, omega arith);
  period = omega arith;
  limit = omega arith;
  publishes = record { count = omega arith; each = λ k d h. absurd (omega arith) };
  complains = tt;
  connects = tt;
  forget = omega arith;
  startup = omega arith;
}

all_services : All IsService (service ∷ [])
all_services zero d h = a_service
all_services (suc k) d h = absurd (omega arith)

checked : IsSettings one_disk
checked = record { some = omega arith; slots = omega arith; count = omega arith; each = all_services; apart = refl }

abbrev seed : ℕ → Seed
seed incarnation = record { incarnation = incarnation; first = 0; ring = 4 }

abbrev empty_world : World
empty_world = record (new_world (seed 1) (seed 2) larger) { maps = new_map labels_query ∷ new_map labels_query ∷ [] }

-- a system whose maps are empty, and whose store A has this state
abbrev at_rest : RsRecord → State → List ChangeRecord → System
at_rest rs store made = record {
  rs = rs;
  numberers = numberer 0 0 ∷ [];
  world = record empty_world { a = store };
  file = assigned_all (filter_map file_unit (service ∷ []));
  net = assigned_all (filter_map net_unit (service ∷ []));
  made = made;
}

abbrev opened : State
opened = opening 1 0 4 larger

abbrev start : System
start = at_rest (rs_of one_disk (Down ∷ []) 0 1 (new_slots 16)) opened []

starts : IsNew one_disk (seed 1) (seed 2) 1 start
starts =
    let w = new_world (seed 1) (seed 2) larger in
    record {
      checked = checked;
      some = omega arith;
      rs = refl;
      numberers = refl;
      world = (
        record w { maps = new_map labels_query ∷ [] },
        (no_fault w [] refl, record { outcome_is = refl; world_is = refl }),
        (empty_world, (no_fault w (new_map labels_query ∷ []) refl, record { outcome_is = refl; world_is = refl }), refl),
      );
      file = refl;
      net = refl;
      made = refl;
    }

-- ---- what RS asks for
abbrev refused : Reply
refused = replies.Refused refusals.NoRoom

abbrev put_of : ℕ → Command
put_of g = Publish (endpoint_of 0 2) (label_key disk) (version g 0) (Label (endpoint_of g 16)) true

abbrev gone_of : ℕ → Command
gone_of g = Delete (endpoint_of 0 2) (label_key disk) (version g 1)

abbrev sweep_of : ℕ → Command
sweep_of g = Sweep (endpoint_of 0 2) disk g

put_proper : (g : ℕ) → g ≤ 2 → IsProperEvent (Ask A (put_of g))
put_proper g l =
    record { name = disk_name; epoch = omega arith; seq = omega arith; body = record { generation = omega arith; slot = omega arith } }

one_proper : (e : Event × Outcome) → IsProperEvent e.0 → AreProper (e ∷ [])
one_proper e p x h = subst (λ (z : Event × Outcome). IsProperEvent z.0) (sym (Contains-single e x h)) p

abbrev gone_asked : Event × Outcome
gone_asked = (Ask A (gone_of 1), outcomes.Replied refused)

abbrev sweep_asked : Event × Outcome
sweep_asked = (Ask A (sweep_of 1), outcomes.Replied refused)

gone_proper : IsProperEvent (Ask A (gone_of 1))
gone_proper = record { name = disk_name; epoch = omega arith; seq = omega arith; body = tt }

sweep_proper : IsProperEvent (Ask A (sweep_of 1))
sweep_proper = record { owner = disk_name; generation = omega arith }

stop_proper : AreProper (gone_asked ∷ sweep_asked ∷ [])
stop_proper x h = elim (Contains-cons gone_asked (sweep_asked ∷ []) x h) [
  | inl e ↦ subst (λ (z : Event × Outcome). IsProperEvent z.0) (sym e) gone_proper
  | inr k ↦ one_proper sweep_asked sweep_proper x k
]

refuses : (command : Command) → Asks empty_world A command (outcomes.Replied refused) empty_world
refuses command = record {
  reply = refused;
  after = opened;
  step = inl (inr (record { reply_is = refl; state_is = refl }));
  outcome_is = refl;
  world_is = refl;
}

answers : (w : World) (command : Command) →
    let out = outcome w.a command in
    Asks w A command (ask_outcome w out.0 (items_given out.0)) (with_items (with_state w A out.1) (items_given out.0))
answers w command = record {
  reply = (outcome w.a command).0;
  after = (outcome w.a command).1;
  step = inl (inl (record { reply_is = refl; state_is = refl }));
  outcome_is = refl;
  world_is = refl;
}

-- ---- the service starts, and the store refuses its label
abbrev running : ℕ → ℕ → ℕ → Running
running g tick failures = record { endpoint = endpoint_of g 16; since = tick; beat = tick; ping = tick; failures = failures }

abbrev rs_up : RsRecord
rs_up = done_to start.rs 0 (task Begin 0)

abbrev up_entry : SystemEntry
up_entry = record {
  event = systems.Service (events.Up disk) 0 A;
  outcome = Acted (start_actions disk (endpoint_of 1 16)) (refused ∷ []);
  steps = events_alone ((Ask A (put_of 1), outcomes.Replied refused) ∷ []);
}

abbrev is_up : System
is_up = at_rest rs_up opened (label_put disk (endpoint_of 1 16) ∷ [])

goes_up : SystemDoes start up_entry.event up_entry.outcome up_entry.steps is_up
goes_up = record {
  step = (Some (task Begin 0), refl, refl, record { done = refl; after = refl });
  one_each = refl;
  asked = record {
    steps_are = refl;
    proper = one_proper (Ask A (put_of 1), outcomes.Replied refused) (put_proper 1 (omega arith));
    happen = (empty_world, (refl, refuses (put_of 1)), refl);
  };
  system_is = refl;
}

-- ---- it fails, and the store refuses that too
abbrev rs_down : RsRecord
rs_down = done_to rs_up 0 (task (Lose false) 0)

abbrev down_entry : SystemEntry
down_entry = record {
  event = systems.Service (events.Death (endpoint_of 1 16) 1) 0 A;
  outcome = Acted (stop_actions false disk (endpoint_of 1 16)) (refused ∷ refused ∷ []);
  steps = events_alone ((Ask A (gone_of 1), outcomes.Replied refused) ∷ (Ask A (sweep_of 1), outcomes.Replied refused) ∷ []);
}

abbrev is_down : System
is_down = at_rest rs_down opened (label_put disk (endpoint_of 1 16) ∷ label_gone disk 1 ∷ [])

goes_down : SystemDoes is_up down_entry.event down_entry.outcome down_entry.steps is_down
goes_down = record {
  step = (Some (task (Lose false) 0), refl, refl, record { done = refl; after = refl });
  one_each = refl;
  asked = record {
    steps_are = refl;
    proper = stop_proper;
    happen = (empty_world, (refl, refuses (gone_of 1)), (empty_world, (refl, refuses (sweep_of 1)), refl));
  };
  system_is = refl;
}

-- ---- its tick is settled, and the store takes the new label
abbrev new_label : ChangeRecord
new_label = label_put disk (endpoint_of 2 16)

abbrev stored : State
stored = takes_effect opened (Changed new_label ∷ [])

abbrev rs_again : RsRecord
rs_again = done_to rs_down 1 (task Resume 0)

abbrev all_made : List ChangeRecord
all_made = label_put disk (endpoint_of 1 16) ∷ label_gone disk 1 ∷ new_label ∷ []

abbrev again_entry : SystemEntry
again_entry = record {
  event = systems.Service events.Tick 1 A;
  outcome = Acted (start_actions disk (endpoint_of 2 16)) (replies.Changed 0 ∷ []);
  steps = events_alone ((Ask A (put_of 2), outcomes.Replied (replies.Changed 0)) ∷ []);
}

abbrev is_again : System
is_again = at_rest rs_again stored all_made

goes_again : SystemDoes is_down again_entry.event again_entry.outcome again_entry.steps is_again
goes_again = record {
  step = (Some (task Resume 0), refl, refl, record { done = refl; after = refl });
  one_each = refl;
  asked = record {
    steps_are = refl;
    proper = one_proper (Ask A (put_of 2), outcomes.Replied (replies.Changed 0)) (put_proper 2 (omega arith));
    happen = (record empty_world { a = stored }, (refl, answers empty_world (put_of 2)), refl);
  };
  system_is = refl;
}

abbrev idle_entry : SystemEntry
idle_entry = record { event = systems.Service events.Tick 1 A; outcome = Acted [] []; steps = events_alone [] }

idles : SystemDoes is_again idle_entry.event idle_entry.outcome idle_entry.steps is_again
idles = record {
  step = (None, refl, refl, record { done = refl; after = refl });
  one_each = refl;
  asked = record { steps_are = refl; proper = λ x h. absurd (Contains-nil x h); happen = refl };
  system_is = refl;
}

-- ---- a snapshot of the store reaches the file server's map
abbrev sent_world : World
sent_world = record empty_world { a = stored; messages = (Changed new_label ∷ []) ∷ [] }

abbrev told_map : MapState
told_map = record { query = labels_query; held = Changed new_label ∷ [] }

abbrev told_world : World
told_world = record sent_world { maps = told_map ∷ new_map labels_query ∷ [] }

abbrev snapshot_entry : SystemEntry
snapshot_entry = record {
  event = systems.World (Ask A (Snapshot scopes.All));
  outcome = Happened (outcomes.Made 0);
  steps = events_alone ((Ask A (Snapshot scopes.All), outcomes.Made 0) ∷ []);
}

abbrev is_sent : System
is_sent = record is_again { world = sent_world }

sends : SystemDoes is_again snapshot_entry.event snapshot_entry.outcome snapshot_entry.steps is_sent
sends = record {
  allowed = refl;
  asked = record {
    steps_are = refl;
    proper = one_proper (Ask A (Snapshot scopes.All), outcomes.Made 0) tt;
    happen = (sent_world, (refl, answers (record empty_world { a = stored }) (Snapshot scopes.All)), refl);
  };
  system_is = refl;
}

under_it : under (is_under labels_query) (Changed new_label ∷ []) ≡ Changed new_label ∷ []
under_it = simp (label_passes labels_query disk refl disk_name)

itself : IsTop (Changed new_label ∷ []) (Changed new_label ∷ [])
itself = top_of_one rs_name (Changed new_label ∷ []) (refl, tt)

abbrev one_done : Tally
one_done = record { count = counting 1 1 0; owed = 0; stop = None }

takes : MapTakes (new_map labels_query) (Changed new_label ∷ []) one_done told_map
takes = record {
  query = refl;
  top = subst (IsTop (Changed new_label ∷ [])) (sym under_it) itself;
  counted = omega arith;
  owed = refl;
  ends = refl;
}

abbrev deliver_entry : SystemEntry
deliver_entry = record {
  event = systems.World (Deliver 0 (Map 0) None);
  outcome = Happened (outcomes.Merged (counting 1 1 0) 0);
  steps = events_alone ((Deliver 0 (Map 0) None, outcomes.Merged (counting 1 1 0) 0) ∷ []);
}

abbrev is_told : System
is_told = record is_again { world = told_world }

tells : SystemDoes is_sent deliver_entry.event deliver_entry.outcome deliver_entry.steps is_told
tells = record {
  allowed = refl;
  asked = record {
    steps_are = refl;
    proper = one_proper (Deliver 0 (Map 0) None, outcomes.Merged (counting 1 1 0) 0) tt;
    happen = (
      told_world,
      (
        refl,
        record {
          items = Changed new_label ∷ [];
          there = refl;
          tally = one_done;
          taken = record { old = new_map labels_query; there = refl; after = told_map; takes = takes; world_is = refl };
          outcome_is = refl;
        },
      ),
      refl,
    );
  };
  system_is = refl;
}

-- ---- follows
abbrev file : DriverTable
file = assigned_all (filter_map file_unit (service ∷ []))

abbrev net : DriverTable
net = assigned_all (filter_map net_unit (service ∷ []))

abbrev file_after : DriverTable
file_after = record file { states = record { label = disk; endpoint = Some (endpoint_of 2 16) } ∷ [] }

-- maps that have nothing tell nothing
abbrev empty_follow : SystemEntry
empty_follow = record {
  event = systems.Follow;
  outcome = Moved [] None None;
  steps = record no_steps { file = Some (plain_turn file [] file); net = Some (plain_turn net [] net) };
}

follows_empty : (rs : RsRecord) (store : State) (made : List ChangeRecord) →
    SystemDoes (at_rest rs store made) empty_follow.event empty_follow.outcome empty_follow.steps (at_rest rs store made)
follows_empty rs store made = record {
  file = plain_turn file [] file;
  first = record { before = refl; follows = inl ([], refl, (refl, refl, refl)) };
  plain = record { none = refl; after = refl };
  net = Some (plain_turn net [] net);
  more = [];
  too = (
    plain_turn net [] net,
    refl,
    record { before = refl; follows = (refl, refl, refl) },
    record { none = refl; after = refl },
    refl,
    refl,
    refl,
  );
  rounds_are = refl;
  none = refl;
  steps_are = refl;
  system_is = refl;
}

-- memory runs out at the first label
abbrev early_follow : SystemEntry
early_follow = record {
  event = systems.Follow;
  outcome = Moved [] None (Some stops.NoRoom);
  steps = record no_steps { file = Some (record (plain_turn file [] file) { stop = Some stops.NoRoom }) };
}

follows_early : SystemDoes is_told early_follow.event early_follow.outcome early_follow.steps is_told
follows_early = record {
  file = record (plain_turn file [] file) { stop = Some stops.NoRoom };
  first = record {
    before = refl;
    follows = inr (record { some = λ e. cc; rounds_are = refl; fault_is = refl; table_is = refl });
  };
  plain = record { none = refl; after = refl };
  net = None;
  more = [];
  too = (refl, refl, refl, refl);
  rounds_are = refl;
  none = refl;
  steps_are = refl;
  system_is = refl;
}

abbrev whole_follow : SystemEntry
whole_follow = record {
  event = systems.Follow;
  outcome = Moved ([] ∷ []) None None;
  steps = record no_steps { file = Some (plain_turn file ([] ∷ []) file_after); net = Some (plain_turn net [] net) };
}

abbrev is_recovered : System
is_recovered = record is_told { file = file_after }

follows_whole : SystemDoes is_told whole_follow.event whole_follow.outcome whole_follow.steps is_recovered
follows_whole = record {
  file = plain_turn file ([] ∷ []) file_after;
  first = record { before = refl; follows = inl ([], refl, (refl, refl, refl)) };
  plain = record { none = refl; after = refl };
  net = Some (plain_turn net [] net);
  more = [];
  too = (
    plain_turn net [] net,
    refl,
    record { before = refl; follows = (refl, refl, refl) },
    record { none = refl; after = refl },
    refl,
    refl,
    refl,
  );
  rounds_are = refl;
  none = refl;
  steps_are = refl;
  system_is = refl;
}

-- ---- the rows
abbrev before_it : List SystemEntry
before_it = up_entry ∷ down_entry ∷ []

abbrev ticks : List SystemEntry
ticks = again_entry ∷ idle_entry ∷ []

abbrev brought : List SystemEntry
brought = snapshot_entry ∷ deliver_entry ∷ []

abbrev told_account : MapAccount
told_account = record { query = labels_query; taken = record { item = Changed new_label; stands_for = Changed new_label ∷ [] } ∷ [] }

has_new : HasItem (account_since (seed 1) (seed 2) (before_it ++ ticks ++ brought)) File (Changed new_label)
has_new = record {
  side = A;
  known = Contains-head (Changed new_label) [];
  map = told_account;
  all = record { there = refl; whole = λ i h. (Contains-from_under (is_under labels_query) (Changed new_label ∷ []) i h).0 };
}

-- a table that wasn't told has no driver
not_served : {X : Type 0} (e : EndpointRecord) → None ≡ Some e → X
not_served e n = cc

pub serving_needs : ServingNeeds
serving_needs = record {
  known = λ law. not_served (endpoint_of 1 16) ((law one_disk (seed 1) (seed 2) 1 start is_up is_up (up_entry ∷ []) empty_follow File 0
      (running 1 0 0) A (record { query = labels_query; taken = [] }) starts (is_up, goes_up, refl)
      (follows_empty rs_up opened (label_put disk (endpoint_of 1 16) ∷ [])) refl refl refl
      (record { there = refl; whole = λ i h. absurd (Contains-nil i h) })).drivers refl);
  all = λ law. not_served (endpoint_of 2 16) ((law one_disk (seed 1) (seed 2) 1 start is_again is_again (before_it ++ again_entry ∷ [])
      empty_follow File 0 (running 2 1 1) A starts (is_up, goes_up, (is_down, goes_down, (is_again, goes_again, refl)))
      (follows_empty rs_again stored all_made) refl refl refl (Contains-head (Changed new_label) [])).drivers refl);
  whole = λ law. not_served (endpoint_of 2 16) ((law one_disk (seed 1) (seed 2) 1 start is_told is_told (before_it ++ ticks ++ brought)
      early_follow File 0 (running 2 1 1) starts
      (is_up, goes_up, (is_down, goes_down, (is_again, goes_again, (is_again, idles, (is_sent, sends, (is_told, tells, refl))))))
      follows_early refl refl has_new).drivers refl);
}

pub recovery_holds : RecoveryHolds
recovery_holds = record {
  settings = one_disk;
  a = seed 1;
  b = seed 2;
  next = 1;
  start = start;
  before = is_down;
  after = is_recovered;
  entries = before_it;
  tick = 1;
  steps = start_actions disk (endpoint_of 2 16) ∷ [];
  reports = ticks;
  between = brought;
  follow = whole_follow;
  new = starts;
  run = (is_up, goes_up, (is_down, goes_down, refl));
  recovers = record {
    settled = is_again;
    reported = (is_again, goes_again, (is_again, idles, refl));
    ticks = (
      record { side = A; replies = replies.Changed 0 ∷ []; event_is = refl; outcome_is = refl },
      (record { side = A; replies = []; event_is = refl; outcome_is = refl }, tt),
    );
    acted = (λ e. cc, tt);
    told = is_told;
    led = (is_sent, sends, (is_told, tells, refl));
    quiet = (refl, (refl, tt));
    follows = follows_whole;
    event_is = refl;
    whole = refl;
  };
  place = 0;
  pause = record { until = 1; failures = 1 };
  waited = refl;
  instance = running 2 1 1;
  runs = refl;
  has = has_new;
}
