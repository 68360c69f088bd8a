-- A new state of a label leaves a valid table.
use Rattle.std.proofs.Common.{◌≡◌, ℕ, ◌==◌, nat_lt, ◌&&◌, Bool, true, false, not, cond, List, [], ◌∷◌, ◌++◌, map, Option, Some, None}
use Rattle.std.proofs.Common.{Result, Ok, Err, refl, sym, ap, ◌∙◌, subst, arith, append-nil, inl, inr}
use Rattle.std.specs.Option.{option_map, option_map_or}
use Rattle.std.specs.List.{retain_mut, filter_map, flat_map, find, cons_option, AllByRecursion}
use Rattle.std.proofs.lemmas.Bool.Decides.{nat_tests}
use Rattle.std.proofs.lemmas.Grind.{flat_map-append}
use Rattle.ds_names.specs.Endpoint.{EndpointRecord}
use Rattle.driver_tables.specs.declared.moves.Ending.{Ending}
use Rattle.driver_tables.specs.declared.moves.Move.{Move}
use Rattle.driver_tables.specs.declared.fault.TableFault.{TableFault}
use Rattle.driver_tables.specs.declared.fault.TableFault.TheVariants.{OldEndpoint}
use Rattle.driver_tables.specs.declared.device.Class.{Class}
use Rattle.driver_tables.specs.declared.device.Class.TheVariants.{Block, Character, Network}
use Rattle.driver_tables.specs.declared.device.Device.{Device}
use Rattle.driver_tables.specs.declared.request.Pending.{Pending}
use Rattle.driver_tables.specs.Driver.{Driver, driver_of, has_label}
use Rattle.driver_tables.specs.Label.{LabelState, endpoint_now, newest, newer, is_same_state, is_old}
use Rattle.driver_tables.specs.DriverTable.{DriverTable, Request, values_of, is_pending, pending, is_requested}
use Rattle.driver_tables.specs.Doing.{sends_of, answered_by, does}
use Rattle.driver_tables.specs.Changed.{network_start, start, settled, settled_of, settle, all_moves, notes, changing}
use Rattle.driver_tables.specs.Reached.{IsRequestServed, IsTableReached, IsAnsweredBy}
use Rattle.driver_tables.specs.Stands.{TableRecord, TableStands, unit_of, pending_of}
use Rattle.driver_tables.specs.Devices.{is_of_label, noted, start_move}
use Rattle.driver_tables.specs.Requests.{settled_in, is_kept_in, kept_in}
use Rattle.driver_tables.proofs.TestLemmas.{equal_number, same_name}
use Rattle.driver_tables.proofs.UnitLemmas.{now_after, newest_after, noted_all, starts_are, settles_as}
use Rattle.driver_tables.proofs.MoveLemmas.{values-append, answered, sent, endings, targets, IsOf, answers_left, sends_left, parts}
use Rattle.driver_tables.proofs.MoveLemmas.{parts_are, none_left, each_left}
use Rattle.driver_tables.proofs.RequestLemmas.{Follows, Reaches, pending_after, served_after}
use Rattle.driver_tables.proofs.StandsLemmas.{first_device, no_device}
use Rattle.ds_names.specs.Name.{is_same_name}
use Rattle.std.proofs.lemmas.Bool.{and_parts, or_parts}

-- ---- the answer
abbrev judged : DriverTable → List ℕ → Option EndpointRecord → Bool → Bool → Bool → Result (List Move) TableFault × DriverTable
judged t label state has old same =
    cond (not has) (Ok [], t) (cond old (Err OldEndpoint, t)
    (Ok (cond same [] (all_moves t label state)), does (notes t label state) (cond same [] (all_moves t label state))))

pub change_nothing : (v : TableRecord) (t : DriverTable) (label : List ℕ) (state : Option EndpointRecord) → TableStands v t →
    option_map (λ (u : ℕ × Device). u.1) (find (is_of_label label) v.devices) ≡ None → changing t label state ≡ (Ok [], t)
change_nothing v t label state s e =
    ap (λ (b : Bool). judged t label state b (is_old (newest t.states label) (endpoint_now t.states label) state)
    (is_same_state (endpoint_now t.states label) state)) (no_device v t label s e)

pub change_judged : (v : TableRecord) (t : DriverTable) (label : List ℕ) (state : Option EndpointRecord) (d : Device) (old same : Bool) →
    TableStands v t → option_map (λ (u : ℕ × Device). u.1) (find (is_of_label label) v.devices) ≡ Some d →
    is_old d.newest d.endpoint state ≡ old → is_same_state d.endpoint state ≡ same →
    changing t label state ≡ judged t label state true old same
change_judged v t label state d old same s e o h =
    let k = first_device v t label d s e in
    ap (λ (b : Bool). judged t label state b (is_old (newest t.states label) (endpoint_now t.states label) state)
    (is_same_state (endpoint_now t.states label) state)) k.0
    ∙ (ap (λ (x : Option ℕ). judged t label state true (is_old x (endpoint_now t.states label) state)
    (is_same_state (endpoint_now t.states label) state)) (sym k.2)
    ∙ (ap (λ (x : Option EndpointRecord). judged t label state true (is_old d.newest x state) (is_same_state x state)) (sym k.1)
    ∙ (ap (λ (b : Bool). judged t label state true b (is_same_state d.endpoint state)) o ∙ ap (judged t label state true old) h)))

-- a state that isn't old for the device isn't old for the table
pub not_old : (v : TableRecord) (t : DriverTable) (label : List ℕ) (state : Option EndpointRecord) (d : Device) → TableStands v t →
    option_map (λ (u : ℕ × Device). u.1) (find (is_of_label label) v.devices) ≡ Some d →
    is_old d.newest d.endpoint state ≡ false → is_old (newest t.states label) (endpoint_now t.states label) state ≡ false
not_old v t label state d s e o =
    let k = first_device v t label d s e in
    ap (λ (x : Option ℕ). is_old x (endpoint_now t.states label) state) (sym k.2) ∙
    (ap (λ (x : Option EndpointRecord). is_old d.newest x state) (sym k.1) ∙ o)

pub new_state : (v : TableRecord) (t : DriverTable) (label : List ℕ) (state : Option EndpointRecord) (d : Device) (same : Bool) →
    TableStands v t → option_map (λ (u : ℕ × Device). u.1) (find (is_of_label label) v.devices) ≡ Some d →
    is_same_state d.endpoint state ≡ same → is_same_state (endpoint_now t.states label) state ≡ same
new_state v t label state d same s e h = ap (λ (x : Option EndpointRecord). is_same_state x state) (sym (first_device v t label d s e).1) ∙
    h

-- ---- the moves
settle_own : (units : List (ℕ × Driver)) (label : List ℕ) (state : Option EndpointRecord) (r : Request) →
    IsOf (settle units label state r) r.id
settle_own units label state r = by (driver_of units r.unit)
  where
    by_class : (class : Class) (state : Option EndpointRecord) → IsOf (settled class r.id state) r.id
    by_class Block None = tt
    by_class Block (Some e) = refl
    by_class Character state = refl
    by_class Network state = refl

    by_test : (b : Bool) (d : Driver) → IsOf (cond b (settled d.class r.id state) None) r.id
    by_test true d = by_class d.class state
    by_test false d = tt

    by : (d : Option Driver) → IsOf (option_map_or (settled_of label state r.id) d None) r.id
    by None = tt
    by (Some d) = by_test (is_same_name label d.label) d

-- starts answer nothing and send nothing
starts_answer : (units : List (ℕ × Driver)) (label : List ℕ) (state : Option EndpointRecord) →
    flat_map answered_by (filter_map (start label state) units) ≡ []
starts_answer [] label state = refl
starts_answer (u ∷ units) label state = by (is_same_name label u.1.label) u.1.class state ∙ starts_answer units label state
  where
    by : (b : Bool) (class : Class) (s : Option EndpointRecord) →
        flat_map answered_by (cons_option (cond b (network_start class u.0 s) None) (filter_map (start label state) units)) ≡ flat_map
        answered_by
        (filter_map (start label state) units)
    by false class s = refl
    by true Block s = refl
    by true Character s = refl
    by true Network None = refl
    by true Network (Some e) = refl

starts_send : (units : List (ℕ × Driver)) (label : List ℕ) (state : Option EndpointRecord) →
    flat_map sends_of (filter_map (start label state) units) ≡ []
starts_send [] label state = refl
starts_send (u ∷ units) label state = by (is_same_name label u.1.label) u.1.class state ∙ starts_send units label state
  where
    by : (b : Bool) (class : Class) (s : Option EndpointRecord) →
        flat_map sends_of (cons_option (cond b (network_start class u.0 s) None) (filter_map (start label state) units)) ≡ flat_map
        sends_of (filter_map (start label state) units)
    by false class s = refl
    by true Block s = refl
    by true Character s = refl
    by true Network None = refl
    by true Network (Some e) = refl

abbrev pub more_answers : DriverTable → List ℕ → Option EndpointRecord → List (ℕ × Ending)
more_answers t label state = parts answered (settle t.units label state) (is_pending t.answers) t.requests

abbrev pub more_sends : DriverTable → List ℕ → Option EndpointRecord → List (ℕ × EndpointRecord)
more_sends t label state = parts sent (settle t.units label state) (is_pending t.answers) t.requests

abbrev pub moved : DriverTable → List ℕ → Option EndpointRecord → DriverTable
moved t label state = record (notes t label state)
    { sends = t.sends ++ more_sends t label state; answers = t.answers ++ more_answers t label state }

pub does_is : (t : DriverTable) (label : List ℕ) (state : Option EndpointRecord) →
    does (notes t label state) (all_moves t label state) ≡ moved t label state
does_is t label state =
    let ask = settle t.units label state in
    let starts = filter_map (start label state) t.units in
    let rest = filter_map ask (pending t) in
    let a : flat_map answered_by (starts ++ rest) ≡ more_answers t label state =
    flat_map-append answered_by starts rest ∙
    (ap (λ (l : List (ℕ × Ending)). l ++ flat_map answered_by rest) (starts_answer t.units label state) ∙
    parts_are answered_by answered refl (λ m. refl) ask (is_pending t.answers) t.requests) in
    let b : flat_map sends_of (starts ++ rest) ≡ more_sends t label state =
    flat_map-append sends_of starts rest ∙ (ap (λ (l : List (ℕ × EndpointRecord)). l ++ flat_map sends_of rest)
    (starts_send t.units label state) ∙ parts_are sends_of sent refl (λ m. refl) ask (is_pending t.answers) t.requests) in
    ap (λ (l : List (ℕ × EndpointRecord)). record (notes t label state)
    { sends = t.sends ++ l; answers = t.answers ++ flat_map answered_by (starts ++ rest) }) b
    ∙ ap (λ (l : List (ℕ × Ending)). record (notes t label state)
    { sends = t.sends ++ more_sends t label state; answers = t.answers ++ l }) a

settled_are : (states : List LabelState) (units : List (ℕ × Driver)) (label : List ℕ) (state : Option EndpointRecord)
    (sends : List (ℕ × EndpointRecord)) (requests : List Request) →
    filter_map (settled_in (map (unit_of states) units) label state) (map (pending_of sends) requests) ≡ filter_map
    (settle units label state) requests
settled_are states units label state sends [] = refl
settled_are states units label state sends (r ∷ requests) =
    ap (λ (o : Option Move). cons_option o (filter_map (settled_in (map (unit_of states) units) label state)
    (map (pending_of sends) requests))) (settles_as states units label state r (pending_of sends r) refl refl)
    ∙ ap (cons_option (settle units label state r)) (settled_are states units label state sends requests)

pub moves_are : (v : TableRecord) (t : DriverTable) (label : List ℕ) (state : Option EndpointRecord) → TableStands v t →
    filter_map (start_move label state) v.devices ++ filter_map (settled_in v.devices label state) v.pending ≡ all_moves t label state
moves_are v t label state s =
    ap (λ (d : List (ℕ × Device)). filter_map (start_move label state) d ++ filter_map (settled_in d label state) v.pending) s.devices
    ∙ (ap (λ (l : List Pending). filter_map (start_move label state) (map (unit_of t.states) t.units) ++ filter_map
    (settled_in (map (unit_of t.states) t.units) label state) l) s.pending
    ∙ (ap (λ (l : List Move). l ++ filter_map (settled_in (map (unit_of t.states) t.units) label state)
    (map (pending_of t.sends) (pending t))) (starts_are t.states t.units label state)
    ∙ ap (λ (l : List Move). filter_map (start label state) t.units ++ l) (settled_are t.states t.units label state t.sends (pending t))))

-- ---- the requests
both_follow : (t : DriverTable) (answers : List (ℕ × Ending)) (sends : List (ℕ × EndpointRecord)) (ask : Request → Option Move)
    (requests : List Request) →
    AllByRecursion (λ (r : Request). values_of r.id answers ≡ cond (is_pending t.answers r) (endings (ask r)) []) requests →
    AllByRecursion (λ (r : Request). values_of r.id sends ≡ cond (is_pending t.answers r) (targets (ask r)) []) requests →
    AllByRecursion (λ (r : Request). Follows t answers sends r (ask r)) requests
both_follow t answers sends ask [] a s = tt
both_follow t answers sends ask (r ∷ requests) a s =
    (record { answered = a.0; sent = s.0 }, both_follow t answers sends ask requests a.1 s.1)

pub all_follow : (t : DriverTable) (label : List ℕ) (state : Option EndpointRecord) → IsTableReached t →
    AllByRecursion (λ (r : Request). Follows t (more_answers t label state) (more_sends t label state) r (settle t.units label state r))
    t.requests
all_follow t label state h =
    both_follow t (more_answers t label state) (more_sends t label state) ask t.requests
    (each_left answered endings answers_left ask (settle_own t.units label state) (is_pending t.answers) t.requests h.distinct)
    (each_left sent targets sends_left ask (settle_own t.units label state) (is_pending t.answers) t.requests h.distinct)
  where
    ask : Request → Option Move
    ask = settle t.units label state

-- an id of no request differs from that of each
pub all_differ : (requests : List Request) (id : ℕ) → is_requested requests id ≡ false →
    AllByRecursion (λ (r : Request). r.id == id ≡ false) requests
all_differ [] id e = tt
all_differ (r ∷ requests) id e = let l = or_parts (r.id == id) (is_requested requests id) e in (l.0, all_differ requests id l.1)

-- ---- labels
-- a new state of a label that has a unit changes nothing for a label that has none
labels_still : (t : DriverTable) (label : List ℕ) (state : Option EndpointRecord) → has_label t.units label ≡ true → IsTableReached t →
    (other : List ℕ) → has_label t.units other ≡ false →
    (endpoint_now (notes t label state).states other ≡ None) × (newest (notes t label state).states other ≡ None)
labels_still t label state has h other none = by (is_same_name label other) refl
  where
    s : LabelState
    s = record { label = label; endpoint = state }

    by : (b : Bool) → is_same_name label other ≡ b →
        (endpoint_now (t.states ++ s ∷ []) other ≡ None) × (newest (t.states ++ s ∷ []) other ≡ None)
    by true e = let k : true ≡ false = sym has ∙ (ap (has_label t.units) (same_name label other e) ∙ none) in absurd (cc)
    by false e =
        let before = h.labels other none in (
          now_after t.states s other ∙ (ap (λ (b : Bool). cond b state (endpoint_now t.states other)) e ∙ before.0),
          newest_after t.states s other ∙ (ap (λ (b : Bool). cond b (newer (newest t.states other) state) (newest t.states other)) e ∙
              before.1),
        )

-- a state that isn't old has the greatest generation
newer_is : (g : Option ℕ) (now : Option EndpointRecord) (e : EndpointRecord) → is_old g now (Some e) ≡ false →
    newer g (Some e) ≡ Some e.generation
newer_is None now e o = refl
newer_is (Some g) now e o =
    let l : nat_lt e.generation g ≡ false = (or_parts (nat_lt e.generation g) ((e.generation == g) && not (is_same_state now (Some e)))
    o).0 in
    let n : cond (nat_lt g e.generation) e.generation g ≡ e.generation = greatest (nat_lt g e.generation) refl l in
    ap (λ (k : ℕ). Some k) n
  where
    greatest : (b : Bool) → nat_lt g e.generation ≡ b → nat_lt e.generation g ≡ false → cond b e.generation g ≡ e.generation
    greatest true h l = refl
    greatest false h l = grind (arith, nat_tests)

current_still : (t : DriverTable) (label : List ℕ) (state : Option EndpointRecord) →
    is_old (newest t.states label) (endpoint_now t.states label) state ≡ false → IsTableReached t → (other : List ℕ) (e : EndpointRecord) →
    endpoint_now (notes t label state).states other ≡ Some e → newest (notes t label state).states other ≡ Some e.generation
current_still t label state old h other e k = by (is_same_name label other) refl
  where
    s : LabelState
    s = record { label = label; endpoint = state }

    by : (b : Bool) → is_same_name label other ≡ b → newest (t.states ++ s ∷ []) other ≡ Some e.generation
    by true q =
        let is : state ≡ Some e = sym (now_after t.states s other ∙ ap (λ (b : Bool). cond b state (endpoint_now t.states other)) q) ∙ k in
        let old_here : is_old (newest t.states other) (endpoint_now t.states other) (Some e) ≡ false =
        ap (is_old (newest t.states other) (endpoint_now t.states other)) (sym is) ∙
        (ap (λ (l : List ℕ). is_old (newest t.states l) (endpoint_now t.states l) state) (sym (same_name label other q)) ∙ old) in
        newest_after t.states s other ∙ (ap (λ (b : Bool). cond b (newer (newest t.states other) state) (newest t.states other)) q ∙
        (ap (newer (newest t.states other)) is ∙ newer_is (newest t.states other) (endpoint_now t.states other) e old_here))
    by false q =
        let before : endpoint_now t.states other ≡ Some e =
        sym (now_after t.states s other ∙ ap (λ (b : Bool). cond b state (endpoint_now t.states other)) q) ∙ k in
        newest_after t.states s other ∙ (ap (λ (b : Bool). cond b (newer (newest t.states other) state) (newest t.states other)) q ∙
        h.current other e before)

-- ---- each request is served by the driver that there is now
served_moved : (t : DriverTable) (label : List ℕ) (state : Option EndpointRecord) (requests : List Request) →
    AllByRecursion (λ (r : Request). Follows t (more_answers t label state) (more_sends t label state) r (settle t.units label state r))
    requests →
    AllByRecursion (IsRequestServed t) requests → AllByRecursion (IsRequestServed (moved t label state)) requests
served_moved t label state [] f h = tt
served_moved t label state (r ∷ requests) f h = (
  served_after t (moved t label state) (more_answers t label state) (more_sends t label state) r (settle t.units label state r) f.0 h.0
      refl refl h.0.found
      (λ o. subst (λ (m : Option Move). IsAnsweredBy d.class (endings m)) (sym asks) (fits (is_same_name label d.label) d.class state))
      (λ o. subst (λ (m : Option Move). Reaches (endpoint_now t.states d.label) (endpoint_now (moved t label state).states d.label) m)
      (sym asks) (reaches (is_same_name label d.label) refl d.class state refl)),
  served_moved t label state requests f.1 h.1,
)
  where
    d : Driver
    d = h.0.driver

    s : LabelState
    s = record { label = label; endpoint = state }

    asks : settle t.units label state r ≡ settled_of label state r.id d
    asks = ap (λ (o : Option Driver). option_map_or (settled_of label state r.id) o None) h.0.found

    fits : (b : Bool) (class : Class) (state : Option EndpointRecord) →
        IsAnsweredBy class (endings (cond b (settled class r.id state) None))
    fits false class state = tt
    fits true Block None = tt
    fits true Block (Some e) = tt
    fits true Character state = tt
    fits true Network state = tt

    reaches : (b : Bool) → is_same_name label d.label ≡ b → (class : Class) (new : Option EndpointRecord) → new ≡ state →
        Reaches (endpoint_now t.states d.label) (endpoint_now (t.states ++ s ∷ []) d.label) (cond b (settled class r.id new) None)
    reaches false q class new n e now silent = inr
        (refl, sym (now_after t.states s d.label ∙ ap (λ (b : Bool). cond b state (endpoint_now t.states d.label)) q) ∙ now)
    reaches true q Block None n e now silent = let k : None ≡ Some e =
        n ∙ (sym (now_after t.states s d.label ∙ ap (λ (b : Bool). cond b state (endpoint_now t.states d.label)) q) ∙ now) in cc
    reaches true q Block (Some f) n e now silent = let k : f ≡ e =
        same f e (n ∙ (sym (now_after t.states s d.label ∙ ap (λ (b : Bool). cond b state (endpoint_now t.states d.label)) q) ∙
        now)) in inl (ap (λ (x : EndpointRecord). x ∷ []) k)
      where
        same : (f e : EndpointRecord) → Some f ≡ Some e → f ≡ e
        same f e h = cc
    reaches true q Character new n e now silent = cc
    reaches true q Network new n e now silent = cc

pub reached_moved : (t : DriverTable) (label : List ℕ) (state : Option EndpointRecord) → IsTableReached t → has_label t.units label ≡ true →
    is_old (newest t.states label) (endpoint_now t.states label) state ≡ false → IsTableReached (moved t label state)
reached_moved t label state h has old = record {
  units = h.units;
  labels = labels_still t label state has h;
  current = current_still t label state old h;
  distinct = h.distinct;
  unasked = λ k none.
      let before = h.unasked k none in
      let differ = all_differ t.requests k none in (
        values-append k t.sends (more_sends t label state) ∙
            (ap (λ (l : List EndpointRecord). l ++ values_of k (more_sends t label state)) before.0 ∙
            none_left sent targets sends_left ask (settle_own t.units label state) (is_pending t.answers) k t.requests differ),
        values-append k t.answers (more_answers t label state) ∙
            (ap (λ (l : List Ending). l ++ values_of k (more_answers t label state)) before.1 ∙
            none_left answered endings answers_left ask (settle_own t.units label state) (is_pending t.answers) k t.requests differ),
      );
  served = served_moved t label state t.requests (all_follow t label state h) h.served;
}
  where
    ask : Request → Option Move
    ask = settle t.units label state

-- the state that a label has already changes nothing but the list of states
pub same_state : (a b : Option EndpointRecord) → is_same_state a b ≡ true → a ≡ b
same_state None None h = refl
same_state None (Some e) h = cc
same_state (Some d) None h = cc
same_state (Some d) (Some e) h =
    let l = and_parts (d.generation == e.generation) (d.slot == e.slot) h in
    let g : d.generation ≡ e.generation = equal_number d.generation e.generation l.0 in
    let n : d.slot ≡ e.slot = equal_number d.slot e.slot l.1 in
    ap (λ (k : ℕ). Some (record { generation = k; slot = d.slot })) g ∙
    ap (λ (k : ℕ). Some (record { generation = e.generation; slot = k })) n

now_still : (t : DriverTable) (label : List ℕ) (state : Option EndpointRecord) → is_same_state (endpoint_now t.states label) state ≡ true →
    (other : List ℕ) → endpoint_now (notes t label state).states other ≡ endpoint_now t.states other
now_still t label state same other = now_after t.states s other ∙ by (is_same_name label other) refl
  where
    s : LabelState
    s = record { label = label; endpoint = state }

    by : (b : Bool) → is_same_name label other ≡ b → cond b state (endpoint_now t.states other) ≡ endpoint_now t.states other
    by true q = sym (same_state (endpoint_now t.states label) state same) ∙ ap (endpoint_now t.states) (same_name label other q)
    by false q = refl

newest_still : (t : DriverTable) (label : List ℕ) (state : Option EndpointRecord) → IsTableReached t →
    is_same_state (endpoint_now t.states label) state ≡ true → (other : List ℕ) →
    newest (notes t label state).states other ≡ newest t.states other
newest_still t label state h same other = newest_after t.states s other ∙ by (is_same_name label other) refl
  where
    s : LabelState
    s = record { label = label; endpoint = state }

    again : (now : Option EndpointRecord) → endpoint_now t.states other ≡ now → newer (newest t.states other) now ≡ newest t.states other
    again None e = refl
    again (Some e) q =
        let g = h.current other e q in
        ap (λ (g : Option ℕ). newer g (Some e)) g ∙ (if_same (nat_lt e.generation e.generation) ∙ sym g)
      where
        if_same : (b : Bool) → Some (cond b e.generation e.generation) ≡ Some e.generation
        if_same true = refl
        if_same false = refl

    by : (b : Bool) → is_same_name label other ≡ b →
        cond b (newer (newest t.states other) state) (newest t.states other) ≡ newest t.states other
    by true q =
        let is : state ≡ endpoint_now t.states other =
        sym (same_state (endpoint_now t.states label) state same) ∙ ap (endpoint_now t.states) (same_name label other q) in
        ap (newer (newest t.states other)) is ∙ again (endpoint_now t.states other) refl
    by false q = refl

units_still : (t : DriverTable) (label : List ℕ) (state : Option EndpointRecord) → IsTableReached t →
    is_same_state (endpoint_now t.states label) state ≡ true → (units : List (ℕ × Driver)) →
    map (unit_of (notes t label state).states) units ≡ map (unit_of t.states) units
units_still t label state h same [] = refl
units_still t label state h same (u ∷ units) = cc (one, units_still t label state h same units)
  where
    made : Option EndpointRecord → Option ℕ → ℕ × Device
    made now newest = (u.0, record { class = u.1.class; label = u.1.label; endpoint = now; newest = newest })

    one : unit_of (notes t label state).states u ≡ unit_of t.states u
    one = ap (λ (e : Option EndpointRecord). made e (newest (notes t label state).states u.1.label))
        (now_still t label state same u.1.label)
        ∙ ap (made (endpoint_now t.states u.1.label)) (newest_still t label state h same u.1.label)

served_noted : (t : DriverTable) (label : List ℕ) (state : Option EndpointRecord) →
    is_same_state (endpoint_now t.states label) state ≡ true → (requests : List Request) →
    AllByRecursion (IsRequestServed t) requests → AllByRecursion (IsRequestServed (notes t label state)) requests
served_noted t label state same [] h = tt
served_noted t label state same (r ∷ requests) h = (
  record {
    driver = h.0.driver;
    found = h.0.found;
    answered = h.0.answered;
    sent = λ none e now.
        h.0.sent none e (sym (now_still t label state same h.0.driver.label) ∙ now);
  },
  served_noted t label state same requests h.1,
)

pub reached_noted : (t : DriverTable) (label : List ℕ) (state : Option EndpointRecord) → IsTableReached t → has_label t.units label ≡ true →
    is_old (newest t.states label) (endpoint_now t.states label) state ≡ false → is_same_state (endpoint_now t.states label) state ≡ true →
    IsTableReached (notes t label state)
reached_noted t label state h has old same = record {
  units = h.units;
  labels = labels_still t label state has h;
  current = current_still t label state old h;
  distinct = h.distinct;
  unasked = h.unasked;
  served = served_noted t label state same t.requests h.served;
}

pub notes_is : (t : DriverTable) (label : List ℕ) (state : Option EndpointRecord) → does (notes t label state) [] ≡ notes t label state
notes_is t label state =
    ap (λ (l : List (ℕ × EndpointRecord)). record (notes t label state) { sends = l; answers = t.answers ++ [] }) (append-nil t.sends)
    ∙ ap (λ (l : List (ℕ × Ending)). record (notes t label state) { answers = l }) (append-nil t.answers)

-- ---- the table that the value stands for afterwards
follow_kept : (t : DriverTable) (label : List ℕ) (state : Option EndpointRecord) (answers : List (ℕ × Ending))
    (sends : List (ℕ × EndpointRecord)) (requests : List Request) →
    AllByRecursion (λ (r : Request). Follows t answers sends r (settle t.units label state r)) requests →
    AllByRecursion (λ (r : Request). Follows t answers sends r
    (settled_in (map (unit_of t.states) t.units) label state (pending_of t.sends r))) requests
follow_kept t label state answers sends [] f = tt
follow_kept t label state answers sends (r ∷ requests) f = (
  subst (Follows t answers sends r) (sym (settles_as t.states t.units label state r (pending_of t.sends r) refl refl)) f.0,
  follow_kept
      t label state answers sends requests f.1,
)

pub stands_moved : (v : TableRecord) (t : DriverTable) (label : List ℕ) (state : Option EndpointRecord) (devices : List (ℕ × Device))
    (left : List Pending) → TableStands v t →
    has_label t.units label ≡ true → is_old (newest t.states label) (endpoint_now t.states label) state ≡ false →
    devices ≡ map (noted label state) v.devices →
    left ≡ retain_mut (is_kept_in v.devices label state) (kept_in v.devices label state) v.pending →
    TableStands (record { devices = devices; pending = left; last = v.last }) (does (notes t label state) (all_moves t label state))
stands_moved v t label state devices left s has old d e =
    subst (TableStands (record { devices = devices; pending = left; last = v.last })) (sym (does_is t label state)) (record {
      devices = d ∙ (ap (map (noted label state)) s.devices ∙ noted_all t.states t.units label state);
      pending = e ∙ (ap (λ (l : List (ℕ × Device)). retain_mut (is_kept_in l label state) (kept_in l label state) v.pending) s.devices ∙
          (ap (retain_mut (is_kept_in kept label state) (kept_in kept label state)) s.pending
          ∙ pending_after t (more_answers t label state) (more_sends t label state) (settled_in kept label state) t.requests
          (follow_kept t label state (more_answers t label state) (more_sends t label state) t.requests
          (all_follow t label state s.reached))));
      last = s.last;
      reached = reached_moved t label state s.reached has old;
    })
  where
    kept : List (ℕ × Device)
    kept = map (unit_of t.states) t.units

pub stands_noted : (v : TableRecord) (t : DriverTable) (label : List ℕ) (state : Option EndpointRecord) → TableStands v t →
    has_label t.units label ≡ true → is_old (newest t.states label) (endpoint_now t.states label) state ≡ false →
    is_same_state (endpoint_now t.states label) state ≡ true → TableStands v (does (notes t label state) [])
stands_noted v t label state s has old same = subst (TableStands v) (sym (notes_is t label state)) (record {
  devices = s.devices ∙ sym (units_still t label state s.reached same t.units);
  pending = s.pending;
  last = s.last;
  reached = reached_noted t label state s.reached has old same;
})
