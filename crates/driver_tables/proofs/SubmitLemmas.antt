-- A submitted request leaves a valid table.
use Rattle.std.proofs.Common.{◌≡◌, ℕ, ◌==◌, nat_lt, ◌||◌, ◌&&◌, Bool, true, false, not, cond, List, [], ◌∷◌, ◌++◌, map, filter, Option}
use Rattle.std.proofs.Common.{Some, None, Result, Ok, Err, refl, sym, ap, ◌∙◌, subst, append-nil, inr}
use Rattle.std.specs.Option.{option_map}
use Rattle.std.specs.List.{retain_mut, last_or, AllByRecursion, IsDistinct}
use Rattle.std.specs.Map.{lookup}
use Rattle.std.proofs.lemmas.List.{map-append}
use Rattle.std.proofs.lemmas.List.Elements.{filter-append}
use Rattle.std.proofs.lemmas.List.Folds.{list_any-append, list_all-append}
use Rattle.ds_names.specs.Endpoint.{EndpointRecord}
use Rattle.driver_tables.specs.declared.moves.Ending.{Ending}
use Rattle.driver_tables.specs.declared.moves.Move.{Move}
use Rattle.driver_tables.specs.declared.fault.TableFault.{TableFault}
use Rattle.driver_tables.specs.declared.fault.TableFault.TheVariants.{TwoIds, NoDevice}
use Rattle.driver_tables.specs.declared.device.Class.{Class}
use Rattle.driver_tables.specs.declared.device.Class.TheVariants.{Block, Character, Network}
use Rattle.driver_tables.specs.declared.device.Device.{Device}
use Rattle.driver_tables.specs.declared.request.Pending.{Pending}
use Rattle.driver_tables.specs.Driver.{Driver, driver_of}
use Rattle.driver_tables.specs.Label.{endpoint_now}
use Rattle.driver_tables.specs.DriverTable.{DriverTable, Request, values_of, last_sent, is_empty, is_pending, pending, is_for, is_requested}
use Rattle.driver_tables.specs.DriverTable.{is_above}
use Rattle.driver_tables.specs.Doing.{sends_of, answered_by, does}
use Rattle.driver_tables.specs.Submit.{submitted, move_of, with_request, submitting_to, submitting}
use Rattle.driver_tables.specs.Reached.{IsRequestServed, IsTableReached, IsAnsweredBy}
use Rattle.driver_tables.specs.Stands.{TableRecord, TableStands, device_of, pending_of, is_above_last}
use Rattle.driver_tables.specs.Requests.{is_ending}
use Rattle.driver_tables.proofs.TestLemmas.{equal_turned, below_differs, below_trans}
use Rattle.driver_tables.proofs.MoveLemmas.{values-append, endings, targets, IsOf, answers_left, sends_left}
use Rattle.driver_tables.proofs.RequestLemmas.{Follows, pending_after, served_after}
use Rattle.driver_tables.proofs.StandsLemmas.{driver_kept}
use Rattle.std.proofs.lemmas.Bool.{and_parts, or_parts}

-- ---- the answer
abbrev judged : DriverTable → Request → Bool → Option Driver → Result Move TableFault × DriverTable
judged t r above d = cond above (submitting_to t r d) (Err TwoIds, t)

pub submit_twice : (v : TableRecord) (t : DriverTable) (id unit : ℕ) → TableStands v t → is_above_last v.last id ≡ false →
    submitting t id unit ≡ (Err TwoIds, t)
submit_twice v t id unit s e = ap (λ (b : Bool). judged t (record { id = id; unit = unit }) b (driver_of t.units unit)) (s.last id ∙ e)

above : (v : TableRecord) (t : DriverTable) (id unit : ℕ) → TableStands v t → is_above_last v.last id ≡ true →
    submitting t id unit ≡ submitting_to t (record { id = id; unit = unit }) (driver_of t.units unit)
above v t id unit s e = ap (λ (b : Bool). judged t (record { id = id; unit = unit }) b (driver_of t.units unit)) (s.last id ∙ e)

pub submit_nowhere : (v : TableRecord) (t : DriverTable) (id unit : ℕ) → TableStands v t → is_above_last v.last id ≡ true →
    lookup (λ u. unit == u) v.devices ≡ None → submitting t id unit ≡ (Err NoDevice, t)
submit_nowhere v t id unit s e n = above v t id unit s e ∙ by (driver_of t.units unit) (sym (driver_kept v t unit s) ∙ n)
  where
    by : (d : Option Driver) → option_map (device_of t.states) d ≡ None →
        submitting_to t (record { id = id; unit = unit }) d ≡ (Err NoDevice, t)
    by None e = refl
    by (Some d) e = cc

-- the table after a request and its move
abbrev pub taken : DriverTable → Request → Move → DriverTable
taken t r m = does (with_request t r) (m ∷ [])

-- the unit's driver, if the device was found
pub driver_there : (v : TableRecord) (t : DriverTable) (unit : ℕ) (d : Device) → TableStands v t →
    lookup (λ u. unit == u) v.devices ≡ Some d → (o : Driver) × (driver_of t.units unit ≡ Some o) × (device_of t.states o ≡ d)
driver_there v t unit d s n = by (driver_of t.units unit) refl (sym (driver_kept v t unit s) ∙ n)
  where
    by : (o : Option Driver) → driver_of t.units unit ≡ o → option_map (device_of t.states) o ≡ Some d →
        (x : Driver) × (driver_of t.units unit ≡ Some x) × (device_of t.states x ≡ d)
    by None q e = cc
    by (Some o) q e = let same : device_of t.states o ≡ d = cc in (o, q, same)

pub submit_is : (v : TableRecord) (t : DriverTable) (id unit : ℕ) (d : Device) → TableStands v t → is_above_last v.last id ≡ true →
    lookup (λ u. unit == u) v.devices ≡ Some d →
    submitting t id unit ≡
    (Ok (submitted d.class id d.endpoint), taken t (record { id = id; unit = unit }) (submitted d.class id d.endpoint))
submit_is v t id unit d s e n =
    let r : Request = record { id = id; unit = unit } in
    let there = driver_there v t unit d s n in
    above v t id unit s e ∙ (ap (submitting_to t r) there.1 ∙
    ap (λ (x : Device). (Ok (submitted x.class id x.endpoint), taken t r (submitted x.class id x.endpoint))) there.2)

-- ---- ids
-- a new id differs from all before
pub other_ids : (requests : List Request) (id : ℕ) → is_above requests id ≡ true →
    AllByRecursion (λ (r : Request). r.id == id ≡ false) requests
other_ids [] id e = tt
other_ids (r ∷ requests) id e = let l = and_parts (nat_lt r.id id) (is_above requests id) e in
    (below_differs r.id id l.0, other_ids requests id l.1)

pub not_asked : (requests : List Request) (id : ℕ) → AllByRecursion (λ (r : Request). r.id == id ≡ false) requests →
    is_requested requests id ≡ false
not_asked [] id h = refl
not_asked (r ∷ requests) id h = ap (λ (b : Bool). b || is_requested requests id) h.0 ∙ not_asked requests id h.1

above_on : (requests : List Request) (id k : ℕ) → is_above requests id ≡ true → nat_lt id k ≡ true → is_above requests k ≡ true
above_on [] id k e l = refl
above_on (r ∷ requests) id k e l =
    let h = and_parts (nat_lt r.id id) (is_above requests id) e in
    ap (λ (x : Bool). x && is_above requests k) (below_trans r.id id k h.0 l) ∙ above_on requests id k h.1 l

-- the new id is the last one
last_above : (requests : List Request) (new : Request) (k : ℕ) → is_above requests new.id ≡ true →
    is_above (requests ++ new ∷ []) k ≡ nat_lt new.id k
last_above requests new k e = list_all-append (λ (r : Request). nat_lt r.id k) requests (new ∷ []) ∙ by (nat_lt new.id k) refl
  where
    none : (x : Bool) → x && false ≡ false
    none true = refl
    none false = refl

    by : (b : Bool) → nat_lt new.id k ≡ b → is_above requests k && (b && true) ≡ b
    by true h = ap (λ (x : Bool). x && true) (above_on requests new.id k e h)
    by false h = none (is_above requests k)

distinct_on : (requests : List Request) (new : Request) → AllByRecursion (λ (r : Request). r.id == new.id ≡ false) requests →
    IsDistinct (λ (r s : Request). r.id == s.id) requests → IsDistinct (λ (r s : Request). r.id == s.id) (requests ++ new ∷ [])
unfolding IsDistinct
distinct_on [] new o h = (tt, tt)
distinct_on (r ∷ requests) new o h = (one_more requests h.0, distinct_on requests new o.1 h.1)
  where
    one_more : (l : List Request) → AllByRecursion (λ (s : Request). r.id == s.id ≡ false) l →
        AllByRecursion (λ (s : Request). r.id == s.id ≡ false) (l ++ new ∷ [])
    one_more [] d = (o.0, tt)
    one_more (s ∷ l) d = (d.0, one_more l d.1)

-- ---- the requests before
-- the move of a new request changes nothing for earlier ids
submitted_of : (class : Class) (id : ℕ) (e : Option EndpointRecord) → IsOf (Some (submitted class id e)) id
submitted_of class id (Some e) = refl
submitted_of Block id None = tt
submitted_of Character id None = refl
submitted_of Network id None = refl

other_answer : (m : Move) (id k : ℕ) → IsOf (Some m) id → id == k ≡ false → values_of k (answered_by m ++ []) ≡ []
other_answer m id k o h = ap (values_of k) (append-nil (answered_by m)) ∙ answers_left.other (Some m) id k o h

other_send : (m : Move) (id k : ℕ) → IsOf (Some m) id → id == k ≡ false → values_of k (sends_of m ++ []) ≡ []
other_send m id k o h = ap (values_of k) (append-nil (sends_of m)) ∙ sends_left.other (Some m) id k o h

either_nothing : {X : Type 0} (b : Bool) → ◌≡◌ {A = List X} (cond b [] []) []
either_nothing true = refl
either_nothing false = refl

before_follow : (t : DriverTable) (id : ℕ) (m : Move) → IsOf (Some m) id → (requests : List Request) →
    AllByRecursion (λ (r : Request). r.id == id ≡ false) requests →
    AllByRecursion (λ (r : Request). Follows t (answered_by m ++ []) (sends_of m ++ []) r None) requests
before_follow t id m own [] h = tt
before_follow t id m own (r ∷ requests) h =
    let other : id == r.id ≡ false = equal_turned id r.id ∙ h.0 in (
      record {
        answered = other_answer m id r.id own other ∙ sym (either_nothing (is_pending t.answers r));
        sent = other_send m id r.id own other ∙ sym (either_nothing (is_pending t.answers r));
      },
      before_follow t id m own requests h.1,
    )

retained_all : (l : List Pending) → retain_mut (λ p. true) (λ p. p) l ≡ l
retained_all [] = refl
retained_all (p ∷ l) = ap (λ (l : List Pending). p ∷ l) (retained_all l)

served_before : (t : DriverTable) (new : Request) (m : Move) (requests : List Request) →
    AllByRecursion (λ (r : Request). Follows t (answered_by m ++ []) (sends_of m ++ []) r None) requests →
    AllByRecursion (IsRequestServed t) requests →
    AllByRecursion (IsRequestServed (taken t new m)) requests
served_before t new m [] f h = tt
served_before t new m (r ∷ requests) f h = (
  served_after t (taken t new m) (answered_by m ++ []) (sends_of m ++ []) r None f.0 h.0 refl refl h.0.found (λ o. tt)
      (λ o e now silent. inr (refl, now)),
  served_before t new m requests f.1 h.1,
)

-- ---- the new request
-- its answers and sends are those of its move
new_answers : (t : DriverTable) (id : ℕ) (m : Move) → IsOf (Some m) id → values_of id t.answers ≡ [] →
    values_of id (t.answers ++ (answered_by m ++ [])) ≡ endings (Some m)
new_answers t id m own none = values-append id t.answers (answered_by m ++ []) ∙
    (ap (λ (l : List Ending). l ++ values_of id (answered_by m ++ [])) none ∙
    (ap (values_of id) (append-nil (answered_by m)) ∙ answers_left.own (Some m) id own))

new_sends : (t : DriverTable) (id : ℕ) (m : Move) → IsOf (Some m) id → values_of id t.sends ≡ [] →
    values_of id (t.sends ++ (sends_of m ++ [])) ≡ targets (Some m)
new_sends t id m own none = values-append id t.sends (sends_of m ++ []) ∙
    (ap (λ (l : List EndpointRecord). l ++ values_of id (sends_of m ++ [])) none ∙
    (ap (values_of id) (append-nil (sends_of m)) ∙ sends_left.own (Some m) id own))

abbrev shown : Request → Move → Option EndpointRecord → List Pending
shown new m o = cond (not (is_ending m)) (record { id = new.id; unit = new.unit; sent = o } ∷ []) []

-- it is pending unless its move answers it
new_pending : (class : Class) (e : Option EndpointRecord) (new : Request) (answers : List (ℕ × Ending)) (sends : List (ℕ × EndpointRecord))
    →
    values_of new.id answers ≡ endings (Some (submitted class new.id e)) →
    values_of new.id sends ≡ targets (Some (submitted class new.id e)) →
    map (pending_of sends) (cond (is_pending answers new) (new ∷ []) []) ≡ cond (not (is_ending (submitted class new.id e)))
    (record { id = new.id; unit = new.unit; sent = e } ∷ []) []
new_pending class e new answers sends a s = ap (λ (l : List Ending). map (pending_of sends) (cond (is_empty l) (new ∷ []) [])) a ∙
    (by class e ∙ ap (λ (o : Option EndpointRecord). shown new (submitted class new.id e) o) (ap (last_or None) s ∙ target class e))
  where
    by : (class : Class) (e : Option EndpointRecord) →
        map (pending_of sends) (cond (is_empty (endings (Some (submitted class new.id e)))) (new ∷ []) []) ≡ shown new
        (submitted class new.id e) (last_sent sends new.id)
    by class (Some e) = refl
    by Block None = refl
    by Character None = refl
    by Network None = refl

    target : (class : Class) (e : Option EndpointRecord) → last_or None (targets (Some (submitted class new.id e))) ≡ e
    target class (Some e) = refl
    target Block None = refl
    target Character None = refl
    target Network None = refl

new_served : (t : DriverTable) (new : Request) (d : Driver) → driver_of t.units new.unit ≡ Some d → values_of new.id t.answers ≡ [] →
    values_of new.id t.sends ≡ [] → IsRequestServed (taken t new (move_of t new d)) new
new_served t new d found a s = record {
  driver = d;
  found = found;
  answered = subst (IsAnsweredBy d.class) (sym answers_are) (fits d.class (endpoint_now t.states d.label));
  sent = λ none e now. ap (last_or None) sends_are ∙
      (ap (λ (o : Option EndpointRecord). last_or None (targets (Some (submitted d.class new.id o)))) now);
}
  where
    m : Move
    m = move_of t new d

    own : IsOf (Some m) new.id
    own = submitted_of d.class new.id (endpoint_now t.states d.label)

    answers_are : values_of new.id (t.answers ++ (answered_by m ++ [])) ≡ endings (Some m)
    answers_are = new_answers t new.id m own a

    sends_are : values_of new.id (t.sends ++ (sends_of m ++ [])) ≡ targets (Some m)
    sends_are = new_sends t new.id m own s

    fits : (class : Class) (e : Option EndpointRecord) → IsAnsweredBy class (endings (Some (submitted class new.id e)))
    fits class (Some e) = tt
    fits Block None = tt
    fits Character None = tt
    fits Network None = tt

-- ---- together
all_and_one : (P : Request → Type 0) (l : List Request) (r : Request) → AllByRecursion P l → P r → AllByRecursion P (l ++ r ∷ [])
all_and_one P [] r h p = (p, tt)
all_and_one P (x ∷ l) r h p = (h.0, all_and_one P l r h.1 p)

pub reached_taken : (t : DriverTable) (new : Request) (d : Driver) → IsTableReached t → is_above t.requests new.id ≡ true →
    driver_of t.units new.unit ≡ Some d → IsTableReached (taken t new (move_of t new d))
reached_taken t new d h above_all found = record {
  units = h.units;
  labels = h.labels;
  current = h.current;
  distinct = distinct_on t.requests new others h.distinct;
  unasked = λ k none.
      let parts = or_parts (is_requested t.requests k) (is_requested (new ∷ []) k)
      (sym (list_any-append (is_for k) t.requests (new ∷ [])) ∙ none) in
      let other : new.id == k ≡ false = (or_parts (new.id == k) false parts.1).0 in
      let before = h.unasked k parts.0 in (
        values-append k t.sends (sends_of m ++ []) ∙
            (ap (λ (l : List EndpointRecord). l ++ values_of k (sends_of m ++ [])) before.0 ∙ other_send m new.id k own other),
        values-append k t.answers (answered_by m ++ []) ∙
            (ap (λ (l : List Ending). l ++ values_of k (answered_by m ++ [])) before.1 ∙ other_answer m new.id k own other),
      );
  served = all_and_one (IsRequestServed (taken t new m)) t.requests new
      (served_before t new m t.requests (before_follow t new.id m own t.requests others) h.served)
      (new_served t new d found fresh.1 fresh.0);
}
  where
    m : Move
    m = move_of t new d

    own : IsOf (Some m) new.id
    own = submitted_of d.class new.id (endpoint_now t.states d.label)

    others : AllByRecursion (λ (r : Request). r.id == new.id ≡ false) t.requests
    others = other_ids t.requests new.id above_all

    fresh : (values_of new.id t.sends ≡ []) × (values_of new.id t.answers ≡ [])
    fresh = h.unasked new.id (not_asked t.requests new.id others)

pub stands_taken : (v : TableRecord) (t : DriverTable) (new : Request) (d : Driver) (left : List Pending) → TableStands v t →
    is_above_last v.last new.id ≡ true → driver_of t.units new.unit ≡ Some d →
    left ≡ v.pending ++ cond (not (is_ending (move_of t new d)))
    (record { id = new.id; unit = new.unit; sent = endpoint_now t.states d.label } ∷ []) [] →
    TableStands (record { devices = v.devices; pending = left; last = Some new.id }) (taken t new (move_of t new d))
stands_taken v t new d left s above_last found e = record {
  devices = s.devices;
  pending = e ∙ (ap (λ (l : List Pending). l ++ one) before ∙
      (ap (λ (l : List Pending). map (pending_of sends) (filter (is_pending answers) t.requests) ++ l) (sym last) ∙ sym both));
  last = λ k. last_above t.requests new k above_all;
  reached = reached_taken t new d s.reached above_all found;
}
  where
    m : Move
    m = move_of t new d

    now : Option EndpointRecord
    now = endpoint_now t.states d.label

    one : List Pending
    one = cond (not (is_ending m)) (record { id = new.id; unit = new.unit; sent = now } ∷ []) []

    answers : List (ℕ × Ending)
    answers = t.answers ++ (answered_by m ++ [])

    sends : List (ℕ × EndpointRecord)
    sends = t.sends ++ (sends_of m ++ [])

    above_all : is_above t.requests new.id ≡ true
    above_all = s.last new.id ∙ above_last

    others : AllByRecursion (λ (r : Request). r.id == new.id ≡ false) t.requests
    others = other_ids t.requests new.id above_all

    fresh : (values_of new.id t.sends ≡ []) × (values_of new.id t.answers ≡ [])
    fresh = s.reached.unasked new.id (not_asked t.requests new.id others)

    own : IsOf (Some m) new.id
    own = submitted_of d.class new.id now

    before : v.pending ≡ map (pending_of sends) (filter (is_pending answers) t.requests)
    before =
        s.pending ∙ (sym (retained_all (map (pending_of t.sends) (pending t)))
        ∙ pending_after t (answered_by m ++ []) (sends_of m ++ []) (λ p. None) t.requests (before_follow t new.id m own t.requests others))

    last : map (pending_of sends) (filter (is_pending answers) (new ∷ [])) ≡ one
    last = new_pending d.class now new answers sends (new_answers t new.id m own fresh.1) (new_sends t new.id m own fresh.0)

    both : map (pending_of sends) (filter (is_pending answers) (t.requests ++ new ∷ [])) ≡ map (pending_of sends)
        (filter (is_pending answers) t.requests) ++ map (pending_of sends) (filter (is_pending answers) (new ∷ []))
    both = ap (map (pending_of sends)) (filter-append (is_pending answers) t.requests (new ∷ [])) ∙
        map-append (pending_of sends) (filter (is_pending answers) t.requests) (filter (is_pending answers) (new ∷ []))

-- as above, for the device that was found
pub stands_submitted : (v : TableRecord) (t : DriverTable) (id unit : ℕ) (d : Device) (left : List Pending) → TableStands v t →
    is_above_last v.last id ≡ true → lookup (λ u. unit == u) v.devices ≡ Some d →
    left ≡ v.pending ++ cond (not (is_ending (submitted d.class id d.endpoint))) (record { id = id; unit = unit; sent = d.endpoint } ∷ [])
    [] →
    TableStands (record { devices = v.devices; pending = left; last = Some id }) (submitting t id unit).1
stands_submitted v t id unit d left s above_last n e =
    let r : Request = record { id = id; unit = unit } in
    let there = driver_there v t unit d s n in
    let kept : (x : Device) → List Pending = λ x.
    v.pending ++ cond (not (is_ending (submitted x.class id x.endpoint))) (record { id = id; unit = unit; sent = x.endpoint } ∷ []) [] in
    let stands = stands_taken v t r there.0 left s above_last there.1 (e ∙ sym (ap kept there.2)) in
    subst (TableStands (record { devices = v.devices; pending = left; last = Some id }))
    (sym (ap (λ p. p.1) (above v t id unit s above_last ∙ ap (submitting_to t r) there.1))) stands
