-- A reply leaves a valid table.
use Rattle.std.proofs.Common.{◌≡◌, ℕ, ◌==◌, ◌||◌, Bool, true, false, not, cond, List, [], ◌∷◌, ◌++◌, filter, Option, Some, None, Result, Ok}
use Rattle.std.proofs.Common.{Err, refl, sym, ap, ◌∙◌, append-nil, inr}
use Rattle.std.specs.Option.{option_map}
use Rattle.std.specs.List.{retain_mut, find, AllByRecursion}
use Rattle.ds_names.specs.Endpoint.{EndpointRecord}
use Rattle.driver_tables.specs.declared.moves.Ending.{Ending}
use Rattle.driver_tables.specs.declared.moves.Ending.TheVariants.{Done}
use Rattle.driver_tables.specs.declared.moves.Move.{Move}
use Rattle.driver_tables.specs.declared.moves.Move.TheVariants.{Answer}
use Rattle.driver_tables.specs.declared.fault.TableFault.{TableFault}
use Rattle.driver_tables.specs.declared.fault.TableFault.TheVariants.{NotPending, OldEndpoint}
use Rattle.driver_tables.specs.declared.device.Class.{Class}
use Rattle.driver_tables.specs.declared.device.Class.TheVariants.{Block, Character, Network}
use Rattle.driver_tables.specs.declared.request.Pending.{Pending}
use Rattle.driver_tables.specs.Label.{is_same_state}
use Rattle.driver_tables.specs.DriverTable.{DriverTable, Request, values_of, last_sent, is_empty, is_pending, pending, is_requested}
use Rattle.driver_tables.specs.Reply.{finishes, replying}
use Rattle.driver_tables.specs.Reached.{IsRequestServed, IsTableReached, IsAnsweredBy}
use Rattle.driver_tables.specs.Stands.{TableRecord, TableStands}
use Rattle.driver_tables.specs.Requests.{stays_pending, kept_after}
use Rattle.driver_tables.proofs.TestLemmas.{equal_number, equal_turned}
use Rattle.driver_tables.proofs.MoveLemmas.{values-append, endings, targets, answers_left}
use Rattle.driver_tables.proofs.RequestLemmas.{Follows, pending_after, served_after}
use Rattle.driver_tables.proofs.StandsLemmas.{sent_kept}

abbrev judged : DriverTable → ℕ → Bool → Bool → Result Move TableFault × DriverTable
judged t id there same = cond there (cond same (Ok (Answer id Done), finishes t id) (Err OldEndpoint, t)) (Err NotPending, t)

pub reply_missing : (v : TableRecord) (t : DriverTable) (endpoint : EndpointRecord) (id : ℕ) → TableStands v t →
    option_map (λ (p : Pending). p.sent) (find (λ (p : Pending). p.id == id) v.pending) ≡ None →
    replying t endpoint id ≡ (Err NotPending, t)
reply_missing v t endpoint id s e = by (is_requested (pending t) id) (sym (sent_kept v t id s) ∙ e)
  where
    by : (b : Bool) → cond b (Some (last_sent t.sends id)) None ≡ None →
        judged t id b (is_same_state (last_sent t.sends id) (Some endpoint)) ≡ (Err NotPending, t)
    by true h = cc
    by false h = refl

pub reply_there : (v : TableRecord) (t : DriverTable) (id : ℕ) (sent : Option EndpointRecord) → TableStands v t →
    option_map (λ (p : Pending). p.sent) (find (λ (p : Pending). p.id == id) v.pending) ≡ Some sent →
    (is_requested (pending t) id ≡ true) × (last_sent t.sends id ≡ sent)
reply_there v t id sent s e = by (is_requested (pending t) id) (sym (sent_kept v t id s) ∙ e)
  where
    by : (b : Bool) → cond b (Some (last_sent t.sends id)) None ≡ Some sent → (b ≡ true) × (last_sent t.sends id ≡ sent)
    by true h = let k : last_sent t.sends id ≡ sent = cc in (refl, k)
    by false h = cc

pub reply_judged : (v : TableRecord) (t : DriverTable) (endpoint : EndpointRecord) (id : ℕ) (sent : Option EndpointRecord) (same : Bool) →
    TableStands v t →
    option_map (λ (p : Pending). p.sent) (find (λ (p : Pending). p.id == id) v.pending) ≡ Some sent →
    is_same_state sent (Some endpoint) ≡ same → replying t endpoint id ≡ judged t id true same
reply_judged v t endpoint id sent same s e h =
    let k = reply_there v t id sent s e in
    ap (λ (b : Bool). judged t id b (is_same_state (last_sent t.sends id) (Some endpoint))) k.0 ∙
    (ap (λ (x : Option EndpointRecord). judged t id true (is_same_state x (Some endpoint))) k.1 ∙ ap (judged t id true) h)

-- ---- the table afterwards
-- the pending request has no answer
pub open_id : (answers : List (ℕ × Ending)) (requests : List Request) (id : ℕ) →
    is_requested (filter (is_pending answers) requests) id ≡ true → is_empty (values_of id answers) ≡ true
open_id answers [] id e = cc
open_id answers (r ∷ requests) id e = by (is_pending answers r) refl (r.id == id) refl e (open_id answers requests id)
  where
    by : (b : Bool) → is_pending answers r ≡ b → (c : Bool) → r.id == id ≡ c →
        is_requested (cond b (r ∷ filter (is_pending answers) requests) (filter (is_pending answers) requests)) id ≡ true →
        (is_requested (filter (is_pending answers) requests) id ≡ true → is_empty (values_of id answers) ≡ true) →
        is_empty (values_of id answers) ≡ true
    by false p c q e rest = rest e
    by true p true q e rest = ap (λ (n : ℕ). is_empty (values_of n answers)) (sym (equal_number r.id id q)) ∙ p
    by true p false q e rest = rest (sym (ap (λ (b : Bool). b || is_requested (filter (is_pending answers) requests) id) q) ∙ e)

-- and is among the accepted ones
pub asked_all : (test : Request → Bool) (requests : List Request) (id : ℕ) → is_requested (filter test requests) id ≡ true →
    is_requested requests id ≡ true
asked_all test [] id e = cc
asked_all test (r ∷ requests) id e = by (test r) (r.id == id) refl e (asked_all test requests id)
  where
    by : (b c : Bool) → r.id == id ≡ c → is_requested (cond b (r ∷ filter test requests) (filter test requests)) id ≡ true →
        (is_requested (filter test requests) id ≡ true → is_requested requests id ≡ true) → r.id == id || is_requested requests id ≡ true
    by b true q e rest = ap (λ (c : Bool). c || is_requested requests id) q
    by true false q e rest = ap (λ (c : Bool). c || is_requested requests id) q ∙
        rest (sym (ap (λ (b : Bool). b || is_requested (filter test requests) id) q) ∙ e)
    by false false q e rest = ap (λ (c : Bool). c || is_requested requests id) q ∙ rest e

-- the move of each pending request
abbrev pub ending_for : ℕ → ℕ → Option Move
ending_for id k = cond (k == id) (Some (Answer id Done)) None

done_follows : (t : DriverTable) (id : ℕ) (r : Request) → is_empty (values_of id t.answers) ≡ true →
    Follows t ((id, Done) ∷ []) [] r (ending_for id r.id)
done_follows t id r open_ = by (r.id == id) refl
  where
    neither : (b : Bool) → ◌≡◌ {A = List Ending} [] (cond b [] [])
    neither true = refl
    neither false = refl

    nowhere : (b : Bool) → ◌≡◌ {A = List EndpointRecord} [] (cond b [] [])
    nowhere true = refl
    nowhere false = refl

    by : (c : Bool) → r.id == id ≡ c → Follows t ((id, Done) ∷ []) [] r (cond c (Some (Answer id Done)) None)
    by true q =
        let same : r.id ≡ id = equal_number r.id id q in
        let pends : is_pending t.answers r ≡ true = ap (λ (n : ℕ). is_empty (values_of n t.answers)) same ∙ open_ in
        record {
          answered = answers_left.own (Some (Answer id Done)) r.id (sym same) ∙ sym (ap (λ (b : Bool). cond b (Done ∷ []) []) pends);
          sent = nowhere (is_pending t.answers r);
        }
    by false q = record {
      answered = answers_left.other (Some (Answer id Done)) id r.id refl (equal_turned id r.id ∙ q) ∙ neither (is_pending t.answers r);
      sent = nowhere (is_pending t.answers r);
    }

all_follow : (t : DriverTable) (id : ℕ) (requests : List Request) → is_empty (values_of id t.answers) ≡ true →
    AllByRecursion (λ (r : Request). Follows t ((id, Done) ∷ []) [] r (ending_for id r.id)) requests
all_follow t id [] o = tt
all_follow t id (r ∷ requests) o = (done_follows t id r o, all_follow t id requests o)

served_still : (t : DriverTable) (id : ℕ) (requests : List Request) → is_empty (values_of id t.answers) ≡ true →
    AllByRecursion (IsRequestServed t) requests → AllByRecursion (IsRequestServed (finishes t id)) requests
served_still t id [] o h = tt
served_still t id (r ∷ requests) o h = (
  served_after t (finishes t id) ((id, Done) ∷ []) [] r (ending_for id r.id) (done_follows t id r o) h.0 refl refl h.0.found
      (λ p. fits (r.id == id) h.0.driver.class)
      (λ p e now silent. inr (no_target (r.id == id), now)),
  served_still t id requests o h.1,
)
  where
    no_target : (c : Bool) → targets (cond c (Some (Answer id Done)) None) ≡ []
    no_target true = refl
    no_target false = refl

    fits : (c : Bool) (class : Class) → IsAnsweredBy class (endings (cond c (Some (Answer id Done)) None))
    fits true Block = tt
    fits true Character = tt
    fits true Network = tt
    fits false class = tt

pub reached_finished : (t : DriverTable) (id : ℕ) → IsTableReached t → is_requested (pending t) id ≡ true → IsTableReached (finishes t id)
reached_finished t id h there = record {
  units = h.units;
  labels = h.labels;
  current = h.current;
  distinct = h.distinct;
  unasked = λ k none.
      let before = h.unasked k none in (
        ap (values_of k) (append-nil t.sends) ∙ before.0,
        values-append k t.answers ((id, Done) ∷ []) ∙
            (ap (λ (l : List Ending). l ++ values_of k ((id, Done) ∷ [])) before.1 ∙
            answers_left.other (Some (Answer id Done)) id k refl (differs k none)),
      );
  served = served_still t id t.requests (open_id t.answers t.requests id there) h.served;
}
  where
    differs : (k : ℕ) → is_requested t.requests k ≡ false → id == k ≡ false
    differs k none = by (id == k) refl
      where
        by : (b : Bool) → id == k ≡ b → b ≡ false
        by true q = let here : is_requested t.requests k ≡ true =
            ap (is_requested t.requests) (sym (equal_number id k q)) ∙ asked_all (is_pending t.answers) t.requests id there in cc
        by false q = refl

-- ---- the list of pending requests
retained_others : (id : ℕ) (l : List Pending) →
    filter (λ (p : Pending). not (p.id == id)) l ≡ retain_mut (λ p. stays_pending (ending_for id p.id))
    (λ p. kept_after (ending_for id p.id) p) l
retained_others id [] = refl
retained_others id (p ∷ l) = by (p.id == id) (retained_others id l)
  where
    rest : List Pending
    rest = retain_mut (λ p. stays_pending (ending_for id p.id)) (λ p. kept_after (ending_for id p.id) p) l

    by : (c : Bool) → filter (λ (p : Pending). not (p.id == id)) l ≡ rest →
        cond (not c) (p ∷ filter (λ (p : Pending). not (p.id == id)) l) (filter (λ (p : Pending). not (p.id == id)) l) ≡ cond
        (stays_pending (cond c (Some (Answer id Done)) None))
        (kept_after (cond c (Some (Answer id Done)) None) p ∷ rest) rest
    by true e = e
    by false e = ap (λ (l : List Pending). p ∷ l) e

pub stands_finished : (v : TableRecord) (t : DriverTable) (id : ℕ) (left : List Pending) → TableStands v t →
    is_requested (pending t) id ≡ true → left ≡ filter (λ (p : Pending). not (p.id == id)) v.pending →
    TableStands (record { devices = v.devices; pending = left; last = v.last }) (finishes t id)
stands_finished v t id left s there e = record {
  devices = s.devices;
  pending = e ∙ (retained_others id v.pending ∙
      (ap (retain_mut (λ p. stays_pending (ending_for id p.id)) (λ p. kept_after (ending_for id p.id) p)) s.pending
      ∙ pending_after t ((id, Done) ∷ []) [] (λ p. ending_for id p.id) t.requests
      (all_follow t id t.requests (open_id t.answers t.requests id there))));
  last = s.last;
  reached = reached_finished t id s.reached there;
}
