-- The state of each request, if a call leaves it what its own move says.
use Rattle.std.proofs.Common.{◌≡◌, ℕ, Bool, true, false, cond, List, [], ◌∷◌, ◌++◌, map, filter, Option, Some, None, refl, sym, ap, ◌∙◌}
use Rattle.std.proofs.Common.{subst, append-nil, ◌⊎◌, inl, inr}
use Rattle.std.specs.List.{retain_mut, last_or, AllByRecursion}
use Rattle.ds_names.specs.Endpoint.{EndpointRecord}
use Rattle.driver_tables.specs.declared.moves.Ending.{Ending}
use Rattle.driver_tables.specs.declared.moves.Move.{Move}
use Rattle.driver_tables.specs.declared.moves.Move.TheVariants.{Start, Send, Answer, Held}
use Rattle.driver_tables.specs.declared.device.Class.{Class}
use Rattle.driver_tables.specs.declared.request.Pending.{Pending}
use Rattle.driver_tables.specs.Driver.{driver_of}
use Rattle.driver_tables.specs.Label.{endpoint_now}
use Rattle.driver_tables.specs.DriverTable.{DriverTable, Request, values_of, last_sent, is_empty, is_pending}
use Rattle.driver_tables.specs.Reached.{IsRequestServed, IsAnsweredBy}
use Rattle.driver_tables.specs.Stands.{pending_of}
use Rattle.driver_tables.specs.Requests.{stays_pending, kept_after}
use Rattle.driver_tables.proofs.ListLemmas.{last_or-append}
use Rattle.driver_tables.proofs.MoveLemmas.{values-append, endings, targets}

-- the added answers and sends are those of the move for a pending request, and none for another one
pub record Follows (t : DriverTable) (answers : List (ℕ × Ending)) (sends : List (ℕ × EndpointRecord)) (r : Request) (m : Option Move) :
    Type 0 where
  pub answered : values_of r.id answers ≡ cond (is_pending t.answers r) (endings m) []
  pub sent : values_of r.id sends ≡ cond (is_pending t.answers r) (targets m) []

-- ---- the list of pending requests

-- the endpoint that a request was last sent to, after its move
sent_after : (old : List EndpointRecord) (r : Request) (m : Option Move) → stays_pending m ≡ true →
    record { id = r.id; unit = r.unit; sent = last_or None (old ++ targets m) } ≡ kept_after m
    (record { id = r.id; unit = r.unit; sent = last_or None old })
sent_after old r None h = ap (λ (l : List EndpointRecord). record { id = r.id; unit = r.unit; sent = last_or None l }) (append-nil old)
sent_after old r (Some (Start u e)) h = ap (λ (l : List EndpointRecord). record { id = r.id; unit = r.unit; sent = last_or None l })
    (append-nil old)
sent_after old r (Some (Send i e)) h = ap (λ (o : Option EndpointRecord). record { id = r.id; unit = r.unit; sent = o })
    (last_or-append None old (e ∷ []))
sent_after old r (Some (Answer i f)) h = cc
sent_after old r (Some (Held i)) h = ap (λ (l : List EndpointRecord). record { id = r.id; unit = r.unit; sent = last_or None l })
    (append-nil old)

-- a request stays pending unless its move answers it
pending_still : (m : Option Move) → is_empty (endings m) ≡ stays_pending m
pending_still None = refl
pending_still (Some (Start u e)) = refl
pending_still (Some (Send i e)) = refl
pending_still (Some (Answer i f)) = refl
pending_still (Some (Held i)) = refl

-- the pending requests afterwards are those before, each after its move
pub pending_after : (t : DriverTable) (answers : List (ℕ × Ending)) (sends : List (ℕ × EndpointRecord)) (ask : Pending → Option Move)
    (requests : List Request) →
    AllByRecursion (λ (r : Request). Follows t answers sends r (ask (pending_of t.sends r))) requests →
    retain_mut (λ p. stays_pending (ask p)) (λ p. kept_after (ask p) p) (map (pending_of t.sends) (filter (is_pending t.answers) requests))
    ≡ map (pending_of (t.sends ++ sends)) (filter (is_pending (t.answers ++ answers)) requests)
pending_after t answers sends ask [] h = refl
pending_after t answers sends ask (r ∷ requests) h =
    by (is_pending t.answers r) refl h.0.answered h.0.sent (pending_after t answers sends ask requests h.1)
  where
    p : Pending
    p = pending_of t.sends r

    m : Option Move
    m = ask p

    old : List Ending
    old = values_of r.id t.answers

    was : List Pending
    was = map (pending_of t.sends) (filter (is_pending t.answers) requests)

    is : List Pending
    is = map (pending_of (t.sends ++ sends)) (filter (is_pending (t.answers ++ answers)) requests)

    kept : List Pending
    kept = retain_mut (λ p. stays_pending (ask p)) (λ p. kept_after (ask p) p) was

    empty_old : is_empty old ≡ true → old ≡ []
    empty_old e = nothing old e
      where
        nothing : (l : List Ending) → is_empty l ≡ true → l ≡ []
        nothing [] e = refl
        nothing (x ∷ l) e = cc

    more_old : (l new : List Ending) → is_empty l ≡ false → is_empty (l ++ new) ≡ false
    more_old [] new e = cc
    more_old (x ∷ l) new e = refl

    by : (b : Bool) → is_pending t.answers r ≡ b → values_of r.id answers ≡ cond b (endings m) [] →
        values_of r.id sends ≡ cond b (targets m) [] → kept ≡ is →
        retain_mut (λ p. stays_pending (ask p)) (λ p. kept_after (ask p) p)
        (map (pending_of t.sends) (cond b (r ∷ filter (is_pending t.answers) requests) (filter (is_pending t.answers) requests))) ≡ map
        (pending_of (t.sends ++ sends))
        (cond (is_pending (t.answers ++ answers) r) (r ∷ filter (is_pending (t.answers ++ answers)) requests)
        (filter (is_pending (t.answers ++ answers)) requests))
    by false e a s rest =
        rest ∙ sym (ap (λ (b : Bool). map (pending_of (t.sends ++ sends))
        (cond b (r ∷ filter (is_pending (t.answers ++ answers)) requests) (filter (is_pending (t.answers ++ answers)) requests)))
        (ap is_empty (values-append r.id t.answers answers) ∙ more_old old (values_of r.id answers) e))
    by true e a s rest = at (stays_pending m) refl
      where
        now : is_pending (t.answers ++ answers) r ≡ stays_pending m
        now = ap is_empty (values-append r.id t.answers answers) ∙
            (ap (λ (l : List Ending). is_empty (l ++ values_of r.id answers)) (empty_old e) ∙ (ap is_empty a ∙ pending_still m))

        lists : last_sent (t.sends ++ sends) r.id ≡ last_or None (values_of r.id t.sends ++ targets m)
        lists = ap (last_or None) (values-append r.id t.sends sends ∙ ap (λ (l : List EndpointRecord). values_of r.id t.sends ++ l) s)

        at : (b : Bool) → stays_pending m ≡ b → cond (stays_pending m) (kept_after m p ∷ kept) kept ≡ map (pending_of (t.sends ++ sends))
            (cond (is_pending (t.answers ++ answers) r) (r ∷ filter (is_pending (t.answers ++ answers)) requests)
            (filter (is_pending (t.answers ++ answers)) requests))
        at true k =
            let new : kept_after m p ≡ pending_of (t.sends ++ sends) r =
            sym (sent_after (values_of r.id t.sends) r m k) ∙
            ap (λ (o : Option EndpointRecord). record { id = r.id; unit = r.unit; sent = o }) (sym lists) in
            ap (λ (b : Bool). cond b (kept_after m p ∷ kept) kept) k ∙
            (ap (λ (x : Pending). x ∷ kept) new ∙ (ap (λ (l : List Pending). pending_of (t.sends ++ sends) r ∷ l) rest
            ∙ sym (ap (λ (b : Bool). map (pending_of (t.sends ++ sends))
            (cond b (r ∷ filter (is_pending (t.answers ++ answers)) requests) (filter (is_pending (t.answers ++ answers)) requests)))
            (now ∙ k))))
        at false k =
            ap (λ (b : Bool). cond b (kept_after m p ∷ kept) kept) k ∙ (rest
            ∙ sym (ap (λ (b : Bool). map (pending_of (t.sends ++ sends))
            (cond b (r ∷ filter (is_pending (t.answers ++ answers)) requests) (filter (is_pending (t.answers ++ answers)) requests)))
            (now ∙ k)))

-- ---- each request is still served

-- the move sends the request to the endpoint afterwards, unless it answers it or nothing changed
abbrev pub Reaches : Option EndpointRecord → Option EndpointRecord → Option Move → Type 0
Reaches before after m = (e : EndpointRecord) → after ≡ Some e → endings m ≡ [] →
    (targets m ≡ e ∷ []) ⊎ ((targets m ≡ []) × (before ≡ Some e))

pub served_after : (t u : DriverTable) (answers : List (ℕ × Ending)) (sends : List (ℕ × EndpointRecord)) (r : Request) (m : Option Move) →
    Follows t answers sends r m → (served : IsRequestServed t r) →
    u.answers ≡ t.answers ++ answers → u.sends ≡ t.sends ++ sends → driver_of u.units r.unit ≡ Some served.driver →
    (is_pending t.answers r ≡ true → IsAnsweredBy served.driver.class (endings m)) →
    (is_pending t.answers r ≡ true → Reaches (endpoint_now t.states served.driver.label) (endpoint_now u.states served.driver.label) m) →
    IsRequestServed u r
served_after t u answers sends r m follows served a s found fits reaches = record {
  driver = served.driver;
  found = found;
  answered = subst (IsAnsweredBy served.driver.class) (sym list) (by (values_of r.id t.answers) refl served.answered);
  sent = λ none e now. at (values_of r.id t.answers) refl (sym list ∙ none) e now;
}
  where
    class : Class
    class = served.driver.class

    more : List Ending
    more = cond (is_pending t.answers r) (endings m) []

    list : values_of r.id u.answers ≡ values_of r.id t.answers ++ more
    list = ap (values_of r.id) a ∙ (values-append r.id t.answers answers ∙
        ap (λ (l : List Ending). values_of r.id t.answers ++ l) follows.answered)

    goes : values_of r.id u.sends ≡ values_of r.id t.sends ++ cond (is_pending t.answers r) (targets m) []
    goes = ap (values_of r.id) s ∙ (values-append r.id t.sends sends ∙
        ap (λ (l : List EndpointRecord). values_of r.id t.sends ++ l) follows.sent)

    by : (old : List Ending) → values_of r.id t.answers ≡ old → IsAnsweredBy class (values_of r.id t.answers) →
        IsAnsweredBy class (values_of r.id t.answers ++ more)
    by [] e h = let open_ : is_pending t.answers r ≡ true = ap is_empty e in
        subst (IsAnsweredBy class) (sym (ap (λ (l : List Ending). l ++ more) e ∙ ap (λ (b : Bool). cond b (endings m) []) open_))
        (fits open_)
    by (x ∷ old) e h = let closed : is_pending t.answers r ≡ false = ap is_empty e in
        subst (IsAnsweredBy class) (sym (ap (λ (b : Bool). values_of r.id t.answers ++ cond b (endings m) []) closed ∙
        append-nil (values_of r.id t.answers))) h

    at : (old : List Ending) → values_of r.id t.answers ≡ old → values_of r.id t.answers ++ more ≡ [] → (e : EndpointRecord) →
        endpoint_now u.states served.driver.label ≡ Some e → last_sent u.sends r.id ≡ Some e
    at (x ∷ old) q none e now = let k : x ∷ (old ++ more) ≡ [] = sym (ap (λ (l : List Ending). l ++ more) q) ∙ none in cc
    at [] q none e now =
        let open_ : is_pending t.answers r ≡ true = ap is_empty q in
        let silent : endings m ≡ [] = sym (ap (λ (l : List Ending). l ++ more) q ∙ ap (λ (b : Bool). cond b (endings m) []) open_) ∙ none in
        let sends_are : last_sent u.sends r.id ≡ last_or None (values_of r.id t.sends ++ targets m) =
        ap (last_or None) (goes ∙ ap (λ (b : Bool). values_of r.id t.sends ++ cond b (targets m) []) open_) in
        elim (reaches open_ e now silent) as (λ w. last_sent u.sends r.id ≡ Some e) [
          | inl to ↦ sends_are ∙ (ap (λ (l : List EndpointRecord). last_or None (values_of r.id t.sends ++ l)) to ∙
              last_or-append None (values_of r.id t.sends) (e ∷ []))
          | inr stays ↦ sends_are ∙ (ap (λ (l : List EndpointRecord). last_or None (values_of r.id t.sends ++ l)) stays.0 ∙
              (ap (last_or None) (append-nil (values_of r.id t.sends)) ∙ served.sent q e stays.1))
        ]
