-- A table's turn follows its map rightly.
use Rattle.std.proofs.Common.{◌≡◌, ◌==◌, ◌&&◌, ◌||◌, ℕ, ◌≤◌, ◌<◌, nat_lt, Bool, true, false, not, List, [], ◌∷◌, ◌++◌, Option, Some, None}
use Rattle.std.proofs.Common.{Ok, refl, ap, sym, ◌∙◌, subst, inl, inr, ◌⊎◌, arith, Contains}
use Rattle.std.proofs.lemmas.Bool.Decides.{nat_tests}
use Rattle.std.proofs.lemmas.List.Elements.{Contains-append_cases}
use Rattle.ds_names.specs.Endpoint.{EndpointRecord}
use Rattle.ds_names.specs.Key.{label_key}
use Rattle.ds_names.proofs.Tests.{opposed}
use Rattle.ds_entry.specs.Change.{ChangeRecord}
use Rattle.ds_entry.specs.Left.{endpoint_in}
use Rattle.ds_entry.specs.declared.body.Body.{Body}
use Rattle.ds_entry.specs.declared.body.Body.TheVariants.{Put, Gone}
use Rattle.ds_entry.specs.declared.item.Item.{Item}
use Rattle.ds_entry.proofs.Members.{In, In-from_Contains}
use Rattle.ds_held.proofs.EntryLemmas.{In-append}
use Rattle.ds_held.proofs.MergeLemmas.{no_some}
use Rattle.ds_machine.specs.Parts.{held_at}
use Rattle.driver_tables.specs.declared.moves.Move.{Move}
use Rattle.driver_tables.specs.declared.moves.Move.TheVariants.{Start, Send, Answer, Held}
use Rattle.driver_tables.specs.declared.fault.TableFault.{TableFault}
use Rattle.driver_tables.specs.Driver.{Driver, has_label}
use Rattle.driver_tables.specs.DriverTable.{DriverTable, Request, empty_table}
use Rattle.driver_tables.specs.Label.{LabelState, endpoint_now, newest, is_same_state, is_old, is_old_for}
use Rattle.driver_tables.specs.Laws.{GoesToLiving}
use Rattle.driver_tables.specs.Run.{Submit, Changed}
use Rattle.driver_tables.specs.Submit.{submitting}
use Rattle.driver_tables.proofs.LawLemmas.{none_to_older}
use Rattle.driver_tables.proofs.RunLemmas.{reached}
use Rattle.rs_to_store.specs.News.{is_below_newest, is_old_tombstone}
use Rattle.rs_to_store.specs.Following.{labels_of, Follows}
use Rattle.rs_to_store.proofs.FollowLemmas.{follows_keep_units}
use Rattle.ds_system.specs.Turn.{TableTurn, FollowsItems, round_moves, request_moves, turn_moves}
use Rattle.ds_system.specs.Laws.{IsCalled}
use Rattle.ds_system.specs.Sending.{goal_of, label_of, Sending, sending_to, sendings, is_late, is_passed, GoesToNoOlder, IsAsBefore}
use Rattle.ds_system.specs.Sending.{FollowsRightly}
use Rattle.ds_system.proofs.CutLemmas.{moves_of_rounds, table_past, CutBy, at_move}
use Rattle.ds_system.proofs.NewsLemmas.{same_some, moves_for}
use Rattle.ds_system.proofs.AboutLemmas.{In-from_filter_map, IsOwn, own_goes, IsBrought, IsGoal, brought_so, brought_step, brought_about}
use Rattle.ds_system.proofs.AboutLemmas.{brought_goes}
use Rattle.ds_system.proofs.LabelLemmas.{late_stays, Settled, all_settled, label_listed, driver_listed}
use Rattle.ds_system.proofs.TableRunLemmas.{LeadsOn, no_calls, calls_twice, one_call, follow_calls, Rises, calls_rise, submit_step}
use Rattle.ds_system.proofs.TableRunLemmas.{LeavesLabels, submit_leaves}

-- ---- numbers
at_most : {a b c : ℕ} → a ≤ b → b ≤ c → a ≤ c
at_most l m = omega arith

equal_at_most : (a b : ℕ) → a ≡ b → a ≤ b
equal_at_most a b e = omega arith

pub some_number : (m n : ℕ) → Some m ≡ Some n → m ≡ n
some_number m n e = cc

less_at_most : (a b : ℕ) → nat_lt a b ≡ true → a ≤ b
less_at_most a b l = grind (arith, nat_tests)

-- ---- what is late or old, by the newest generation
-- a late tombstone is still late when the newest generation has risen
late_later : (t x : DriverTable) (label : List ℕ) (c : ChangeRecord) → Rises t x label → is_late t label c ≡ true → is_late x label c ≡ true
late_later t x label c rises late = by_body c.body late
  where
    less : (epoch g h : ℕ) → nat_lt epoch g ≡ true → g ≤ h → nat_lt epoch h ≡ true
    less epoch g h l m = grind (arith, nat_tests)

    by_newest : (a : Option ℕ) → newest t.states label ≡ a → is_below_newest a c.version.epoch ≡ true →
        is_below_newest (newest x.states label) c.version.epoch ≡ true
    by_newest None q k = opposed false k refl
    by_newest (Some g) q k = let r = rises g q in
        ap (λ (o : Option ℕ). is_below_newest o c.version.epoch) r.1 ∙ less c.version.epoch g r.0 k r.2

    by_body : (body : Body) → is_old_tombstone (newest t.states label) c.version.epoch body ≡ true →
        is_old_tombstone (newest x.states label) c.version.epoch body ≡ true
    by_body (Put value) k = k
    by_body Gone k = by_newest (newest t.states label) refl k

-- an old endpoint's generation isn't above the newest; a state without a driver is never old
old_at_most : (g : Option ℕ) (now state : Option EndpointRecord) → is_old g now state ≡ true →
    (h : ℕ) × (e : EndpointRecord) × (g ≡ Some h) × (state ≡ Some e) × (e.generation ≤ h)
old_at_most None now state k = opposed false k refl
old_at_most (Some g) now None k = opposed false k refl
old_at_most (Some g) now (Some e) k = (g, e, refl, refl, by (nat_lt e.generation g) refl k)
  where
    by : (b : Bool) → nat_lt e.generation g ≡ b → b || ((e.generation == g) && not (is_same_state now (Some e))) ≡ true → e.generation ≤ g
    by true q j = less_at_most e.generation g q
    by false q j = same (e.generation == g) refl j
      where
        equal : e.generation == g ≡ true → e.generation ≤ g
        equal q = grind (arith, nat_tests)

        same : (b : Bool) → e.generation == g ≡ b → b && not (is_same_state now (Some e)) ≡ true → e.generation ≤ g
        same true q j = equal q
        same false q j = opposed false j refl

-- ---- a move of the rounds
-- the map's change of its label brought it, and wasn't late; its goal is the map's endpoint, of a generation between
-- the label's newest before and after
pub record IsOfMap (held : List Item) (t u : DriverTable) (m : Move) : Type 0 where
  pub label : List ℕ
  pub about : label_of t m ≡ Some label
  pub change : ChangeRecord
  pub there : held_at held (label_key label) ≡ Some change
  pub fresh : is_late t label change ≡ false
  pub goes : (e : EndpointRecord) → goal_of m ≡ Some e → endpoint_in change.body ≡ Some e
  pub above : (e : EndpointRecord) (g : ℕ) → goal_of m ≡ Some e → newest t.states label ≡ Some g → g ≤ e.generation
  pub below : (e : EndpointRecord) → goal_of m ≡ Some e → (h : ℕ) × (newest u.states label ≡ Some h) × (e.generation ≤ h)

label_still : (t u : DriverTable) (m : Move) → (u.units ≡ t.units) × (u.requests ≡ t.requests) → label_of u m ≡ label_of t m
label_still t u m s = ap (λ (l : List (ℕ × Driver)). label_of (record u { units = l }) m) s.0 ∙
    (ap (λ (l : List Request). label_of (record u { units = t.units; requests = l }) m) s.1 ∙ same m)
  where
    same : (m : Move) → label_of (record u { units = t.units; requests = t.requests }) m ≡ label_of t m
    same (Start unit e) = refl
    same (Send id e) = refl
    same (Answer id ending) = refl
    same (Held id) = refl

pub rounds_of_map : (held : List Item) (labels : List (List ℕ)) (t : DriverTable) (rounds : List (List Move)) (fault : Option TableFault)
    (u : DriverTable) (m : Move) → IsCalled t → Follows held labels t rounds fault u
    → In m (moves_of_rounds rounds) → IsOfMap held t u m
rounds_of_map held labels t rounds fault u m came f i = record {
  label = l;
  about = sym (label_still t x m (follows_keep_units held c.cut.front t x c.cut.first None c.cut.before)) ∙
      brought_about held x l m b (reached x came_x.0 came_x.1);
  change = b.noted.change;
  there = b.noted.there;
  fresh = by_late (is_late t l b.noted.change) refl;
  goes = λ e g. (goal e g).own;
  above = λ e n g k. (let r = calls_rise t y l (calls_twice t x y front step) n k in
      subst (λ (z : ℕ). n ≤ z) (some_number r.0 e.generation (sym r.1 ∙ (goal e g).greatest)) r.2);
  below = λ e g. calls_rise y u l (follow_calls held c.cut.back y c.cut.later fault u c.cut.past) e.generation (goal e g).greatest;
}
  where
    c : CutBy held t fault u m
    c = at_move held labels t rounds fault u m i f

    l : List ℕ
    l = c.label

    x : DriverTable
    x = c.cut.x

    y : DriverTable
    y = table_past held x l

    b : IsBrought held x l m
    b = brought_so held x l m c.moved

    front : LeadsOn t x
    front = follow_calls held c.cut.front t c.cut.first None x c.cut.before

    step : LeadsOn x y
    step = one_call x y (Changed l (endpoint_in b.noted.change.body)) (Ok (moves_for b.noted.now x l (endpoint_in b.noted.change.body)))
        (brought_step held x l m b)

    came_x : IsCalled x
    came_x = calls_twice empty_table t x came front

    goal : (e : EndpointRecord) → goal_of m ≡ Some e → IsGoal held x l m b e
    goal e g = brought_goes held x l m b came_x.0 e came_x.1 g

    not_either : (p q : Bool) → p || q ≡ false → p ≡ false
    not_either false q e = refl
    not_either true q e = e

    by_late : (v : Bool) → is_late t l b.noted.change ≡ v → is_late t l b.noted.change ≡ false
    by_late false q = q
    by_late true q =
        opposed (is_late x l b.noted.change) (late_later t x l b.noted.change (calls_rise t x l front) q)
        (not_either (is_late x l b.noted.change) (is_old_for x.states l (endpoint_in b.noted.change.body)) b.noted.fresh)

-- ---- the Sends and Starts among moves
pub record IsSent (t : DriverTable) (moves : List Move) (x : Sending) : Type 0 where
  pub move : Move
  pub there : In move moves
  pub about : label_of t move ≡ Some x.label
  pub goes : goal_of move ≡ Some x.endpoint

pub sent_is : (t : DriverTable) (moves : List Move) (x : Sending) → Contains (sendings t moves) x → IsSent t moves x
sent_is t moves x h = by (In-from_filter_map (λ (m : Move). sending_to (label_of t m) (goal_of m)) moves x
    (In-from_Contains x (sendings t moves) h))
  where
    parts : (l : Option (List ℕ)) (g : Option EndpointRecord) → sending_to l g ≡ Some x → (l ≡ Some x.label) × (g ≡ Some x.endpoint)
    parts None g e = no_some x e
    parts (Some l) None e = no_some x e
    parts (Some l) (Some g) e = let same = same_some (record { label = l; endpoint = g }) x e in
        (ap (λ (z : Sending). Some z.label) same, ap (λ (z : Sending). Some z.endpoint) same)

    by : (m : Move) × In m moves × (sending_to (label_of t m) (goal_of m) ≡ Some x) → IsSent t moves x
    by k = let p = parts (label_of t k.0) (goal_of k.0) k.2 in record { move = k.0; there = k.1; about = p.0; goes = p.1 }

In-middle : {X : Type 0} (x : X) (xs ys : List X) → In x (xs ++ x ∷ ys)
In-middle x [] ys = inl refl
In-middle x (z ∷ xs) ys = inr (In-middle x xs ys)

no_more : {X A : Type 0} (m : X) (front back : List X) → [] ≡ front ++ m ∷ back → A
no_more m [] back e = cc
no_more m (b ∷ front) back e = cc

-- a move before a move of a turn is of its rounds
early : (rounds : List Move) (own : Option Move) (front back : List Move) (m w : Move) → rounds ++ request_moves own ≡ front ++ m ∷ back →
    In w front → In w rounds
early [] None front back m w e i = no_more m front back e
early [] (Some o) [] back m w e i = absurd i
early [] (Some o) (b ∷ front) back m w e i = no_more m front back (let q : [] ≡ front ++ m ∷ back = cc in q)
early (f ∷ rounds) own [] back m w e i = absurd i
early (f ∷ rounds) own (b ∷ front) back m w e (inl q) = inl (let h : f ≡ b = cc in q ∙ sym h)
early (f ∷ rounds) own (b ∷ front) back m w e (inr i) = inr
    (early rounds own front back m w (let q : rounds ++ request_moves own ≡ front ++ m ∷ back = cc in q) i)

own_there : (m : Move) (own : Option Move) → In m (request_moves own) → own ≡ Some m
own_there m None i = absurd i
own_there m (Some o) (inl e) = ap Some (sym e)
own_there m (Some o) (inr i) = absurd i

-- ---- the move of a request
-- it exists only if nothing ended the follow, and is that of a submit
abbrev pub TakesOwn : DriverTable → Option TableFault → Option Move → DriverTable → Type 0
TakesOwn followed stop None after = after ≡ followed
TakesOwn followed None (Some own) after = (id : ℕ) × (unit : ℕ) × (submitting followed id unit ≡ (Ok own, after))
TakesOwn followed (Some stop) (Some own) after = ⊥

pub own_leaves : (followed : DriverTable) (stop : Option TableFault) (own : Option Move) (after : DriverTable) →
    TakesOwn followed stop own after → LeavesLabels followed after
own_leaves followed stop None after h = subst (LeavesLabels followed) (sym h)
    (record { units = refl; states = refl; labels = λ m label q. q })
own_leaves followed None (Some own) after h = submit_leaves followed after h.0 h.1 own h.2
own_leaves followed (Some stop) (Some own) after h = absurd h

pub own_calls : (followed : DriverTable) (stop : Option TableFault) (own : Option Move) (after : DriverTable) →
    TakesOwn followed stop own after → LeadsOn followed after
own_calls followed stop None after h = no_calls followed after h
own_calls followed None (Some own) after h =
    one_call followed after (Submit h.0 h.1) (Ok (own ∷ [])) (submit_step followed after h.0 h.1 own h.2)
own_calls followed (Some stop) (Some own) after h = absurd h

own_living : (followed : DriverTable) (stop : Option TableFault) (own : Move) (after : DriverTable) → IsCalled followed →
    TakesOwn followed stop (Some own) after → (stop ≡ None) × GoesToLiving after own
own_living followed None own after came h =
    (refl, (none_to_older came.0 followed after (Submit h.0 h.1) (own ∷ []) came.1 (submit_step followed after h.0 h.1 own h.2)).0)
own_living followed (Some stop) own after came h = absurd h

-- no endpoint is no endpoint of this one, and none is old
none_some : (e : EndpointRecord) (o : Option EndpointRecord) → o ≡ None → o ≡ Some e → ⊥
none_some e o n s = let q : None ≡ Some e = sym n ∙ s in cc

below_newest_is : (epoch : ℕ) (newest : Option ℕ) (n : ℕ) → newest ≡ Some n → is_below_newest newest epoch ≡ true → epoch < n
below_newest_is epoch newest n e l = let k : nat_lt epoch n ≡ true = sym (ap (λ (g : Option ℕ). is_below_newest g epoch) e) ∙ l in
    grind (arith, nat_tests, k)

never_old : (newest : Option ℕ) (now : Option EndpointRecord) → is_old newest now None ≡ false
never_old None now = refl
never_old (Some g) now = refl

-- ---- a turn
-- a map's change of a living label is of the endpoint's generation
abbrev pub TellsGenerations : List Item → Type 0
TellsGenerations held = (label : List ℕ) (c : ChangeRecord) (e : EndpointRecord) → held_at held (label_key label) ≡ Some c →
    endpoint_in c.body ≡ Some e → c.version.epoch ≡ e.generation

-- a table knows the generation of each of these Sends and Starts
abbrev pub HasSeen : DriverTable → List Sending → Type 0
HasSeen t sent = (x : Sending) → Contains sent x → (h : ℕ) × (newest t.states x.label ≡ Some h) × (x.endpoint.generation ≤ h)

module _ (held : List Item) (tells : TellsGenerations held) (turn : TableTurn) (came : IsCalled turn.before)
    (follows : FollowsItems held turn) (own : TakesOwn turn.followed turn.stop turn.own turn.after) where
  leaves : LeavesLabels turn.followed turn.after
  leaves = own_leaves turn.followed turn.stop turn.own turn.after own

  led : LeadsOn turn.before turn.followed
  led = follow_calls held (labels_of turn.before) turn.before turn.rounds turn.stop turn.followed follows

  came_so_far : IsCalled turn.followed
  came_so_far = calls_twice empty_table turn.before turn.followed came led

  pub turn_leads : LeadsOn turn.before turn.after
  turn_leads = calls_twice turn.before turn.followed turn.after led (own_calls turn.followed turn.stop turn.own turn.after own)

  still : (turn.followed.units ≡ turn.before.units) × (turn.followed.requests ≡ turn.before.requests)
  still = follows_keep_units held (labels_of turn.before) turn.before turn.followed turn.rounds turn.stop follows

  -- two changes that a map has of one label are the same
  one_change : (k l : List ℕ) (c d : ChangeRecord) → k ≡ l → held_at held (label_key k) ≡ Some c → held_at held (label_key l) ≡ Some d →
      c ≡ d
  one_change k l c d same p q = same_some c d (sym p ∙ (ap (λ (z : List ℕ). held_at held (label_key z)) same ∙ q))

  of_map : (m : Move) → In m (round_moves turn) → IsOfMap held turn.before turn.followed m
  of_map m i = rounds_of_map held (labels_of turn.before) turn.before turn.rounds turn.stop turn.followed m came follows i

  about : (m : Move) (i : In m (round_moves turn)) → label_of turn.after m ≡ Some (of_map m i).label
  about m i = leaves.labels m (of_map m i).label (label_still turn.before turn.followed m still ∙ (of_map m i).about)

  newest_after : (label : List ℕ) → newest turn.after.states label ≡ newest turn.followed.states label
  newest_after label = ap (λ (l : List LabelState). newest l label) leaves.states

  now_after : (label : List ℕ) → endpoint_now turn.after.states label ≡ endpoint_now turn.followed.states label
  now_after label = ap (λ (l : List LabelState). endpoint_now l label) leaves.states

  before_after : (label : List ℕ) → IsAsBefore turn.before turn.followed label → IsAsBefore turn.before turn.after label
  before_after label p = record { now = now_after label ∙ p.now; newest = newest_after label ∙ p.newest }

  -- a Send or Start of the rounds
  round_goes : (earlier : List Sending) → HasSeen turn.before earlier → (front back : List Move) (m : Move) (e : EndpointRecord) →
      turn_moves turn ≡ front ++ m ∷ back → goal_of m ≡ Some e → In m (round_moves turn) →
      GoesToNoOlder held turn (earlier ++ sendings turn.after front) m e
  round_goes earlier seen front back m e split g i = record {
    label = k.label;
    under = about m i;
    of_map = λ c q. equal_at_most c.version.epoch e.generation
        (tells k.label c e q (subst (λ (z : ChangeRecord). endpoint_in z.body ≡ Some e)
        (one_change k.label k.label k.change c refl k.there q) (k.goes e g)));
    gone = λ c q n. absurd (none_some e (endpoint_in c.body) n
        (subst (λ (z : ChangeRecord). endpoint_in z.body ≡ Some e) (one_change k.label k.label k.change c refl k.there q) (k.goes e g)));
    of_earlier = λ x j same. elim (Contains-append_cases earlier (sendings turn.after front) x j) [
      | inl a ↦ (let p = seen x a in at_most p.2 (k.above e p.0 g (ap (newest turn.before.states) (sym same) ∙ p.1)))
      | inr b ↦ of_round x same (sent_is turn.after front x b)
    ];
    own = λ c f q n p. same_some e f (sym (k.goes e g) ∙
        (ap (λ (z : ChangeRecord). endpoint_in z.body) (one_change k.label k.label k.change c refl k.there q) ∙ n));
  }
    where
      k : IsOfMap held turn.before turn.followed m
      k = of_map m i

      of_round : (x : Sending) → x.label ≡ k.label → IsSent turn.after front x → x.endpoint.generation ≤ e.generation
      of_round x same s =
          let j = early (round_moves turn) turn.own front back m s.move split s.there in
          let w = of_map s.move j in
          let label : w.label ≡ k.label = same_some w.label k.label (sym (about s.move j) ∙ (s.about ∙ ap Some same)) in
          let end : x.endpoint ≡ e = same_some x.endpoint e
          (sym (w.goes x.endpoint s.goes) ∙ (ap (λ (z : ChangeRecord). endpoint_in z.body)
          (one_change w.label k.label w.change k.change label w.there k.there) ∙ k.goes e g)) in
          equal_at_most x.endpoint.generation e.generation (ap (λ (z : EndpointRecord). z.generation) end)

  -- a request's own Send
  module _ (m : Move) (e : EndpointRecord) (is : turn.own ≡ Some m) (g : goal_of m ≡ Some e) where
    living : (turn.stop ≡ None) × GoesToLiving turn.after m
    living = own_living turn.followed turn.stop m turn.after came_so_far
        (subst (λ (z : Option Move). TakesOwn turn.followed turn.stop z turn.after) is own)

    o : IsOwn turn.after m e
    o = own_goes turn.after m e living.1 g

    units_still : turn.after.units ≡ turn.before.units
    units_still = leaves.units ∙ still.0

    has : has_label turn.before.units o.label ≡ true
    has =
        ap (λ (z : List (ℕ × Driver)). has_label z o.label) (sym units_still)
        ∙ subst (λ (z : List ℕ). has_label turn.after.units z ≡ true) o.label_is (driver_listed turn.after.units o.unit o.driver o.found)

    settled : (c : ChangeRecord) (q : held_at held (label_key o.label) ≡ Some c) → Settled held o.label c q turn.before turn.followed
    settled c q =
        all_settled held o.label c q (labels_of turn.before) turn.before turn.rounds turn.followed
        (label_listed turn.before.units o.label has) has
        (subst (λ (z : Option TableFault). Follows held (labels_of turn.before) turn.before turn.rounds z turn.followed) living.0 follows)

    newest_so : newest turn.followed.states o.label ≡ Some e.generation
    newest_so = sym (newest_after o.label) ∙ o.greatest

    now_so : endpoint_now turn.followed.states o.label ≡ Some e
    now_so = sym (now_after o.label) ∙ o.now

    below_newest : (x : List ℕ) (n : ℕ) → x ≡ o.label → (h : ℕ) × (newest turn.followed.states x ≡ Some h) × (n ≤ h) → n ≤ e.generation
    below_newest x n same p = subst (λ (z : ℕ). n ≤ z)
        (some_number p.0 e.generation (sym p.1 ∙ (ap (newest turn.followed.states) same ∙ newest_so))) p.2

    -- what was passed over is of no greater generation
    passed_at_most : (c : ChangeRecord) → held_at held (label_key o.label) ≡ Some c → is_passed turn.before o.label c ≡ true →
        newest turn.before.states o.label ≡ Some e.generation → c.version.epoch ≤ e.generation
    passed_at_most c q p n = by (is_late turn.before o.label c) refl p
      where
        by_body : (body : Body) → is_old_tombstone (newest turn.before.states o.label) c.version.epoch body ≡ true →
            c.version.epoch ≤ e.generation
        by_body (Put value) k = opposed false k refl
        by_body Gone k = less_at_most c.version.epoch e.generation (sym (ap (λ (g : Option ℕ). is_below_newest g c.version.epoch) n) ∙ k)

        by : (late : Bool) → is_late turn.before o.label c ≡ late →
            late || is_old_for turn.before.states o.label (endpoint_in c.body) ≡ true → c.version.epoch ≤ e.generation
        by true l k = by_body c.body l
        by false l k =
            let old = old_at_most (newest turn.before.states o.label) (endpoint_now turn.before.states o.label) (endpoint_in c.body) k in
            let same : old.0 ≡ e.generation = some_number old.0 e.generation (sym old.2 ∙ n) in
            let epoch : c.version.epoch ≡ old.1.generation = tells o.label c old.1 q old.3 in
            let less : old.1.generation ≤ old.0 = old.4 in
            omega arith

    -- a tombstone that was passed over is of a lesser generation
    passed_below : (c : ChangeRecord) → held_at held (label_key o.label) ≡ Some c → endpoint_in c.body ≡ None →
        is_passed turn.before o.label c ≡ true → newest turn.before.states o.label ≡ Some e.generation → c.version.epoch < e.generation
    passed_below c q none p n = by (is_late turn.before o.label c) refl p
      where
        by_body : (body : Body) → is_old_tombstone (newest turn.before.states o.label) c.version.epoch body ≡ true →
            c.version.epoch < e.generation
        by_body (Put value) k = opposed false k refl
        by_body Gone k = below_newest_is c.version.epoch (newest turn.before.states o.label) e.generation n k

        by : (late : Bool) → is_late turn.before o.label c ≡ late →
            late || is_old_for turn.before.states o.label (endpoint_in c.body) ≡ true → c.version.epoch < e.generation
        by true l k = by_body c.body l
        by false l k = opposed (is_old_for turn.before.states o.label (endpoint_in c.body)) k
            (ap (is_old_for turn.before.states o.label) none ∙
            never_old (newest turn.before.states o.label) (endpoint_now turn.before.states o.label))

    own_goes_right : (earlier : List Sending) → HasSeen turn.before earlier → (front back : List Move) →
        turn_moves turn ≡ front ++ m ∷ back → GoesToNoOlder held turn (earlier ++ sendings turn.after front) m e
    own_goes_right earlier seen front back split = record {
      label = o.label;
      under = o.about;
      of_map = λ c q. elim (settled c q) [
        | inl now ↦ equal_at_most c.version.epoch e.generation (tells o.label c e q (sym now ∙ now_so))
        | inr p ↦ passed_at_most c q p.0 (sym p.1.newest ∙ newest_so)
      ];
      gone = λ c q n. elim (settled c q) [
        | inl now ↦ absurd (none_some e (endpoint_in c.body) n (sym now ∙ now_so))
        | inr p ↦ passed_below c q n p.0 (sym p.1.newest ∙ newest_so)
      ];
      of_earlier = λ x j same. elim (Contains-append_cases earlier (sendings turn.after front) x j) [
        | inl a ↦ (let p = seen x a in let h = calls_rise turn.before turn.followed x.label led p.0 p.1 in
            below_newest x.label x.endpoint.generation same (h.0, h.1, at_most p.2 h.2))
        | inr b ↦ of_round x same (sent_is turn.after front x b)
      ];
      own = λ c f q n p. elim (settled c q) [
        | inl now ↦ same_some e f (sym now_so ∙ (now ∙ n))
        | inr s ↦ opposed (is_passed turn.before o.label c) s.0 p
      ];
    }
      where
        of_round : (x : Sending) → x.label ≡ o.label → IsSent turn.after front x → x.endpoint.generation ≤ e.generation
        of_round x same s =
            let j = early (round_moves turn) turn.own front back m s.move split s.there in
            let w = of_map s.move j in
            let label : w.label ≡ o.label = same_some w.label o.label (sym (about s.move j) ∙ (s.about ∙ ap Some same)) in
            below_newest w.label x.endpoint.generation label (w.below x.endpoint s.goes)

  -- the three parts
  pub sends_right : (earlier : List Sending) → HasSeen turn.before earlier → (front back : List Move) (m : Move) (e : EndpointRecord) →
      turn_moves turn ≡ front ++ m ∷ back → goal_of m ≡ Some e →
      GoesToNoOlder held turn (earlier ++ sendings turn.after front) m e
  sends_right earlier seen front back m e split g =
      elim (In-append (round_moves turn) (request_moves turn.own) m (subst (In m) (sym split) (In-middle m front back))) [
        | inl i ↦ round_goes earlier seen front back m e split g i
        | inr i ↦ own_goes_right m e (own_there m turn.own i) g earlier seen front back split
      ]

  pub tombstones_right : (label : List ℕ) (c : ChangeRecord) → held_at held (label_key label) ≡ Some c →
      is_late turn.before label c ≡ true →
      IsAsBefore turn.before turn.after label × ((m : Move) → Contains (round_moves turn) m → label_of turn.after m ≡ Some label → ⊥)
  tombstones_right label c there late = (
    before_after label (late_stays held label c there (labels_of turn.before) turn.before turn.rounds turn.stop turn.followed late follows),
    λ m h q.
        let i = In-from_Contains m (round_moves turn) h in
        let k = of_map m i in
        let same : k.label ≡ label = same_some k.label label (sym (about m i) ∙ q) in
        let one : k.change ≡ c = one_change k.label label k.change c same k.there there in
        opposed (is_late turn.before label c) late
        (subst (λ (z : ChangeRecord). is_late turn.before label z ≡ false) one
        (subst (λ (z : List ℕ). is_late turn.before z k.change ≡ false) same k.fresh)),
  )

  pub knows_right : turn.stop ≡ None → (label : List ℕ) (c : ChangeRecord) → has_label turn.before.units label ≡ true →
      held_at held (label_key label) ≡ Some c →
      (endpoint_now turn.after.states label ≡ endpoint_in c.body) ⊎
      ((is_passed turn.before label c ≡ true) × IsAsBefore turn.before turn.after label)
  knows_right end label c has there =
      elim (all_settled held label c there (labels_of turn.before) turn.before turn.rounds turn.followed
      (label_listed turn.before.units label has) has
      (subst (λ (z : Option TableFault). Follows held (labels_of turn.before) turn.before turn.rounds z turn.followed) end follows)) [
        | inl now ↦ inl (now_after label ∙ now)
        | inr p ↦ inr (p.0, before_after label p.1)
      ]

  pub turn_right : (earlier : List Sending) → HasSeen turn.before earlier → FollowsRightly held turn earlier
  turn_right earlier seen = record { sends = sends_right earlier seen; tombstones = tombstones_right; knows = knows_right }

  -- the table knows the generations of all that it sent
  pub turn_seen : HasSeen turn.after (sendings turn.after (turn_moves turn))
  turn_seen x h = by (sent_is turn.after (turn_moves turn) x h)
    where
      by : IsSent turn.after (turn_moves turn) x → (h : ℕ) × (newest turn.after.states x.label ≡ Some h) × (x.endpoint.generation ≤ h)
      by s = elim (In-append (round_moves turn) (request_moves turn.own) s.move s.there) [
        | inl i ↦
            (let k = of_map s.move i in
            let same : k.label ≡ x.label = same_some k.label x.label (sym (about s.move i) ∙ s.about) in
            let b = k.below x.endpoint s.goes in
            (b.0, newest_after x.label ∙ subst (λ (z : List ℕ). newest turn.followed.states z ≡ Some b.0) same b.1, b.2))
        | inr i ↦
            (let q = o s.move x.endpoint (own_there s.move turn.own i) s.goes in
            let same : q.label ≡ x.label = same_some q.label x.label (sym q.about ∙ s.about) in (
              x.endpoint.generation,
              subst (λ (z : List ℕ). newest turn.after.states z ≡ Some x.endpoint.generation) same q.greatest,
              omega
                  arith,
            ))
      ]
