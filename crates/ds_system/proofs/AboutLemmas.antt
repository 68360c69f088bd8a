-- The effect of a label's new state: moves about that label, to its own endpoint.
use Rattle.std.proofs.Common.{◌≡◌, ℕ, Bool, true, false, cond, List, [], ◌∷◌, Option, Some, None, Result, Ok, refl, ap, sym, ◌∙◌, subst}
use Rattle.std.proofs.Common.{inl, inr, ◌⊎◌}
use Rattle.std.specs.List.{find, filter_map, cons_option}
use Rattle.std.specs.Option.{option_map, option_map_or, option_and_then}
use Rattle.ds_names.specs.Endpoint.{EndpointRecord}
use Rattle.ds_names.specs.Name.{is_same_name}
use Rattle.ds_entry.specs.Left.{endpoint_in}
use Rattle.ds_entry.specs.declared.item.Item.{Item}
use Rattle.ds_entry.proofs.Members.{In, In-from_Contains, Contains-from_In, Contains-from_filter}
use Rattle.ds_entry.proofs.OrderedLemmas.{from_along}
use Rattle.ds_held.proofs.EntryLemmas.{In-append}
use Rattle.ds_held.proofs.MergeLemmas.{no_some}
use Rattle.driver_tables.specs.declared.moves.Ending.{Ending}
use Rattle.driver_tables.specs.declared.moves.Move.{Move}
use Rattle.driver_tables.specs.declared.moves.Move.TheVariants.{Start, Send, Answer, Held}
use Rattle.driver_tables.specs.declared.fault.TableFault.{TableFault}
use Rattle.driver_tables.specs.declared.device.Class.{Class}
use Rattle.driver_tables.specs.declared.device.Class.TheVariants.{Block, Character, Network}
use Rattle.driver_tables.specs.Driver.{Driver, driver_of}
use Rattle.driver_tables.specs.DriverTable.{DriverTable, Request, empty_table, pending, is_pending, is_for}
use Rattle.driver_tables.specs.Changed.{network_start, start, settled, settled_of, settle, all_moves}
use Rattle.driver_tables.specs.Label.{endpoint_now, newest}
use Rattle.driver_tables.specs.Laws.{IsLiving, GoesToLiving}
use Rattle.driver_tables.specs.Reached.{IsTableReached}
use Rattle.driver_tables.specs.Run.{Entry, TableStep, TableRun, Changed}
use Rattle.driver_tables.proofs.LawLemmas.{find_itself, none_to_older}
use Rattle.driver_tables.proofs.RunLemmas.{reached}
use Rattle.driver_tables.proofs.TestLemmas.{same_name, name_itself}
use Rattle.driver_tables.proofs.UnitLemmas.{now_after}
use Rattle.ds_system.specs.Sending.{goal_of, label_of_unit, label_of_request, label_of}
use Rattle.ds_system.proofs.CutLemmas.{moves_of_rounds, round_at, table_past}
use Rattle.ds_system.proofs.NewsLemmas.{same_some, moves_for, table_with, Notes, skips_or_notes}

-- each value in a filter_map is that of an element
pub In-from_filter_map : {X Y : Type 0} (f : X → Option Y) (xs : List X) (y : Y) → In y (filter_map f xs) →
    (x : X) × In x xs × (f x ≡ Some y)
In-from_filter_map f [] y h = absurd h
In-from_filter_map {X} {Y} f (x ∷ xs) y h = by (f x) refl h (In-from_filter_map f xs y)
  where
    by : (o : Option Y) → f x ≡ o → In y (cons_option o (filter_map f xs)) →
        (In y (filter_map f xs) → (z : X) × In z xs × (f z ≡ Some y)) → (z : X) × In z (x ∷ xs) × (f z ≡ Some y)
    by None q k rest = let r = rest k in (r.0, inr r.1, r.2)
    by (Some z) q (inl e) rest = (x, inl refl, q ∙ ap Some (sym e))
    by (Some z) q (inr k) rest = let r = rest k in (r.0, inr r.1, r.2)

-- ---- the label that a move is about

-- a Start of the state is of a unit with the label
started_under : (l : List ℕ) (state : Option EndpointRecord) (u : ℕ × Driver) (m : Move) → start l state u ≡ Some m →
    (e : EndpointRecord) × (m ≡ Start u.0 e) × (u.1.label ≡ l)
started_under l state u m h = by (is_same_name l u.1.label) refl u.1.class state h
  where
    by : (b : Bool) → is_same_name l u.1.label ≡ b → (class : Class) (s : Option EndpointRecord) →
        cond b (network_start class u.0 s) None ≡ Some m → (e : EndpointRecord) × (m ≡ Start u.0 e) × (u.1.label ≡ l)
    by false n class s k = no_some m k
    by true n Block s k = no_some m k
    by true n Character s k = no_some m k
    by true n Network None k = no_some m k
    by true n Network (Some x) k = (x, sym (same_some (Start u.0 x) m k), sym (same_name l u.1.label n))

-- the move of a request is about the label of its unit
abbrev IsOfRequest : ℕ → Move → Type 0
IsOfRequest id m = ((e : EndpointRecord) × (m ≡ Send id e)) ⊎ ((ending : Ending) × (m ≡ Answer id ending))

settled_under : (units : List (ℕ × Driver)) (l : List ℕ) (state : Option EndpointRecord) (r : Request) (m : Move) →
    settle units l state r ≡ Some m → IsOfRequest r.id m × (label_of_unit units r.unit ≡ Some l)
settled_under units l state r m h = by (driver_of units r.unit) refl h
  where
    by_class : (class : Class) (s : Option EndpointRecord) → settled class r.id s ≡ Some m → IsOfRequest r.id m
    by_class Block None k = no_some m k
    by_class Block (Some x) k = inl (x, sym (same_some (Send r.id x) m k))
    by_class Character s k = inr (_, sym (same_some _ m k))
    by_class Network s k = inr (_, sym (same_some _ m k))

    by_name : (b : Bool) (d : Driver) → is_same_name l d.label ≡ b → cond b (settled d.class r.id state) None ≡ Some m →
        IsOfRequest r.id m × (d.label ≡ l)
    by_name false d n k = no_some m k
    by_name true d n k = (by_class d.class state k, sym (same_name l d.label n))

    by : (o : Option Driver) → driver_of units r.unit ≡ o → option_map_or (settled_of l state r.id) o None ≡ Some m →
        IsOfRequest r.id m × (label_of_unit units r.unit ≡ Some l)
    by None q k = no_some m k
    by (Some d) q k = let x = by_name (is_same_name l d.label) d refl k in (x.0, ap (option_map (λ (z : Driver). z.label)) q ∙ ap Some x.1)

-- so each move that a state brings is about its label
pub all_about : (t : DriverTable) (l : List ℕ) (state : Option EndpointRecord) (m : Move) → IsTableReached t → In m (all_moves t l state) →
    label_of t m ≡ Some l
all_about t l state m r h = elim (In-append (filter_map (start l state) t.units) (filter_map (settle t.units l state) (pending t)) m h) [
  | inl i ↦ starts (In-from_filter_map (start l state) t.units m i)
  | inr i ↦ settles (In-from_filter_map (settle t.units l state) (pending t) m i)
]
  where
    starts : (u : ℕ × Driver) × In u t.units × (start l state u ≡ Some m) → label_of t m ≡ Some l
    starts x =
        let s = started_under l state x.0 m x.2 in
        let there : driver_of t.units x.0.0 ≡ Some x.0.1 =
        from_along (λ (z : ℕ × Driver). driver_of t.units z.0 ≡ Some z.1) t.units x.0 r.units x.1 in
        ap (label_of t) s.1 ∙ (ap (option_map (λ (d : Driver). d.label)) there ∙ ap Some s.2)

    settles : (q : Request) × In q (pending t) × (settle t.units l state q ≡ Some m) → label_of t m ≡ Some l
    settles x = elim s.0 [ inl w ↦ ap (label_of t) w.1 ∙ of | inr w ↦ ap (label_of t) w.1 ∙ of ]
      where
        s : IsOfRequest x.0.id m × (label_of_unit t.units x.0.unit ≡ Some l)
        s = settled_under t.units l state x.0 m x.2

        found : find (is_for x.0.id) t.requests ≡ Some x.0
        found = from_along (λ (z : Request). find (is_for z.id) t.requests ≡ Some z) t.requests x.0 (find_itself t.requests r.distinct)
            (In-from_Contains x.0 t.requests (Contains-from_filter (is_pending t.answers) t.requests x.0
            (Contains-from_In x.0 (pending t) x.1)).0)

        of : label_of_request t.units t.requests x.0.id ≡ Some l
        of = ap (option_and_then (λ (z : Request). label_of_unit t.units z.unit)) found ∙ s.1

-- ---- the living driver that a Send or a Start goes to

-- the move is about a label that has this endpoint now, and had no greater generation
pub record IsOwn (u : DriverTable) (m : Move) (e : EndpointRecord) : Type 0 where
  pub label : List ℕ
  pub about : label_of u m ≡ Some label
  pub unit : ℕ
  pub driver : Driver
  pub found : driver_of u.units unit ≡ Some driver
  pub label_is : driver.label ≡ label
  pub now : endpoint_now u.states label ≡ Some e
  pub greatest : newest u.states label ≡ Some e.generation

living_own : (u : DriverTable) (unit : ℕ) (x e : EndpointRecord) (m : Move) → IsLiving u unit x → Some x ≡ Some e →
    label_of u m ≡ label_of_unit u.units unit → IsOwn u m e
living_own u unit x e m l g q =
    let same : x ≡ e = same_some x e g in
    record {
      label = l.driver.label;
      about = q ∙ ap (option_map (λ (d : Driver). d.label)) l.found;
      unit = unit;
      driver = l.driver;
      found = l.found;
      label_is = refl;
      now = l.now ∙ ap Some same;
      greatest = l.greatest ∙ ap (λ (z : EndpointRecord). Some z.generation) same;
    }

pub own_goes : (u : DriverTable) (m : Move) (e : EndpointRecord) → GoesToLiving u m → goal_of m ≡ Some e → IsOwn u m e
own_goes u (Start unit x) e h g = living_own u unit x e (Start unit x) h g refl
own_goes u (Send id x) e h g = living_own u h.0.unit x e (Send id x) h.2 g
    (ap (option_and_then (λ (z : Request). label_of_unit u.units z.unit)) h.1)
own_goes u (Answer id ending) e h g = no_some e g
own_goes u (Held id) e h g = no_some e g

-- ---- a move that the map's change of a label brought

-- the map's change wasn't passed over, and the move is one of its state
pub record IsBrought (held : List Item) (x : DriverTable) (l : List ℕ) (m : Move) : Type 0 where
  pub noted : Notes held x l
  pub moved : In m (moves_for noted.now x l (endpoint_in noted.change.body))

pub brought_so : (held : List Item) (x : DriverTable) (l : List ℕ) (m : Move) → In m (moves_of_rounds (round_at held x l)) →
    IsBrought held x l m
brought_so held x l m i = elim (skips_or_notes held x l)
    [ inl s ↦ absurd (subst (In m) s.none i) | inr n ↦ record { noted = n; moved = subst (In m) n.moves i } ]

module _ (held : List Item) (x : DriverTable) (l : List ℕ) (m : Move) (b : IsBrought held x l m) where
  -- the call with the state
  pub brought_step : TableStep x (Changed l (endpoint_in b.noted.change.body))
      (Ok (moves_for b.noted.now x l (endpoint_in b.noted.change.body))) (table_past held x l)
  brought_step = record {
    answer_is = sym (ap (λ (p : Result (List Move) TableFault × DriverTable). p.0) b.noted.answer);
    after = b.noted.past ∙ sym (ap (λ (p : Result (List Move) TableFault × DriverTable). p.1) b.noted.answer);
    unchanged = tt;
  }

  -- the move is about the label
  pub brought_about : IsTableReached x → label_of x m ≡ Some l
  brought_about r = by b.noted.now b.moved
    where
      by : (now : Bool) → In m (moves_for now x l (endpoint_in b.noted.change.body)) → label_of x m ≡ Some l
      by true i = absurd i
      by false i = all_about x l (endpoint_in b.noted.change.body) m r i

  -- the label has the state now
  now_noted : endpoint_now (table_past held x l).states l ≡ endpoint_in b.noted.change.body
  now_noted =
      ap (λ (z : DriverTable). endpoint_now z.states l) b.noted.past
      ∙ (now_after x.states (record { label = l; endpoint = endpoint_in b.noted.change.body }) l
      ∙ ap (λ (t : Bool). cond t (endpoint_in b.noted.change.body) (endpoint_now x.states l)) (name_itself l))

  -- if the move goes to an endpoint, that is the map's own, of the label's newest generation
  pub record IsGoal (e : EndpointRecord) : Type 0 where
    pub own : endpoint_in b.noted.change.body ≡ Some e
    pub greatest : newest (table_past held x l).states l ≡ Some e.generation

  pub brought_goes : (entries : List Entry) (e : EndpointRecord) → TableRun empty_table entries x → goal_of m ≡ Some e → IsGoal e
  brought_goes entries e run g = record {
    own = sym now_noted ∙ subst (λ (z : List ℕ). endpoint_now (table_past held x l).states z ≡ Some e) label o.now;
    greatest = subst (λ (z : List ℕ). newest (table_past held x l).states z ≡ Some e.generation) label o.greatest;
  }
    where
      given : List Move
      given = moves_for b.noted.now x l (endpoint_in b.noted.change.body)

      living : GoesToLiving (table_past held x l) m
      living = from_along (GoesToLiving (table_past held x l)) given m
          (none_to_older entries x (table_past held x l) (Changed l (endpoint_in b.noted.change.body)) given run brought_step) b.moved

      o : IsOwn (table_past held x l) m e
      o = own_goes (table_past held x l) m e living g

      still : label_of (table_past held x l) m ≡ label_of x m
      still = ap (λ (z : DriverTable). label_of z m) b.noted.past ∙ same m
        where
          same : (m : Move) → label_of (table_with b.noted.now x l (endpoint_in b.noted.change.body)) m ≡ label_of x m
          same (Start unit f) = refl
          same (Send id f) = refl
          same (Answer id ending) = refl
          same (Held id) = refl

      label : o.label ≡ l
      label = same_some o.label l (sym o.about ∙ (still ∙ brought_about (reached x entries run)))
