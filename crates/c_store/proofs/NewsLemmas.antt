-- What a table does with the map's change of one label, and what it knows of that change then.
use Rattle.std.proofs.Common.{◌≡◌, ◌==◌, ◌&&◌, ◌||◌, ℕ, ◌+◌, ◌≤◌, nat_lt, Bool, true, false, not, cond, List, [], ◌∷◌, ◌++◌, Option, Some}
use Rattle.std.proofs.Common.{None, Ok, refl, ap, sym, ◌∙◌, subst, inl, inr, ◌⊎◌, arith}
use Rattle.std.proofs.lemmas.Bool.Decides.{nat_tests}
use Rattle.ds_names.specs.Endpoint.{EndpointRecord}
use Rattle.ds_names.specs.Key.{label_key}
use Rattle.ds_names.specs.Name.{is_same_name}
use Rattle.ds_names.proofs.Tests.{opposed}
use Rattle.ds_entry.specs.Change.{ChangeRecord}
use Rattle.ds_entry.specs.Left.{endpoint_in}
use Rattle.ds_entry.specs.declared.body.Body.{Body}
use Rattle.ds_entry.specs.declared.body.Body.TheVariants.{Put, Gone}
use Rattle.ds_entry.specs.declared.item.Item.{Item}
use Rattle.ds_held.proofs.MergeLemmas.{no_some}
use Rattle.ds_machine.specs.Parts.{held_at}
use Rattle.driver_tables.specs.declared.moves.Move.{Move}
use Rattle.driver_tables.specs.Driver.{has_label}
use Rattle.driver_tables.specs.DriverTable.{DriverTable}
use Rattle.driver_tables.specs.Doing.{does}
use Rattle.driver_tables.specs.Changed.{all_moves, notes, changing}
use Rattle.driver_tables.specs.Label.{LabelState, endpoint_now, newest, newer, is_same_state, is_old, is_old_for}
use Rattle.driver_tables.proofs.RunLemmas.{changed_so}
use Rattle.driver_tables.proofs.TestLemmas.{same_name, name_itself}
use Rattle.driver_tables.proofs.UnitLemmas.{now_after, newest_after}
use Rattle.rs_to_store.specs.News.{is_below_newest, is_old_tombstone, told}
use Rattle.rs_to_store.specs.Following.{news_of, as_round, taking}

pub in_some : {X : Type 0} {x y : X} → Some x ≡ Some y → x ≡ y
in_some e = cc

-- the label had this generation, or a greater one
abbrev pub HasReached : DriverTable → List ℕ → ℕ → Type 0
HasReached t label n = (h : ℕ) × (newest t.states label ≡ Some h) × (n ≤ h)

-- the table knows a label's state of an epoch: it has had the endpoint's generation; or it has no endpoint now, or one of a greater
-- generation
abbrev pub Knows : DriverTable → List ℕ → ℕ → Option EndpointRecord → Type 0
Knows t label epoch (Some e) = HasReached t label e.generation
Knows t label epoch None = (endpoint_now t.states label ≡ None) ⊎ HasReached t label (epoch + 1)

abbrev pub KnowsChange : DriverTable → List ℕ → ChangeRecord → Type 0
KnowsChange t label c = Knows t label c.version.epoch (endpoint_in c.body)

-- ---- what the table knows
less_is : (m n : ℕ) → nat_lt m n ≡ true → m + 1 ≤ n
less_is m n l = grind (arith, nat_tests)

not_less : (m n : ℕ) → nat_lt m n ≡ false → n ≤ m
not_less m n l = grind (arith, nat_tests)

late_known : (x : DriverTable) (label : List ℕ) (epoch : ℕ) (body : Body) → is_old_tombstone (newest x.states label) epoch body ≡ true →
    Knows x label epoch (endpoint_in body)
late_known x label epoch (Put value) k = opposed false k refl
late_known x label epoch Gone k = by (newest x.states label) refl k
  where
    by : (n : Option ℕ) → newest x.states label ≡ n → is_below_newest n epoch ≡ true →
        (endpoint_now x.states label ≡ None) ⊎ HasReached x label (epoch + 1)
    by None q k = opposed false k refl
    by (Some g) q k = inr (g, q, less_is epoch g k)

old_known : (x : DriverTable) (label : List ℕ) (epoch : ℕ) (state : Option EndpointRecord) → is_old_for x.states label state ≡ true →
    Knows x label epoch state
old_known x label epoch None k = by (newest x.states label) k
  where
    by : (n : Option ℕ) → is_old n (endpoint_now x.states label) None ≡ true → Knows x label epoch None
    by None k = opposed false k refl
    by (Some g) k = opposed false k refl
old_known x label epoch (Some e) k = by (newest x.states label) refl k
  where
    equal : (g : ℕ) → e.generation == g ≡ true → e.generation ≤ g
    equal g q = grind (arith, nat_tests)

    less : (g : ℕ) → nat_lt e.generation g ≡ true → e.generation ≤ g
    less g q = grind (arith, nat_tests)

    same : (g : ℕ) (b c : Bool) → e.generation == g ≡ b → b && c ≡ true → e.generation ≤ g
    same g true c q j = equal g q
    same g false c q j = opposed false j refl

    at : (g : ℕ) (b c : Bool) → nat_lt e.generation g ≡ b → b || ((e.generation == g) && c) ≡ true → e.generation ≤ g
    at g true c q j = less g q
    at g false c q j = same g (e.generation == g) c refl j

    by : (n : Option ℕ) → newest x.states label ≡ n → is_old n (endpoint_now x.states label) (Some e) ≡ true →
        HasReached x label e.generation
    by None q k = opposed false k refl
    by (Some g) q k = (g, q, at g (nat_lt e.generation g) (not (is_same_state (endpoint_now x.states label) (Some e))) refl k)

abbrev pub noted : List ℕ → Option EndpointRecord → LabelState
noted label state = record { label = label; endpoint = state }

-- a table after one more state of a label
module _ (x y : DriverTable) (l : List ℕ) (state : Option EndpointRecord) (more : y.states ≡ x.states ++ noted l state ∷ []) where
  now_so : (label : List ℕ) (b : Bool) → is_same_name l label ≡ b → endpoint_now y.states label ≡ cond b state (endpoint_now x.states label)
  now_so label b q =
      ap (λ (s : List LabelState). endpoint_now s label) more ∙
      (now_after x.states (noted l state) label ∙ ap (λ (b : Bool). cond b state (endpoint_now x.states label)) q)

  newest_so : (label : List ℕ) (b : Bool) → is_same_name l label ≡ b →
      newest y.states label ≡ cond b (newer (newest x.states label) state) (newest x.states label)
  newest_so label b q =
      ap (λ (s : List LabelState). newest s label) more
      ∙ (newest_after x.states (noted l state) label ∙
      ap (λ (b : Bool). cond b (newer (newest x.states label) state) (newest x.states label)) q)

  noted_known : (epoch : ℕ) → Knows y l epoch state
  noted_known epoch = by state (now_so l true (name_itself l)) (newest_so l true (name_itself l))
    where
      reached : (e : EndpointRecord) (g : Option ℕ) → newest y.states l ≡ newer g (Some e) → HasReached y l e.generation
      reached e None q = (e.generation, q, omega arith)
      reached e (Some g) q = at (nat_lt g e.generation) refl q
        where
          at : (b : Bool) → nat_lt g e.generation ≡ b → newest y.states l ≡ Some (cond b e.generation g) → HasReached y l e.generation
          at true r q = (e.generation, q, omega arith)
          at false r q = (g, q, not_less g e.generation r)

      by : (s : Option EndpointRecord) → endpoint_now y.states l ≡ s → newest y.states l ≡ newer (newest x.states l) s → Knows y l epoch s
      by None now new = inl now
      by (Some e) now new = reached e (newest x.states l) new

  other_known : (label : List ℕ) (epoch : ℕ) (o : Option EndpointRecord) → is_same_name l label ≡ false → Knows x label epoch o →
      Knows y label epoch o
  other_known label epoch (Some e) q (h, n, m) = (h, newest_so label false q ∙ n, m)
  other_known label epoch None q (inl n) = inl (now_so label false q ∙ n)
  other_known label epoch None q (inr (h, n, m)) = inr (h, newest_so label false q ∙ n, m)

-- ---- the news of a label
module _ (held : List Item) (x : DriverTable) (l : List ℕ) where
  -- the table is unchanged, and knew it
  pub record Passes : Type 0 where
    pub past : taking x l (news_of held x l) ≡ ([], x)
    pub knows : (c : ChangeRecord) → held_at held (label_key l) ≡ Some c → KnowsChange x l c

  -- or the map's state of the label is one more state of the table, with a round of its moves
  pub record Notes : Type 0 where
    pub change : ChangeRecord
    pub there : held_at held (label_key l) ≡ Some change
    pub same : Bool
    pub moves : List Move
    pub moves_are : moves ≡ cond same [] (all_moves x l (endpoint_in change.body))
    pub answer : changing x l (endpoint_in change.body) ≡ (Ok moves, does (notes x l (endpoint_in change.body)) moves)
    pub past : taking x l (news_of held x l) ≡ (moves ∷ [], does (notes x l (endpoint_in change.body)) moves)

  module _ (has : has_label x.units l ≡ true) (c : ChangeRecord) (there : held_at held (label_key l) ≡ Some c) where
    abbrev state : Option EndpointRecord
    state = endpoint_in c.body

    abbrev is_same : Bool
    is_same = is_same_state (endpoint_now x.states l) state

    passed : taking x l (news_of held x l) ≡ ([], x) → KnowsChange x l c → Passes
    passed past known = record { past = past; knows = λ d q. subst (KnowsChange x l) (in_some (sym there ∙ q)) known }

    news_by : (late : Bool) → is_old_tombstone (newest x.states l) c.version.epoch c.body ≡ late →
        news_of held x l ≡ cond late None (Some state)
    news_by late q = ap (told (newest x.states l)) there ∙ ap (λ (b : Bool). cond b None (Some state)) q

    answer_by : (old : Bool) → is_old_for x.states l state ≡ old → changing x l state ≡ changed_so x l state true old is_same
    answer_by old q = ap (λ (b : Bool). changed_so x l state b (is_old_for x.states l state) is_same) has ∙
        ap (λ (b : Bool). changed_so x l state true b is_same) q

    by_old : news_of held x l ≡ Some state → (old : Bool) → is_old_for x.states l state ≡ old → Passes ⊎ Notes
    by_old news true q = inl (passed (ap (taking x l) news ∙ ap (as_round x) (answer_by true q)) (old_known x l c.version.epoch state q))
    by_old news false q = inr (record {
      change = c;
      there = there;
      same = is_same;
      moves = cond is_same [] (all_moves x l state);
      moves_are = refl;
      answer = answer_by false q;
      past = ap (taking x l) news ∙ ap (as_round x) (answer_by false q);
    })

    by_late : (late : Bool) → is_old_tombstone (newest x.states l) c.version.epoch c.body ≡ late → Passes ⊎ Notes
    by_late true q = inl (passed (ap (taking x l) (news_by true q)) (late_known x l c.version.epoch c.body q))
    by_late false q = by_old (news_by false q) (is_old_for x.states l state) refl

  pub passes_or_notes : has_label x.units l ≡ true → Passes ⊎ Notes
  passes_or_notes has = by (held_at held (label_key l)) refl
    where
      by : (o : Option ChangeRecord) → held_at held (label_key l) ≡ o → Passes ⊎ Notes
      by None q = inl
          (record
          { past = ap (λ (o : Option ChangeRecord). taking x l (told (newest x.states l) o)) q; knows = λ c k. no_some c (sym q ∙ k) })
      by (Some c) q = by_late has c q (is_old_tombstone (newest x.states l) c.version.epoch c.body) refl

  -- what the table knows of this label then, and that it still knows the others
  module _ (has : has_label x.units l ≡ true) where
    pub past_knows : (c : ChangeRecord) → held_at held (label_key l) ≡ Some c → KnowsChange (taking x l (news_of held x l)).1 l c
    past_knows c q = elim (passes_or_notes has) [
      | inl p ↦ subst (λ (r : List (List Move) × DriverTable). KnowsChange r.1 l c) (sym p.past) (p.knows c q)
      | inr n ↦
          subst (λ (r : List (List Move) × DriverTable). KnowsChange r.1 l c) (sym n.past)
          (subst (KnowsChange (does (notes x l (endpoint_in n.change.body)) n.moves) l) (in_some (sym n.there ∙ q))
          (noted_known x (does (notes x l (endpoint_in n.change.body)) n.moves) l (endpoint_in n.change.body) refl n.change.version.epoch))
    ]

    pub knows_past : (label : List ℕ) (c : ChangeRecord) → held_at held (label_key label) ≡ Some c → KnowsChange x label c →
        KnowsChange (taking x l (news_of held x l)).1 label c
    knows_past label c q k = by (is_same_name l label) refl
      where
        by : (b : Bool) → is_same_name l label ≡ b → KnowsChange (taking x l (news_of held x l)).1 label c
        by true e =
            subst (λ (z : List ℕ). KnowsChange (taking x l (news_of held x l)).1 z c) (same_name l label e)
            (past_knows c (ap (λ (z : List ℕ). held_at held (label_key z)) (same_name l label e) ∙ q))
        by false e = elim (passes_or_notes has) [
          | inl p ↦ subst (λ (r : List (List Move) × DriverTable). KnowsChange r.1 label c) (sym p.past) k
          | inr n ↦
              subst (λ (r : List (List Move) × DriverTable). KnowsChange r.1 label c) (sym n.past)
              (other_known x (does (notes x l (endpoint_in n.change.body)) n.moves) l (endpoint_in n.change.body) refl label
              c.version.epoch (endpoint_in c.body) e k)
        ]
