-- A follow, cut at one of its labels.
use Rattle.std.proofs.Common.{ℕ, List, [], ◌∷◌, ◌++◌, Option, None, refl, sym, ap, ◌∙◌, subst, inl, inr}
use Rattle.std.specs.List.{flat_map}
use Rattle.std.proofs.lemmas.Grind.{flat_map-append}
use Rattle.ds_entry.specs.declared.item.Item.{Item}
use Rattle.ds_entry.proofs.Members.{In}
use Rattle.ds_held.proofs.EntryLemmas.{In-append}
use Rattle.driver_tables.specs.declared.moves.Move.{Move}
use Rattle.driver_tables.specs.declared.fault.TableFault.{TableFault}
use Rattle.driver_tables.specs.DriverTable.{DriverTable}
use Rattle.rs_to_store.specs.Following.{news_of, taking, Follows}

-- all moves of rounds, in order
abbrev pub moves_of_rounds : List (List Move) → List Move
moves_of_rounds rounds = flat_map (λ (moves : List Move). moves) rounds

module _ (held : List Item) where
  -- the round of a label, and the table after it
  abbrev pub round_at : DriverTable → List ℕ → List (List Move)
  round_at x l = (taking x l (news_of held x l)).0

  abbrev pub table_past : DriverTable → List ℕ → DriverTable
  table_past x l = (taking x l (news_of held x l)).1

  -- the labels before this one were followed to the end, and led to a table; then this one was, and those after it
  pub record CutAt (t : DriverTable) (fault : Option TableFault) (u : DriverTable) (l : List ℕ) : Type 0 where
    pub front : List (List ℕ)
    pub back : List (List ℕ)
    pub x : DriverTable
    pub first : List (List Move)
    pub later : List (List Move)
    pub before : Follows held front t first None x
    pub past : Follows held back (table_past x l) later fault u

  one_more : (t : DriverTable) (fault : Option TableFault) (u : DriverTable) (k l : List ℕ) → CutAt (table_past t k) fault u l →
      CutAt t fault u l
  one_more t fault u k l c = record {
    front = k ∷ c.front;
    back = c.back;
    x = c.x;
    first = round_at t k ++ c.first;
    later = c.later;
    before = inl (c.first, refl, c.before);
    past = c.past;
  }

  -- the cut at a label that was followed to the end
  pub at_label : (labels : List (List ℕ)) (t : DriverTable) (rounds : List (List Move)) (u : DriverTable) (l : List ℕ) → In l labels →
      Follows held labels t rounds None u → CutAt t None u l
  at_label [] t rounds u l i f = absurd i
  at_label (k ∷ labels) t rounds u l (inl e) (inl (later, is, rest)) =
      subst (CutAt t None u) (sym e)
      (record { front = []; back = labels; x = t; first = []; later = later; before = (refl, refl, refl); past = rest })
  at_label (k ∷ labels) t rounds u l (inr i) (inl (later, is, rest)) =
      one_more t None u k l (at_label labels (table_past t k) later u l i rest)
  at_label (k ∷ labels) t rounds u l i (inr stop) = let e = stop.fault_is in cc

  -- the cut at the label that brought a move
  pub record CutBy (t : DriverTable) (fault : Option TableFault) (u : DriverTable) (m : Move) : Type 0 where
    pub label : List ℕ
    pub cut : CutAt t fault u label
    pub moved : In m (moves_of_rounds (round_at cut.x label))

  pub at_move : (labels : List (List ℕ)) (t : DriverTable) (rounds : List (List Move)) (fault : Option TableFault) (u : DriverTable)
      (m : Move) → In m (moves_of_rounds rounds) → Follows held labels t rounds fault u → CutBy t fault u m
  unfolding one_more
  at_move [] t rounds fault u m i f = absurd (subst (λ (z : List (List Move)). In m (moves_of_rounds z)) f.0 i)
  at_move (k ∷ labels) t rounds fault u m i (inr stop) =
      absurd (subst (λ (z : List (List Move)). In m (moves_of_rounds z)) stop.rounds_are i)
  at_move (k ∷ labels) t rounds fault u m i (inl (later, is, rest)) =
      elim (In-append (moves_of_rounds (round_at t k)) (moves_of_rounds later) m
      (subst (In m) (ap moves_of_rounds is ∙ flat_map-append (λ (moves : List Move). moves) (round_at t k) later) i)) [
        | inl here ↦ record {
          label = k;
          cut = record {
            front = [];
            back = labels;
            x = t;
            first = [];
            later = later;
            before = (refl, refl, refl);
            past =
                rest;
          };
          moved = here;
        }
        | inr there ↦ (let c = at_move labels (table_past t k) later fault u m there rest in
            record { label = c.label; cut = one_more t fault u k c.label c.cut; moved = c.moved })
      ]
