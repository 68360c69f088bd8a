-- The effect of a try for the turn that got none: p is the seat before, and q after.
use Rattle.std.specs.Prelude.{◌≡◌, ◌⊎◌, ℕ, ◌+◌, ◌*◌, ◌%◌, ◌^◌, ◌<◌, false, length, slice_index, Option}
use mathlib.Core.Option.{some}
use lib.ListN.{get_elem?}
use Rattle.atomic_table.specs.Table.{State}
use Rattle.desk_rule.specs.declared.turn.NoTurn.{NoTurn}
use Rattle.desk_rule.specs.declared.turn.NoTurn.TheVariants.{Busy, Worn}
use Rattle.desk_rule.specs.declared.table.Home.{Home}
use Rattle.desk_rule.specs.declared.view.View.{View}
use Rattle.desk_rule.specs.Kinds.{Looks, TellsTurn}
use Rattle.desk_rule.specs.Rule.{RuleHolds}
use Rattle.desk_rule.specs.Seat.{SameSeat, SeatOf}
use Rattle.desk_rule.specs.Steps.{FindsWorn, Rests}

module _ {M C R : Type 0} (steps : M → C → R → M → Type 0) (owes : R → ℕ) where
  -- Whether w is a view of the same passes, with the same opening, as v. It may have seen more.
  abbrev pub IsSameSight : View M C R → View M C R → Type 0
  IsSameSight v w = (w.opening ≡ v.opening) × (w.first ≡ v.first) × (w.passes ≡ v.passes)

  -- Whether a greater word than `looked` was found at a seat of the same passes, in another state that keeps the rule. So
  -- another seat took the turn between the two steps.
  pub record WasOvertaken (v : View M C R) (looked : ℕ) : Type 0 where
    pub view : View M C R
    pub same : IsSameSight v view
    pub found : ℕ
    pub later : looked < found
    pub tells : TellsTurn steps owes view found

  -- Whether a try of the seat with this view missed the turn for a cause: in the state of the table from which it loaded word 0
  -- some seat held the turn, or another seat took the turn before it.
  pub record TurnWasTaken (v : View M C R) : Type 0 where
    pub view : View M C R
    pub same : IsSameSight v view
    pub looked : ℕ
    pub tells : TellsTurn steps owes view looked
    pub taken : (looked % 2 ≡ 1) ⊎ WasOvertaken v looked

  -- Whether the last try of the seat found the turn taken, and nothing was called. The seat has seen more, or as much.
  pub record FindsBusy (p q : SeatOf M C R) : Type 0 where
    pub found : ℕ
    pub looks : Looks steps p.me.0 found false q.me.0
    pub rests : Rests q
    pub taken : TurnWasTaken p.me.0

  -- Whether the seat called nothing, for this cause.
  abbrev pub MissesTurn : NoTurn → SeatOf M C R → SeatOf M C R → Type 0
  MissesTurn Busy p q = FindsBusy p q
  MissesTurn Worn p q = Looks steps p.me.0 (2 ^ 63) false q.me.0 × Rests q

  -- Whether the same seat called nothing, for this cause.
  abbrev pub FindsNoTurn : NoTurn → SeatOf M C R → SeatOf M C R → Type 0
  FindsNoTurn Busy p q = SameSeat p q × FindsBusy p q
  FindsNoTurn Worn p q = FindsWorn steps p q

  -- Whether no seat holds the turn.
  abbrev pub IsFree : State (Option (Home M C R)) (View M C R) → Type 0
  IsFree s = (j : ℕ) (w : View M C R) → get_elem? s.views j ≡ some w → w.holding ≡ false

  -- A law: whenever no call is in its turn, word 0 is twice the place of the next call.
  abbrev pub FreeWordIsPlace : Type 0
  FreeWordIsPlace =
      (opening : M) (first passes : ℕ) (s : State (Option (Home M C R)) (View M C R)) → (r : RuleHolds steps owes opening first passes s) →
      IsFree s → slice_index s.words 0 ≡ 2 * (first + length r.history)

  -- A law: a try that loaded word 0 while no call was in its turn gets the turn, unless another seat took it first.
  abbrev pub FreeTurnIsGot : Type 0
  FreeTurnIsGot = (v : View M C R) → (t : TurnWasTaken v) → IsFree t.tells.state → WasOvertaken v t.looked
