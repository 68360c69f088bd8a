-- The effect of a call that got no turn on its pass.
use Rattle.history.specs.History.{Stepped}
use Rattle.desk_rule.specs.declared.turn.NoTurn.{NoTurn}
use Rattle.desk_rule.specs.declared.turn.NoTurn.TheVariants.{Busy, Worn as NoPlace}
use Rattle.desk_rule.specs.declared.view.View.{View}
use Rattle.desk_rule.specs.Free.{TurnWasTaken}
use Rattle.std.specs.Prelude.{ℕ}
use Rattle.desk.specs.declared.fault.DeskFault.TheVariants.{Worn}
use Rattle.desk.specs.declared.pass.Sight.{Ghosts}
use Rattle.desk.specs.Calls.{FindsNoPlace, SameNotices, Sees}
use Rattle.desk.specs.Pass.{Pass}

module _ {M C R : Type 0} {G : Ghosts (View M C R)} where
  -- Whether the pass called nothing, for this cause. Busy: at its last try some seat held the turn or took it first, and the pass
  -- has seen as much as before, or more. Worn: no place is left.
  abbrev pub MissesCall : {S : Type 0} → (M → S → Type 0) → (S → C → R → S → Type 0) → (R → ℕ) → NoTurn → Pass M C R G → Pass M C R G
      → Type 0
  MissesCall stands steps owes Busy p q = Sees stands steps p q × SameNotices p q × TurnWasTaken (Stepped stands steps) owes p.seat.me.0
  MissesCall stands steps owes NoPlace p q = FindsNoPlace stands steps Worn p q
