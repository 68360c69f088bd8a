-- Conditions on a seat at the table.
use Rattle.std.specs.Prelude.{◌≡◌, ℕ, ◌≤◌, ◌<◌, ◌^◌, true, List, [], ◌∷◌, ◌++◌, length, Option, Some, is_some, slice_index}
use mathlib.Core.List.{IsPrefix}
use Rattle.std.specs.List.{AllByRecursion}
use Rattle.atomic_table.specs.Seated.{TableId}
use Rattle.atomic_table.specs.declared.shared.Seat.{Seat}
use Rattle.history.specs.declared.entry.Entry.{Entry}
use Rattle.desk_rule.specs.declared.table.Home.{Home}
use Rattle.desk_rule.specs.declared.table.LastCall.{LastCall}
use Rattle.desk_rule.specs.declared.table.Opening.{Opening}
use Rattle.desk_rule.specs.declared.view.View.{View}
use Rattle.desk_rule.specs.declared.notice.Notice.{Notice}
use Rattle.history.specs.History.{entry, Run}
use Rattle.desk_rule.specs.History.{count_calls, OwnCalls, total_of, weigh_all}
use Rattle.desk_rule.specs.Notices.{IsOrder, IsOwed, OwnNotices, pending_after, raised_by, weigh_notices}
use Rattle.desk_rule.specs.Passes.{number_of}

abbrev pub SeatOf : Type 0 → Type 0 → Type 0 → Type 0
SeatOf M C R = Seat (Option (Home M C R)) (View M C R)

module _ {M C R : Type 0} where
  -- Whether the seat is at this table, which has 17 words and one slot.
  abbrev pub IsAtTable : TableId → SeatOf M C R → Type 0
  IsAtTable id p = (p.table_id ≡ id) × (id.words ≡ 17) × (id.slots ≡ 1)

  abbrev pub SameSeat : SeatOf M C R → SeatOf M C R → Type 0
  SameSeat p q = (q.table_id ≡ p.table_id) × (q.id ≡ p.id)

-- Whether these are the machine, the number of passes and the place of the first call of a new table.
abbrev pub IsOpening : {M : Type 0} → Opening M → M → ℕ → ℕ → Type 0
IsOpening key machine passes first = (key.machine.value ≡ machine) × (key.passes ≡ passes) × (key.first ≡ first)

-- Whether the seat of one pass holds the turn, and the slot has the machine after all entries that the seat has seen.
pub record HoldsTurn {M C R : Type 0} (steps : M → C → R → M → Type 0) (p : SeatOf M C R) : Type 0 where
  pub holding : p.me.0.holding ≡ true
  pub one_pass : length p.me.0.passes ≡ 1
  pub opened : is_some p.me.0.opening ≡ true
  pub home : Home M C R
  pub out : p.me.1 ≡ (0, Some home) ∷ []
  pub machine : (m : M) → p.me.0.opening ≡ Some m → Run steps m p.me.0.seen home.machine
  pub few : (s b : ℕ) → raised_by p.me.0.passes s b ≤ count_calls p.me.0.passes
  pub short : count_calls p.me.0.passes < 2 ^ 62

-- Whether the seat of one pass holds the turn, and the machine is back in the slot, as its last call left it.
pub record EndsTurn {M C R : Type 0} (steps : M → C → R → M → Type 0) (p : SeatOf M C R) : Type 0 where
  pub holding : p.me.0.holding ≡ true
  pub one_pass : length p.me.0.passes ≡ 1
  pub opened : is_some p.me.0.opening ≡ true
  pub home : Home M C R
  pub last : LastCall C R
  pub back : p.me.1 ≡ (0, Some home) ∷ []
  pub said : home.last ≡ Some last
  pub machine : (m : M) → p.me.0.opening ≡ Some m →
      Run steps m (p.me.0.seen ++ entry (number_of p.me.0.passes) last.command.value last.reply.value ∷ []) home.machine

-- The result of closing a table at a seat with all passes: the machine after one legal history, and the pending words after
-- one order of all notices. Both extend what the seat had seen, and have exactly the passes' entries and notices. Each
-- post belongs to a call of the history that owes its bits.
pub record IsClosed {M C R : Type 0} (steps : M → C → R → M → Type 0) (owes : R → ℕ) (opening : M) (first : ℕ) (v : View M C R)
    (machine : M) (pending : List ℕ) : Type 0 where
  pub history : List (Entry C R)
  pub legal : Run steps opening history machine
  pub seen : IsPrefix v.seen history
  pub own : OwnCalls history v.passes
  pub no_others : (weigh : Entry C R → ℕ) → total_of weigh history ≡ weigh_all weigh v.passes
  pub order : List Notice
  pub found : IsOrder order
  pub owed : AllByRecursion (IsOwed owes first history) order
  pub left : (s : ℕ) → s < 16 → slice_index pending s ≡ pending_after order s
  pub notices : IsPrefix v.notices order
  pub own_notices : OwnNotices order v.passes
  pub no_other_notices : (weigh : Notice → ℕ) → total_of weigh order ≡ weigh_notices weigh v.passes

-- Like `IsClosed`, by the parameters of the table.
abbrev pub LeavesTable : {M C R : Type 0} → (M → C → R → M → Type 0) → (R → ℕ) → Opening M → View M C R → M → List ℕ → Type 0
LeavesTable steps owes key v machine pending = IsClosed steps owes key.machine.value key.first v machine pending
