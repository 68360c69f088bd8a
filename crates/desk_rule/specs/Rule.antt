-- The rule of a desk's table. Word 0 is twice the place of the next call, plus 1 while a seat holds the turn. The slot has
-- the machine while no seat does.
use Rattle.std.specs.Prelude.{◌≡◌, ℕ, ◌+◌, ◌*◌, ◌^◌, ◌<◌, ◌≤◌, true, false, List, [], ◌∷◌, length, slice_index, Option, Some, None}
use Rattle.std.specs.List.{AllByRecursion}
use mathlib.Core.Option as maybe
use mathlib.Core.Option.{none, some}
use mathlib.Core.List.{IsPrefix}
use lib.ListN.{get_elem?}
use Rattle.atomic_table.specs.Table.{State}
use Rattle.history.specs.declared.entry.Entry.{Entry}
use Rattle.desk_rule.specs.declared.notice.Notice.{Notice}
use Rattle.desk_rule.specs.declared.view.PassLog.{PassLog}
use Rattle.desk_rule.specs.declared.view.View.{View}
use Rattle.desk_rule.specs.declared.table.Home.{Home}
use Rattle.desk_rule.specs.declared.table.LastCall.{LastCall}
use Rattle.history.specs.History.{calls_by, Run}
use Rattle.desk_rule.specs.History.{count_calls, total_of, weigh_all}
use Rattle.desk_rule.specs.Notices.{IsOrder, IsOwed, notices_by, pending_after, raised_by, weigh_notices}
use Rattle.desk_rule.specs.Passes.{AreDifferent, fresh}

-- The low bit of word 0: 1 if a seat holds the turn.
abbrev pub turn_bit : maybe.Option ℕ → ℕ
turn_bit none = 0
turn_bit (some j) = 1

module _ {M C R : Type 0} where
  -- The view of the first seat, which has all passes.
  abbrev pub opening_view : M → ℕ → ℕ → View M C R
  opening_view m first passes = record {
    opening = Some m;
    first = first;
    holding = false;
    seen = [];
    told = [];
    notices = [];
    told_notices = [];
    passes = fresh passes;
  }

  -- The view of a seat whose passes moved to another one.
  abbrev pub spent_view : View M C R
  spent_view = record { opening = None; first = 0; holding = false; seen = []; told = []; notices = []; told_notices = []; passes = [] }

  abbrev pub pass_count : View M C R → ℕ
  pass_count v = length v.passes

  abbrev pub weight_of : (Entry C R → ℕ) → View M C R → ℕ
  weight_of weigh v = weigh_all weigh v.passes

  abbrev pub notice_weight_of : (Notice → ℕ) → View M C R → ℕ
  notice_weight_of weigh v = weigh_notices weigh v.passes

  -- Whether the slot has the machine, unless a seat holds the turn.
  abbrev pub IsAtHome : M → List (maybe.Option (Option (Home M C R))) → maybe.Option ℕ → Type 0
  IsAtHome m homes none = (l : Option (LastCall C R)) × (homes ≡ some (Some record { machine = m; last = l }) ∷ [])
  IsAtHome m homes (some j) = homes ≡ none ∷ []

-- The part of the rule for seat j with the view v, by the whole history, the order of all notices, the seat that holds the
-- turn, and the seat of each pass.
pub record Seated {M C R : Type 0} (opening : M) (first : ℕ) (history : List (Entry C R)) (order : List Notice) (turn : maybe.Option ℕ)
    (seat_of : ℕ → ℕ) (passes j : ℕ) (v : View M C R) : Type 0 where
  pub opened : (m : M) → v.opening ≡ Some m → (m ≡ opening) × (v.first ≡ first)
  -- what the seat saw or learnt is a prefix of the history, and all of it if the seat holds the turn
  pub seen : IsPrefix v.seen history
  pub told : IsPrefix v.told history
  pub holds : v.holding ≡ true → (turn ≡ some j) × (v.seen ≡ history)
  -- the notices that the seat saw or learnt are a prefix of the order
  pub notices : IsPrefix v.notices order
  pub told_notices : IsPrefix v.told_notices order
  -- each pass of the seat has exactly its own entries and notices, and no other pass has its number
  pub own : AllByRecursion (λ (p : PassLog C R). (calls_by p.pass history ≡ p.calls) × (notices_by p.pass order ≡ p.notices) ×
      (seat_of p.pass ≡ j) × (p.pass < passes)) v.passes
  pub differ : AreDifferent v.passes
  -- the passes of the seat raised no bit more often than they called
  pub few : (s b : ℕ) → raised_by v.passes s b ≤ count_calls v.passes

-- The rule. There is one legal history and one order of all notices, and each seat knows a prefix of both. The pending
-- words are those that the notices leave.
pub record RuleHolds {M C R : Type 0} (steps : M → C → R → M → Type 0) (owes : R → ℕ) (opening : M) (first passes : ℕ)
    (s : State (Option (Home M C R)) (View M C R)) : Type 0 where
  pub history : List (Entry C R)
  pub order : List Notice
  pub machine : M
  pub turn : maybe.Option ℕ
  pub seat_of : ℕ → ℕ
  pub wide : length s.words ≡ 17
  pub word : slice_index s.words 0 ≡ 2 * (first + length history) + turn_bit turn
  pub room : first + length history + turn_bit turn ≤ 2 ^ 62
  pub legal : Run steps opening history machine
  pub home : IsAtHome machine s.homes turn
  pub holder : (j : ℕ) → turn ≡ some j → (v : View M C R) × (get_elem? s.views j ≡ some v) × (v.holding ≡ true) × (0 < length v.passes)
  -- each pass is at one seat, and each entry and each notice is a pass's
  pub all_passes : total_of pass_count s.views ≡ passes
  pub all_calls : (weigh : Entry C R → ℕ) → total_of (weight_of weigh) s.views ≡ total_of weigh history
  pub all_notices : (weigh : Notice → ℕ) → total_of (notice_weight_of weigh) s.views ≡ total_of weigh order
  pub found : IsOrder order
  pub pending : (i : ℕ) → i < 16 → slice_index s.words (i + 1) ≡ pending_after order i
  -- each post belongs to a call that is in the history and owes its bits
  pub owed : AllByRecursion (IsOwed owes first history) order
  -- only the bits 0 to 7 of a pending word are ever set
  pub eight_bits : (i : ℕ) → i < 16 → slice_index s.words (i + 1) < 256
  pub seated : (j : ℕ) (v : View M C R) → get_elem? s.views j ≡ some v → Seated opening first history order turn seat_of passes j v
