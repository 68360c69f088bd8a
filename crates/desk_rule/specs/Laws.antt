-- Laws of the rule.
use Rattle.std.specs.Prelude.{◌≡◌, ℕ, ◌+◌, ◌<◌, true, List, ◌∷◌, ◌++◌, slice_index, Option}
use Rattle.std.specs.List.{AllByRecursion}
use Rattle.std.specs.Int.{bit_at}
use mathlib.Core.Option.{some}
use lib.ListN.{get_elem?}
use Rattle.atomic_table.specs.Table.{State}
use Rattle.desk_rule.specs.declared.notice.Notice.{Notice}
use Rattle.desk_rule.specs.declared.table.Home.{Home}
use Rattle.desk_rule.specs.declared.view.View.{View}
use Rattle.history.specs.History.{IsLegal}
use Rattle.desk_rule.specs.History.{OneBegins, total_of}
use Rattle.desk_rule.specs.Notices.{IsOrder, IsOwed, NoTakes, OwedIn, pending_after, raised_by, set_by, taken_by}
use Rattle.desk_rule.specs.Rule.{RuleHolds}

module _ {M C R : Type 0} (steps : M → C → R → M → Type 0) (owes : R → ℕ) where
  abbrev TableState : Type 0
  TableState = State (Option (Home M C R)) (View M C R)

  -- A law: the entries that two seats have seen are legal, and one list is a prefix of the other.
  abbrev pub HistoriesAgree : Type 0
  HistoriesAgree =
      (opening : M) (first passes : ℕ) (s : TableState) → RuleHolds steps owes opening first passes s → (i j : ℕ) (v w : View M C R) →
      get_elem? s.views i ≡ some v → get_elem? s.views j ≡ some w
      → OneBegins v.seen w.seen × IsLegal steps opening v.seen × IsLegal steps opening w.seen

  -- A law: the notices that two seats have seen each found their word as those before them left it, and one list is a prefix
  -- of the other.
  abbrev pub NoticesAgree : Type 0
  NoticesAgree =
      (opening : M) (first passes : ℕ) (s : TableState) → RuleHolds steps owes opening first passes s → (i j : ℕ) (v w : View M C R) →
      get_elem? s.views i ≡ some v → get_elem? s.views j ≡ some w
      → OneBegins v.notices w.notices × IsOrder v.notices × IsOrder w.notices

  -- A law: two seats that hold the turn are the same.
  abbrev pub OneSeatHolds : Type 0
  OneSeatHolds =
      (opening : M) (first passes : ℕ) (s : TableState) → RuleHolds steps owes opening first passes s → (i j : ℕ) (v w : View M C R) →
      get_elem? s.views i ≡ some v → get_elem? s.views j ≡ some w
      → v.holding ≡ true → w.holding ≡ true → i ≡ j

  -- A law: the pending words are those that all notices, in their one order, leave.
  abbrev pub WordsFollow : Type 0
  WordsFollow =
      (opening : M) (first passes : ℕ) (s : TableState) → (r : RuleHolds steps owes opening first passes s) →
      IsOrder r.order × ((server : ℕ) → server < 16 → slice_index s.words (server + 1) ≡ pending_after r.order server)

  -- A law: the raises of each bit are as many as its takes, plus one if the bit is pending.
  abbrev pub NoticesBalance : Type 0
  NoticesBalance =
      (opening : M) (first passes : ℕ) (s : TableState) → RuleHolds steps owes opening first passes s → (server bit : ℕ) → server < 16
      → total_of (λ (v : View M C R). raised_by v.passes server bit) s.views ≡
      total_of (λ (v : View M C R). taken_by v.passes server bit) s.views + bit_at (slice_index s.words (server + 1)) bit

  -- A law: each pending bit is owed by some entry of the history.
  abbrev pub BitsAreOwed : Type 0
  BitsAreOwed =
      (opening : M) (first passes : ℕ) (s : TableState) → (r : RuleHolds steps owes opening first passes s) → (server bit : ℕ) →
      server < 16 → bit_at (slice_index s.words (server + 1)) bit ≡ 1
      → OwedIn owes server bit r.history

  -- A law: each post belongs to a call of its pass. The call is in the history and owes exactly the post's bits.
  abbrev pub PostsAreOwed : Type 0
  PostsAreOwed =
      (opening : M) (first passes : ℕ) (s : TableState) → (r : RuleHolds steps owes opening first passes s) →
      AllByRecursion (IsOwed owes first r.history) r.order

-- A law: a bit that a notice set stays pending until a later notice takes its server's word.
abbrev pub PostedBitsStay : Type 0
PostedBitsStay =
    (before : List Notice) (n : Notice) (after : List Notice) (bit : ℕ) → IsOrder (before ++ n ∷ after) → bit_at (set_by n.act) bit ≡ 1 →
    NoTakes n.server after
    → bit_at (pending_after (before ++ n ∷ after) n.server) bit ≡ 1
