-- The result of closing a desk.
use Rattle.std.specs.Prelude.{◌≡◌, ◌≢◌, ℕ, ◌+◌, ◌*◌, ◌/◌, ◌%◌, ◌^◌, ◌<◌, ◌≤◌, List, [], ◌∷◌, ◌++◌, length, if◌then◌else◌, slice_index}
use Rattle.std.specs.List.{AllByRecursion}
use Rattle.std.specs.Int.{bit_at}
use mathlib.Core.Option.{some}
use mathlib.Core.List.{IsPrefix}
use lib.ListN.{get_elem?}
use Rattle.history.specs.declared.entry.Entry.{Entry}
use Rattle.desk_rule.specs.declared.notice.Notice.{Notice}
use Rattle.desk_rule.specs.declared.view.PassLog.{PassLog}
use Rattle.desk_rule.specs.declared.view.View.{View}
use Rattle.history.specs.History.{calls_by, LeadsTo}
use Rattle.desk_rule.specs.History.{total_of}
use Rattle.desk_rule.specs.Notices.{IsOrder, IsOwed, notices_by, pending_after, raised_in, taken_in}
use Rattle.desk.specs.declared.account.Row.{Row}
use Rattle.desk.specs.declared.close.Closed.{Closed}
use Rattle.desk.specs.declared.fault.DeskFault.{DeskFault}
use Rattle.desk.specs.declared.fault.DeskFault.TheVariants.{PassesOut, Noted, NoRoom}
use Rattle.desk.specs.declared.pass.Sight.{Ghosts}
use Rattle.desk.specs.Calls.{PassesAgree}
use Rattle.desk.specs.Pass.{calls, history as seen_by, notes_learnt, notes_made, notices, number, order as order_seen_by, Pass}
use Rattle.desk.specs.Tally.{row_at}

-- Whether each of the last rows is the sum of the two other ones at its index, modulo 2^64.
abbrev pub Sums : List ℕ → List ℕ → List ℕ → Type 0
Sums old rows new = (k : ℕ) → k < 128 → slice_index new k ≡ (slice_index old k + slice_index rows k) % 2 ^ 64

-- Whether each row is f of its server and bit, modulo 2^64.
abbrev pub Wraps : List ℕ → (ℕ → ℕ → ℕ) → Type 0
Wraps rows f = (s b : ℕ) → s < 16 → b < 8 → row_at rows s b ≡ f s b % 2 ^ 64

-- The number 1 if the row's bit is pending, else 0.
abbrev pub pending_bit : Row → ℕ
pending_bit r = if r.pending then 1 else 0

-- Whether row k has the raises, the takes and the pending bit k % 8 of server k / 8.
abbrev pub IsRow : List ℕ → List ℕ → List ℕ → List Row → ℕ → Type 0
IsRow words raises takes rows k =
    (r : Row) × (get_elem? rows k ≡ some r) × (r.raises ≡ slice_index raises k) × (r.takes ≡ slice_index takes k)
    × (pending_bit r ≡ bit_at (slice_index words (k / 8)) (k % 8))

module _ {M C R : Type 0} {G : Ghosts (View M C R)} where
  -- The records of the passes, gathered at one seat from the last pass on.
  abbrev pub gathered : List (PassLog C R) → List (Pass M C R G) → List (PassLog C R)
  gathered l [] = l
  gathered l (p ∷ ps) = gathered l ps ++ p.seat.me.0.passes

  -- Whether the history extends what each of these passes has seen of it.
  abbrev pub HasAllSeen : List (Entry C R) → List (Pass M C R G) → Type 0
  HasAllSeen history passes = AllByRecursion (λ p. IsPrefix (seen_by p) history) passes

  abbrev pub HasAllNoticed : List Notice → List (Pass M C R G) → Type 0
  HasAllNoticed order passes = AllByRecursion (λ p. IsPrefix (order_seen_by p) order) passes

  -- Whether any two of these passes agree on what they have seen.
  abbrev pub AllAgree : List (Pass M C R G) → Type 0
  AllAgree passes = AllByRecursion (λ p. AllByRecursion (PassesAgree p) passes) passes

  -- Whether the machine is the one after a legal history, which extends what each pass has seen, and whose entries are
  -- exactly the passes' calls.
  pub record IsHistory {S : Type 0} (stands : M → S → Type 0) (steps : S → C → R → S → Type 0) (opened : M) (passes : List (Pass M C R G))
      (machine : M) (history : List (Entry C R)) : Type 0 where
    pub leads : LeadsTo stands steps opened history machine
    pub begins : HasAllSeen history passes
    pub own : AllByRecursion (λ p. calls_by (number p) history ≡ calls p) passes
    pub no_others : (weigh : Entry C R → ℕ) → total_of weigh history ≡ total_of (λ p. total_of weigh (calls p)) passes

  -- Whether there is one order of all notices, which extends what each pass has seen, and has exactly the passes' notices.
  -- Each notice found its word as those before it left it. Each post is exactly what a call of its pass in the history
  -- owes. What the notices leave is pending in the rows.
  pub record IsOrderOf (owes : R → ℕ) (first : ℕ) (passes : List (Pass M C R G)) (rows : List Row) (history : List (Entry C R))
      (order : List Notice) : Type 0 where
    pub found : IsOrder order
    pub owed : AllByRecursion (IsOwed owes first history) order
    pub begins : HasAllNoticed order passes
    pub own : AllByRecursion (λ p. notices_by (number p) order ≡ notices p) passes
    pub no_others : (weigh : Notice → ℕ) → total_of weigh order ≡ total_of (λ p. total_of weigh (notices p)) passes
    pub left : (s b : ℕ) → s < 16 → b < 8 →
        (r : Row) × (get_elem? rows (8 * s + b) ≡ some r) × (pending_bit r ≡ bit_at (pending_after order s) b)

  -- Whether one such history led to the machine, and one such order to the account.
  abbrev pub LeavesHistory : {S : Type 0} → (M → S → Type 0) → (S → C → R → S → Type 0) → (R → ℕ) → M → ℕ → List (Pass M C R G)
      → Closed M → Type 0
  LeavesHistory stands steps owes opened first passes closed = (history : List (Entry C R)) × (order : List Notice)
      × IsHistory stands steps opened passes closed.machine history × IsOrderOf owes first passes closed.account history order

  -- Whether these are the 128 rows of the account. Each has the sums of the passes' raises and takes, and its raises are its
  -- takes, plus one if its bit is pending.
  pub record IsAccount (passes : List (Pass M C R G)) (rows : List Row) : Type 0 where
    pub long : length rows ≡ 128
    pub each : (s b : ℕ) → s < 16 → b < 8 → (r : Row) × (get_elem? rows (8 * s + b) ≡ some r)
        × (r.raises ≡ total_of (λ p. raised_in (notices p) s b) passes) × (r.takes ≡ total_of (λ p. taken_in (notices p) s b) passes)
        × (r.raises ≡ r.takes + pending_bit r)

  abbrev pub AllLearnt : List (Pass M C R G) → Type 0
  AllLearnt passes = total_of notes_made passes ≡ total_of notes_learnt passes

  -- Whether the fault is the first that these passes have, if they are to close a desk of `made` passes.
  abbrev pub IsPassesFault : DeskFault → ℕ → List (Pass M C R G) → Type 0
  IsPassesFault PassesOut made passes = length passes < made
  IsPassesFault Noted made passes = (made ≤ length passes) × (total_of notes_made passes ≢ total_of notes_learnt passes)
  IsPassesFault _ made passes = ⊥

  -- Like `IsPassesFault`, but memory may run out if the passes have no fault.
  abbrev pub IsCloseFault : DeskFault → ℕ → List (Pass M C R G) → Type 0
  IsCloseFault PassesOut made passes = length passes < made
  IsCloseFault Noted made passes = (made ≤ length passes) × (total_of notes_made passes ≢ total_of notes_learnt passes)
  IsCloseFault NoRoom made passes = (made ≤ length passes) × AllLearnt passes
  IsCloseFault _ made passes = ⊥
