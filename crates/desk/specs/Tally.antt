-- The counts of a pass: a row for each bit, eight to a server.
use Rattle.std.specs.Prelude.{◌≡◌, ℕ, ◌+◌, ◌-◌, ◌*◌, ◌^◌, ◌<◌, ◌≤◌, ◌==◌, true, List, ◌++◌, length, if◌then◌else◌, slice_index, is_some}
use Rattle.std.specs.List.{AllByRecursion}
use Rattle.std.specs.Int.{bit_at}
use mathlib.Core.List.{IsPrefix}
use Rattle.desk_rule.specs.declared.notice.Notice.{Notice}
use Rattle.desk_rule.specs.declared.view.View.{View}
use Rattle.desk_rule.specs.History.{count_calls, total_of}
use Rattle.desk_rule.specs.Notices.{bits_for, IsOrder, IsPostAt, OwnNotices, posted_at, raised_by}
use Rattle.desk_rule.specs.Passes.{calls_of, notices_of, number_of}

-- The count of a server's bit.
abbrev pub row_at : List ℕ → ℕ → ℕ → ℕ
row_at rows s b = slice_index rows (8 * s + b)

-- Whether each row is f of its server and bit.
abbrev pub Tallies : List ℕ → (ℕ → ℕ → ℕ) → Type 0
Tallies rows f = (s b : ℕ) → s < 16 → b < 8 → row_at rows s b ≡ f s b

-- Whether the last rows are the first ones with 1 added for each of these bits of one server.
abbrev pub Counts : List ℕ → ℕ → ℕ → List ℕ → Type 0
Counts old server bits new = (s b : ℕ) → s < 16 → b < 8 → row_at new s b ≡ row_at old s b + (if s == server then bit_at bits b else 0)

-- Whether exactly the bits of the mask were raised, once each.
abbrev pub RaisesMask : (ℕ → ℕ → ℕ) → (ℕ → ℕ → ℕ) → ℕ → Type 0
RaisesMask old new mask = (s b : ℕ) → s < 16 → b < 8 → new s b ≡ old s b + bit_at mask (8 * s + b)

-- Whether the seat of one pass may post once to each server, since it raised no bit as often as it called.
pub record CanPost {M C R : Type 0} (v : View M C R) : Type 0 where
  pub opened : is_some v.opening ≡ true
  pub one_pass : length v.passes ≡ 1
  pub few : (s b : ℕ) → raised_by v.passes s b < count_calls v.passes
  pub short : count_calls v.passes ≤ 2 ^ 62
  pub found : IsOrder v.notices
  pub own : OwnNotices v.notices v.passes

-- Whether w is v after posts of what the last call owes to the servers below `count`, and of nothing else.
pub record Posts {M C R : Type 0} (v w : View M C R) (count owed : ℕ) : Type 0 where
  pub opening : w.opening ≡ v.opening
  pub first : w.first ≡ v.first
  pub holding : w.holding ≡ v.holding
  pub seen : w.seen ≡ v.seen
  pub one_pass : length w.passes ≡ 1
  pub number : number_of w.passes ≡ number_of v.passes
  pub calls : calls_of w.passes ≡ calls_of v.passes
  pub new : List Notice
  pub grown : notices_of w.passes ≡ notices_of v.passes ++ new
  pub here : AllByRecursion (λ (n : Notice). IsPostAt ((v.first + length v.seen) - 1) n.act) new
  pub done : (s b : ℕ) → s < count → total_of (posted_at s b) new ≡ bit_at (bits_for owed s) b
  pub undone : (s b : ℕ) → count ≤ s → total_of (posted_at s b) new ≡ 0
  pub begins : IsPrefix v.notices w.notices
  pub found : IsOrder w.notices
  pub own : OwnNotices w.notices w.passes
