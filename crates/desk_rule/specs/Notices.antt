-- Notices. The pending word of server s is word s + 1, and its bit b is the server's subscription b.
use Rattle.std.specs.Prelude.{◌≡◌, ℕ, ◌+◌, ◌-◌, ◌*◌, ◌/◌, ◌^◌, ◌<◌, ◌==◌}
use Rattle.std.specs.Prelude.{List, [], ◌∷◌, filter, slice_index, if◌then◌else◌, bit_and, bit_or}
use Rattle.std.specs.Int.{bit_at}
use Rattle.std.specs.List.{AllByRecursion}
use mathlib.Core.Option.{some}
use lib.ListN.{get_elem?}
use Rattle.history.specs.declared.entry.Entry.{Entry}
use Rattle.desk_rule.specs.declared.notice.Act.{Act}
use Rattle.desk_rule.specs.declared.notice.Act.TheVariants.{Post, Take}
use Rattle.desk_rule.specs.declared.notice.Notice.{Notice}
use Rattle.desk_rule.specs.declared.view.PassLog.{PassLog}
use Rattle.desk_rule.specs.History.{total_of}

-- The eight bits of a mask for one server.
abbrev pub bits_for : ℕ → ℕ → ℕ
bits_for owed s = bit_and (owed / 2 ^ (8 * s)) 255

abbrev pub notice : ℕ → ℕ → ℕ → Act → Notice
notice pass server found act = record { pass = pass; server = server; found = found; act = act }

-- The word after a step.
abbrev pub left_of : ℕ → Act → ℕ
left_of found (Post bits place) = bit_or found bits
left_of found Take = 0

-- The bits that a step sets.
abbrev pub set_by : Act → ℕ
set_by (Post bits place) = bits
set_by Take = 0

abbrev pub given_by : ℕ → Act → ℕ
given_by found (Post bits place) = 0
given_by found Take = found

-- The pending word of each server.
abbrev pub Words : Type 0
Words = ℕ → ℕ

abbrev pub none_pending : Words
none_pending s = 0

-- The words after a notice.
abbrev pub after_notice : Words → Notice → Words
after_notice words n s = if n.server == s then left_of n.found n.act else words s

abbrev pub words_after : Words → List Notice → Words
words_after words [] = words
words_after words (n ∷ ns) = words_after (after_notice words n) ns

-- Whether each notice found its server's word as the notices before it left it.
abbrev pub AreFound : Words → List Notice → Type 0
AreFound words [] = Unit {0}
AreFound words (n ∷ ns) = (n.found ≡ words n.server) × AreFound (after_notice words n) ns

-- Whether these notices are in an order that starts with no pending bit.
abbrev pub IsOrder : List Notice → Type 0
IsOrder ns = AreFound none_pending ns

abbrev pub pending_after : List Notice → ℕ → ℕ
pending_after ns s = words_after none_pending ns s

-- The number 1 if the notice set the bit, else 0.
abbrev pub posted_at : ℕ → ℕ → Notice → ℕ
posted_at s b n = if n.server == s then bit_at (set_by n.act) b else 0

-- The number 1 if the notice raised the bit, which it found 0 and set, else 0.
abbrev pub raised_at : ℕ → ℕ → Notice → ℕ
raised_at s b n = if n.server == s then (bit_at (set_by n.act) b - bit_at n.found b) else 0

-- The number 1 if the notice took the bit, else 0.
abbrev pub taken_at : ℕ → ℕ → Notice → ℕ
taken_at s b n = if n.server == s then bit_at (given_by n.found n.act) b else 0

-- How often these notices raised the bit.
abbrev pub raised_in : List Notice → ℕ → ℕ → ℕ
raised_in ns s b = total_of (raised_at s b) ns

abbrev pub taken_in : List Notice → ℕ → ℕ → ℕ
taken_in ns s b = total_of (taken_at s b) ns

-- Whether the step is a post.
abbrev pub IsPost : Act → Type 0
IsPost (Post bits place) = Unit {0}
IsPost Take = ⊥

-- Whether the step is a post for the call at this place.
abbrev pub IsPostAt : ℕ → Act → Type 0
IsPostAt at (Post bits place) = place ≡ at
IsPostAt at Take = ⊥

-- Whether none of these notices takes the server's word.
abbrev pub NoTakes : ℕ → List Notice → Type 0
NoTakes s ns = AllByRecursion (λ (n : Notice). n.server ≡ s → IsPost n.act) ns

-- The notices of one pass, in order.
abbrev pub notices_by : ℕ → List Notice → List Notice
notices_by p ns = filter (λ (n : Notice). n.pass == p) ns

module _ {C R : Type 0} (owes : R → ℕ) where
  -- Whether the step is a take, or a post of exactly the bits that its call owes the server. The call is the pass's, and is
  -- in the history at the post's place.
  abbrev pub IsActOwed : ℕ → List (Entry C R) → ℕ → ℕ → Act → Type 0
  IsActOwed first history pass server (Post bits place) =
      (i : ℕ) × (e : Entry C R) × (get_elem? history i ≡ some e) × (e.pass ≡ pass) × (place ≡ first + i) ×
      (bits ≡ bits_for (owes e.reply) server)
  IsActOwed first history pass server Take = Unit {0}

  abbrev pub IsOwed : ℕ → List (Entry C R) → Notice → Type 0
  IsOwed first history n = IsActOwed first history n.pass n.server n.act

  -- Whether some entry of the history owes the bit.
  abbrev pub OwedIn : ℕ → ℕ → List (Entry C R) → Type 0
  OwedIn s b history = (i : ℕ) × (e : Entry C R) × (get_elem? history i ≡ some e) × (bit_at (bits_for (owes e.reply) s) b ≡ 1)

module _ {C R : Type 0} where
  -- The sum of f over the notices of these passes.
  abbrev pub weigh_notices : (Notice → ℕ) → List (PassLog C R) → ℕ
  weigh_notices weigh passes = total_of (λ (p : PassLog C R). total_of weigh p.notices) passes

  -- How often these passes raised the bit.
  abbrev pub raised_by : List (PassLog C R) → ℕ → ℕ → ℕ
  raised_by passes s b = weigh_notices (raised_at s b) passes

  abbrev pub taken_by : List (PassLog C R) → ℕ → ℕ → ℕ
  taken_by passes s b = weigh_notices (taken_at s b) passes

  -- Whether these passes raised each bit as often as they took it, plus once if it is pending.
  abbrev pub AreBalanced : List (PassLog C R) → List ℕ → Type 0
  AreBalanced passes pending = (s b : ℕ) → s < 16 → raised_by passes s b ≡ taken_by passes s b + bit_at (slice_index pending s) b

  -- Whether the notices of each pass are exactly its notices in the order.
  abbrev pub OwnNotices : List Notice → List (PassLog C R) → Type 0
  OwnNotices ns passes = AllByRecursion (λ (p : PassLog C R). notices_by p.pass ns ≡ p.notices) passes
