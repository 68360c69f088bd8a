-- The effect of each function on its seat: p is the seat before, and q after.
use Rattle.std.specs.Prelude.{◌≡◌, ℕ, ◌*◌, ◌^◌, ◌<◌, ◌≤◌, ◌==◌, Bool, true, false, not, ◌&&◌, List, [], length, Some, is_some}
use Rattle.atomic_table.specs.Seated.{TableId}
use Rattle.history.specs.History.{IsLegal}
use Rattle.desk_rule.specs.declared.table.Opening.{Opening}
use Rattle.desk_rule.specs.declared.view.PassLog.{PassLog}
use Rattle.desk_rule.specs.declared.view.View.{View}
use Rattle.desk_rule.specs.History.{count_calls, OwnCalls}
use Rattle.desk_rule.specs.Kinds.{after_turn, LastOwes, Looks, MakesNotice, post_of, TellsTurn}
use Rattle.desk_rule.specs.Notices.{AreBalanced, bits_for, raised_by}
use Rattle.desk_rule.specs.Rule.{opening_view}
use Rattle.desk_rule.specs.Seat.{HoldsTurn, IsAtTable, IsOpening, SameSeat, SeatOf}

module _ {M C R : Type 0} where
  -- ---- splitting and joining

  -- Whether the seat r was split off. What is known at p is now known at q and r, by these views.
  pub record Splits (p q r : SeatOf M C R) (left right : View M C R) : Type 0 where
    pub same : SameSeat p q
    pub left_is : q.me ≡ (left, p.me.1)
    -- the new seat is at the same table, and has no slot
    pub table : r.table_id ≡ p.table_id
    pub right_is : r.me ≡ (right, [])

  -- Whether the seat may be joined to another seat of this table: it has no slot, and doesn't hold the turn.
  pub record MayJoin (id : TableId) (p : SeatOf M C R) : Type 0 where
    pub at : IsAtTable id p
    pub no_slot : p.me.1 ≡ []
    pub resting : p.me.0.holding ≡ false

  -- Whether another seat was joined to this one, which then has this view.
  pub record Joins (p q : SeatOf M C R) (both : View M C R) : Type 0 where
    pub same : SameSeat p q
    pub both_is : q.me ≡ (both, p.me.1)

  -- ---- looking, posting and taking

  -- Whether it is the same seat, with the same slots.
  abbrev pub KeepsSlots : SeatOf M C R → SeatOf M C R → Type 0
  KeepsSlots p q = SameSeat p q × (q.me.1 ≡ p.me.1)

  -- Whether the seat loaded word 0, and found this number.
  pub record LooksAt (steps : M → C → R → M → Type 0) (owes : R → ℕ) (p : SeatOf M C R) (found : ℕ) (q : SeatOf M C R) : Type 0 where
    pub same : SameSeat p q
    pub slots : q.me.1 ≡ p.me.1
    pub looks : Looks steps p.me.0 found p.me.0.holding q.me.0
    -- 2 ^ 63 means that no place is left
    pub below : found ≤ 2 ^ 63
    -- the low bit says whether the turn is held
    pub turn : TellsTurn steps owes p.me.0 found

  -- Whether the seat with this view may post these bits to the server. They are what its last call owes the server, and it raised
  -- each bit less often than it called.
  pub record MayPost (owes : R → ℕ) (v : View M C R) (server bits : ℕ) : Type 0 where
    pub opened : is_some v.opening ≡ true
    -- the mask that the last call owes, and the server's part of it
    pub owed : ℕ
    pub last : LastOwes owes v owed
    pub part : bits ≡ bits_for owed server
    pub eight_bits : bits < 256
    pub few : (b : ℕ) → raised_by v.passes server b < count_calls v.passes

  -- Whether the seat posted these bits, and found the word before as earlier notices left it.
  pub record PostsAt (p : SeatOf M C R) (server bits found : ℕ) (q : SeatOf M C R) : Type 0 where
    pub same : SameSeat p q
    pub slots : q.me.1 ≡ p.me.1
    pub word : found < 2 ^ 64
    pub notice : MakesNotice p.me.0 (post_of p.me.0 server bits found) q.me.0

  -- ---- a turn

  -- Whether the view is of a seat with one pass, between its calls.
  abbrev pub rests_of : View M C R → Bool
  rests_of v = not v.holding && ((length v.passes == 1) && is_some v.opening)

  -- Whether the seat has one pass, between its calls, and no slot.
  abbrev pub Rests : SeatOf M C R → Type 0
  Rests p = (length p.me.1 ≡ 0) × (rests_of p.me.0 ≡ true)

  -- Whether v becomes w when its seat takes the turn at this place.
  abbrev pub TurnAt : (M → C → R → M → Type 0) → View M C R → ℕ → View M C R → Type 0
  TurnAt steps v place w = Looks steps v (2 * place) true w × (place < 2 ^ 62)

  -- Whether the seat p becomes q when it takes the turn at this place.
  abbrev pub HoldsTurnAt : (M → C → R → M → Type 0) → SeatOf M C R → ℕ → SeatOf M C R → Type 0
  HoldsTurnAt steps p place q = TurnAt steps p.me.0 place q.me.0 × HoldsTurn steps q

  -- Whether the seat made one call in a turn of its own. The call is at this place, at the end of the legal history that the
  -- seat has now seen.
  pub record MakesCall (steps : M → C → R → M → Type 0) (p : SeatOf M C R) (command : C) (reply : R) (place : ℕ) (q : SeatOf M C R)
      : Type 0 where
    pub same : SameSeat p q
    -- the view while the seat held the turn
    pub held : View M C R
    pub turn : TurnAt steps p.me.0 place held
    pub ended : q.me ≡ (after_turn held command reply, [])
    pub own : OwnCalls q.me.0.seen q.me.0.passes
    pub legal : (m : M) → held.opening ≡ Some m → IsLegal steps m q.me.0.seen

  -- Whether the seat found that no place is left, and called nothing.
  pub record FindsWorn (steps : M → C → R → M → Type 0) (p q : SeatOf M C R) : Type 0 where
    pub same : SameSeat p q
    pub looks : Looks steps p.me.0 (2 ^ 63) false q.me.0
    pub rests : Rests q

  -- ---- opening and closing

  -- Whether the key and the seat are those of a new table. The seat has all passes.
  pub record OpensTable (id : TableId) (key : Opening M) (p : SeatOf M C R) (machine : M) (passes first : ℕ) : Type 0 where
    pub opening : IsOpening key machine passes first
    pub at : IsAtTable id p
    pub seat : p.me ≡ (opening_view machine first passes, [])

-- Whether the passes raised each bit as often as they took it, plus once if it is pending, and at most 2 ^ 62 times.
pub record BitsAddUp {C R : Type 0} (passes : List (PassLog C R)) (pending : List ℕ) : Type 0 where
  pub balanced : AreBalanced passes pending
  pub few : (server bit : ℕ) → server < 16 → raised_by passes server bit ≤ 2 ^ 62
