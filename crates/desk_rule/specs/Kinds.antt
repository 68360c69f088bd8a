-- The kinds of step: the number that each returns, and the view after it.
use Rattle.std.specs.Prelude.{◌≡◌, ◌≢◌, ℕ, ◌+◌, ◌-◌, ◌/◌, ◌%◌, ◌^◌, ◌<◌, ◌≤◌, Bool, true, false}
use Rattle.std.specs.Prelude.{List, [], ◌∷◌, ◌++◌, length, drop, slice_index, Option, Some}
use Rattle.std.specs.Prelude as std
use Rattle.std.specs.Int.{bit_at}
use mathlib.Core.Option.{some}
use mathlib.Core.List.{IsPrefix}
use lib.ListN.{get_elem?}
use Rattle.atomic_table.specs.Table.{Me, State, Step}
use Rattle.history.specs.declared.entry.Entry.{Entry}
use Rattle.desk_rule.specs.declared.notice.Notice.{Notice}
use Rattle.desk_rule.specs.declared.notice.Act.TheVariants.{Post, Take}
use Rattle.desk_rule.specs.declared.view.View.{View}
use Rattle.desk_rule.specs.declared.table.Home.{Home}
use Rattle.desk_rule.specs.declared.table.LastCall.{LastCall}
use Rattle.history.specs.History.{entry, IsLegal, Run}
use Rattle.desk_rule.specs.History.{count_calls, OwnCalls}
use Rattle.desk_rule.specs.Notices.{IsOrder, notice, OwedIn, OwnNotices, pending_after, raised_by, taken_by}
use Rattle.desk_rule.specs.Passes.{add_call, add_notice, number_of}
use Rattle.desk_rule.specs.Rule.{RuleHolds}

-- The state of a seat: its view, and the slots that only this seat may use now, with their contents.
abbrev pub AtSeat : Type 0 → Type 0 → Type 0 → Type 0
AtSeat M C R = Me (Option (Home M C R)) (View M C R)

module _ {M C R : Type 0} where
  -- The view with these entries and these notices as seen. They include all that the seat learnt from notes.
  abbrev pub after_look : View M C R → Bool → List (Entry C R) → List Notice → View M C R
  after_look v holding es ns = record {
    opening = v.opening;
    first = v.first;
    holding = holding;
    seen = es;
    told = [];
    notices = ns;
    told_notices = [];
    passes = v.passes;
  }

  -- The view with these entries as seen.
  abbrev pub with_seen : View M C R → List (Entry C R) → View M C R
  with_seen v es = record {
    opening = v.opening;
    first = v.first;
    holding = v.holding;
    seen = es;
    told = [];
    notices = v.notices;
    told_notices = v.told_notices;
    passes = v.passes;
  }

  -- The view after a turn: with one more entry, of its first pass.
  abbrev pub after_turn : View M C R → C → R → View M C R
  after_turn v c r = let e = entry (number_of v.passes) c r in
      record {
        opening = v.opening;
        first = v.first;
        holding = false;
        seen = v.seen ++ e ∷ [];
        told = [];
        notices = v.notices;
        told_notices = v.told_notices;
        passes = add_call v.passes e;
      }

  -- The view with these notices as seen, and one more, of its first pass.
  abbrev pub with_notice : View M C R → List Notice → Notice → View M C R
  with_notice v before n = record {
    opening = v.opening;
    first = v.first;
    holding = v.holding;
    seen = v.seen;
    told = v.told;
    notices = before ++ n ∷ [];
    told_notices = [];
    passes = add_notice v.passes n;
  }

  -- The notice of a post for the last call that the seat has seen.
  abbrev pub post_of : View M C R → ℕ → ℕ → ℕ → Notice
  post_of v server bits found = notice (number_of v.passes) server found (Post bits ((v.first + length v.seen) - 1))

  abbrev pub take_of : View M C R → ℕ → ℕ → Notice
  take_of v server found = notice (number_of v.passes) server found Take

  -- The view of a note: what the seat has seen, without passes.
  abbrev pub note_view : View M C R → View M C R
  note_view v = record {
    opening = v.opening;
    first = v.first;
    holding = false;
    seen = v.seen;
    told = [];
    notices = v.notices;
    told_notices = [];
    passes = [];
  }

  -- The view after the seat learnt what a note has seen.
  abbrev pub after_note : View M C R → View M C R → View M C R
  after_note v w = record {
    opening = v.opening;
    first = v.first;
    holding = v.holding;
    seen = v.seen;
    told = w.seen;
    notices = v.notices;
    told_notices = w.notices;
    passes = v.passes;
  }

  -- The view of a seat that has only the first pass.
  abbrev pub one_pass : View M C R → View M C R
  one_pass v = record {
    opening = v.opening;
    first = v.first;
    holding = false;
    seen = v.seen;
    told = [];
    notices = v.notices;
    told_notices = [];
    passes = std.take 1 v.passes;
  }

  abbrev pub other_passes : View M C R → View M C R
  other_passes v = record {
    opening = v.opening;
    first = v.first;
    holding = v.holding;
    seen = v.seen;
    told = v.told;
    notices = v.notices;
    told_notices = v.told_notices;
    passes = drop 1 v.passes;
  }

  -- The view after another seat's passes moved to this seat.
  abbrev pub after_pass : View M C R → View M C R → View M C R
  after_pass v w = record {
    opening = v.opening;
    first = v.first;
    holding = v.holding;
    seen = v.seen;
    told = w.seen;
    notices = v.notices;
    told_notices = w.notices;
    passes = v.passes ++ w.passes;
  }

-- Whether w is v after a load of word 0 that returned `found`. The history in w is legal, extends all that v saw or learnt,
-- and has exactly the own entries of each pass. The order of notices in w does likewise.
pub record Looks {M C R : Type 0} (steps : M → C → R → M → Type 0) (v : View M C R) (found : ℕ) (holding : Bool)
    (w : View M C R) : Type 0 where
  pub is : w ≡ after_look v holding w.seen w.notices
  pub seen : IsPrefix v.seen w.seen
  pub told : IsPrefix v.told w.seen
  pub place : (m : M) → v.opening ≡ Some m → found / 2 ≡ v.first + length w.seen
  pub legal : (m : M) → v.opening ≡ Some m → IsLegal steps m w.seen
  pub own : OwnCalls w.seen w.passes
  pub few : (s b : ℕ) → raised_by w.passes s b ≤ count_calls w.passes
  pub short : count_calls w.passes ≤ length w.seen
  pub notices : IsPrefix v.notices w.notices
  pub told_notices : IsPrefix v.told_notices w.notices
  pub order : IsOrder w.notices
  pub own_notices : OwnNotices w.notices w.passes

-- Whether w is v after the notice n. It comes after all notices that v saw or learnt, and found its word as the notices
-- before it left it.
pub record MakesNotice {M C R : Type 0} (v : View M C R) (n : Notice) (w : View M C R) : Type 0 where
  pub before : List Notice
  pub is : w ≡ with_notice v before n
  pub seen : IsPrefix v.notices before
  pub told : IsPrefix v.told_notices before
  pub found : n.found ≡ pending_after before n.server
  pub order : IsOrder w.notices
  pub own : OwnNotices w.notices w.passes

-- Whether w is v after a take of a pending word that was `found`. The history in w has an entry that owes each of its bits.
pub record TakesBits {M C R : Type 0} (owes : R → ℕ) (v : View M C R) (server found : ℕ) (w : View M C R) : Type 0 where
  pub es : List (Entry C R)
  pub seen : IsPrefix v.seen es
  pub told : IsPrefix v.told es
  pub notices : MakesNotice (with_seen v es) (take_of v server found) w
  pub eight_bits : found < 256
  pub few : (b : ℕ) → taken_by w.passes server b ≤ 2 ^ 62
  pub owed : (b : ℕ) → bit_at found b ≡ 1 → OwedIn owes server b es

-- Whether the last entry that the seat has seen is its first pass's, and owes this mask.
abbrev pub LastOwes : {M C R : Type 0} → (R → ℕ) → View M C R → ℕ → Type 0
LastOwes {M} {C} {R} owes v owed =
    (es : List (Entry C R)) × (e : Entry C R) × (v.seen ≡ es ++ e ∷ []) × (e.pass ≡ number_of v.passes) × (owed ≡ owes e.reply)

-- The meaning of word 0 for the turn, at a seat with the view v. The table was in a state that keeps the rule. In it some
-- seat held the turn if the low bit was 1, and no seat if it was 0.
pub record TellsTurn {M C R : Type 0} (steps : M → C → R → M → Type 0) (owes : R → ℕ) (v : View M C R) (found : ℕ) : Type 0 where
  pub opening : M
  pub first : ℕ
  pub passes : ℕ
  pub state : State (Option (Home M C R)) (View M C R)
  pub rule : RuleHolds steps owes opening first passes state
  pub loaded : slice_index state.words 0 ≡ found
  pub seat : ℕ
  pub here : get_elem? state.views seat ≡ some v
  pub held : found % 2 ≡ 1 → (j : ℕ) × (w : View M C R) × (get_elem? state.views j ≡ some w) × (w.holding ≡ true)
  pub free : found % 2 ≡ 0 → (j : ℕ) (w : View M C R) → get_elem? state.views j ≡ some w → w.holding ≡ false
  -- a seat that holds the turn itself finds it held
  pub own : v.holding ≡ true → found % 2 ≡ 1

module _ {M C R : Type 0} (steps : M → C → R → M → Type 0) where
  -- The step in which word 0 was loaded, and nothing else happened.
  abbrev pub LooksAlone : AtSeat M C R → ℕ → AtSeat M C R → Type 0
  LooksAlone m r m' = Looks steps m.0 r m.0.holding m'.0 × (m'.1 ≡ m.1)

  -- The step of `look`. The number is at most 2 ^ 63, which means that no place is left. Its low bit says whether the turn
  -- is held.
  abbrev pub look : (R → ℕ) → Step (Option (Home M C R)) → AtSeat M C R → ℕ → AtSeat M C R → Type 0
  look owes st m r m' = LooksAlone m r m' × (r ≤ 2 ^ 63) × TellsTurn steps owes m.0 r

  -- Whether the seat got the slot, which has the machine after the history.
  abbrev pub GetsMachine : View M C R → List (ℕ × Option (Home M C R)) → View M C R → List (ℕ × Option (Home M C R)) → Type 0
  GetsMachine v c w c' = (h : Home M C R) × (c' ≡ (0, Some h) ∷ c) × ((m : M) → v.opening ≡ Some m → Run steps m w.seen h.machine)

  -- The step in which the seat takes the turn.
  abbrev pub TakesTurn : AtSeat M C R → ℕ → AtSeat M C R → Type 0
  TakesTurn m r m' = Looks steps m.0 r true m'.0 × GetsMachine m.0 m.1 m'.0 m'.1

  -- The step of `hold`. If word 0 was the expected word, the seat takes the turn. Otherwise word 0 was only loaded. In both
  -- cases the low bit says whether the turn was held.
  abbrev pub hold : (R → ℕ) → Step (Option (Home M C R)) → AtSeat M C R → ℕ → AtSeat M C R → Type 0
  hold owes st m r m' = (r ≡ st.first → TakesTurn m r m') × (r ≢ st.first → LooksAlone m r m') × (r ≤ 2 ^ 63) × TellsTurn steps owes m.0 r

module _ {M C R : Type 0} where
  -- The step of `end_turn`: the last call in the slot becomes the last entry of the history.
  abbrev pub end_of_turn : Step (Option (Home M C R)) → AtSeat M C R → ℕ → AtSeat M C R → Type 0
  end_of_turn st m r m' = (h : Home M C R) (l : LastCall C R) (c : List (ℕ × Option (Home M C R))) → m.1 ≡ (0, Some h) ∷ c → h.last ≡ Some l
      → (m' ≡ (after_turn m.0 l.command.value l.reply.value, c)) × OwnCalls m'.0.seen m'.0.passes

  -- Like `end_of_turn`, for a seat that has no other slot.
  abbrev pub EntersCall : AtSeat M C R → AtSeat M C R → Type 0
  EntersCall m m' = (h : Home M C R) (l : LastCall C R) → m.1 ≡ (0, Some h) ∷ [] → h.last ≡ Some l
      → (m' ≡ (after_turn m.0 l.command.value l.reply.value, [])) × OwnCalls m'.0.seen m'.0.passes

  abbrev pub post : Step (Option (Home M C R)) → AtSeat M C R → ℕ → AtSeat M C R → Type 0
  post st m r m' = MakesNotice m.0 (post_of m.0 (st.word - 1) st.first r) m'.0 × (m'.1 ≡ m.1)

  abbrev pub take : (R → ℕ) → Step (Option (Home M C R)) → AtSeat M C R → ℕ → AtSeat M C R → Type 0
  take owes st m r m' = TakesBits owes m.0 (st.word - 1) r m'.0 × (m'.1 ≡ m.1)
