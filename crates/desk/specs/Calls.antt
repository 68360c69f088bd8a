-- What a desk's calls do to a pass.
use Rattle.std.specs.Prelude.{◌≡◌, ℕ, ◌+◌, ◌^◌, ◌<◌, ◌≤◌, List, [], ◌∷◌, ◌++◌, length, Some}
use Rattle.std.specs.List.{AllByRecursion}
use Rattle.std.specs.Int.{bit_at}
use mathlib.Core.List.{IsPrefix}
use Rattle.history.specs.declared.entry.Entry.{Entry}
use Rattle.desk_rule.specs.declared.notice.Act.TheVariants.{Take}
use Rattle.desk_rule.specs.declared.notice.Notice.{Notice}
use Rattle.desk_rule.specs.declared.view.View.{View}
use Rattle.history.specs.History.{calls_by, entry, IsLegalFrom}
use Rattle.desk_rule.specs.History.{OneBegins, total_of}
use Rattle.desk_rule.specs.Notices.{bits_for, IsOrder, IsPostAt, notice, notices_by, OwedIn, pending_after, posted_at, raised_in}
use Rattle.desk.specs.declared.desk.Answer.{Answer}
use Rattle.desk.specs.declared.desk.Taken.{Taken}
use Rattle.desk.specs.declared.fault.DeskFault.{DeskFault}
use Rattle.desk.specs.declared.fault.DeskFault.TheVariants.{Worn}
use Rattle.desk.specs.declared.pass.Sight.{Ghosts}
use Rattle.desk.specs.Pass.{calls, desk_of, first_place, history, notes_learnt, notes_made, notices, number, opening, order, Pass}
use Rattle.desk.specs.Pass.{Note, order_told_by, told_by}
use Rattle.desk.specs.Tally.{RaisesMask}

module _ {M C R : Type 0} {G : Ghosts (View M C R)} where
  -- Whether q is the pass p at another time.
  pub record IsSamePass (p q : Pass M C R G) : Type 0 where
    pub same_desk : desk_of q ≡ desk_of p
    pub same_number : number q ≡ number p
    pub same_opening : opening q ≡ opening p
    pub same_first : first_place q ≡ first_place p

  abbrev pub SameNotes : Pass M C R G → Pass M C R G → Type 0
  SameNotes p q = (notes_made q ≡ notes_made p) × (notes_learnt q ≡ notes_learnt p)

  abbrev pub SameNotices : Pass M C R G → Pass M C R G → Type 0
  SameNotices p q = notices q ≡ notices p

  -- Whether the pass is still at its desk, and made and learnt no note.
  abbrev pub StaysAtDesk : Pass M C R G → Pass M C R G → Type 0
  StaysAtDesk p q = (desk_of q ≡ desk_of p) × SameNotes p q

  -- Whether the pass is still at its desk, and posted and took nothing.
  abbrev pub StaysUnnoticed : Pass M C R G → Pass M C R G → Type 0
  StaysUnnoticed p q = (desk_of q ≡ desk_of p) × SameNotices p q

  -- Whether the pass has seen and called the same as before.
  pub record KnowsAsMuch (p q : Pass M C R G) : Type 0 where
    pub same : IsSamePass p q
    pub same_calls : calls q ≡ calls p
    pub same_history : history q ≡ history p
    pub same_order : order q ≡ order p

  -- Whether the pass has now seen at least as much of the order of notices. Each notice found its word as those before it
  -- left it, and the pass's own are exactly its notices.
  pub record SeesOrder (p q : Pass M C R G) : Type 0 where
    pub begins : IsPrefix (order p) (order q)
    pub found : IsOrder (order q)
    pub own : notices_by (number p) (order q) ≡ notices q

  -- Whether the pass called nothing, and may have seen more. The history that it has now seen is legal, extends the one
  -- before, and its entries of the pass are exactly the pass's calls.
  pub record Sees {S : Type 0} (stands : M → S → Type 0) (steps : S → C → R → S → Type 0) (p q : Pass M C R G) : Type 0 where
    pub same : IsSamePass p q
    pub same_calls : calls q ≡ calls p
    pub begins : IsPrefix (history p) (history q)
    pub legal : (m : M) → opening p ≡ Some m → IsLegalFrom stands steps m (history q)
    pub own : calls_by (number p) (history q) ≡ calls q
    pub notices : SeesOrder p q

  -- Whether the pass made one call. The history that it has now seen is legal, extends the one before, ends with the call,
  -- and its entries of the pass are exactly the pass's calls, which are one more.
  pub record Calls {S : Type 0} (stands : M → S → Type 0) (steps : S → C → R → S → Type 0) (p q : Pass M C R G) (command : C) (reply : R)
      (place : ℕ) : Type 0 where
    pub same : IsSamePass p q
    pub between : List (Entry C R)
    pub ends : history q ≡ (history p ++ between) ++ entry (number p) command reply ∷ []
    pub at : place ≡ first_place p + length (history p ++ between)
    pub one_more : calls q ≡ calls p ++ entry (number p) command reply ∷ []
    pub legal : (m : M) → opening p ≡ Some m → IsLegalFrom stands steps m (history q)
    pub own : calls_by (number p) (history q) ≡ calls q
    pub notices : SeesOrder p q

  -- Whether the pass's new notices are posts of exactly the bits of the mask, each with this place.
  pub record PostsOwed (p q : Pass M C R G) (place owed : ℕ) : Type 0 where
    pub new : List Notice
    pub grown : notices q ≡ notices p ++ new
    pub here : AllByRecursion (λ (n : Notice). IsPostAt place n.act) new
    pub exact : (s b : ℕ) → s < 16 → total_of (posted_at s b) new ≡ bit_at (bits_for owed s) b
    pub no_others : (s b : ℕ) → 16 ≤ s → total_of (posted_at s b) new ≡ 0

  -- Whether the pass posted exactly what the reply of its call owes.
  pub record PostsReply (owes : R → ℕ) (p q : Pass M C R G) (answer : Answer R) : Type 0 where
    pub owed : answer.owed ≡ owes answer.reply
    pub posted : PostsOwed p q answer.place answer.owed
    -- the bits of the mask that weren't pending
    pub raised : RaisesMask (raised_in (notices p)) (raised_in (notices q)) answer.raised

  -- Whether the pass's one new notice is a take of `bits`, which are all that was pending for the server. The notices before
  -- it include all that the pass had seen.
  pub record TakesPending (p q : Pass M C R G) (server bits : ℕ) : Type 0 where
    pub one_more : notices q ≡ notices p ++ notice (number p) server bits Take ∷ []
    pub between : List Notice
    pub at : IsPrefix ((order p ++ between) ++ notice (number p) server bits Take ∷ []) (order q)
    pub all : bits ≡ pending_after (order p ++ between) server

  -- The first place after the history that the pass has seen.
  abbrev pub next_place : Pass M C R G → ℕ
  next_place p = first_place p + length (history p)

  -- Whether the pass took all that was pending for the server, and then looked how far the history goes.
  pub record Takes {S : Type 0} (stands : M → S → Type 0) (steps : S → C → R → S → Type 0) (owes : R → ℕ) (p q : Pass M C R G) (server : ℕ)
      (taken : Taken) : Type 0 where
    pub server_is : server < 16
    pub sees : Sees stands steps p q
    pub pending : TakesPending p q server taken.bits
    -- each bit is owed by a call that the pass has now seen, below the floor
    pub owed : (b : ℕ) → bit_at taken.bits b ≡ 1 → OwedIn owes server b (history q)
    pub floor : taken.floor ≡ next_place q

  -- Whether the refusal is Worn: no place below 2 ^ 62 is left, the pass has seen that, and the history is unchanged.
  abbrev pub FindsNoPlace : {S : Type 0} → (M → S → Type 0) → (S → C → R → S → Type 0) → DeskFault → Pass M C R G → Pass M C R G → Type 0
  FindsNoPlace stands steps fault p q = (fault ≡ Worn) × Sees stands steps p q × SameNotices p q × (next_place q ≡ 2 ^ 62)

  -- Whether the note carries all that the pass has seen of the history and of the order of notices.
  abbrev pub CarriesAll : Note M C R G → Pass M C R G → Type 0
  CarriesAll n p = (told_by n ≡ history p) × (order_told_by n ≡ order p)

  -- Whether the pass has seen all that the note carries.
  abbrev pub HasSeenNote : Note M C R G → Pass M C R G → Type 0
  HasSeenNote n p = IsPrefix (told_by n) (history p) × IsPrefix (order_told_by n) (order p)

  -- Whether the histories that two passes have seen agree, and so do their orders of notices: one is a prefix of the other.
  abbrev pub PassesAgree : Pass M C R G → Pass M C R G → Type 0
  PassesAgree p q = OneBegins (history p) (history q) × OneBegins (order p) (order q)

  -- Like `PassesAgree`, for a note and a pass.
  abbrev pub NoteAgrees : Note M C R G → Pass M C R G → Type 0
  NoteAgrees n p = OneBegins (told_by n) (history p) × OneBegins (order_told_by n) (order p)

  -- Whether the pass learnt the note, and has now seen all that it carries.
  pub record Learns {S : Type 0} (stands : M → S → Type 0) (steps : S → C → R → S → Type 0) (p q : Pass M C R G) (note : Note M C R G)
      : Type 0 where
    pub sees : Sees stands steps p q
    pub seen : HasSeenNote note q
    -- what it carries begins or extends what the pass had seen before
    pub agrees : NoteAgrees note p
    pub counted : notes_learnt q ≡ notes_learnt p + 1
    pub same_made : notes_made q ≡ notes_made p
