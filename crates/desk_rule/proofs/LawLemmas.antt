-- The laws of the rule.
use Rattle.std.proofs.Common.{ℕ, ◌+◌, List, sym, ◌∙◌, subst}
use Rattle.std.specs.Int.{bit_at}
use mathlib.Core.List.{IsPrefix}
use mathlib.Core.Option.{some-injective}
use Rattle.history.proofs.RunLemmas.{legal_front}
use Rattle.desk_rule.specs.Laws.{BitsAreOwed, HistoriesAgree, NoticesAgree, NoticesBalance, OneSeatHolds, PostsAreOwed, WordsFollow}
use Rattle.desk_rule.proofs.ListLemmas.{prefixes_agree}
use Rattle.desk_rule.specs.declared.notice.Notice.{Notice}
use Rattle.desk_rule.specs.Notices.{IsOrder, none_pending, raised_at, taken_at}
use Rattle.desk_rule.proofs.NoticeLemmas.{pending_owed}
use Rattle.desk_rule.proofs.OrderLemmas.{found_front, order_balanced}

module _ {M C R : Type 0} (steps : M → C → R → M → Type 0) where
  pub agree : (owes : R → ℕ) → HistoriesAgree steps owes
  agree owes opening first passes s r i j v w at_i at_j = let f = r.seated i v at_i in let g = r.seated j w at_j in (
    prefixes_agree v.seen w.seen r.history f.seen g.seen,
    legal_front steps opening r.machine v.seen r.history f.seen r.legal,
    legal_front steps opening r.machine w.seen r.history g.seen r.legal,
  )

  order_front : (ns order : List Notice) → IsPrefix ns order → IsOrder order → IsOrder ns
  order_front ns order p found = found_front none_pending ns p.0 (subst IsOrder (sym p.1) found)

  pub notices_agree : (owes : R → ℕ) → NoticesAgree steps owes
  notices_agree owes opening first passes s r i j v w at_i at_j = let f = r.seated i v at_i in let g = r.seated j w at_j in (
    prefixes_agree v.notices w.notices r.order f.notices g.notices,
    order_front v.notices r.order f.notices r.found,
    order_front
        w.notices r.order g.notices r.found,
  )

  pub words_follow : (owes : R → ℕ) → WordsFollow steps owes
  words_follow owes opening first passes s r = (r.found, r.pending)

  pub one_holds : (owes : R → ℕ) → OneSeatHolds steps owes
  one_holds owes opening first passes s r i j v w at_i at_j held_i held_j =
      some-injective i j (sym ((r.seated i v at_i).holds held_i).0 ∙ ((r.seated j w at_j).holds held_j).0)

  pub balances : (owes : R → ℕ) → NoticesBalance steps owes
  balances owes opening first passes s r server bit below =
      r.all_notices (raised_at server bit) ∙ (order_balanced r.order server bit r.found ∙
      (λ i. sym (r.all_notices (taken_at server bit)) i + bit_at (sym (r.pending server below) i) bit))

  pub owed_bits : (owes : R → ℕ) → BitsAreOwed steps owes
  owed_bits owes opening first passes s r server bit below is = pending_owed steps owes opening first passes s r server bit below is

  pub owed_posts : (owes : R → ℕ) → PostsAreOwed steps owes
  owed_posts owes opening first passes s r = r.owed
