-- The one pass of a seat.
use Rattle.std.proofs.Common.{◌≡◌, ℕ, ◌+◌, List, [], ◌∷◌, ◌++◌, length, refl, sym, subst, arith}
use Rattle.history.specs.declared.entry.Entry.{Entry}
use Rattle.desk_rule.specs.declared.notice.Notice.{Notice}
use Rattle.desk_rule.specs.declared.view.PassLog.{PassLog}
use Rattle.history.specs.History.{calls_by}
use Rattle.desk_rule.specs.History.{OwnCalls, total_of, weigh_all}
use Rattle.desk_rule.specs.Notices.{notices_by, OwnNotices, weigh_notices}
use Rattle.desk_rule.specs.Passes.{add_call, add_notice, calls_of, notices_of, number_of}
use Rattle.desk_rule.proofs.ListLemmas.{only_of}
use Rattle.desk_rule.proofs.RuleLemmas.{one_notice_more}

module _ {C R : Type 0} where
  -- its own entries and notices
  pub own_one : (history : List (Entry C R)) (passes : List (PassLog C R)) → length passes ≡ 1 → OwnCalls history passes →
      calls_by (number_of passes) history ≡ calls_of passes
  own_one history passes one own = let p = only_of passes one in
      subst (λ (l : List (PassLog C R)). calls_by (number_of l) history ≡ calls_of l) (sym p.1)
      (subst (λ (l : List (PassLog C R)). OwnCalls history l) p.1 own).0

  pub own_notices_one : (order : List Notice) (passes : List (PassLog C R)) → length passes ≡ 1 → OwnNotices order passes →
      notices_by (number_of passes) order ≡ notices_of passes
  own_notices_one order passes one own = let p = only_of passes one in
      subst (λ (l : List (PassLog C R)). notices_by (number_of l) order ≡ notices_of l) (sym p.1)
      (subst (λ (l : List (PassLog C R)). OwnNotices order l) p.1 own).0

  -- the weight of its calls and its notices
  pub weigh_one : (weigh : Entry C R → ℕ) (l : List (PassLog C R)) → length l ≡ 1 → weigh_all weigh l ≡ total_of weigh (calls_of l)
  weigh_one weigh l one = let p = only_of l one in
      subst (λ (k : List (PassLog C R)). weigh_all weigh k ≡ total_of weigh (calls_of k)) (sym p.1) (omega arith)

  pub weigh_one_notices : (weigh : Notice → ℕ) (l : List (PassLog C R)) → length l ≡ 1 →
      weigh_notices weigh l ≡ total_of weigh (notices_of l)
  weigh_one_notices weigh l one = let p = only_of l one in
      subst (λ (k : List (PassLog C R)). weigh_notices weigh k ≡ total_of weigh (notices_of k)) (sym p.1) (omega arith)

  -- one more call
  pub call_added : (passes : List (PassLog C R)) (e : Entry C R) → length passes ≡ 1
      → (length (add_call passes e) ≡ 1) × (number_of (add_call passes e) ≡ number_of passes) ×
      (calls_of (add_call passes e) ≡ calls_of passes ++ e ∷ []) × (notices_of (add_call passes e) ≡ notices_of passes)
  call_added passes e one = let p = only_of passes one in
      subst (λ (l : List (PassLog C R)). (length (add_call l e) ≡ 1) × (number_of (add_call l e) ≡ number_of l) ×
      (calls_of (add_call l e) ≡ calls_of l ++ e ∷ []) ×
      (notices_of (add_call l e) ≡ notices_of l)) (sym p.1) (refl, refl, refl, refl)

  pub call_number : (passes : List (PassLog C R)) (e : Entry C R) → number_of (add_call passes e) ≡ number_of passes
  call_number [] e = refl
  call_number (p ∷ others) e = refl

  pub call_keeps_notices : (order : List Notice) (passes : List (PassLog C R)) (e : Entry C R) → OwnNotices order passes →
      OwnNotices order (add_call passes e)
  call_keeps_notices order [] e own = own
  call_keeps_notices order (p ∷ others) e own = own

  -- one more notice
  pub notice_added : (passes : List (PassLog C R)) (n : Notice) → length passes ≡ 1
      → (length (add_notice passes n) ≡ 1) × (number_of (add_notice passes n) ≡ number_of passes) ×
      (calls_of (add_notice passes n) ≡ calls_of passes) × (notices_of (add_notice passes n) ≡ notices_of passes ++ n ∷ [])
  notice_added passes n one = let p = only_of passes one in
      subst (λ (l : List (PassLog C R)). (length (add_notice l n) ≡ 1) × (number_of (add_notice l n) ≡ number_of l) ×
      (calls_of (add_notice l n) ≡ calls_of l) ×
      (notices_of (add_notice l n) ≡ notices_of l ++ n ∷ [])) (sym p.1) (refl, refl, refl, refl)

  pub notice_weighs : (passes : List (PassLog C R)) (n : Notice) (weigh : Notice → ℕ) → length passes ≡ 1 →
      weigh_notices weigh (add_notice passes n) ≡ weigh_notices weigh passes + weigh n
  notice_weighs passes n weigh one = one_notice_more passes n weigh (omega arith)
