-- What the passes at one seat did.
use Rattle.std.specs.Prelude.{◌≢◌, ℕ, zero, suc, List, [], ◌∷◌, ◌++◌}
use Rattle.std.specs.List.{AllByRecursion}
use Rattle.history.specs.declared.entry.Entry.{Entry}
use Rattle.desk_rule.specs.declared.notice.Notice.{Notice}
use Rattle.desk_rule.specs.declared.view.PassLog.{PassLog}

module _ {C R : Type 0} where
  abbrev pub pass_log : ℕ → List (Entry C R) → List Notice → PassLog C R
  pass_log n calls notices = record { pass = n; calls = calls; notices = notices }

  -- The records of n passes that have done nothing, numbered from n - 1 down to 0.
  abbrev pub fresh : ℕ → List (PassLog C R)
  fresh zero = []
  fresh (suc n) = pass_log n [] [] ∷ fresh n

  -- The number of the first pass.
  abbrev pub number_of : List (PassLog C R) → ℕ
  number_of [] = 0
  number_of (p ∷ others) = p.pass

  abbrev pub calls_of : List (PassLog C R) → List (Entry C R)
  calls_of [] = []
  calls_of (p ∷ others) = p.calls

  abbrev pub notices_of : List (PassLog C R) → List Notice
  notices_of [] = []
  notices_of (p ∷ others) = p.notices

  -- Whether no two passes have the same number.
  abbrev pub AreDifferent : List (PassLog C R) → Type 0
  AreDifferent [] = Unit {0}
  AreDifferent (p ∷ others) = AllByRecursion (λ (q : PassLog C R). q.pass ≢ p.pass) others × AreDifferent others

  -- The records with one more call of the first pass.
  abbrev pub add_call : List (PassLog C R) → Entry C R → List (PassLog C R)
  add_call [] e = []
  add_call (p ∷ others) e = pass_log p.pass (p.calls ++ e ∷ []) p.notices ∷ others

  abbrev pub add_notice : List (PassLog C R) → Notice → List (PassLog C R)
  add_notice [] n = []
  add_notice (p ∷ others) n = pass_log p.pass p.calls (p.notices ++ n ∷ []) ∷ others
