-- The entries of each pass in a history.
use Rattle.std.specs.Prelude.{◌≡◌, ◌⊎◌, ℕ, ◌+◌, List, [], ◌∷◌}
use Rattle.std.specs.List.{AllByRecursion}
use mathlib.Core.List.{IsPrefix}
use Rattle.history.specs.declared.entry.Entry.{Entry}
use Rattle.history.specs.History.{calls_by}
use Rattle.desk_rule.specs.declared.view.PassLog.{PassLog}

-- The sum of f over a list.
abbrev pub total_of : {A : Type 0} → (A → ℕ) → List A → ℕ
total_of f [] = 0
total_of f (x ∷ xs) = f x + total_of f xs

-- Whether one of two lists is a prefix of the other.
abbrev pub OneBegins : {A : Type 0} → List A → List A → Type 0
OneBegins xs ys = IsPrefix xs ys ⊎ IsPrefix ys xs

module _ {C R : Type 0} where
  -- The sum of f over the calls of these passes.
  abbrev pub weigh_all : (Entry C R → ℕ) → List (PassLog C R) → ℕ
  weigh_all weigh passes = total_of (λ (p : PassLog C R). total_of weigh p.calls) passes

  abbrev pub count_calls : List (PassLog C R) → ℕ
  count_calls passes = weigh_all (λ _. 1) passes

  -- Whether the calls of each pass are exactly its entries in the history.
  abbrev pub OwnCalls : List (Entry C R) → List (PassLog C R) → Type 0
  OwnCalls history passes = AllByRecursion (λ (p : PassLog C R). calls_by p.pass history ≡ p.calls) passes
