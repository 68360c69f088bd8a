-- The result of appending that may end early.
use Rattle.std.specs.Prelude.{◌≡◌, ℕ, List, ◌++◌}

-- The bytes after are an extension of those before.
abbrev pub AppendsSome : (before after : List ℕ) → Type 0
AppendsSome before after = (part : List ℕ) × (after ≡ before ++ part)
