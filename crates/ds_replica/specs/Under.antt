-- Scopes that include a query.
use Rattle.std.specs.Prelude.{◌≡◌, Bool, true}
use Rattle.ds_names.specs.declared.key.Key.{Key}

-- Whether each key of the query is under the scope.
abbrev pub KeepsQuery : (Key → Bool) → (Key → Bool) → Type 0
KeepsQuery scope query = (key : Key) → query key ≡ true → scope key ≡ true
