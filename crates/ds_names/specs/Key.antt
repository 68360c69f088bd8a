-- The order of keys: by name bytes, then by kind.
use Rattle.std.specs.Prelude.{ℕ, List}
use Rattle.std.specs.declared.cmp.Ordering.{Ordering}
use Rattle.std.specs.Ordering.{nat_cmp, ordering_then}
use Rattle.std.specs.Cmp.Lexicographic.{slice_cmp}
use Rattle.ds_names.specs.Kind.{kind_place}
use Rattle.ds_names.specs.declared.key.Key.{Key}
use Rattle.ds_names.specs.declared.kind.Kind.TheVariants.{Label}

-- The order of names: byte by byte. A prefix comes before the longer name.
abbrev pub name_cmp : List ℕ → List ℕ → Ordering
name_cmp = slice_cmp nat_cmp

-- The order of keys: by name, then by kind.
abbrev pub key_cmp : Key → Key → Ordering
key_cmp a b = ordering_then (name_cmp a.name b.name) (nat_cmp (kind_place a.kind) (kind_place b.kind))

-- The key of the label under a name.
abbrev pub label_key : List ℕ → Key
label_key name = record { name = name; kind = Label }
