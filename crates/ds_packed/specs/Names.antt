-- The places of a change's names, among the bytes of all names.
use Rattle.std.specs.Prelude.{◌≡◌, ℕ, ◌+◌, max, List, ◌++◌, length, take, drop}
use Rattle.ds_entry.specs.Change.{ChangeRecord}
use Rattle.ds_packed.specs.declared.names.Names.{Names}

-- The key's name, and the owner's.
abbrev pub key_name_in : List ℕ → Names → List ℕ
key_name_in bytes n = take n.name bytes

abbrev pub owner_in : List ℕ → Names → List ℕ
owner_in bytes n = take n.owner (drop n.owner_from bytes)

-- The number of bytes that the two names take.
abbrev pub names_length : Names → ℕ
names_length n = max n.name (n.owner_from + n.owner)

-- Whether the names of the change are appended to the bytes, at `place`.
pub record AddsNames (change : ChangeRecord) (place : Names) (old new : List ℕ) : Type 0 where
  pub names : List ℕ
  pub added : new ≡ old ++ names
  pub length_is : length names ≡ names_length place
  pub name_is : key_name_in names place ≡ change.key.name
  pub owner_is : owner_in names place ≡ change.owner
