-- Changes that don't contradict each other.
use Rattle.std.specs.Prelude.{◌≡◌, List, Contains}
use Rattle.ds_entry.specs.Change.{ChangeRecord}

-- Whether two changes with the same key and version are equal, and two changes with the same key have the same owner.
pub record IsSingleNumbered (changes : List ChangeRecord) : Type 0 where
  pub one_change : (c d : ChangeRecord) → Contains changes c → Contains changes d → c.key ≡ d.key → c.version ≡ d.version → c ≡ d
  pub one_owner : (c d : ChangeRecord) → Contains changes c → Contains changes d → c.key ≡ d.key → c.owner ≡ d.owner
