-- The report of a run.
use Rattle.std.specs.Prelude.{◌≡◌, ◌+◌, ◌==◌, Bool, List, length, true, if◌then◌else◌}
use Rattle.std.specs.List.{list_all}
use Rattle.std.specs.Cmp.Lexicographic.{pointwise}
use Rattle.desk.specs.declared.account.Row.{Row}
use Rattle.ds_entry.specs.declared.item.Item.{Item}
use Rattle.ds_entry.specs.Under.{entries_of}
use Rattle.ds_entry.specs.contracts.item.ItemPartialEq.TheImpl.{ghosts as item}
use Rattle.ds_live.specs.declared.report.LiveReport.{LiveReport}
use Rattle.desk_store.specs.Follower.{FollowerRecord, mapped}

-- Whether two lists have the same items in the same order, by `==`.
abbrev pub same_items : List Item → List Item → Bool
same_items = pointwise item.eq

-- Whether the follower's map has exactly these entries.
abbrev pub has_entries : List Item → FollowerRecord → Bool
has_entries entries f = same_items (entries_of (mapped f)) entries

abbrev pub all_have : List Item → List FollowerRecord → Bool
all_have entries followers = list_all (has_entries entries) followers

-- Whether two stores hold the same entries.
abbrev pub have_same : List Item → List Item → Bool
have_same held other = same_items (entries_of held) (entries_of other)

-- Whether the report compares these: what the first store holds, what the second holds, and the subscribers' followers.
pub record IsReport (here there : List Item) (followers : List FollowerRecord) (r : LiveReport) : Type 0 where
  pub entries : r.entries ≡ length (entries_of here)
  pub maps : r.maps ≡ all_have (entries_of here) followers
  pub replicas : r.replicas ≡ have_same there here

-- Whether the raises are the takes, plus one if the bit is pending.
abbrev pub is_exact : Row → Bool
is_exact r = r.raises == r.takes + (if r.pending then 1 else 0)

abbrev pub are_exact : List Row → Bool
are_exact rows = list_all is_exact rows

-- Whether these are the 128 rows of an account, one for each bit of each server, and each is exact.
abbrev pub IsExactAccount : List Row → Type 0
IsExactAccount rows = (length rows ≡ 128) × (are_exact rows ≡ true)
