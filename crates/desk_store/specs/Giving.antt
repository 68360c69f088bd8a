-- The Merges of an exchange.
use Rattle.std.specs.Prelude.{◌≡◌, ◌⊎◌, ℕ, ◌<◌, ◌≤◌, List, [], ◌∷◌, length}
use Rattle.std.specs.List.{AllByRecursion, flat_map, sum_by}
use mathlib.Core.List.{IsPrefix}
use Rattle.history.specs.declared.entry.Entry.{Entry}
use Rattle.ds_names.specs.Limits.{most_items}
use Rattle.ds_entry.specs.declared.item.Item.{Item}
use Rattle.ds_machine.specs.declared.command.Command.{Command}
use Rattle.ds_machine.specs.declared.command.Command.TheVariants.{Merge}
use Rattle.ds_machine.specs.declared.reply.Reply.{Reply}
use Rattle.ds_machine.specs.declared.reply.Reply.TheVariants.{Merged}
use Rattle.desk_store.specs.Merged.{HoldsAll}
use Rattle.desk_store.specs.Called.{Made}
use Rattle.desk_store.specs.Record.{AfterEach, HasLegalHistory, PassRecord}
use Rattle.desk_store.specs.Seat.{IsSameSeat, SeatRecord}

-- The items of a Merge.
abbrev pub items_merged : Command → List Item
items_merged (Merge items) = items
items_merged _ = []

abbrev pub all_given : List (Entry Command Reply) → List Item
all_given own = flat_map (λ (e : Entry Command Reply). items_merged e.command) own

-- How many of a Merge's items took effect.
abbrev pub taken_told : Reply → ℕ
taken_told (Merged done taken stale owed) = taken
taken_told _ = 0

abbrev pub taken_in_all : List (Entry Command Reply) → ℕ
taken_in_all own = sum_by (λ (e : Entry Command Reply). taken_told e.reply) own

-- Whether the call is a Merge of 1 to 256 items.
pub record GivesSome (e : Entry Command Reply) : Type 0 where
  pub part : List Item
  pub command : e.command ≡ Merge part
  pub some : 0 < length part
  pub few : length part ≤ most_items

-- Whether the Merge did all of its items.
pub record DidAll (e : Entry Command Reply) : Type 0 where
  pub done : ℕ
  pub taken : ℕ
  pub stale : ℕ
  pub owed : ℕ
  pub reply : e.reply ≡ Merged done taken stale owed

abbrev pub IsWholeMerge : Entry Command Reply → Type 0
IsWholeMerge e = GivesSome e × DidAll e

-- Whether these calls are Merges, each of which but the last did all of its items.
abbrev pub AreMerges : List (Entry Command Reply) → Type 0
AreMerges [] = Unit {0}
AreMerges (e ∷ es) = GivesSome e × ((es ≡ []) ⊎ (DidAll e × AreMerges es))

-- Whether the pass only made Merges, of the first of these items in order.
pub record GivesOnly (r s : PassRecord) (items : List Item) : Type 0 where
  pub own : List (Entry Command Reply)
  pub made : Made r s own
  pub merges : AreMerges own
  pub in_order : IsPrefix (all_given own) items

-- Like `GivesOnly`, for a seat.
abbrev pub SeatGivesOnly : SeatRecord → SeatRecord → List Item → Type 0
SeatGivesOnly s t items = IsSameSeat s t × GivesOnly s.pass t.pass items

-- Whether all of the items were merged, and `taken` of them took effect. The store holds each of them, or an item that covers it. If there
-- were none, the pass is unchanged.
pub record GivesAll (r s : PassRecord) (items : List Item) (taken : ℕ) : Type 0 where
  pub own : List (Entry Command Reply)
  pub made : Made r s own
  pub legal : (s ≡ r) ⊎ HasLegalHistory s
  pub merges : AllByRecursion IsWholeMerge own
  pub items_are : all_given own ≡ items
  pub taken_is : taken ≡ taken_in_all own
  pub within : taken ≤ length items
  pub held : AfterEach s s.history (λ t. HoldsAll t items)
