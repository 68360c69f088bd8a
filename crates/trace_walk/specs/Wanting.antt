-- The sort of line that must follow some lines of a trace.
use Rattle.std.specs.Prelude.{◌≡◌, ℕ, ◌<◌, Bool, true, false, List, [], ◌++◌, length, Option, IfSome}
use Rattle.std.specs.List.{flat_map}
use Rattle.ds_entry.specs.declared.item.Item.{Item}
use Rattle.trace_walk.specs.Text.{merge_text, pass_text, plus_text}
use Rattle.trace_walk.specs.Verdict.{IsLegal, IsWrongAt, WantsReply}
use Rattle.trace_walk.specs.declared.asked.Head.{Head}
use Rattle.trace_walk.specs.declared.fault.WalkFault.{WalkFault}
use Rattle.trace_walk.specs.declared.fault.WalkFault.TheVariants.{BadLineAt}
use Rattle.trace_walk.specs.declared.walk.Walk.{Walk}
use Rattle.trace_walk.specs.declared.wrong_line.Wanted.{Wanted}
use Rattle.trace_walk.specs.declared.wrong_line.Wanted.TheVariants.{Header, Entry, Item as AnItem, Reply}
use Rattle.trace_walk.specs.Steps.{HeadsAt, WalksAt}
use Rattle.trace_walk.specs.Walking.{Spot}

-- Whether the lines are a legal trace, and then the first line of a Merge and fewer items than it has.
pub record IsWithinMerge (front : List ℕ) : Type 0 where
  pub start : List ℕ
  pub count : ℕ
  pub pass : ℕ
  pub most : ℕ
  pub items : List Item
  pub legal : IsLegal start count
  pub less : length items < most
  pub front_is : front ≡ start ++ (pass_text pass (merge_text most) ++ flat_map plus_text items)

-- Whether a line of this sort must follow the lines, with which some legal trace begins.
abbrev pub MustFollow : Wanted → List ℕ → Type 0
MustFollow Header front = front ≡ []
MustFollow Entry front = (count : ℕ) × IsLegal front count
MustFollow AnItem front = IsWithinMerge front
MustFollow Reply front = WantsReply front

-- Whether the line of this number is the first wrong one, and a line of this sort must be there.
abbrev pub IsWantedAt : List ℕ → ℕ → Wanted → Type 0
IsWantedAt bytes number wanted = (front : List ℕ) × IsWrongAt bytes number front × MustFollow wanted front

-- Whether a line of this sort must be in place of a bad line.
abbrev pub IsWanted : List ℕ → Wanted → WalkFault → Type 0
IsWanted bytes wanted (BadLineAt number) = IsWantedAt bytes number wanted
IsWanted bytes wanted _ = Unit {0}

-- Like `IsWanted`, for the reader's bytes, if these are known.
abbrev pub IsWantedOfKnown : Option (List ℕ) → Wanted → WalkFault → Type 0
IsWantedOfKnown from wanted fault = IfSome from (λ bytes. IsWanted bytes wanted fault)

-- The sort of line that a walk reads after the header: an item within a Merge, or the first line of an entry.
abbrev pub wanted_in : Bool → Wanted
wanted_in true = AnItem
wanted_in false = Entry

-- Whether that sort must be in place of the bad line at which the walk ends. `old` is the walk before.
abbrev pub WantsFrom : Walk → Option (List ℕ) → Walk → WalkFault → Type 0
WantsFrom old from new fault = (b : Spot) → WalksAt b old from → IsWanted b.bytes (wanted_in new.in_items) fault

abbrev pub WantsAfterHead : Walk → Option (List ℕ) → Head → Walk → WalkFault → Type 0
WantsAfterHead old from head new fault =
    (b : Spot) (pass : ℕ) → HeadsAt b old from pass head → IsWanted b.bytes (wanted_in new.in_items) fault

-- Whether the fault may come where a reply line must follow: no bad line does.
abbrev pub IsOfReply : WalkFault → Type 0
IsOfReply (BadLineAt number) = ⊥
IsOfReply _ = Unit {0}
