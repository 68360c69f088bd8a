-- A trace of format 1 written in format 2.
use Rattle.std.specs.Prelude.{◌≡◌, ℕ, ◌<◌, ◌≤◌, ◌⊎◌, List, [], ◌∷◌, ◌++◌, length, map}
use Rattle.std.specs.List.{All, flat_map}
use Rattle.ds_entry.specs.declared.item.Item.{Item}
use Rattle.line_io.specs.Lines.{HasLines, joined}
use Rattle.ds_names.specs.Limits.{most_items}
use Rattle.ds_machine.specs.State.{State, held, owed}
use Rattle.ds_machine.specs.declared.reply.Reply.{Reply}
use Rattle.ds_machine.specs.declared.reply.Reply.TheVariants.{Swept, Merged}
use Rattle.ds_machine.specs.declared.command.Command.TheVariants.{Sweep}
use Rattle.script_commands.specs.declared.command.ScriptCommand.TheVariants.{Store}
use Rattle.trace_walk.specs.declared.asked.Asked.{Asked}
use Rattle.trace_walk.specs.declared.asked.Asked.TheVariants.{Line, Merge}
use Rattle.trace_walk.specs.declared.header.Format.TheVariants.{One, Two}
use Rattle.trace_walk.specs.declared.header.Header.{Header}
use Rattle.trace_walk.specs.Legal.{EntryLeads, IsTrace, opened_by}
use Rattle.trace_walk.specs.Sweep.{tombstones}
use Rattle.trace_walk.specs.Text.{TraceEntry, trace_text}
use Rattle.trace_walk.specs.Verdict.{IsLegal}

-- The header in format 2, with the limits of format 1: `64 1024`.
abbrev pub upgraded : Header → Header
upgraded h = record h { format = Two }

-- An entry that merges some tombstones, all of which take effect.
abbrev pub merge_entry : State → ℕ → List Item → TraceEntry
merge_entry s pass part = record { pass = pass; asked = Merge part; reply = Merged (length part) (length part) 0 (owed s part) }

-- Whether the list is one part of a longer one that is split into Merges.
pub record IsPart (part : List Item) : Type 0 where
  pub some : 0 < length part
  pub few : length part ≤ most_items

-- Whether the list has as many items as a Merge can have.
abbrev pub IsFullPart : List Item → Type 0
IsFullPart part = length part ≡ most_items

-- Whether all parts before the last one are full.
abbrev pub AreFilled : List (List Item) → Type 0
AreFilled parts = (front : List (List Item)) (last : List Item) → parts ≡ front ++ last ∷ [] → All IsFullPart front

-- Whether the entries merge the tombstones, in their order, each but the last as many as a Merge can have. The mask of
-- each doesn't depend on the entries before it.
abbrev pub MergeInParts : State → ℕ → List Item → List TraceEntry → Type 0
MergeInParts s pass gone entries =
    (parts : List (List Item)) ×
    All IsPart parts × (flat_map (λ (part : List Item). part) parts ≡ gone) × (entries ≡ map (merge_entry s pass) parts) × AreFilled parts

-- The entries for a sweep: Merges of its tombstones if it is answered with their count, none if it is refused.
abbrev pub SweepBecomes : State → ℕ → List ℕ → ℕ → Reply → List TraceEntry → Type 0
SweepBecomes s pass owner generation (Swept count owed) entries = MergeInParts s pass (tombstones (held s) owner generation) entries
SweepBecomes s pass owner generation _ entries = entries ≡ []

-- The entries for one entry, by its command: itself, unless it is a sweep.
abbrev pub BecomesAs : State → TraceEntry → Asked → List TraceEntry → Type 0
BecomesAs s e (Line (Store (Sweep caller owner generation))) entries = SweepBecomes s e.pass owner generation e.reply entries
BecomesAs s e _ entries = entries ≡ e ∷ []

-- The entries for a list of entries that lead from `old` to `last`.
abbrev pub Become : State → List TraceEntry → State → List TraceEntry → Type 0
Become old [] last new = (last ≡ old) × (new ≡ [])
Become old (e ∷ entries) last new =
    (mid : State) × (first rest : List TraceEntry) ×
    EntryLeads One old e mid × BecomesAs old e e.asked first × Become mid entries last rest × (new ≡ first ++ rest)

-- The upgrade of a legal trace of format 1 is a legal trace of format 2 that leads to the same state.
abbrev pub UpgradedIsLegal : Type 0
UpgradedIsLegal =
    (h : Header) (old new : List TraceEntry) (last : State) (text : List ℕ) →
    h.format ≡ One → IsTrace text h old last → Become (opened_by h) old last new →
    IsTrace (trace_text (upgraded h) new) (upgraded h) new last

-- Whether the output is the text in format 2, with `count` entries: a legal trace that leads to the same state, so to
-- the same accepted items, stamps and shown items.
pub record IsUpgraded (text output : List ℕ) (count : ℕ) : Type 0 where
  pub h : Header
  pub old : List TraceEntry
  pub new : List TraceEntry
  pub last : State
  pub one : h.format ≡ One
  pub from : IsTrace text h old last
  pub become : Become (opened_by h) old last new
  pub to : IsTrace output (upgraded h) new last
  pub counted : length new ≡ count

-- The output when the writer failed: nothing, or a front of what the first lines are in format 2.
abbrev pub IsUpgradedInPart : List ℕ → List ℕ → Type 0
IsUpgradedInPart bytes output =
    (output ≡ [])
    ⊎ ((front rest : List (List ℕ)) × (left : List ℕ) × (count : ℕ) ×
    HasLines bytes (front ++ rest) × IsUpgraded (joined front) (output ++ left) count)

-- The lines in format 2; no lines are nothing.
abbrev pub IsUpgradeOf : List (List ℕ) → List ℕ → Type 0
IsUpgradeOf lines output = ((lines ≡ []) × (output ≡ [])) ⊎ ((count : ℕ) × IsUpgraded (joined lines) output count)

-- The output when reading failed or memory ran out: some first lines in format 2, in whole entries.
abbrev pub IsUpgradedSoFar : List ℕ → List ℕ → Type 0
IsUpgradedSoFar bytes output = (front rest : List (List ℕ)) × HasLines bytes (front ++ rest) × IsUpgradeOf front output

-- The output before a wrong line: all entries before the one with that line. No front of the lines beyond these is a
-- legal trace.
pub record IsUpgradedBefore (bytes output : List ℕ) : Type 0 where
  pub front : List (List ℕ)
  pub rest : List (List ℕ)
  pub lines : HasLines bytes (front ++ rest)
  pub written : IsUpgradeOf front output
  pub last : (more left : List (List ℕ)) (count : ℕ) → rest ≡ more ++ left → IsLegal (joined (front ++ more)) count → more ≡ []
