-- What a walk keeps of an entry that it passed, and what that entry is in format 2.
use Rattle.std.specs.Prelude.{◌≡◌, ℕ, List, ◌∷◌, [], ◌++◌, Option}
use Rattle.ds_held.specs.Limits.{LimitsRecord}
use Rattle.ds_machine.specs.State.{State}
use Rattle.ds_machine.specs.declared.refusal.Refusal.TheVariants.{NoRoom}
use Rattle.ds_machine.specs.declared.reply.Reply.TheVariants.{Refused}
use Rattle.trace_walk.specs.declared.asked.Asked.{Asked}
use Rattle.trace_walk.specs.declared.header.Format.{Format}
use Rattle.trace_walk.specs.declared.header.Format.TheVariants.{One}
use Rattle.trace_walk.specs.declared.header.Header.{Header}
use Rattle.script_answers.specs.Reply.{reply_lines}
use Rattle.trace_walk.specs.Legal.{EntryLeads}
use Rattle.trace_walk.specs.Text.{TraceEntry, IsEntry, asked_text, marked, worded_as}
use Rattle.trace_walk.specs.Upgrade.{BecomesAs}
use Rattle.trace_walk.specs.declared.passed.Passed.{Passed}
use Rattle.trace_walk.specs.declared.passed.Passed.TheVariants.{AsItStands, Swept}
use Rattle.trace_walk.specs.declared.walk.Walk.{Walk}
use Rattle.trace_walk.specs.Merging.{AreEntries}
use Rattle.trace_walk.specs.Walking.{Spot, Walks, spot_after}

-- Whether what was passed is the entry in format 2.
abbrev pub BecomesBy : State → LimitsRecord → TraceEntry → Passed → Type 0
BecomesBy s limits e AsItStands = BecomesAs s e e.asked (e ∷ [])
BecomesBy s limits e (Swept merges) = (entries : List TraceEntry) × BecomesAs s e e.asked entries × AreEntries limits merges entries

-- Whether an entry of format 1 that was refused for lack of memory becomes this in format 2.
abbrev pub IsRefusedAs : Format → Asked → Passed → Type 0
IsRefusedAs format asked passed =
    format ≡ One → (s : State) (limits : LimitsRecord) (pass : ℕ) →
    BecomesBy s limits (record { pass = pass; asked = asked; reply = Refused NoRoom }) passed

-- Whether the walk passed one more entry, which is a step of the store. It keeps the lines of the command, and those of
-- the reply without their marks.
pub record HasPassed (b : Spot) (h : Header) (w : Walk) (to : Option (List ℕ)) (passed : Passed) : Type 0 where
  pub entry : TraceEntry
  pub state : State
  pub is : IsEntry h.format entry
  pub leads : EntryLeads h.format b.state entry state
  pub walks : Walks (spot_after b h.limits entry state) w.entry.lines w.store h to
  pub header : w.header ≡ h
  pub asked : w.entry.text.items ≡ asked_text entry.pass entry.asked
  pub reply : w.reply.items ≡ reply_lines (worded_as entry.asked) entry.reply h.limits
  pub becomes : h.format ≡ One → BecomesBy b.state h.limits entry passed

-- What was appended for an entry that a walk passed, and how many entries that is.
abbrev pub IsWrittenAs : Walk → Passed → List ℕ → List ℕ → ℕ → Type 0
IsWrittenAs w AsItStands before after count = (after ≡ before ++ (w.entry.text.items ++ marked w.reply.items)) × (count ≡ 1)
IsWrittenAs w (Swept merges) before after count = (after ≡ before ++ merges.text.items) × (count ≡ merges.count)
