-- The places of a walk through a trace, and what may follow each.
use Rattle.std.specs.Prelude.{◌≡◌, ℕ, suc, ◌<◌, ◌≤◌, Bool, true, false, List, [], ◌∷◌, ◌++◌, length, Some}
use Rattle.std.specs.List.{All, flat_map}
use Rattle.ds_held.specs.Limits.{LimitsRecord}
use Rattle.line_io.specs.Lines.{IsUnbroken, with_newline, EndsLine}
use Rattle.ds_entry.specs.declared.item.Item.{Item}
use Rattle.ds_names.specs.Limits.{most_items}
use Rattle.ds_machine.specs.State.{State}
use Rattle.ds_machine.specs.declared.command.Command.{Command}
use Rattle.ds_machine.specs.declared.reply.Reply.{Reply}
use Rattle.script_answers.specs.Reply.{reply_lines}
use Rattle.trace_walk.specs.declared.asked.Asked.{Asked}
use Rattle.trace_walk.specs.declared.header.Format.{Format}
use Rattle.trace_walk.specs.declared.header.Header.{Header}
use Rattle.trace_walk.specs.Head.{HasNoHead}
use Rattle.trace_walk.specs.Legal.{StepOf, EntryLeads, AllLead, IsTrace, opened_by}
use Rattle.trace_walk.specs.OneReply.{IsTraced}
use Rattle.trace_walk.specs.Text.{TraceEntry, IsEntry, IsHeader, HasNoHeader, MayAsk, MayMerge, command_asked, worded_as}
use Rattle.trace_walk.specs.Text.{marked, header_text, asked_text, pass_text, merge_text, plus_text, entry_text}
use Rattle.trace_walk.specs.Verdict.{IsLegal, MayBegin, WantsReply, Fails}

-- What may follow a trace that led to the state.
abbrev pub MayComeAfter : Format → LimitsRecord → State → List ℕ → Type 0
MayComeAfter format limits s text =
    (entries : List TraceEntry) × (last : State) ×
    All (IsEntry format) entries × AllLead format s entries last × (text ≡ flat_map (entry_text limits) entries)

-- Whether the walk is after an entry: the text so far is a legal trace that leads to the state, and every legal trace
-- that begins with it continues from there.
pub record IsAfterEntries (front : List ℕ) (h : Header) (s : State) (count : ℕ) : Type 0 where
  pub entries : List TraceEntry
  pub trace : IsTrace front h entries s
  pub counted : length entries ≡ count
  pub traced : IsTraced h.format s
  pub only : (more : List ℕ) (n : ℕ) → IsLegal (front ++ more) n → MayComeAfter h.format h.limits s more

-- After an entry, a line that is too long, or isn't the first line of an entry, is wrong.
abbrev pub BadHeadsAreWrong : Type 0
BadHeadsAreWrong =
    (front line : List ℕ) (rest : List (List ℕ)) (h : Header) (s : State) (count : ℕ) →
    IsAfterEntries front h s count → IsUnbroken line → (length (with_newline line) ≤ 4097 → HasNoHead h.format (with_newline line)) →
    Fails front (line ∷ rest)

-- After an entry, no reply line may follow.
abbrev pub NoReplyAfterEntries : Type 0
NoReplyAfterEntries = (front : List ℕ) (h : Header) (s : State) (count : ℕ) → IsAfterEntries front h s count → ¬ WantsReply front

-- A header leads to the state that it opens.
abbrev pub HeadersBegin : Type 0
HeadersBegin = (h : Header) → IsHeader h → IsAfterEntries (header_text h) h (opened_by h) 0

-- A first line that isn't a header is wrong.
abbrev pub BadHeadersAreWrong : Type 0
BadHeadersAreWrong = (line : List ℕ) (rest : List (List ℕ)) → IsUnbroken line → HasNoHeader (with_newline line) → Fails [] (line ∷ rest)

-- A step of the store with one more entry leads the walk to the place after that entry.
abbrev pub EntriesLead : Type 0
EntriesLead =
    (front : List ℕ) (h : Header) (s t : State) (count : ℕ) (e : TraceEntry) →
    IsAfterEntries front h s count → IsEntry h.format e → EntryLeads h.format s e t →
    IsAfterEntries (front ++ entry_text h.limits e) h t (suc count)

-- ---- within an entry

-- Whether a reply line must follow, or must not.
abbrev pub Wants : Bool → List ℕ → Type 0
Wants true front = WantsReply front
Wants false front = ¬ WantsReply front

-- Whether no legal trace ends after the start, up to the front.
abbrev pub NoneEnds : (start front : List ℕ) → Type 0
NoneEnds start front = (part left : List ℕ) (n : ℕ) → front ≡ (start ++ part) ++ left → IsLegal (start ++ part) n → part ≡ []

-- A place within the entry that begins at the start: some legal trace continues there; none ends there, nor anywhere
-- after the start; a reply line must follow, or must not; and a line that may not follow is wrong.
pub record IsPlaceInEntry (start front : List ℕ) (is_reply : Bool) (May : List ℕ → Type 0) : Type 0 where
  pub begins : MayBegin front
  pub wants : Wants is_reply front
  pub ends : (n : ℕ) → ¬ IsLegal front n
  pub none : NoneEnds start front
  pub wrong : (line : List ℕ) (rest : List (List ℕ)) → IsUnbroken line → ¬ May (with_newline line) → Fails front (line ∷ rest)

-- Whether the line is that of an item that a Merge may have.
abbrev pub IsPlus : Format → List ℕ → Type 0
IsPlus format line = (i : Item) × MayMerge format i × (line ≡ plus_text i)

-- After some of a Merge's items, another item must follow.
abbrev pub PlusPlaces : Type 0
PlusPlaces =
    (front : List ℕ) (h : Header) (s : State) (count pass n : ℕ) (items : List Item) →
    IsAfterEntries front h s count → pass ≤ 63 → n ≤ most_items → length items < n → All (MayMerge h.format) items →
    IsPlaceInEntry front (front ++ (pass_text pass (merge_text n) ++ flat_map plus_text items)) false (IsPlus h.format)

-- Whether some reply to the command begins with the line.
pub record MayReply (format : Format) (limits : LimitsRecord) (s : State) (asked : Asked) (line : List ℕ) : Type 0 where
  pub command : Command
  pub asks : command_asked asked ≡ Some command
  pub reply : Reply
  pub new : State
  pub step : StepOf format s command reply new
  pub first : List ℕ
  pub ends : EndsLine first
  pub rest : List ℕ
  pub text : reply_lines (worded_as asked) reply limits ≡ first ++ rest
  pub line_is : line ≡ 60 ∷ 32 ∷ first

-- A law: a reply's first line must follow an entry's command.
abbrev pub ReplyPlaces : Type 0
ReplyPlaces =
    (front : List ℕ) (h : Header) (s : State) (count pass : ℕ) (asked : Asked) →
    IsAfterEntries front h s count → pass ≤ 63 → MayAsk h.format pass asked →
    IsPlaceInEntry front (front ++ asked_text pass asked) true (MayReply h.format h.limits s asked)

-- After some lines of a reply, its next line must follow, since a reply has one text.
abbrev pub WithinReplies : Type 0
WithinReplies =
    (front : List ℕ) (h : Header) (s t : State) (count : ℕ) (e : TraceEntry) (given next left : List ℕ) →
    IsAfterEntries front h s count → IsEntry h.format e → EntryLeads h.format s e t →
    reply_lines (worded_as e.asked) e.reply h.limits ≡ (given ++ 10 ∷ []) ++ (next ++ left) → EndsLine next →
    IsPlaceInEntry front (front ++ (asked_text e.pass e.asked ++ marked (given ++ 10 ∷ []))) true (λ (line : List ℕ). line ≡ 60 ∷ 32 ∷ next)
