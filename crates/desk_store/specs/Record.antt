-- Passes by plain values: the identity of a pass, what it has seen, and what it called.
use Rattle.std.specs.Prelude.{◌≡◌, ℕ, ◌+◌, List, [], ◌∷◌, length, map, Option, Some}
use Rattle.std.specs.List.{flat_map}
use Rattle.std.specs.Option.{option_map}
use Rattle.std.specs.declared.boxed.Box.{Box}
use Rattle.history.specs.declared.entry.Entry.{Entry}
use Rattle.history.specs.History.{calls_by, IsLegalFrom, Run}
use Rattle.desk_rule.specs.declared.view.View.{View}
use Rattle.desk.specs.declared.pass.Sight.{Ghosts}
use Rattle.atomic_table.specs.Seated.{TableId}
use Rattle.desk.specs.Pass.{calls, desk_of, first_place, history, notes_learnt, notes_made, number, opening, Pass}
use Rattle.ds_machine.specs.State.{State}
use Rattle.ds_machine.specs.declared.command.Command.{Command}
use Rattle.ds_machine.specs.declared.reply.Reply.{Reply}
use Rattle.ds_content.specs.Content.{ContentRecord}
use Rattle.ds_content.specs.Stands.{ContentStands}
use Rattle.ds_store.specs.Turns.{Answered}

-- A store on the heap.
abbrev pub Boxed : Type 0 → Type 0
Boxed Z = Box ContentRecord Z

-- Whether the content is the one of a store on the heap.
abbrev pub is_content : {Z : Type 0} → Boxed Z → ContentRecord → Type 0
is_content m content = m.value ≡ content

-- What no call changes of a pass: its desk, its number, the place of the desk's first call, and the notes that it made and learnt.
pub record PassOrigin : Type 0 where
  pub desk : TableId
  pub number : ℕ
  pub first : ℕ
  pub made : ℕ
  pub learnt : ℕ

abbrev pub pass_origin : {Z : Type 0} {G : Ghosts (View (Boxed Z) Command Reply)} → Pass (Boxed Z) Command Reply G → PassOrigin
pass_origin p = record {
  desk = desk_of p;
  number = number p;
  first = first_place p;
  made = notes_made p;
  learnt = notes_learnt p;
}

-- A pass by plain values. At a desk of more than a store, the history and the calls are the store's part of them.
pub record PassRecord : Type 0 where
  pub origin : PassOrigin
  -- the content of the desk's store when the desk was opened
  pub opened : Option ContentRecord
  -- the history that the pass has seen, and the calls that it made
  pub history : List (Entry Command Reply)
  pub calls : List (Entry Command Reply)
  -- for each turn of the desk that the pass has seen, the store's part of it: one entry at a store's desk
  pub turns : List (List (Entry Command Reply))

-- The content of a store on the heap.
abbrev pub boxed_content : {Z : Type 0} → Boxed Z → ContentRecord
boxed_content m = m.value

-- The history of a store's desk by its turns. Each has one entry.
abbrev pub turn_by_turn : List (Entry Command Reply) → List (List (Entry Command Reply))
turn_by_turn es = map (λ (e : Entry Command Reply). e ∷ []) es

abbrev pub pass_record : {Z : Type 0} {G : Ghosts (View (Boxed Z) Command Reply)} → Pass (Boxed Z) Command Reply G → PassRecord
pass_record p = record {
  origin = pass_origin p;
  opened = option_map boxed_content (opening p);
  history = history p;
  calls = calls p;
  turns = turn_by_turn (history p);
}

-- The first place after the history that the pass has seen. Each turn has a place.
abbrev pub place_after : PassRecord → ℕ
place_after p = p.origin.first + length p.turns

-- Whether the pass's history is that of its turns, in order.
abbrev pub IsInTurns : PassRecord → Type 0
IsInTurns p = flat_map (λ (es : List (Entry Command Reply)). es) p.turns ≡ p.history

-- Whether the property holds in each state to which these entries lead, from a state that the desk's store stood for when the desk was
-- opened.
abbrev pub AfterEach : PassRecord → List (Entry Command Reply) → (State → Type 0) → Type 0
AfterEach p es holds =
    (content : ContentRecord) → p.opened ≡ Some content → (s t : State) → ContentStands content s → Run Answered s es t → holds t

-- Whether the pass's entries in the history that it has seen are exactly its calls.
abbrev pub HasJustItsCalls : PassRecord → Type 0
HasJustItsCalls p = calls_by p.origin.number p.history ≡ p.calls

-- Whether the pass has seen a legal history from each state that the desk's store stood for, and there is such a state.
pub record HasLegalHistory (p : PassRecord) : Type 0 where
  pub content : ContentRecord
  pub opened_with : p.opened ≡ Some content
  pub begun : State
  pub stood : ContentStands content begun
  pub legal : IsLegalFrom ContentStands Answered content p.history
  pub own : HasJustItsCalls p
  pub in_turns : IsInTurns p
