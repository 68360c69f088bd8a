-- Passes that have seen more.
use Rattle.std.specs.Prelude.{◌≡◌, ℕ, List}
use mathlib.Core.List.{IsPrefix}
use Rattle.history.specs.declared.entry.Entry.{Entry}
use Rattle.desk_rule.specs.declared.view.View.{View}
use Rattle.desk.specs.declared.pass.Sight.{Ghosts}
use Rattle.desk.specs.Pass.{Pass}
use Rattle.desk.specs.Calls.{Calls, KnowsAsMuch, Sees}
use Rattle.ds_machine.specs.declared.command.Command.{Command}
use Rattle.ds_machine.specs.declared.reply.Reply.{Reply}
use Rattle.ds_store.specs.Turns.{Turn}
use Rattle.desk_store.specs.Called.{Made}
use Rattle.desk_store.specs.Record.{Boxed, PassRecord, is_content, pass_record}

-- Whether the history that q has seen begins with the one that p has seen, and both desks were opened with the same content.
pub record HasSeenMore (p q : PassRecord) : Type 0 where
  pub same_opening : q.opened ≡ p.opened
  pub begins : IsPrefix p.history q.history

-- A law: having seen more is transitive.
abbrev pub SeenMoreAgain : Type 0
SeenMoreAgain = (p q r : PassRecord) → HasSeenMore p q → HasSeenMore q r → HasSeenMore p r

-- A law: a pass that made calls has seen more.
abbrev pub MadeSeesMore : Type 0
MadeSeesMore = (p q : PassRecord) (own : List (Entry Command Reply)) → Made p q own → HasSeenMore p q

module _ {Z : Type 0} {G : Ghosts (View (Boxed Z) Command Reply)} where
  -- A law: after a take, a look or a learnt note, a pass has seen more.
  abbrev pub SeesMoreByLooks : Pass (Boxed Z) Command Reply G → Type 0
  SeesMoreByLooks p = (q : Pass (Boxed Z) Command Reply G) → Sees is_content Turn p q → HasSeenMore (pass_record p) (pass_record q)

  -- A law: after a call, a pass has seen more.
  abbrev pub SeesMoreByCalls : Pass (Boxed Z) Command Reply G → Type 0
  SeesMoreByCalls p =
      (q : Pass (Boxed Z) Command Reply G) (command : Command) (reply : Reply) (place : ℕ) → Calls is_content Turn p q command reply place →
      HasSeenMore (pass_record p) (pass_record q)

  -- A law: after it makes a note, a pass has seen more.
  abbrev pub SeesMoreByNotes : Pass (Boxed Z) Command Reply G → Type 0
  SeesMoreByNotes p = (q : Pass (Boxed Z) Command Reply G) → KnowsAsMuch p q → HasSeenMore (pass_record p) (pass_record q)
