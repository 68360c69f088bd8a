-- What the calls on the handle of a store return, and what they leave in it.
use Rattle.std.specs.Prelude.{◌≡◌, ℕ, List, drop, Option, None, Some, is_some}
use Rattle.ds_held.specs.Limits.{larger}
use Rattle.ds_machine.specs.State.{opening}
use Rattle.ds_machine.specs.declared.refusal.Refusal.{Refusal}
use Rattle.ds_content.specs.Stands.{ContentStands}
use Rattle.ds_store.specs.Opening.{IsOpenRefusal}
use Rattle.c_values.specs.declared.request.Request.{Request}
use Rattle.c_values.specs.declared.answer.Answer.{Answer}
use Rattle.c_values.specs.declared.giving.Given.{Given}
use Rattle.c_values.specs.Answer.{refusal_number}
use Rattle.c_values.specs.Pieces.{GivesPieces}
use Rattle.c_store.specs.declared.last.Last.TheVariants.{Nothing}
use Rattle.c_store.specs.Text.{GivesText}
use Rattle.c_rs.specs.Requests.{CallsRs, answer_pieces}
use Rattle.c_rs.specs.Running.{RunsCalls}
use Rattle.c_rs.specs.Text.{text_in}
use Rattle.c_keeper.specs.declared.session.KeeperSession.{KeeperSession}
use Rattle.c_keeper.specs.Barred.{CallsKeptLine}

-- The numbers that calls return, besides those of other refusals.
abbrev pub done : ℕ
done = 0

abbrev pub is_closed : ℕ
is_closed = 23

abbrev pub is_open : ℕ
is_open = 24

-- Whether the word is the number of a refusal for which no store is opened with these numbers.
pub record IsOpenWord (first ring word : ℕ) : Type 0 where
  pub refusal : Refusal
  pub why : IsOpenRefusal refusal first ring
  pub word_is : word ≡ refusal_number refusal

-- Whether a session is opened, whose store is in the machine's opening state, without RS and keepers; or none, for the first cause that
-- applies.
abbrev pub Opened : ℕ → ℕ → ℕ → ℕ → Option KeeperSession → Type 0
Opened incarnation first ring word None = IsOpenWord first ring word
Opened incarnation first ring word (Some s) =
    (word ≡ done) × ContentStands s.rs.session.node.store (opening incarnation first ring larger) × (s.rs.session.node.services ≡ None) ×
    ((s.rs.session.last ≡ Nothing) × (s.rs.told ≡ None)) × (s.processes ≡ None)

-- The effect of a call that opens. An open handle is unchanged.
abbrev pub Opens : ℕ → ℕ → ℕ → Option KeeperSession → ℕ → Option KeeperSession → Type 0
Opens incarnation first ring None word new = Opened incarnation first ring word new
Opens incarnation first ring (Some old) word new = (word ≡ is_open) × (new ≡ Some old)

-- Whether the session of an open handle carries out a request.
abbrev pub AskedOf : KeeperSession → Request → List ℕ → ℕ → Answer → Option KeeperSession → Type 0
AskedOf old r texts word answer None = ⊥
AskedOf old r texts word answer (Some new) = (word ≡ done) × CallsRs texts old.rs r answer new.rs × (new.processes ≡ old.processes)

-- The effect of a call with a request. If the handle is closed, it and the answer's place are unchanged.
abbrev pub Calls : Option KeeperSession → Request → List ℕ → Answer → ℕ → Answer → Option KeeperSession → Type 0
Calls None r texts before word answer new = (word ≡ is_closed) × (answer ≡ before) × (new ≡ None)
Calls (Some old) r texts before word answer new = AskedOf old r texts word answer new

-- The effect of a call that copies the text of the last answer. If the handle is closed, nothing is copied.
abbrev pub Fetches : Option KeeperSession → ℕ → List ℕ → Given → ℕ → List ℕ → Given → Type 0
Fetches None first old before word room given = (word ≡ is_closed) × (room ≡ old) × (given ≡ before)
Fetches (Some s) first old before word room given = (word ≡ done) × GivesPieces (drop first (answer_pieces s.rs)) old given room

-- Whether the session of an open handle carries out requests in order.
abbrev pub RanOf : KeeperSession → List Request → List ℕ → List Answer → ℕ → List Answer → ℕ → Option KeeperSession → Type 0
RanOf old rs texts place word answers count None = ⊥
RanOf old rs texts place word answers count (Some new) =
    (word ≡ done) × RunsCalls old.rs rs texts place count answers new.rs × (new.processes ≡ old.processes)

-- The effect of a call with requests, which counts them. If the handle is closed, it and the places are unchanged.
abbrev pub RunsInTurn : Option KeeperSession → List Request → List ℕ → List Answer → ℕ → ℕ → List Answer → ℕ → Option KeeperSession → Type 0
RunsInTurn None rs texts place before word answers count new = (word ≡ is_closed) × (answers ≡ place) × (count ≡ before) × (new ≡ None)
RunsInTurn (Some old) rs texts place before word answers count new = RanOf old rs texts place word answers count new

-- Whether the session of an open handle carries out a line.
abbrev pub AskedByLine : KeeperSession → List ℕ → ℕ → Answer → Option KeeperSession → Type 0
AskedByLine old line word answer None = ⊥
AskedByLine old line word answer (Some new) =
    (word ≡ done) × CallsKeptLine (is_some old.processes) line old.rs answer new.rs × (new.processes ≡ old.processes)

-- The effect of a call with a line. If the handle is closed, it and the answer's place are unchanged.
abbrev pub CallsByLine : Option KeeperSession → List ℕ → Answer → ℕ → Answer → Option KeeperSession → Type 0
CallsByLine None line before word answer new = (word ≡ is_closed) × (answer ≡ before) × (new ≡ None)
CallsByLine (Some old) line before word answer new = AskedByLine old line word answer new

-- The effect of a call that copies the text of the last answer as a script prints it.
abbrev pub FetchesText : Option KeeperSession → ℕ → List ℕ → Given → ℕ → List ℕ → Given → Type 0
FetchesText None first old before word room given = (word ≡ is_closed) × (room ≡ old) × (given ≡ before)
FetchesText (Some s) first old before word room given = (word ≡ done) × GivesText (text_in s.rs) first old given room

-- The effect of a call that closes a handle, of a store or of a map.
module _ {T : Type 0} where
  abbrev pub Closes : Option T → ℕ → Option T → Type 0
  Closes None word new = (word ≡ is_closed) × (new ≡ None)
  Closes (Some old) word new = (word ≡ done) × (new ≡ None)
