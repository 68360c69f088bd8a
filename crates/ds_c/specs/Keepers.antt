-- What the calls on the processes of RS's services return, and what they leave in the handle.
use Rattle.std.specs.Prelude.{◌≡◌, ℕ, Option, None, Some}
use Rattle.c_values.specs.declared.answer.Answer.{Answer}
use Rattle.c_rs.specs.declared.event.RsEvent.{RsEvent}
use Rattle.c_keeper.specs.declared.session.KeeperSession.{KeeperSession}
use Rattle.c_keeper.specs.declared.task.KeeperTask.{KeeperTask}
use Rattle.c_keeper.specs.Keeping.{KeepsEvent, KeepsReport, Vouches}
use Rattle.c_keeper.specs.Noting.{Notes, NotesWritten}
use Rattle.c_keeper.specs.Opening.{OpensKeepers}
use Rattle.c_keeper.specs.Reading.{ReadsTask, ReadsToWrite, due_of}
use Rattle.ds_c.specs.Calls.{is_closed}
use Rattle.ds_c.specs.Services.{ReadsOf, ReadsPart}

-- Whether a call on the session of an open handle does so.
abbrev pub KeptIn : (KeeperSession → KeeperSession → Type 0) → KeeperSession → Option KeeperSession → Type 0
KeptIn does old None = ⊥
KeptIn does old (Some new) = does old new

-- The effect of a call without an answer. If the handle is closed, it stays so.
abbrev pub KeepsIn : (KeeperSession → ℕ → KeeperSession → Type 0) → Option KeeperSession → ℕ → Option KeeperSession → Type 0
KeepsIn does None word new = (word ≡ is_closed) × (new ≡ None)
KeepsIn does (Some old) word new = KeptIn (λ s t. does s word t) old new

-- The effect of a call with an answer. If the handle is closed, it and the answer's place are unchanged.
abbrev pub KeepsAnswering : (KeeperSession → Answer → ℕ → Answer → KeeperSession → Type 0) → Option KeeperSession → Answer → ℕ → Answer →
    Option KeeperSession → Type 0
KeepsAnswering does None before word answer new = (word ≡ is_closed) × (answer ≡ before) × (new ≡ None)
KeepsAnswering does (Some old) before word answer new = KeptIn (λ s t. does s before word answer t) old new

-- ---- the calls

abbrev pub OpensKeepersAt : Option KeeperSession → ℕ → Option KeeperSession → Type 0
OpensKeepersAt old word new =
    KeepsIn (λ s w t. (t.rs ≡ s.rs) × OpensKeepers s.rs.session.node.services s.processes w t.processes) old word new

abbrev pub KeepsEventAt : Option KeeperSession → RsEvent → ℕ → Answer → ℕ → Answer → Option KeeperSession → Type 0
KeepsEventAt old event deadline before word answer new =
    KeepsAnswering (λ s b w a t. KeepsEvent event deadline s b w a t) old before word answer new

abbrev pub ReportsAt : Option KeeperSession → ℕ → ℕ → ℕ → ℕ → Answer → ℕ → Answer → Option KeeperSession → Type 0
ReportsAt old k cause tick now before word answer new =
    KeepsAnswering (λ s b w a t. KeepsReport k cause tick now s b w a t) old before word answer new

abbrev pub VouchesIn : Option KeeperSession → ℕ → ℕ → ℕ → Option KeeperSession → Type 0
VouchesIn old k tick word new = KeepsIn (λ s w t. Vouches k tick s w t) old word new

abbrev pub NotesAt : Option KeeperSession → ℕ → ℕ → ℕ → ℕ → Option KeeperSession → Type 0
NotesAt old k kind value word new = KeepsIn (λ s w t. (t.rs ≡ s.rs) × Notes k kind value s.processes w t.processes) old word new

abbrev pub NotesWrittenAt : Option KeeperSession → ℕ → ℕ → Option KeeperSession → Type 0
NotesWrittenAt old file word new = KeepsIn (λ s w t. (t.rs ≡ s.rs) × NotesWritten file s.processes w t.processes) old word new

-- ---- what is read

abbrev pub ReadsTaskAt : Option KeeperSession → ℕ → KeeperTask → ℕ → KeeperTask → Type 0
ReadsTaskAt None now before word task = (word ≡ is_closed) × (task ≡ before)
ReadsTaskAt (Some s) now before word task =
    (part : Option KeeperTask) × ReadsTask s.processes s.rs.session.node.services now part × ReadsPart part before word task

abbrev pub ReadsDueAt : Option KeeperSession → ℕ → ℕ → ℕ → ℕ → Type 0
ReadsDueAt held now before word at = ReadsOf (λ s. due_of s.processes now) held before word at

abbrev pub ReadsToWriteAt : Option KeeperSession → ℕ → ℕ → ℕ → Type 0
ReadsToWriteAt None before word generation = (word ≡ is_closed) × (generation ≡ before)
ReadsToWriteAt (Some s) before word generation =
    (part : Option ℕ) × ReadsToWrite s.processes part × ReadsPart part before word generation
